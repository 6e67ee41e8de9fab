use Rattle.po_fun_heads.specs.Marks.{known}
use Rattle.po_fun_heads.proofs.Marking.{is_new}
use Rattle.po_fun_heads.proofs.marks.place_of.Goals as goal

pub returns-in-Some : goal.returns-in-Some
returns-in-Some c = let h = rw c.as_slice.ensures at c.in-Some.ensures in known c.in-Some.place h.0 h.1

pub returns : goal.returns
returns c = is_new (rw c.as_slice.ensures at c.in_default.ensures) c.len-place.ensures c.in_ok-push.ensures.ok
