use Rattle.std.proofs.Common.{◌≡◌, ◌+◌, ◌-◌, arith, length, ap, ◌∙◌}
use Rattle.po_lower_names.specs.Indexed.{last_of}
use Rattle.po_lower_names.proofs.Index.{last_read}
use Rattle.po_lower_names.proofs.entries.last_of.Goals as goal

pub returns : goal.returns
returns c =
    let size : length c.as_slice.result.now ≡ (c.len-count.result - 1) + 1 = omega (arith, ap length c.as_slice.ensures, c.len-count.ensures, c.if-count-eq0.false) in
    last_read c.as_slice.result.now (c.len-count.result - 1) _ size ∙ ap last_of c.as_slice.ensures
