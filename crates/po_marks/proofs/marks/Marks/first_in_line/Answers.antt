use Rattle.std.proofs.Common.{◌∙◌, arith, sym, ap}
use Rattle.po_marks.specs.Waiting.{Marking}
use Rattle.po_marks.proofs.InLine.{first_of, some_there}
use Rattle.po_marks.proofs.marks.Marks.first_in_line.Goals as goal

pub returns : goal.returns
returns g c =
    let first = first_of c.self.inside.line.items c.index.result.now (some_there _ _ c.self.inside.line.ok.0 (sym c.is_empty.ensures ∙ c.if-is_empty.false)) c.index.ensures in
    (first.0, sym (ap (λ (z : Marking _ _). z.line) c.self.view_is) ∙ first.1)
