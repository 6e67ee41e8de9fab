use Rattle.std.proofs.Common.{◌≤◌, ◌-◌, ◌+◌, take, drop, ap, ◌∙◌, sym}
use Rattle.std.specs.Arc.{arc_slice_items}
use Rattle.po_base.proofs.Parts.{take-part, within_part}
use Rattle.po_base.proofs.text.Text.part.Goals as goal

pub returns : goal.returns
returns c =
    let within : c.args.to ≤ c.self.inside.to - c.self.inside.from = within_part c.args.self.now (drop c.self.inside.from (arc_slice_items c.self.inside.whole)) (c.self.inside.to - c.self.inside.from) c.args.to (sym c.self.view_is) c.requires.within in
    ap (λ xs. take ((c.self.inside.from + c.args.to) - (c.self.inside.from + c.args.from)) (drop (c.self.inside.from + c.args.from) xs)) c.in_ok-whole.ensures.cases
    ∙ take-part (arc_slice_items c.self.inside.whole) c.self.inside.from c.args.from c.args.to (c.self.inside.to - c.self.inside.from) c.requires.ascending within
    ∙ ap (λ xs. take (c.args.to - c.args.from) (drop c.args.from xs)) c.self.view_is
