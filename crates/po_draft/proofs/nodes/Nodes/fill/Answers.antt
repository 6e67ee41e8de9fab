use Rattle.std.proofs.Common.{arith, ◌-◌, subst, sym, length, ◌<◌}
use Rattle.std.specs.Prelude.{Contains}
use Rattle.po_draft.specs.Sketches.{first_label, IsFilled}
use Rattle.po_draft.specs.Waiting.{IsRising}
use Rattle.po_draft.proofs.Waits.{read_kept, waiting_filled, filled_all, filled_none}
use Rattle.po_draft.proofs.nodes.Nodes.fill.Goals as goal

pub fill_waiting-requires-clause-all : goal.fill_waiting-requires-clause-all
fill_waiting-requires-clause-all c =
    let within : c.args.label.0 - first_label < length c.self.inside.waiting.items = omega (arith, c.if-k-len.true, c.len.ensures) in
    let read = read_kept _ (c.args.label.0 - first_label) _ within c.index_mut.ensures.value in
    λ i m e w. subst (λ xs. Contains xs i) (sym read) (c.self.invariant.each i m e (c.args.label.0 - first_label) c.args.label.0 (omega (arith, c.requires.label)) w)

pub fill_waiting-requires-clause-rising : goal.fill_waiting-requires-clause-rising
fill_waiting-requires-clause-rising c =
    let within : c.args.label.0 - first_label < length c.self.inside.waiting.items = omega (arith, c.if-k-len.true, c.len.ensures) in
    let read = read_kept _ (c.args.label.0 - first_label) _ within c.index_mut.ensures.value in
    subst (IsRising (length c.self.inside.nodes.items)) (sym read) (c.self.invariant.rising (c.args.label.0 - first_label))

pub invariant_of-self : goal.invariant_of-self
invariant_of-self c =
    let within : c.args.label.0 - first_label < length c.self.inside.waiting.items = omega (arith, c.if-k-len.true, c.len.ensures) in
    waiting_filled c.args.from.0 c.args.label.0 c.args.place.0 (c.args.label.0 - first_label) _ _ _ _ (omega (arith, c.requires.label)) c.requires.place within c.self.invariant c.fill_waiting.ensures

pub returns-then-k-len : goal.returns-then-k-len
returns-then-k-len c = subst (λ ns. IsFilled c.args.from.0 c.args.label.0 c.args.place.0 ns c.fill_waiting.new.nodes.items) c.self.view_is (filled_all c.args.from.0 c.args.label.0 c.args.place.0 _ _ _ c.fill_waiting.ensures)

pub returns-else-k-len : goal.returns-else-k-len
returns-else-k-len c =
    subst (λ ns. IsFilled c.args.from.0 c.args.label.0 c.args.place.0 ns ns) c.self.view_is
    (filled_none c.args.from.0 c.args.label.0 c.args.place.0 (c.args.label.0 - first_label) _ _ (omega (arith, c.requires.label)) (omega (arith, c.if-k-len.false, c.len.ensures)) c.self.invariant)
