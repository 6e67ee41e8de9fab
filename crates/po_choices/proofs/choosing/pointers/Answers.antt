use Rattle.std.proofs.Common.{refl}
use Rattle.po_choices.proofs.ChoicesOfTypes.{agreeing, second_is_void, first_is_void, neither_is_void}
use Rattle.po_choices.proofs.choosing.pointers.Goals as goal

pub returns-then-agree : goal.returns-then-agree
returns-then-agree c = agreeing c.args.context.now c.args.y.now c.args.z.now c.args.to.now c.args.other.now c.get-first.result.now c.get-second.result.now c.get-first.ensures c.get-second.ensures c.in_ok-pointer_to_both.field-0 c.if-agree.ensures c.in_ok-pointer_to_both.ensures

pub returns-then-is_void : goal.returns-then-is_void
returns-then-is_void c = second_is_void c.args.context.now c.args.y.now c.args.z.now c.args.to.now c.args.other.now c.get-first.result.now c.get-second.result.now c.get-first.ensures c.get-second.ensures c.if-agree.ensures (c.if-is_void.ensures.0 refl) c.in_ok-beside_void.field-0 c.in_ok-beside_void.ensures

pub returns-then-is_void-2 : goal.returns-then-is_void-2
returns-then-is_void-2 c = first_is_void c.args.context.now c.args.y.now c.args.z.now c.args.to.now c.args.other.now c.get-first.result.now c.get-second.result.now c.get-first.ensures c.get-second.ensures c.if-agree.ensures (c.if-is_void-2.ensures.0 refl) c.in_ok-beside_void-2.field-0 c.in_ok-beside_void-2.ensures

pub returns : goal.returns
returns c = neither_is_void c.args.context.now c.args.y.now c.args.z.now c.args.to.now c.args.other.now c.get-first.result.now c.get-second.result.now c.get-first.ensures c.get-second.ensures c.if-agree.ensures (λ q. let f = c.if-is_void.ensures.1 q in absurd cc) (λ q. let f = c.if-is_void-2.ensures.1 q in absurd cc)
