use Rattle.std.proofs.Common.{subst}
use Rattle.po_lowering.specs.Places.{behind}
use Rattle.po_lowering.specs.Typed.{type_at}
use Rattle.po_lowering.specs.Types.{register_type}
use Rattle.po_lower_nodes.specs.Groups.{AddsChoice}
use Rattle.po_lower_forms.proofs.Conditions.{rule_and_value, rule_or_value}
use Rattle.po_lower_forms.proofs.choosing.condition_value.Goals as goal

pub returns-clause-and_value : goal.returns-clause-and_value
returns-clause-and_value c = λ f s before y z p is start a.
    let added = subst (λ t. AddsChoice c.fill-2.new.self c.one_or_zero.new.d (register_type (type_at f (behind y p))) t c.in_ok-v.v) is.has_spot (subst (λ t. AddsChoice c.fill-2.new.self c.one_or_zero.new.d t c.args.spot.now c.in_ok-v.v) is.is_held c.in_ok-v.ensures) in
    rule_and_value f s p y z c.args.hit.0 c.args.miss.0 c.args.from.0 c.in_ok-i.i.0 c.in_ok-v.v c.requires.hit c.requires.miss c.requires.apart start a c.in_ok-i.ensures.0 c.in_ok-i.ensures.1 c.fill.ensures.nodes c.fill.ensures.state c.fill-2.ensures.nodes c.fill-2.ensures.state added

pub returns-clause-or_value : goal.returns-clause-or_value
returns-clause-or_value c = λ f s before y z p is start a.
    let added = subst (λ t. AddsChoice c.fill-2.new.self c.one_or_zero.new.d (register_type (type_at f (behind y p))) t c.in_ok-v.v) is.has_spot (subst (λ t. AddsChoice c.fill-2.new.self c.one_or_zero.new.d t c.args.spot.now c.in_ok-v.v) is.is_held c.in_ok-v.ensures) in
    rule_or_value f s p y z c.args.hit.0 c.args.miss.0 c.args.from.0 c.in_ok-i.i.0 c.in_ok-v.v c.requires.hit c.requires.miss c.requires.apart start a c.in_ok-i.ensures.0 c.in_ok-i.ensures.1 c.fill.ensures.nodes c.fill.ensures.state c.fill-2.ensures.nodes c.fill-2.ensures.state added
