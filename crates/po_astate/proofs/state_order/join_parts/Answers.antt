use Rattle.std.proofs.lemmas.List.Elements.{All-from_recursion}
use Rattle.po_astate.specs.Values.{IsValue}
use Rattle.po_astate.proofs.StatesLaws.{regs_form}
use Rattle.po_astate.proofs.state_order.join_parts.Goals as goal

pub join_regs-requires-clause-first : goal.join_regs-requires-clause-first
join_regs-requires-clause-first c =
    rw c.as_slice.ensures
    (All-from_recursion IsValue _ (regs_form c.requires.registers c.requires.slot_count c.args.a.now _ _ _ _ _ c.requires.first c.in-At.is))

pub join_regs-requires-clause-second : goal.join_regs-requires-clause-second
join_regs-requires-clause-second c =
    rw c.as_slice-in-At-b.ensures
    (All-from_recursion IsValue _ (regs_form c.requires.registers c.requires.slot_count c.args.b.now _ _ _ _ _ c.requires.second c.in-At-b.is))
