use Rattle.std.proofs.Common.{subst, ap, ◌∙◌}
use Rattle.po_ir.specs.declared.instr.Instr.TheVariants as ins
use Rattle.po_ir.specs.declared.instr.Ty.TheVariants as ty
use Rattle.po_lowering.specs.Temporaries.{reg}
use Rattle.po_lowering.specs.Naming.{variable}
use Rattle.po_lower_nodes.specs.Groups.{AddsValue}
use Rattle.po_lower_forms.proofs.Addresses.{rule_slot_address, rule_global_address}
use Rattle.po_lower_forms.proofs.variables.variable_address.Goals as goal

pub returns-in_ok-slot_address-in-Slot : goal.returns-in_ok-slot_address-in-Slot
returns-in_ok-slot_address-in-Slot c = λ f s name p h.
    rule_slot_address f s p name c.in-Slot.k _ (h.names ∙ ap variable c.in-Slot.is)
    (subst (λ z. AddsValue c.args.d.now c.slot_address.new.d ty.Ptr (λ r. ins.AddrSlot (reg r) c.in-Slot.k) z c.in_ok-slot_address-in-Slot.field-0) h.has_spot c.in_ok-slot_address-in-Slot.ensures)

pub returns-in_ok-global_address-in-Global : goal.returns-in_ok-global_address-in-Global
returns-in_ok-global_address-in-Global c = λ f s name p h.
    rule_global_address f s p name c.in-Global.g _ (h.names ∙ ap variable c.in-Global.is)
    (subst (λ z. AddsValue c.args.d.now c.global_address.new.d ty.Ptr (λ r. ins.AddrGlobal (reg r) c.in-Global.g) z c.in_ok-global_address-in-Global.field-0) h.has_spot c.in_ok-global_address-in-Global.ensures)
