use Rattle.std.specs.Prelude.{IfOk}
use Rattle.std.specs.Int.{w64, w128}
use Rattle.std.proofs.Common.{rules, subst, sym, FitsSigned, to_z-of_z}
use Rattle.po_ir.specs.declared.instr.Instr.{Instr}
use Rattle.po_meaning.specs.Local.{Local}
use Rattle.po_operate.specs.Finding.{Finds, Follows}
use Rattle.po_operate.specs.Values.{IsConstant, IsMoved}
use Rattle.po_operate.proofs.Registers.{constant_follows, negation_follows, slot_start_follows, move_follows, load_follows}
use Rattle.po_operate.proofs.instructions.local.Goals as goal

pub returns-in-Const : goal.returns-in-Const
returns-in-Const c =
    let fits : FitsSigned w128 c.in-Const.value = search rules in
    let found : Finds c.constant.result (IsConstant c.args.g.now c.in-Const.to c.in-Const.value) = simp to_z-of_z at c.constant.ensures in
    subst (λ (i : Instr). IfOk c.put_found.result (λ done. Follows done (Local c.args.p.now c.args.g.now i c.args.frame.now c.args.m.now.blocks) c.put_found.new.frame c.args.m.now.blocks)) (sym c.in-Const.is)
    (constant_follows c.args.p.now c.args.g.now c.in-Const.to c.args.frame.now c.put_found.new.frame c.args.m.now.blocks c.put_found.result c.constant.result c.put_found.ensures c.in-Const.value found)

pub returns-in-Un : goal.returns-in-Un
returns-in-Un c =
    subst (λ (i : Instr). IfOk c.put_found-in-Un.result (λ done. Follows done (Local c.args.p.now c.args.g.now i c.args.frame.now c.args.m.now.blocks) c.put_found-in-Un.new.frame c.args.m.now.blocks)) (sym c.in-Un.is)
    (negation_follows c.args.p.now c.args.g.now c.in-Un.to c.args.frame.now c.put_found-in-Un.new.frame c.args.m.now.blocks c.put_found-in-Un.result c.negated.result c.put_found-in-Un.ensures c.in-Un.op c.in-Un.ty c.in-Un.a c.negated.ensures)

pub returns-in-AddrSlot : goal.returns-in-AddrSlot
returns-in-AddrSlot c =
    subst (λ (i : Instr). IfOk c.put_found-in-AddrSlot.result (λ done. Follows done (Local c.args.p.now c.args.g.now i c.args.frame.now c.args.m.now.blocks) c.put_found-in-AddrSlot.new.frame c.args.m.now.blocks)) (sym c.in-AddrSlot.is)
    (slot_start_follows c.args.p.now c.args.g.now c.in-AddrSlot.to c.args.frame.now c.put_found-in-AddrSlot.new.frame c.args.m.now.blocks c.put_found-in-AddrSlot.result c.slot_start.result c.put_found-in-AddrSlot.ensures c.in-AddrSlot.slot c.slot_start.ensures)

pub returns-in_ok-moved_by-in-PtrAdd : goal.returns-in_ok-moved_by-in-PtrAdd
returns-in_ok-moved_by-in-PtrAdd c =
    let fits : FitsSigned w64 c.in-PtrAdd.factor = search rules in
    let found : Finds c.in_ok-moved_by-in-PtrAdd.field-0 (IsMoved c.in-PtrAdd.factor c.args.frame.now c.in-PtrAdd.base c.in-PtrAdd.index) = simp to_z-of_z at c.in_ok-moved_by-in-PtrAdd.ensures in
    subst (λ (i : Instr). IfOk c.put_found-in-PtrAdd.result (λ done. Follows done (Local c.args.p.now c.args.g.now i c.args.frame.now c.args.m.now.blocks) c.put_found-in-PtrAdd.new.frame c.args.m.now.blocks)) (sym c.in-PtrAdd.is)
    (move_follows c.args.p.now c.args.g.now c.in-PtrAdd.to c.args.frame.now c.put_found-in-PtrAdd.new.frame c.args.m.now.blocks c.put_found-in-PtrAdd.result c.in_ok-moved_by-in-PtrAdd.field-0 c.put_found-in-PtrAdd.ensures c.in-PtrAdd.base c.in-PtrAdd.index c.in-PtrAdd.factor found)

pub returns-in-Load : goal.returns-in-Load
returns-in-Load c =
    subst (λ (i : Instr). IfOk c.put_found-in-Load.result (λ done. Follows done (Local c.args.p.now c.args.g.now i c.args.frame.now c.args.m.now.blocks) c.put_found-in-Load.new.frame c.args.m.now.blocks)) (sym c.in-Load.is)
    (load_follows c.args.p.now c.args.g.now c.in-Load.to c.args.frame.now c.put_found-in-Load.new.frame c.args.m.now.blocks c.put_found-in-Load.result c.loaded.result c.put_found-in-Load.ensures c.in-Load.at c.in-Load.access c.loaded.ensures)

pub returns-in-Store : goal.returns-in-Store
returns-in-Store c =
    subst (λ (i : Instr). IfOk c.store_value.result (λ done. Follows done (Local c.args.p.now c.args.g.now i c.args.frame.now c.args.m.now.blocks) c.store_value.new.frame c.store_value.new.m.blocks)) (sym c.in-Store.is)
    (c.store_value.ensures c.args.p.now c.args.g.now)

pub returns-in-CopyBytes : goal.returns-in-CopyBytes
returns-in-CopyBytes c =
    subst (λ (i : Instr). IfOk c.copy_bytes.result (λ done. Follows done (Local c.args.p.now c.args.g.now i c.args.frame.now c.args.m.now.blocks) c.copy_bytes.new.frame c.copy_bytes.new.m.blocks)) (sym c.in-CopyBytes.is)
    (c.copy_bytes.ensures c.args.p.now c.args.g.now c.in-CopyBytes.align)

pub returns-in-Fill : goal.returns-in-Fill
returns-in-Fill c =
    subst (λ (i : Instr). IfOk c.fill_slot.result (λ done. Follows done (Local c.args.p.now c.args.g.now i c.args.frame.now c.args.m.now.blocks) c.fill_slot.new.frame c.fill_slot.new.m.blocks)) (sym c.in-Fill.is)
    (c.fill_slot.ensures c.args.p.now c.args.g.now)

pub returns-in-Leave : goal.returns-in-Leave
returns-in-Leave c =
    subst (λ (i : Instr). IfOk c.leave.result (λ done. Follows done (Local c.args.p.now c.args.g.now i c.args.frame.now c.args.m.now.blocks) c.leave.new.frame c.leave.new.m.blocks)) (sym c.in-Leave.is)
    (c.leave.ensures c.args.p.now c.args.g.now)
