use Rattle.po_memory.specs.Blocks.{OnPointer}
use Rattle.po_holds.specs.Asking.{Asks}
use Rattle.po_holds.proofs.Chosen as chosen
use Rattle.po_holds.proofs.Chosen.{through}
use Rattle.po_holds.proofs.asking.on_each.Goals as goal

pub returns-in-Err : goal.returns-in-Err
returns-in-Err c =
    chosen.pointer_settled c.args.f.now c.args.p.now (λ v. OnPointer (Asks c.args.ask.now) c.args.m.now.blocks v) c.in-Err.answer c.in-Err.ensures

pub returns-in-Ok : goal.returns-in-Ok
returns-in-Ok c =
    through c.on_pointers.ensures (chosen.each_pointer c.args.f.now c.args.p.now (λ v. OnPointer (Asks c.args.ask.now) c.args.m.now.blocks v) c.in-Ok.r c.in-Ok.ensures)
