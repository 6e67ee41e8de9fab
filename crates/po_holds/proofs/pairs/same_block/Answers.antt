use Rattle.po_memory.specs.Values.{EachPointer}
use Rattle.po_memory.specs.Blocks.{IntoOne}
use Rattle.po_holds.proofs.Chosen as chosen
use Rattle.po_holds.proofs.Chosen.{through}
use Rattle.po_holds.proofs.Both as both
use Rattle.po_holds.proofs.pairs.same_block.Goals as goal

pub returns-in-Err-pointers_of : goal.returns-in-Err-pointers_of
returns-in-Err-pointers_of c =
    chosen.alike_pointers c.args.f.now c.args.p.now (λ v. EachPointer c.args.f.now c.args.q.now (λ w. IntoOne v w)) c.in-Ok.v _ c.in-Ok.ensures (λ v. chosen.pointer_settled c.args.f.now c.args.q.now (λ w. IntoOne v w) c.in-Err-pointers_of.answer c.in-Err-pointers_of.ensures)

pub returns-in-Ok-pointers_of : goal.returns-in-Ok-pointers_of
returns-in-Ok-pointers_of c =
    through c.into_one.ensures (through (both.into_one_each c.in-Ok.v c.in-Ok-pointers_of.w c.in-Ok.ensures.some c.in-Ok-pointers_of.ensures.some) (chosen.two_pointers c.args.f.now c.args.p.now c.args.q.now (λ v w. IntoOne v w) c.in-Ok.v c.in-Ok-pointers_of.w c.in-Ok.ensures c.in-Ok-pointers_of.ensures))
