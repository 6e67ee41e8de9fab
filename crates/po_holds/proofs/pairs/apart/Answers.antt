use Rattle.po_memory.specs.Values.{EachNumber, EachPointer}
use Rattle.po_memory.specs.Blocks.{AreApart}
use Rattle.po_holds.proofs.Chosen as chosen
use Rattle.po_holds.proofs.Chosen.{through}
use Rattle.po_holds.proofs.pairs.apart.Goals as goal

pub returns-in-Err-pointers_of : goal.returns-in-Err-pointers_of
returns-in-Err-pointers_of c =
    chosen.alike_pointers c.args.f.now c.args.p.now (λ v. EachPointer c.args.f.now c.args.q.now (λ w. EachNumber c.args.f.now c.args.n.now (λ z. AreApart z v w))) c.in-Ok.v _ c.in-Ok.ensures (λ v. chosen.pointer_settled c.args.f.now c.args.q.now (λ w. EachNumber c.args.f.now c.args.n.now (λ z. AreApart z v w)) c.in-Err-pointers_of.answer c.in-Err-pointers_of.ensures)

pub returns-in-Err-numbers_of : goal.returns-in-Err-numbers_of
returns-in-Err-numbers_of c =
    chosen.alike_pointers c.args.f.now c.args.p.now (λ v. EachPointer c.args.f.now c.args.q.now (λ w. EachNumber c.args.f.now c.args.n.now (λ z. AreApart z v w))) c.in-Ok.v _ c.in-Ok.ensures (λ v. chosen.alike_pointers c.args.f.now c.args.q.now (λ w. EachNumber c.args.f.now c.args.n.now (λ z. AreApart z v w)) c.in-Ok-pointers_of.w _ c.in-Ok-pointers_of.ensures (λ w. chosen.number_settled c.args.f.now c.args.n.now (λ z. AreApart z v w) c.in-Err-numbers_of.answer c.in-Err-numbers_of.ensures))

pub returns-in-Ok-numbers_of : goal.returns-in-Ok-numbers_of
returns-in-Ok-numbers_of c =
    through c.are_apart.ensures (chosen.two_pointers_and_number c.args.f.now c.args.p.now c.args.q.now c.args.n.now (λ v w z. AreApart z v w) c.in-Ok.v c.in-Ok-pointers_of.w c.in-Ok-numbers_of.n c.in-Ok.ensures c.in-Ok-pointers_of.ensures c.in-Ok-numbers_of.ensures)
