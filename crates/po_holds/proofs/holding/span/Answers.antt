use Rattle.std.proofs.Common.{rules, ◌↔◌, FitsSigned, to_z-of_z}
use Rattle.std.specs.Prelude.{ℤ, ◌*ℤ◌, IsTrue}
use Rattle.std.specs.Int.{w64}
use Rattle.po_holds.specs.Choosing.{IsOneOf, EachMoved}
use Rattle.po_memory.specs.Values.{EachNumber}
use Rattle.po_memory.specs.Blocks.{Spans, OnPointer}
use Rattle.po_holds.proofs.Chosen as chosen
use Rattle.po_holds.proofs.Chosen.{through}
use Rattle.po_holds.proofs.Asked.{for_all_numbers}
use Rattle.po_holds.proofs.holding.span.Goals as goal

pub returns-in-Err-numbers_of : goal.returns-in-Err-numbers_of
returns-in-Err-numbers_of c =
    chosen.alike_pointers c.args.f.now c.args.p.now (λ v. EachNumber c.args.f.now c.args.lo.now (λ l. EachNumber c.args.f.now c.args.hi.now (λ h. OnPointer (Spans (c.args.factor *ℤ l) (c.args.factor *ℤ h)) c.args.m.now.blocks v))) c.in-Ok.r _ c.in-Ok.ensures (λ v. chosen.number_settled c.args.f.now c.args.lo.now (λ l. EachNumber c.args.f.now c.args.hi.now (λ h. OnPointer (Spans (c.args.factor *ℤ l) (c.args.factor *ℤ h)) c.args.m.now.blocks v)) c.in-Err-numbers_of.answer c.in-Err-numbers_of.ensures)

pub returns-in-Err-numbers_of-2 : goal.returns-in-Err-numbers_of-2
returns-in-Err-numbers_of-2 c =
    chosen.alike_pointers c.args.f.now c.args.p.now (λ v. EachNumber c.args.f.now c.args.lo.now (λ l. EachNumber c.args.f.now c.args.hi.now (λ h. OnPointer (Spans (c.args.factor *ℤ l) (c.args.factor *ℤ h)) c.args.m.now.blocks v))) c.in-Ok.r _ c.in-Ok.ensures (λ v. chosen.alike_numbers c.args.f.now c.args.lo.now (λ l. EachNumber c.args.f.now c.args.hi.now (λ h. OnPointer (Spans (c.args.factor *ℤ l) (c.args.factor *ℤ h)) c.args.m.now.blocks v)) c.in-Ok-numbers_of.lo _ c.in-Ok-numbers_of.ensures (λ l. chosen.number_settled c.args.f.now c.args.hi.now (λ h. OnPointer (Spans (c.args.factor *ℤ l) (c.args.factor *ℤ h)) c.args.m.now.blocks v) c.in-Err-numbers_of-2.answer c.in-Err-numbers_of-2.ensures))

pub returns-in-Ok-numbers_of-2 : goal.returns-in-Ok-numbers_of-2
returns-in-Ok-numbers_of-2 c =
    let narrow : FitsSigned w64 c.args.factor = search rules in
    let tells : IsTrue c.on_pointers.result ↔ EachMoved c.in-Ok.r (λ v. OnPointer (λ o d. (i j : ℤ) → IsOneOf c.in-Ok-numbers_of.lo i → IsOneOf c.in-Ok-numbers_of-2.hi j → Spans (c.args.factor *ℤ i) (c.args.factor *ℤ j) o d) c.args.m.now.blocks v) = simp to_z-of_z at c.on_pointers.ensures in
    through tells (chosen.pointer_and_numbers c.args.f.now c.args.p.now c.args.lo.now c.args.hi.now (λ v l h. OnPointer (Spans (c.args.factor *ℤ l) (c.args.factor *ℤ h)) c.args.m.now.blocks v) _ c.in-Ok.r c.in-Ok-numbers_of.lo c.in-Ok-numbers_of-2.hi c.in-Ok.ensures c.in-Ok-numbers_of.ensures c.in-Ok-numbers_of-2.ensures (λ v. for_all_numbers (λ l h. Spans (c.args.factor *ℤ l) (c.args.factor *ℤ h)) c.in-Ok-numbers_of.lo c.in-Ok-numbers_of-2.hi c.in-Ok-numbers_of.ensures.some c.in-Ok-numbers_of-2.ensures.some c.args.m.now.blocks v))
