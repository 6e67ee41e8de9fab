use Rattle.std.proofs.Common.{rules, ◌↔◌, FitsSigned, to_z-of_z}
use Rattle.std.specs.Prelude.{◌*ℤ◌, IsTrue}
use Rattle.std.specs.Int.{w64}
use Rattle.po_memory.specs.Values.{EachNumber, EachPointer}
use Rattle.po_memory.specs.Blocks.{Spans, IsFilled, OnPointer}
use Rattle.po_holds.proofs.holding.holds.Goals as goal

pub returns-in-Span : goal.returns-in-Span
returns-in-Span c =
    let narrow : FitsSigned w64 c.in-Span.factor = search rules in
    let tells : IsTrue c.span.result ↔ EachPointer c.args.f.now c.in-Span.p (λ v. EachNumber c.args.f.now c.in-Span.lo (λ l. EachNumber c.args.f.now c.in-Span.hi (λ h. OnPointer (Spans (c.in-Span.factor *ℤ l) (c.in-Span.factor *ℤ h)) c.args.m.now.blocks v))) = simp to_z-of_z at c.span.ensures in
    rw c.in-Span.is tells

pub returns-in-Filled : goal.returns-in-Filled
returns-in-Filled c =
    let narrow : FitsSigned w64 c.in-Filled.factor = search rules in
    let tells : IsTrue c.filled.result ↔ EachPointer c.args.f.now c.in-Filled.p (λ v. EachNumber c.args.f.now c.in-Filled.lo (λ l. EachNumber c.args.f.now c.in-Filled.hi (λ h. OnPointer (IsFilled (c.in-Filled.factor *ℤ l) (c.in-Filled.factor *ℤ h)) c.args.m.now.blocks v))) = simp to_z-of_z at c.filled.ensures in
    rw c.in-Filled.is tells

pub returns-in-NoOver : goal.returns-in-NoOver
returns-in-NoOver c =
    rw c.in-NoOver.is c.no_over.ensures

pub returns-in-Aligned : goal.returns-in-Aligned
returns-in-Aligned c =
    rw c.in-Aligned.is c.on_each-in-Aligned.ensures

pub returns-in-SameBlock : goal.returns-in-SameBlock
returns-in-SameBlock c =
    rw c.in-SameBlock.is c.same_block.ensures

pub returns-in-Apart : goal.returns-in-Apart
returns-in-Apart c =
    rw c.in-Apart.is c.apart.ensures

pub returns-in-RoomFor : goal.returns-in-RoomFor
returns-in-RoomFor c =
    rw c.in-RoomFor.is c.room_for.ensures
