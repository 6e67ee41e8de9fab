use Rattle.std.proofs.Common.{rules, ◌≡◌, arith, refl, FitsSigned, to_z-of_z}
use Rattle.std.specs.Int.{w128}
use Rattle.po_memory.specs.declared.value.Value.TheVariants.{Number, Null, Pointer, Wild}
use Rattle.po_holds.proofs.Chosen.{through}
use Rattle.po_holds.proofs.Both as both
use Rattle.po_holds.proofs.pairs.are_apart.Goals as goal

pub returns-in-Number : goal.returns-in-Number
returns-in-Number c =
    (λ h. absurd (cc), λ h. absurd (both.apart_never c.args.v.now c.args.w.now c.args.n.now (Number c.in-Number.field-0) c.args.w.now.base c.requires.v c.requires.w c.requires.n c.in-Number.is refl (λ z i k x. x) h))

pub returns-in-Null : goal.returns-in-Null
returns-in-Null c =
    through c.is_pointer.ensures (both.apart_of_pointers c.args.v.now c.args.w.now c.args.n.now Null c.requires.v c.requires.w c.requires.n c.in-Null.is both.null_apart)

pub returns-in-Wild : goal.returns-in-Wild
returns-in-Wild c =
    through c.is_pointer-in-Wild.ensures (both.apart_of_pointers c.args.v.now c.args.w.now c.args.n.now Wild c.requires.v c.requires.w c.requires.n c.in-Wild.is both.wild_apart)

pub returns-in-Number-base : goal.returns-in-Number-base
returns-in-Number-base c =
    (λ h. absurd (cc), λ h. absurd (both.apart_never c.args.v.now c.args.w.now c.args.n.now (Pointer c.in-Pointer.block c.in-Pointer.offset) (Number c.in-Number-base.field-0) c.requires.v c.requires.w c.requires.n c.in-Pointer.is c.in-Number-base.is (λ z i k x. x) h))

pub returns-else-block-other : goal.returns-else-block-other
returns-else-block-other c =
    let fits_offset : FitsSigned w128 c.in-Pointer.offset = search rules in
    let fits_place : FitsSigned w128 c.in-Pointer-base.place = search rules in
    let p_is : (c.offsets.result.base ≡ c.in-Pointer.offset) × (c.offsets.result.lo ≡ c.args.v.now.lo) × (c.offsets.result.hi ≡ c.args.v.now.hi) = simp to_z-of_z at c.offsets.ensures in
    let q_is : (c.offsets-in-Pointer-base.result.base ≡ c.in-Pointer-base.place) × (c.offsets-in-Pointer-base.result.lo ≡ c.args.w.now.lo) × (c.offsets-in-Pointer-base.result.hi ≡ c.args.w.now.hi) = simp to_z-of_z at c.offsets-in-Pointer-base.ensures in
    through c.differ.ensures (both.apart_in c.args.v.now c.args.w.now c.args.n.now c.offsets.result c.offsets-in-Pointer-base.result c.in-Pointer.block c.in-Pointer.offset c.in-Pointer-base.other c.in-Pointer-base.place c.in-Pointer.is c.in-Pointer-base.is p_is q_is (omega (arith, c.if-block-other.false)))
