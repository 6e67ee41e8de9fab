use Rattle.std.proofs.Common.{rules, ◌≡◌, sym, ap, ◌∙◌, inl, inr, FitsSigned, to_z-of_z}
use Rattle.std.specs.Int.{w128}
use Rattle.std.specs.Option.{option_copied}
use Rattle.po_memory.specs.Blocks.{HasRoom}
use Rattle.po_memory.specs.declared.value.Value.TheVariants.{Number, Pointer, Wild}
use Rattle.po_holds.proofs.Chosen.{through}
use Rattle.po_holds.proofs.Both as both
use Rattle.po_holds.proofs.pairs.has_room.Goals as goal

pub returns-in-Number : goal.returns-in-Number
returns-in-Number c =
    through c.is_null.ensures (both.of_null (HasRoom c.args.m.now.blocks) c.args.v.now c.args.w.now (Number c.in-Number.field-0) c.in-Number.is c.requires.v c.requires.w (both.number_room c.args.m.now.blocks c.in-Number.field-0))

pub returns-in-Wild : goal.returns-in-Wild
returns-in-Wild c =
    through c.is_null-in-Wild.ensures (both.of_null (HasRoom c.args.m.now.blocks) c.args.v.now c.args.w.now Wild c.in-Wild.is c.requires.v c.requires.w (both.wild_room c.args.m.now.blocks))

pub returns-in-Number-base : goal.returns-in-Number-base
returns-in-Number-base c =
    (λ h. absurd (cc), λ h. absurd (both.not_of_all c.args.v.now c.args.w.now c.requires.v c.requires.w (HasRoom c.args.m.now.blocks) (Pointer c.in-Pointer.block c.in-Pointer.offset) (Number c.in-Number-base.field-0) c.in-Pointer.is c.in-Number-base.is (λ n k h. h) h))

pub returns-in-Wild-base : goal.returns-in-Wild-base
returns-in-Wild-base c =
    (λ h. absurd (cc), λ h. absurd (both.not_of_all c.args.v.now c.args.w.now c.requires.v c.requires.w (HasRoom c.args.m.now.blocks) (Pointer c.in-Pointer.block c.in-Pointer.offset) Wild c.in-Pointer.is c.in-Wild-base.is (λ n k h. h) h))

pub returns-in-None : goal.returns-in-None
returns-in-None c =
    (λ h. absurd (cc), λ h. absurd (both.not_of_all c.args.v.now c.args.w.now c.requires.v c.requires.w (HasRoom c.args.m.now.blocks) (Pointer c.in-Pointer.block c.in-Pointer.offset) (Pointer c.in-Pointer-base.other c.in-Pointer-base.place) c.in-Pointer.is c.in-Pointer-base.is (λ n k h. both.no_block c.args.m.now.blocks _ _ _ _ (inl (sym c.get.ensures.value ∙ ap option_copied c.in-None.is)) h) h))

pub returns-in-None-get : goal.returns-in-None-get
returns-in-None-get c =
    (λ h. absurd (cc), λ h. absurd (both.not_of_all c.args.v.now c.args.w.now c.requires.v c.requires.w (HasRoom c.args.m.now.blocks) (Pointer c.in-Pointer.block c.in-Pointer.offset) (Pointer c.in-Pointer-base.other c.in-Pointer-base.place) c.in-Pointer.is c.in-Pointer-base.is (λ n k h. both.no_block c.args.m.now.blocks _ _ _ _ (inr (sym c.get-in-Some.ensures.value ∙ ap option_copied c.in-None-get.is)) h) h))

pub returns-in-Some-get : goal.returns-in-Some-get
returns-in-Some-get c =
    let c_there = sym c.get.ensures.value ∙ ap option_copied c.in-Some.is in
    let d_there = sym c.get-in-Some.ensures.value ∙ ap option_copied c.in-Some-get.is in
    let fits_offset : FitsSigned w128 c.in-Pointer.offset = search rules in
    let fits_place : FitsSigned w128 c.in-Pointer-base.place = search rules in
    let p_is : (c.offsets.result.base ≡ c.in-Pointer.offset) × (c.offsets.result.lo ≡ c.args.v.now.lo) × (c.offsets.result.hi ≡ c.args.v.now.hi) = simp to_z-of_z at c.offsets.ensures in
    let q_is : (c.offsets-in-Some-get.result.base ≡ c.in-Pointer-base.place) × (c.offsets-in-Some-get.result.lo ≡ c.args.w.now.lo) × (c.offsets-in-Some-get.result.hi ≡ c.args.w.now.hi) = simp to_z-of_z at c.offsets-in-Some-get.ensures in
    through c.fits.ensures (both.room_in c.args.m.now.blocks c.args.v.now c.args.w.now c.offsets.result c.offsets-in-Some-get.result c.in-Pointer.block c.in-Pointer.offset c.in-Pointer-base.other c.in-Pointer-base.place c.in-Some.c.now c.in-Some-get.d.now c.in-Pointer.is c.in-Pointer-base.is p_is q_is c_there d_there)
