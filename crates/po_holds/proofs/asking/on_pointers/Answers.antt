use Rattle.std.proofs.Common.{rules, ◌≡◌, ◌↔◌, refl, sym, ap, ◌∙◌, FitsSigned, to_z-of_z}
use Rattle.std.specs.Prelude.{IsTrue, Some, slice_get}
use Rattle.std.specs.Int.{w128}
use Rattle.std.specs.Option.{option_copied}
use Rattle.po_holds.specs.Asking.{Asks, EachAsks}
use Rattle.po_holds.proofs.Chosen.{through}
use Rattle.po_holds.proofs.Asked as asked
use Rattle.po_holds.proofs.asking.on_pointers.Goals as goal

pub returns-in-Number : goal.returns-in-Number
returns-in-Number c =
    (λ h. absurd (cc), λ h. absurd (asked.moved_number (Asks c.args.ask.now) c.args.m.now.blocks c.args.r.now _ c.in-Number.is c.requires.some h))

pub returns-in-Null : goal.returns-in-Null
returns-in-Null c =
    (λ h. asked.moved_null (Asks c.args.ask.now) c.args.m.now.blocks c.args.r.now c.in-Null.is, λ h. refl)

pub returns-in-Wild : goal.returns-in-Wild
returns-in-Wild c =
    (λ h. absurd (cc), λ h. absurd (asked.moved_wild (Asks c.args.ask.now) c.args.m.now.blocks c.args.r.now c.in-Wild.is c.requires.some h))

pub returns-in-None : goal.returns-in-None
returns-in-None c =
    (λ h. absurd (cc), λ h. absurd (asked.moved_out (Asks c.args.ask.now) c.args.m.now.blocks c.args.r.now c.in-Pointer.block c.in-Pointer.offset c.in-Pointer.is (sym c.get.ensures.value ∙ ap option_copied c.in-None.is) c.requires.some h))

pub returns-in-Some : goal.returns-in-Some
returns-in-Some c =
    let fits_offset : FitsSigned w128 c.in-Pointer.offset = search rules in
    let fits_lo : FitsSigned w128 c.args.r.now.lo = search rules in
    let fits_hi : FitsSigned w128 c.args.r.now.hi = search rules in
    let there : slice_get c.args.m.now.blocks c.in-Pointer.block ≡ Some c.in-Some.c.now = sym c.get.ensures.value ∙ ap option_copied c.in-Some.is in
    let tells : IsTrue c.in_block.result ↔ EachAsks c.args.ask.now (record { base = c.in-Pointer.offset; lo = c.args.r.now.lo; hi = c.args.r.now.hi }) c.in-Some.c.now = simp to_z-of_z at c.in_block.ensures in
    through tells (asked.moved_in (Asks c.args.ask.now) c.args.m.now.blocks c.args.r.now c.in-Pointer.block c.in-Pointer.offset c.in-Some.c.now (record { base = c.in-Pointer.offset; lo = c.args.r.now.lo; hi = c.args.r.now.hi }) c.in-Pointer.is there refl refl refl)
