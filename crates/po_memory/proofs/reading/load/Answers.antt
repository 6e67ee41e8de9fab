use Rattle.std.proofs.Common.{rules, ◌≡◌, sym, ap, ◌∙◌, FitsSigned, to_z-of_z}
use Rattle.std.specs.Prelude.{Some, IsSome, ◌↔◌, slice_get}
use Rattle.std.specs.Option.{option_copied}
use Rattle.std.specs.Int.{w128}
use Rattle.po_memory.specs.Walking.{AllowsLoad}
use Rattle.po_memory.proofs.ReadBytes.{load_there}
use Rattle.po_memory.proofs.reading.load.Goals as goal

pub returns-in-Some-clause-allowed : goal.returns-in-Some-clause-allowed
returns-in-Some-clause-allowed c =
    let fits : FitsSigned w128 c.in-Pointer.offset = search rules in
    let there : slice_get c.args.m.now.blocks c.in-Pointer.block ≡ Some c.in-Some.c.now = sym c.get.ensures.value ∙ ap option_copied c.in-Some.is in
    let both = load_there c.args.access c.args.m.now.blocks c.in-Pointer.block c.in-Pointer.offset c.in-Some.c.now there in
    let tells : IsSome c.load_from.result ↔ AllowsLoad c.args.access c.in-Pointer.offset c.in-Some.c.now = simp to_z-of_z at c.load_from.ensures.allowed in
    rw c.in-Pointer.is (λ s. both.0 (tells.0 s), λ a. tells.1 (both.1 a))
