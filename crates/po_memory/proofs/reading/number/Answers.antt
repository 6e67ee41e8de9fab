use Rattle.std.proofs.Common.{rules, arith, ◌≡◌, ◌<◌, ◌^◌, sym, ◌∙◌, FitsSigned, to_z, to_z-of_z}
use Rattle.std.specs.Prelude.{pos}
use Rattle.std.specs.Int.{w128}
use Rattle.std.proofs.lemmas.Int.{to_z_pos}
use Rattle.po_memory.proofs.ReadBytes.{chosen, chosen_none}
use Rattle.po_memory.proofs.reading.number.Goals as goal

pub returns-in-None : goal.returns-in-None
returns-in-None c = chosen_none c.args.t c.args.bytes.now c.requires.typed c.in-None.ensures

pub returns-in-Some : goal.returns-in-Some
returns-in-Some c =
    let fits : FitsSigned w128 c.wrap.result = search rules in
    let few : c.in-Some.sum < 2 ^ 64 = search rules in
    let less : c.in-Some.sum < 2 ^ 127 = omega arith in
    let same : to_z w128 c.in-Some.sum ≡ pos c.in-Some.sum = to_z_pos w128 c.in-Some.sum less in
    simp to_z-of_z (chosen c.args.t c.args.bytes.now c.in-Some.sum c.wrap.result c.in-Some.ensures (c.wrap.ensures.0, (c.wrap.ensures.1.0, sym same ∙ c.wrap.ensures.1.1)))
