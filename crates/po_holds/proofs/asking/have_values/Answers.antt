use Rattle.std.proofs.Common.{rules, ◌≡◌, arith, refl, ap, ◌∙◌}
use Rattle.std.specs.Prelude.{false, Some}
use Rattle.std.proofs.lemmas.Option.{slice_get-get_or}
use Rattle.std.proofs.Common.{get_or}
use Rattle.po_memory.specs.declared.value.Byte.TheVariants as byte
use Rattle.po_holds.specs.Asking.{place_of}
use Rattle.po_holds.proofs.Asked.{one_more_value, all_values}
use Rattle.po_holds.proofs.asking.have_values.Goals as goal

pub loop-i-preserved : goal.loop-i-preserved
loop-i-preserved c =
    let there = slice_get-get_or c.args.bytes.now c.loop-i.i byte.Blank (search rules) in
    one_more_value c.args.bytes.now (place_of c.args.from.now) (place_of c.args.to.now) c.loop-i.i (get_or c.args.bytes.now c.loop-i.i byte.Blank) there (λ hole. let met = c.is_hole.ensures.1 hole in let none : c.is_hole.result ≡ false = search rules in absurd (cc)) c.loop-i.invariant

pub returns-then-is_hole : goal.returns-then-is_hole
returns-then-is_hole c =
    let there = slice_get-get_or c.args.bytes.now c.loop-i.i byte.Blank (search rules) in
    let hole = c.is_hole.ensures.0 (search rules) in
    (λ h. absurd (cc), λ h. absurd (h c.loop-i.i hole.1 hole.2 (there ∙ ap Some hole.0)))

pub returns : goal.returns
returns c =
    (λ h. all_values c.args.bytes.now (place_of c.args.from.now) (place_of c.args.to.now) (λ j less low high. c.loop-i.invariant j (omega arith) low high), λ h. refl)
