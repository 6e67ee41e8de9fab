use Rattle.std.proofs.Common.{rules, ◌≡◌, ◌<◌, ◌-◌, ◌+◌, arith, refl, subst}
use Rattle.std.specs.Prelude.{false}
use Rattle.std.proofs.lemmas.Option.{slice_get-get_or}
use Rattle.po_memory.specs.declared.value.Byte.TheVariants as byte
use Rattle.po_holds.specs.Asking.{IsEndOf}
use Rattle.po_holds.proofs.Ended.{none_past, more_fit}
use Rattle.po_holds.proofs.strings.fit.Goals as goal

pub loop-at-init : goal.loop-at-init
loop-at-init c =
    record { within = omega arith; ends = none_past c.args.bytes.now; fit = λ i low high. absurd (omega (arith, c.requires, low, high)) }

pub loop-at-preserved : goal.loop-at-preserved
loop-at-preserved c =
    let some : 0 < c.loop-at.at = omega (arith, c.loop-at-test.true) in
    let there = slice_get-get_or c.args.bytes.now (c.loop-at.at - 1) byte.Blank (omega (arith, some, c.loop-at.invariant.within)) in
    let back : c.loop-at.at ≡ c.loop-at.at - 1 + 1 = omega (arith, some) in
    let ends = c.end_from-end.ensures c.args.bytes.now there (subst (λ k. IsEndOf c.args.bytes.now k c.loop-at.end) back c.loop-at.invariant.ends) in
    record {
      within = omega (arith, c.loop-at.invariant.within);
      ends = ends;
      fit = more_fit c.args.bytes.now c.args.room c.args.s.now.last c.loop-at.at some c.loop-at.invariant.fit ((c.is_met.ensures c.args.bytes.now ends).0 (search rules));
    }

pub returns-then-not-is_met : goal.returns-then-not-is_met
returns-then-not-is_met c =
    let some : 0 < c.loop-at.at = omega (arith, c.loop-at-test.true) in
    let there = slice_get-get_or c.args.bytes.now (c.loop-at.at - 1) byte.Blank (omega (arith, some, c.loop-at.invariant.within)) in
    let back : c.loop-at.at ≡ c.loop-at.at - 1 + 1 = omega (arith, some) in
    let ends = c.end_from-end.ensures c.args.bytes.now there (subst (λ k. IsEndOf c.args.bytes.now k c.loop-at.end) back c.loop-at.invariant.ends) in
    let none : c.is_met.result ≡ false = search rules in
    (λ h. absurd (cc), λ h. let met = (c.is_met.ensures c.args.bytes.now ends).1 (λ low. h (c.loop-at.at - 1) (omega (arith, c.loop-at-test.true)) low) in absurd (cc))

pub returns : goal.returns
returns c =
    (λ h i low high. c.loop-at.invariant.fit i (omega (arith, c.loop-at-test.false, low)) high, λ h. refl)
