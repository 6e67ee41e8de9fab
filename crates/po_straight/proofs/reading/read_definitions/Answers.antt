use Rattle.std.proofs.Common.{arith, ap, ◌≡◌, length, subst}
use Rattle.po_straight.specs.Definitions.{AreServed}
use Rattle.po_straight.proofs.Following.{one_spelling, fewer_signs}
use Rattle.po_straight.proofs.reading.read_definitions.Goals as goal

pub definitions-requires : goal.definitions-requires
definitions-requires c =
    let few = fewer_signs 1 _ _ (rw c.in-Some.is at c.in_ok-lexemes.ensures.found) in
    omega (arith, few, ap length c.as_slice.ensures, c.requires)

pub returns-in-Some-clause-none : goal.returns-in-Some-clause-none
returns-in-Some-clause-none c = λ ds h.
    let own = rw c.in-Some.is at c.in_ok-lexemes.ensures.found in
    let same : h.lexemes ≡ c.in-Some.lexemes = one_spelling 1 h.lexemes c.in-Some.lexemes c.args.bytes.now h.spelled own in
    (rw (c.in-None-2.is, c.as_slice.ensures) at c.in_ok-definitions-in-Some.ensures.none) ds (subst (λ v. AreServed ds v) same h.served)
