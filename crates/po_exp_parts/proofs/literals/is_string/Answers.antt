use Rattle.std.proofs.Common.{arith, sym, refl}
use Rattle.po_exp_parts.proofs.Quoted.{goes_on, goes_back, string_ends}
use Rattle.po_exp_parts.proofs.literals.is_string.Goals as goal

pub loop-character-preserved : goal.loop-character-preserved
loop-character-preserved c =
    let here = sym c.in-Some.ensures.exact in
    let before = c.loop-character.invariant.1 in
    (omega (arith, c.in-Some.ensures.within), ((λ h. before.0 (goes_back 34 _ _ _ here h)), (λ h. goes_on 34 _ _ _ refl here (before.1 h))))

pub returns : goal.returns
returns c = string_ends _ _ _ c.if-not-begins.ensures.front c.in_default.ensures.exact c.loop-character.invariant.1 c.is_closed.ensures
