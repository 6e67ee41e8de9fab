use Rattle.std.proofs.Common.{arith, ◌∙◌, ap, length}
use Rattle.std.proofs.lemmas.List.{length_push}
use Rattle.po_fun_heads.proofs.Following.{passes_one, none_opened}
use Rattle.po_fun_heads.proofs.braces.head_tokens.Goals as goal

pub loop-token-preserved : goal.loop-token-preserved
loop-token-preserved c =
    let same = c.in_ok-shared.ensures in
    let before = c.loop-token.invariant.after in
    record {
      passes = rw (c.in_ok-push.ensures.ok, same, c.is_word-behind.ensures) (passes_one _ _ c.loop-token.invariant.passes c.in-Some.ensures.first c.opens.ensures.first c.if-opens.false);
      after = omega (arith, before);
      counted = let was = c.loop-token.invariant.counted in let more = ap length c.in_ok-push.ensures.ok ∙ length_push c.loop-token.head c.in_ok-shared.field-0 in omega (arith, was, more);
    }

pub returns-clause-none : goal.returns-clause-none
returns-clause-none c = λ head left o. none_opened c.loop-token.invariant.passes c.in_default.ensures.first head left o
