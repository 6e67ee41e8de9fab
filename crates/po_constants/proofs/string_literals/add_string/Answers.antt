use Rattle.std.proofs.Common.{[], ◌∷◌, ◌++◌, ◌∙◌, ap, append_assoc}
use Rattle.po_constants.proofs.StringLiterals.{one_more, ended, not_ended, told}
use Rattle.po_constants.proofs.string_literals.add_string.Goals as goal

pub loop-character-preserved : goal.loop-character-preserved
loop-character-preserved c =
    let done = c.loop-character.invariant.0 in
    let before = c.loop-character.invariant.1 in
    let value = c.in-Some.character.value in (
      done ++ value ∷ [],
      c.in_ok-push.ensures.ok ∙ ap (λ bs. bs ++ value ∷ []) before ∙ append_assoc c.args.bytes.now done (value ∷ []),
      one_more c.args.text.now done c.loop-character.end c.in-Some.character.end value c.loop-character.invariant.2 c.in-Some.ensures.within.1 c.in-Some.ensures.exact,
    )

pub returns : goal.returns
returns c =
    let done = c.loop-character.invariant.0 in
    let q = c.loop-character.invariant.2 in
    told _ _ c.is_closed.result
    (λ yes. (done, ended c.args.text.now done c.loop-character.end c.if-not-begins.ensures.front q (c.is_closed.ensures.0 yes), c.loop-character.invariant.1))
    (λ other. not_ended c.args.text.now done c.loop-character.end q c.in_default.ensures.exact (λ e. let yes = c.is_closed.ensures.1 e in absurd (cc (yes, other))))
