use Rattle.std.proofs.Common.{◌++◌, ◌∷◌, [], arith, length-append}
use Rattle.po_constants.proofs.StringLiterals.{one_more, ended, not_ended}
use Rattle.po_constants.proofs.string_literals.one_length.Goals as goal

pub loop-character-preserved : goal.loop-character-preserved
loop-character-preserved c =
    let done = c.loop-character.invariant.0 in
    let count = c.loop-character.invariant.1 in
    let near = c.loop-character.invariant.2 in
    let within = c.in-Some.ensures.within in
    let value = c.in-Some.character.value in (
      done ++ value ∷ [],
      omega (arith, count, length-append done (value ∷ [])),
      omega (arith, near, within.0),
      one_more c.args.text.now done c.loop-character.end c.in-Some.character.end value c.loop-character.invariant.3 within.1 c.in-Some.ensures.exact,
    )

pub returns-then-is_closed : goal.returns-then-is_closed
returns-then-is_closed c =
    let done = c.loop-character.invariant.0 in
    let near = c.loop-character.invariant.2 in
    let q = c.loop-character.invariant.3 in
    (omega (arith, near, q.within), done, ended c.args.text.now done c.loop-character.end c.if-not-begins.ensures.front q (c.is_closed.ensures.0 c.if-is_closed.true), c.loop-character.invariant.1)

pub returns-else-is_closed : goal.returns-else-is_closed
returns-else-is_closed c =
    let q = c.loop-character.invariant.3 in
    not_ended c.args.text.now c.loop-character.invariant.0 c.loop-character.end q c.in_default.ensures.exact (λ e. let yes = c.is_closed.ensures.1 e in absurd (cc (yes, c.if-is_closed.false)))
