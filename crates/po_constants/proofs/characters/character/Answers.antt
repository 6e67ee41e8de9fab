use Rattle.std.proofs.Common.{rules, FitsSigned}
use Rattle.std.specs.Int.{w128}
use Rattle.std.proofs.lemmas.Int.{to_z-of_z}
use Rattle.po_constants.proofs.Quoted.{character_of, not_character}
use Rattle.po_constants.proofs.characters.character.Goals as goal

pub returns-then-not-is_closed : goal.returns-then-not-is_closed
returns-then-not-is_closed c =
    not_character c.args.text.now _ c.in_ok-character.character.value c.in_ok-character.ensures.exact (λ q. let yes = c.is_closed.ensures.1 q in absurd (cc (yes, c.if-not-is_closed.true)))

pub returns : goal.returns
returns c =
    let fits : FitsSigned w128 c.as_signed_char.result = search rules in
    simp to_z-of_z (rw c.as_signed_char.ensures (character_of c.args.text.now _ c.in_ok-character.character.value c.if-not-begins.ensures.front c.in_ok-character.ensures.exact (c.is_closed.ensures.0 (cc c.if-not-is_closed.false))))
