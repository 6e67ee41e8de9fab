use Rattle.std.proofs.Common.{◌≡◌, ◌≤◌, ◌∷◌, List, ℕ, drop, get_or, length, refl, ap, sym, ◌∙◌, subst, arith}
use Rattle.std.proofs.lemmas.List.{drop-drop, drop_more, take_rest}
use Rattle.po_types.specs.declared.format.Spec.{Spec}
use Rattle.po_types.specs.Formats.{plain_byte, conversion, IsConversion}
use Rattle.po_types.proofs.FormatPieces.{no_piece}
use Rattle.po_types.proofs.FormatsRead.{some_there}
use Rattle.po_types.proofs.format.piece_of.Goals as goal

pub returns-then-not-begins_with_percent : goal.returns-then-not-begins_with_percent
returns-then-not-begins_with_percent c =
    let text = c.args.text.now in
    let some = some_there text (sym c.is_empty.ensures ∙ c.if-is_empty.false) in
    let first : text ≡ get_or text 0 0 ∷ drop 1 text = drop_more text 0 0 some in (
      omega arith,
      some,
      plain_byte _ first (λ q. c.if-not-begins_with_percent.ensures (drop 1 text) (first ∙ ap (λ b. b ∷ drop 1 text) q)) c.if-text-eq0.false refl,
    )

pub returns-in-None : goal.returns-in-None
returns-in-None c =
    let text = c.args.text.now in
    no_piece text (drop 1 text) c.if-not-begins_with_percent.ensures
    (subst (λ l. (others : List ℕ) → l ≡ 37 ∷ others → ⊥) (take_rest text 1) c.if-begins_with_percent.ensures)
    (subst (λ l. (spec : Spec) (rest : List ℕ) → IsConversion l spec rest → ⊥) (take_rest text 1) c.in-None.ensures)

pub returns-in-Some : goal.returns-in-Some
returns-in-Some c =
    let text = c.args.text.now in
    let bytes = c.in-Some.bytes in
    let first : text ≡ 37 ∷ drop 1 text = c.if-not-begins_with_percent.ensures in
    let found : (bytes ≤ length (drop 1 text)) × IsConversion (drop 1 text) c.in-Some.spec (drop bytes (drop 1 text)) =
    subst (λ l. (bytes ≤ length l) × IsConversion l c.in-Some.spec (drop bytes l)) (take_rest text 1) c.in-Some.ensures in
    let count = ap length first in (
      omega arith,
      omega (arith, found.0, count),
      conversion (drop 1 text) c.in-Some.spec first (subst (λ r. IsConversion (drop 1 text) c.in-Some.spec r) (drop-drop bytes 1 text) found.1) refl,
    )
