-- Which token is an end.
use Rattle.std.proofs.Common.{◌≡◌, true, false, IsTrue, ◌↔◌, sym, subst, refl}
use Rattle.std.specs.Prelude.{Bool}
use Rattle.po_tree.specs.Signs.{Sign, comma, semicolon, bracket_end, brace_end, colon, closing}
use Rattle.po_exp_parts.specs.Places.{IsEnd, at_comma, at_semicolon, at_bracket, at_brace, at_colon, at_parenthesis}
use Rattle.std.proofs.lemmas.Bool.{iff_false}

-- a token that is this end is an end
pub told_end : {sign end : Sign} → IsEnd end → IsTrue true ↔ (sign ≡ end) → IsTrue true ↔ IsEnd sign
told_end e h = ((λ _. subst IsEnd (sym (h.0 refl)) e), (λ _. refl))

other_end : {sign : Sign} {last : Bool} → (sign ≡ comma → ⊥) → (sign ≡ semicolon → ⊥) → (sign ≡ bracket_end → ⊥) → (sign ≡ brace_end → ⊥) → (sign ≡ colon → ⊥) →
    (sign ≡ closing → IsTrue last) → IsEnd sign → IsTrue last
other_end a b c d e h at_comma = absurd (a refl)
other_end a b c d e h at_semicolon = absurd (b refl)
other_end a b c d e h at_bracket = absurd (c refl)
other_end a b c d e h at_brace = absurd (d refl)
other_end a b c d e h at_colon = absurd (e refl)
other_end a b c d e h at_parenthesis = h refl

-- one that is none of five is an end where it is the sixth
pub told_last : {sign : Sign} {last : Bool} → IsTrue false ↔ (sign ≡ comma) → IsTrue false ↔ (sign ≡ semicolon) → IsTrue false ↔ (sign ≡ bracket_end) →
    IsTrue false ↔ (sign ≡ brace_end) → IsTrue false ↔ (sign ≡ colon) → IsTrue last ↔ (sign ≡ closing) → IsTrue last ↔ IsEnd sign
told_last a b c d e h =
    ((λ t. subst IsEnd (sym (h.0 t)) at_parenthesis), (λ end. other_end (iff_false a refl) (iff_false b refl) (iff_false c refl) (iff_false d refl) (iff_false e refl) h.1 end))
