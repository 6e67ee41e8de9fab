-- Characters between quotes.
use Rattle.std.proofs.Common.{◌≡◌, ℕ, List, [], ◌∷◌, drop, sym, ◌∙◌, ap, refl, Some}
use Rattle.std.specs.Prelude.{ℤ}
use Rattle.po_tree.specs.Literals.{first_character, end_quote, next_character}
use Rattle.po_typed.specs.Constants.{IsCharacterOf, as_signed_char}
use Rattle.po_lists.proofs.Options.{one_some}
use Rattle.po_exp_parts.proofs.Quoted.{one_read}

-- a character constant is a character and the quote
pub character_of : (text rest : List ℕ) (value : ℕ) → text ≡ 39 ∷ drop 1 text → Some (value, rest) ≡ first_character 39 (drop 1 text) → rest ≡ 39 ∷ [] →
    IsCharacterOf text (as_signed_char value)
character_of text rest value first read end =
    record { character = value; rest = drop 1 text; quoted = first; single = next_character value [] (drop 1 text) rest (sym read) (rw end end_quote); signed = refl }

pub not_character : (text rest : List ℕ) (value : ℕ) → Some (value, rest) ≡ first_character 39 (drop 1 text) → (rest ≡ 39 ∷ [] → ⊥) → (v : ℤ) → IsCharacterOf text v → ⊥
not_character text rest value read other v h =
    let own : drop 1 text ≡ h.rest = ap (drop 1) h.quoted in
    let one = one_read h.character h.rest h.single in
    other (ap (λ z. z.1) (one_some (sym read) (ap (first_character 39) own ∙ one)))
