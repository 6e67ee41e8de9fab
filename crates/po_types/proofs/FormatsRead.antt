-- How a format is read piece by piece.
use Rattle.std.proofs.Common.{refl, sym, ap, ◌∙◌, subst, ◌≡◌, ℕ, List, [], ◌∷◌, ◌++◌, Option, Some, None, true, false, ◌==◌, ◌<◌, inl, inr, length, append_assoc, arith}
use Rattle.std.specs.List.{cons_option}
use Rattle.std.proofs.lemmas.List.{append-nil}
use Rattle.std.proofs.lemmas.Bool.Decides.{eqb_tells}
use Rattle.po_arith.specs.declared.target.Target.{Target}
use Rattle.po_types.specs.declared.format.Spec.{Spec}
use Rattle.po_types.specs.Formats.{IsPiece, IsFormat, format_end, piece}
use Rattle.po_types.proofs.FormatPieces.{one_piece, no_first}

-- before the rest stood pieces that read specs
pub record IsReadUpTo (target : Target) (format : List ℕ) (specs : List Spec) (rest : List ℕ) : Type 0 where
  pub sound : (others : List Spec) → IsFormat target rest others → IsFormat target format (specs ++ others)
  pub complete : (all : List Spec) → IsFormat target format all → (others : List Spec) × (all ≡ specs ++ others) × IsFormat target rest others

behind : (read : Option Spec) (specs others : List Spec) → (specs ++ cons_option read []) ++ others ≡ specs ++ cons_option read others
behind None specs others = append_assoc specs [] others
behind (Some x) specs others = append_assoc specs (x ∷ []) others

pub begins : (target : Target) (format : List ℕ) → IsReadUpTo target format [] format
begins target format = record { sound = λ others f. f; complete = λ all f. (all, refl, f) }

none_there : (xs : List ℕ) → length xs ≡ 0 → xs ≡ []
none_there [] h = refl
none_there (x ∷ xs) h = absurd (omega (arith, h))

-- what `is_empty` tells
pub empty_is : (xs : List ℕ) → (length xs == 0) ≡ true → xs ≡ []
empty_is xs q = elim (eqb_tells (length xs) 0) [
  | inl h ↦ none_there xs h.1
  | inr h ↦ absurd (cc (sym h.0 ∙ q))
]

pub some_there : (xs : List ℕ) → (length xs == 0) ≡ false → 0 < length xs
some_there xs q = elim (eqb_tells (length xs) 0) [
  | inl h ↦ absurd (cc (sym h.0 ∙ q))
  | inr h ↦ omega (arith, h.1)
]

pub nothing_is : (xs : List ℕ) → (length xs == 0) ≡ false → xs ≡ [] → ⊥
nothing_is xs q h = let some = some_there xs q in let none = ap length h in omega (arith, some, none)

first_of : (target : Target) {rest left : List ℕ} {all : List Spec} {read : Option Spec} → IsPiece rest read left → IsFormat target rest all →
    (others : List Spec) × (all ≡ cons_option read others) × IsFormat target left others
first_of target p format_end = absurd (no_first refl p)
first_of target p (piece _ other next others all j f q) =
    let o = one_piece j p in
    (others, q ∙ ap (λ x. cons_option x others) o.0, subst (λ l. IsFormat target l others) o.1 f)

none_of : (target : Target) {rest : List ℕ} {all : List Spec} → (rest ≡ [] → ⊥) → ((read : Option Spec) (left : List ℕ) → IsPiece rest read left → ⊥) →
    IsFormat target rest all → ⊥
none_of target some no_piece format_end = some refl
none_of target some no_piece (piece _ other next others all j f q) = no_piece next other j

module _ {target : Target} {format rest : List ℕ} {specs : List Spec} (r : IsReadUpTo target format specs rest) where
  pub goes_on : (read : Option Spec) (left : List ℕ) (more : List Spec) → IsPiece rest read left → more ≡ specs ++ cons_option read [] → IsReadUpTo target format more left
  goes_on read left more p q = record {
    sound = λ others f. subst (λ l. IsFormat target format l) (sym (ap (λ l. l ++ others) q ∙ behind read specs others))
        (r.sound (cons_option read others) (piece rest left read others (cons_option read others) p f refl));
    complete = λ all f.
        let before = r.complete all f in
        let here = first_of target p before.2 in
        (here.0, before.1 ∙ ap (λ l. specs ++ l) here.1 ∙ sym (behind read specs here.0) ∙ ap (λ l. l ++ here.0) (sym q), here.2);
  }

  pub ends : rest ≡ [] → IsFormat target format specs
  ends q = subst (λ l. IsFormat target format l) (append-nil specs) (r.sound [] (subst (λ l. IsFormat target l []) (sym q) format_end))

  pub fails : (rest ≡ [] → ⊥) → ((read : Option Spec) (left : List ℕ) → IsPiece rest read left → ⊥) → (all : List Spec) → IsFormat target format all → ⊥
  fails some no_piece all f = none_of target some no_piece (r.complete all f).2
