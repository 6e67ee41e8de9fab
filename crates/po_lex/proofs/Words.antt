-- A text is none of the words of another length.
use Rattle.std.proofs.Common.{◌≡◌, ℕ, true, false, cond, List, [], ◌∷◌, length, sym, ap, refl, ◌∙◌}
use Rattle.std.specs.Prelude.{◌==◌, ◌||◌}
use Rattle.std.specs.Str.{bytes_eq}
use Rattle.std.proofs.lemmas.Bool.{eqb-false, false_from_ne_true, ne_eqb}
use Rattle.std.proofs.lemmas.Slice.Eq.{bytes_eq-Decides}
use Rattle.po_lex.specs.Keeping.{is_among, extension_word, dropped, attribute, assembler, inlines, consts, telling}
use Rattle.po_lex.specs.declared.extension.Extension.{Extension}
use Rattle.po_lex.specs.declared.extension.Extension.TheVariants as e

-- the words of this length
abbrev pub of_length : ℕ → List (List ℕ) → List (List ℕ)
of_length n [] = []
of_length n (w ∷ ws) = cond (length w == n) (w ∷ of_length n ws) (of_length n ws)

other_length : (w text : List ℕ) → (length w == length text) ≡ false → bytes_eq w text ≡ false
other_length w text q = false_from_ne_true (bytes_eq w text) (λ t. eqb-false (length w) (length text) q (ap length ((bytes_eq-Decides w text).0 t)))

among_length : (words : List (List ℕ)) (text : List ℕ) → is_among words text ≡ is_among (of_length (length text) words) text
among_length [] text = refl
among_length (w ∷ ws) text =
    let h : is_among ws text ≡ is_among (of_length (length text) ws) text = among_length ws text in
    elim (length w == length text) as (λ b. (length w == length text) ≡ b →
    (bytes_eq w text || is_among ws text) ≡ is_among (cond b (w ∷ of_length (length text) ws) (of_length (length text) ws)) text) [
      | true ↦ (λ q. ap (λ v. bytes_eq w text || v) h)
      | false ↦ (λ q. ap (λ v. v || is_among ws text) (other_length w text q) ∙ h)
    ] refl

pub among_of : (n : ℕ) (words : List (List ℕ)) (text : List ℕ) → length text ≡ n → is_among words text ≡ is_among (of_length n words) text
among_of n words text q = among_length words text ∙ ap (λ v. is_among (of_length v words) text) q

-- the word of the compiler's own that a text is which has n bytes
abbrev pub extension_among : ℕ → List ℕ → Extension
extension_among n text =
    cond (is_among (of_length n dropped) text) e.Dropped
    (cond (is_among (of_length n attribute) text) e.Attribute
    (cond (is_among (of_length n assembler) text) e.Assembler
    (cond (is_among (of_length n inlines) text) e.Inline
    (cond (is_among (of_length n consts) text) e.Const e.Other))))

pub word_of_length : (n : ℕ) (text : List ℕ) → length text ≡ n → extension_word text ≡ extension_among n text
word_of_length n text q =
    rw (among_of n dropped text q, among_of n attribute text q, among_of n assembler text q, among_of n inlines text q, among_of n consts text q) refl

pub no_word : (n : ℕ) (text : List ℕ) → length text ≡ n → (n ≡ 7 → ⊥) → (n ≡ 8 → ⊥) → (n ≡ 10 → ⊥) → (n ≡ 12 → ⊥) → (n ≡ 13 → ⊥) → e.Other ≡ extension_word text
no_word n text q a b c d f =
    let other : (k : ℕ) → (n ≡ k → ⊥) → (k == n) ≡ false = λ k h. ne_eqb k n (λ e. h (sym e)) in
    rw (word_of_length n text q, other 7 a, other 8 b, other 10 c, other 12 d, other 13 f) refl

pub tells_none : (n : ℕ) (text : List ℕ) → length text ≡ n → (n ≡ 4 → ⊥) → (n ≡ 6 → ⊥) → (n ≡ 7 → ⊥) → (n ≡ 8 → ⊥) → (n ≡ 10 → ⊥) → (n ≡ 11 → ⊥) → (n ≡ 15 → ⊥) →
    false ≡ is_among telling text
tells_none n text q a b c d f g h =
    let other : (k : ℕ) → (n ≡ k → ⊥) → (k == n) ≡ false = λ k h. ne_eqb k n (λ e. h (sym e)) in
    rw (among_of n telling text q, other 4 a, other 6 b, other 7 c, other 8 d, other 10 f, other 11 g, other 15 h) refl
