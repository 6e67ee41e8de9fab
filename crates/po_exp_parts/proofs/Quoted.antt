-- Characters between quotes.
use Rattle.std.proofs.Common.{◌≡◌, ℕ, ◌-◌, List, [], ◌∷◌, length, drop, Bool, refl, sym, subst, ◌∙◌, ap, ◌↔◌, IsTrue}
use Rattle.std.specs.Prelude.{Some, None}
use Rattle.std.proofs.lemmas.List.{length-drop}
use Rattle.po_lists.proofs.Options.{one_value, none_or_some}
use Rattle.po_tree.specs.Literals.{first_character, Characters, IsCharacter, IsString}
use Rattle.po_tree.specs.Literals.Characters.{end_quote, next_character}

-- characters, and then the quote
abbrev pub Closes : ℕ → List ℕ → Type 0
Closes quote cs = (values : List ℕ) × Characters quote values cs

-- no character is the quote alone
no_more : (quote : ℕ) (cs : List ℕ) → Characters quote [] cs → cs ≡ quote ∷ []
no_more quote cs end_quote = refl

-- behind a character the others stand
pub goes_on : (quote : ℕ) (cs rest : List ℕ) (value : ℕ) → first_character quote (quote ∷ []) ≡ None → first_character quote cs ≡ Some (value, rest) → Closes quote cs → Closes quote rest
goes_on quote cs rest value alone read (values, end_quote) = absurd (none_or_some _ _ alone read)
goes_on quote cs rest value alone read (values, next_character value' more cs' own read' h) = (more, subst (Characters quote more) (ap (λ z. z.1) (one_value _ _ _ read' read)) h)

-- a character before others
pub goes_back : (quote : ℕ) (cs rest : List ℕ) (value : ℕ) → first_character quote cs ≡ Some (value, rest) → Closes quote rest → Closes quote cs
goes_back quote cs rest value read (values, h) = (value ∷ values, next_character value values cs rest read h)

-- where no character stands the quote stands alone
pub closes : (quote : ℕ) (cs : List ℕ) → first_character quote cs ≡ None → Closes quote cs → cs ≡ quote ∷ []
closes quote cs none (values, end_quote) = refl
closes quote cs none (values, next_character value more cs' own read h) = absurd (none_or_some _ _ none read)

-- the quote alone closes
closed : (quote : ℕ) (cs : List ℕ) → cs ≡ quote ∷ [] → Closes quote cs
closed quote cs q = ([], rw q end_quote)

-- nothing but the quote
pub one_left : (text : List ℕ) (at quote : ℕ) → drop at text ≡ quote ∷ [] → length text - at ≡ 1
one_left text at quote q = sym (length-drop at text) ∙ ap length q

-- behind one character the quote stands
pub one_read : (value : ℕ) (cs : List ℕ) → Characters 39 (value ∷ []) cs → first_character 39 cs ≡ Some (value, 39 ∷ [])
one_read value cs (next_character value' none cs' own read h) = read ∙ ap (λ r. Some (value, r)) (no_more 39 own h)

module _ (text : List ℕ) where
  -- a string literal is characters from its second byte on
  is_string_at : text ≡ 34 ∷ drop 1 text → Closes 34 (drop 1 text) ↔ IsString text
  is_string_at first = (
    (λ (values, h). (values, drop 1 text, first, h)),
    (λ (values, rest, q, h). (values, rw (ap (drop 1) q) h)),
  )

  -- where no character stands, the quote decides
  pub string_ends : (rest : List ℕ) (found : Bool) → text ≡ 34 ∷ drop 1 text → None ≡ first_character 34 rest →
      (Closes 34 rest ↔ Closes 34 (drop 1 text)) → (IsTrue found ↔ rest ≡ 34 ∷ []) → IsTrue found ↔ IsString text
  string_ends rest found first stuck same test =
      let whole = is_string_at first in
      ((λ f. whole.0 (same.0 (closed 34 rest (test.0 f)))), (λ h. test.1 (closes 34 rest (sym stuck) (same.1 (whole.1 h)))))

  -- the character of a character constant
  character_read : (h : IsCharacter text) → first_character 39 (drop 1 text) ≡ Some (h.0, 39 ∷ [])
  character_read (value, rest, q, h) = ap (λ cs. first_character 39 (drop 1 cs)) q ∙ one_read value rest h

  -- a character constant is one character and the quote
  pub character_ends : (rest : List ℕ) (value : ℕ) (found : Bool) → text ≡ 39 ∷ drop 1 text → Some (value, rest) ≡ first_character 39 (drop 1 text) →
      (IsTrue found ↔ rest ≡ 39 ∷ []) → IsTrue found ↔ IsCharacter text
  character_ends rest value found first read test = (
    (λ f. (value, drop 1 text, first, next_character value [] (drop 1 text) rest (sym read) (rw (test.0 f) end_quote))),
    (λ h. test.1 (ap (λ z. z.1) (one_value _ _ _ (sym read) (character_read h)))),
  )

  -- and it isn't where no character stands
  pub no_character : None ≡ first_character 39 (drop 1 text) → IsCharacter text → ⊥
  no_character none h = none_or_some _ _ (sym none) (character_read h)
