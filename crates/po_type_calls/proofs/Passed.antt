-- Arguments and parameters, one by one.
use Rattle.std.proofs.Common.{◌≡◌, ℕ, suc, ◌+◌, ◌<◌, ◌≤◌, List, ◌∷◌, length, drop, get_or, refl, sym, ap, ◌∙◌, subst, arith}
use Rattle.std.proofs.lemmas.List.{drop_more, drop_all}
use Rattle.po_tree.specs.declared.expression.Exp.{Exp}
use Rattle.po_types.specs.declared.ctype.CType.{CType}
use Rattle.po_typed.specs.Scopes.{Context}
use Rattle.po_type_parts.specs.Converting.{Assigns}
use Rattle.po_type_calls.specs.Calling.{PassesAs, passes_none, passes_one}

-- what stands at a place, and what is behind it
pub at_place : {A : Type 0} (xs : List A) (i : ℕ) (x : A) → i < length xs → x ≡ get_or xs i x → drop i xs ≡ x ∷ drop (i + 1) xs
at_place xs i x in' is = drop_more xs i x in' ∙ ap (λ z. z ∷ drop (i + 1) xs) (sym is)

module _ (ctx : Context) where
  first : {x : Exp} {xs : List Exp} {v t : CType} {vs ts : List CType} → PassesAs ctx (x ∷ xs) (v ∷ vs) (t ∷ ts) → Assigns ctx x v t × PassesAs ctx xs vs ts
  first (passes_one h r) = (h, r)

  as_many : {xs : List Exp} {vs ts : List CType} → PassesAs ctx xs vs ts → (length xs ≡ length ts) × (length vs ≡ length ts)
  as_many passes_none = (refl, refl)
  as_many (passes_one h r) = let n = as_many r in (ap suc n.0, ap suc n.1)

  module _ (xs : List Exp) (vs ts : List CType) where
    -- the arguments from a place on are passed
    abbrev From : ℕ → Type 0
    From i = PassesAs ctx (drop i xs) (drop i vs) (drop i ts)

    -- it is left to pass these
    abbrev pub IsLeft : ℕ → Type 0
    IsLeft i = (From i → PassesAs ctx xs vs ts) × (PassesAs ctx xs vs ts → From i)

    pub begins : IsLeft 0
    begins = (λ h. h, λ h. h)

    pub other_arguments : (length xs ≡ length ts → ⊥) → PassesAs ctx xs vs ts → ⊥
    other_arguments n h = n (as_many h).0

    pub other_values : (length vs ≡ length ts → ⊥) → PassesAs ctx xs vs ts → ⊥
    other_values n h = n (as_many h).1

    pub ended : length xs ≡ length ts → length vs ≡ length ts → (i : ℕ) → length ts ≤ i → IsLeft i → PassesAs ctx xs vs ts
    ended p q i h k = k.0 (rw (drop_all i xs (omega (arith, p, h)), drop_all i vs (omega (arith, q, h)), drop_all i ts h) passes_none)

    module _ (i : ℕ) (x : Exp) (v t : CType) (a : i < length xs) (b : i < length vs) (c : i < length ts) (p : x ≡ get_or xs i x) (q : v ≡ get_or vs i v) (r : t ≡ get_or ts i t) where
      to : Assigns ctx x v t → From (i + 1) → From i
      to h k = rw (at_place xs i x a p, at_place vs i v b q, at_place ts i t c r) (passes_one h k)

      of : From i → Assigns ctx x v t × From (i + 1)
      of h =
          let h1 = subst (λ z. PassesAs ctx z (drop i vs) (drop i ts)) (at_place xs i x a p) h in
          let h2 = subst (λ z. PassesAs ctx (x ∷ drop (i + 1) xs) z (drop i ts)) (at_place vs i v b q) h1 in
          first (subst (λ z. PassesAs ctx (x ∷ drop (i + 1) xs) (v ∷ drop (i + 1) vs) z) (at_place ts i t c r) h2)

      pub passed_on : Assigns ctx x v t → IsLeft i → IsLeft (i + 1)
      passed_on h k = (λ l. k.0 (to h l), λ l. (of (k.1 l)).1)

      pub stopped : (Assigns ctx x v t → ⊥) → IsLeft i → PassesAs ctx xs vs ts → ⊥
      stopped n k l = n (of (k.1 l)).0
