-- Types that agree: equal ones, and arrays of which one has no size.
use Rattle.std.proofs.Common.{◌≡◌, ◌≢◌, ℕ, Option, None, sym, ap, ◌∙◌, ◌⊎◌, inl, inr, refl, subst}
use Rattle.po_types.specs.declared.ctype.CType.{CType}
use Rattle.po_types.specs.declared.ctype.CType.TheVariants as c
use Rattle.po_types.specs.Types.{elements, Agree, equal, first_without_size, second_without_size}
use Rattle.po_lists.proofs.Options.{one_some}
use Rattle.po_typed.proofs.OneType.{elements_Array}

pub record OfArrays (t u : CType) : Type 0 where
  pub element : CType
  pub m : Option ℕ
  pub n : Option ℕ
  pub first : t ≡ c.Array element m
  pub second : u ≡ c.Array element n
  pub sizes : (m ≡ None) ⊎ (n ≡ None)

opened : {t u : CType} → Agree t u → (t ≡ u) ⊎ OfArrays t u
opened (equal t) = inl refl
opened (first_without_size element n) = inr (record { element = element; m = None; n = n; first = refl; second = refl; sizes = inl refl })
opened (second_without_size element n) = inr (record { element = element; m = n; n = None; first = refl; second = refl; sizes = inr refl })

one_array : {t x y : CType} {m n : Option ℕ} → t ≡ c.Array x m → t ≡ c.Array y n → (x ≡ y) × (m ≡ n)
one_array {x = x} {y = y} {m = m} {n = n} p q = let r = one_some (elements_Array x m) (ap elements (sym p ∙ q) ∙ elements_Array y n) in (ap (λ z. z.0) r, ap (λ z. z.1) r)

module _ (t u : CType) where
  pub equal_types : t ≡ u → Agree t u
  equal_types q = subst (Agree t) q (equal t)

  pub first_is_array : t ≢ u → ((x : CType) (m : Option ℕ) → t ≡ c.Array x m → ⊥) → Agree t u → ⊥
  first_is_array n a h = elim (opened h) [ inl q ↦ n q | inr r ↦ a r.element r.m r.first ]

  pub second_is_array : t ≢ u → ((x : CType) (m : Option ℕ) → u ≡ c.Array x m → ⊥) → Agree t u → ⊥
  second_is_array n a h = elim (opened h) [ inl q ↦ n q | inr r ↦ a r.element r.n r.second ]

  module _ (x y : CType) (m n : Option ℕ) (p : t ≡ c.Array x m) (q : u ≡ c.Array y n) where
    pub arrays_agree : (m ≡ None) ⊎ (n ≡ None) → x ≡ y → Agree t u
    arrays_agree (inl e) f = rw (p, q, e, f) (first_without_size y n)
    arrays_agree (inr e) f = rw (p, q, e, f) (second_without_size y m)

    pub lack_a_size : t ≢ u → ((m ≡ None) ⊎ (n ≡ None) → ⊥) → Agree t u → ⊥
    lack_a_size k l h = elim (opened h) [
      | inl e ↦ k e
      | inr r ↦ l (elim r.sizes [ inl e ↦ inl ((one_array p r.first).1 ∙ e) | inr e ↦ inr ((one_array q r.second).1 ∙ e) ])
    ]

    pub one_element_type : t ≢ u → x ≢ y → Agree t u → ⊥
    one_element_type k l h = elim (opened h) [ inl e ↦ k e | inr r ↦ l ((one_array p r.first).0 ∙ sym (one_array q r.second).0) ]
