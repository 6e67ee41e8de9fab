-- Which values may be assigned to which objects, and cast to which types, by the form of the type.
use Rattle.std.proofs.Common.{◌≡◌, ◌≢◌, ℕ, refl, sym, ap, ◌∙◌, subst, ◌⊎◌, inl, inr}
use Rattle.po_arith.specs.declared.int_type.IntType.{IntType}
use Rattle.po_tree.specs.declared.expression.Exp.{Exp, out-Exp}
use Rattle.po_types.specs.declared.ctype.CType.{CType, out-CType}
use Rattle.po_types.specs.declared.ctype.CType.TheVariants as c
use Rattle.po_types.specs.declared.ctype.CType.TheOpen.{CType-F}
use Rattle.po_types.specs.Integers.{bool_type}
use Rattle.po_types.proofs.TypesLaws.{out_Void, out_Int, out_Ptr, out_Struct}
use Rattle.po_typed.specs.Scopes.{Context}
use Rattle.po_typed.specs.Expressions.{IsNull}
use Rattle.po_typed.proofs.OneType.{one_structure, no_pointer}
use Rattle.po_type_parts.specs.Converting.{Assigns, assigns_number, assigns_struct, assigns_pointer, assigns_null, assigns_bool, Casts, casts_to_void, casts_number, casts_pointer, casts_null, casts_to_bool, CastsAsAssigned}

module _ (ctx : Context) (x : Exp) where
  -- what the value is, by the form of the object's type
  abbrev Assignable : CType → CType-F CType → Type 0
  Assignable v (CType-F.Int t) = ((s : IntType) × (v ≡ c.Int s)) ⊎ (((u : CType) × (v ≡ c.Ptr u)) × (t ≡ bool_type))
  Assignable v (CType-F.Ptr t) = (((s : IntType) × (v ≡ c.Int s)) × IsNull ctx (out-Exp x)) ⊎ ((u : CType) × (v ≡ c.Ptr u))
  Assignable v (CType-F.Struct n) = v ≡ c.Struct n
  Assignable v _ = ⊥

  opened : {v t : CType} → Assigns ctx x v t → Assignable v (out-CType t)
  opened (assigns_number s t) = rw (out_Int t) (inl (s, refl))
  opened (assigns_struct n) = rw (out_Struct n) refl
  opened (assigns_pointer t u) = rw (out_Ptr t) (inr (u, refl))
  opened (assigns_null s t h) = rw (out_Ptr t) (inl ((s, refl), h))
  opened (assigns_bool u) = rw (out_Int bool_type) (inr ((u, refl), refl))

  pub no_object : {v t : CType} → Assigns ctx x v t → ((s : IntType) → t ≡ c.Int s → ⊥) → ((u : CType) → t ≡ c.Ptr u → ⊥) → ((n : ℕ) → t ≡ c.Struct n → ⊥) → ⊥
  no_object (assigns_number s t) n m k = n t refl
  no_object (assigns_struct i) n m k = k i refl
  no_object (assigns_pointer t u) n m k = m t refl
  no_object (assigns_null s t h) n m k = m t refl
  no_object (assigns_bool u) n m k = n bool_type refl

  -- a cast: to void, or as a value is assigned to a scalar
  by_assigned : {v t : CType} → Assigns ctx x v t → ((n : ℕ) → t ≡ c.Struct n → ⊥) → Casts ctx x v t v
  by_assigned (assigns_number s t) n = casts_number s t
  by_assigned (assigns_struct i) n = absurd (n i refl)
  by_assigned (assigns_pointer t u) n = casts_pointer t u
  by_assigned (assigns_null s t h) n = casts_null s t h
  by_assigned (assigns_bool u) n = casts_to_bool u

  from_cast : {v t a : CType} → t ≢ c.Void → Casts ctx x v t a → CastsAsAssigned ctx x v t a
  from_cast n (casts_to_void w) = absurd (n refl)
  from_cast n (casts_number s t) = (assigns_number s t, refl)
  from_cast n (casts_pointer t u) = (assigns_pointer t u, refl)
  from_cast n (casts_null s t h) = (assigns_null s t h, refl)
  from_cast n (casts_to_bool u) = (assigns_bool u, refl)

  pub no_cast : {v t a : CType} → Casts ctx x v t a → t ≢ c.Void → ((s : IntType) → t ≡ c.Int s → ⊥) → ((u : CType) → t ≡ c.Ptr u → ⊥) → ⊥
  no_cast (casts_to_void w) k n m = k refl
  no_cast (casts_number s t) k n m = n t refl
  no_cast (casts_pointer t u) k n m = m t refl
  no_cast (casts_null s t h) k n m = m t refl
  no_cast (casts_to_bool u) k n m = n bool_type refl

  module _ (v : CType) where
    at : {t : CType} {l : CType-F CType} → out-CType t ≡ l → Assigns ctx x v t → Assignable v l
    at q h = subst (Assignable v) q (opened h)

    -- to a number
    module _ (t : IntType) where
      pub from_number : (s : IntType) → v ≡ c.Int s → Assigns ctx x v (c.Int t)
      from_number s q = rw q (assigns_number s t)

      pub pointer_to_bool : (u : CType) → v ≡ c.Ptr u → t ≡ bool_type → Assigns ctx x v (c.Int t)
      pointer_to_bool u q e = rw (q, e) (assigns_bool u)

      pub bool_from_pointer : (u : CType) → v ≡ c.Ptr u → Assigns ctx x v (c.Int t) → t ≡ bool_type
      bool_from_pointer u q h = elim (at (out_Int t) h) [ inl k ↦ no_pointer k.0 u (sym k.1 ∙ q) | inr k ↦ k.1 ]

      pub number_from_scalar : ((s : IntType) → v ≡ c.Int s → ⊥) → ((u : CType) → v ≡ c.Ptr u → ⊥) → Assigns ctx x v (c.Int t) → ⊥
      number_from_scalar n m h = elim (at (out_Int t) h) [ inl k ↦ n k.0 k.1 | inr k ↦ m k.0.0 k.0.1 ]

    -- to a pointer
    module _ (t : CType) where
      pub from_zero : (s : IntType) → v ≡ c.Int s → IsNull ctx (out-Exp x) → Assigns ctx x v (c.Ptr t)
      from_zero s q h = rw q (assigns_null s t h)

      pub zero_from : (s : IntType) → v ≡ c.Int s → Assigns ctx x v (c.Ptr t) → IsNull ctx (out-Exp x)
      zero_from s q h = elim (at (out_Ptr t) h) [ inl k ↦ k.1 | inr k ↦ no_pointer s k.0 (sym q ∙ k.1) ]

      pub from_pointer : (u : CType) → v ≡ c.Ptr u → Assigns ctx x v (c.Ptr t)
      from_pointer u q = rw q (assigns_pointer t u)

      pub pointer_from_scalar : ((s : IntType) → v ≡ c.Int s → ⊥) → ((u : CType) → v ≡ c.Ptr u → ⊥) → Assigns ctx x v (c.Ptr t) → ⊥
      pointer_from_scalar n m h = elim (at (out_Ptr t) h) [ inl k ↦ n k.0.0 k.0.1 | inr k ↦ m k.0 k.1 ]

    -- to a struct
    module _ (n : ℕ) where
      pub same_struct : (m : ℕ) → v ≡ c.Struct m → m ≡ n → Assigns ctx x v (c.Struct n)
      same_struct m q e = rw (q, e) (assigns_struct n)

      pub struct_from_same : (m : ℕ) → v ≡ c.Struct m → Assigns ctx x v (c.Struct n) → m ≡ n
      struct_from_same m q h = one_structure m n (sym q ∙ at (out_Struct n) h)

      pub struct_from_struct : ((m : ℕ) → v ≡ c.Struct m → ⊥) → Assigns ctx x v (c.Struct n) → ⊥
      struct_from_struct k h = k n (at (out_Struct n) h)

    -- casts of the value v
    pub to_void : (t : CType) → t ≡ c.Void → Casts ctx x v t c.Void
    to_void t q = rw q (casts_to_void v)

    as_assigned : {t : CType} (a : CType) → ((n : ℕ) → t ≡ c.Struct n → ⊥) → CastsAsAssigned ctx x v t a → Casts ctx x v t a
    as_assigned a n (h, q) = rw q (by_assigned h n)

    -- the type is a number or a pointer
    module _ (t : CType) where
      number_or_struct : (s : IntType) (n : ℕ) → t ≡ c.Int s → t ≡ c.Struct n → ⊥
      number_or_struct s n p q = let f : CType-F.Int s ≡ CType-F.Struct n = sym (out_Int s) ∙ ap out-CType (sym p ∙ q) ∙ out_Struct n in absurd cc

      pointer_or_struct : (u : CType) (n : ℕ) → t ≡ c.Ptr u → t ≡ c.Struct n → ⊥
      pointer_or_struct u n p q = let f : CType-F.Ptr u ≡ CType-F.Struct n = sym (out_Ptr u) ∙ ap out-CType (sym p ∙ q) ∙ out_Struct n in absurd cc

      number_or_void : (s : IntType) → t ≡ c.Int s → t ≢ c.Void
      number_or_void s p q = let f : CType-F.Int s ≡ CType-F.Void = sym (out_Int s) ∙ ap out-CType (sym p ∙ q) ∙ out_Void in absurd cc

      pointer_or_void : (u : CType) → t ≡ c.Ptr u → t ≢ c.Void
      pointer_or_void u p q = let f : CType-F.Ptr u ≡ CType-F.Void = sym (out_Ptr u) ∙ ap out-CType (sym p ∙ q) ∙ out_Void in absurd cc

      pub number_cast : (s : IntType) → t ≡ c.Int s → (a : CType) → CastsAsAssigned ctx x v t a → Casts ctx x v t a
      number_cast s q a h = as_assigned a (λ n. number_or_struct s n q) h

      pub number_as_assigned : (s : IntType) → t ≡ c.Int s → (a : CType) → Casts ctx x v t a → CastsAsAssigned ctx x v t a
      number_as_assigned s q a h = from_cast (number_or_void s q) h

      pub pointer_cast : (u : CType) → t ≡ c.Ptr u → (a : CType) → CastsAsAssigned ctx x v t a → Casts ctx x v t a
      pointer_cast u q a h = as_assigned a (λ n. pointer_or_struct u n q) h

      pub pointer_as_assigned : (u : CType) → t ≡ c.Ptr u → (a : CType) → Casts ctx x v t a → CastsAsAssigned ctx x v t a
      pointer_as_assigned u q a h = from_cast (pointer_or_void u q) h
