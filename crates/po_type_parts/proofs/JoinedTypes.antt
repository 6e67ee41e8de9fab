-- What binary operators and compound assignments make of operands of known types.
use Rattle.std.proofs.Common.{◌≡◌, refl, sym, ap, ◌∙◌, subst, ◌⊎◌, inl, inr, [], ◌∷◌, Contains}
use Rattle.std.specs.Prelude.{true, false}
use Rattle.std.proofs.lemmas.List.Elements.{All-contains, All-from_recursion}
use Rattle.po_lists.proofs.Members.{contains, has}
use Rattle.po_arith.specs.declared.int_type.IntType.{IntType}
use Rattle.po_base.specs.declared.operators.Op.{Op}
use Rattle.po_base.specs.declared.operators.Op.TheVariants as op
use Rattle.po_tree.specs.declared.expression.Exp.{Exp}
use Rattle.po_types.specs.declared.ctype.CType.{CType, out-CType}
use Rattle.po_types.specs.declared.ctype.CType.TheVariants as c
use Rattle.po_types.specs.declared.ctype.CType.TheOpen.{CType-F}
use Rattle.po_types.proofs.TypesLaws.{out_Int, out_Ptr}
use Rattle.po_typed.specs.Scopes.{Context}
use Rattle.po_typed.specs.Operands.{IsComplete, Combines, arithmetic, shift, numbers_compared, pointers_compared, pointer_plus, plus_pointer, pointer_minus, difference, equality_operators, compound_operators}
use Rattle.po_typed.proofs.OneType.{no_pointer}
use Rattle.po_operands.specs.declared.combining.Combined.{Combined}
use Rattle.po_operands.specs.Combining.{CombinesTo}
use Rattle.po_type_parts.specs.Joining.{Joins, joins_values, joins_zero_right, joins_zero_left, JoinsTo, WithZero, ComparesWithZero, zero_on_the_right, zero_on_the_left, Compounds, compounds_number, compounds_pointer, is_compound, Converts}

module _ (ctx : Context) (x y : Exp) where
  -- a pointer and a number, by the form of the first value
  abbrev Second : CType-F CType → CType → Type 0
  Second (CType-F.Ptr t) v = (s : IntType) × (v ≡ c.Int s)
  Second (CType-F.Int s) v = (t : CType) × (v ≡ c.Ptr t)
  Second _ v = ⊥

  second : {u v : CType} {p : Combined} → ComparesWithZero ctx x u y v p → Second (out-CType u) v
  second (zero_on_the_right t s h) = rw (out_Ptr t) (s, refl)
  second (zero_on_the_left t s h) = rw (out_Int s) (t, refl)

  abbrev Compared : CType-F CType → CType-F CType → Combined → Type 0
  Compared (CType-F.Ptr t) (CType-F.Int s) p = WithZero ctx y (c.Ptr t) p
  Compared (CType-F.Int s) (CType-F.Ptr t) p = WithZero ctx x (c.Ptr t) p
  Compared _ _ p = ⊥

  opened : {u v : CType} {p : Combined} → ComparesWithZero ctx x u y v p → Compared (out-CType u) (out-CType v) p
  opened (zero_on_the_right t s h) = rw (out_Ptr t, out_Int s) h
  opened (zero_on_the_left t s h) = rw (out_Ptr t, out_Int s) h

  at : {u v : CType} {p : Combined} {l m : CType-F CType} → out-CType u ≡ l → out-CType v ≡ m → ComparesWithZero ctx x u y v p → Compared l m p
  at {v = v} {p = p} {l = l} f g h = subst (λ k. Compared l k p) g (subst (λ k. Compared k (out-CType v) p) f (opened h))

  module _ (u v : CType) where
    pub pointer_and_number : (t : CType) → u ≡ c.Ptr t → ((s : IntType) → v ≡ c.Int s → ⊥) → (p : Combined) → ComparesWithZero ctx x u y v p → ⊥
    pointer_and_number t q n p h = let k = subst (λ l. Second l v) (ap out-CType q ∙ out_Ptr t) (second h) in n k.0 k.1

    pub number_and_pointer : (s : IntType) → u ≡ c.Int s → ((t : CType) → v ≡ c.Ptr t → ⊥) → (p : Combined) → ComparesWithZero ctx x u y v p → ⊥
    number_and_pointer s q n p h = let k = subst (λ l. Second l v) (ap out-CType q ∙ out_Int s) (second h) in n k.0 k.1

    module _ (t : CType) (s : IntType) where
      pub zero_right : u ≡ c.Ptr t → v ≡ c.Int s → (p : Combined) → WithZero ctx y u p → ComparesWithZero ctx x u y v p
      zero_right e f p h = subst (λ z. ComparesWithZero ctx x z y v p) (sym e) (subst (λ z. ComparesWithZero ctx x (c.Ptr t) y z p) (sym f) (zero_on_the_right t s (subst (λ z. WithZero ctx y z p) e h)))

      pub right_zero : u ≡ c.Ptr t → v ≡ c.Int s → (p : Combined) → ComparesWithZero ctx x u y v p → WithZero ctx y u p
      right_zero e f p h = subst (λ z. WithZero ctx y z p) (sym e) (at (ap out-CType e ∙ out_Ptr t) (ap out-CType f ∙ out_Int s) h)

      pub zero_left : u ≡ c.Int s → v ≡ c.Ptr t → (p : Combined) → WithZero ctx x v p → ComparesWithZero ctx x u y v p
      zero_left e f p h = subst (λ z. ComparesWithZero ctx x z y v p) (sym e) (subst (λ z. ComparesWithZero ctx x (c.Int s) y z p) (sym f) (zero_on_the_left t s (subst (λ z. WithZero ctx x z p) f h)))

      pub left_zero : u ≡ c.Int s → v ≡ c.Ptr t → (p : Combined) → ComparesWithZero ctx x u y v p → WithZero ctx x v p
      left_zero e f p h = subst (λ z. WithZero ctx x z p) (sym f) (at (ap out-CType e ∙ out_Int s) (ap out-CType f ∙ out_Ptr t) h)

  pub no_zero : {u v : CType} {p : Combined} → ComparesWithZero ctx x u y v p → ((t : CType) → u ≡ c.Ptr t → ⊥) → ((s : IntType) → u ≡ c.Int s → ⊥) → ⊥
  no_zero (zero_on_the_right t s h) n m = n t refl
  no_zero (zero_on_the_left t s h) n m = m s refl

  module _ (o : Op) where
    -- either values are combined, or one is a pointer and the other one the constant 0
    taken : {u v r a b : CType} → Joins ctx o x u y v r a b → (p : Combined) → p.result ≡ r → p.left ≡ a → p.right ≡ b →
        Combines ctx o u v r a b ⊎ (Contains equality_operators o × ComparesWithZero ctx x u y v p)
    taken (joins_values h) p e f g = inl h
    taken (joins_zero_right t s k h) p e f g = inr (k, zero_on_the_right t s (record { zero = h; result = e; left = f; right = g }))
    taken (joins_zero_left t s k h) p e f g = inr (k, zero_on_the_left t s (record { zero = h; result = e; left = f; right = g }))

    joined : {u v : CType} (p : Combined) → Contains equality_operators o → ComparesWithZero ctx x u y v p → JoinsTo ctx o x u y v p
    joined p k (zero_on_the_right t s h) = rw (h.result, h.left, h.right) (joins_zero_right t s k h.zero)
    joined p k (zero_on_the_left t s h) = rw (h.result, h.left, h.right) (joins_zero_left t s k h.zero)

    module _ (u v : CType) where
      pub combined : (p : Combined) → CombinesTo ctx o u v p → JoinsTo ctx o x u y v p
      combined p h = joins_values h

      module _ (n : (p : Combined) → CombinesTo ctx o u v p → ⊥) where
        pub joins_equal : (Contains equality_operators o → ⊥) → (p : Combined) → JoinsTo ctx o x u y v p → ⊥
        joins_equal m p h = elim (taken h p refl refl refl) [ inl k ↦ n p k | inr k ↦ m k.0 ]

        pub to_join : Contains equality_operators o → (p : Combined) → ComparesWithZero ctx x u y v p → JoinsTo ctx o x u y v p
        to_join k p h = joined p k h

        pub from_join : (p : Combined) → JoinsTo ctx o x u y v p → ComparesWithZero ctx x u y v p
        from_join p h = elim (taken h p refl refl refl) [ inl k ↦ absurd (n p k) | inr k ↦ k.1 ]

-- the operators that are listed
listed : (o : Op) → true ≡ is_compound o → Contains compound_operators o
listed op.Add q = contains compound_operators op.Add (inl refl)
listed op.Sub q = contains compound_operators op.Sub (inr (inl refl))
listed op.Mul q = contains compound_operators op.Mul (inr (inr (inl refl)))
listed op.Div q = contains compound_operators op.Div (inr (inr (inr (inl refl))))
listed op.Rem q = contains compound_operators op.Rem (inr (inr (inr (inr (inl refl)))))
listed op.And q = contains compound_operators op.And (inr (inr (inr (inr (inr (inl refl))))))
listed op.Or q = contains compound_operators op.Or (inr (inr (inr (inr (inr (inr (inl refl)))))))
listed op.Xor q = contains compound_operators op.Xor (inr (inr (inr (inr (inr (inr (inr (inl refl))))))))
listed op.Shl q = contains compound_operators op.Shl (inr (inr (inr (inr (inr (inr (inr (inr (inl refl)))))))))
listed op.Shr q = contains compound_operators op.Shr (inr (inr (inr (inr (inr (inr (inr (inr (inr (inl refl))))))))))
listed _ q = absurd cc

unlisted : (o : Op) → false ≡ is_compound o → Contains compound_operators o → ⊥
unlisted o q h =
    let k : is_compound o ≡ true = All-contains (λ z. is_compound z ≡ true) compound_operators o (All-from_recursion (λ z. is_compound z ≡ true) compound_operators (refl, (refl, (refl, (refl, (refl, (refl, (refl, (refl, (refl, (refl, tt))))))))))) h in
    let f : false ≡ true = q ∙ k in
    absurd cc

module _ (ctx : Context) where
  -- with a number on the right, what is combined is compounded
  by_number : {o : Op} {t v r a b : CType} → Combines ctx o t v r a b → Contains compound_operators o → (s : IntType) → v ≡ c.Int s → Compounds ctx o t v a b
  by_number (arithmetic o s t h) k n q = compounds_number s t k (arithmetic o s t h)
  by_number (shift o s t h) k n q = compounds_number s t k (shift o s t h)
  by_number (numbers_compared o s t h) k n q = compounds_number s t k (numbers_compared o s t h)
  by_number (pointers_compared o t u h) k n q = no_pointer n u (sym q)
  by_number (pointer_plus t s h) k n q = compounds_pointer t s (contains (op.Add ∷ (op.Sub ∷ [])) op.Add (inl refl)) h
  by_number (plus_pointer t s h) k n q = no_pointer n t (sym q)
  by_number (pointer_minus t s h) k n q = compounds_pointer t s (contains (op.Add ∷ (op.Sub ∷ [])) op.Sub (inr (inl refl))) h
  by_number (difference t h) k n q = no_pointer n t (sym q)

module _ (ctx : Context) (o : Op) where
  moved : (t : CType) (s : IntType) → Contains (op.Add ∷ op.Sub ∷ []) o → IsComplete ctx t → Combines ctx o (c.Ptr t) (c.Int s) (c.Ptr t) (c.Ptr t) (c.Int s)
  moved t s k h = elim (has (op.Add ∷ (op.Sub ∷ [])) o k) [
    | inl q ↦ subst (λ z. Combines ctx z (c.Ptr t) (c.Int s) (c.Ptr t) (c.Ptr t) (c.Int s)) q (pointer_plus t s h)
    | inr d ↦ elim d [ inl q ↦ subst (λ z. Combines ctx z (c.Ptr t) (c.Int s) (c.Ptr t) (c.Ptr t) (c.Int s)) q (pointer_minus t s h) | inr f ↦ absurd f ]
  ]

  added : Contains (op.Add ∷ op.Sub ∷ []) o → Contains compound_operators o
  added k = elim (has (op.Add ∷ (op.Sub ∷ [])) o k) [
    | inl q ↦ subst (Contains compound_operators) q (contains compound_operators op.Add (inl refl))
    | inr d ↦ elim d [ inl q ↦ subst (Contains compound_operators) q (contains compound_operators op.Sub (inr (inl refl))) | inr f ↦ absurd f ]
  ]

  is_combined : {t v a b : CType} → Compounds ctx o t v a b → (r : CType) × Combines ctx o t v r a b
  is_combined (compounds_number s t k h) = (_, h)
  is_combined (compounds_pointer t s k h) = (c.Ptr t, moved t s k h)

  compound_operator : {t v a b : CType} → Compounds ctx o t v a b → Contains compound_operators o
  compound_operator (compounds_number s t k h) = k
  compound_operator (compounds_pointer t s k h) = added k

  compound_value : {t v a b : CType} → Compounds ctx o t v a b → (s : IntType) × (v ≡ c.Int s)
  compound_value (compounds_number s t k h) = (t, refl)
  compound_value (compounds_pointer t s k h) = (s, refl)

  module _ (t v : CType) where
    pub none_combined : ((p : Combined) → CombinesTo ctx o t v p → ⊥) → (p : CType × CType) → Converts ctx o t v p → ⊥
    none_combined n p h = n (record { result = h.0; left = p.0; right = p.1 }) h.1

    pub combined_so : (q : Combined) → CombinesTo ctx o t v q → Converts ctx o t v (q.left, q.right)
    combined_so q h = (q.result, h)

    pub compounded : (s : IntType) → v ≡ c.Int s → true ≡ is_compound o → (p : CType × CType) → Converts ctx o t v p → Compounds ctx o t v p.0 p.1
    compounded s q k p h = by_number ctx h.1 (listed o k) s q

    pub converted : (p : CType × CType) → Compounds ctx o t v p.0 p.1 → Converts ctx o t v p
    converted p h = is_combined h

    pub compounds_alone : false ≡ is_compound o → (p : CType × CType) → Compounds ctx o t v p.0 p.1 → ⊥
    compounds_alone q p h = unlisted o q (compound_operator h)

    pub compounds_numbers : ((s : IntType) → v ≡ c.Int s → ⊥) → (p : CType × CType) → Compounds ctx o t v p.0 p.1 → ⊥
    compounds_numbers n p h = let k = compound_value h in n k.0 k.1
