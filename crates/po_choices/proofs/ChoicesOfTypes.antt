-- What `? :` makes of values of known types, and of which types it makes nothing.
use Rattle.std.proofs.Common.{◌≡◌, ◌≢◌, ℕ, refl, sym, ap, ◌∙◌, subst, ◌⊎◌, inl, inr}
use Rattle.po_arith.specs.declared.int_type.IntType.{IntType}
use Rattle.po_tree.specs.declared.expression.Exp.{Exp}
use Rattle.po_types.specs.declared.ctype.CType.{CType, out-CType}
use Rattle.po_types.specs.declared.ctype.CType.TheVariants as c
use Rattle.po_types.specs.declared.ctype.CType.TheOpen.{CType-F}
use Rattle.po_types.specs.Types.{Agree, equal, composite}
use Rattle.po_types.proofs.TypesLaws.{out_Void, out_Int, out_Ptr, out_Struct}
use Rattle.po_typed.specs.Scopes.{Context}
use Rattle.po_typed.specs.Expressions.{Chooses, numbers, structs, voids, pointers, zero_right, zero_left, null_pointer_right, null_pointer_left, void_right, void_left}
use Rattle.po_typed.proofs.OneType.{one_structure}
use Rattle.po_choices.specs.Choosing.{BesideZero, BesideVoid}

module _ (ctx : Context) (y z : Exp) where
  -- what the second type is, by the form of the first
  abbrev Second : CType-F CType → CType → Type 0
  Second CType-F.Void v = v ≡ c.Void
  Second (CType-F.Int s) v = ((t : IntType) × (v ≡ c.Int t)) ⊎ ((x : CType) × (v ≡ c.Ptr x))
  Second (CType-F.Ptr t) v = ((s : IntType) × (v ≡ c.Int s)) ⊎ ((x : CType) × (v ≡ c.Ptr x))
  Second (CType-F.Struct n) v = v ≡ c.Struct n
  Second _ v = ⊥

  second : {u v r : CType} → Chooses ctx y u z v r → Second (out-CType u) v
  second (numbers s t) = rw (out_Int s) (inl (t, refl))
  second (structs n) = rw (out_Struct n) refl
  second voids = rw out_Void refl
  second (pointers {t = t} {u = u} h) = rw (out_Ptr t) (inr (u, refl))
  second (zero_right t s h) = rw (out_Ptr t) (inl (s, refl))
  second (zero_left t s h) = rw (out_Int s) (inr (t, refl))
  second (null_pointer_right {t = t} h k) = rw (out_Ptr t) (inr (c.Void, refl))
  second (null_pointer_left {t = t} h k) = rw (out_Ptr c.Void) (inr (t, refl))
  second (void_right {t = t} h k) = rw (out_Ptr t) (inr (c.Void, refl))
  second (void_left {t = t} h k) = rw (out_Ptr c.Void) (inr (t, refl))

  module _ (u v : CType) where
    seen : {l : CType-F CType} → out-CType u ≡ l → (r : CType) → Chooses ctx y u z v r → Second l v
    seen q r h = subst (λ l. Second l v) q (second h)

    pub void_alone : u ≡ c.Void → v ≢ c.Void → (r : CType) → Chooses ctx y u z v r → ⊥
    void_alone q n r h = n (seen (ap out-CType q ∙ out_Void) r h)

    pub number_alone : (s : IntType) → u ≡ c.Int s → ((t : IntType) → v ≡ c.Int t → ⊥) → ((x : CType) → v ≡ c.Ptr x → ⊥) → (r : CType) → Chooses ctx y u z v r → ⊥
    number_alone s q n m r h = elim (seen (ap out-CType q ∙ out_Int s) r h) [ inl k ↦ n k.0 k.1 | inr k ↦ m k.0 k.1 ]

    pub pointer_alone : (x : CType) → u ≡ c.Ptr x → ((t : IntType) → v ≡ c.Int t → ⊥) → ((x : CType) → v ≡ c.Ptr x → ⊥) → (r : CType) → Chooses ctx y u z v r → ⊥
    pointer_alone x q n m r h = elim (seen (ap out-CType q ∙ out_Ptr x) r h) [ inl k ↦ n k.0 k.1 | inr k ↦ m k.0 k.1 ]

    pub struct_alone : (n : ℕ) → u ≡ c.Struct n → ((m : ℕ) → v ≡ c.Struct m → ⊥) → (r : CType) → Chooses ctx y u z v r → ⊥
    struct_alone n q k r h = k n (seen (ap out-CType q ∙ out_Struct n) r h)

  pub structs_differ : (m n : ℕ) → m ≢ n → (r : CType) → Chooses ctx y (c.Struct m) z (c.Struct n) r → ⊥
  structs_differ m n k r h = k (sym (one_structure n m (seen (c.Struct m) (c.Struct n) (out_Struct m) r h)))

  pub same_structs : (m n : ℕ) (r : CType) → m ≡ n → r ≡ c.Struct n → Chooses ctx y (c.Struct m) z (c.Struct n) r
  same_structs m n r q e = rw (q, e) (structs n)

  -- other types have no values that are chosen
  pub no_choice : {u v r : CType} → Chooses ctx y u z v r → u ≢ c.Void → ((s : IntType) → u ≡ c.Int s → ⊥) → ((x : CType) → u ≡ c.Ptr x → ⊥) → ((n : ℕ) → u ≡ c.Struct n → ⊥) → ⊥
  no_choice (numbers s t) a b d e = b s refl
  no_choice (structs n) a b d e = e n refl
  no_choice voids a b d e = a refl
  no_choice (pointers {t = t} h) a b d e = d t refl
  no_choice (zero_right t s h) a b d e = d t refl
  no_choice (zero_left t s h) a b d e = b s refl
  no_choice (null_pointer_right {t = t} h k) a b d e = d t refl
  no_choice (null_pointer_left h k) a b d e = d c.Void refl
  no_choice (void_right {t = t} h k) a b d e = d t refl
  no_choice (void_left h k) a b d e = d c.Void refl

  -- of which pointers one is chosen, and which
  abbrev OfPointers : CType → CType → Type 0
  OfPointers t u = Agree t u ⊎ ((t ≡ c.Void) ⊎ (u ≡ c.Void))

  abbrev Chosen : CType-F CType → CType-F CType → CType → Type 0
  Chosen (CType-F.Ptr t) (CType-F.Int s) r = BesideZero ctx z t r
  Chosen (CType-F.Int s) (CType-F.Ptr t) r = BesideZero ctx y t r
  Chosen (CType-F.Ptr t) (CType-F.Ptr u) r = OfPointers t u
  Chosen _ _ r = Unit {0}

  opened : {u v r : CType} → Chooses ctx y u z v r → Chosen (out-CType u) (out-CType v) r
  opened (numbers s t) = rw (out_Int s, out_Int t) tt
  opened (structs n) = rw (out_Struct n) tt
  opened voids = rw out_Void tt
  opened (pointers {t = t} {u = u} h) = rw (out_Ptr t, out_Ptr u) (inl h)
  opened (zero_right t s h) = rw (out_Ptr t, out_Int s) (h, refl)
  opened (zero_left t s h) = rw (out_Ptr t, out_Int s) (h, refl)
  opened (null_pointer_right {t = t} h k) = rw (out_Ptr t, out_Ptr c.Void) (inr (inr refl))
  opened (null_pointer_left {t = t} h k) = rw (out_Ptr t, out_Ptr c.Void) (inr (inl refl))
  opened (void_right {t = t} h k) = rw (out_Ptr t, out_Ptr c.Void) (inr (inr refl))
  opened (void_left {t = t} h k) = rw (out_Ptr t, out_Ptr c.Void) (inr (inl refl))

  at : {u v : CType} {l m : CType-F CType} (r : CType) → out-CType u ≡ l → out-CType v ≡ m → Chooses ctx y u z v r → Chosen l m r
  at {v = v} {l = l} r f g h = subst (λ k. Chosen l k r) g (subst (λ k. Chosen k (out-CType v) r) f (opened h))

  -- a pointer and a number
  module _ (t : CType) (s : IntType) (u v : CType) where
    pub from_zero_right : u ≡ c.Ptr t → v ≡ c.Int s → (r : CType) → Chooses ctx y u z v r → BesideZero ctx z t r
    from_zero_right p q r h = at r (ap out-CType p ∙ out_Ptr t) (ap out-CType q ∙ out_Int s) h

    pub by_zero_right : u ≡ c.Ptr t → v ≡ c.Int s → (r : CType) → BesideZero ctx z t r → Chooses ctx y u z v r
    by_zero_right p q r h = rw (p, q, h.1) (zero_right t s h.0)

    pub from_zero_left : u ≡ c.Int s → v ≡ c.Ptr t → (r : CType) → Chooses ctx y u z v r → BesideZero ctx y t r
    from_zero_left p q r h = at r (ap out-CType p ∙ out_Int s) (ap out-CType q ∙ out_Ptr t) h

    pub by_zero_left : u ≡ c.Int s → v ≡ c.Ptr t → (r : CType) → BesideZero ctx y t r → Chooses ctx y u z v r
    by_zero_left p q r h = rw (p, q, h.1) (zero_left t s h.0)

  -- two pointers, to t and to u, which are known by other names
  module _ (t u f s : CType) (e : f ≡ t) (g : s ≡ u) where
    not_twice_void : (Agree f s → ⊥) → f ≡ c.Void → s ≡ c.Void → ⊥
    not_twice_void n p q = n (rw (p, q) (equal c.Void))

    pub agreeing : (r : CType) → Agree f s → r ≡ c.Ptr (composite f s) → Chooses ctx y (c.Ptr t) z (c.Ptr u) r
    agreeing r h q = rw (q, ← e, ← g) (pointers h)

    pub second_is_void : (Agree f s → ⊥) → s ≡ c.Void → (r : CType) → BesideVoid ctx z t r → Chooses ctx y (c.Ptr t) z (c.Ptr u) r
    second_is_void n q r (inl p) = let v : u ≡ c.Void = sym g ∙ q in rw (v, p.1) (null_pointer_right (λ k. not_twice_void n (e ∙ k) q) p.0)
    second_is_void n q r (inr p) = let v : u ≡ c.Void = sym g ∙ q in rw (v, p.1) (void_right (λ k. not_twice_void n (e ∙ k) q) p.0)

    pub first_is_void : (Agree f s → ⊥) → f ≡ c.Void → (r : CType) → BesideVoid ctx y u r → Chooses ctx y (c.Ptr t) z (c.Ptr u) r
    first_is_void n q r (inl p) = let v : t ≡ c.Void = sym e ∙ q in rw (v, p.1) (null_pointer_left (λ k. not_twice_void n q (g ∙ k)) p.0)
    first_is_void n q r (inr p) = let v : t ≡ c.Void = sym e ∙ q in rw (v, p.1) (void_left (λ k. not_twice_void n q (g ∙ k)) p.0)

    pub neither_is_void : (Agree f s → ⊥) → s ≢ c.Void → f ≢ c.Void → (r : CType) → Chooses ctx y (c.Ptr t) z (c.Ptr u) r → ⊥
    neither_is_void n k l r h = elim (at r (out_Ptr t) (out_Ptr u) h) [
      | inl a ↦ n (subst (λ v. Agree v s) (sym e) (subst (Agree t) (sym g) a))
      | inr d ↦ elim d [ inl q ↦ l (e ∙ q) | inr q ↦ k (g ∙ q) ]
    ]
