-- Which types subscripts, members and callees have, and of which operands there is none.
use Rattle.std.proofs.Common.{◌≡◌, ℕ, List, [], Option, Some, None, refl, sym, ap, ◌∙◌, subst, Bor}
use Rattle.std.specs.Prelude.{get_or, MatchOption}
use Rattle.std.specs.Option.{option_copied}
use Rattle.po_arith.specs.declared.int_type.IntType.{IntType}
use Rattle.po_types.specs.declared.ctype.CType.{CType, out-CType}
use Rattle.po_types.specs.declared.ctype.CType.TheVariants as c
use Rattle.po_types.specs.declared.ctype.CType.TheOpen.{CType-F}
use Rattle.po_types.specs.Tables.{found}
use Rattle.po_types.proofs.TypesLaws.{out_Int, out_Ptr}
use Rattle.po_typed.specs.Scopes.{Context}
use Rattle.po_typed.specs.Operands.{IsComplete}
use Rattle.po_typed.proofs.OneType.{one_structure, one_pointee}
use Rattle.po_type_parts.specs.Designating.{Subscripts, subscripts_pointer, subscripts_number, HasMember, HasArrowMember}

module _ (ctx : Context) where
  -- what the second value is, by the form of the first
  abbrev Second : CType-F CType → CType → Type 0
  Second (CType-F.Ptr t) v = (s : IntType) × (v ≡ c.Int s)
  Second (CType-F.Int s) v = (t : CType) × (v ≡ c.Ptr t)
  Second _ v = ⊥

  second : {u v t : CType} → Subscripts ctx u v t → Second (out-CType u) v
  second (subscripts_pointer t s h) = rw (out_Ptr t) (s, refl)
  second (subscripts_number t s h) = rw (out_Int s) (t, refl)

  abbrev Element : CType-F CType → CType-F CType → CType → Type 0
  Element (CType-F.Ptr t) (CType-F.Int s) r = IsComplete ctx t × (r ≡ t)
  Element (CType-F.Int s) (CType-F.Ptr t) r = IsComplete ctx t × (r ≡ t)
  Element _ _ r = ⊥

  opened : {u v t : CType} → Subscripts ctx u v t → Element (out-CType u) (out-CType v) t
  opened (subscripts_pointer t s h) = rw (out_Ptr t, out_Int s) (h, refl)
  opened (subscripts_number t s h) = rw (out_Ptr t, out_Int s) (h, refl)

  at : {u v t : CType} {l m : CType-F CType} → out-CType u ≡ l → out-CType v ≡ m → Subscripts ctx u v t → Element l m t
  at {v = v} {t = t} {l = l} f g h = subst (λ k. Element l k t) g (subst (λ k. Element k (out-CType v) t) f (opened h))

  module _ (u v : CType) where
    pub pointer_takes_numbers : (x : CType) → u ≡ c.Ptr x → ((s : IntType) → v ≡ c.Int s → ⊥) → (t : CType) → Subscripts ctx u v t → ⊥
    pointer_takes_numbers x q n t h = let k = subst (λ l. Second l v) (ap out-CType q ∙ out_Ptr x) (second h) in n k.0 k.1

    pub number_takes_pointers : (s : IntType) → u ≡ c.Int s → ((x : CType) → v ≡ c.Ptr x → ⊥) → (t : CType) → Subscripts ctx u v t → ⊥
    number_takes_pointers s q n t h = let k = subst (λ l. Second l v) (ap out-CType q ∙ out_Int s) (second h) in n k.0 k.1

    -- a pointer to x, which is known by another name, and the number s, in any order
    module _ (x : CType) (s : IntType) where
      element_of_pointer : u ≡ c.Ptr x → v ≡ c.Int s → (t : CType) → IsComplete ctx x → t ≡ x → Subscripts ctx u v t
      element_of_pointer p q t h e = rw (p, q, e) (subscripts_pointer x s h)

      element_behind_number : u ≡ c.Int s → v ≡ c.Ptr x → (t : CType) → IsComplete ctx x → t ≡ x → Subscripts ctx u v t
      element_behind_number p q t h e = rw (p, q, e) (subscripts_number x s h)

      pub pointer_told : u ≡ c.Ptr x → v ≡ c.Int s → (n : CType) → n ≡ x → (o : Option (Bor CType)) →
          MatchOption o (IsComplete ctx n → ⊥) (λ t. IsComplete ctx n × (t.now ≡ n)) → MatchOption o ((t : CType) → Subscripts ctx u v t → ⊥) (λ t. Subscripts ctx u v t.now)
      pointer_told p q n e None h = λ t k. h (subst (IsComplete ctx) (sym e) (at (ap out-CType p ∙ out_Ptr x) (ap out-CType q ∙ out_Int s) k).0)
      pointer_told p q n e (Some b) h = element_of_pointer p q b.now (subst (IsComplete ctx) e h.0) (h.1 ∙ e)

      pub number_told : u ≡ c.Int s → v ≡ c.Ptr x → (n : CType) → n ≡ x → (o : Option (Bor CType)) →
          MatchOption o (IsComplete ctx n → ⊥) (λ t. IsComplete ctx n × (t.now ≡ n)) → MatchOption o ((t : CType) → Subscripts ctx u v t → ⊥) (λ t. Subscripts ctx u v t.now)
      number_told p q n e None h = λ t k. h (subst (IsComplete ctx) (sym e) (at (ap out-CType p ∙ out_Int s) (ap out-CType q ∙ out_Ptr x) k).0)
      number_told p q n e (Some b) h = element_behind_number p q b.now (subst (IsComplete ctx) e h.0) (h.1 ∙ e)

  pub no_subscript : {u v t : CType} → Subscripts ctx u v t → ((x : CType) → u ≡ c.Ptr x → ⊥) → ((s : IntType) → u ≡ c.Int s → ⊥) → ⊥
  no_subscript (subscripts_pointer t s h) n m = n t refl
  no_subscript (subscripts_number t s h) n m = m s refl

  -- a member of the struct n
  module _ (u : CType) (n : ℕ) (q : u ≡ c.Struct n) (name : List ℕ) where
    found_member : (t : CType) → HasMember ctx u name t → found (get_or ctx.members n []) name ≡ Some t
    found_member t h = subst (λ k. found (get_or ctx.members k []) name ≡ Some t) (one_structure h.0 n (sym h.1.0 ∙ q)) h.1.1

    pub member_told : (o : Option (Bor CType)) → option_copied o ≡ found (get_or ctx.members n []) name →
        MatchOption o ((t : CType) → HasMember ctx u name t → ⊥) (λ t. HasMember ctx u name t.now)
    member_told None e = λ t h. let f : None ≡ Some t = e ∙ found_member t h in absurd cc
    member_told (Some b) e = (n, (q, sym e))

  -- what the pointer u points to
  module _ (u s : CType) (q : u ≡ c.Ptr s) (name : List ℕ) where
    at_pointee : (t : CType) → HasArrowMember ctx u name t → HasMember ctx s name t
    at_pointee t h = subst (λ z. HasMember ctx z name t) (one_pointee h.0 s (sym h.1.0 ∙ q)) h.1.1

    pub arrow_member_told : (n : CType) → n ≡ s → (o : Option (Bor CType)) → MatchOption o ((t : CType) → HasMember ctx n name t → ⊥) (λ t. HasMember ctx n name t.now) →
        MatchOption o ((t : CType) → HasArrowMember ctx u name t → ⊥) (λ t. HasArrowMember ctx u name t.now)
    arrow_member_told n e None h = λ t k. h t (subst (λ z. HasMember ctx z name t) (sym e) (at_pointee t k))
    arrow_member_told n e (Some b) h = (s, (q, subst (λ z. HasMember ctx z name b.now) e h))

  -- other types have no members
  pub no_struct : (u : CType) → ((n : ℕ) → u ≡ c.Struct n → ⊥) → (name : List ℕ) (t : CType) → HasMember ctx u name t → ⊥
  no_struct u n name t h = n h.0 h.1.0

  pub no_arrow : (u : CType) → ((s : CType) → u ≡ c.Ptr s → ⊥) → (name : List ℕ) (t : CType) → HasArrowMember ctx u name t → ⊥
  no_arrow u n name t h = n h.0 h.1.0
