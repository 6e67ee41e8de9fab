-- Which values the conversions of a format take.
use Rattle.std.proofs.Common.{◌≡◌, refl, sym, subst, ap, ◌∙◌, ◌⊎◌, inl, inr, [], ◌∷◌, Contains}
use Rattle.po_lists.proofs.Members.{contains, has}
use Rattle.po_arith.specs.declared.int_type.IntType.{IntType}
use Rattle.po_arith.specs.declared.target.Target.{Target}
use Rattle.po_types.specs.declared.ctype.CType.{CType}
use Rattle.po_types.specs.declared.ctype.CType.TheVariants as c
use Rattle.po_types.specs.declared.format.Spec.{Spec}
use Rattle.po_types.specs.declared.format.Spec.TheVariants as f
use Rattle.po_types.specs.Integers.{promoted, int_type, size_type, long_type, unsigned_type}
use Rattle.po_typed.specs.Expressions.{char}
use Rattle.po_typed.proofs.OneType.{one_integer}
use Rattle.po_type_parts.specs.Converting.{PromotesTo, PrintsAs, prints_int, prints_long, prints_size, prints_text}

two_of : {first second t : IntType} → Contains (first ∷ (second ∷ [])) t → (first ≡ t) ⊎ (second ≡ t)
two_of {first = first} {second = second} {t = t} h = elim (has (first ∷ (second ∷ [])) t h) [ inl q ↦ inl q | inr d ↦ elim d [ inl q ↦ inr q | inr n ↦ absurd n ] ]

of_two : {first second t : IntType} → (first ≡ t) ⊎ (second ≡ t) → Contains (first ∷ (second ∷ [])) t
of_two {first = first} {second = second} {t = t} (inl q) = contains (first ∷ (second ∷ [])) t (inl q)
of_two {first = first} {second = second} {t = t} (inr q) = contains (first ∷ (second ∷ [])) t (inr (inl q))

-- a number that is promoted to one of two types
module _ (first second : IntType) (v : CType) where
  pub promotes_to : (s : IntType) → v ≡ c.Int s → (t : IntType) → t ≡ promoted s → (first ≡ t) ⊎ (second ≡ t) → (a : CType) → a ≡ c.Int t → PromotesTo first second v a
  promotes_to s q t e (inl k) a g = record { number = s; value = q; fits = inl (k ∙ e); conversion = g ∙ ap c.Int e }
  promotes_to s q t e (inr k) a g = record { number = s; value = q; fits = inr (k ∙ e); conversion = g ∙ ap c.Int e }

  pub promoted_elsewhere : (s : IntType) → v ≡ c.Int s → (t : IntType) → t ≡ promoted s → ((first ≡ t) ⊎ (second ≡ t) → ⊥) → (a : CType) → PromotesTo first second v a → ⊥
  promoted_elsewhere s q t e n a h =
      let same : promoted h.number ≡ t = ap promoted (one_integer h.number s (sym h.value ∙ q)) ∙ sym e in
      n (elim h.fits [ inl k ↦ inl (k ∙ same) | inr k ↦ inr (k ∙ same) ])

  pub no_number : ((s : IntType) → v ≡ c.Int s → ⊥) → (a : CType) → PromotesTo first second v a → ⊥
  no_number n a h = n h.number h.value

module _ (target : Target) (v a : CType) where
  pub int_printed : PromotesTo int_type (unsigned_type 32) v a → PrintsAs target f.Int v a
  int_printed h = rw (h.value, h.conversion) (prints_int h.number (of_two h.fits))

  long_printed : PromotesTo (long_type target) (size_type target) v a → PrintsAs target f.Long v a
  long_printed h = rw (h.value, h.conversion) (prints_long h.number (of_two h.fits))

  size_printed : PromotesTo (long_type target) (size_type target) v a → PrintsAs target f.Size v a
  size_printed h = rw (h.value, h.conversion) (prints_size h.number (of_two h.fits))

  pub text_printed : (v ≡ c.Ptr char) × (a ≡ v) → PrintsAs target f.Text v a
  text_printed h = rw (h.1, h.0) prints_text

  abbrev pub Printed : Spec → Type 0
  Printed f.Int = PromotesTo int_type (unsigned_type 32) v a
  Printed f.Long = PromotesTo (long_type target) (size_type target) v a
  Printed f.Size = PromotesTo (long_type target) (size_type target) v a
  Printed f.Text = (v ≡ c.Ptr char) × (a ≡ v)

-- what the value is, by the conversion
pub printed : {target : Target} {g : Spec} {v a : CType} → PrintsAs target g v a → Printed target v a g
printed (prints_int s h) = record { number = s; value = refl; fits = two_of h; conversion = refl }
printed (prints_long s h) = record { number = s; value = refl; fits = two_of h; conversion = refl }
printed (prints_size s h) = record { number = s; value = refl; fits = two_of h; conversion = refl }
printed prints_text = (refl, refl)

-- the types that a long and a size are promoted to are known by other names
module _ (target : Target) (first second : IntType) (e : first ≡ long_type target) (g : second ≡ size_type target) (v : CType) where
  renamed : (a : CType) → PromotesTo first second v a → PromotesTo (long_type target) (size_type target) v a
  renamed a h = subst (λ z. PromotesTo z (size_type target) v a) e (subst (λ z. PromotesTo first z v a) g h)

  back : (a : CType) → PromotesTo (long_type target) (size_type target) v a → PromotesTo first second v a
  back a h = subst (λ z. PromotesTo z second v a) (sym e) (subst (λ z. PromotesTo (long_type target) z v a) (sym g) h)

  pub prints_a_long : (a : CType) → PromotesTo first second v a → PrintsAs target f.Long v a
  prints_a_long a h = long_printed target v a (renamed a h)

  pub long_is_promoted : (a : CType) → PrintsAs target f.Long v a → PromotesTo first second v a
  long_is_promoted a h = back a (printed h)

  pub prints_a_size : (a : CType) → PromotesTo first second v a → PrintsAs target f.Size v a
  prints_a_size a h = size_printed target v a (renamed a h)

  pub size_is_promoted : (a : CType) → PrintsAs target f.Size v a → PromotesTo first second v a
  size_is_promoted a h = back a (printed h)
