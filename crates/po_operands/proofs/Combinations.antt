-- What operators make of operands of known types, and of which types they make nothing.
use Rattle.std.proofs.Common.{◌≡◌, ◌≢◌, true, refl, sym, ap, ◌∙◌, subst, ◌⊎◌, inl, inr, Contains}
use Rattle.std.specs.Prelude.{cond}
use Rattle.std.proofs.lemmas.List.Elements.{All-contains, All-from_recursion}
use Rattle.po_lists.proofs.Members.{contains}
use Rattle.po_lists.proofs.Booleans.{false_unless_true}
use Rattle.po_arith.specs.declared.int_type.IntType.{IntType}
use Rattle.po_base.specs.declared.operators.Op.{Op}
use Rattle.po_base.specs.declared.operators.Op.TheVariants as op
use Rattle.po_types.specs.declared.ctype.CType.{CType, out-CType, roll-CType, roll-out-CType}
use Rattle.po_types.specs.declared.ctype.CType.TheVariants as c
use Rattle.po_types.specs.declared.ctype.CType.TheOpen.{CType-F}
use Rattle.po_types.specs.Integers.{promoted, common, int_type, difference_type}
use Rattle.po_types.proofs.TypesLaws.{out_Void, out_Int, out_Ptr}
use Rattle.po_typed.specs.Scopes.{Context}
use Rattle.po_typed.specs.Operands.{IsComplete, Combines, arithmetic, shift, numbers_compared, pointers_compared, pointer_plus, plus_pointer, pointer_minus, difference, arithmetic_operators, shift_operators, comparisons, compared_as, void_layer}
use Rattle.po_operands.specs.declared.combining.Class.TheVariants as k
use Rattle.po_operands.specs.declared.combining.Combined.{Combined}
use Rattle.po_operands.specs.Combining.{CombinesTo, class_of}

-- the operators of each class
are_arithmetic : (o : Op) → class_of o ≡ k.Arithmetic → Contains arithmetic_operators o
are_arithmetic op.Add q = contains arithmetic_operators op.Add (inl refl)
are_arithmetic op.Sub q = contains arithmetic_operators op.Sub (inr (inl refl))
are_arithmetic op.Mul q = contains arithmetic_operators op.Mul (inr (inr (inl refl)))
are_arithmetic op.Div q = contains arithmetic_operators op.Div (inr (inr (inr (inl refl))))
are_arithmetic op.Rem q = contains arithmetic_operators op.Rem (inr (inr (inr (inr (inl refl)))))
are_arithmetic op.And q = contains arithmetic_operators op.And (inr (inr (inr (inr (inr (inl refl))))))
are_arithmetic op.Or q = contains arithmetic_operators op.Or (inr (inr (inr (inr (inr (inr (inl refl)))))))
are_arithmetic op.Xor q = contains arithmetic_operators op.Xor (inr (inr (inr (inr (inr (inr (inr (inl refl))))))))
are_arithmetic _ q = absurd cc

are_shifts : (o : Op) → class_of o ≡ k.Shift → Contains shift_operators o
are_shifts op.Shl q = contains shift_operators op.Shl (inl refl)
are_shifts op.Shr q = contains shift_operators op.Shr (inr (inl refl))
are_shifts _ q = absurd cc

are_comparisons : (o : Op) → class_of o ≡ k.Comparison → Contains comparisons o
are_comparisons op.Eq q = contains comparisons op.Eq (inl refl)
are_comparisons op.Ne q = contains comparisons op.Ne (inr (inl refl))
are_comparisons op.Lt q = contains comparisons op.Lt (inr (inr (inl refl)))
are_comparisons op.Le q = contains comparisons op.Le (inr (inr (inr (inl refl))))
are_comparisons op.Gt q = contains comparisons op.Gt (inr (inr (inr (inr (inl refl)))))
are_comparisons op.Ge q = contains comparisons op.Ge (inr (inr (inr (inr (inr (inl refl))))))
are_comparisons _ q = absurd cc

is_comparison : (o : Op) → Contains comparisons o → class_of o ≡ k.Comparison
is_comparison o h = All-contains (λ z. class_of z ≡ k.Comparison) comparisons o (All-from_recursion (λ z. class_of z ≡ k.Comparison) comparisons (refl, (refl, (refl, (refl, (refl, (refl, tt))))))) h

subtracting : {o : Op} → o ≡ op.Sub → class_of o ≢ k.Comparison
subtracting q e = let f : class_of op.Sub ≡ k.Comparison = ap class_of (sym q) ∙ e in absurd cc

void_by_layer : (l : CType-F CType) → void_layer l ≡ true → l ≡ CType-F.Void
void_by_layer CType-F.Void q = refl
void_by_layer _ q = absurd cc

void_from_layer : (t : CType) → void_layer (out-CType t) ≡ true → t ≡ c.Void
void_from_layer t q = sym (roll-out-CType t) ∙ ap roll-CType (void_by_layer (out-CType t) q) ∙ c.rolls-Void

-- what a rule says of operands of these forms
abbrev Combinable : Context → Op → CType-F CType → CType-F CType → Type 0
Combinable ctx o (CType-F.Ptr t) (CType-F.Ptr u) = Contains comparisons o ⊎ ((o ≡ op.Sub) × ((t ≡ u) × IsComplete ctx t))
Combinable ctx o (CType-F.Ptr t) (CType-F.Int s) = IsComplete ctx t × ((o ≡ op.Add) ⊎ (o ≡ op.Sub))
Combinable ctx o (CType-F.Int s) (CType-F.Ptr t) = IsComplete ctx t × (o ≡ op.Add)
Combinable ctx o _ _ = Unit {0}

opened : {ctx : Context} {o : Op} {t u r a b : CType} → Combines ctx o t u r a b → Combinable ctx o (out-CType t) (out-CType u)
opened (arithmetic o s t h) = rw (out_Int s, out_Int t) tt
opened (shift o s t h) = rw (out_Int s, out_Int t) tt
opened (numbers_compared o s t h) = rw (out_Int s, out_Int t) tt
opened (pointers_compared o t u h) = rw (out_Ptr t, out_Ptr u) (inl h)
opened (pointer_plus t s h) = rw (out_Ptr t, out_Int s) (h, inl refl)
opened (plus_pointer t s h) = rw (out_Ptr t, out_Int s) (h, refl)
opened (pointer_minus t s h) = rw (out_Ptr t, out_Int s) (h, inr refl)
opened (difference t h) = rw (out_Ptr t) (inr (refl, (refl, h)))

-- operands are numbers and pointers
left_scalar : {ctx : Context} {o : Op} {t u r a b : CType} → Combines ctx o t u r a b → ((s : IntType) → t ≡ c.Int s → ⊥) → ((x : CType) → t ≡ c.Ptr x → ⊥) → ⊥
left_scalar (arithmetic o s t h) n m = n s refl
left_scalar (shift o s t h) n m = n s refl
left_scalar (numbers_compared o s t h) n m = n s refl
left_scalar (pointers_compared o t u h) n m = m t refl
left_scalar (pointer_plus t s h) n m = m t refl
left_scalar (plus_pointer t s h) n m = n s refl
left_scalar (pointer_minus t s h) n m = m t refl
left_scalar (difference t h) n m = m t refl

right_scalar : {ctx : Context} {o : Op} {t u r a b : CType} → Combines ctx o t u r a b → ((s : IntType) → u ≡ c.Int s → ⊥) → ((x : CType) → u ≡ c.Ptr x → ⊥) → ⊥
right_scalar (arithmetic o s t h) n m = n t refl
right_scalar (shift o s t h) n m = n t refl
right_scalar (numbers_compared o s t h) n m = n t refl
right_scalar (pointers_compared o t u h) n m = m u refl
right_scalar (pointer_plus t s h) n m = n s refl
right_scalar (plus_pointer t s h) n m = m t refl
right_scalar (pointer_minus t s h) n m = n s refl
right_scalar (difference t h) n m = m t refl

module _ (ctx : Context) (o : Op) where
  pub left_is_scalar : (t u : CType) → ((s : IntType) → t ≡ c.Int s → ⊥) → ((x : CType) → t ≡ c.Ptr x → ⊥) → (p : Combined) → CombinesTo ctx o t u p → ⊥
  left_is_scalar t u n m p h = left_scalar h n m

  pub right_is_scalar : (t u : CType) → ((s : IntType) → u ≡ c.Int s → ⊥) → ((x : CType) → u ≡ c.Ptr x → ⊥) → (p : Combined) → CombinesTo ctx o t u p → ⊥
  right_is_scalar t u n m p h = right_scalar h n m

  at : {t u : CType} {l m : CType-F CType} (p : Combined) → out-CType t ≡ l → out-CType u ≡ m → CombinesTo ctx o t u p → Combinable ctx o l m
  at {u = u} {l = l} p f g h = subst (Combinable ctx o l) g (subst (λ z. Combinable ctx o z (out-CType u)) f (opened h))

  -- two numbers
  pub computed : (s t : IntType) (p : Combined) → class_of o ≡ k.Arithmetic → p.result ≡ c.Int (common s t) → p.left ≡ c.Int (common s t) → p.right ≡ c.Int (common s t) →
      CombinesTo ctx o (c.Int s) (c.Int t) p
  computed s t p q e f g = rw (e, f, g) (arithmetic o s t (are_arithmetic o q))

  pub shifted : (s t : IntType) (p : Combined) → class_of o ≡ k.Shift → p.result ≡ c.Int (promoted s) → p.left ≡ c.Int (promoted s) → p.right ≡ c.Int (promoted t) →
      CombinesTo ctx o (c.Int s) (c.Int t) p
  shifted s t p q e f g = rw (e, f, g) (shift o s t (are_shifts o q))

  pub compared_numbers : (s t : IntType) (p : Combined) → class_of o ≡ k.Comparison → p.result ≡ c.Int int_type → p.left ≡ c.Int (common s t) → p.right ≡ c.Int (common s t) →
      CombinesTo ctx o (c.Int s) (c.Int t) p
  compared_numbers s t p q e f g = rw (e, f, g) (numbers_compared o s t (are_comparisons o q))

  -- a pointer t to x, and a number
  module _ (t x : CType) (s : IntType) (is : t ≡ c.Ptr x) where
    pub moved_on : (p : Combined) → IsComplete ctx x → o ≡ op.Add → (p.result ≡ t) × (p.left ≡ t) × (p.right ≡ c.Int s) → CombinesTo ctx o t (c.Int s) p
    moved_on p h q e = rw (q, e.0, e.1, e.2, is) (pointer_plus x s h)

    pub moved_back : (p : Combined) → IsComplete ctx x → o ≡ op.Sub → (p.result ≡ t) × (p.left ≡ t) × (p.right ≡ c.Int s) → CombinesTo ctx o t (c.Int s) p
    moved_back p h q e = rw (q, e.0, e.1, e.2, is) (pointer_minus x s h)

    pub moves_over_objects : (IsComplete ctx x → ⊥) → (p : Combined) → CombinesTo ctx o t (c.Int s) p → ⊥
    moves_over_objects n p h = n (at p (ap out-CType is ∙ out_Ptr x) (out_Int s) h).0

    pub moves_by_sums : (o ≢ op.Add) → (o ≢ op.Sub) → (p : Combined) → CombinesTo ctx o t (c.Int s) p → ⊥
    moves_by_sums n m p h = elim (at p (ap out-CType is ∙ out_Ptr x) (out_Int s) h).1 [ inl q ↦ n q | inr q ↦ m q ]

    pub moved_behind : (p : Combined) → IsComplete ctx x → o ≡ op.Add → p.result ≡ t → p.left ≡ c.Int s → p.right ≡ t → CombinesTo ctx o (c.Int s) t p
    moved_behind p h q e f g = rw (q, e, f, g, is) (plus_pointer x s h)

    pub added_over_objects : (IsComplete ctx x → ⊥) → (p : Combined) → CombinesTo ctx o (c.Int s) t p → ⊥
    added_over_objects n p h = n (at p (out_Int s) (ap out-CType is ∙ out_Ptr x) h).0

    pub is_added : (o ≢ op.Add) → (p : Combined) → CombinesTo ctx o (c.Int s) t p → ⊥
    is_added n p h = n (at p (out_Int s) (ap out-CType is ∙ out_Ptr x) h).1

  -- pointers t to x and u to y
  module _ (t x u y : CType) (is : t ≡ c.Ptr x) (other : u ≡ c.Ptr y) where
    taken : (p : Combined) → CombinesTo ctx o t u p → Contains comparisons o ⊎ ((o ≡ op.Sub) × ((x ≡ y) × IsComplete ctx x))
    taken p h = at p (ap out-CType is ∙ out_Ptr x) (ap out-CType other ∙ out_Ptr y) h

    pub compared_pointers : (p : Combined) → class_of o ≡ k.Comparison → p.result ≡ c.Int int_type → p.left ≡ c.Ptr (compared_as x y) → p.right ≡ c.Ptr (compared_as x y) → CombinesTo ctx o t u p
    compared_pointers p q e f g = rw (e, f, g, is, other) (pointers_compared o x y (are_comparisons o q))

    pub subtracted : (p : Combined) → o ≡ op.Sub → x ≡ y → IsComplete ctx x → p.result ≡ c.Int (difference_type ctx.target) → p.left ≡ t → p.right ≡ u → CombinesTo ctx o t u p
    subtracted p q same h e f g =
        let twice : u ≡ c.Ptr x = other ∙ ap c.Ptr (sym same) in
        rw (q, e, f, g, is, twice) (difference x h)

    -- what is no comparison subtracts, from a pointer of the same type to a complete type
    not_compared : class_of o ≢ k.Comparison → (p : Combined) → CombinesTo ctx o t u p → (o ≡ op.Sub) × ((x ≡ y) × IsComplete ctx x)
    not_compared n p h = elim (taken p h) [ inl q ↦ absurd (n (is_comparison o q)) | inr q ↦ q ]

    pub subtracts_alone : class_of o ≢ k.Comparison → o ≢ op.Sub → (p : Combined) → CombinesTo ctx o t u p → ⊥
    subtracts_alone n m p h = m (not_compared n p h).0

    pub subtracts_the_same : o ≡ op.Sub → x ≢ y → (p : Combined) → CombinesTo ctx o t u p → ⊥
    subtracts_the_same q n p h = n (not_compared (subtracting q) p h).1.0

    pub subtracts_over_objects : o ≡ op.Sub → (IsComplete ctx x → ⊥) → (p : Combined) → CombinesTo ctx o t u p → ⊥
    subtracts_over_objects q n p h = n (not_compared (subtracting q) p h).1.1

-- what two pointers are converted to
pub as_the_other : (x y t : CType) → t ≡ c.Ptr y → y ≡ c.Void → t ≡ c.Ptr (compared_as x y)
as_the_other x y t is q = is ∙ ap (λ l. c.Ptr (cond (void_layer l) y x)) (sym (ap out-CType q ∙ out_Void))

pub as_the_first : (x y t : CType) → t ≡ c.Ptr x → y ≢ c.Void → t ≡ c.Ptr (compared_as x y)
as_the_first x y t is n = is ∙ ap c.Ptr (sym (ap (λ b. cond b y x) (false_unless_true (void_layer (out-CType y)) (λ q. n (void_from_layer y q)))))
