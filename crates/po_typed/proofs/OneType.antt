-- A type is of one form, with one set of parts; and what operands are converted to follows from their types.
use Rattle.std.proofs.Common.{◌≡◌, ◌≢◌, ℕ, List, ◌++◌, Option, Some, None, Bool, refl, sym, ap, ◌∙◌, subst, ◌⊎◌, inl, inr, Contains}
use Rattle.std.proofs.lemmas.List.Elements.{All-contains, All-from_recursion}
use Rattle.po_arith.specs.declared.int_type.IntType.{IntType}
use Rattle.po_base.specs.declared.operators.Op.{Op}
use Rattle.po_base.specs.declared.operators.Op.TheVariants as op
use Rattle.po_tree.specs.declared.expression.Exp.{Exp, out-Exp}
use Rattle.po_types.specs.declared.ctype.CType.{CType, out-CType}
use Rattle.po_types.specs.declared.ctype.CType.TheVariants as c
use Rattle.po_types.specs.declared.ctype.CType.TheOpen.{CType-F}
use Rattle.po_types.specs.Integers.{promoted, common, int_type, difference_type}
use Rattle.po_types.specs.Types.{integer, integer_layer, pointee, pointee_layer, elements, elements_layer, structure, structure_layer, signature, signature_layer, Agree, equal, first_without_size, second_without_size, composite}
use Rattle.po_types.proofs.TypesLaws.{out_Void, out_Int, out_Ptr, out_Array, out_Struct, out_Fun}
use Rattle.po_typed.specs.Scopes.{Context}
use Rattle.po_typed.specs.Operands.{Tested, tested_number, tested_pointer, Stepped, stepped_number, stepped_pointer, Combines, arithmetic, shift, numbers_compared, pointers_compared, pointer_plus, plus_pointer, pointer_minus, difference, compared_as, arithmetic_operators, shift_operators, equality_operators, comparisons}
use Rattle.po_lists.proofs.Options.{one_some}
use Rattle.po_typed.specs.Expressions.{IsNullPointer, Chooses, numbers, structs, voids, pointers, zero_right, zero_left, null_pointer_right, null_pointer_left, void_right, void_left}

pub found_or_not : {A B : Type 0} {z : Option A} {x : A} → z ≡ Some x → z ≡ None → B
found_or_not f g = absurd cc

-- the parts of each form
pub integer_Int : (t : IntType) → integer (c.Int t) ≡ Some t
integer_Int t = ap integer_layer (out_Int t)

pub integer_Ptr : (t : CType) → integer (c.Ptr t) ≡ None
integer_Ptr t = ap integer_layer (out_Ptr t)

pub integer_Struct : (n : ℕ) → integer (c.Struct n) ≡ None
integer_Struct n = ap integer_layer (out_Struct n)

pub integer_Void : integer c.Void ≡ None
integer_Void = ap integer_layer out_Void

pub pointee_Ptr : (t : CType) → pointee (c.Ptr t) ≡ Some t
pointee_Ptr t = ap pointee_layer (out_Ptr t)

pub pointee_Void : pointee c.Void ≡ None
pointee_Void = ap pointee_layer out_Void

pub elements_Array : (t : CType) (n : Option ℕ) → elements (c.Array t n) ≡ Some (t, n)
elements_Array t n = ap elements_layer (out_Array t n)

pub elements_Void : elements c.Void ≡ None
elements_Void = ap elements_layer out_Void

pub structure_Struct : (n : ℕ) → structure (c.Struct n) ≡ Some n
structure_Struct n = ap structure_layer (out_Struct n)

pub signature_Fun : (t : CType) (params : List CType) (more : Bool) → signature (c.Fun t params more) ≡ Some (t, (params, more))
signature_Fun t params more = ap signature_layer (out_Fun t params more)

pub one_integer : (s t : IntType) → c.Int s ≡ c.Int t → s ≡ t
one_integer s t q = one_some (integer_Int s) (ap integer q ∙ integer_Int t)

pub one_pointee : (t u : CType) → c.Ptr t ≡ c.Ptr u → t ≡ u
one_pointee t u q = one_some (pointee_Ptr t) (ap pointee q ∙ pointee_Ptr u)

pub one_structure : (n m : ℕ) → c.Struct n ≡ c.Struct m → n ≡ m
one_structure n m q = one_some (structure_Struct n) (ap structure q ∙ structure_Struct m)

pub one_element : (t u : CType) (n m : Option ℕ) → c.Array t n ≡ c.Array u m → t ≡ u
one_element t u n m q = ap (λ z. z.0) (one_some (elements_Array t n) (ap elements q ∙ elements_Array u m))

pub one_signature : (t u : CType) (ts us : List CType) (a b : Bool) → c.Fun t ts a ≡ c.Fun u us b → (t ≡ u) × (ts ≡ us) × (a ≡ b)
one_signature t u ts us a b q =
    let p = one_some (signature_Fun t ts a) (ap signature q ∙ signature_Fun u us b) in (ap (λ z. z.0) p, ap (λ z. z.1.0) p, ap (λ z. z.1.1) p)

pub no_pointer : {A : Type 0} (s : IntType) (t : CType) → c.Int s ≡ c.Ptr t → A
no_pointer s t q = found_or_not (integer_Int s) (ap integer q ∙ integer_Ptr t)

-- a pointer isn't void
pub pointer_is_not_void : {A : Type 0} (t : CType) → c.Ptr t ≡ c.Void → A
pointer_is_not_void t q = found_or_not (pointee_Ptr t) (ap pointee q ∙ pointee_Void)

-- an array without a size agrees with no void
pub agrees_with_void : {t u : CType} → Agree t u → u ≡ c.Void → t ≡ c.Void
agrees_with_void (equal t) q = q
agrees_with_void (first_without_size element n) q = found_or_not (elements_Array element n) (ap elements q ∙ elements_Void)
agrees_with_void (second_without_size element n) q = found_or_not (elements_Array element None) (ap elements q ∙ elements_Void)

pub agrees_beside_void : {t u : CType} → Agree t u → t ≡ c.Void → u ≡ c.Void
agrees_beside_void (equal t) q = q
agrees_beside_void (first_without_size element n) q = found_or_not (elements_Array element None) (ap elements q ∙ elements_Void)
agrees_beside_void (second_without_size element n) q = found_or_not (elements_Array element n) (ap elements q ∙ elements_Void)

-- what is compared with 0, and the operand of `++`
abbrev pub promoted_layer : CType-F CType → CType
promoted_layer (CType-F.Int t) = c.Int (promoted t)
promoted_layer (CType-F.Ptr t) = c.Ptr t
promoted_layer _ = c.Void

pub is_tested : {t a : CType} → Tested t a → a ≡ promoted_layer (out-CType t)
is_tested (tested_number t) = sym (ap promoted_layer (out_Int t))
is_tested (tested_pointer t) = sym (ap promoted_layer (out_Ptr t))

pub one_tested : {t u a b : CType} → Tested t a → Tested u b → t ≡ u → a ≡ b
one_tested h k q = is_tested h ∙ ap (λ z. promoted_layer (out-CType z)) q ∙ sym (is_tested k)

abbrev stepped_layer : CType-F CType → CType
stepped_layer (CType-F.Int t) = c.Int (common t int_type)
stepped_layer (CType-F.Ptr t) = c.Ptr t
stepped_layer _ = c.Void

is_stepped : {ctx : Context} {t a : CType} → Stepped ctx t a → a ≡ stepped_layer (out-CType t)
is_stepped (stepped_number t) = sym (ap stepped_layer (out_Int t))
is_stepped (stepped_pointer t h) = sym (ap stepped_layer (out_Ptr t))

pub one_stepped : {ctx : Context} {t u a b : CType} → Stepped ctx t a → Stepped ctx u b → t ≡ u → a ≡ b
one_stepped h k q = is_stepped h ∙ ap (λ z. stepped_layer (out-CType z)) q ∙ sym (is_stepped k)

-- the operators by what they do with two numbers
pub data Class : Type 0 where
  computing : Class
  shifting : Class
  comparing : Class

abbrev pub class_of : Op → Class
class_of op.Shl = shifting
class_of op.Shr = shifting
class_of op.Eq = comparing
class_of op.Ne = comparing
class_of op.Lt = comparing
class_of op.Le = comparing
class_of op.Gt = comparing
class_of op.Ge = comparing
class_of _ = computing

pub is_computing : {o : Op} → Contains arithmetic_operators o → class_of o ≡ computing
is_computing {o = o} h = All-contains (λ z. class_of z ≡ computing) arithmetic_operators o (All-from_recursion (λ z. class_of z ≡ computing) arithmetic_operators (refl, (refl, (refl, (refl, (refl, (refl, (refl, (refl, tt))))))))) h

pub is_shifting : {o : Op} → Contains shift_operators o → class_of o ≡ shifting
is_shifting {o = o} h = All-contains (λ z. class_of z ≡ shifting) shift_operators o (All-from_recursion (λ z. class_of z ≡ shifting) shift_operators (refl, (refl, tt))) h

pub is_comparing : {o : Op} → Contains comparisons o → class_of o ≡ comparing
is_comparing {o = o} h = All-contains (λ z. class_of z ≡ comparing) comparisons o (All-from_recursion (λ z. class_of z ≡ comparing) comparisons (refl, (refl, (refl, (refl, (refl, (refl, tt))))))) h

pub is_equality : {o : Op} → Contains equality_operators o → class_of o ≡ comparing
is_equality {o = o} h = All-contains (λ z. class_of z ≡ comparing) equality_operators o (All-from_recursion (λ z. class_of z ≡ comparing) equality_operators (refl, (refl, tt))) h

-- what an operator gives, and what its operands are converted to
pub record Combination : Type 0 where
  pub result : CType
  pub left : CType
  pub right : CType

abbrev pub combine : CType → CType → CType → Combination
combine r a b = record { result = r; left = a; right = b }

abbrev of_numbers : Class → IntType → IntType → Combination
of_numbers computing s t = combine (c.Int (common s t)) (c.Int (common s t)) (c.Int (common s t))
of_numbers shifting s t = combine (c.Int (promoted s)) (c.Int (promoted s)) (c.Int (promoted t))
of_numbers comparing s t = combine (c.Int int_type) (c.Int (common s t)) (c.Int (common s t))

abbrev of_pointers : Context → Class → CType → CType → Combination
of_pointers ctx comparing t u = combine (c.Int int_type) (c.Ptr (compared_as t u)) (c.Ptr (compared_as t u))
of_pointers ctx _ t u = combine (c.Int (difference_type ctx.target)) (c.Ptr t) (c.Ptr u)

abbrev of_pointer_and_number : Class → CType → IntType → Combination
of_pointer_and_number comparing t s = combine (c.Int int_type) (c.Ptr t) (c.Ptr t)
of_pointer_and_number _ t s = combine (c.Ptr t) (c.Ptr t) (c.Int s)

abbrev of_number_and_pointer : Class → IntType → CType → Combination
of_number_and_pointer comparing s t = combine (c.Int int_type) (c.Ptr t) (c.Ptr t)
of_number_and_pointer _ s t = combine (c.Ptr t) (c.Int s) (c.Ptr t)

abbrev of_layers : Context → Class → CType-F CType → CType-F CType → Combination
of_layers ctx k (CType-F.Int s) (CType-F.Int t) = of_numbers k s t
of_layers ctx k (CType-F.Ptr t) (CType-F.Ptr u) = of_pointers ctx k t u
of_layers ctx k (CType-F.Ptr t) (CType-F.Int s) = of_pointer_and_number k t s
of_layers ctx k (CType-F.Int s) (CType-F.Ptr t) = of_number_and_pointer k s t
of_layers ctx k _ _ = combine c.Void c.Void c.Void

-- a comparison of a pointer with the constant 0 is one with a number
abbrev pub combination : Context → Op → CType → CType → Combination
combination ctx o t u = of_layers ctx (class_of o) (out-CType t) (out-CType u)

with_layers : (ctx : Context) (o : Op) {k : Class} (t u : CType) {l m : CType-F CType} → class_of o ≡ k → out-CType t ≡ l → out-CType u ≡ m →
    combination ctx o t u ≡ of_layers ctx k l m
with_layers ctx o {k = k} t u {l = l} e f g =
    ap (λ z. of_layers ctx z (out-CType t) (out-CType u)) e ∙ ap (λ z. of_layers ctx k z (out-CType u)) f ∙ ap (λ z. of_layers ctx k l z) g

pub is_combination : {ctx : Context} {o : Op} {t u r a b : CType} → Combines ctx o t u r a b → combination ctx o t u ≡ combine r a b
is_combination {ctx = ctx} (arithmetic o s t h) = with_layers ctx o (c.Int s) (c.Int t) (is_computing h) (out_Int s) (out_Int t)
is_combination {ctx = ctx} (shift o s t h) = with_layers ctx o (c.Int s) (c.Int t) (is_shifting h) (out_Int s) (out_Int t)
is_combination {ctx = ctx} (numbers_compared o s t h) = with_layers ctx o (c.Int s) (c.Int t) (is_comparing h) (out_Int s) (out_Int t)
is_combination {ctx = ctx} (pointers_compared o t u h) = with_layers ctx o (c.Ptr t) (c.Ptr u) (is_comparing h) (out_Ptr t) (out_Ptr u)
is_combination {ctx = ctx} (pointer_plus t s h) = with_layers ctx op.Add (c.Ptr t) (c.Int s) refl (out_Ptr t) (out_Int s)
is_combination {ctx = ctx} (plus_pointer t s h) = with_layers ctx op.Add (c.Int s) (c.Ptr t) refl (out_Int s) (out_Ptr t)
is_combination {ctx = ctx} (pointer_minus t s h) = with_layers ctx op.Sub (c.Ptr t) (c.Int s) refl (out_Ptr t) (out_Int s)
is_combination {ctx = ctx} (difference t h) = with_layers ctx op.Sub (c.Ptr t) (c.Ptr t) refl (out_Ptr t) (out_Ptr t)

pub right_with_null : (ctx : Context) (o : Op) (t : CType) (s : IntType) → Contains equality_operators o →
    combination ctx o (c.Ptr t) (c.Int s) ≡ combine (c.Int int_type) (c.Ptr t) (c.Ptr t)
right_with_null ctx o t s h = with_layers ctx o (c.Ptr t) (c.Int s) (is_equality h) (out_Ptr t) (out_Int s)

pub left_with_null : (ctx : Context) (o : Op) (t : CType) (s : IntType) → Contains equality_operators o →
    combination ctx o (c.Int s) (c.Ptr t) ≡ combine (c.Int int_type) (c.Ptr t) (c.Ptr t)
left_with_null ctx o t s h = with_layers ctx o (c.Int s) (c.Ptr t) (is_equality h) (out_Int s) (out_Ptr t)

-- an operator gives one result of operands of equal types
pub one_combination : (ctx : Context) (o : Op) {t u t' u' : CType} {k l : Combination} → combination ctx o t u ≡ k → combination ctx o t' u' ≡ l → t ≡ t' → u ≡ u' → k ≡ l
one_combination ctx o {u = u} {t' = t'} e f q r = sym e ∙ ap (λ z. combination ctx o z u) q ∙ ap (λ z. combination ctx o t' z) r ∙ f

-- the other pointer's type beside `(void*)0`, and void beside another pointer to void
abbrev Beside : Type 0 → CType → CType → Type 0
Beside Null t r = (Null × (r ≡ c.Ptr t)) ⊎ ((Null → ⊥) × (r ≡ c.Ptr c.Void))

one_beside : {Null : Type 0} (t : CType) {r q : CType} → Beside Null t r → Beside Null t q → r ≡ q
one_beside t (inl p) (inl p') = p.1 ∙ sym p'.1
one_beside t (inl p) (inr p') = absurd (p'.0 p.0)
one_beside t (inr p) (inl p') = absurd (p.0 p'.0)
one_beside t (inr p) (inr p') = p.1 ∙ sym p'.1

module _ (ctx : Context) (y z : Exp) where
  -- what `? :` chooses of two pointers
  abbrev OfPointers : CType → CType → CType → Type 0
  OfPointers t u r =
      (Agree t u × (r ≡ c.Ptr (composite t u)))
      ⊎ ((t ≢ c.Void) × (u ≡ c.Void) × Beside (IsNullPointer ctx (out-Exp z)) t r)
      ⊎ ((t ≡ c.Void) × (u ≢ c.Void) × Beside (IsNullPointer ctx (out-Exp y)) u r)

  one_of_pointers : (t u : CType) {r q : CType} → OfPointers t u r → OfPointers t u q → r ≡ q
  one_of_pointers t u (inl p) (inl p') = p.1 ∙ sym p'.1
  one_of_pointers t u (inl p) (inr (inl p')) = absurd (p'.0 (agrees_with_void p.0 p'.1))
  one_of_pointers t u (inl p) (inr (inr p')) = absurd (p'.1 (agrees_beside_void p.0 p'.0))
  one_of_pointers t u (inr (inl p)) (inl p') = absurd (p.0 (agrees_with_void p'.0 p.1))
  one_of_pointers t u (inr (inl p)) (inr (inl p')) = one_beside t p.2 p'.2
  one_of_pointers t u (inr (inl p)) (inr (inr p')) = absurd (p.0 p'.0)
  one_of_pointers t u (inr (inr p)) (inl p') = absurd (p.1 (agrees_beside_void p'.0 p.0))
  one_of_pointers t u (inr (inr p)) (inr (inl p')) = absurd (p'.0 p.0)
  one_of_pointers t u (inr (inr p)) (inr (inr p')) = one_beside u p.2 p'.2

  abbrev Chosen : CType-F CType → CType-F CType → CType → Type 0
  Chosen (CType-F.Int s) (CType-F.Int t) r = r ≡ c.Int (common s t)
  Chosen (CType-F.Struct n) (CType-F.Struct m) r = r ≡ c.Struct n
  Chosen CType-F.Void CType-F.Void r = r ≡ c.Void
  Chosen (CType-F.Ptr t) (CType-F.Int s) r = r ≡ c.Ptr t
  Chosen (CType-F.Int s) (CType-F.Ptr t) r = r ≡ c.Ptr t
  Chosen (CType-F.Ptr t) (CType-F.Ptr u) r = OfPointers t u r
  Chosen _ _ r = ⊥

  opened : {u v r : CType} → Chooses ctx y u z v r → Chosen (out-CType u) (out-CType v) r
  opened (numbers s t) = rw (out_Int s) (rw (out_Int t) refl)
  opened (structs n) = rw (out_Struct n) refl
  opened voids = rw out_Void refl
  opened (pointers {t = t} {u = u} h) = rw (out_Ptr t) (rw (out_Ptr u) (inl (h, refl)))
  opened (zero_right t s h) = rw (out_Ptr t) (rw (out_Int s) refl)
  opened (zero_left t s h) = rw (out_Ptr t) (rw (out_Int s) refl)
  opened (null_pointer_right {t = t} h k) = rw (out_Ptr t) (rw (out_Ptr c.Void) (inr (inl (h, refl, inl (k, refl)))))
  opened (null_pointer_left {t = t} h k) = rw (out_Ptr t) (rw (out_Ptr c.Void) (inr (inr (refl, h, inl (k, refl)))))
  opened (void_right {t = t} h k) = rw (out_Ptr t) (rw (out_Ptr c.Void) (inr (inl (h, refl, inr (k, refl)))))
  opened (void_left {t = t} h k) = rw (out_Ptr t) (rw (out_Ptr c.Void) (inr (inr (refl, h, inr (k, refl)))))

  chosen_as : {u v u' v' r : CType} → Chooses ctx y u' z v' r → u ≡ u' → v ≡ v' → Chosen (out-CType u) (out-CType v) r
  chosen_as {v = v} {u' = u'} {r = r} d e f = subst (λ l. Chosen (out-CType l) (out-CType v) r) (sym e) (subst (λ l. Chosen (out-CType u') (out-CType l) r) (sym f) (opened d))

  one_by_layers : (l m : CType-F CType) {r q : CType} → Chosen l m r → Chosen l m q → r ≡ q
  one_by_layers (CType-F.Int s) (CType-F.Int t) p p' = p ∙ sym p'
  one_by_layers (CType-F.Struct n) (CType-F.Struct m) p p' = p ∙ sym p'
  one_by_layers CType-F.Void CType-F.Void p p' = p ∙ sym p'
  one_by_layers (CType-F.Ptr t) (CType-F.Int s) p p' = p ∙ sym p'
  one_by_layers (CType-F.Int s) (CType-F.Ptr t) p p' = p ∙ sym p'
  one_by_layers (CType-F.Ptr t) (CType-F.Ptr u) p p' = one_of_pointers t u p p'
  one_by_layers _ _ p p' = absurd p

  -- `? :` gives one type of two operands of equal types
  pub one_chosen : {u v u' v' r q : CType} → Chooses ctx y u z v r → Chooses ctx y u' z v' q → u ≡ u' → v ≡ v' → r ≡ q
  one_chosen {u = u} {v = v} d d' e f = one_by_layers (out-CType u) (out-CType v) (opened d) (chosen_as d' e f)
