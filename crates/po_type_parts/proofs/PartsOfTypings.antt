-- A typing of a compound expression consists of typings of its operands and of what their types make: rule by rule, in both directions.
use Rattle.std.proofs.Common.{◌≡◌, ℕ, List, [], ◌∷◌, ◌++◌, Some, refl, sym, ap, ◌∙◌, subst}
use Rattle.po_base.specs.declared.operators.Op.{Op}
use Rattle.po_tree.specs.declared.expression.Exp.{Exp, out-Exp}
use Rattle.po_tree.specs.declared.expression.Exp.TheOpen.{Exp-F}
use Rattle.po_tree.specs.declared.expression.TypeName.{TypeName}
use Rattle.po_types.specs.declared.ctype.CType.{CType}
use Rattle.po_types.specs.declared.ctype.CType.TheVariants as c
use Rattle.po_types.specs.declared.format.Spec.{Spec}
use Rattle.po_types.specs.Integers.{promoted}
use Rattle.po_typed.specs.Scopes.{Context}
use Rattle.po_typed.specs.Expressions.{Pair, pair, char, Types, subscript, subscript_first, member, arrow, plus, minus, complement, cast_to_void, cast_number, cast_pointer, cast_null, cast_to_bool, binary, null_right, null_left, compound_number, compound_pointer, Operand, Assigned, assigned_number, assigned_struct, assigned_pointer, assigned_null, assigned_bool, Prints, printed_int, printed_long, printed_size, printed_text, Named, IsLvalue}
use Rattle.po_type_parts.specs.Converting.{Assigns, assigns_number, assigns_struct, assigns_pointer, assigns_null, assigns_bool, Casts, casts_to_void, casts_number, casts_pointer, casts_null, casts_to_bool, Promotes, promotes, PrintsAs, prints_int, prints_long, prints_size, prints_text}
use Rattle.po_type_parts.specs.Designating.{Subscripts, subscripts_pointer, subscripts_number, HasMember, HasArrowMember}
use Rattle.po_type_parts.specs.Joining.{Joins, joins_values, joins_zero_right, joins_zero_left, Compounds, compounds_number, compounds_pointer}
use Rattle.po_type_parts.specs.Laws.{OfAssigned, OfCast, OfIndex, OfDot, OfArrow, OfPromoted, OfBinary, OfCompound, OfPrinted, TypingsAreOfParts}

module _ (ctx : Context) where
  of_assigned : {x : Exp} {t : CType} {ps : List Pair} → Assigned ctx x t ps → OfAssigned ctx x t ps
  of_assigned (assigned_number s t A) = record { value = c.Int s; operand = A; assigns = assigns_number s t }
  of_assigned (assigned_struct n A) = record { value = c.Struct n; operand = A; assigns = assigns_struct n }
  of_assigned (assigned_pointer t u A) = record { value = c.Ptr u; operand = A; assigns = assigns_pointer t u }
  of_assigned (assigned_null s t h A) = record { value = c.Int s; operand = A; assigns = assigns_null s t h }
  of_assigned (assigned_bool u A) = record { value = c.Ptr u; operand = A; assigns = assigns_bool u }

  assigned_by : {x : Exp} {v t : CType} {ps : List Pair} → Assigns ctx x v t → Operand ctx x v t ps → Assigned ctx x t ps
  assigned_by (assigns_number s t) A = assigned_number s t A
  assigned_by (assigns_struct n) A = assigned_struct n A
  assigned_by (assigns_pointer t u) A = assigned_pointer t u A
  assigned_by (assigns_null s t h) A = assigned_null s t h A
  assigned_by (assigns_bool u) A = assigned_bool u A

  of_cast : {name : TypeName} {x : Exp} {t to : CType} {ps : List Pair} → Types ctx (Exp-F.Cast name x) t to ps → OfCast ctx name x t to ps
  of_cast (cast_to_void {t = v} {ps = ps} {qs = qs} N A) = record { value = v; conversion = c.Void; before = ps; behind = qs; named = N; operand = A; casts = casts_to_void v; pairs = refl }
  of_cast (cast_number s t {ps = ps} {qs = qs} N A) = record { value = c.Int s; conversion = c.Int s; before = ps; behind = qs; named = N; operand = A; casts = casts_number s t; pairs = refl }
  of_cast (cast_pointer t u {ps = ps} {qs = qs} N A) = record { value = c.Ptr u; conversion = c.Ptr u; before = ps; behind = qs; named = N; operand = A; casts = casts_pointer t u; pairs = refl }
  of_cast (cast_null t s {ps = ps} {qs = qs} N h A) = record { value = c.Int s; conversion = c.Int s; before = ps; behind = qs; named = N; operand = A; casts = casts_null s t h; pairs = refl }
  of_cast (cast_to_bool u {ps = ps} {qs = qs} N A) = record { value = c.Ptr u; conversion = c.Ptr u; before = ps; behind = qs; named = N; operand = A; casts = casts_to_bool u; pairs = refl }

  cast_by : {name : TypeName} {x : Exp} {v t a to : CType} {ps qs : List Pair} → Casts ctx x v t a → Named ctx name t ps → Operand ctx x v a qs →
      Types ctx (Exp-F.Cast name x) t to (pair t to ∷ (ps ++ qs))
  cast_by (casts_to_void v) N A = cast_to_void N A
  cast_by (casts_number s t) N A = cast_number s t N A
  cast_by (casts_pointer t u) N A = cast_pointer t u N A
  cast_by (casts_null s t h) N A = cast_null t s N h A
  cast_by (casts_to_bool u) N A = cast_to_bool u N A

  of_index : {x y : Exp} {t to : CType} {ps : List Pair} → Types ctx (Exp-F.Index x y) t to ps → OfIndex ctx x y t to ps
  of_index (subscript {t = t} s {ps = ps} {qs = qs} A B h) =
      record { first = c.Ptr t; second = c.Int s; before = ps; behind = qs; first_operand = A; second_operand = B; subscripts = subscripts_pointer t s h; pairs = refl }
  of_index (subscript_first {t = t} s {ps = ps} {qs = qs} A B h) =
      record { first = c.Int s; second = c.Ptr t; before = ps; behind = qs; first_operand = A; second_operand = B; subscripts = subscripts_number t s h; pairs = refl }

  index_by : {x y : Exp} {u v t to : CType} {ps qs : List Pair} → Subscripts ctx u v t → Operand ctx x u u ps → Operand ctx y v v qs →
      Types ctx (Exp-F.Index x y) t to (ps ++ (pair t to ∷ qs))
  index_by (subscripts_pointer t s h) A B = subscript s A B h
  index_by (subscripts_number t s h) A B = subscript_first s A B h

  of_dot : {x : Exp} {name : List ℕ} {t to : CType} {ps : List Pair} → Types ctx (Exp-F.Dot x name) t to ps → OfDot ctx x name t to ps
  of_dot (member n {ps = ps} T h) = record { struct = c.Struct n; before = ps; operand = T; member = (n, (refl, h)); pairs = refl }

  dot_by : {x : Exp} {name : List ℕ} {u t to : CType} {ps : List Pair} → HasMember ctx u name t → Types ctx (out-Exp x) u u ps → Types ctx (Exp-F.Dot x name) t to (ps ++ (pair t to ∷ []))
  dot_by {x = x} {ps = ps} h T = member h.0 (subst (λ z. Types ctx (out-Exp x) z z ps) h.1.0 T) h.1.1

  of_arrow : {x : Exp} {name : List ℕ} {t to : CType} {ps : List Pair} → Types ctx (Exp-F.Arrow x name) t to ps → OfArrow ctx x name t to ps
  of_arrow (arrow n {ps = ps} A h) = record { pointer = c.Ptr (c.Struct n); before = ps; operand = A; member = (c.Struct n, (refl, (n, (refl, h)))); pairs = refl }

  arrow_by : {x : Exp} {name : List ℕ} {u t to : CType} {ps : List Pair} → HasArrowMember ctx u name t → Operand ctx x u u ps → Types ctx (Exp-F.Arrow x name) t to (ps ++ (pair t to ∷ []))
  arrow_by {x = x} {ps = ps} h A =
      let is : _ ≡ c.Ptr (c.Struct h.1.1.0) = h.1.0 ∙ ap c.Ptr h.1.1.1.0 in
      arrow h.1.1.0 (subst (λ z. Operand ctx x z z ps) is A) h.1.1.1.1

  of_plus : {x : Exp} {t to : CType} {ps : List Pair} → Types ctx (Exp-F.Plus x) t to ps → OfPromoted ctx x t to ps
  of_plus (plus s {ps = ps} A) = record { value = c.Int s; behind = ps; operand = A; promotes = promotes s; pairs = refl }

  of_minus : {x : Exp} {t to : CType} {ps : List Pair} → Types ctx (Exp-F.Minus x) t to ps → OfPromoted ctx x t to ps
  of_minus (minus s {ps = ps} A) = record { value = c.Int s; behind = ps; operand = A; promotes = promotes s; pairs = refl }

  of_complement : {x : Exp} {t to : CType} {ps : List Pair} → Types ctx (Exp-F.Compl x) t to ps → OfPromoted ctx x t to ps
  of_complement (complement s {ps = ps} A) = record { value = c.Int s; behind = ps; operand = A; promotes = promotes s; pairs = refl }

  plus_by : {x : Exp} {v t to : CType} {ps : List Pair} → Promotes v t → Operand ctx x v t ps → Types ctx (Exp-F.Plus x) t to (pair t to ∷ ps)
  plus_by (promotes s) A = plus s A

  minus_by : {x : Exp} {v t to : CType} {ps : List Pair} → Promotes v t → Operand ctx x v t ps → Types ctx (Exp-F.Minus x) t to (pair t to ∷ ps)
  minus_by (promotes s) A = minus s A

  complement_by : {x : Exp} {v t to : CType} {ps : List Pair} → Promotes v t → Operand ctx x v t ps → Types ctx (Exp-F.Compl x) t to (pair t to ∷ ps)
  complement_by (promotes s) A = complement s A

  of_binary : {o : Op} {x y : Exp} {t to : CType} {ps : List Pair} → Types ctx (Exp-F.Binary o x y) t to ps → OfBinary ctx o x y t to ps
  of_binary (binary {t = t} {u = u} {a = a} {b = b} {ps = ps} {qs = qs} h A B) =
      record { first = t; second = u; left = a; right = b; before = ps; behind = qs; first_operand = A; second_operand = B; joins = joins_values h; pairs = refl }
  of_binary (null_right t s {ps = ps} {qs = qs} o h A B) =
      record { first = c.Ptr t; second = c.Int s; left = c.Ptr t; right = c.Ptr t; before = ps; behind = qs; first_operand = A; second_operand = B; joins = joins_zero_right t s o h; pairs = refl }
  of_binary (null_left t s {ps = ps} {qs = qs} o h A B) =
      record { first = c.Int s; second = c.Ptr t; left = c.Ptr t; right = c.Ptr t; before = ps; behind = qs; first_operand = A; second_operand = B; joins = joins_zero_left t s o h; pairs = refl }

  binary_by : {o : Op} {x y : Exp} {u v t a b to : CType} {ps qs : List Pair} → Joins ctx o x u y v t a b → Operand ctx x u a ps → Operand ctx y v b qs →
      Types ctx (Exp-F.Binary o x y) t to (ps ++ (pair t to ∷ qs))
  binary_by (joins_values h) A B = binary h A B
  binary_by (joins_zero_right t s o h) A B = null_right t s o h A B
  binary_by (joins_zero_left t s o h) A B = null_left t s o h A B

  of_compound : {o : Op} {x y : Exp} {t to : CType} {ps : List Pair} → Types ctx (Exp-F.Assign (Some o) x y) t to ps → OfCompound ctx o x y t to ps
  of_compound (compound_number s t {r = r} {a = a} {b = b} {ps = ps} {qs = qs} o l h T B) =
      record { value = c.Int t; left = a; right = b; before = ps; behind = qs; lvalue = l; object = T; operand = B; compounds = compounds_number s t o h; pairs = refl }
  of_compound (compound_pointer s t {ps = ps} {qs = qs} o l h T B) =
      record { value = c.Int s; left = c.Ptr t; right = c.Int s; before = ps; behind = qs; lvalue = l; object = T; operand = B; compounds = compounds_pointer t s o h; pairs = refl }

  compound_by : {o : Op} {x y : Exp} {t v a b to : CType} {ps qs : List Pair} → Compounds ctx o t v a b → IsLvalue ctx (out-Exp x) → Types ctx (out-Exp x) t a ps → Operand ctx y v b qs →
      Types ctx (Exp-F.Assign (Some o) x y) t to (ps ++ (pair t to ∷ qs))
  compound_by (compounds_number s t o h) l T B = compound_number s t o l h T B
  compound_by (compounds_pointer t s o h) l T B = compound_pointer s t o l h T B

  of_printed : {x : Exp} {xs : List Exp} {g : Spec} {fs : List Spec} {ps : List Pair} → Prints ctx (x ∷ xs) (g ∷ fs) ps → OfPrinted ctx x xs g fs ps
  of_printed (printed_int s {ps = ps} {qs = qs} h A P) =
      record { value = c.Int s; conversion = c.Int (promoted s); before = ps; behind = qs; operand = A; prints_as = prints_int s h; others = P; pairs = refl }
  of_printed (printed_long s {ps = ps} {qs = qs} h A P) =
      record { value = c.Int s; conversion = c.Int (promoted s); before = ps; behind = qs; operand = A; prints_as = prints_long s h; others = P; pairs = refl }
  of_printed (printed_size s {ps = ps} {qs = qs} h A P) =
      record { value = c.Int s; conversion = c.Int (promoted s); before = ps; behind = qs; operand = A; prints_as = prints_size s h; others = P; pairs = refl }
  of_printed (printed_text {ps = ps} {qs = qs} A P) =
      record { value = c.Ptr char; conversion = c.Ptr char; before = ps; behind = qs; operand = A; prints_as = prints_text; others = P; pairs = refl }

  printed_by : {x : Exp} {xs : List Exp} {g : Spec} {fs : List Spec} {v a : CType} {ps qs : List Pair} → PrintsAs ctx.target g v a → Operand ctx x v a ps → Prints ctx xs fs qs →
      Prints ctx (x ∷ xs) (g ∷ fs) (ps ++ qs)
  printed_by (prints_int s h) A P = printed_int s h A P
  printed_by (prints_long s h) A P = printed_long s h A P
  printed_by (prints_size s h) A P = printed_size s h A P
  printed_by prints_text A P = printed_text A P

pub typings_are_of_parts : TypingsAreOfParts
typings_are_of_parts = record {
  assigned = λ ctx x t ps. (of_assigned ctx, λ p. assigned_by ctx p.assigns p.operand);
  cast = λ ctx name x t to ps. (of_cast ctx, λ p. subst (Types ctx (Exp-F.Cast name x) t to) (sym p.pairs) (cast_by ctx p.casts p.named p.operand));
  index = λ ctx x y t to ps. (of_index ctx, λ p. subst (Types ctx (Exp-F.Index x y) t to) (sym p.pairs) (index_by ctx p.subscripts p.first_operand p.second_operand));
  dot = λ ctx x name t to ps. (of_dot ctx, λ p. subst (Types ctx (Exp-F.Dot x name) t to) (sym p.pairs) (dot_by ctx p.member p.operand));
  arrow = λ ctx x name t to ps. (of_arrow ctx, λ p. subst (Types ctx (Exp-F.Arrow x name) t to) (sym p.pairs) (arrow_by ctx p.member p.operand));
  plus = λ ctx x t to ps. (of_plus ctx, λ p. subst (Types ctx (Exp-F.Plus x) t to) (sym p.pairs) (plus_by ctx p.promotes p.operand));
  minus = λ ctx x t to ps. (of_minus ctx, λ p. subst (Types ctx (Exp-F.Minus x) t to) (sym p.pairs) (minus_by ctx p.promotes p.operand));
  complement = λ ctx x t to ps. (of_complement ctx, λ p. subst (Types ctx (Exp-F.Compl x) t to) (sym p.pairs) (complement_by ctx p.promotes p.operand));
  binary = λ ctx o x y t to ps. (of_binary ctx, λ p. subst (Types ctx (Exp-F.Binary o x y) t to) (sym p.pairs) (binary_by ctx p.joins p.first_operand p.second_operand));
  compound = λ ctx o x y t to ps. (of_compound ctx, λ p. subst (Types ctx (Exp-F.Assign (Some o) x y) t to) (sym p.pairs) (compound_by ctx p.compounds p.lvalue p.object p.operand));
  printed = λ ctx x xs g fs ps. (of_printed ctx, λ p. subst (Prints ctx (x ∷ xs) (g ∷ fs)) (sym p.pairs) (printed_by ctx p.prints_as p.operand p.others));
}
