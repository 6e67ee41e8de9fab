-- Scalars and their initialisers.
use Rattle.std.proofs.Common.{◌≡◌, ℕ, List, Option, Some, None, refl, sym, subst}
use Rattle.po_arith.specs.declared.int_type.IntType.{IntType}
use Rattle.po_tree.specs.declared.expression.Exp.{Exp}
use Rattle.po_tree.specs.declared.declaration.Init.{Init}
use Rattle.po_tree.specs.declared.declaration.Init.TheOpen.{Init-F}
use Rattle.po_types.specs.declared.ctype.CType.{CType, out-CType}
use Rattle.po_types.specs.declared.ctype.CType.TheVariants as c
use Rattle.po_types.specs.declared.ctype.CType.TheOpen.{CType-F}
use Rattle.po_types.proofs.TypesLaws.{out_Int, out_Ptr, out_Array, out_Struct}
use Rattle.po_typed.specs.Scopes.{Context}
use Rattle.po_typed.specs.Expressions.{Pair, Operand}
use Rattle.po_typed.specs.Initialisers.{Place, FitsPlace, IsScalar, scalar_number, scalar_pointer, Initialises, scalar_value, scalar_in_braces, struct_value, struct_list, array_list, unsized_list, text, unsized_text}
use Rattle.po_type_parts.specs.Converting.{Assigns}
use Rattle.po_type_parts.specs.Laws.{TypingsAreOfParts}
use Rattle.po_type_inits.specs.Initialising.{IsSingle, single_alone, single_in_braces}
use Rattle.po_type_inits.specs.Laws.{OfScalar, TypingsOfScalars}

pub no_scalar : {t : CType} → ((s : IntType) → t ≡ c.Int s → ⊥) → ((u : CType) → t ≡ c.Ptr u → ⊥) → IsScalar t → ⊥
no_scalar n m (scalar_number s) = n s refl
no_scalar n m (scalar_pointer u) = m u refl

-- the same by the outermost form
abbrev ScalarForm : CType-F CType → Type 0
ScalarForm (CType-F.Int s) = Unit {0}
ScalarForm (CType-F.Ptr t) = Unit {0}
ScalarForm _ = ⊥

scalar_form : {t : CType} → IsScalar t → ScalarForm (out-CType t)
scalar_form (scalar_number s) = rw (out_Int s) tt
scalar_form (scalar_pointer t) = rw (out_Ptr t) tt

no_struct : {A : Type 0} (n : ℕ) → IsScalar (c.Struct n) → A
no_struct n h = let f : ⊥ = subst ScalarForm (out_Struct n) (scalar_form h) in absurd f

no_array : {A : Type 0} (t : CType) (n : Option ℕ) → IsScalar (c.Array t n) → A
no_array t n h = let f : ⊥ = subst ScalarForm (out_Array t n) (scalar_form h) in absurd f

module _ (parts : TypingsAreOfParts) (ctx : Context) (place : Place) where
  of_scalar : {t u : CType} {i : Init-F Init} {ps : List Pair} → IsScalar t → Initialises ctx place t i u ps → OfScalar ctx place t i u ps
  of_scalar {t = t} {ps = ps} k (scalar_value {x = x} s A f) = let a = (parts.assigned ctx x t ps).0 A in
      record { expression = x; value = a.value; single = single_alone; operand = a.operand; initialises = (s, a.assigns); fits = f; same = refl }
  of_scalar {t = t} {ps = ps} k (scalar_in_braces {x = x} s q A f) = let a = (parts.assigned ctx x t ps).0 A in
      record { expression = x; value = a.value; single = single_in_braces q; operand = a.operand; initialises = (s, a.assigns); fits = f; same = refl }
  of_scalar k (struct_value n A q) = no_struct n k
  of_scalar k (struct_list {n = n} q M) = no_struct n k
  of_scalar k (array_list {t = t} {n = n} q E) = no_array t (Some n) k
  of_scalar k (unsized_list {t = t} E q f) = no_array t None k
  of_scalar k (text s {n = n} x b a l) = no_array (c.Int s) (Some n) k
  of_scalar k (unsized_text s x b a q) = no_array (c.Int s) None k

  scalar_at : {t v : CType} {i : Init-F Init} {x : Exp} {ps : List Pair} → IsSingle i x → IsScalar t → Operand ctx x v t ps → Assigns ctx x v t → FitsPlace ctx place t x →
      Initialises ctx place t i t ps
  scalar_at {t = t} {v = v} {x = x} {ps = ps} single_alone s A a f = scalar_value s ((parts.assigned ctx x t ps).1 (record { value = v; operand = A; assigns = a })) f
  scalar_at {t = t} {v = v} {x = x} {ps = ps} (single_in_braces q) s A a f = scalar_in_braces s q ((parts.assigned ctx x t ps).1 (record { value = v; operand = A; assigns = a })) f

  scalar_by : {t u : CType} {i : Init-F Init} {ps : List Pair} → OfScalar ctx place t i u ps → Initialises ctx place t i u ps
  scalar_by {t = t} {i = i} {ps = ps} o = subst (λ z. Initialises ctx place t i z ps) (sym o.same) (scalar_at o.single o.initialises.0 o.operand o.initialises.1 o.fits)

pub typings_of_scalars : TypingsAreOfParts → TypingsOfScalars
typings_of_scalars parts = λ ctx place t i u ps k. (of_scalar parts ctx place k, scalar_by parts ctx place)
