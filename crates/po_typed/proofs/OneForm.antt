-- What two typings of one form agree in, and what a typing of a form with several rules consists of.
use Rattle.std.proofs.Common.{◌≡◌, ℕ, ◌+◌, List, [], ◌∷◌, ◌++◌, Option, Some, None, refl, sym, ap, ◌∙◌, subst}
use Rattle.std.specs.Prelude.{ℤ}
use Rattle.po_arith.specs.declared.int_type.IntType.{IntType}
use Rattle.po_arith.specs.declared.target.Target.{Target}
use Rattle.po_base.specs.declared.operators.Op.{Op}
use Rattle.po_base.specs.declared.operators.Op.TheVariants as op
use Rattle.po_tree.specs.declared.expression.Exp.{Exp}
use Rattle.po_tree.specs.declared.expression.Exp.TheOpen.{Exp-F, Suffix-F}
use Rattle.po_tree.specs.declared.expression.Specifier.{Specifier}
use Rattle.po_tree.specs.declared.expression.Suffix.{Suffix}
use Rattle.po_tree.specs.declared.expression.Declarator.{Declarator}
use Rattle.po_tree.specs.declared.expression.Member.{Member}
use Rattle.po_tree.specs.declared.expression.Param.{Param}
use Rattle.po_tree.specs.declared.expression.TypeName.{TypeName}
use Rattle.po_types.specs.declared.ctype.CType.{CType, out-CType}
use Rattle.po_types.specs.declared.ctype.CType.TheVariants as c
use Rattle.po_types.specs.declared.ctype.CType.TheOpen.{CType-F}
use Rattle.po_types.specs.declared.format.Spec.{Spec}
use Rattle.po_types.specs.Integers.{bool_type}
use Rattle.po_types.specs.Formats.{IsFormat}
use Rattle.po_types.proofs.TypesLaws.{out_Void, out_Int, out_Ptr}
use Rattle.po_typed.specs.Forms.{Layer}
use Rattle.po_typed.specs.Scopes.{Context, Meaning, global, function, local, constant, meaning}
use Rattle.po_typed.specs.Constants.{AreStrings, Becomes, Computes, Shifts, Compares}
use Rattle.po_typed.specs.Expressions.{Pair, pair, int, IsObject, of_file, of_block, Types, object, enumerator, cast_to_void, cast_number, cast_pointer, cast_null, cast_to_bool, binary, null_right, null_left, Operand, operand, Assigned, assigned_number, assigned_struct, assigned_pointer, assigned_null, assigned_bool, Prints, Named, IsArray, Sized, no_more_sizes, one_more_size}
use Rattle.po_typed.proofs.OneConstant.{becomes_one, computes_one, shifts_one, compares_one}
use Rattle.po_typed.proofs.OneType.{computing, shifting, comparing, class_of, combine, combination, is_combination, right_with_null, left_with_null}

-- one type, and one list of pairs where both are converted to one type
pub record SameTyping (t to : CType) (ps : List Pair) (u to' : CType) (qs : List Pair) : Type 0 where
  pub type : t ≡ u
  pub pairs : to ≡ to' → ps ≡ qs

-- one type, and one list of pairs
pub record SameNamed (t : CType) (ps : List Pair) (u : CType) (qs : List Pair) : Type 0 where
  pub type : t ≡ u
  pub pairs : ps ≡ qs

-- one type and one value
pub record SameConstant (t : IntType) (v : ℤ) (u : IntType) (w : ℤ) : Type 0 where
  pub type : t ≡ u
  pub value : v ≡ w

pub alone : {t u to to' : CType} → t ≡ u → to ≡ to' → pair t to ∷ [] ≡ pair u to' ∷ []
alone f g = cc

pub first : {t u to to' : CType} {ps qs : List Pair} → t ≡ u → to ≡ to' → ps ≡ qs → pair t to ∷ ps ≡ pair u to' ∷ qs
first f g h = cc

pub joined : {ps ps' qs qs' : List Pair} → ps ≡ ps' → qs ≡ qs' → ps ++ qs ≡ ps' ++ qs'
joined f g = cc

pub between : {t u to to' : CType} {ps ps' qs qs' : List Pair} → ps ≡ ps' → t ≡ u → to ≡ to' → qs ≡ qs' → ps ++ (pair t to ∷ qs) ≡ ps' ++ (pair u to' ∷ qs')
between e f g h = joined e (first f g h)

-- the type of what a word means, as an expression
abbrev pub word_type : Option Meaning → Option CType
word_type (Some (global t n)) = Some t
word_type (Some (local s t)) = Some t
word_type (Some (constant v)) = Some int
word_type _ = None

abbrev pub function_in : CType → Option Meaning → CType
function_in d (Some (function f)) = f
function_in d _ = d

abbrev pub constant_in : ℤ → Option Meaning → ℤ
constant_in d (Some (constant v)) = v
constant_in d _ = d

abbrev pub word_of : Layer → List ℕ
word_of (Exp-F.Var name) = name
word_of _ = []

abbrev pub texts_of : Layer → List (List ℕ)
texts_of (Exp-F.Str texts) = texts
texts_of _ = []

abbrev pub SuffixLayer : Type 0
SuffixLayer = Suffix-F Exp Specifier Suffix Declarator Member Param TypeName

abbrev pub sizes_of : SuffixLayer → Option (List (Option Exp))
sizes_of (Suffix-F.Arrays sizes) = Some sizes
sizes_of _ = None

-- what a value is converted to where it is cast to a type
abbrev pub cast_layer : CType-F CType → CType → CType
cast_layer CType-F.Void v = c.Void
cast_layer _ v = v

abbrev pub cast_as : CType → CType → CType
cast_as t v = cast_layer (out-CType t) v

pub as_void : (v : CType) → c.Void ≡ cast_as c.Void v
as_void v = sym (ap (λ z. cast_layer z v) out_Void)

pub as_number : (t : IntType) (v : CType) → v ≡ cast_as (c.Int t) v
as_number t v = sym (ap (λ z. cast_layer z v) (out_Int t))

pub as_pointer : (t v : CType) → v ≡ cast_as (c.Ptr t) v
as_pointer t v = sym (ap (λ z. cast_layer z v) (out_Ptr t))

-- the first array has a size
abbrev pub FirstIsSized : List (Option Exp) → Type 0
FirstIsSized (None ∷ sizes) = ⊥
FirstIsSized _ = Unit {0}

-- facts of constants, where what they are of is equal
pub one_becoming : {t u : IntType} {v w a b : ℤ} → Becomes t v a → Becomes u w b → t ≡ u → v ≡ w → a ≡ b
one_becoming {t = t} {w = w} {b = b} h k e f = becomes_one h (subst (λ z. Becomes t z b) (sym f) (subst (λ z. Becomes z w b) (sym e) k))

pub one_computed : {o : Op} {t u : IntType} {v w v' w' r s : ℤ} → Computes o t v w r → Computes o u v' w' s → t ≡ u → v ≡ v' → w ≡ w' → r ≡ s
one_computed {o = o} {t = t} {v = v} {v' = v'} {w' = w'} {s = s} h k e f g =
    computes_one h (subst (λ z. Computes o t v z s) (sym g) (subst (λ z. Computes o t z w' s) (sym f) (subst (λ z. Computes o z v' w' s) (sym e) k)))

pub one_shifted : {o : Op} {t u : IntType} {v v' r s : ℤ} {n m : ℕ} → Shifts o t v n r → Shifts o u v' m s → t ≡ u → v ≡ v' → n ≡ m → r ≡ s
one_shifted {o = o} {t = t} {v = v} {v' = v'} {s = s} {m = m} h k e f g =
    shifts_one h (subst (λ z. Shifts o t v z s) (sym g) (subst (λ z. Shifts o t z m s) (sym f) (subst (λ z. Shifts o z v' m s) (sym e) k)))

pub one_compared : {o : Op} {v w v' w' r s : ℤ} → Compares o v w r → Compares o v' w' s → v ≡ v' → w ≡ w' → r ≡ s
one_compared {o = o} {v = v} {w' = w'} {s = s} h k f g = compares_one h (subst (λ z. Compares o v z s) (sym g) (subst (λ z. Compares o z w' s) (sym f) k))

pub computes_or_shifts : {A : Type 0} (o : Op) → class_of o ≡ computing → class_of o ≡ shifting → A
computes_or_shifts o f g = absurd cc

pub computes_or_compares : {A : Type 0} (o : Op) → class_of o ≡ computing → class_of o ≡ comparing → A
computes_or_compares o f g = absurd cc

pub shifts_or_compares : {A : Type 0} (o : Op) → class_of o ≡ shifting → class_of o ≡ comparing → A
shifts_or_compares o f g = absurd cc

-- a typing of what is equal
pub strings_as : {texts texts' : List (List ℕ)} {values : List ℕ} → AreStrings texts' values → texts ≡ texts' → AreStrings texts values
strings_as {values = values} A e = subst (λ z. AreStrings z values) (sym e) A

pub format_as : {target : Target} {values values' : List ℕ} {specs : List Spec} → IsFormat target values' specs → values ≡ values' → IsFormat target values specs
format_as {target = target} {specs = specs} A e = subst (λ z. IsFormat target z specs) (sym e) A

module _ (ctx : Context) where
  pub object_type : {name : List ℕ} {t : CType} → IsObject ctx name t → word_type (meaning ctx name) ≡ Some t
  object_type (of_file h) = ap word_type h
  object_type (of_block h) = ap word_type h

  pub one_function : {name name' : List ℕ} {f g : CType} → meaning ctx name ≡ Some (function f) → meaning ctx name' ≡ Some (function g) → name ≡ name' → f ≡ g
  one_function {name = name} {name' = name'} {f = f} h k e = ap (function_in f) (sym h ∙ ap (meaning ctx) e ∙ k)

  -- what a typing of one form consists of, whatever its rule was
  pub record WordParts (name : List ℕ) (t to : CType) (ps : List Pair) : Type 0 where
    pub type : word_type (meaning ctx name) ≡ Some t
    pub pairs : ps ≡ pair t to ∷ []

  pub word_parts : {name : List ℕ} {t to : CType} {ps : List Pair} → Types ctx (Exp-F.Var name) t to ps → WordParts name t to ps
  word_parts (object h) = record { type = object_type h; pairs = refl }
  word_parts (enumerator h) = record { type = ap word_type h; pairs = refl }

  pub record CastParts (name : TypeName) (x : Exp) (t to : CType) (ps : List Pair) : Type 0 where
    pub value : CType
    pub conversion : CType
    pub before : List Pair
    pub behind : List Pair
    pub named : Named ctx name t before
    pub operand : Operand ctx x value conversion behind
    pub converted : conversion ≡ cast_as t value
    pub pairs : ps ≡ pair t to ∷ (before ++ behind)

  pub cast_parts : {name : TypeName} {x : Exp} {t to : CType} {ps : List Pair} → Types ctx (Exp-F.Cast name x) t to ps → CastParts name x t to ps
  cast_parts (cast_to_void {t = v} {ps = ps} {qs = qs} N A) = record { value = v; conversion = c.Void; before = ps; behind = qs; named = N; operand = A; converted = as_void v; pairs = refl }
  cast_parts (cast_number s t {ps = ps} {qs = qs} N A) = record { value = c.Int s; conversion = c.Int s; before = ps; behind = qs; named = N; operand = A; converted = as_number t (c.Int s); pairs = refl }
  cast_parts (cast_pointer t u {ps = ps} {qs = qs} N A) = record { value = c.Ptr u; conversion = c.Ptr u; before = ps; behind = qs; named = N; operand = A; converted = as_pointer t (c.Ptr u); pairs = refl }
  cast_parts (cast_null t s {ps = ps} {qs = qs} N h A) = record { value = c.Int s; conversion = c.Int s; before = ps; behind = qs; named = N; operand = A; converted = as_pointer t (c.Int s); pairs = refl }
  cast_parts (cast_to_bool u {ps = ps} {qs = qs} N A) = record { value = c.Ptr u; conversion = c.Ptr u; before = ps; behind = qs; named = N; operand = A; converted = as_number bool_type (c.Ptr u); pairs = refl }

  pub record BinaryParts (o : Op) (x y : Exp) (r to : CType) (ps : List Pair) : Type 0 where
    pub first_type : CType
    pub second_type : CType
    pub left : CType
    pub right : CType
    pub before : List Pair
    pub behind : List Pair
    pub combined : combination ctx o first_type second_type ≡ combine r left right
    pub first_operand : Operand ctx x first_type left before
    pub second_operand : Operand ctx y second_type right behind
    pub pairs : ps ≡ before ++ (pair r to ∷ behind)

  pub binary_parts : {o : Op} {x y : Exp} {r to : CType} {ps : List Pair} → Types ctx (Exp-F.Binary o x y) r to ps → BinaryParts o x y r to ps
  binary_parts (binary {t = t} {u = u} {a = a} {b = b} {ps = ps} {qs = qs} h A B) = record {
    first_type = t;
    second_type = u;
    left = a;
    right = b;
    before = ps;
    behind = qs;
    combined = is_combination h;
    first_operand = A;
    second_operand = B;
    pairs = refl;
  }
  binary_parts (null_right {o = o} t s {ps = ps} {qs = qs} h n A B) = record {
    first_type = c.Ptr t;
    second_type = c.Int s;
    left = c.Ptr t;
    right = c.Ptr t;
    before = ps;
    behind = qs;
    combined = right_with_null ctx o t s h;
    first_operand = A;
    second_operand = B;
    pairs = refl;
  }
  binary_parts (null_left {o = o} t s {ps = ps} {qs = qs} h n A B) = record {
    first_type = c.Int s;
    second_type = c.Ptr t;
    left = c.Ptr t;
    right = c.Ptr t;
    before = ps;
    behind = qs;
    combined = left_with_null ctx o t s h;
    first_operand = A;
    second_operand = B;
    pairs = refl;
  }

  pub record AssignedParts (x : Exp) (t : CType) (ps : List Pair) : Type 0 where
    pub value : CType
    pub operand : Operand ctx x value t ps

  pub assigned_parts : {x : Exp} {t : CType} {ps : List Pair} → Assigned ctx x t ps → AssignedParts x t ps
  assigned_parts (assigned_number s t A) = record { value = c.Int s; operand = A }
  assigned_parts (assigned_struct n A) = record { value = c.Struct n; operand = A }
  assigned_parts (assigned_pointer t u A) = record { value = c.Ptr u; operand = A }
  assigned_parts (assigned_null s t h A) = record { value = c.Int s; operand = A }
  assigned_parts (assigned_bool u A) = record { value = c.Ptr u; operand = A }

  pub assigned_as : {x : Exp} {t u : CType} {ps : List Pair} → Assigned ctx x u ps → t ≡ u → Assigned ctx x t ps
  assigned_as {x = x} {ps = ps} A e = subst (λ z. Assigned ctx x z ps) (sym e) A

  pub first_is_sized : {t u : CType} {sizes : List (Option Exp)} {ps : List Pair} → Sized ctx t sizes u ps → FirstIsSized sizes
  first_is_sized no_more_sizes = tt
  first_is_sized (one_more_size A C l B h k) = tt

  pub prints_as : {xs : List Exp} {specs specs' : List Spec} {ps : List Pair} → Prints ctx xs specs' ps → specs ≡ specs' → Prints ctx xs specs ps
  prints_as {xs = xs} {ps = ps} A e = subst (λ z. Prints ctx xs z ps) (sym e) A

  pub array_as : {t u : CType} {sizes sizes' : List (Option Exp)} {ps : List Pair} → IsArray ctx t sizes' u ps → sizes ≡ sizes' → IsArray ctx t sizes u ps
  array_as {t = t} {u = u} {ps = ps} A e = subst (λ z. IsArray ctx t z u ps) (sym e) A
