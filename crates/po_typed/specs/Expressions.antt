-- Which expressions have a typing, and which (C99 6.5, 6.6). `Types ctx (out-Exp x) t to pairs`: the expression x has the type t, and is
-- converted to `to`, which what it stands in has chosen; `pairs` are the types and the conversions of its expressions in the order of their heads.
use Rattle.std.specs.Prelude.{ℕ, ◌+◌, ◌≤◌, ◌≡◌, ◌≢◌, Bool, true, false, List, [], ◌∷◌, ◌++◌, length, get_or, codes, Contains, All, Option, Some, None, ℤ, pos}
use Rattle.po_arith.specs.declared.int_type.IntType.{IntType}
use Rattle.po_base.specs.declared.operators.Op.{Op}
use Rattle.po_base.specs.declared.operators.Op.TheVariants as op
use Rattle.po_tree.specs.declared.expression.Exp.{Exp, out-Exp}
use Rattle.po_tree.specs.declared.expression.Exp.TheOpen.{Exp-F, Specifier-F, Suffix-F}
use Rattle.po_tree.specs.declared.expression.Specifier.{Specifier, out-Specifier}
use Rattle.po_tree.specs.declared.expression.Suffix.{out-Suffix}
use Rattle.po_tree.specs.declared.expression.TypeName.{TypeName}
use Rattle.po_types.specs.declared.ctype.CType.{CType}
use Rattle.po_types.specs.declared.ctype.CType.TheVariants as c
use Rattle.po_types.specs.Integers.{promoted, common, int_type, char_type, bool_type, size_type, long_type, unsigned_type}
use Rattle.po_types.specs.Types.{size_of, Agree, composite}
use Rattle.po_types.specs.Tables.{found}
use Rattle.po_types.specs.Formats.{IsFormat}
use Rattle.po_types.specs.declared.format.Spec.{Spec}
use Rattle.po_types.specs.declared.format.Spec.TheVariants as f
use Rattle.po_typed.specs.Forms.{Layer, SpecifierLayer}
use Rattle.po_typed.specs.Scopes.{Context, Storage, in_register, global, function, local, type_name, constant, struct_tag, enum_tag, meaning, tag_meaning}
use Rattle.po_typed.specs.Operands.{IsComplete, value_type, Tested, Stepped, Combines, shift_operators, arithmetic_operators, equality_operators, comparisons, compound_operators}
use Rattle.po_typed.specs.Constants.{IsNumber, IsCharacterOf, AreStrings, Becomes, Computes, Shifts, Compares, complemented}
use Rattle.po_typed.specs.BaseTypes.{OnlyWords, IsPlainWord, IsWordType, starred, CanBeStarred, RestrictFits}

-- the type of an expression and the type to which it is converted
pub record Pair : Type 0 where
  pub type : CType
  pub conversion : CType

abbrev pub pair : CType → CType → Pair
pair t to = record { type = t; conversion = to }

abbrev pub int : CType
int = c.Int int_type

abbrev pub char : CType
char = c.Int char_type

-- the identifier means an object of this type
pub data IsObject (ctx : Context) (name : List ℕ) (t : CType) : Type 0 where
  of_file : {n : ℕ} → meaning ctx name ≡ Some (global t n) → IsObject ctx name t
  of_block : {s : Storage} → meaning ctx name ≡ Some (local s t) → IsObject ctx name t

-- lvalues (6.3.2.1p1, 6.5.1p2, p4, p5, 6.5.2.1p2, 6.5.2.3p3, p4, 6.5.3.2p4)
pub data IsLvalue (ctx : Context) : Layer → Type 0 where
  lvalue_object : {name : List ℕ} {t : CType} → IsObject ctx name t → IsLvalue ctx (Exp-F.Var name)
  lvalue_string : {texts : List (List ℕ)} → IsLvalue ctx (Exp-F.Str texts)
  lvalue_paren : {x : Exp} → IsLvalue ctx (out-Exp x) → IsLvalue ctx (Exp-F.Paren x)
  lvalue_index : {x y : Exp} → IsLvalue ctx (Exp-F.Index x y)
  lvalue_member : {x : Exp} {name : List ℕ} → IsLvalue ctx (out-Exp x) → IsLvalue ctx (Exp-F.Dot x name)
  lvalue_arrow : {x : Exp} {name : List ℕ} → IsLvalue ctx (Exp-F.Arrow x name)
  lvalue_deref : {x : Exp} → IsLvalue ctx (Exp-F.Deref x)

-- what `&` takes: an lvalue that no register holds, or what `*` gives (6.5.3.2p1)
pub data HasAddress (ctx : Context) : Layer → Type 0 where
  address_global : {name : List ℕ} {t : CType} {n : ℕ} → meaning ctx name ≡ Some (global t n) → t ≢ c.Void → HasAddress ctx (Exp-F.Var name)
  address_local : {name : List ℕ} {t : CType} {s : Storage} → meaning ctx name ≡ Some (local s t) → s ≢ in_register → HasAddress ctx (Exp-F.Var name)
  address_string : {texts : List (List ℕ)} → HasAddress ctx (Exp-F.Str texts)
  address_paren : {x : Exp} → HasAddress ctx (out-Exp x) → HasAddress ctx (Exp-F.Paren x)
  address_index : {x y : Exp} → HasAddress ctx (Exp-F.Index x y)
  address_member : {x : Exp} {name : List ℕ} → HasAddress ctx (out-Exp x) → HasAddress ctx (Exp-F.Dot x name)
  address_arrow : {x : Exp} {name : List ℕ} → HasAddress ctx (Exp-F.Arrow x name)
  address_deref : {x : Exp} → HasAddress ctx (Exp-F.Deref x)

-- the type of printf (7.19.6.3)
abbrev pub printf_type : CType
printf_type = c.Fun int (c.Ptr char ∷ []) true

-- a typedef name, or a tag alone, that is in force (6.7.2.3, 6.7.7)
pub data IsInForce (ctx : Context) : SpecifierLayer → CType → Type 0 where
  typedef_in_force : {name : List ℕ} {t : CType} {const : Bool} → meaning ctx name ≡ Some (type_name t const) → IsInForce ctx (Specifier-F.Named name) t
  struct_in_force : {tag : List ℕ} {n : ℕ} → tag_meaning ctx tag ≡ Some (struct_tag n) → IsInForce ctx (Specifier-F.Struct (Some tag) None) (c.Struct n)
  enum_in_force : {tag : List ℕ} → tag_meaning ctx tag ≡ Some enum_tag → IsInForce ctx (Specifier-F.Enum (Some tag) None false) int

-- what specifiers that declare nothing say: words in any order, or one typedef name or tag that is in force among qualifiers (6.7.2p2)
pub data IsBase (ctx : Context) : List Specifier → CType → Type 0 where
  base_words : {specs : List Specifier} {t : CType} → IsWordType ctx.target specs t → IsBase ctx specs t
  base_of_one : {specs : List Specifier} (before after : List Specifier) (s : Specifier) {t : CType} → specs ≡ before ++ (s ∷ after) →
      All IsPlainWord before → All IsPlainWord after → IsInForce ctx (out-Specifier s) t → IsBase ctx specs t

-- what the specifiers and the stars of a type name without a word say (6.7.6)
pub record IsStarredBase (ctx : Context) (name : TypeName) (t : CType) : Type 0 where
  pub base : CType
  pub allowed : OnlyWords [] name.specs
  pub said : IsBase ctx name.specs base
  pub restricted : RestrictFits name.specs base
  pub pointable : CanBeStarred name.declarator.stars base
  pub unnamed : name.declarator.name ≡ None
  pub type : t ≡ starred base name.declarator.stars

-- a type name without arrays
abbrev pub IsPlainName : Context → TypeName → CType → Type 0
IsPlainName ctx name t = IsStarredBase ctx name t × (out-Suffix name.declarator.suffix ≡ Suffix-F.Plain)

-- the constant 0: one number of value 0, in parentheses, under `+`, or under casts to integer types (6.3.2.3p3)
pub data IsNull (ctx : Context) : Layer → Type 0 where
  null_number : {text : List ℕ} {t : IntType} → IsNumber ctx.target text t 0 → IsNull ctx (Exp-F.Num text)
  null_character : {text : List ℕ} → IsCharacterOf text (pos 0) → IsNull ctx (Exp-F.Chr text)
  null_enumerator : {name : List ℕ} → meaning ctx name ≡ Some (constant (pos 0)) → IsNull ctx (Exp-F.Var name)
  null_paren : {x : Exp} → IsNull ctx (out-Exp x) → IsNull ctx (Exp-F.Paren x)
  null_plus : {x : Exp} → IsNull ctx (out-Exp x) → IsNull ctx (Exp-F.Plus x)
  null_cast : {name : TypeName} (t : IntType) {x : Exp} → IsPlainName ctx name (c.Int t) → IsNull ctx (out-Exp x) → IsNull ctx (Exp-F.Cast name x)

-- `(void*)0`
pub data IsNullPointer (ctx : Context) : Layer → Type 0 where
  null_pointer : {name : TypeName} {x : Exp} → IsPlainName ctx name (c.Ptr c.Void) → IsNull ctx (out-Exp x) → IsNullPointer ctx (Exp-F.Cast name x)
  null_pointer_paren : {x : Exp} → IsNullPointer ctx (out-Exp x) → IsNullPointer ctx (Exp-F.Paren x)

-- Chooses ctx y u z v r: of the values of `? :`, of the types u and v, both become r (6.5.15p3, p5, p6)
pub data Chooses (ctx : Context) : Exp → CType → Exp → CType → CType → Type 0 where
  numbers : {y z : Exp} (s t : IntType) → Chooses ctx y (c.Int s) z (c.Int t) (c.Int (common s t))
  structs : {y z : Exp} (n : ℕ) → Chooses ctx y (c.Struct n) z (c.Struct n) (c.Struct n)
  voids : {y z : Exp} → Chooses ctx y c.Void z c.Void c.Void
  pointers : {y z : Exp} {t u : CType} → Agree t u → Chooses ctx y (c.Ptr t) z (c.Ptr u) (c.Ptr (composite t u))
  zero_right : {y z : Exp} (t : CType) (s : IntType) → IsNull ctx (out-Exp z) → Chooses ctx y (c.Ptr t) z (c.Int s) (c.Ptr t)
  zero_left : {y z : Exp} (t : CType) (s : IntType) → IsNull ctx (out-Exp y) → Chooses ctx y (c.Int s) z (c.Ptr t) (c.Ptr t)
  null_pointer_right : {y z : Exp} {t : CType} → t ≢ c.Void → IsNullPointer ctx (out-Exp z) → Chooses ctx y (c.Ptr t) z (c.Ptr c.Void) (c.Ptr t)
  null_pointer_left : {y z : Exp} {t : CType} → t ≢ c.Void → IsNullPointer ctx (out-Exp y) → Chooses ctx y (c.Ptr c.Void) z (c.Ptr t) (c.Ptr t)
  void_right : {y z : Exp} {t : CType} → t ≢ c.Void → (IsNullPointer ctx (out-Exp z) → ⊥) → Chooses ctx y (c.Ptr t) z (c.Ptr c.Void) (c.Ptr c.Void)
  void_left : {y z : Exp} {t : CType} → t ≢ c.Void → (IsNullPointer ctx (out-Exp y) → ⊥) → Chooses ctx y (c.Ptr c.Void) z (c.Ptr t) (c.Ptr c.Void)

-- the form of an integer constant expression (6.6p3, p6): constants, `sizeof`, casts to integer types, and operators that only compute
pub data IsForm (ctx : Context) : Layer → Type 0 where
  form_number : {text : List ℕ} → IsForm ctx (Exp-F.Num text)
  form_character : {text : List ℕ} → IsForm ctx (Exp-F.Chr text)
  form_enumerator : {name : List ℕ} {v : ℤ} → meaning ctx name ≡ Some (constant v) → IsForm ctx (Exp-F.Var name)
  form_paren : {x : Exp} → IsForm ctx (out-Exp x) → IsForm ctx (Exp-F.Paren x)
  form_plus : {x : Exp} → IsForm ctx (out-Exp x) → IsForm ctx (Exp-F.Plus x)
  form_minus : {x : Exp} → IsForm ctx (out-Exp x) → IsForm ctx (Exp-F.Minus x)
  form_complement : {x : Exp} → IsForm ctx (out-Exp x) → IsForm ctx (Exp-F.Compl x)
  form_not : {x : Exp} → IsForm ctx (out-Exp x) → IsForm ctx (Exp-F.Not x)
  form_size_of_expression : {x : Exp} → IsForm ctx (Exp-F.SizeExp x)
  form_size_of_type : {name : TypeName} → IsForm ctx (Exp-F.SizeType name)
  form_cast : {name : TypeName} (t : IntType) {x : Exp} → IsPlainName ctx name (c.Int t) → IsForm ctx (out-Exp x) → IsForm ctx (Exp-F.Cast name x)
  form_binary : {o : Op} {x y : Exp} → IsForm ctx (out-Exp x) → IsForm ctx (out-Exp y) → IsForm ctx (Exp-F.Binary o x y)
  form_and : {x y : Exp} → IsForm ctx (out-Exp x) → IsForm ctx (out-Exp y) → IsForm ctx (Exp-F.LogAnd x y)
  form_or : {x y : Exp} → IsForm ctx (out-Exp x) → IsForm ctx (out-Exp y) → IsForm ctx (Exp-F.LogOr x y)
  form_conditional : {x y z : Exp} → IsForm ctx (out-Exp x) → IsForm ctx (out-Exp y) → IsForm ctx (out-Exp z) → IsForm ctx (Exp-F.Cond x y z)

mutual
  pub data Types (ctx : Context) : Layer → CType → CType → List Pair → Type 0 where
    -- 6.5.1
    object : {name : List ℕ} {t to : CType} → IsObject ctx name t → Types ctx (Exp-F.Var name) t to (pair t to ∷ [])
    enumerator : {name : List ℕ} {v : ℤ} {to : CType} → meaning ctx name ≡ Some (constant v) → Types ctx (Exp-F.Var name) int to (pair int to ∷ [])
    number : {text : List ℕ} {t : IntType} {v : ℕ} {to : CType} → IsNumber ctx.target text t v → Types ctx (Exp-F.Num text) (c.Int t) to (pair (c.Int t) to ∷ [])
    character : {text : List ℕ} {v : ℤ} {to : CType} → IsCharacterOf text v → Types ctx (Exp-F.Chr text) int to (pair int to ∷ [])
    string : {texts : List (List ℕ)} {values : List ℕ} {t to : CType} → AreStrings texts values → t ≡ c.Array char (Some (length values + 1)) →
        Types ctx (Exp-F.Str texts) t to (pair t to ∷ [])
    parenthesised : {x : Exp} {t to : CType} {ps : List Pair} → Types ctx (out-Exp x) t t ps → Types ctx (Exp-F.Paren x) t to (pair t to ∷ ps)
    -- 6.5.2.1
    subscript : {x y : Exp} {t to : CType} (s : IntType) {ps qs : List Pair} → Operand ctx x (c.Ptr t) (c.Ptr t) ps → Operand ctx y (c.Int s) (c.Int s) qs →
        IsComplete ctx t → Types ctx (Exp-F.Index x y) t to (ps ++ (pair t to ∷ qs))
    subscript_first : {x y : Exp} {t to : CType} (s : IntType) {ps qs : List Pair} → Operand ctx x (c.Int s) (c.Int s) ps → Operand ctx y (c.Ptr t) (c.Ptr t) qs →
        IsComplete ctx t → Types ctx (Exp-F.Index x y) t to (ps ++ (pair t to ∷ qs))
    -- 6.5.2.2: a call names its function
    call : {x : Exp} {name : List ℕ} {xs : List Exp} {t f to : CType} {params : List CType} {qs : List Pair} → out-Exp x ≡ Exp-F.Var name →
        f ≡ c.Fun t params false → meaning ctx name ≡ Some (function f) → Passes ctx xs params qs → Types ctx (Exp-F.Call x xs) t to (pair f f ∷ pair t to ∷ qs)
    print : {x y : Exp} {texts : List (List ℕ)} {xs : List Exp} {values : List ℕ} {specs : List Spec} {to : CType} {qs rs : List Pair} →
        out-Exp x ≡ Exp-F.Var (codes "printf") → meaning ctx (codes "printf") ≡ Some (function printf_type) → out-Exp y ≡ Exp-F.Str texts → AreStrings texts values →
        IsFormat ctx.target values specs → Operand ctx y (c.Ptr char) (c.Ptr char) qs → Prints ctx xs specs rs →
        Types ctx (Exp-F.Call x (y ∷ xs)) int to (pair printf_type printf_type ∷ pair int to ∷ (qs ++ rs))
    -- 6.5.2.3
    member : {x : Exp} {name : List ℕ} (n : ℕ) {t to : CType} {ps : List Pair} → Types ctx (out-Exp x) (c.Struct n) (c.Struct n) ps →
        found (get_or ctx.members n []) name ≡ Some t → Types ctx (Exp-F.Dot x name) t to (ps ++ (pair t to ∷ []))
    arrow : {x : Exp} {name : List ℕ} (n : ℕ) {t to : CType} {ps : List Pair} → Operand ctx x (c.Ptr (c.Struct n)) (c.Ptr (c.Struct n)) ps →
        found (get_or ctx.members n []) name ≡ Some t → Types ctx (Exp-F.Arrow x name) t to (ps ++ (pair t to ∷ []))
    -- 6.5.2.4, 6.5.3.1
    post_increment : {x : Exp} {t a to : CType} {ps : List Pair} → IsLvalue ctx (out-Exp x) → Stepped ctx t a → Types ctx (out-Exp x) t a ps →
        Types ctx (Exp-F.PostInc x) t to (ps ++ (pair t to ∷ []))
    post_decrement : {x : Exp} {t a to : CType} {ps : List Pair} → IsLvalue ctx (out-Exp x) → Stepped ctx t a → Types ctx (out-Exp x) t a ps →
        Types ctx (Exp-F.PostDec x) t to (ps ++ (pair t to ∷ []))
    pre_increment : {x : Exp} {t a to : CType} {ps : List Pair} → IsLvalue ctx (out-Exp x) → Stepped ctx t a → Types ctx (out-Exp x) t a ps →
        Types ctx (Exp-F.PreInc x) t to (pair t to ∷ ps)
    pre_decrement : {x : Exp} {t a to : CType} {ps : List Pair} → IsLvalue ctx (out-Exp x) → Stepped ctx t a → Types ctx (out-Exp x) t a ps →
        Types ctx (Exp-F.PreDec x) t to (pair t to ∷ ps)
    -- 6.5.3.2
    address : {x : Exp} {t to : CType} {ps : List Pair} → HasAddress ctx (out-Exp x) → Types ctx (out-Exp x) t t ps → Types ctx (Exp-F.Addr x) (c.Ptr t) to (pair (c.Ptr t) to ∷ ps)
    indirection : {x : Exp} {t to : CType} {ps : List Pair} → Operand ctx x (c.Ptr t) (c.Ptr t) ps → Types ctx (Exp-F.Deref x) t to (pair t to ∷ ps)
    -- 6.5.3.3
    plus : {x : Exp} (s : IntType) {to : CType} {ps : List Pair} → Operand ctx x (c.Int s) (c.Int (promoted s)) ps →
        Types ctx (Exp-F.Plus x) (c.Int (promoted s)) to (pair (c.Int (promoted s)) to ∷ ps)
    minus : {x : Exp} (s : IntType) {to : CType} {ps : List Pair} → Operand ctx x (c.Int s) (c.Int (promoted s)) ps →
        Types ctx (Exp-F.Minus x) (c.Int (promoted s)) to (pair (c.Int (promoted s)) to ∷ ps)
    complement : {x : Exp} (s : IntType) {to : CType} {ps : List Pair} → Operand ctx x (c.Int s) (c.Int (promoted s)) ps →
        Types ctx (Exp-F.Compl x) (c.Int (promoted s)) to (pair (c.Int (promoted s)) to ∷ ps)
    negation : {x : Exp} {t a to : CType} {ps : List Pair} → Tested t a → Operand ctx x t a ps → Types ctx (Exp-F.Not x) int to (pair int to ∷ ps)
    -- 6.5.3.4
    size_of_expression : {x : Exp} {t to size : CType} {n : ℕ} {ps : List Pair} → Types ctx (out-Exp x) t t ps → size_of ctx.target ctx.structs t ≡ Some n →
        size ≡ c.Int (size_type ctx.target) → Types ctx (Exp-F.SizeExp x) size to (pair size to ∷ ps)
    size_of_type : {name : TypeName} {t to size : CType} {n : ℕ} {ps : List Pair} → Named ctx name t ps → size_of ctx.target ctx.structs t ≡ Some n →
        size ≡ c.Int (size_type ctx.target) → Types ctx (Exp-F.SizeType name) size to (pair size to ∷ ps)
    -- 6.5.4
    cast_to_void : {name : TypeName} {x : Exp} {t to : CType} {ps qs : List Pair} → Named ctx name c.Void ps → Operand ctx x t c.Void qs →
        Types ctx (Exp-F.Cast name x) c.Void to (pair c.Void to ∷ (ps ++ qs))
    cast_number : {name : TypeName} {x : Exp} (s t : IntType) {to : CType} {ps qs : List Pair} → Named ctx name (c.Int t) ps → Operand ctx x (c.Int s) (c.Int s) qs →
        Types ctx (Exp-F.Cast name x) (c.Int t) to (pair (c.Int t) to ∷ (ps ++ qs))
    cast_pointer : {name : TypeName} {x : Exp} (t u : CType) {to : CType} {ps qs : List Pair} → Named ctx name (c.Ptr t) ps → Operand ctx x (c.Ptr u) (c.Ptr u) qs →
        Types ctx (Exp-F.Cast name x) (c.Ptr t) to (pair (c.Ptr t) to ∷ (ps ++ qs))
    cast_null : {name : TypeName} {x : Exp} (t : CType) {to : CType} (s : IntType) {ps qs : List Pair} → Named ctx name (c.Ptr t) ps → IsNull ctx (out-Exp x) → Operand ctx x (c.Int s) (c.Int s) qs →
        Types ctx (Exp-F.Cast name x) (c.Ptr t) to (pair (c.Ptr t) to ∷ (ps ++ qs))
    cast_to_bool : {name : TypeName} {x : Exp} (u : CType) {to : CType} {ps qs : List Pair} → Named ctx name (c.Int bool_type) ps → Operand ctx x (c.Ptr u) (c.Ptr u) qs →
        Types ctx (Exp-F.Cast name x) (c.Int bool_type) to (pair (c.Int bool_type) to ∷ (ps ++ qs))
    -- 6.5.5 to 6.5.12
    binary : {o : Op} {x y : Exp} {t u r a b to : CType} {ps qs : List Pair} → Combines ctx o t u r a b → Operand ctx x t a ps → Operand ctx y u b qs →
        Types ctx (Exp-F.Binary o x y) r to (ps ++ (pair r to ∷ qs))
    -- 6.5.9p2: a pointer and the constant 0
    null_right : {o : Op} {x y : Exp} (t : CType) {to : CType} (s : IntType) {ps qs : List Pair} → Contains equality_operators o → IsNull ctx (out-Exp y) →
        Operand ctx x (c.Ptr t) (c.Ptr t) ps → Operand ctx y (c.Int s) (c.Ptr t) qs → Types ctx (Exp-F.Binary o x y) int to (ps ++ (pair int to ∷ qs))
    null_left : {o : Op} {x y : Exp} (t : CType) {to : CType} (s : IntType) {ps qs : List Pair} → Contains equality_operators o → IsNull ctx (out-Exp x) →
        Operand ctx x (c.Int s) (c.Ptr t) ps → Operand ctx y (c.Ptr t) (c.Ptr t) qs → Types ctx (Exp-F.Binary o x y) int to (ps ++ (pair int to ∷ qs))
    -- 6.5.13, 6.5.14
    logical_and : {x y : Exp} {t u a b to : CType} {ps qs : List Pair} → Tested t a → Tested u b → Operand ctx x t a ps → Operand ctx y u b qs →
        Types ctx (Exp-F.LogAnd x y) int to (ps ++ (pair int to ∷ qs))
    logical_or : {x y : Exp} {t u a b to : CType} {ps qs : List Pair} → Tested t a → Tested u b → Operand ctx x t a ps → Operand ctx y u b qs →
        Types ctx (Exp-F.LogOr x y) int to (ps ++ (pair int to ∷ qs))
    -- 6.5.15
    conditional : {x y z : Exp} {t a u v r to : CType} {ps qs rs : List Pair} → Tested t a → Operand ctx x t a ps → Chooses ctx y u z v r →
        Operand ctx y u r qs → Operand ctx z v r rs → Types ctx (Exp-F.Cond x y z) r to (ps ++ (pair r to ∷ (qs ++ rs)))
    -- 6.5.16
    assignment : {x y : Exp} {t to : CType} {ps qs : List Pair} → IsLvalue ctx (out-Exp x) → Types ctx (out-Exp x) t t ps → Assigned ctx y t qs →
        Types ctx (Exp-F.Assign None x y) t to (ps ++ (pair t to ∷ qs))
    compound_number : {o : Op} {x y : Exp} (s t : IntType) {r a b to : CType} {ps qs : List Pair} → Contains compound_operators o → IsLvalue ctx (out-Exp x) →
        Combines ctx o (c.Int s) (c.Int t) r a b → Types ctx (out-Exp x) (c.Int s) a ps → Operand ctx y (c.Int t) b qs →
        Types ctx (Exp-F.Assign (Some o) x y) (c.Int s) to (ps ++ (pair (c.Int s) to ∷ qs))
    compound_pointer : {o : Op} {x y : Exp} (s : IntType) (t : CType) {to : CType} {ps qs : List Pair} → Contains (op.Add ∷ op.Sub ∷ []) o → IsLvalue ctx (out-Exp x) → IsComplete ctx t →
        Types ctx (out-Exp x) (c.Ptr t) (c.Ptr t) ps → Operand ctx y (c.Int s) (c.Int s) qs →
        Types ctx (Exp-F.Assign (Some o) x y) (c.Ptr t) to (ps ++ (pair (c.Ptr t) to ∷ qs))
    -- 6.5.17
    comma : {x y : Exp} {t u to : CType} {ps qs : List Pair} → Operand ctx x t c.Void ps → Operand ctx y u u qs →
        Types ctx (Exp-F.Comma x y) u to (ps ++ (pair u to ∷ qs))

  -- the expression has a value of the type v, which is converted to `to` (6.3.2.1p2, p3)
  pub data Operand (ctx : Context) : Exp → CType → CType → List Pair → Type 0 where
    operand : {x : Exp} {t v to : CType} {ps : List Pair} → Types ctx (out-Exp x) t to ps → value_type ctx t ≡ Some v → Operand ctx x v to ps

  -- the value is assigned to an object of the type (6.5.16.1p1)
  pub data Assigned (ctx : Context) : Exp → CType → List Pair → Type 0 where
    assigned_number : {x : Exp} (s t : IntType) {ps : List Pair} → Operand ctx x (c.Int s) (c.Int t) ps → Assigned ctx x (c.Int t) ps
    assigned_struct : {x : Exp} (n : ℕ) {ps : List Pair} → Operand ctx x (c.Struct n) (c.Struct n) ps → Assigned ctx x (c.Struct n) ps
    assigned_pointer : {x : Exp} (t u : CType) {ps : List Pair} → Operand ctx x (c.Ptr u) (c.Ptr t) ps → Assigned ctx x (c.Ptr t) ps
    assigned_null : {x : Exp} (s : IntType) (t : CType) {ps : List Pair} → IsNull ctx (out-Exp x) → Operand ctx x (c.Int s) (c.Ptr t) ps → Assigned ctx x (c.Ptr t) ps
    assigned_bool : {x : Exp} (u : CType) {ps : List Pair} → Operand ctx x (c.Ptr u) (c.Int bool_type) ps → Assigned ctx x (c.Int bool_type) ps

  -- the arguments of a call, each assigned to its parameter (6.5.2.2p2, p7)
  pub data Passes (ctx : Context) : List Exp → List CType → List Pair → Type 0 where
    no_more_arguments : Passes ctx [] [] []
    argument : {x : Exp} {xs : List Exp} {t : CType} {ts : List CType} {ps qs : List Pair} → Assigned ctx x t ps → Passes ctx xs ts qs → Passes ctx (x ∷ xs) (t ∷ ts) (ps ++ qs)

  -- what a format reads: promoted numbers, and pointers to char (7.19.6.1p8)
  pub data Prints (ctx : Context) : List Exp → List Spec → List Pair → Type 0 where
    no_more_printed : Prints ctx [] [] []
    printed_int : {x : Exp} {xs : List Exp} (s : IntType) {fs : List Spec} {ps qs : List Pair} → Contains (int_type ∷ unsigned_type 32 ∷ []) (promoted s) →
        Operand ctx x (c.Int s) (c.Int (promoted s)) ps → Prints ctx xs fs qs → Prints ctx (x ∷ xs) (f.Int ∷ fs) (ps ++ qs)
    printed_long : {x : Exp} {xs : List Exp} (s : IntType) {fs : List Spec} {ps qs : List Pair} → Contains (long_type ctx.target ∷ size_type ctx.target ∷ []) (promoted s) →
        Operand ctx x (c.Int s) (c.Int (promoted s)) ps → Prints ctx xs fs qs → Prints ctx (x ∷ xs) (f.Long ∷ fs) (ps ++ qs)
    printed_size : {x : Exp} {xs : List Exp} (s : IntType) {fs : List Spec} {ps qs : List Pair} → Contains (long_type ctx.target ∷ size_type ctx.target ∷ []) (promoted s) →
        Operand ctx x (c.Int s) (c.Int (promoted s)) ps → Prints ctx xs fs qs → Prints ctx (x ∷ xs) (f.Size ∷ fs) (ps ++ qs)
    printed_text : {x : Exp} {xs : List Exp} {fs : List Spec} {ps qs : List Pair} →
        Operand ctx x (c.Ptr char) (c.Ptr char) ps → Prints ctx xs fs qs → Prints ctx (x ∷ xs) (f.Text ∷ fs) (ps ++ qs)

  -- the type that a type name names; it declares nothing (6.7.6)
  pub data Named (ctx : Context) : TypeName → CType → List Pair → Type 0 where
    named_plain : {name : TypeName} {t : CType} → IsPlainName ctx name t → Named ctx name t []
    named_array : {name : TypeName} {sizes : List (Option Exp)} {t u : CType} {ps : List Pair} → IsStarredBase ctx name t →
        out-Suffix name.declarator.suffix ≡ Suffix-F.Arrays sizes → IsArray ctx t sizes u ps → Named ctx name u ps

  -- IsArray ctx element sizes t: arrays of the element type; without a size only the first one (6.7.5.2)
  pub data IsArray (ctx : Context) : CType → List (Option Exp) → CType → List Pair → Type 0 where
    sized_first : {t u : CType} {size : Option Exp} {sizes : List (Option Exp)} {ps : List Pair} → Sized ctx t (size ∷ sizes) u ps → IsArray ctx t (size ∷ sizes) u ps
    unsized_first : {t u : CType} {sizes : List (Option Exp)} {ps : List Pair} → Sized ctx t sizes u ps → IsComplete ctx u →
        IsArray ctx t (None ∷ sizes) (c.Array u None) ps

  -- arrays with their sizes, each a constant of at least 1; each array may be an object
  pub data Sized (ctx : Context) : CType → List (Option Exp) → CType → List Pair → Type 0 where
    no_more_sizes : {t : CType} → Sized ctx t [] t []
    one_more_size : {t u : CType} {x : Exp} {k : IntType} {n : ℕ} {sizes : List (Option Exp)} {ps qs : List Pair} →
        Types ctx (out-Exp x) (c.Int k) (c.Int k) ps → Constant ctx (out-Exp x) k (pos n) → 1 ≤ n → Sized ctx t sizes u qs →
        IsComplete ctx u → IsComplete ctx (c.Array u (Some n)) → Sized ctx t (Some x ∷ sizes) (c.Array u (Some n)) (ps ++ qs)

  -- Constant ctx (out-Exp x) t v: an integer constant expression of the type t and the value v, computed exactly (6.6p3, p4, p6)
  pub data Constant (ctx : Context) : Layer → IntType → ℤ → Type 0 where
    constant_number : {text : List ℕ} {t : IntType} {v : ℕ} → IsNumber ctx.target text t v → Constant ctx (Exp-F.Num text) t (pos v)
    constant_character : {text : List ℕ} {v : ℤ} → IsCharacterOf text v → Constant ctx (Exp-F.Chr text) int_type v
    constant_enumerator : {name : List ℕ} {v : ℤ} → meaning ctx name ≡ Some (constant v) → Constant ctx (Exp-F.Var name) int_type v
    constant_paren : {x : Exp} {t : IntType} {v : ℤ} → Constant ctx (out-Exp x) t v → Constant ctx (Exp-F.Paren x) t v
    constant_plus : {x : Exp} {t : IntType} {v w : ℤ} → Constant ctx (out-Exp x) t v → Becomes (promoted t) v w → Constant ctx (Exp-F.Plus x) (promoted t) w
    constant_minus : {x : Exp} {t : IntType} {v w r : ℤ} → Constant ctx (out-Exp x) t v → Becomes (promoted t) v w → Computes op.Sub (promoted t) (pos 0) w r →
        Constant ctx (Exp-F.Minus x) (promoted t) r
    constant_complement : {x : Exp} {t : IntType} {v w : ℤ} → Constant ctx (out-Exp x) t v → Becomes (promoted t) v w →
        Constant ctx (Exp-F.Compl x) (promoted t) (complemented (promoted t) w)
    constant_not : {x : Exp} {t : IntType} {v r : ℤ} → Constant ctx (out-Exp x) t v → Compares op.Eq v (pos 0) r → Constant ctx (Exp-F.Not x) int_type r
    constant_size_of_expression : {x : Exp} {t : CType} {n : ℕ} {ps : List Pair} → Types ctx (out-Exp x) t t ps → size_of ctx.target ctx.structs t ≡ Some n →
        Constant ctx (Exp-F.SizeExp x) (size_type ctx.target) (pos n)
    constant_size_of_type : {name : TypeName} {t : CType} {n : ℕ} {ps : List Pair} → Named ctx name t ps → size_of ctx.target ctx.structs t ≡ Some n →
        Constant ctx (Exp-F.SizeType name) (size_type ctx.target) (pos n)
    constant_cast : {name : TypeName} {x : Exp} {s t : IntType} {v w : ℤ} {ps : List Pair} → Named ctx name (c.Int t) ps → Constant ctx (out-Exp x) s v → Becomes t v w →
        Constant ctx (Exp-F.Cast name x) t w
    constant_arithmetic : {o : Op} {x y : Exp} {s t : IntType} {v w a b r : ℤ} → Contains arithmetic_operators o → Constant ctx (out-Exp x) s v → Constant ctx (out-Exp y) t w →
        Becomes (common s t) v a → Becomes (common s t) w b → Computes o (common s t) a b r → Constant ctx (Exp-F.Binary o x y) (common s t) r
    constant_shift : {o : Op} {x y : Exp} {s t : IntType} {v w a r : ℤ} {n : ℕ} → Contains shift_operators o → Constant ctx (out-Exp x) s v → Constant ctx (out-Exp y) t w →
        Becomes (promoted s) v a → Becomes (promoted t) w (pos n) → Shifts o (promoted s) a n r → Constant ctx (Exp-F.Binary o x y) (promoted s) r
    constant_comparison : {o : Op} {x y : Exp} {s t : IntType} {v w a b r : ℤ} → Contains comparisons o → Constant ctx (out-Exp x) s v → Constant ctx (out-Exp y) t w →
        Becomes (common s t) v a → Becomes (common s t) w b → Compares o a b r → Constant ctx (Exp-F.Binary o x y) int_type r
    -- what isn't evaluated has the form of a constant
    constant_and : {x y : Exp} {s t : IntType} {v w r : ℤ} → Constant ctx (out-Exp x) s v → v ≢ pos 0 → Constant ctx (out-Exp y) t w → Compares op.Ne w (pos 0) r →
        Constant ctx (Exp-F.LogAnd x y) int_type r
    constant_and_zero : {x y : Exp} {s : IntType} → Constant ctx (out-Exp x) s (pos 0) → IsForm ctx (out-Exp y) → Constant ctx (Exp-F.LogAnd x y) int_type (pos 0)
    constant_or : {x y : Exp} {s t : IntType} {w r : ℤ} → Constant ctx (out-Exp x) s (pos 0) → Constant ctx (out-Exp y) t w → Compares op.Ne w (pos 0) r →
        Constant ctx (Exp-F.LogOr x y) int_type r
    constant_or_one : {x y : Exp} {s : IntType} {v : ℤ} → Constant ctx (out-Exp x) s v → v ≢ pos 0 → IsForm ctx (out-Exp y) → Constant ctx (Exp-F.LogOr x y) int_type (pos 1)
    constant_second : {x y z : Exp} {r s : IntType} (t : IntType) {v w a : ℤ} {ps : List Pair} → Constant ctx (out-Exp x) r v → v ≢ pos 0 → Constant ctx (out-Exp y) s w → IsForm ctx (out-Exp z) →
        Types ctx (out-Exp z) (c.Int t) (c.Int t) ps → Becomes (common s t) w a → Constant ctx (Exp-F.Cond x y z) (common s t) a
    constant_third : {x y z : Exp} {r : IntType} (s : IntType) {t : IntType} {w a : ℤ} {ps : List Pair} → Constant ctx (out-Exp x) r (pos 0) → IsForm ctx (out-Exp y) → Types ctx (out-Exp y) (c.Int s) (c.Int s) ps →
        Constant ctx (out-Exp z) t w → Becomes (common s t) w a → Constant ctx (Exp-F.Cond x y z) (common s t) a

-- an integer constant expression, with the pairs of its expressions
pub record IsConstant (ctx : Context) (x : Exp) (t : IntType) (v : ℤ) (ps : List Pair) : Type 0 where
  pub typed : Types ctx (out-Exp x) (c.Int t) (c.Int t) ps
  pub computed : Constant ctx (out-Exp x) t v
