-- Which initialisers fit which types, and what an array without a size takes from its initialiser (C99 6.7.8).
use Rattle.std.specs.Prelude.{ℕ, ◌+◌, ◌≤◌, ◌≡◌, Bool, true, false, List, [], ◌∷◌, ◌++◌, length, get_or, Option, Some, None, ℤ}
use Rattle.po_arith.specs.declared.int_type.IntType.{IntType}
use Rattle.po_base.specs.declared.operators.Op.TheVariants as op
use Rattle.po_tree.specs.declared.expression.Exp.{Exp, out-Exp}
use Rattle.po_tree.specs.declared.expression.Exp.TheOpen.{Exp-F}
use Rattle.po_tree.specs.declared.expression.TypeName.{TypeName}
use Rattle.po_tree.specs.declared.declaration.Init.{Init, out-Init}
use Rattle.po_tree.specs.declared.declaration.Init.TheOpen.{Init-F}
use Rattle.po_types.specs.declared.ctype.CType.{CType}
use Rattle.po_types.specs.declared.ctype.CType.TheVariants as c
use Rattle.po_types.specs.declared.layout.Layout.{Layout}
use Rattle.po_types.specs.Integers.{char_type}
use Rattle.po_types.specs.Types.{layout_of}
use Rattle.po_typed.specs.Forms.{Layer}
use Rattle.po_typed.specs.Scopes.{Context, global, local, in_static, meaning}
use Rattle.po_typed.specs.Operands.{IsComplete}
use Rattle.po_typed.specs.Constants.{AreStrings}
use Rattle.po_typed.specs.Expressions.{Pair, pair, Types, Assigned, IsNull, IsPlainName, Constant}

-- where the object stands: for the whole run, or in a block
pub data Place : Type 0 where
  static_place : Place
  automatic_place : Place

mutual
  -- a static object, a string, or an element or member of one by constants (6.6p9)
  pub data IsDesignator (ctx : Context) : Layer → Type 0 where
    static_global : {name : List ℕ} {t : CType} {n : ℕ} → meaning ctx name ≡ Some (global t n) → IsDesignator ctx (Exp-F.Var name)
    static_local : {name : List ℕ} {t : CType} → meaning ctx name ≡ Some (local in_static t) → IsDesignator ctx (Exp-F.Var name)
    static_string : {texts : List (List ℕ)} → IsDesignator ctx (Exp-F.Str texts)
    static_paren : {x : Exp} → IsDesignator ctx (out-Exp x) → IsDesignator ctx (Exp-F.Paren x)
    static_element : {x y : Exp} {t : IntType} {v : ℤ} → IsAddress ctx true (out-Exp x) → Constant ctx (out-Exp y) t v → IsDesignator ctx (Exp-F.Index x y)
    static_element_first : {x y : Exp} {t : IntType} {v : ℤ} → Constant ctx (out-Exp x) t v → IsAddress ctx true (out-Exp y) → IsDesignator ctx (Exp-F.Index x y)
    static_member : {x : Exp} {name : List ℕ} → IsDesignator ctx (out-Exp x) → IsDesignator ctx (Exp-F.Dot x name)
    static_arrow : {x : Exp} {name : List ℕ} → IsAddress ctx true (out-Exp x) → IsDesignator ctx (Exp-F.Arrow x name)
    static_pointee : {x : Exp} → IsAddress ctx true (out-Exp x) → IsDesignator ctx (Exp-F.Deref x)

  -- an address constant; the flag says that it is the address of such a one, and no constant 0 (6.6p7, p9)
  pub data IsAddress (ctx : Context) : Bool → Layer → Type 0 where
    address_of_static : {x : Exp} → IsDesignator ctx (out-Exp x) → IsAddress ctx true (Exp-F.Addr x)
    static_array : {x : Layer} (t : CType) (n : Option ℕ) {ps : List Pair} → IsDesignator ctx x → Types ctx x (c.Array t n) (c.Array t n) ps → IsAddress ctx true x
    address_paren : {x : Exp} {b : Bool} → IsAddress ctx b (out-Exp x) → IsAddress ctx b (Exp-F.Paren x)
    address_cast : {name : TypeName} (t : CType) {x : Exp} {b : Bool} → IsPlainName ctx name (c.Ptr t) → IsAddress ctx b (out-Exp x) → IsAddress ctx b (Exp-F.Cast name x)
    null_address : {name : TypeName} (t : CType) {x : Exp} → IsPlainName ctx name (c.Ptr t) → IsNull ctx (out-Exp x) → IsAddress ctx false (Exp-F.Cast name x)
    address_plus : {x y : Exp} {t : IntType} {v : ℤ} {b : Bool} → IsAddress ctx b (out-Exp x) → Constant ctx (out-Exp y) t v → IsAddress ctx b (Exp-F.Binary op.Add x y)
    plus_address : {x y : Exp} {t : IntType} {v : ℤ} {b : Bool} → Constant ctx (out-Exp x) t v → IsAddress ctx b (out-Exp y) → IsAddress ctx b (Exp-F.Binary op.Add x y)
    address_minus : {x y : Exp} {t : IntType} {v : ℤ} {b : Bool} → IsAddress ctx b (out-Exp x) → Constant ctx (out-Exp y) t v → IsAddress ctx b (Exp-F.Binary op.Sub x y)

-- what may stand there: anything for an automatic object; else a constant, in its own type (6.7.8p4)
pub data FitsPlace (ctx : Context) : Place → CType → Exp → Type 0 where
  any_value : {t : CType} {x : Exp} → FitsPlace ctx automatic_place t x
  static_number : (t : IntType) {s : IntType} {x : Exp} {v : ℤ} → Constant ctx (out-Exp x) s v → FitsPlace ctx static_place (c.Int t) x
  static_null : (t : CType) {x : Exp} → IsNull ctx (out-Exp x) → FitsPlace ctx static_place (c.Ptr t) x
  static_address : (t : CType) {x : Exp} {b : Bool} → IsAddress ctx b (out-Exp x) → FitsPlace ctx static_place (c.Ptr t) x

-- types whose objects have one value
pub data IsScalar : CType → Type 0 where
  scalar_number : (t : IntType) → IsScalar (c.Int t)
  scalar_pointer : (t : CType) → IsScalar (c.Ptr t)

-- the type of a string literal with these characters
abbrev pub text_type : List ℕ → CType
text_type values = c.Array (c.Int char_type) (Some (length values + 1))

-- string literals, perhaps in one pair of braces
pub data IsText : Init-F Init → List (List ℕ) → Type 0 where
  text_alone : {x : Exp} {texts : List (List ℕ)} → out-Exp x ≡ Exp-F.Str texts → IsText (Init-F.One x) texts
  text_in_braces : {y : Init} {x : Exp} {texts : List (List ℕ)} {comma : Bool} → out-Init y ≡ Init-F.One x → out-Exp x ≡ Exp-F.Str texts →
      IsText (Init-F.Many (y ∷ []) comma) texts

mutual
  -- Initialises ctx place t (out-Init x) u ps: the initialiser x fits an object of the type t, and u is that type with its size
  pub data Initialises (ctx : Context) (place : Place) : CType → Init-F Init → CType → List Pair → Type 0 where
    -- 6.7.8p11: a scalar, or one in one pair of braces
    scalar_value : {t : CType} {x : Exp} {ps : List Pair} → IsScalar t → Assigned ctx x t ps → FitsPlace ctx place t x → Initialises ctx place t (Init-F.One x) t ps
    scalar_in_braces : {t : CType} {y : Init} {x : Exp} {comma : Bool} {ps : List Pair} → IsScalar t → out-Init y ≡ Init-F.One x → Assigned ctx x t ps → FitsPlace ctx place t x →
        Initialises ctx place t (Init-F.Many (y ∷ []) comma) t ps
    -- 6.7.8p13: an expression of the struct's type, for an automatic object
    struct_value : (n : ℕ) {x : Exp} {ps : List Pair} → Assigned ctx x (c.Struct n) ps → place ≡ automatic_place →
        Initialises ctx place (c.Struct n) (Init-F.One x) (c.Struct n) ps
    -- 6.7.8p16 to p22: lists, with no more items than members or elements; inner braces are written
    struct_list : {n : ℕ} {layout : Layout} {xs : List Init} {comma : Bool} {ps : List Pair} → layout_of ctx.structs n ≡ Some layout →
        InMembers ctx place (get_or ctx.members n []) xs ps → Initialises ctx place (c.Struct n) (Init-F.Many xs comma) (c.Struct n) ps
    array_list : {t : CType} {n : ℕ} {xs : List Init} {comma : Bool} {ps : List Pair} → length xs ≤ n → InElements ctx place t xs ps →
        Initialises ctx place (c.Array t (Some n)) (Init-F.Many xs comma) (c.Array t (Some n)) ps
    unsized_list : {t u : CType} {xs : List Init} {comma : Bool} {ps : List Pair} → InElements ctx place t xs ps → u ≡ c.Array t (Some (length xs)) → IsComplete ctx u →
        Initialises ctx place (c.Array t None) (Init-F.Many xs comma) u ps
    -- 6.7.8p14: a string for an array of characters, perhaps in braces; its zero need not fit
    text : (t : IntType) {n : ℕ} {x : Init-F Init} {texts : List (List ℕ)} {values : List ℕ} → IsText x texts → t.bits ≡ 8 → AreStrings texts values → length values ≤ n →
        Initialises ctx place (c.Array (c.Int t) (Some n)) x (c.Array (c.Int t) (Some n)) (pair (text_type values) (text_type values) ∷ [])
    unsized_text : (t : IntType) {u : CType} {x : Init-F Init} {texts : List (List ℕ)} {values : List ℕ} → IsText x texts → t.bits ≡ 8 → AreStrings texts values →
        u ≡ c.Array (c.Int t) (Some (length values + 1)) → Initialises ctx place (c.Array (c.Int t) None) x u (pair (text_type values) (text_type values) ∷ [])

  -- the first members, in order
  pub data InMembers (ctx : Context) (place : Place) : List (List ℕ × CType) → List Init → List Pair → Type 0 where
    no_more_values : {ms : List (List ℕ × CType)} → InMembers ctx place ms [] []
    member_value : {m : List ℕ × CType} {ms : List (List ℕ × CType)} {x : Init} {xs : List Init} {ps qs : List Pair} → Initialises ctx place m.1 (out-Init x) m.1 ps →
        InMembers ctx place ms xs qs → InMembers ctx place (m ∷ ms) (x ∷ xs) (ps ++ qs)

  pub data InElements (ctx : Context) (place : Place) : CType → List Init → List Pair → Type 0 where
    no_more_elements : {t : CType} → InElements ctx place t [] []
    element_value : {t : CType} {x : Init} {xs : List Init} {ps qs : List Pair} → Initialises ctx place t (out-Init x) t ps → InElements ctx place t xs qs →
        InElements ctx place t (x ∷ xs) (ps ++ qs)
