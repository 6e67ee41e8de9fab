-- Which declarations have a typing, and what is in force behind them (C99 6.7). Context by context: what stands first in a declaration is in
-- force in what stands behind it.
use Rattle.std.specs.Prelude.{ℕ, suc, ◌≡◌, ◌≢◌, Bool, true, false, ◌||◌, List, [], ◌∷◌, ◌++◌, map, flat_map, codes, Contains, All, nat_eq, Option, Some, None, IsSome, ℤ, pos, ◌+ℤ◌}
use Rattle.std.specs.Cmp.Lexicographic.{pointwise}
use Rattle.std.specs.Map.{set_value}
use Rattle.po_arith.specs.declared.int_type.IntType.{IntType}
use Rattle.po_arith.specs.Types.{IsOfType}
use Rattle.po_tree.specs.declared.expression.Exp.{Exp, out-Exp}
use Rattle.po_tree.specs.declared.expression.Exp.TheOpen.{Exp-F, Specifier-F, Suffix-F}
use Rattle.po_tree.specs.declared.expression.Specifier.{Specifier, out-Specifier}
use Rattle.po_tree.specs.declared.expression.Specifier.TheVariants as sp
use Rattle.po_tree.specs.declared.expression.Suffix.{out-Suffix}
use Rattle.po_tree.specs.declared.expression.Declarator.{Declarator}
use Rattle.po_tree.specs.declared.expression.Member.{Member, out-Member}
use Rattle.po_tree.specs.declared.expression.Param.{Param, out-Param}
use Rattle.po_tree.specs.declared.declaration.Init.{Init, out-Init}
use Rattle.po_tree.specs.declared.declaration.Decl.{Decl}
use Rattle.po_tree.specs.Order.{expressions, init_expressions}
use Rattle.po_tree.specs.Words.{storage_classes}
use Rattle.po_types.specs.declared.ctype.CType.{CType}
use Rattle.po_types.specs.declared.ctype.CType.TheVariants as c
use Rattle.po_types.specs.declared.layout.Extent.{Extent}
use Rattle.po_types.specs.declared.layout.Layout.{Layout}
use Rattle.po_types.specs.Integers.{int_type}
use Rattle.po_types.specs.Types.{size_of, align_of, layout_of, as_object, signature, Agree, composite}
use Rattle.po_types.specs.Layouts.{IsLayout}
use Rattle.po_types.specs.Tables.{found}
use Rattle.po_typed.specs.Forms.{Layer, SpecifierLayer}
use Rattle.po_typed.specs.Scopes.{Context, automatic, in_register, Meaning, global, function, local, type_name, constant, struct_tag, enum_tag, meaning, tag_meaning, word_here, tag_here, IsNew, with_blocks, within_innermost, with_word, with_tag, in_new_block, back_in, with_struct, next_struct, completed}
use Rattle.po_typed.specs.Operands.{IsComplete}
use Rattle.po_typed.specs.BaseTypes.{HasWord, OnlyWords, IsPlainWord, IsWordType, starred, CanBeStarred, RestrictFits}
use Rattle.po_typed.specs.Expressions.{Pair, IsArray, IsConstant}
use Rattle.po_typed.specs.Initialisers.{Initialises, static_place}

-- the flag says whether it holds
pub data Says (P : Type 0) : Bool → Type 0 where
  it_holds : P → Says P true
  it_fails : (P → ⊥) → Says P false

abbrev pub IsNoStorage : Specifier → Type 0
IsNoStorage s = (word : List ℕ) → s ≡ sp.Word word → Contains storage_classes word → ⊥

-- the storage class among the specifiers: one at most (6.7.1p2)
pub data HasStorage : List Specifier → Option (List ℕ) → Type 0 where
  no_storage : (specs : List Specifier) → All IsNoStorage specs → HasStorage specs None
  one_storage : (specs before after : List Specifier) (word : List ℕ) → specs ≡ before ++ (sp.Word word ∷ after) → Contains storage_classes word →
      All IsNoStorage before → All IsNoStorage after → HasStorage specs (Some word)

-- the tag of a specifier that may declare a struct
abbrev pub tag_layer : SpecifierLayer → List (List ℕ)
tag_layer (Specifier-F.Struct (Some tag) None) = tag ∷ []
tag_layer _ = []

abbrev pub named_layer : Layer → List (List ℕ)
named_layer (Exp-F.SizeType name) = flat_map (λ s. tag_layer (out-Specifier s)) name.specs
named_layer (Exp-F.Cast name x) = flat_map (λ s. tag_layer (out-Specifier s)) name.specs
named_layer _ = []

-- the tags of structs in the type names of expressions
abbrev pub tags_in : List Exp → List (List ℕ)
tags_in xs = flat_map (λ x. flat_map (λ y. named_layer (out-Exp y)) (expressions x)) xs

abbrev pub some_of : {A : Type 0} → Option A → List A
some_of None = []
some_of (Some x) = x ∷ []

-- a tag of a struct that is not in force declares the struct, without members (6.7.2.3p8)
abbrev pub with_new_struct : List ℕ → Context → Context
with_new_struct tag ctx = with_tag tag (struct_tag (next_struct ctx)) (with_struct (Some tag) ctx)

-- Introduces ctx tags ctx': type names declare those tags that are not in force
pub data Introduces : Context → List (List ℕ) → Context → Type 0 where
  no_more_tags : {ctx : Context} → Introduces ctx [] ctx
  old_tag : {ctx ctx' : Context} {tag : List ℕ} {tags : List (List ℕ)} → IsSome (tag_meaning ctx tag) → Introduces ctx tags ctx' → Introduces ctx (tag ∷ tags) ctx'
  new_tag : {ctx ctx' : Context} {tag : List ℕ} {tags : List (List ℕ)} → tag_meaning ctx tag ≡ None → Introduces (with_new_struct tag ctx) tags ctx' →
      Introduces ctx (tag ∷ tags) ctx'

-- Shapes ctx base d t ctx' ps: stars and arrays of a declarator make this type of the base (6.7.5.1, 6.7.5.2)
pub data Shapes : Context → CType → Declarator → CType → Context → List Pair → Type 0 where
  plain_shape : {ctx : Context} {base : CType} {d : Declarator} → out-Suffix d.suffix ≡ Suffix-F.Plain → CanBeStarred d.stars base →
      Shapes ctx base d (starred base d.stars) ctx []
  array_shape : {ctx ctx' : Context} {base t : CType} {d : Declarator} {sizes : List (Option Exp)} {ps : List Pair} → out-Suffix d.suffix ≡ Suffix-F.Arrays sizes →
      CanBeStarred d.stars base → Introduces ctx (tags_in (flat_map some_of sizes)) ctx' → IsArray ctx' (starred base d.stars) sizes t ps → Shapes ctx base d t ctx' ps

-- what functions give: nothing, or a scalar (6.7.5.3p1); structs are left out
pub data IsResult : CType → Type 0 where
  result_void : IsResult c.Void
  result_number : (t : IntType) → IsResult (c.Int t)
  result_pointer : (t : CType) → IsResult (c.Ptr t)

-- what functions take: a scalar, where an array is adjusted to a pointer to its first element (6.7.5.3p7); structs and functions are left out
pub data Adjusted : CType → CType → Type 0 where
  number_taken : (t : IntType) → Adjusted (c.Int t) (c.Int t)
  pointer_taken : (t : CType) → Adjusted (c.Ptr t) (c.Ptr t)
  array_taken : (t : CType) (n : Option ℕ) → Adjusted (c.Array t n) (c.Ptr t)

-- a declarator that adds nothing
pub record IsBare (d : Declarator) : Type 0 where
  pub unstarred : d.stars ≡ []
  pub unnamed : d.name ≡ None
  pub plain : out-Suffix d.suffix ≡ Suffix-F.Plain

-- `(void)`: the word alone, or a typedef name of it (6.7.5.3p10)
pub data IsVoidAlone (ctx : Context) : List Param → Type 0 where
  void_word : {x : Param} → (out-Param x).specs ≡ sp.Word (codes "void") ∷ [] → IsBare (out-Param x).declarator → IsVoidAlone ctx (x ∷ [])
  void_name : {x : Param} (name : List ℕ) → (out-Param x).specs ≡ sp.Named name ∷ [] → IsBare (out-Param x).declarator →
      meaning ctx name ≡ Some (type_name c.Void false) → IsVoidAlone ctx (x ∷ [])

-- a parameter's name, where it has one, in the scope of its list; `register` is the only storage class (6.7.5.3p2)
pub data Enters : Context → List Specifier → Option (List ℕ) → CType → Context → Type 0 where
  unnamed_parameter : {ctx : Context} {specs : List Specifier} {t : CType} → Enters ctx specs None t ctx
  named_parameter : {ctx : Context} {specs : List Specifier} {name : List ℕ} {t : CType} → IsNew ctx name → (HasWord (codes "register") specs → ⊥) →
      Enters ctx specs (Some name) t (with_word name (local automatic t) ctx)
  register_parameter : {ctx : Context} {specs : List Specifier} {name : List ℕ} {t : CType} → IsNew ctx name → HasWord (codes "register") specs →
      Enters ctx specs (Some name) t (with_word name (local in_register t) ctx)

-- the members of a struct as they lie (6.7.2.1)
abbrev pub IsLaidOut : Context → List (List ℕ × CType) → Layout → Type 0
IsLaidOut ctx list layout =
    (extents : List Extent)
    × (map (λ m. size_of ctx.target ctx.structs m.1) list ≡ map (λ x. Some x.size) extents)
    × (map (λ m. align_of ctx.target ctx.structs m.1) list ≡ map (λ x. x.align) extents)
    × IsLayout extents layout
    × (as_object ctx.target layout.size ≡ Some layout.size)

mutual
  -- Specified ctx specs t const ctx' ps: the specifiers say this type (6.7.2)
  pub data Specified : Context → List Specifier → CType → Bool → Context → List Pair → Type 0 where
    specified_by_words : {ctx : Context} {specs : List Specifier} {t : CType} {const : Bool} → IsWordType ctx.target specs t → RestrictFits specs t →
        Says (HasWord (codes "const") specs) const → Specified ctx specs t const ctx []
    specified_by_one : {ctx ctx' : Context} {specs : List Specifier} (before after : List Specifier) (s : Specifier) {t : CType} {own const : Bool} {ps : List Pair} →
        specs ≡ before ++ (s ∷ after) → All IsPlainWord before → All IsPlainWord after → Specifies ctx (out-Specifier s) t own ctx' ps → RestrictFits specs t →
        Says (HasWord (codes "const") specs) const → Specified ctx specs t (own || const) ctx' ps

  -- one specifier that is no word, with what it declares
  pub data Specifies : Context → SpecifierLayer → CType → Bool → Context → List Pair → Type 0 where
    -- 6.7.7
    typedef_used : {ctx : Context} {name : List ℕ} {t : CType} {const : Bool} → meaning ctx name ≡ Some (type_name t const) → Specifies ctx (Specifier-F.Named name) t const ctx []
    -- 6.7.2.3
    struct_used : {ctx : Context} {tag : List ℕ} {n : ℕ} → tag_meaning ctx tag ≡ Some (struct_tag n) → Specifies ctx (Specifier-F.Struct (Some tag) None) (c.Struct n) false ctx []
    struct_declared : {ctx : Context} {tag : List ℕ} → tag_meaning ctx tag ≡ None →
        Specifies ctx (Specifier-F.Struct (Some tag) None) (c.Struct (next_struct ctx)) false (with_new_struct tag ctx) []
    enum_used : {ctx : Context} {tag : List ℕ} → tag_meaning ctx tag ≡ Some enum_tag → Specifies ctx (Specifier-F.Enum (Some tag) None false) (c.Int int_type) false ctx []
    -- 6.7.2.1: a struct without a tag, one with a new tag, and one whose tag stood before; its body completes it once
    struct_untagged : {ctx inner : Context} {ms : List Member} {list : List (List ℕ × CType)} {layout : Layout} {ps : List Pair} →
        Membered ctx [] ms list inner ps → IsLaidOut inner list layout →
        Specifies ctx (Specifier-F.Struct None (Some ms)) (c.Struct (next_struct inner)) false (completed (next_struct inner) layout list (with_struct None inner)) ps
    struct_tagged : {ctx inner : Context} {tag : List ℕ} {ms : List Member} {list : List (List ℕ × CType)} {layout : Layout} {ps : List Pair} →
        tag_here ctx.blocks tag ≡ None → Membered (with_new_struct tag ctx) [] ms list inner ps → layout_of inner.structs (next_struct ctx) ≡ None →
        IsLaidOut inner list layout → Specifies ctx (Specifier-F.Struct (Some tag) (Some ms)) (c.Struct (next_struct ctx)) false (completed (next_struct ctx) layout list inner) ps
    struct_completed : {ctx inner : Context} {tag : List ℕ} {n : ℕ} {ms : List Member} {list : List (List ℕ × CType)} {layout : Layout} {ps : List Pair} →
        tag_here ctx.blocks tag ≡ Some (struct_tag n) → Membered ctx [] ms list inner ps → layout_of inner.structs n ≡ None →
        IsLaidOut inner list layout → Specifies ctx (Specifier-F.Struct (Some tag) (Some ms)) (c.Struct n) false (completed n layout list inner) ps
    -- 6.7.2.2: an enumeration is complete behind its body
    enum_untagged : {ctx inner : Context} {items : List (List ℕ × Option Exp)} {more : Bool} {ps : List Pair} → Enumerated ctx (pos 0) items inner ps →
        Specifies ctx (Specifier-F.Enum None (Some items) more) (c.Int int_type) false inner ps
    enum_tagged : {ctx inner : Context} {tag : List ℕ} {items : List (List ℕ × Option Exp)} {more : Bool} {ps : List Pair} → tag_here ctx.blocks tag ≡ None →
        Enumerated ctx (pos 0) items inner ps → tag_here inner.blocks tag ≡ None →
        Specifies ctx (Specifier-F.Enum (Some tag) (Some items) more) (c.Int int_type) false (with_tag tag enum_tag inner) ps

  -- Membered ctx list ms list' ctx' ps: the declarations add these members (6.7.2.1p2)
  pub data Membered : Context → List (List ℕ × CType) → List Member → List (List ℕ × CType) → Context → List Pair → Type 0 where
    no_more_members : {ctx : Context} {list : List (List ℕ × CType)} → Membered ctx list [] list ctx []
    members_declared : {ctx mid inner ctx' : Context} {list more list' : List (List ℕ × CType)} {m : Member} {ms : List Member} {t : CType} {const : Bool}
        {ps qs rs : List Pair} → OnlyWords [] (out-Member m).specs → (out-Member m).declarators ≢ [] → Specified ctx (out-Member m).specs t const mid ps →
        MembersOf mid t list (out-Member m).declarators more inner qs → Membered inner more ms list' ctx' rs → Membered ctx list (m ∷ ms) list' ctx' (ps ++ (qs ++ rs))

  pub data MembersOf : Context → CType → List (List ℕ × CType) → List Declarator → List (List ℕ × CType) → Context → List Pair → Type 0 where
    no_more_of_them : {ctx : Context} {base : CType} {list : List (List ℕ × CType)} → MembersOf ctx base list [] list ctx []
    one_more_member : {ctx inner ctx' : Context} {base t : CType} {list list' : List (List ℕ × CType)} {name : List ℕ} {d : Declarator} {ds : List Declarator} {ps qs : List Pair} →
        d.name ≡ Some name → Shapes ctx base d t inner ps → IsComplete inner t → found list name ≡ None →
        MembersOf inner base (list ++ (name, t) ∷ []) ds list' ctx' qs → MembersOf ctx base list (d ∷ ds) list' ctx' (ps ++ qs)

  -- enumerators from this number on, each in force from its own end on (6.7.2.2p2, p3)
  pub data Enumerated : Context → ℤ → List (List ℕ × Option Exp) → Context → List Pair → Type 0 where
    no_more_enumerators : {ctx : Context} {next : ℤ} → Enumerated ctx next [] ctx []
    counted : {ctx ctx' : Context} {next : ℤ} {item : List ℕ × Option Exp} {items : List (List ℕ × Option Exp)} {ps : List Pair} → item.1 ≡ None → IsNew ctx item.0 →
        IsOfType int_type next → Enumerated (with_word item.0 (constant next) ctx) (next +ℤ pos 1) items ctx' ps → Enumerated ctx next (item ∷ items) ctx' ps
    valued : {ctx inner ctx' : Context} {next v : ℤ} {t : IntType} {item : List ℕ × Option Exp} {x : Exp} {items : List (List ℕ × Option Exp)} {ps qs : List Pair} →
        item.1 ≡ Some x → Introduces ctx (tags_in (x ∷ [])) inner → IsConstant inner x t v ps → IsNew inner item.0 → IsOfType int_type v →
        Enumerated (with_word item.0 (constant v) inner) (v +ℤ pos 1) items ctx' qs → Enumerated ctx next (item ∷ items) ctx' (ps ++ qs)

-- parameters, each in force from its own end to the end of the list (6.2.1p4, 6.7.5.3)
pub data Listed : Context → List Param → List CType → Context → List Pair → Type 0 where
  no_more_params : {ctx : Context} → Listed ctx [] [] ctx []
  one_more_param : {ctx mid inner own ctx' : Context} {x : Param} {xs : List Param} {base t u : CType} {ts : List CType} {const : Bool} {ps qs rs : List Pair} →
      OnlyWords (codes "register" ∷ []) (out-Param x).specs → Specified ctx (out-Param x).specs base const mid ps →
      Shapes mid base (out-Param x).declarator t inner qs → Adjusted t u → Enters inner (out-Param x).specs (out-Param x).declarator.name u own →
      Listed own xs ts ctx' rs → Listed ctx (x ∷ xs) (u ∷ ts) ctx' (ps ++ (qs ++ rs))

-- Takes ctx params ts inner ps: the parameters have these types; `inner` is in force behind them, in their scope
pub data Takes (ctx : Context) : List Param → List CType → Context → List Pair → Type 0 where
  takes_void : {params : List Param} → IsVoidAlone ctx params → Takes ctx params [] (in_new_block ctx) []
  takes_params : {params : List Param} {ts : List CType} {inner : Context} {ps : List Pair} → params ≢ [] → Listed (in_new_block ctx) params ts inner ps → Takes ctx params ts inner ps

-- Declares ctx base d t ctx' ps: the declarator declares something of this type; an empty list of parameters is left out
pub data Declares : Context → CType → Declarator → CType → Context → List Pair → Type 0 where
  declares_shape : {ctx ctx' : Context} {base t : CType} {d : Declarator} {ps : List Pair} → Shapes ctx base d t ctx' ps → Declares ctx base d t ctx' ps
  declares_function : {ctx inner : Context} {base : CType} {d : Declarator} {params : List Param} {more : Bool} {ts : List CType} {ps : List Pair} →
      out-Suffix d.suffix ≡ Suffix-F.Params params more → CanBeStarred d.stars base → IsResult (starred base d.stars) → Takes ctx params ts inner ps →
      Declares ctx base d (c.Fun (starred base d.stars) ts more) (back_in ctx inner) ps

-- whether a typedef name is const: by its last `*`, or else by its specifiers (6.7.3)
pub data ConstOf (const : Bool) : Declarator → Bool → Type 0 where
  const_by_specifiers : {d : Declarator} → d.stars ≡ [] → ConstOf const d const
  const_by_star : {d : Declarator} (before : List (List (List ℕ))) (star : List (List ℕ)) {own : Bool} → d.stars ≡ before ++ star ∷ [] →
      Says (Contains star (codes "const")) own → ConstOf const d own

-- A file so far: its scope, how many objects it has, and which of them have an initialiser.
pub record File : Type 0 where
  pub context : Context
  pub objects : ℕ
  pub initialised : List (List ℕ)

abbrev pub with_context : File → Context → File
with_context file ctx = record { context = ctx; objects = file.objects; initialised = file.initialised }

-- the word of the innermost scope now means this
abbrev pub retold : List ℕ → Meaning → Context → Context
retold name m ctx = with_blocks ctx (within_innermost (λ b. record { words = set_value (pointwise nat_eq name) b.words m; tags = b.tags }) ctx.blocks)

-- an object of the file, for the first time or again: its type so far, and that of all declarations together (6.2.7p3, 6.7p4)
pub data Names : File → List ℕ → CType → CType → ℕ → File → Type 0 where
  named_first : {file : File} {name : List ℕ} {t : CType} → IsNew file.context name →
      Names file name t t file.objects (record { context = with_word name (global t file.objects) file.context; objects = suc file.objects; initialised = file.initialised })
  named_again : {file : File} {name : List ℕ} {t u : CType} {n : ℕ} → word_here file.context.blocks name ≡ Some (global u n) → Agree u t →
      Names file name t (composite u t) n (with_context file (retold name (global (composite u t) n) file.context))

abbrev pub is_static_class : List (Option (List ℕ))
is_static_class = None ∷ Some (codes "extern") ∷ Some (codes "static") ∷ []

-- one declarator with its initialiser at file level, by the storage class, by whether `inline` is written, and by whether the base is const
pub data Part : File → Option (List ℕ) → Bool → CType → Bool → Declarator → Option Init → File → Type 0 where
  -- 6.7.7
  part_typedef : {file : File} {inner : Context} {class : Option (List ℕ)} {inline const own : Bool} {base t : CType} {d : Declarator} {name : List ℕ} {ps : List Pair} → class ≡ Some (codes "typedef") → inline ≡ false →
      d.name ≡ Some name → Declares file.context base d t inner ps → IsNew inner name → ConstOf const d own →
      Part file class inline base const d None (with_context file (with_word name (type_name t own) inner))
  -- 6.7.5.3, 6.2.7: a function, for the first time or again
  part_function : {file : File} {inner : Context} {class : Option (List ℕ)} {inline const : Bool} {base t : CType} {d : Declarator} {name : List ℕ} {ps : List Pair} → d.name ≡ Some name →
      Contains is_static_class class → Declares file.context base d t inner ps → IsSome (signature t) → IsNew inner name →
      Part file class inline base const d None (with_context file (with_word name (function t) inner))
  part_function_again : {file : File} {inner : Context} {class : Option (List ℕ)} {inline const : Bool} {base t : CType} {d : Declarator} {name : List ℕ} {ps : List Pair} → d.name ≡ Some name →
      Contains is_static_class class → Declares file.context base d t inner ps → IsSome (signature t) → word_here inner.blocks name ≡ Some (function t) →
      Part file class inline base const d None (with_context file inner)
  -- 6.7, 6.9.2: an object; one of type void is only declared elsewhere
  part_object : {file file' : File} {inner : Context} {class : Option (List ℕ)} {const : Bool} {base t u : CType} {n : ℕ} {d : Declarator} {name : List ℕ} {ps : List Pair} → d.name ≡ Some name →
      Contains is_static_class class → Shapes file.context base d t inner ps → signature t ≡ None → (t ≡ c.Void → class ≡ Some (codes "extern")) →
      Names (with_context file inner) name t u n file' → Part file class false base const d None file'
  -- 6.7.8: the declarator's word is in force in the initialiser, which may complete the type; there is one initialiser at most (6.9p5)
  part_initialised : {file mid : File} {inner own : Context} {class : Option (List ℕ)} {const : Bool} {base t u v : CType} {n : ℕ} {d : Declarator} {x : Init} {name : List ℕ} {ps qs : List Pair} →
      d.name ≡ Some name → Contains is_static_class class → Shapes file.context base d t inner ps → signature t ≡ None → t ≢ c.Void →
      Names (with_context file inner) name t u n mid → (Contains file.initialised name → ⊥) →
      Introduces mid.context (tags_in (init_expressions x)) own → Initialises own static_place t (out-Init x) v qs → Agree u v →
      Part file class false base const d (Some x)
      (record { context = retold name (global (composite u v) n) own; objects = mid.objects; initialised = name ∷ mid.initialised })

pub data Parts : File → Option (List ℕ) → Bool → CType → Bool → List (Declarator × Option Init) → File → Type 0 where
  no_more_parts : {file : File} {class : Option (List ℕ)} {inline const : Bool} {base : CType} → Parts file class inline base const [] file
  one_more_part : {file mid file' : File} {class : Option (List ℕ)} {inline const : Bool} {base : CType} {part : Declarator × Option Init} {parts : List (Declarator × Option Init)} →
      Part file class inline base const part.0 part.1 mid → Parts mid class inline base const parts file' → Parts file class inline base const (part ∷ parts) file'

-- specifiers that declare a tag or enumerators by themselves (6.7p2)
abbrev pub declares_layer : SpecifierLayer → Type 0
declares_layer (Specifier-F.Struct (Some tag) members) = Unit {0}
declares_layer (Specifier-F.Enum tag (Some items) more) = Unit {0}
declares_layer _ = ⊥

abbrev pub DeclaresTag : List Specifier → Type 0
DeclaresTag specs = (s : Specifier) × Contains specs s × declares_layer (out-Specifier s)

-- DeclaredIn file d file': a declaration at file level, and the file behind it; a lone semicolon declares nothing
pub data DeclaredIn : File → Decl → File → Type 0 where
  lone_semicolon : {file : File} {d : Decl} → d.specs ≡ [] → d.parts ≡ [] → DeclaredIn file d file
  declared_alone : {file : File} {d : Decl} {ctx' : Context} {class : Option (List ℕ)} {t : CType} {const : Bool} {ps : List Pair} → DeclaresTag d.specs → d.parts ≡ [] →
      OnlyWords (codes "typedef" ∷ codes "extern" ∷ codes "static" ∷ []) d.specs → HasStorage d.specs class → Specified file.context d.specs t const ctx' ps →
      DeclaredIn file d (with_context file ctx')
  declared_parts : {file file' : File} {d : Decl} {inner : Context} {class : Option (List ℕ)} {t : CType} {const inline : Bool} {ps : List Pair} → d.parts ≢ [] →
      OnlyWords (codes "typedef" ∷ codes "extern" ∷ codes "static" ∷ codes "inline" ∷ []) d.specs → HasStorage d.specs class → Says (HasWord (codes "inline") d.specs) inline →
      Specified file.context d.specs t const inner ps → Parts (with_context file inner) class inline t const d.parts file' → DeclaredIn file d file'
