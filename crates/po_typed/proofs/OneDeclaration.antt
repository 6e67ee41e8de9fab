-- A declaration leaves one file behind it.
use Rattle.std.proofs.Common.{◌≡◌, ℕ, suc, List, [], ◌∷◌, ◌++◌, ◌==◌, Option, Some, None, IsSome, Bool, false, refl, sym, ap, ◌∙◌, subst, ◌⊎◌, inl, inr, arith, codes, Contains}
use Rattle.std.proofs.lemmas.List.Elements.{All-nil, All-head, All-contains, All-from_recursion, Contains-get_or}
use Rattle.std.proofs.lemmas.List.Sorted.{IsPermutation-refl}
use Rattle.po_arith.specs.declared.target.Target.{Target}
use Rattle.po_tree.specs.declared.expression.Exp.TheOpen.{Specifier-F, Suffix-F}
use Rattle.po_tree.specs.declared.expression.Specifier.{Specifier, out-Specifier, out-roll-Specifier}
use Rattle.po_tree.specs.declared.expression.Specifier.TheVariants as sp
use Rattle.po_tree.specs.declared.expression.Suffix.{out-Suffix}
use Rattle.po_tree.specs.declared.expression.Declarator.{Declarator}
use Rattle.po_tree.specs.declared.expression.Param.{Param}
use Rattle.po_tree.specs.declared.declaration.Init.{Init}
use Rattle.po_tree.specs.declared.declaration.Init.TheOpen.{Init-F}
use Rattle.po_tree.specs.declared.declaration.Decl.{Decl}
use Rattle.po_tree.specs.Words.{type_words}
use Rattle.po_types.specs.declared.ctype.CType.{CType}
use Rattle.po_types.specs.declared.ctype.CType.TheVariants as c
use Rattle.po_types.specs.Laws.{OneFormat, OneLayout}
use Rattle.po_types.specs.Types.{integer, pointee, elements, decays, decayed, signature, composite}
use Rattle.po_types.proofs.TypesLaws.{out_Int, out_Ptr, out_Array}
use Rattle.po_typed.specs.Scopes.{Context, Meaning, global, function, type_name, meaning, word_here, IsNew, with_word, in_new_block, back_in}
use Rattle.po_typed.specs.BaseTypes.{no_more_words, word_of_type, word_types, IsWordType, starred}
use Rattle.po_typed.specs.Expressions.{Pair}
use Rattle.po_typed.specs.Initialisers.{Place, static_place, Initialises}
use Rattle.po_typed.specs.Declarations.{Says, Introduces, Shapes, plain_shape, array_shape, IsBare, IsVoidAlone, void_word, void_name, Adjusted, number_taken, pointer_taken, array_taken, Enters, unnamed_parameter, named_parameter, register_parameter, Specified, specified_by_words, specified_by_one, Specifies, typedef_used, Listed, no_more_params, one_more_param, Takes, takes_void, takes_params, Declares, declares_shape, declares_function, ConstOf, const_by_specifiers, const_by_star, File, with_context, retold, Names, named_first, named_again, is_static_class, Part, part_typedef, part_function, part_function_again, part_object, part_initialised, Parts, no_more_parts, one_more_part, DeclaredIn, lone_semicolon, declared_alone, declared_parts}
use Rattle.po_lists.proofs.Options.{one_some}
use Rattle.po_typed.proofs.OneWordType.{word_type_is_one}
use Rattle.po_typed.proofs.OneType.{found_or_not, integer_Int, integer_Void, pointee_Ptr, pointee_Void, elements_Array, elements_Void}
use Rattle.po_typed.proofs.OneBase.{IsWord, IsWordSpecifier, AreWords, none_apart, words_are_words, first_or, rest_of, type_named}
use Rattle.po_typed.proofs.OneForm.{SuffixLayer, joined, sizes_of}
use Rattle.po_typed.proofs.OneInitialiser.{one_initialised}
use Rattle.po_typed.proofs.OneSpecifier.{SameShape, one_said, storage_is_one, some_is_not_none, one_introduced, shapes_as, specifies_is_no_word, one_shape, one_specified}
use Rattle.po_lists.proofs.Booleans.{never_both}

-- the parameters of a list in a type
pub record SameList (ts : List CType) (a : Context) (ps : List Pair) (us : List CType) (b : Context) (qs : List Pair) : Type 0 where
  pub types : ts ≡ us
  pub context : a ≡ b
  pub pairs : ps ≡ qs

record SameObject (t : CType) (n : ℕ) (f : File) (u : CType) (m : ℕ) (g : File) : Type 0 where
  type : t ≡ u
  number : n ≡ m
  file : f ≡ g

is_decayed : {t u : CType} → Adjusted t u → u ≡ decayed t
is_decayed (number_taken t) = sym (ap (λ z. decays z (c.Int t)) (out_Int t))
is_decayed (pointer_taken t) = sym (ap (λ z. decays z (c.Ptr t)) (out_Ptr t))
is_decayed (array_taken t n) = sym (ap (λ z. decays z (c.Array t n)) (out_Array t n))

one_adjusted : {t u t' u' : CType} → Adjusted t u → Adjusted t' u' → t ≡ t' → u ≡ u'
one_adjusted h k e = is_decayed h ∙ ap decayed e ∙ sym (is_decayed k)

-- void isn't taken
void_is_not_taken : {A : Type 0} {t u : CType} → Adjusted t u → t ≡ c.Void → A
void_is_not_taken (number_taken t) e = found_or_not (integer_Int t) (ap integer e ∙ integer_Void)
void_is_not_taken (pointer_taken t) e = found_or_not (pointee_Ptr t) (ap pointee e ∙ pointee_Void)
void_is_not_taken (array_taken t n) e = found_or_not (elements_Array t n) (ap elements e ∙ elements_Void)

one_entered : {ctx a b : Context} {specs : List Specifier} {name : Option (List ℕ)} {t : CType} → Enters ctx specs name t a → Enters ctx specs name t b → a ≡ b
one_entered unnamed_parameter unnamed_parameter = refl
one_entered (named_parameter n h) (named_parameter n' h') = refl
one_entered (named_parameter n h) (register_parameter n' h') = absurd (h h')
one_entered (register_parameter n h) (named_parameter n' h') = absurd (h' h)
one_entered (register_parameter n h) (register_parameter n' h') = refl

enters_as : {ctx ctx' a : Context} {specs : List Specifier} {name : Option (List ℕ)} {t t' : CType} → Enters ctx' specs name t' a → ctx ≡ ctx' → t ≡ t' → Enters ctx specs name t a
enters_as {ctx' = ctx'} {a = a} {specs = specs} {name = name} {t = t} A e f = subst (λ z. Enters z specs name t a) (sym e) (subst (λ z. Enters ctx' specs name z a) (sym f) A)

pub listed_as : {ctx ctx' a : Context} {params : List Param} {ts : List CType} {ps : List Pair} → Listed ctx' params ts a ps → ctx ≡ ctx' → Listed ctx params ts a ps
listed_as {a = a} {params = params} {ts = ts} {ps = ps} A e = subst (λ z. Listed z params ts a ps) (sym e) A

pub takes_as : {ctx a : Context} {params others : List Param} {ts : List CType} {ps : List Pair} → Takes ctx others ts a ps → params ≡ others → Takes ctx params ts a ps
takes_as {ctx = ctx} {a = a} {ts = ts} {ps = ps} A e = subst (λ z. Takes ctx z ts a ps) (sym e) A

-- the word `void` alone says void
void_words : (target : Target) → IsWordType target (sp.Word (codes "void") ∷ []) c.Void
void_words target = record {
  words = codes "void" ∷ [];
  row = codes "void" ∷ [];
  among = word_of_type (codes "void") [] [] (Contains-get_or type_words 0 [] (omega arith)) no_more_words;
  reordered = IsPermutation-refl (codes "void" ∷ []);
  listed = Contains-get_or (word_types target) 0 ([], c.Void) (omega arith);
}

specified_void : {ctx a : Context} {specs : List Specifier} {t : CType} {k : Bool} {ps : List Pair} → Specified ctx specs t k a ps → specs ≡ sp.Word (codes "void") ∷ [] → t ≡ c.Void
specified_void {ctx = ctx} {t = t} (specified_by_words d r h) e = word_type_is_one (subst (λ z. IsWordType ctx.target z t) e d) (void_words ctx.target)
specified_void {ctx = ctx} (specified_by_one before after s q n m D r h) e =
    none_apart IsWordSpecifier s after before (subst AreWords (sym e ∙ q) (words_are_words (void_words ctx.target))) (specifies_is_no_word D)

out_named : (name : List ℕ) → out-Specifier (sp.Named name) ≡ Specifier-F.Named name
out_named name = ap out-Specifier (sym (sp.rolls-Named name)) ∙ out-roll-Specifier (Specifier-F.Named name)

not_empty : {A X : Type 0} (x : X) (after before : List X) → before ++ (x ∷ after) ≡ [] → A
not_empty x after [] q = absurd cc
not_empty x after (b ∷ before) q = absurd cc

one_of_one : (s x : Specifier) (after before : List Specifier) → before ++ (s ∷ after) ≡ x ∷ [] → s ≡ x
one_of_one s x after [] q = ap (first_or s) q
one_of_one s x after (b ∷ before) q = not_empty s after before (ap rest_of q)

used_typedef : {ctx a : Context} {name : List ℕ} {t : CType} {k : Bool} {ps : List Pair} → Specifies ctx (Specifier-F.Named name) t k a ps → meaning ctx name ≡ Some (type_name t k)
used_typedef (typedef_used h) = h

specified_typedef : {ctx a : Context} {specs : List Specifier} {name : List ℕ} {t u : CType} {k m : Bool} {ps : List Pair} → Specified ctx specs t k a ps → specs ≡ sp.Named name ∷ [] →
    meaning ctx name ≡ Some (type_name u m) → t ≡ u
specified_typedef {name = name} (specified_by_words d r h) e f = absurd (subst IsWord (out_named name) (All-head IsWordSpecifier (sp.Named name) [] (subst AreWords e (words_are_words d))))
specified_typedef {ctx = ctx} {a = a} {name = name} {t = t} (specified_by_one before after s {own = own} {ps = ps} q n m D r h) e f =
    let l : out-Specifier s ≡ Specifier-F.Named name = ap out-Specifier (one_of_one s (sp.Named name) after before (sym q ∙ e)) ∙ out_named name in
    ap (type_named t) (sym (used_typedef (subst (λ z. Specifies ctx z t own a ps) l D)) ∙ f)

bare_shape : {ctx a : Context} {base t : CType} {d : Declarator} {ps : List Pair} → Shapes ctx base d t a ps → IsBare d → t ≡ base
bare_shape {base = base} (plain_shape q k) b = ap (starred base) b.unstarred
bare_shape (array_shape q k I A) b = found_or_not (ap sizes_of q) (ap sizes_of b.plain)

-- `(void)` lists no parameter
void_is_no_list : {A : Type 0} {ctx a : Context} {params : List Param} {ts : List CType} {ps : List Pair} → IsVoidAlone ctx params → Listed (in_new_block ctx) params ts a ps → A
void_is_no_list (void_word e b) (one_more_param w S H J E R) = void_is_not_taken J (bare_shape H b ∙ specified_void S e)
void_is_no_list (void_name name e b m) (one_more_param w S H J E R) = void_is_not_taken J (bare_shape H b ∙ specified_typedef S e m)

abbrev pub params_in : SuffixLayer → Option (List Param)
params_in (Suffix-F.Params params more) = Some params
params_in _ = None

abbrev more_in : Bool → SuffixLayer → Bool
more_in d (Suffix-F.Params params more) = more
more_in d _ = d

shape_has_no_params : {A : Type 0} {ctx a : Context} {base t : CType} {d : Declarator} {params : List Param} {ps : List Pair} → Shapes ctx base d t a ps →
    params_in (out-Suffix d.suffix) ≡ Some params → A
shape_has_no_params (plain_shape q k) h = found_or_not h (ap params_in q)
shape_has_no_params (array_shape q k I A) h = found_or_not h (ap params_in q)

abbrev last_or : List (List ℕ) → List (List (List ℕ)) → List (List ℕ)
last_or d [] = d
last_or d (x ∷ xs) = last_or x xs

last_is : (d x : List (List ℕ)) (before : List (List (List ℕ))) → last_or d (before ++ x ∷ []) ≡ x
last_is d x [] = refl
last_is d x (b ∷ before) = last_is b x before

one_const : {const a b : Bool} {d : Declarator} → ConstOf const d a → ConstOf const d b → a ≡ b
one_const (const_by_specifiers q) (const_by_specifiers q') = refl
one_const (const_by_specifiers q) (const_by_star before star q' s) = not_empty star [] before (sym q' ∙ q)
one_const (const_by_star before star q s) (const_by_specifiers q') = not_empty star [] before (sym q ∙ q')
one_const {b = b} (const_by_star before star q s) (const_by_star before' star' q' s') =
    let e = sym (last_is [] star before) ∙ ap (last_or []) (sym q ∙ q') ∙ last_is [] star' before' in
    one_said s (subst (λ z. Says (Contains z (codes "const")) b) (sym e) s')

abbrev type_of_object : CType → Option Meaning → CType
type_of_object d (Some (global t n)) = t
type_of_object d _ = d

abbrev number_of_object : ℕ → Option Meaning → ℕ
number_of_object d (Some (global t n)) = n
number_of_object d _ = d

-- the file behind an object, for the first time and again
file_first : File → List ℕ → CType → File
file_first file name t = record { context = with_word name (global t file.objects) file.context; objects = suc file.objects; initialised = file.initialised }

file_again : File → List ℕ → CType → ℕ → File
file_again file name t n = with_context file (retold name (global t n) file.context)

record FirstParts (file : File) (name : List ℕ) (t u : CType) (n : ℕ) (f : File) : Type 0 where
  new : word_here file.context.blocks name ≡ None
  type : u ≡ t
  number : n ≡ file.objects
  behind : f ≡ file_first file name t

record AgainParts (file : File) (name : List ℕ) (t u : CType) (n : ℕ) (f : File) : Type 0 where
  before : CType
  old : word_here file.context.blocks name ≡ Some (global before n)
  type : u ≡ composite before t
  behind : f ≡ file_again file name u n

object_parts : {file : File} {name : List ℕ} {t u : CType} {n : ℕ} {f : File} → Names file name t u n f → FirstParts file name t u n f ⊎ AgainParts file name t u n f
unfolding file_first file_again
object_parts (named_first h) = inl (record { new = h; type = refl; number = refl; behind = refl })
object_parts (named_again {u = v} h k) = inr (record { before = v; old = h; type = refl; behind = refl })

one_object : {file f g : File} {name : List ℕ} {t u v : CType} {n m : ℕ} → Names file name t u n f → Names file name t v m g → SameObject u n f v m g
one_object {file = file} {name = name} {t = t} {u = u} {v = v} {n = n} {m = m} A B = elim (object_parts A) [
  | inl p ↦ elim (object_parts B) [
    | inl q ↦ record { type = p.type ∙ sym q.type; number = p.number ∙ sym q.number; file = p.behind ∙ sym q.behind }
    | inr q ↦ found_or_not q.old p.new
  ]
  | inr p ↦ elim (object_parts B) [
    | inl q ↦ found_or_not p.old q.new
    | inr q ↦
        let e = ap (type_of_object p.before) (sym p.old ∙ q.old) in
        let en = ap (number_of_object n) (sym p.old ∙ q.old) in
        let eu = p.type ∙ ap (λ z. composite z t) e ∙ sym q.type in
        record { type = eu; number = en; file = p.behind ∙ ap (λ z. file_again file name z n) eu ∙ ap (file_again file name v) en ∙ sym q.behind }
  ]
]

names_as : {file file' f : File} {name name' : List ℕ} {t t' u : CType} {n : ℕ} → Names file' name' t' u n f → file ≡ file' → name ≡ name' → t ≡ t' → Names file name t u n f
names_as {file' = file'} {f = f} {name = name} {name' = name'} {t = t} {u = u} {n = n} A e g h =
    subst (λ z. Names z name t u n f) (sym e) (subst (λ z. Names file' z t u n f) (sym g) (subst (λ z. Names file' name' z u n f) (sym h) A))

abbrev is_typedef_class : Option (List ℕ) → Bool
is_typedef_class (Some (x ∷ xs)) = x == 116
is_typedef_class _ = false

-- `typedef` is no class of objects and functions
typedef_or_other : {A : Type 0} {class : Option (List ℕ)} → class ≡ Some (codes "typedef") → Contains is_static_class class → A
typedef_or_other {class = class} q h =
    never_both (ap is_typedef_class q) (All-contains (λ z. is_typedef_class z ≡ false) is_static_class class (All-from_recursion (λ z. is_typedef_class z ≡ false) is_static_class (refl, (refl, (refl, tt)))) h)

pub initialises_as : {ctx ctx' : Context} {place : Place} {t t' v : CType} {x : Init-F Init} {ps : List Pair} → Initialises ctx' place t' x v ps → ctx ≡ ctx' → t ≡ t' →
    Initialises ctx place t x v ps
initialises_as {ctx' = ctx'} {place = place} {t = t} {v = v} {x = x} {ps = ps} A e f = subst (λ z. Initialises z place t x v ps) (sym e) (subst (λ z. Initialises ctx' place z x v ps) (sym f) A)

introduces_in : {ctx ctx' a : Context} {tags : List (List ℕ)} → Introduces ctx' tags a → ctx ≡ ctx' → Introduces ctx tags a
introduces_in {a = a} {tags = tags} A e = subst (λ z. Introduces z tags a) (sym e) A

parts_as : {file file' f : File} {class class' : Option (List ℕ)} {inline inline' const const' : Bool} {base base' : CType} {parts : List (Declarator × Option Init)} →
    Parts file' class' inline' base' const' parts f → file ≡ file' → class ≡ class' → inline ≡ inline' → base ≡ base' → const ≡ const' → Parts file class inline base const parts f
parts_as {file' = file'} {f = f} {class = class} {class' = class'} {inline = inline} {inline' = inline'} {const = const} {base = base} {base' = base'} {parts = parts} A e g h i j =
    subst (λ z. Parts z class inline base const parts f) (sym e) (subst (λ z. Parts file' z inline base const parts f) (sym g) (subst (λ z. Parts file' class' z base const parts f) (sym h)
    (subst (λ z. Parts file' class' inline' z const parts f) (sym i) (subst (λ z. Parts file' class' inline' base' z parts f) (sym j) A))))

module _ (one_format : OneFormat) (one_layout : OneLayout) where
  pub one_listed : {ctx a b : Context} {params : List Param} {ts us : List CType} {ps qs : List Pair} → Listed ctx params ts a ps → Listed ctx params us b qs → SameList ts a ps us b qs
  one_listed no_more_params no_more_params = record { types = refl; context = refl; pairs = refl }
  one_listed (one_more_param {u = u} {ts = ts} w S H J E R) (one_more_param {u = u'} w' S' H' J' E' R') =
      let Q = one_specified one_format one_layout S S' in
      let N = one_shape one_format one_layout H (shapes_as H' Q.context Q.type) in
      let eu = one_adjusted J J' N.type in
      let L = one_listed R (listed_as R' (one_entered E (enters_as E' N.context eu))) in
      record { types = ap (λ z. z ∷ ts) eu ∙ ap (λ z. u' ∷ z) L.types; context = L.context; pairs = joined Q.pairs (joined N.pairs L.pairs) }

  one_taken : {ctx a b : Context} {params : List Param} {ts us : List CType} {ps qs : List Pair} → Takes ctx params ts a ps → Takes ctx params us b qs → SameList ts a ps us b qs
  one_taken (takes_void v) (takes_void v') = record { types = refl; context = refl; pairs = refl }
  one_taken (takes_void v) (takes_params n L) = void_is_no_list v L
  one_taken (takes_params n L) (takes_void v) = void_is_no_list v L
  one_taken (takes_params n L) (takes_params n' L') = one_listed L L'

  one_declared : {ctx a b : Context} {base : CType} {d : Declarator} {t u : CType} {ps qs : List Pair} → Declares ctx base d t a ps → Declares ctx base d u b qs → SameShape t a ps u b qs
  one_declared (declares_shape H) (declares_shape H') = one_shape one_format one_layout H H'
  one_declared (declares_shape H) (declares_function q k r T) = shape_has_no_params H (ap params_in q)
  one_declared (declares_function q k r T) (declares_shape H) = shape_has_no_params H (ap params_in q)
  one_declared {ctx = ctx} (declares_function {base = base} {d = d} {more = more} {ts = ts} q k r T) (declares_function {more = more'} {ts = us} q' k' r' T') =
      let ep = one_some (ap params_in q) (ap params_in q') in
      let em = sym (ap (more_in more) q) ∙ ap (more_in more) q' in
      let L = one_taken T (takes_as T' ep) in
      record {
        type = ap (λ z. c.Fun (starred base d.stars) z more) L.types ∙ ap (c.Fun (starred base d.stars) us) em;
        context = ap (back_in ctx) L.context;
        pairs = L.pairs;
      }

  function_or_object : {A : Type 0} {ctx a b : Context} {base t u : CType} {d : Declarator} {ps qs : List Pair} → Declares ctx base d t a ps → IsSome (signature t) →
      Shapes ctx base d u b qs → signature u ≡ None → A
  function_or_object D h H n = let Q = one_declared D (declares_shape H) in some_is_not_none h (ap signature Q.type ∙ n)

  new_or_again : {A : Type 0} {ctx a b : Context} {base t u : CType} {d : Declarator} {name name' : List ℕ} {m : Meaning} {ps qs : List Pair} → d.name ≡ Some name → d.name ≡ Some name' →
      Declares ctx base d t a ps → Declares ctx base d u b qs → IsNew a name → word_here b.blocks name' ≡ Some m → A
  new_or_again {b = b} {name = name} q q' D D' n h =
      let Q = one_declared D D' in found_or_not h (sym (ap (λ z. word_here z.blocks name) Q.context ∙ ap (word_here b.blocks) (one_some q q')) ∙ n)

  one_part : {file f g : File} {class : Option (List ℕ)} {inline const : Bool} {base : CType} {d : Declarator} {x : Option Init} → Part file class inline base const d x f →
      Part file class inline base const d x g → f ≡ g
  one_part {file = file} (part_typedef {inner = a} {own = k} {t = t} {name = name} i n q D w K) (part_typedef {inner = b} {own = m} {t = u} {name = name'} i' n' q' D' w' K') =
      let Q = one_declared D D' in
      let e = one_some q q' in
      ap (λ z. with_context file (with_word name (type_name t k) z)) Q.context ∙ ap (λ z. with_context file (with_word name (type_name z k) b)) Q.type ∙
      ap (λ z. with_context file (with_word name (type_name u z) b)) (one_const K K') ∙ ap (λ z. with_context file (with_word z (type_name u m) b)) e
  one_part (part_typedef i n q D w K) (part_function q' h' D' s' w') = typedef_or_other i h'
  one_part (part_typedef i n q D w K) (part_function_again q' h' D' s' w') = typedef_or_other i h'
  one_part (part_typedef i n q D w K) (part_object q' h' H' s' v' N') = typedef_or_other i h'
  one_part (part_function q h D s w) (part_typedef i' n' q' D' w' K') = typedef_or_other i' h
  one_part {file = file} (part_function {t = t} {name = name} q h D s w) (part_function {inner = b} {t = u} q' h' D' s' w') =
      let Q = one_declared D D' in
      ap (λ z. with_context file (with_word name (function t) z)) Q.context ∙ ap (λ z. with_context file (with_word name (function z) b)) Q.type ∙
      ap (λ z. with_context file (with_word z (function u) b)) (one_some q q')
  one_part (part_function q h D s w) (part_function_again q' h' D' s' w') = new_or_again q q' D D' w w'
  one_part (part_function q h D s w) (part_object q' h' H' s' v' N') = function_or_object D s H' s'
  one_part (part_function_again q h D s w) (part_typedef i' n' q' D' w' K') = typedef_or_other i' h
  one_part (part_function_again q h D s w) (part_function q' h' D' s' w') = new_or_again q' q D' D w' w
  one_part {file = file} (part_function_again q h D s w) (part_function_again q' h' D' s' w') = let Q = one_declared D D' in ap (with_context file) Q.context
  one_part (part_function_again q h D s w) (part_object q' h' H' s' v' N') = function_or_object D s H' s'
  one_part (part_object q h H s v N) (part_typedef i' n' q' D' w' K') = typedef_or_other i' h
  one_part (part_object q h H s v N) (part_function q' h' D' s' w') = function_or_object D' s' H s
  one_part (part_object q h H s v N) (part_function_again q' h' D' s' w') = function_or_object D' s' H s
  one_part {file = file} (part_object q h H s v N) (part_object q' h' H' s' v' N') =
      let Q = one_shape one_format one_layout H H' in
      let O = one_object N (names_as N' (ap (with_context file) Q.context) (one_some q q') Q.type) in
      O.file
  one_part {file = file} (part_initialised {mid = mid} {own = a} {u = u} {v = v} {n = n} {x = x} {name = name} q h H s w N i I V k)
      (part_initialised {mid = mid'} {own = b} {u = u'} {v = v'} {n = n'} {name = name'} q' h' H' s' w' N' i' I' V' k') =
      let Q = one_shape one_format one_layout H H' in
      let e = one_some q q' in
      let O = one_object N (names_as N' (ap (with_context file) Q.context) e Q.type) in
      let ec = one_introduced I (introduces_in I' (ap (λ z. z.context) O.file)) in
      let W = one_initialised one_format a static_place V (initialises_as V' ec Q.type) in
      let left : File → Context → CType → CType → ℕ → List ℕ → File = λ f z t r m word. record { context = retold word (global (composite t r) m) z; objects = f.objects; initialised = word ∷ f.initialised } in
      ap (λ z. left z a u v n name) O.file ∙ ap (λ z. left mid' z u v n name) ec ∙ ap (λ z. left mid' b z v n name) O.type ∙ ap (λ z. left mid' b u' z n name) W.type ∙
      ap (λ z. left mid' b u' v' z name) O.number ∙ ap (left mid' b u' v' n') e

  one_parts : {file f g : File} {class : Option (List ℕ)} {inline const : Bool} {base : CType} {parts : List (Declarator × Option Init)} → Parts file class inline base const parts f →
      Parts file class inline base const parts g → f ≡ g
  one_parts no_more_parts no_more_parts = refl
  one_parts (one_more_part A B) (one_more_part A' B') = one_parts B (parts_as B' (one_part A A') refl refl refl refl)

  no_tag_declared : {A : Type 0} {specs : List Specifier} {s : Specifier} → Contains specs s → specs ≡ [] → A
  no_tag_declared {s = s} h e = absurd (All-contains (λ z. ⊥) [] s (All-nil (λ z. ⊥)) (subst (λ z. Contains z s) e h))

  pub one_file : {file f g : File} {d : Decl} → DeclaredIn file d f → DeclaredIn file d g → f ≡ g
  one_file (lone_semicolon e p) (lone_semicolon e' p') = refl
  one_file (lone_semicolon e p) (declared_alone t p' w h S) = no_tag_declared t.1 e
  one_file (lone_semicolon e p) (declared_parts n w h k S P) = absurd (n p)
  one_file (declared_alone t p w h S) (lone_semicolon e' p') = no_tag_declared t.1 e'
  one_file {file = file} (declared_alone t p w h S) (declared_alone t' p' w' h' S') = let Q = one_specified one_format one_layout S S' in ap (with_context file) Q.context
  one_file (declared_alone t p w h S) (declared_parts n w' h' k' S' P') = absurd (n p)
  one_file (declared_parts n w h k S P) (lone_semicolon e' p') = absurd (n p')
  one_file (declared_parts n w h k S P) (declared_alone t' p' w' h' S') = absurd (n p')
  one_file {file = file} (declared_parts n w h k S P) (declared_parts n' w' h' k' S' P') =
      let Q = one_specified one_format one_layout S S' in
      one_parts P (parts_as P' (ap (with_context file) Q.context) (storage_is_one h h') (one_said k k') Q.type Q.const)
