-- Declarations keep that what is in force is founded.
use Rattle.std.proofs.Common.{◌≡◌, ℕ, ◌≤◌, List, [], ◌∷◌, map, length, get_or, Option, Some, None, Bool, false, refl, sym, ap, ◌∙◌, subst, arith}
use Rattle.std.specs.Prelude.{ℤ}
use Rattle.std.proofs.lemmas.List.Elements.{All-nil, All-cons, All-contains, All-from_recursion, All-weaker, All-push}
use Rattle.std.proofs.Math.Nat.{max-le}
use Rattle.po_arith.specs.declared.target.Target.{Target}
use Rattle.po_tree.specs.declared.expression.Exp.{Exp}
use Rattle.po_tree.specs.declared.expression.Specifier.{Specifier}
use Rattle.po_tree.specs.declared.expression.Declarator.{Declarator}
use Rattle.po_tree.specs.declared.expression.Member.{Member}
use Rattle.po_tree.specs.declared.expression.Param.{Param}
use Rattle.po_tree.specs.declared.declaration.Init.{Init}
use Rattle.po_tree.specs.declared.declaration.Init.TheOpen.{Init-F}
use Rattle.po_tree.specs.declared.declaration.Decl.{Decl}
use Rattle.po_tree.specs.declared.function.FunTree.{FunTree}
use Rattle.po_arith.specs.declared.int_type.IntType.{IntType}
use Rattle.po_types.specs.declared.env.Env.{Env}
use Rattle.po_types.specs.declared.ctype.CType.{CType, out-CType, fold-roll-CType}
use Rattle.po_types.specs.declared.ctype.CType.TheVariants as c
use Rattle.po_types.specs.declared.ctype.CType.TheOpen.{CType-F}
use Rattle.po_types.specs.Integers.{signed_type, unsigned_type, bool_type, char_type, int_type, long_type, size_type}
use Rattle.po_types.specs.Nesting.{structs_below, names_below, greatest, IsWellFounded}
use Rattle.po_types.proofs.NestingLaws.{below_Ptr, below_Array, below_Struct, below_Fun}
use Rattle.po_types.specs.Types.{completes, composite}
use Rattle.po_typed.specs.Forms.{SpecifierLayer}
use Rattle.po_typed.specs.Scopes.{Context, automatic, in_register, global, function, local, type_name, constant, enum_tag, no_block, in_new_block, next_struct}
use Rattle.po_typed.specs.BaseTypes.{word_types, IsWordType, starred}
use Rattle.po_typed.specs.Expressions.{Pair, IsArray, sized_first, unsized_first, Sized, no_more_sizes, one_more_size}
use Rattle.po_typed.specs.Initialisers.{Place, Initialises, scalar_value, scalar_in_braces, struct_value, struct_list, array_list, unsized_list, text, unsized_text}
use Rattle.po_typed.specs.Declarations.{Introduces, no_more_tags, old_tag, new_tag, Shapes, plain_shape, array_shape, Adjusted, number_taken, pointer_taken, array_taken, Enters, unnamed_parameter, named_parameter, register_parameter, Specified, specified_by_words, specified_by_one, Specifies, typedef_used, struct_used, struct_declared, enum_used, struct_untagged, struct_tagged, struct_completed, enum_untagged, enum_tagged, Membered, no_more_members, members_declared, MembersOf, no_more_of_them, one_more_member, Enumerated, no_more_enumerators, counted, valued, Listed, no_more_params, one_more_param, Takes, takes_void, takes_params, Declares, declares_shape, declares_function, File, Names, named_first, named_again, Part, part_typedef, part_function, part_function_again, part_object, part_initialised, Parts, no_more_parts, one_more_part, DeclaredIn, lone_semicolon, declared_alone, declared_parts}
use Rattle.po_typed.specs.Statements.{Receives, receives_nothing, receives_void, receives_params, NamesFunction, function_new, function_again, Defines, defines}
use Rattle.po_typed.specs.Environments.{Shows}
use Rattle.po_typed.specs.Founded.{meaning_below, HasTag, WordsFit, TagsFit, IsFounded, first_context}
use Rattle.po_typed.proofs.OneSpecifier.{some_is_not_none}
use Rattle.po_typed.proofs.Founded.{Keeps, MembersFit, unchanged, keeps_then, meaning_fits, meaning_here_fits, within, tag_is_there, tag_here_is_there, keeps_word, keeps_tag, keeps_retold, founded_inside, keeps_back, keeps_struct, longer_by_one, new_is_tagged, keeps_new_struct, keeps_completed}

-- and a type names structs that are there
record KeepsType (ctx : Context) (t : CType) (a : Context) : Type 0 where
  keeps : Keeps ctx a
  type : structs_below t ≤ length a.structs

record KeepsMembers (ctx : Context) (list : List (List ℕ × CType)) (a : Context) : Type 0 where
  keeps : Keeps ctx a
  members : MembersFit (length a.structs) list

record KeepsList (ctx : Context) (ts : List CType) (a : Context) : Type 0 where
  keeps : Keeps ctx a
  types : greatest (map structs_below ts) ≤ length a.structs

record KeepsFile (file : File) (t : CType) (f : File) : Type 0 where
  keeps : Keeps file.context f.context
  type : structs_below t ≤ length f.context.structs

below_Void : structs_below c.Void ≡ 0
unfolding structs_below
below_Void = ap structs_below (sym c.rolls-Void) ∙ fold-roll-CType _ names_below CType-F.Void

below_Int : (t : IntType) → structs_below (c.Int t) ≡ 0
unfolding structs_below
below_Int t = ap structs_below (sym (c.rolls-Int t)) ∙ fold-roll-CType _ names_below (CType-F.Int t)

-- types of words name no struct
words_below : {target : Target} {specs : List Specifier} {t : CType} → IsWordType target specs t → structs_below t ≡ 0
words_below {target = target} {t = t} d = All-contains (λ e. structs_below e.1 ≡ 0) (word_types target) (d.row, t)
    (All-from_recursion (λ e. structs_below e.1 ≡ 0) (word_types target) (
      below_Void,
      (
        below_Int char_type,
        (
          below_Int char_type,
          (
            below_Int (unsigned_type 8),
            (
              below_Int (signed_type 16),
              (
                below_Int (signed_type 16),
                (
                  below_Int (signed_type 16),
                  (
                    below_Int (signed_type 16),
                    (
                      below_Int (unsigned_type 16),
                      (
                        below_Int (unsigned_type 16),
                        (
                          below_Int int_type,
                          (
                            below_Int int_type,
                            (
                              below_Int int_type,
                              (
                                below_Int (unsigned_type 32),
                                (
                                  below_Int (unsigned_type 32),
                                  (
                                    below_Int (long_type target),
                                    (
                                      below_Int (long_type target),
                                      (
                                        below_Int (long_type target),
                                        (
                                          below_Int (long_type target),
                                          (
                                            below_Int (size_type target),
                                            (
                                              below_Int (size_type target),
                                              (
                                                below_Int (signed_type 64),
                                                (
                                                  below_Int (signed_type 64),
                                                  (
                                                    below_Int (signed_type 64),
                                                    (
                                                      below_Int (signed_type 64),
                                                      (below_Int (unsigned_type 64), (below_Int (unsigned_type 64), (below_Int bool_type, tt))),
                                                    ),
                                                  ),
                                                ),
                                              ),
                                            ),
                                          ),
                                        ),
                                      ),
                                    ),
                                  ),
                                ),
                              ),
                            ),
                          ),
                        ),
                      ),
                    ),
                  ),
                ),
              ),
            ),
          ),
        ),
      ),
    )) d.listed

starred_below : (t : CType) (stars : List (List (List ℕ))) → structs_below (starred t stars) ≡ structs_below t
starred_below t [] = refl
starred_below t (star ∷ stars) = starred_below (c.Ptr t) stars ∙ below_Ptr t

sized_below : {ctx : Context} {t u : CType} {sizes : List (Option Exp)} {ps : List Pair} → Sized ctx t sizes u ps → structs_below u ≡ structs_below t
sized_below no_more_sizes = refl
sized_below (one_more_size {u = u} {n = n} A C l B h k) = below_Array u (Some n) ∙ sized_below B

array_below : {ctx : Context} {t u : CType} {sizes : List (Option Exp)} {ps : List Pair} → IsArray ctx t sizes u ps → structs_below u ≡ structs_below t
array_below (sized_first A) = sized_below A
array_below (unsized_first {u = u} A h) = below_Array u None ∙ sized_below A

initialised_below : {ctx : Context} {place : Place} {t u : CType} {l : Init-F Init} {ps : List Pair} → Initialises ctx place t l u ps → structs_below u ≡ structs_below t
initialised_below (scalar_value h A f) = refl
initialised_below (scalar_in_braces h q A f) = refl
initialised_below (struct_value n A h) = refl
initialised_below (struct_list h A) = refl
initialised_below (array_list h A) = refl
initialised_below (unsized_list {t = t} {xs = xs} A q h) = ap structs_below q ∙ below_Array t (Some (length xs)) ∙ sym (below_Array t None)
initialised_below (text t i b v h) = refl
initialised_below (unsized_text t {values = values} i b v q) = ap structs_below q ∙ below_Array (c.Int t) _ ∙ sym (below_Array (c.Int t) None)

adjusted_below : {t u : CType} → Adjusted t u → structs_below u ≡ structs_below t
adjusted_below (number_taken t) = refl
adjusted_below (pointer_taken t) = refl
adjusted_below (array_taken t n) = below_Ptr t ∙ sym (below_Array t n)

either_type : (P : CType → Type 0) (l : CType-F CType) (t u : CType) → P t → P u → P (completes l t u)
either_type P CType-F.Void t u p q = p
either_type P (CType-F.Int s) t u p q = p
either_type P (CType-F.Ptr s) t u p q = p
either_type P (CType-F.Array s None) t u p q = q
either_type P (CType-F.Array s (Some n)) t u p q = p
either_type P (CType-F.Struct n) t u p q = p
either_type P (CType-F.Fun s ts more) t u p q = p

composite_below : (n : ℕ) (t u : CType) → structs_below t ≤ n → structs_below u ≤ n → structs_below (composite t u) ≤ n
composite_below n t u h k = either_type (λ z. structs_below z ≤ n) (out-CType t) t u h k

keeps_introduced : {ctx a : Context} {tags : List (List ℕ)} → IsFounded ctx → Introduces ctx tags a → Keeps ctx a
keeps_introduced f no_more_tags = unchanged f
keeps_introduced f (old_tag h A) = keeps_introduced f A
keeps_introduced f (new_tag {tag = tag} h A) = let K = keeps_new_struct tag f in keeps_then K (keeps_introduced K.founded A)

keeps_shape : {ctx a : Context} {base t : CType} {d : Declarator} {ps : List Pair} → IsFounded ctx → structs_below base ≤ length ctx.structs → Shapes ctx base d t a ps → KeepsType ctx t a
keeps_shape f h (plain_shape {base = base} {d = d} q k) = record { keeps = unchanged f; type = omega (arith, h, starred_below base d.stars) }
keeps_shape f h (array_shape {base = base} {d = d} q k I A) =
    let K = keeps_introduced f I in record { keeps = K; type = omega (arith, h, starred_below base d.stars, array_below A, K.grows.longer) }

fit_more : (n m : ℕ) (list : List (List ℕ × CType)) → n ≤ m → MembersFit n list → MembersFit m list
fit_more n m list le = All-weaker (λ x. structs_below x.1 ≤ n) (λ x. structs_below x.1 ≤ m) (λ x k. omega (arith, k, le)) list

none_fit : (n : ℕ) → MembersFit n []
none_fit n = All-nil (λ x. structs_below x.1 ≤ n)

mutual
  keeps_specified : {ctx a : Context} {specs : List Specifier} {t : CType} {k : Bool} {ps : List Pair} → IsFounded ctx → Specified ctx specs t k a ps → KeepsType ctx t a
  keeps_specified f (specified_by_words d r h) = record { keeps = unchanged f; type = omega (arith, words_below d) }
  keeps_specified f (specified_by_one before after s q n m D r h) = keeps_specifies f D

  keeps_specifies : {ctx a : Context} {s : SpecifierLayer} {t : CType} {k : Bool} {ps : List Pair} → IsFounded ctx → Specifies ctx s t k a ps → KeepsType ctx t a
  keeps_specifies f (typedef_used {name = name} h) = record { keeps = unchanged f; type = meaning_fits name f h }
  keeps_specifies f (struct_used {tag = tag} {n = n} h) = record { keeps = unchanged f; type = omega (arith, below_Struct n, tag_is_there tag f h) }
  keeps_specifies {ctx = ctx} f (struct_declared {tag = tag} h) =
      record { keeps = keeps_new_struct tag f; type = omega (arith, below_Struct (next_struct ctx), longer_by_one ctx (Some tag)) }
  keeps_specifies f (enum_used h) = record { keeps = unchanged f; type = omega (arith, below_Int int_type) }
  keeps_specifies {ctx = ctx} f (struct_untagged {inner = inner} {list = list} {layout = layout} M L) =
      let N = keeps_membered f (none_fit (length ctx.structs)) M in
      let K = keeps_struct None N.keeps.founded in
      let C = keeps_completed (next_struct inner) layout list K.founded (λ h. N.members) in
      record { keeps = keeps_then N.keeps (keeps_then K C); type = omega (arith, below_Struct (next_struct inner), longer_by_one inner None, C.grows.longer) }
  keeps_specifies {ctx = ctx} f (struct_tagged {tag = tag} {list = list} {layout = layout} n M i L) =
      let K = keeps_new_struct tag f in
      let N = keeps_membered K.founded (none_fit _) M in
      let C = keeps_completed (next_struct ctx) layout list N.keeps.founded (λ h. some_is_not_none (N.keeps.grows.kept (next_struct ctx) (new_is_tagged tag f)) h) in
      record { keeps = keeps_then K (keeps_then N.keeps C); type = omega (arith, below_Struct (next_struct ctx), longer_by_one ctx (Some tag), N.keeps.grows.longer, C.grows.longer) }
  keeps_specifies {ctx = ctx} f (struct_completed {tag = tag} {n = n} {list = list} {layout = layout} m M i L) =
      let N = keeps_membered f (none_fit (length ctx.structs)) M in
      let there = tag_here_is_there tag f m in
      let C = keeps_completed n layout list N.keeps.founded (λ h. some_is_not_none (N.keeps.grows.kept n there) h) in
      record { keeps = keeps_then N.keeps C; type = omega (arith, below_Struct n, within ctx n f there, N.keeps.grows.longer, C.grows.longer) }
  keeps_specifies f (enum_untagged A) = record { keeps = keeps_enumerated f A; type = omega (arith, below_Int int_type) }
  keeps_specifies f (enum_tagged {tag = tag} h A k) =
      let E = keeps_enumerated f A in record { keeps = keeps_then E (keeps_tag tag enum_tag E.founded tt); type = omega (arith, below_Int int_type) }

  keeps_membered : {ctx a : Context} {list more : List (List ℕ × CType)} {ms : List Member} {ps : List Pair} → IsFounded ctx → MembersFit (length ctx.structs) list →
      Membered ctx list ms more a ps → KeepsMembers ctx more a
  keeps_membered f h no_more_members = record { keeps = unchanged f; members = h }
  keeps_membered {ctx = ctx} {list = list} f h (members_declared {mid = mid} w n S M R) =
      let T = keeps_specified f S in
      let N = keeps_members T.keeps.founded T.type (fit_more (length ctx.structs) (length mid.structs) list T.keeps.grows.longer h) M in
      let L = keeps_membered N.keeps.founded N.members R in
      record { keeps = keeps_then T.keeps (keeps_then N.keeps L.keeps); members = L.members }

  keeps_members : {ctx a : Context} {base : CType} {list more : List (List ℕ × CType)} {ds : List Declarator} {ps : List Pair} → IsFounded ctx → structs_below base ≤ length ctx.structs →
      MembersFit (length ctx.structs) list → MembersOf ctx base list ds more a ps → KeepsMembers ctx more a
  keeps_members f b h no_more_of_them = record { keeps = unchanged f; members = h }
  keeps_members {ctx = ctx} {list = list} f b h (one_more_member {inner = inner} {t = t} {name = name} q S i n R) =
      let T = keeps_shape f b S in
      let N = keeps_members T.keeps.founded (omega (arith, b, T.keeps.grows.longer))
      (All-push (λ x. structs_below x.1 ≤ length inner.structs) list (name, t) (fit_more (length ctx.structs) (length inner.structs) list T.keeps.grows.longer h) T.type) R in
      record { keeps = keeps_then T.keeps N.keeps; members = N.members }

  keeps_enumerated : {ctx a : Context} {next : ℤ} {items : List (List ℕ × Option Exp)} {ps : List Pair} → IsFounded ctx → Enumerated ctx next items a ps → Keeps ctx a
  keeps_enumerated f no_more_enumerators = unchanged f
  keeps_enumerated f (counted {next = next} {item = item} q n h A) =
      let K = keeps_word item.0 (constant next) f (omega arith) in keeps_then K (keeps_enumerated K.founded A)
  keeps_enumerated f (valued {v = v} {item = item} q I C n h A) =
      let T = keeps_introduced f I in
      let K = keeps_word item.0 (constant v) T.founded (omega arith) in
      keeps_then T (keeps_then K (keeps_enumerated K.founded A))

keeps_entered : {ctx a : Context} {specs : List Specifier} {name : Option (List ℕ)} {t : CType} → IsFounded ctx → structs_below t ≤ length ctx.structs → Enters ctx specs name t a → Keeps ctx a
keeps_entered f h unnamed_parameter = unchanged f
keeps_entered f h (named_parameter {name = name} {t = t} n k) = keeps_word name (local automatic t) f h
keeps_entered f h (register_parameter {name = name} {t = t} n k) = keeps_word name (local in_register t) f h

keeps_listed : {ctx a : Context} {params : List Param} {ts : List CType} {ps : List Pair} → IsFounded ctx → Listed ctx params ts a ps → KeepsList ctx ts a
keeps_listed f no_more_params = record { keeps = unchanged f; types = omega arith }
keeps_listed f (one_more_param {inner = inner} {u = u} w S H J E R) =
    let T = keeps_specified f S in
    let N = keeps_shape T.keeps.founded T.type H in
    let le : structs_below u ≤ length inner.structs = omega (arith, N.type, adjusted_below J) in
    let O = keeps_entered N.keeps.founded le E in
    let L = keeps_listed O.founded R in
    record { keeps = keeps_then T.keeps (keeps_then N.keeps (keeps_then O L.keeps)); types = max-le (omega (arith, N.type, adjusted_below J, O.grows.longer, L.keeps.grows.longer)) L.types }

-- a new scope has the same structs
from_outside : {ctx a : Context} → Keeps (in_new_block ctx) a → Keeps ctx a
from_outside k = record { founded = k.founded; grows = record { longer = k.grows.longer; kept = k.grows.kept } }

keeps_taken : {ctx a : Context} {params : List Param} {ts : List CType} {ps : List Pair} → IsFounded ctx → Takes ctx params ts a ps → KeepsList ctx ts a
keeps_taken f (takes_void v) = record { keeps = from_outside (unchanged (founded_inside f)); types = omega arith }
keeps_taken f (takes_params n L) = let K = keeps_listed (founded_inside f) L in record { keeps = from_outside K.keeps; types = K.types }

keeps_declared : {ctx a : Context} {base : CType} {d : Declarator} {t : CType} {ps : List Pair} → IsFounded ctx → structs_below base ≤ length ctx.structs → Declares ctx base d t a ps → KeepsType ctx t a
keeps_declared f h (declares_shape S) = keeps_shape f h S
keeps_declared f h (declares_function {inner = inner} {base = base} {d = d} {more = more} {ts = ts} q k r T) =
    let L = keeps_taken f T in
    record {
      keeps = keeps_back f L.keeps;
      type = subst (λ z. z ≤ length inner.structs) (sym (below_Fun (starred base d.stars) ts more)) (max-le (omega (arith, h, starred_below base d.stars, L.keeps.grows.longer)) L.types);
    }

keeps_named : {file : File} {name : List ℕ} {t u : CType} {n : ℕ} {f : File} → Names file name t u n f → IsFounded file.context → structs_below t ≤ length file.context.structs → KeepsFile file u f
keeps_named {file = file} (named_first {name = name} {t = t} w) f h = record { keeps = keeps_word name (global t file.objects) f h; type = h }
keeps_named {file = file} (named_again {name = name} {t = t} {u = u} {n = n} w k) f h =
    let le = composite_below (length file.context.structs) u t (meaning_here_fits name f w) h in
    record { keeps = keeps_retold name (global (composite u t) n) f le; type = le }

keeps_part : {file f : File} {class : Option (List ℕ)} {inline const : Bool} {base : CType} {d : Declarator} {x : Option Init} → IsFounded file.context →
    structs_below base ≤ length file.context.structs → Part file class inline base const d x f → Keeps file.context f.context
keeps_part f h (part_typedef {own = own} {t = t} {name = name} i n q D w K) =
    let T = keeps_declared f h D in keeps_then T.keeps (keeps_word name (type_name t own) T.keeps.founded T.type)
keeps_part f h (part_function {t = t} {name = name} q k D s w) = let T = keeps_declared f h D in keeps_then T.keeps (keeps_word name (function t) T.keeps.founded T.type)
keeps_part f h (part_function_again q k D s w) = let T = keeps_declared f h D in T.keeps
keeps_part f h (part_object q k S s v N) =
    let T = keeps_shape f h S in let O = keeps_named N T.keeps.founded T.type in keeps_then T.keeps O.keeps
keeps_part f h (part_initialised {own = own} {u = u} {v = v} {n = n} {name = name} q k S s w N i I V a) =
    let T = keeps_shape f h S in
    let O = keeps_named N T.keeps.founded T.type in
    let J = keeps_introduced O.keeps.founded I in
    let R = keeps_retold name (global (composite u v) n) J.founded (composite_below (length own.structs) u v (omega (arith, O.type, J.grows.longer))
    (omega (arith, initialised_below V, T.type, O.keeps.grows.longer, J.grows.longer))) in
    keeps_then T.keeps (keeps_then O.keeps (keeps_then J R))

keeps_parts : {file f : File} {class : Option (List ℕ)} {inline const : Bool} {base : CType} {parts : List (Declarator × Option Init)} → IsFounded file.context →
    structs_below base ≤ length file.context.structs → Parts file class inline base const parts f → IsFounded f.context
keeps_parts f h no_more_parts = f
keeps_parts f h (one_more_part A B) = let K = keeps_part f h A in keeps_parts K.founded (omega (arith, h, K.grows.longer)) B

-- a declaration keeps that the file is founded
pub keeps_file : {file f : File} {d : Decl} → IsFounded file.context → DeclaredIn file d f → IsFounded f.context
keeps_file f (lone_semicolon e p) = f
keeps_file f (declared_alone t p w h S) = let T = keeps_specified f S in T.keeps.founded
keeps_file f (declared_parts n w h k S P) = let T = keeps_specified f S in keeps_parts T.keeps.founded T.type P

keeps_received : {ctx a : Context} {params : List Param} {ts : List CType} {ps : List Pair} → IsFounded ctx → Receives ctx params ts a ps → KeepsList ctx ts a
keeps_received f receives_nothing = record { keeps = from_outside (unchanged (founded_inside f)); types = omega arith }
keeps_received f (receives_void v) = record { keeps = from_outside (unchanged (founded_inside f)); types = omega arith }
keeps_received f (receives_params n h L) = let K = keeps_listed (founded_inside f) L in record { keeps = from_outside K.keeps; types = K.types }

keeps_name : {ctx a : Context} {name : List ℕ} {t : CType} → IsFounded ctx → structs_below t ≤ length ctx.structs → NamesFunction ctx name t a → IsFounded a
keeps_name {name = name} {t = t} f h (function_new w) = let K = keeps_word name (function t) f h in K.founded
keeps_name f h (function_again w) = f

-- a definition keeps that the file is founded
pub keeps_definition : {file f : File} {tree : FunTree} {ps : List Pair} → IsFounded file.context → Defines file tree f ps → IsFounded f.context
keeps_definition {tree = tree} f (defines {inner = inner} {base = base} {ts = ts} n s w h S k r R N l I) =
    let T = keeps_specified f S in
    let L = keeps_received T.keeps.founded R in
    let B = keeps_back T.keeps.founded L.keeps in
    keeps_name B.founded (subst (λ z. z ≤ length inner.structs) (sym (below_Fun (starred base tree.declarator.stars) ts false))
    (max-le (omega (arith, T.type, starred_below base tree.declarator.stars, L.keeps.grows.longer)) L.types)) N

pub first_is_founded : (target : Target) → IsFounded (first_context target)
first_is_founded target = record {
  named = refl;
  listed = refl;
  words = All-cons (WordsFit 0) no_block [] (All-nil (λ w. meaning_below w.1 ≤ 0)) (All-nil (WordsFit 0));
  tags = All-cons (TagsFit []) no_block [] (All-nil (λ x. HasTag [] x.1)) (All-nil (TagsFit []));
  untagged = λ n h. none_fit n;
}

pub shown_is_well_founded : {env : Env} {file : File} → Shows env file → IsFounded file.context → IsWellFounded env
shown_is_well_founded {env = env} {file = file} s f =
    subst (λ z. (n : ℕ) → get_or z n None ≡ None → MembersFit n (get_or env.members n [])) (sym s.names)
    (subst (λ z. (n : ℕ) → get_or file.context.names n None ≡ None → MembersFit n (get_or z n [])) (sym s.members) f.untagged)
