-- Specifiers, members and enumerators say one type, and declare the same.
use Rattle.std.proofs.Common.{◌≡◌, ℕ, List, [], ◌∷◌, ◌++◌, map, flat_map, Option, Some, None, IsSome, Bool, ◌||◌, refl, sym, ap, ◌∙◌, subst, arith, Contains, All}
use Rattle.std.specs.Prelude.{is_some, ℤ, pos, ◌+ℤ◌}
use Rattle.po_arith.specs.declared.int_type.IntType.{IntType}
use Rattle.po_tree.specs.declared.expression.Exp.{Exp}
use Rattle.po_tree.specs.declared.expression.Specifier.{Specifier, out-Specifier}
use Rattle.po_tree.specs.declared.expression.Specifier.TheVariants as sp
use Rattle.po_tree.specs.declared.expression.Declarator.{Declarator}
use Rattle.po_tree.specs.declared.expression.Member.{Member}
use Rattle.po_tree.specs.Words.{storage_classes}
use Rattle.po_types.specs.declared.ctype.CType.{CType}
use Rattle.po_types.specs.declared.ctype.CType.TheVariants as c
use Rattle.po_types.specs.declared.layout.Extent.{Extent}
use Rattle.po_types.specs.declared.layout.Layout.{Layout}
use Rattle.po_types.specs.Laws.{OneFormat, OneLayout}
use Rattle.po_types.specs.Layouts.{IsLayout}
use Rattle.po_typed.specs.Forms.{SpecifierLayer}
use Rattle.po_typed.specs.Scopes.{Context, Meaning, type_name, constant, enum_tag, with_word, with_tag, with_struct, next_struct, completed}
use Rattle.po_typed.specs.Expressions.{Pair, IsArray, IsConstant}
use Rattle.po_typed.specs.Declarations.{Says, it_holds, it_fails, IsNoStorage, HasStorage, no_storage, one_storage, tags_in, some_of, Introduces, no_more_tags, old_tag, new_tag, Shapes, plain_shape, array_shape, IsLaidOut, Specified, specified_by_words, specified_by_one, Specifies, typedef_used, struct_used, struct_declared, enum_used, struct_untagged, struct_tagged, struct_completed, enum_untagged, enum_tagged, Membered, no_more_members, members_declared, MembersOf, no_more_of_them, one_more_member, Enumerated, no_more_enumerators, counted, valued}
use Rattle.po_lists.proofs.Options.{one_some}
use Rattle.po_typed.proofs.OneWordType.{same_text, word_type_is_one}
use Rattle.po_typed.proofs.OneType.{found_or_not}
use Rattle.po_typed.proofs.OneBase.{IsWord, IsWordSpecifier, AreWords, plain_are_words, one_apart, none_apart, words_are_words, type_named, struct_numbered}
use Rattle.po_typed.proofs.OneForm.{joined, sizes_of}
use Rattle.po_typed.proofs.OneExpression.{one_type, one_array, one_constant}
use Rattle.po_lists.proofs.Booleans.{never_both}

-- what two declarations of one thing agree in: what is in force behind them, and the pairs
pub record SameBehind (a : Context) (ps : List Pair) (b : Context) (qs : List Pair) : Type 0 where
  pub context : a ≡ b
  pub pairs : ps ≡ qs

-- and a type
pub record SameShape (t : CType) (a : Context) (ps : List Pair) (u : CType) (b : Context) (qs : List Pair) : Type 0 where
  pub type : t ≡ u
  pub context : a ≡ b
  pub pairs : ps ≡ qs

-- and whether it is const
pub record SameSpecified (t : CType) (k : Bool) (a : Context) (ps : List Pair) (u : CType) (m : Bool) (b : Context) (qs : List Pair) : Type 0 where
  pub type : t ≡ u
  pub const : k ≡ m
  pub context : a ≡ b
  pub pairs : ps ≡ qs

-- and a list of members
pub record SameMembers (list : List (List ℕ × CType)) (a : Context) (ps : List Pair) (others : List (List ℕ × CType)) (b : Context) (qs : List Pair) : Type 0 where
  pub members : list ≡ others
  pub context : a ≡ b
  pub pairs : ps ≡ qs

pub one_said : {P : Type 0} {a b : Bool} → Says P a → Says P b → a ≡ b
one_said (it_holds p) (it_holds q) = refl
one_said (it_holds p) (it_fails n) = absurd (n p)
one_said (it_fails n) (it_holds p) = absurd (n p)
one_said (it_fails n) (it_fails m) = refl

is_storage : (word : List ℕ) → Contains storage_classes word → IsNoStorage (sp.Word word) → ⊥
is_storage word h n = n word refl h

pub storage_is_one : {specs : List Specifier} {a b : Option (List ℕ)} → HasStorage specs a → HasStorage specs b → a ≡ b
storage_is_one (no_storage specs h) (no_storage specs' h') = refl
storage_is_one (no_storage specs h) (one_storage specs' before after word q i n m) = none_apart IsNoStorage (sp.Word word) after before (subst (All IsNoStorage) q h) (is_storage word i)
storage_is_one (one_storage specs before after word q i n m) (no_storage specs' h) = none_apart IsNoStorage (sp.Word word) after before (subst (All IsNoStorage) q h) (is_storage word i)
storage_is_one (one_storage specs before after word q i n m) (one_storage specs' before' after' word' q' i' n' m') =
    ap Some (same_text (one_apart IsNoStorage (sp.Word word) (sp.Word word') after after' before before' (sym q ∙ q') n n' (is_storage word i) (is_storage word' i')))

pub some_is_not_none : {A B : Type 0} {z : Option A} → IsSome z → z ≡ None → B
some_is_not_none h q = never_both h (ap is_some q)

pub one_introduced : {ctx a b : Context} {tags : List (List ℕ)} → Introduces ctx tags a → Introduces ctx tags b → a ≡ b
one_introduced no_more_tags no_more_tags = refl
one_introduced (old_tag h A) (old_tag h' A') = one_introduced A A'
one_introduced (old_tag h A) (new_tag h' A') = some_is_not_none h h'
one_introduced (new_tag h A) (old_tag h' A') = some_is_not_none h' h
one_introduced (new_tag h A) (new_tag h' A') = one_introduced A A'

-- a derivation of what is equal
pub introduces_as : {ctx a : Context} {tags others : List (List ℕ)} → Introduces ctx others a → tags ≡ others → Introduces ctx tags a
introduces_as {ctx = ctx} {a = a} A e = subst (λ z. Introduces ctx z a) (sym e) A

array_in : {ctx ctx' : Context} {t u : CType} {sizes others : List (Option Exp)} {ps : List Pair} → IsArray ctx' t others u ps → ctx ≡ ctx' → sizes ≡ others → IsArray ctx t sizes u ps
array_in {ctx' = ctx'} {t = t} {u = u} {sizes = sizes} {ps = ps} A e f = subst (λ z. IsArray z t sizes u ps) (sym e) (subst (λ z. IsArray ctx' t z u ps) (sym f) A)

pub shapes_as : {ctx ctx' a : Context} {base base' t : CType} {d : Declarator} {ps : List Pair} → Shapes ctx' base' d t a ps → ctx ≡ ctx' → base ≡ base' → Shapes ctx base d t a ps
shapes_as {ctx' = ctx'} {a = a} {base = base} {t = t} {d = d} {ps = ps} A e f = subst (λ z. Shapes z base d t a ps) (sym e) (subst (λ z. Shapes ctx' z d t a ps) (sym f) A)

laid_as : {ctx ctx' : Context} {list others : List (List ℕ × CType)} {l : Layout} → IsLaidOut ctx' others l → ctx ≡ ctx' → list ≡ others → IsLaidOut ctx list l
laid_as {ctx' = ctx'} {list = list} {l = l} A e f = subst (λ z. IsLaidOut z list l) (sym e) (subst (λ z. IsLaidOut ctx' z l) (sym f) A)

specifies_as : {ctx a : Context} {s s' : Specifier} {t : CType} {k : Bool} {ps : List Pair} → Specifies ctx (out-Specifier s') t k a ps → s ≡ s' → Specifies ctx (out-Specifier s) t k a ps
specifies_as {ctx = ctx} {a = a} {t = t} {k = k} {ps = ps} A e = subst (λ z. Specifies ctx (out-Specifier z) t k a ps) (sym e) A

membered_as : {ctx ctx' a : Context} {list list' more : List (List ℕ × CType)} {ms : List Member} {ps : List Pair} → Membered ctx' list' ms more a ps → ctx ≡ ctx' → list ≡ list' →
    Membered ctx list ms more a ps
membered_as {ctx' = ctx'} {a = a} {list = list} {more = more} {ms = ms} {ps = ps} A e f =
    subst (λ z. Membered z list ms more a ps) (sym e) (subst (λ z. Membered ctx' z ms more a ps) (sym f) A)

members_as : {ctx ctx' a : Context} {base base' : CType} {list list' more : List (List ℕ × CType)} {ds : List Declarator} {ps : List Pair} → MembersOf ctx' base' list' ds more a ps →
    ctx ≡ ctx' → base ≡ base' → list ≡ list' → MembersOf ctx base list ds more a ps
members_as {ctx' = ctx'} {a = a} {base = base} {base' = base'} {list = list} {more = more} {ds = ds} {ps = ps} A e f g =
    subst (λ z. MembersOf z base list ds more a ps) (sym e) (subst (λ z. MembersOf ctx' z list ds more a ps) (sym f) (subst (λ z. MembersOf ctx' base' z ds more a ps) (sym g) A))

enumerated_as : {ctx ctx' a : Context} {next next' : ℤ} {items : List (List ℕ × Option Exp)} {ps : List Pair} → Enumerated ctx' next' items a ps → ctx ≡ ctx' → next ≡ next' →
    Enumerated ctx next items a ps
enumerated_as {ctx' = ctx'} {a = a} {next = next} {items = items} {ps = ps} A e f = subst (λ z. Enumerated z next items a ps) (sym e) (subst (λ z. Enumerated ctx' z items a ps) (sym f) A)

constant_in : {ctx ctx' : Context} {x y : Exp} {t : IntType} {v : ℤ} {ps : List Pair} → IsConstant ctx' y t v ps → ctx ≡ ctx' → x ≡ y → IsConstant ctx x t v ps
constant_in {ctx' = ctx'} {x = x} {t = t} {v = v} {ps = ps} A e f = subst (λ z. IsConstant z x t v ps) (sym e) (subst (λ z. IsConstant ctx' z t v ps) (sym f) A)

abbrev extent : ℕ → ℕ → Extent
extent size align = record { size = size; align = align }

-- sizes and alignments make one list of extents
one_extents : (xs ys : List Extent) → map (λ x. Some x.size) xs ≡ map (λ x. Some x.size) ys → map (λ x. x.align) xs ≡ map (λ x. x.align) ys → xs ≡ ys
one_extents [] [] p q = refl
one_extents [] (y ∷ ys) p q = absurd cc
one_extents (x ∷ xs) [] p q = absurd cc
one_extents (x ∷ xs) (y ∷ ys) p q =
    let s : Some x.size ≡ Some y.size = cc in
    let k : x.size ≡ y.size = cc in
    let a : x.align ≡ y.align = cc in
    let p' : map (λ z. Some z.size) xs ≡ map (λ z. Some z.size) ys = cc in
    let q' : map (λ z. z.align) xs ≡ map (λ z. z.align) ys = cc in
    let r = one_extents xs ys p' q' in
    let e : x ≡ y = ap (λ z. extent z x.align) k ∙ ap (extent y.size) a in
    cc

pub specifies_is_no_word : {ctx a : Context} {s : SpecifierLayer} {t : CType} {k : Bool} {ps : List Pair} → Specifies ctx s t k a ps → IsWord s → ⊥
specifies_is_no_word (typedef_used h) w = w
specifies_is_no_word (struct_used h) w = w
specifies_is_no_word (struct_declared h) w = w
specifies_is_no_word (enum_used h) w = w
specifies_is_no_word (struct_untagged A h) w = w
specifies_is_no_word (struct_tagged h A k l) w = w
specifies_is_no_word (struct_completed h A k l) w = w
specifies_is_no_word (enum_untagged A) w = w
specifies_is_no_word (enum_tagged h A k) w = w

abbrev const_named : Bool → Option Meaning → Bool
const_named d (Some (type_name t const)) = const
const_named d _ = d

module _ (one_format : OneFormat) (one_layout : OneLayout) where
  pub one_shape : {ctx a b : Context} {base t u : CType} {d : Declarator} {ps qs : List Pair} → Shapes ctx base d t a ps → Shapes ctx base d u b qs → SameShape t a ps u b qs
  one_shape (plain_shape q k) (plain_shape q' k') = record { type = refl; context = refl; pairs = refl }
  one_shape (plain_shape q k) (array_shape q' k' I A) = found_or_not (ap sizes_of q') (ap sizes_of q)
  one_shape (array_shape q k I A) (plain_shape q' k') = found_or_not (ap sizes_of q) (ap sizes_of q')
  one_shape {a = a} (array_shape q k I A) (array_shape q' k' I' A') =
      let es = one_some (ap sizes_of q) (ap sizes_of q') in
      let ec = one_introduced I (introduces_as I' (ap (λ z. tags_in (flat_map some_of z)) es)) in
      let S = one_array one_format a A (array_in A' ec es) refl in
      record { type = S.type; context = ec; pairs = S.pairs }

  one_laid_out : (ctx : Context) (list : List (List ℕ × CType)) {l m : Layout} → IsLaidOut ctx list l → IsLaidOut ctx list m → l ≡ m
  one_laid_out ctx list {l = l} {m = m} p q = one_layout p.0 l m p.3 (subst (λ z. IsLayout z m) (sym (one_extents p.0 q.0 (sym p.1 ∙ q.1) (sym p.2 ∙ q.2))) q.3)

  mutual
    pub one_specified : {ctx a b : Context} {specs : List Specifier} {t u : CType} {k m : Bool} {ps qs : List Pair} → Specified ctx specs t k a ps → Specified ctx specs u m b qs →
        SameSpecified t k a ps u m b qs
    one_specified (specified_by_words d r h) (specified_by_words d' r' h') = record { type = word_type_is_one d d'; const = one_said h h'; context = refl; pairs = refl }
    one_specified (specified_by_words d r h) (specified_by_one before after s q n m D r' h') =
        none_apart IsWordSpecifier s after before (subst AreWords q (words_are_words d)) (specifies_is_no_word D)
    one_specified (specified_by_one before after s q n m D r h) (specified_by_words d r' h') =
        none_apart IsWordSpecifier s after before (subst AreWords q (words_are_words d)) (specifies_is_no_word D)
    one_specified (specified_by_one before after s {own = own} {const = k} q n m D r h) (specified_by_one before' after' s' {own = own'} q' n' m' D' r' h') =
        let es = one_apart IsWordSpecifier s s' after after' before before' (sym q ∙ q') (plain_are_words before n) (plain_are_words before' n') (specifies_is_no_word D) (specifies_is_no_word D') in
        let Q = one_specifies D (specifies_as D' es) in
        record { type = Q.type; const = ap (λ z. z || k) Q.const ∙ ap (λ z. own' || z) (one_said h h'); context = Q.context; pairs = Q.pairs }

    pub one_specifies : {ctx a b : Context} {s : SpecifierLayer} {t u : CType} {k m : Bool} {ps qs : List Pair} → Specifies ctx s t k a ps → Specifies ctx s u m b qs →
        SameSpecified t k a ps u m b qs
    one_specifies (typedef_used {t = t} {const = k} h) (typedef_used h') = record { type = ap (type_named t) (sym h ∙ h'); const = ap (const_named k) (sym h ∙ h'); context = refl; pairs = refl }
    one_specifies (struct_used {n = n} h) (struct_used h') = record { type = ap (λ z. c.Struct (struct_numbered n z)) (sym h ∙ h'); const = refl; context = refl; pairs = refl }
    one_specifies (struct_used h) (struct_declared h') = found_or_not h h'
    one_specifies (struct_declared h) (struct_used h') = found_or_not h' h
    one_specifies (struct_declared h) (struct_declared h') = record { type = refl; const = refl; context = refl; pairs = refl }
    one_specifies (enum_used h) (enum_used h') = record { type = refl; const = refl; context = refl; pairs = refl }
    one_specifies (struct_untagged {inner = first} {list = list} {layout = l} A h) (struct_untagged {inner = inner} {list = list'} {layout = l'} A' h') =
        let Q = one_membered A A' in
        let el = one_laid_out first list h (laid_as h' Q.context Q.members) in
        record {
          type = ap (λ z. c.Struct (next_struct z)) Q.context;
          const = refl;
          context = ap (λ z. completed (next_struct z) l list (with_struct None z)) Q.context ∙ ap (λ z. completed (next_struct inner) z list (with_struct None inner)) el ∙
              ap (λ z. completed (next_struct inner) l' z (with_struct None inner)) Q.members;
          pairs = Q.pairs;
        }
    one_specifies {ctx = ctx} (struct_tagged {inner = first} {list = list} {layout = l} n A i h) (struct_tagged {inner = inner} {list = list'} {layout = l'} n' A' i' h') =
        let Q = one_membered A A' in
        let el = one_laid_out first list h (laid_as h' Q.context Q.members) in
        record {
          type = refl;
          const = refl;
          context = ap (completed (next_struct ctx) l list) Q.context ∙ ap (λ z. completed (next_struct ctx) z list inner) el ∙ ap (λ z. completed (next_struct ctx) l' z inner) Q.members;
          pairs = Q.pairs;
        }
    one_specifies (struct_tagged n A i h) (struct_completed n' A' i' h') = found_or_not n' n
    one_specifies (struct_completed n A i h) (struct_tagged n' A' i' h') = found_or_not n n'
    one_specifies (struct_completed {inner = first} {n = n} {list = list} {layout = l} m A i h) (struct_completed {inner = inner} {n = n'} {list = list'} {layout = l'} m' A' i' h') =
        let Q = one_membered A A' in
        let el = one_laid_out first list h (laid_as h' Q.context Q.members) in
        let en = ap (struct_numbered n) (sym m ∙ m') in
        record {
          type = ap c.Struct en;
          const = refl;
          context = ap (completed n l list) Q.context ∙ ap (λ z. completed z l list inner) en ∙ ap (λ z. completed n' z list inner) el ∙ ap (λ z. completed n' l' z inner) Q.members;
          pairs = Q.pairs;
        }
    one_specifies (enum_untagged A) (enum_untagged A') = let Q = one_enumerated A A' in record { type = refl; const = refl; context = Q.context; pairs = Q.pairs }
    one_specifies (enum_tagged {tag = tag} h A k) (enum_tagged h' A' k') =
        let Q = one_enumerated A A' in record { type = refl; const = refl; context = ap (with_tag tag enum_tag) Q.context; pairs = Q.pairs }

    one_membered : {ctx a b : Context} {list more others : List (List ℕ × CType)} {ms : List Member} {ps qs : List Pair} → Membered ctx list ms more a ps → Membered ctx list ms others b qs →
        SameMembers more a ps others b qs
    one_membered no_more_members no_more_members = record { members = refl; context = refl; pairs = refl }
    one_membered (members_declared w n S M R) (members_declared w' n' S' M' R') =
        let Q = one_specified S S' in
        let N = one_members M (members_as M' Q.context Q.type refl) in
        let L = one_membered R (membered_as R' N.context N.members) in
        record { members = L.members; context = L.context; pairs = joined Q.pairs (joined N.pairs L.pairs) }

    one_members : {ctx a b : Context} {base : CType} {list more others : List (List ℕ × CType)} {ds : List Declarator} {ps qs : List Pair} → MembersOf ctx base list ds more a ps →
        MembersOf ctx base list ds others b qs → SameMembers more a ps others b qs
    one_members no_more_of_them no_more_of_them = record { members = refl; context = refl; pairs = refl }
    one_members (one_more_member {t = t} {list = list} {name = name} q S h k R) (one_more_member {t = t'} {name = name'} q' S' h' k' R') =
        let Q = one_shape S S' in
        let en = one_some q q' in
        let N = one_members R (members_as R' Q.context refl (ap (λ z. list ++ (z, t) ∷ []) en ∙ ap (λ z. list ++ (name', z) ∷ []) Q.type)) in
        record { members = N.members; context = N.context; pairs = joined Q.pairs N.pairs }

    one_enumerated : {ctx a b : Context} {next : ℤ} {items : List (List ℕ × Option Exp)} {ps qs : List Pair} → Enumerated ctx next items a ps → Enumerated ctx next items b qs →
        SameBehind a ps b qs
    one_enumerated no_more_enumerators no_more_enumerators = record { context = refl; pairs = refl }
    one_enumerated (counted q n h A) (counted q' n' h' A') = one_enumerated A A'
    one_enumerated (counted q n h A) (valued q' I K n' h' A') = found_or_not q' q
    one_enumerated (valued q I K n h A) (counted q' n' h' A') = found_or_not q q'
    one_enumerated (valued {inner = inner} {v = v} {item = item} q I K n h A) (valued {inner = inner'} {v = v'} q' I' K' n' h' A') =
        let ex = one_some q q' in
        let ei = one_introduced I (introduces_as I' (ap (λ z. tags_in (z ∷ [])) ex)) in
        let C = constant_in K' ei ex in
        let T = one_type one_format inner K.typed C.typed in
        let V = one_constant one_format inner K.computed C.computed in
        let N = one_enumerated A (enumerated_as A' (ap (λ z. with_word item.0 (constant z) inner) V.value ∙ ap (with_word item.0 (constant v')) ei) (ap (λ z. z +ℤ pos 1) V.value)) in
        record { context = N.context; pairs = joined (T.pairs T.type) N.pairs }
