-- Of two lists of specifiers, members, declarators or parameters that the same signs print, with what may stand behind each, one is the other.
use Rattle.std.proofs.Common.{◌≡◌, ◌∙◌, ℕ, ◌≤◌, List, [], ◌∷◌, ◌++◌, map, flat_map, Bool, true, false, refl, sym, ap, subst, arith, append_assoc, codes}
use Rattle.std.specs.Prelude.{Option, Some, None, cond, nat_eq}
use Rattle.po_tree.specs.declared.expression.Exp.{Exp}
use Rattle.po_tree.specs.declared.expression.Specifier.{Specifier}
use Rattle.po_tree.specs.declared.expression.Specifier.TheVariants as sp
use Rattle.po_tree.specs.declared.expression.Suffix.{Suffix}
use Rattle.po_tree.specs.declared.expression.Suffix.TheVariants as su
use Rattle.po_tree.specs.declared.expression.Declarator.{Declarator}
use Rattle.po_tree.specs.declared.expression.Member.{Member, out-Member}
use Rattle.po_tree.specs.declared.expression.Param.{Param, out-Param}
use Rattle.po_tree.specs.Signs.{Sign, word, comma, brace, brace_end}
use Rattle.po_tree.specs.Heights.{suffix_height, declarator_height, greatest}
use Rattle.po_tree.specs.Printing.{flat_specifier, flat_suffix, flat_declarator, optional}
use Rattle.po_tree.specs.Layers.{flat_specifier-Word, flat_specifier-Named, flat_specifier-struct, flat_specifier-enum, flat_suffix-Plain}
use Rattle.po_tree.specs.Expressions.{Typed, untyped, by_name, SuffixFormed, plain, arrays}
use Rattle.po_tree.specs.Declarations as de
use Rattle.po_tree.specs.Declarations.{without, Specs, Members, AllDeclarators, IsDeclarator, IsSuffix, Params, IsParameter, IsTag}
use Rattle.po_exp_parts.specs.Places.{BeginsWord}
use Rattle.po_decl_parts.specs.Enumerators.{flat_enumerators}
use Rattle.po_decl_parts.specs.Sizes.{SizesRead}
use Rattle.po_decl_parts.specs.Specifiers.{SpecifierStands, storage_class, inline_word, qualifier, type_word, typedef_name, struct_tag, enum_tag, enum_body}
use Rattle.po_exp_parts.specs.Stars.{StarsRead}
use Rattle.po_decl_parts.proofs.Bracketed.{sizes_same}
use Rattle.po_decl_parts.proofs.FirstWords.{stands_at_word}
use Rattle.po_decl_parts.proofs.Printed.{enclosed, items_complete}
use Rattle.po_decl_parts.proofs.PrintedSpecifiers.{flat_specifier-body, specifier_height-body, specifier_complete}
use Rattle.po_exp_parts.proofs.SameSigns.{same_word}
use Rattle.po_exp_parts.proofs.Starred.{stars_same}
use Rattle.po_decl_laws.specs.Parts.{member_height, param_height, specs_height}
use Rattle.po_decl_laws.specs.Fronts as fr
use Rattle.po_decl_laws.specs.Fronts.{EndsSpecifiers, EndsDeclarator, EndsParameter}
use Rattle.po_decl_laws.proofs.Layers.{specifier_height-members, suffix_height-Params, declarator_height-all, member_same, param_same}
use Rattle.po_decl_laws.proofs.Fronts.{ends_no_specifier, ends_no_opens, flat_arrays-before, sizes_before_end, declarator_stars, unnamed_stars, suffix_no_word, parameter_ends, parameter_end}
use Rattle.po_decl_laws.proofs.Beginning.{Begun, nothing, a_body, a_specifier, begun, specs_no_brace}
use Rattle.po_decl_laws.proofs.Again.{Continued, specifier_again, body_again, opens_first, tag_stands}
use Rattle.po_decl_laws.proofs.Behind.{tails, first_byte, no_word_first, some_specs_word, declarators_behind, declarators_front, declarators_next, declarators_end, declarators_end_specs, front_behind, members_behind, members_next, params_behind, params_front, params_first, params_next, params_end, flat_params-front, params_ended, params_over, params_none}

-- what two lists of specifiers come to
pub record SameSpecs (specs others : List Specifier) (types final : List (List ℕ)) (seen sort : Typed) (us vs : List Sign) : Type 0 where
  pub specs_same : specs ≡ others
  pub types_same : types ≡ final
  pub seen_same : seen ≡ sort
  pub left_same : us ≡ vs

-- what two declarators, or two lists of members or parameters, come to
pub record Same {A : Type 0} (x y : A) (types final : List (List ℕ)) (us vs : List Sign) : Type 0 where
  pub trees_same : x ≡ y
  pub types_same : types ≡ final
  pub left_same : us ≡ vs

-- no specifiers

none_again : {outer free : Bool} {types final : List (List ℕ)} {seen sort : Typed} {others : List Specifier} (us vs : List Sign) → Specs outer free types seen others final sort → Begun outer free types seen others final sort →
    specs_height others ≤ 256 → us ≡ flat_map flat_specifier others ++ vs → EndsSpecifiers types seen us → EndsSpecifiers final sort vs → SameSpecs [] others types final seen sort us vs
none_again us vs d nothing low q e f = record { specs_same = refl; types_same = refl; seen_same = refl; left_same = q }
none_again us vs d (a_body inner final sort tag m ms rest r is v w) low q e f = absurd (ends_no_opens e (opens_first tag (m ∷ ms) rest vs is q))
none_again {outer = outer} {free = free} {types = types} {seen = seen} us vs d (a_specifier still behind final now sort spec rest first bare w) low q e f =
    let b = specifier_complete (flat_map flat_specifier rest ++ vs) d (omega (arith, low)) (q ∙ append_assoc (flat_specifier spec) (flat_map flat_specifier rest) vs) (specs_no_brace vs w f) bare in
    absurd (ends_no_specifier outer free e spec b.free' b.types' b.seen' (flat_map flat_specifier rest ++ vs) b.stands)

-- one specifier more
one_more : {outer free : Bool} {types types' final : List (List ℕ)} {seen seen' sort : Typed} {us left vs : List Sign} {spec : Specifier} {rest others : List Specifier} →
    (c : Continued outer spec free types seen left others final sort vs) → SameSpecs rest c.rest types' final seen' sort us vs → SameSpecs (spec ∷ rest) others types' final seen' sort us vs
one_more {spec = spec} c s = record { specs_same = ap (λ z. spec ∷ z) s.specs_same ∙ sym c.parts; types_same = s.types_same; seen_same = s.seen_same; left_same = s.left_same }

word_before : (text : List ℕ) (rest : List Specifier) (us : List Sign) → flat_map flat_specifier (sp.Word text ∷ rest) ++ us ≡ word text ∷ (flat_map flat_specifier rest ++ us)
word_before text rest us = ap (λ v. (v ++ flat_map flat_specifier rest) ++ us) (flat_specifier-Word text)

named_before : (name : List ℕ) (rest : List Specifier) (us : List Sign) → flat_map flat_specifier (sp.Named name ∷ rest) ++ us ≡ word name ∷ (flat_map flat_specifier rest ++ us)
named_before name rest us = ap (λ v. (v ++ flat_map flat_specifier rest) ++ us) (flat_specifier-Named name)

struct_before : (tag : List ℕ) (rest : List Specifier) (us : List Sign) → flat_map flat_specifier (sp.Struct (Some tag) None ∷ rest) ++ us ≡ word (codes "struct") ∷ (word tag ∷ (flat_map flat_specifier rest ++ us))
struct_before tag rest us = ap (λ v. (v ++ flat_map flat_specifier rest) ++ us) (flat_specifier-struct tag)

enum_before : (tag : List ℕ) (rest : List Specifier) (us : List Sign) → flat_map flat_specifier (sp.Enum (Some tag) None false ∷ rest) ++ us ≡ word (codes "enum") ∷ (word tag ∷ (flat_map flat_specifier rest ++ us))
enum_before tag rest us = ap (λ v. (v ++ flat_map flat_specifier rest) ++ us) (flat_specifier-enum tag)

items_before : (tag : Option (List ℕ)) (items : List (List ℕ × Option Exp)) (more : Bool) (rest : List Specifier) (us : List Sign) → flat_map flat_specifier (sp.Enum tag (Some items) more ∷ rest) ++ us ≡
    word (codes "enum") ∷ (optional (λ name. word name ∷ []) tag ++ (brace ∷ (flat_enumerators items more ++ (brace_end ∷ (flat_map flat_specifier rest ++ us)))))
items_before tag items more rest us =
    let behind : List Sign = flat_map flat_specifier rest ++ us in
    append_assoc (flat_specifier (sp.Enum tag (Some items) more)) (flat_map flat_specifier rest) us ∙ ap (λ v. v ++ behind) (flat_specifier-body tag items more) ∙
    ap (λ v. word (codes "enum") ∷ v) (sym (enclosed (optional (λ name. word name ∷ []) tag) (flat_enumerators items more) behind brace brace_end))

items_stand : {outer free : Bool} {types inner : List (List ℕ)} {tag : Option (List ℕ)} {item : List ℕ × Option Exp} {items : List (List ℕ × Option Exp)} (more : Bool) (rest : List Specifier) (us : List Sign) →
    IsTag tag → de.Enumerators types (item ∷ items) inner → specs_height (sp.Enum tag (Some (item ∷ items)) more ∷ rest) ≤ 256 →
    SpecifierStands outer free types untyped (flat_map flat_specifier (sp.Enum tag (Some (item ∷ items)) more ∷ rest) ++ us) (sp.Enum tag (Some (item ∷ items)) more) free inner by_name (flat_map flat_specifier rest ++ us)
items_stand {free = free} {types = types} {inner = inner} {tag = tag} {item = item} {items = items} more rest us is w low =
    let h = specifier_height-body tag (item ∷ items) more in
    let behind : List Sign = flat_map flat_specifier rest ++ us in
    stands_at_word (items_before tag (item ∷ items) more rest us)
    (enum_body free more types inner tag (item ∷ items) _ behind refl (tag_stands _ is) (items_complete behind more w (omega (arith, h, low))))

-- suffixes

-- which kind of suffix the first sign begins
abbrev suffix_begun : List Sign → ℕ
suffix_begun [] = 0
suffix_begun (sign ∷ ts) = cond (nat_eq (first_byte (sign ∷ ts)) 91) 1 (cond (nat_eq (first_byte (sign ∷ ts)) 40) 2 0)

abbrev suffix_kind : {types inner : List (List ℕ)} {suffix : Suffix} → IsSuffix types suffix inner → ℕ
suffix_kind (de.no_parameters types suffix plain) = 0
suffix_kind (de.no_parameters types suffix (arrays size sizes w)) = 1
suffix_kind (de.parameters types xs inner w) = 2
suffix_kind (de.more_parameters types x xs inner w) = 2

formed_kind : {types : List (List ℕ)} {suffix : Suffix} → (w : SuffixFormed types suffix) → suffix_kind (de.no_parameters types suffix w) ≤ 1
formed_kind plain = omega arith
formed_kind (arrays size sizes w) = omega arith

end_begins_none : (us : List Sign) → EndsDeclarator us → suffix_begun us ≡ 0
end_begins_none [] e = absurd e
end_begins_none (sign ∷ ts) fr.at_comma = refl
end_begins_none (sign ∷ ts) fr.at_semicolon = refl
end_begins_none (sign ∷ ts) fr.at_closing = refl
end_begins_none (sign ∷ ts) fr.at_equals = refl
end_begins_none (sign ∷ ts) fr.at_colon = refl
end_begins_none (sign ∷ ts) fr.at_brace = refl

suffix_told : {types inner : List (List ℕ)} {suffix : Suffix} (us : List Sign) → (w : IsSuffix types suffix inner) → EndsDeclarator us → suffix_begun (flat_suffix suffix ++ us) ≡ suffix_kind w
suffix_told us (de.no_parameters types suffix plain) e = ap (λ v. suffix_begun (v ++ us)) flat_suffix-Plain ∙ end_begins_none us e
suffix_told us (de.no_parameters types suffix (arrays size sizes w)) e = ap suffix_begun (flat_arrays-before size sizes us)
suffix_told us (de.parameters types xs inner w) e = ap suffix_begun (flat_params-front xs false us)
suffix_told us (de.more_parameters types x xs inner w) e = ap suffix_begun (flat_params-front (x ∷ xs) true us)

-- parameters that begin the list, with a comma before them
params_again : {types inner after : List (List ℕ)} {xs ys : List Param} (more more' : Bool) (us vs : List Sign) → Params types xs inner → Params types ys after →
    params_front xs more us ≡ params_front ys more' vs → params_behind xs more us ≡ params_behind ys more' vs
params_again more more' us vs (de.no_more_params types) (de.no_more_params types') q = q
params_again more more' us vs (de.no_more_params types) (de.one_more_param types' own inner final seen y rest some w p v) q =
    absurd (params_none more us (some_specs_word _ some w) (q ∙ params_first y rest more' vs))
params_again more more' us vs (de.one_more_param types own inner final seen x rest some w p v) (de.no_more_params types') q =
    absurd (params_none more' vs (some_specs_word _ some w) (sym q ∙ params_first x rest more us))
params_again more more' us vs (de.one_more_param types own inner final seen x rest some w p v) (de.one_more_param types' own' inner' final' seen' y rest' some' w' p' v') q = ap (λ z. comma ∷ z) q

params_begin : {types inner after : List (List ℕ)} {xs ys : List Param} (more more' : Bool) (us vs : List Sign) → Params types xs inner → Params types ys after →
    flat_suffix (su.Params xs more) ++ us ≡ flat_suffix (su.Params ys more') ++ vs → params_behind xs more us ≡ params_behind ys more' vs
params_begin {xs = xs} {ys = ys} more more' us vs w v q = params_again more more' us vs w v (tails (sym (flat_params-front xs more us) ∙ q ∙ flat_params-front ys more' vs))

lists_same : {inner after : List (List ℕ)} {xs ys : List Param} {more more' : Bool} {us vs : List Sign} → (xs ≡ ys) × (more ≡ more') × (inner ≡ after) × (us ≡ vs) →
    Same (su.Params xs more) (su.Params ys more') inner after us vs
lists_same {ys = ys} {more = more} r = record { trees_same = ap (λ z. su.Params z more) r.0 ∙ ap (su.Params ys) r.1; types_same = r.2; left_same = r.3 }

-- declarators

abbrev declarator_of : List (List (List ℕ)) → Option (List ℕ) → Suffix → Declarator
declarator_of stars name suffix = record { stars = stars; name = name; suffix = suffix }

declarator_same : {stars stars' : List (List (List ℕ))} {name name' : Option (List ℕ)} {suffix suffix' : Suffix} → stars ≡ stars' → name ≡ name' → suffix ≡ suffix' →
    declarator_of stars name suffix ≡ declarator_of stars' name' suffix'
declarator_same {stars' = stars'} {name = name} {name' = name'} {suffix = suffix} p q r =
    ap (λ z. declarator_of z name suffix) p ∙ ap (λ z. declarator_of stars' z suffix) q ∙ ap (λ z. declarator_of stars' name' z) r

pub declarator_named : {types inner : List (List ℕ)} {seen : Typed} {name : List ℕ} {d : Declarator} → IsDeclarator types seen name d inner → d.name ≡ Some name
declarator_named (de.declarator types seen name stars suffix inner is are w) = refl

pub some_same : {name other : List ℕ} {d e : Declarator} → d ≡ e → d.name ≡ Some name → e.name ≡ Some other → name ≡ other
some_same {name = name} {other = other} q r s = let names : Some name ≡ Some other = sym r ∙ ap (λ d. d.name) q ∙ s in cc

-- the stars of a declarator with a word, and of one without: not the same signs
unnamed_again : {types inner after : List (List ℕ)} {seen : Typed} {name : List ℕ} {d : Declarator} {suffix : Suffix} (stars : List (List (List ℕ))) (us vs : List Sign) →
    IsDeclarator types seen name d inner → de.AreStars stars → IsSuffix types suffix after → EndsDeclarator vs →
    flat_declarator d ++ us ≡ flat_declarator (record { stars = stars; name = None; suffix = suffix }) ++ vs → ⊥
unnamed_again {name = name} {d = d} stars us vs w are v f q =
    let s = stars_same (subst (λ z. StarsRead z d.stars (word name ∷ (flat_suffix d.suffix ++ us))) q (declarator_stars us w)) (unnamed_stars vs are v f) in
    suffix_no_word vs v f (subst BeginsWord s.1 refl)

mutual
  pub one_specs : {outer free : Bool} {types types' final : List (List ℕ)} {seen seen' sort : Typed} {specs others : List Specifier} → Specs outer free types seen specs types' seen' → Specs outer free types seen others final sort →
      specs_height specs ≤ 256 → specs_height others ≤ 256 → (us vs : List Sign) → flat_map flat_specifier specs ++ us ≡ flat_map flat_specifier others ++ vs →
      EndsSpecifiers types' seen' us → EndsSpecifiers final sort vs → SameSpecs specs others types' final seen' sort us vs
  one_specs (de.no_more_specs outer free types seen) v low low' us vs q e f = none_again us vs v (begun v) low' q e f
  one_specs (de.storage_class outer types types' seen seen' text rest h w) v low low' us vs q e f =
      let c = specifier_again vs (stands_at_word (word_before text rest us) (storage_class types seen h)) v low' q f in
      one_more c (one_specs w c.formed (omega (arith, low)) c.nested us vs c.printed e f)
  one_specs (de.inline_word outer free types types' seen seen' rest is w) v low low' us vs q e f =
      let c = specifier_again vs (stands_at_word (word_before (codes "inline") rest us) (inline_word free types seen refl is)) v low' q f in
      one_more c (one_specs w c.formed (omega (arith, low)) c.nested us vs c.printed e f)
  one_specs (de.qualifier outer free types types' seen seen' text rest h w) v low low' us vs q e f =
      let c = specifier_again vs (stands_at_word (word_before text rest us) (qualifier free types seen h)) v low' q f in
      one_more c (one_specs w c.formed (omega (arith, low)) c.nested us vs c.printed e f)
  one_specs (de.type_word outer free types types' seen seen' text rest h t w) v low low' us vs q e f =
      let c = specifier_again vs (stands_at_word (word_before text rest us) (type_word free types seen h t)) v low' q f in
      one_more c (one_specs w c.formed (omega (arith, low)) c.nested us vs c.printed e f)
  one_specs (de.typedef_name outer free types types' seen' name rest is h w) v low low' us vs q e f =
      let c = specifier_again vs (stands_at_word (named_before name rest us) (typedef_name free types is h)) v low' q f in
      one_more c (one_specs w c.formed (omega (arith, low)) c.nested us vs c.printed e f)
  one_specs (de.struct_tag outer free types types' seen' tag rest is w) v low low' us vs q e f =
      let c = specifier_again vs (stands_at_word (struct_before tag rest us) (struct_tag free types tag _ refl is refl (specs_no_brace us w e))) v low' q f in
      one_more c (one_specs w c.formed (omega (arith, low)) c.nested us vs c.printed e f)
  one_specs (de.enum_tag outer free types types' seen' tag rest is w) v low low' us vs q e f =
      let c = specifier_again vs (stands_at_word (enum_before tag rest us) (enum_tag free types tag _ refl is refl (specs_no_brace us w e))) v low' q f in
      one_more c (one_specs w c.formed (omega (arith, low)) c.nested us vs c.printed e f)
  one_specs (de.enum_body outer free more types inner types' seen' tag item items rest is u w) v low low' us vs q e f =
      let c = specifier_again vs (items_stand more rest us is u low) v low' q f in
      one_more c (one_specs w c.formed (omega (arith, low)) c.nested us vs c.printed e f)
  one_specs {final = final} {sort = sort} (de.struct_body outer free types inner types' seen' tag m ms rest is u w) v low low' us vs q e f =
      let c = body_again vs (opens_first tag (m ∷ ms) rest us is refl) v low' q f in
      let h = specifier_height-members tag (m ∷ ms) in
      let s = one_members u c.formed_inside (omega (arith, h, low)) c.nested_inside (flat_map flat_specifier rest ++ us) (flat_map flat_specifier c.rest ++ vs) c.printed in
      let r = one_specs w (subst (λ z. Specs outer free z by_name c.rest final sort) (sym s.types_same) c.formed) (omega (arith, low)) c.nested us vs s.left_same e f in record {
        specs_same = ap (λ z. sp.Struct tag (Some z) ∷ rest) s.trees_same ∙ ap (λ z. sp.Struct tag (Some c.members) ∷ z) r.specs_same ∙ sym c.parts;
        types_same = r.types_same;
        seen_same = r.seen_same;
        left_same = r.left_same;
      }

  pub one_members : {types inner after : List (List ℕ)} {ms ns : List Member} → Members types ms inner → Members types ns after → greatest (map member_height ms) ≤ 256 → greatest (map member_height ns) ≤ 256 →
      (us vs : List Sign) → members_behind ms us ≡ members_behind ns vs → Same ms ns inner after us vs
  one_members (de.no_more_members types) (de.no_more_members types') low low' us vs q = record { trees_same = refl; types_same = refl; left_same = tails q }
  one_members (de.no_more_members types) (de.members types' inner final seen n rest some w some' ds v) low low' us vs q = absurd (no_word_first (some_specs_word _ some w) (sym (q ∙ members_next n rest vs)))
  one_members (de.members types inner final seen m rest some w some' ds v) (de.no_more_members types') low low' us vs q = absurd (no_word_first (some_specs_word _ some w) (sym (members_next m rest us) ∙ q))
  one_members (de.members types inner final seen m rest some w some' ds v) (de.members types' inner' final' seen' n rest' other u other' es t) low low' us vs q =
      let s = one_specs w u (omega (arith, low)) (omega (arith, low')) (declarators_front (out-Member m).declarators (members_behind rest us)) (declarators_front (out-Member n).declarators (members_behind rest' vs))
      (sym (members_next m rest us) ∙ q ∙ members_next n rest' vs) (declarators_end_specs (members_behind rest us) some' ds) (declarators_end_specs (members_behind rest' vs) other' es) in
      let es' = subst (λ z. AllDeclarators z seen (out-Member n).declarators) (sym s.types_same) (subst (λ z. AllDeclarators inner' z (out-Member n).declarators) (sym s.seen_same) es) in
      let r = one_declarators ds es' (omega (arith, low)) (omega (arith, low')) (members_behind rest us) (members_behind rest' vs)
      (front_behind (out-Member m).declarators (out-Member n).declarators (members_behind rest us) (members_behind rest' vs) some' other' s.left_same) in
      let t' = subst (λ z. Members z rest' final') (sym s.types_same) t in
      let o = one_members v t' (omega (arith, low)) (omega (arith, low')) us vs r.1 in record {
        trees_same = ap (λ z. z ∷ rest) (member_same m n s.specs_same r.0) ∙ ap (λ z. n ∷ z) o.trees_same;
        types_same = o.types_same;
        left_same = o.left_same;
      }

  pub one_declarators : {types : List (List ℕ)} {seen : Typed} {ds es : List Declarator} → AllDeclarators types seen ds → AllDeclarators types seen es → greatest (map declarator_height ds) ≤ 256 → greatest (map declarator_height es) ≤ 256 →
      (us vs : List Sign) → declarators_behind ds us ≡ declarators_behind es vs → (ds ≡ es) × (us ≡ vs)
  one_declarators (de.no_more_declarators types seen) (de.no_more_declarators types' seen') low low' us vs q = (refl, tails q)
  one_declarators (de.no_more_declarators types seen) (de.one_more_declarator types' seen' name inner d rest w v) low low' us vs q = absurd (omega (arith, ap first_byte q))
  one_declarators (de.one_more_declarator types seen name inner d rest w v) (de.no_more_declarators types' seen') low low' us vs q = absurd (omega (arith, ap first_byte q))
  one_declarators (de.one_more_declarator types seen name inner d rest w v) (de.one_more_declarator types' seen' name' inner' d' rest' w' v') low low' us vs q =
      let s = one_declarator w w' (omega (arith, low)) (omega (arith, low')) (declarators_behind rest us) (declarators_behind rest' vs)
      (tails (sym (declarators_next d rest us) ∙ q ∙ declarators_next d' rest' vs)) (declarators_end rest us) (declarators_end rest' vs) in
      let r = one_declarators v v' (omega (arith, low)) (omega (arith, low')) us vs s.left_same in
      (ap (λ z. z ∷ rest) s.trees_same ∙ ap (λ z. d' ∷ z) r.0, r.1)

  pub one_declarator : {types inner after : List (List ℕ)} {seen : Typed} {name other : List ℕ} {d d' : Declarator} → IsDeclarator types seen name d inner → IsDeclarator types seen other d' after →
      declarator_height d ≤ 256 → declarator_height d' ≤ 256 → (us vs : List Sign) → flat_declarator d ++ us ≡ flat_declarator d' ++ vs → EndsDeclarator us → EndsDeclarator vs → Same d d' inner after us vs
  one_declarator (de.declarator types seen name stars suffix inner is are w) (de.declarator types' seen' name' stars' suffix' inner' is' are' w') low low' us vs q e f =
      let s = stars_same
      (subst (λ z. StarsRead z stars (word name ∷ (flat_suffix suffix ++ us))) q (declarator_stars us (de.declarator types seen name stars suffix inner is are w)))
      (declarator_stars vs (de.declarator types' seen' name' stars' suffix' inner' is' are' w')) in
      let n = same_word s.1 in
      let h = declarator_height-all stars (Some name) suffix in
      let h' = declarator_height-all stars' (Some name') suffix' in
      let r = one_suffix w w' (omega (arith, h, low)) (omega (arith, h', low')) us vs n.1 e f in
      record { trees_same = declarator_same s.0 (ap Some n.0) r.trees_same; types_same = r.types_same; left_same = r.left_same }

  pub one_suffix : {types inner after : List (List ℕ)} {suffix other : Suffix} → IsSuffix types suffix inner → IsSuffix types other after → suffix_height suffix ≤ 256 → suffix_height other ≤ 256 →
      (us vs : List Sign) → flat_suffix suffix ++ us ≡ flat_suffix other ++ vs → EndsDeclarator us → EndsDeclarator vs → Same suffix other inner after us vs
  one_suffix (de.no_parameters types suffix plain) (de.no_parameters types' suffix' plain) low low' us vs q e f =
      record { trees_same = refl; types_same = refl; left_same = sym (ap (λ v. v ++ us) flat_suffix-Plain) ∙ q ∙ ap (λ v. v ++ vs) flat_suffix-Plain }
  one_suffix (de.no_parameters types suffix (arrays size sizes w)) (de.no_parameters types' suffix' (arrays size' sizes' w')) low low' us vs q e f =
      let s = sizes_same (subst (λ v. SizesRead types v (size ∷ sizes) us) q (sizes_before_end us w low e)) (sizes_before_end vs w' low' f) in
      record { trees_same = ap su.Arrays s.0; types_same = refl; left_same = s.1 }
  one_suffix (de.parameters types xs inner w) (de.parameters types' ys after w') low low' us vs q e f =
      lists_same (one_params false false w w' (omega (arith, suffix_height-Params xs false, low)) (omega (arith, suffix_height-Params ys false, low')) us vs (params_begin false false us vs w w' q))
  one_suffix (de.parameters types xs inner w) (de.more_parameters types' y ys after w') low low' us vs q e f =
      lists_same (one_params false true w w' (omega (arith, suffix_height-Params xs false, low)) (omega (arith, suffix_height-Params (y ∷ ys) true, low')) us vs (params_begin false true us vs w w' q))
  one_suffix (de.more_parameters types x xs inner w) (de.parameters types' ys after w') low low' us vs q e f =
      lists_same (one_params true false w w' (omega (arith, suffix_height-Params (x ∷ xs) true, low)) (omega (arith, suffix_height-Params ys false, low')) us vs (params_begin true false us vs w w' q))
  one_suffix (de.more_parameters types x xs inner w) (de.more_parameters types' y ys after w') low low' us vs q e f =
      lists_same (one_params true true w w' (omega (arith, suffix_height-Params (x ∷ xs) true, low)) (omega (arith, suffix_height-Params (y ∷ ys) true, low')) us vs (params_begin true true us vs w w' q))
  one_suffix (de.no_parameters types suffix plain) (de.no_parameters types' suffix' (arrays size' sizes' w')) low low' us vs q e f =
      absurd (omega (arith, suffix_told us (de.no_parameters types suffix plain) e, suffix_told vs (de.no_parameters types' suffix' (arrays size' sizes' w')) f, ap suffix_begun q))
  one_suffix (de.no_parameters types suffix (arrays size sizes w)) (de.no_parameters types' suffix' plain) low low' us vs q e f =
      absurd (omega (arith, suffix_told us (de.no_parameters types suffix (arrays size sizes w)) e, suffix_told vs (de.no_parameters types' suffix' plain) f, ap suffix_begun q))
  one_suffix (de.no_parameters types suffix w) (de.parameters types' ys after w') low low' us vs q e f =
      absurd (omega (arith, formed_kind w, suffix_told us (de.no_parameters types suffix w) e, suffix_told vs (de.parameters types' ys after w') f, ap suffix_begun q))
  one_suffix (de.no_parameters types suffix w) (de.more_parameters types' y ys after w') low low' us vs q e f =
      absurd (omega (arith, formed_kind w, suffix_told us (de.no_parameters types suffix w) e, suffix_told vs (de.more_parameters types' y ys after w') f, ap suffix_begun q))
  one_suffix (de.parameters types xs inner w) (de.no_parameters types' suffix' w') low low' us vs q e f =
      absurd (omega (arith, formed_kind w', suffix_told us (de.parameters types xs inner w) e, suffix_told vs (de.no_parameters types' suffix' w') f, ap suffix_begun q))
  one_suffix (de.more_parameters types x xs inner w) (de.no_parameters types' suffix' w') low low' us vs q e f =
      absurd (omega (arith, formed_kind w', suffix_told us (de.more_parameters types x xs inner w) e, suffix_told vs (de.no_parameters types' suffix' w') f, ap suffix_begun q))

  pub one_params : {types inner after : List (List ℕ)} {xs ys : List Param} (more more' : Bool) → Params types xs inner → Params types ys after → greatest (map param_height xs) ≤ 256 → greatest (map param_height ys) ≤ 256 →
      (us vs : List Sign) → params_behind xs more us ≡ params_behind ys more' vs → (xs ≡ ys) × (more ≡ more') × (inner ≡ after) × (us ≡ vs)
  one_params more more' (de.no_more_params types) (de.no_more_params types') low low' us vs q = let s = params_ended more more' us vs q in (refl, s.0, refl, s.1)
  one_params more more' (de.no_more_params types) (de.one_more_param types' own inner final seen y rest some w p v) low low' us vs q =
      absurd (params_over more us _ (some_specs_word _ some w) (q ∙ params_next y rest more' vs))
  one_params more more' (de.one_more_param types own inner final seen x rest some w p v) (de.no_more_params types') low low' us vs q =
      absurd (params_over more' vs _ (some_specs_word _ some w) (sym q ∙ params_next x rest more us))
  one_params more more' (de.one_more_param types own inner final seen x rest some w p v) (de.one_more_param types' own' inner' final' seen' y rest' some' w' p' v') low low' us vs q =
      let s = one_specs w w' (omega (arith, low)) (omega (arith, low')) (flat_declarator (out-Param x).declarator ++ params_behind rest more us) (flat_declarator (out-Param y).declarator ++ params_behind rest' more' vs)
      (tails (sym (params_next x rest more us) ∙ q ∙ params_next y rest' more' vs))
      (parameter_ends p (params_behind rest more us) (params_end rest more us)) (parameter_ends p' (params_behind rest' more' vs) (params_end rest' more' vs)) in
      let p'' = subst (λ z. IsParameter z seen (out-Param y).declarator inner') (sym s.types_same) (subst (λ z. IsParameter own' z (out-Param y).declarator inner') (sym s.seen_same) p') in
      let r = one_parameter p p'' (omega (arith, low)) (omega (arith, low')) (params_behind rest more us) (params_behind rest' more' vs) s.left_same (params_end rest more us) (params_end rest' more' vs) in
      let o = one_params more more' v (subst (λ z. Params z rest' final') (sym r.types_same) v') (omega (arith, low)) (omega (arith, low')) us vs r.left_same in
      (ap (λ z. z ∷ rest) (param_same x y s.specs_same r.trees_same) ∙ ap (λ z. y ∷ z) o.0, o.1, o.2, o.3)

  pub one_parameter : {types inner after : List (List ℕ)} {seen : Typed} {d d' : Declarator} → IsParameter types seen d inner → IsParameter types seen d' after → declarator_height d ≤ 256 → declarator_height d' ≤ 256 →
      (us vs : List Sign) → flat_declarator d ++ us ≡ flat_declarator d' ++ vs → EndsParameter us → EndsParameter vs → Same d d' inner after us vs
  one_parameter (de.named types seen name d inner w) (de.named types' seen' name' d' inner' w') low low' us vs q e f =
      let s = one_declarator w w' low low' us vs q (parameter_end us e) (parameter_end vs f) in
      record { trees_same = s.trees_same; types_same = ap (λ z. without z types) (some_same s.trees_same (declarator_named w) (declarator_named w')); left_same = s.left_same }
  one_parameter (de.named types seen name d inner w) (de.unnamed types' seen' stars suffix inner' are w') low low' us vs q e f = absurd (unnamed_again stars us vs w are w' (parameter_end vs f) q)
  one_parameter (de.unnamed types seen stars suffix inner are w) (de.named types' seen' name d inner' w') low low' us vs q e f = absurd (unnamed_again stars vs us w' are w (parameter_end us e) (sym q))
  one_parameter (de.unnamed types seen stars suffix inner are w) (de.unnamed types' seen' stars' suffix' inner' are' w') low low' us vs q e f =
      let s = stars_same (subst (λ z. StarsRead z stars (flat_suffix suffix ++ us)) q (unnamed_stars us are w (parameter_end us e))) (unnamed_stars vs are' w' (parameter_end vs f)) in
      let h = declarator_height-all stars None suffix in
      let h' = declarator_height-all stars' None suffix' in
      let r = one_suffix w w' (omega (arith, h, low)) (omega (arith, h', low')) us vs s.1 (parameter_end us e) (parameter_end vs f) in
      record { trees_same = declarator_same s.0 refl r.trees_same; types_same = refl; left_same = r.left_same }
