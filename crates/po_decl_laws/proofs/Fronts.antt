-- What stands behind the parts of a declaration begins none of them.
use Rattle.std.proofs.Common.{◌≡◌, ◌∙◌, ℕ, ◌≤◌, List, [], ◌∷◌, ◌++◌, map, flat_map, Bool, true, false, cond, get_or, refl, sym, ap, subst, arith, append_assoc, codes}
use Rattle.std.specs.Prelude.{Contains, Option, Some, None}
use Rattle.po_base.specs.declared.token.TokenKind.TheVariants as k
use Rattle.po_tree.specs.declared.expression.Exp.{Exp}
use Rattle.po_tree.specs.declared.expression.Specifier.{Specifier}
use Rattle.po_tree.specs.declared.expression.Param.{Param}
use Rattle.po_tree.specs.declared.expression.Suffix.{Suffix}
use Rattle.po_tree.specs.declared.expression.Suffix.TheVariants as su
use Rattle.po_tree.specs.declared.expression.Declarator.{Declarator}
use Rattle.po_tree.specs.Signs.{Sign, word, punct, star, bracket, bracket_end, opening, closing, comma, dots, brace}
use Rattle.po_tree.specs.Words.{IsName, keywords, storage_classes, type_words, qualifiers}
use Rattle.po_tree.specs.Heights.{suffix_height}
use Rattle.po_tree.specs.Printing.{flat, flat_suffix, flat_declarator, prints_star, optional, with_commas}
use Rattle.po_tree.specs.Layers.{flat_suffix-Plain, flat_suffix-Arrays, suffix_height-Arrays}
use Rattle.po_tree.specs.Expressions.{Typed, untyped, by_words, by_name, SizesFormed, plain, arrays}
use Rattle.po_tree.specs.Declarations.{AreStars, IsDeclared, IsDeclarator, declarator, IsSuffix, no_parameters, parameters, more_parameters, IsParameter, named, unnamed}
use Rattle.po_exp_parts.specs.Places.{BeginsName, Begins, BeginsWord, BeginsQualifier}
use Rattle.po_exp_parts.proofs.Keywords.{within, found_among, qualifier_name}
use Rattle.po_decl_parts.specs.Printed.{NoQualifierBehind, flat_sizes}
use Rattle.po_decl_parts.specs.Sizes.{SizesRead}
use Rattle.po_decl_parts.specs.Specifiers.{SpecifierRead, NoSpecifier, Opens, IsSpecifierWord, by_storage_class, by_inline, by_qualifier, by_type}
use Rattle.po_exp_parts.specs.Stars.{StarsRead}
use Rattle.po_decl_parts.proofs.FirstWords.{no_name, no_typed, stands_reads}
use Rattle.po_decl_parts.proofs.Printed.{stars_complete, sizes_complete}
use Rattle.po_exp_parts.proofs.SameSigns.{same_word}
use Rattle.po_exp_parts.proofs.RangePlaces.{name_word}
use Rattle.po_decl_laws.specs.Parts.{flat_param}
use Rattle.po_decl_laws.specs.Fronts.{EndsSpecifiers, at_sign, at_word, IsDeclaratorEnd, at_comma, at_semicolon, at_closing, at_equals, at_colon, at_brace, EndsDeclarator, before_another, behind_last, EndsParameter}
use Rattle.po_decl_laws.proofs.Layers.{flat_suffix-Params, flat_declarator-all}

-- the first byte of a text
abbrev pub byte_of : List ℕ → ℕ
byte_of text = get_or text 0 0

-- a punctuator is no word
pub punct_word : {text other : List ℕ} {ts us : List Sign} → punct text ∷ ts ≡ word other ∷ us → ⊥
punct_word {text = text} {other = other} q = let heads : punct text ≡ word other = cc in let kinds : k.Punct ≡ k.Word = ap (λ v. v.kind) heads in cc

-- specifiers

word_no_name : {text : List ℕ} → IsName text → IsSpecifierWord text → ⊥
word_no_name {text = text} is (by_storage_class h) = is (within storage_classes keywords text refl h)
word_no_name is (by_inline q) = is (subst (Contains keywords) (sym q) (found_among keywords (codes "inline") refl))
word_no_name {text = text} is (by_qualifier h) = is (within qualifiers keywords text refl h)
word_no_name {text = text} is (by_type h) = is (within type_words keywords text refl h)

enum_no_name : {text : List ℕ} → IsName text → text ≡ codes "enum" → ⊥
enum_no_name is q = is (subst (Contains keywords) (sym q) (found_among keywords (codes "enum") refl))

pub struct_no_name : {text : List ℕ} → IsName text → text ≡ codes "struct" → ⊥
struct_no_name is q = is (subst (Contains keywords) (sym q) (found_among keywords (codes "struct") refl))

-- a word that may be declared is no specifier
declared_reads : {outer free free' : Bool} {name : List ℕ} {ts us : List Sign} {types types' : List (List ℕ)} {seen' : Typed} {spec : Specifier} (seen : Typed) → IsDeclared types seen name →
    SpecifierRead outer name ts free types seen spec free' types' seen' us → ⊥
declared_reads untyped is w = no_name (word_no_name is.0) (enum_no_name is.0) (struct_no_name is.0) (λ h. is.1 h.1 refl) w
declared_reads by_words is w = no_typed (word_no_name is.0) (λ q. cc) w
declared_reads by_name is w = no_typed (word_no_name is.0) (λ q. cc) w

-- what ends specifiers begins none
pub ends_no_specifier : (outer free : Bool) {types : List (List ℕ)} {seen : Typed} {signs : List Sign} → EndsSpecifiers types seen signs → NoSpecifier outer free types seen signs
ends_no_specifier outer free (at_sign text ts none) = λ spec free' types' seen' us w. punct_word w.first
ends_no_specifier outer free {seen = seen} (at_word name ts is) = λ spec free' types' seen' us w. declared_reads seen is (stands_reads refl w)

-- and no body of a struct
pub ends_no_opens : {types : List (List ℕ)} {seen : Typed} {signs us : List Sign} {tag : Option (List ℕ)} → EndsSpecifiers types seen signs → Opens signs tag us → ⊥
ends_no_opens (at_sign text ts none) w = punct_word w.first
ends_no_opens (at_word name ts is) w = let p = same_word w.first in struct_no_name is.0 p.0

pub ends_no_brace : {types : List (List ℕ)} {seen : Typed} {signs : List Sign} → EndsSpecifiers types seen signs → Begins brace signs → ⊥
ends_no_brace (at_sign text ts none) q = none (ap (λ v. v.text) q)
ends_no_brace (at_word name ts is) q = let kinds : k.Word ≡ k.Punct = ap (λ v. v.kind) q in cc

-- suffixes

-- a punctuator stands at the front, and it is no star
pub record NoStarFirst (signs : List Sign) : Type 0 where
  pub text : List ℕ
  pub behind : List Sign
  pub first : signs ≡ punct text ∷ behind
  pub other : text ≡ codes "*" → ⊥

end_first : (sign : Sign) (ts : List Sign) → IsDeclaratorEnd sign → NoStarFirst (sign ∷ ts)
end_first sign ts at_comma = record { text = codes ","; behind = ts; first = refl; other = λ q. omega (arith, ap byte_of q) }
end_first sign ts at_semicolon = record { text = codes ";"; behind = ts; first = refl; other = λ q. omega (arith, ap byte_of q) }
end_first sign ts at_closing = record { text = codes ")"; behind = ts; first = refl; other = λ q. omega (arith, ap byte_of q) }
end_first sign ts at_equals = record { text = codes "="; behind = ts; first = refl; other = λ q. omega (arith, ap byte_of q) }
end_first sign ts at_colon = record { text = codes ":"; behind = ts; first = refl; other = λ q. omega (arith, ap byte_of q) }
end_first sign ts at_brace = record { text = codes "{"; behind = ts; first = refl; other = λ q. omega (arith, ap byte_of q) }

ended_first : (us : List Sign) → EndsDeclarator us → NoStarFirst us
ended_first [] e = absurd e
ended_first (sign ∷ ts) e = end_first sign ts e

-- what may stand behind a declarator begins no size
pub end_no_bracket : (us : List Sign) → EndsDeclarator us → Begins bracket us → ⊥
end_no_bracket [] e q = e
end_no_bracket (sign ∷ ts) at_comma q = omega (arith, ap (λ v. byte_of v.text) q)
end_no_bracket (sign ∷ ts) at_semicolon q = omega (arith, ap (λ v. byte_of v.text) q)
end_no_bracket (sign ∷ ts) at_closing q = omega (arith, ap (λ v. byte_of v.text) q)
end_no_bracket (sign ∷ ts) at_equals q = omega (arith, ap (λ v. byte_of v.text) q)
end_no_bracket (sign ∷ ts) at_colon q = omega (arith, ap (λ v. byte_of v.text) q)
end_no_bracket (sign ∷ ts) at_brace q = omega (arith, ap (λ v. byte_of v.text) q)

-- and no list of parameters
pub end_no_opening : (us : List Sign) → EndsDeclarator us → Begins opening us → ⊥
end_no_opening [] e q = e
end_no_opening (sign ∷ ts) at_comma q = omega (arith, ap (λ v. byte_of v.text) q)
end_no_opening (sign ∷ ts) at_semicolon q = omega (arith, ap (λ v. byte_of v.text) q)
end_no_opening (sign ∷ ts) at_closing q = omega (arith, ap (λ v. byte_of v.text) q)
end_no_opening (sign ∷ ts) at_equals q = omega (arith, ap (λ v. byte_of v.text) q)
end_no_opening (sign ∷ ts) at_colon q = omega (arith, ap (λ v. byte_of v.text) q)
end_no_opening (sign ∷ ts) at_brace q = omega (arith, ap (λ v. byte_of v.text) q)

-- what sizes of arrays print behind the first bracket
abbrev pub sizes_inside : Option Exp → List (Option Exp) → List Sign → List Sign
sizes_inside size sizes us = ((optional flat size ++ bracket_end ∷ []) ++ flat_sizes sizes) ++ us

pub flat_arrays-before : (size : Option Exp) (sizes : List (Option Exp)) (us : List Sign) → flat_suffix (su.Arrays (size ∷ sizes)) ++ us ≡ bracket ∷ sizes_inside size sizes us
flat_arrays-before size sizes us = ap (λ v. v ++ us) (flat_suffix-Arrays (size ∷ sizes))

-- what a list of parameters prints behind its opening parenthesis
abbrev pub params_inside : List Param → Bool → List Sign → List Sign
params_inside xs more us = ((with_commas (map flat_param xs) ++ cond more (comma ∷ dots ∷ []) []) ++ closing ∷ []) ++ us

pub flat_params-before : (xs : List Param) (more : Bool) (us : List Sign) → flat_suffix (su.Params xs more) ++ us ≡ opening ∷ params_inside xs more us
flat_params-before xs more us = ap (λ v. v ++ us) (flat_suffix-Params xs more)

pub suffix_first : {types inner : List (List ℕ)} {suffix : Suffix} (us : List Sign) → IsSuffix types suffix inner → EndsDeclarator us → NoStarFirst (flat_suffix suffix ++ us)
suffix_first us (no_parameters types suffix plain) e = subst NoStarFirst (sym (ap (λ v. v ++ us) flat_suffix-Plain)) (ended_first us e)
suffix_first us (no_parameters types suffix (arrays size sizes w)) e = record { text = codes "["; behind = sizes_inside size sizes us; first = flat_arrays-before size sizes us; other = λ q. omega (arith, ap byte_of q) }
suffix_first us (parameters types xs inner w) e = record { text = codes "("; behind = params_inside xs false us; first = flat_params-before xs false us; other = λ q. omega (arith, ap byte_of q) }
suffix_first us (more_parameters types x xs inner w) e = record { text = codes "("; behind = params_inside (x ∷ xs) true us; first = flat_params-before (x ∷ xs) true us; other = λ q. omega (arith, ap byte_of q) }

suffix_ends : {types inner others : List (List ℕ)} {seen : Typed} {suffix : Suffix} (us : List Sign) → IsSuffix types suffix inner → EndsSpecifiers others seen us →
    EndsSpecifiers others seen (flat_suffix suffix ++ us)
suffix_ends {others = others} {seen = seen} us (no_parameters types suffix plain) e = subst (EndsSpecifiers others seen) (sym (ap (λ v. v ++ us) flat_suffix-Plain)) e
suffix_ends {others = others} {seen = seen} us (no_parameters types suffix (arrays size sizes w)) e =
    subst (EndsSpecifiers others seen) (sym (flat_arrays-before size sizes us)) (at_sign (codes "[") (sizes_inside size sizes us) (λ q. omega (arith, ap byte_of q)))
suffix_ends {others = others} {seen = seen} us (parameters types xs inner w) e =
    subst (EndsSpecifiers others seen) (sym (flat_params-before xs false us)) (at_sign (codes "(") (params_inside xs false us) (λ q. omega (arith, ap byte_of q)))
suffix_ends {others = others} {seen = seen} us (more_parameters types x xs inner w) e =
    subst (EndsSpecifiers others seen) (sym (flat_params-before (x ∷ xs) true us)) (at_sign (codes "(") (params_inside (x ∷ xs) true us) (λ q. omega (arith, ap byte_of q)))

-- sizes are all sizes that stand there
pub sizes_before_end : {types : List (List ℕ)} {sizes : List (Option Exp)} (us : List Sign) → SizesFormed types sizes → suffix_height (su.Arrays sizes) ≤ 256 → EndsDeclarator us →
    SizesRead types (flat_suffix (su.Arrays sizes) ++ us) sizes us
sizes_before_end {types = types} {sizes = sizes} us w low e =
    subst (λ v. SizesRead types v sizes us) (sym (ap (λ v. v ++ us) (flat_suffix-Arrays sizes)))
    (sizes_complete us w (let h = suffix_height-Arrays sizes in omega (arith, h, low)) (end_no_bracket us e))

-- declarators

-- a declarator prints its stars, its word where it has one, and its suffix
pub flat_declarator-before : (d : Declarator) (us : List Sign) →
    flat_declarator d ++ us ≡ flat_map prints_star d.stars ++ (optional (λ text. word text ∷ []) d.name ++ (flat_suffix d.suffix ++ us))
flat_declarator-before d us =
    let name : List Sign = optional (λ text. word text ∷ []) d.name in
    ap (λ v. v ++ us) (flat_declarator-all d.stars d.name d.suffix) ∙ append_assoc (flat_map prints_star d.stars) (name ++ flat_suffix d.suffix) us ∙
    ap (λ v. flat_map prints_star d.stars ++ v) (append_assoc name (flat_suffix d.suffix) us)

no_qualifier_follows : (stars : List (List (List ℕ))) (rest : List Sign) → (BeginsQualifier rest → ⊥) → NoQualifierBehind stars rest
no_qualifier_follows [] rest none = tt
no_qualifier_follows (words ∷ stars) rest none = none

stars_before : (stars : List (List (List ℕ))) (rest : List Sign) → AreStars stars → (Begins star rest → ⊥) → (BeginsQualifier rest → ⊥) → StarsRead (flat_map prints_star stars ++ rest) stars rest
stars_before stars rest are none wrong = stars_complete stars rest are none (no_qualifier_follows stars rest wrong)

stars_before_word : (stars : List (List (List ℕ))) (name : List ℕ) (ts : List Sign) → AreStars stars → IsName name → StarsRead (flat_map prints_star stars ++ (word name ∷ ts)) stars (word name ∷ ts)
stars_before_word stars name ts are is =
    stars_before stars (word name ∷ ts) are (λ q. let kinds : k.Word ≡ k.Punct = ap (λ v. v.kind) q in cc) (λ b. qualifier_name name b.1 is)

stars_before_sign : (stars : List (List (List ℕ))) (rest : List Sign) → AreStars stars → NoStarFirst rest → StarsRead (flat_map prints_star stars ++ rest) stars rest
stars_before_sign stars rest are first =
    stars_before stars rest are
    (λ q. first.other (ap (λ v. v.text) (subst (Begins star) first.first q)))
    (λ b. let kinds : k.Punct ≡ k.Word = (subst BeginsQualifier first.first b).0 in cc)

-- the stars of a declarator are all stars that stand there
pub declarator_stars : {types inner : List (List ℕ)} {seen : Typed} {name : List ℕ} {d : Declarator} (us : List Sign) → IsDeclarator types seen name d inner →
    StarsRead (flat_declarator d ++ us) d.stars (word name ∷ (flat_suffix d.suffix ++ us))
declarator_stars us (declarator types seen name stars suffix inner is are w) =
    subst (λ v. StarsRead v stars (word name ∷ (flat_suffix suffix ++ us))) (sym (flat_declarator-before (record { stars = stars; name = Some name; suffix = suffix }) us))
    (stars_before_word stars name (flat_suffix suffix ++ us) are is.0)

pub unnamed_stars : {types inner : List (List ℕ)} {stars : List (List (List ℕ))} {suffix : Suffix} (us : List Sign) → AreStars stars → IsSuffix types suffix inner → EndsDeclarator us →
    StarsRead (flat_declarator (record { stars = stars; name = None; suffix = suffix }) ++ us) stars (flat_suffix suffix ++ us)
unnamed_stars {stars = stars} {suffix = suffix} us are w e =
    subst (λ v. StarsRead v stars (flat_suffix suffix ++ us)) (sym (flat_declarator-before (record { stars = stars; name = None; suffix = suffix }) us))
    (stars_before_sign stars (flat_suffix suffix ++ us) are (suffix_first us w e))

-- a word that stands behind stars may be missing
abbrev pub MayBeNamed : Option (List ℕ) → Type 0
MayBeNamed None = Unit {0}
MayBeNamed (Some name) = IsName name

-- stars before a word, or a suffix, are all stars that stand there
pub stars_stand : {types inner : List (List ℕ)} {suffix : Suffix} (stars : List (List (List ℕ))) (name : Option (List ℕ)) (us : List Sign) → AreStars stars → MayBeNamed name →
    IsSuffix types suffix inner → EndsDeclarator us →
    StarsRead (flat_map prints_star stars ++ (optional (λ text. word text ∷ []) name ++ (flat_suffix suffix ++ us))) stars (optional (λ text. word text ∷ []) name ++ (flat_suffix suffix ++ us))
stars_stand {suffix = suffix} stars None us are is w e = stars_before_sign stars (flat_suffix suffix ++ us) are (suffix_first us w e)
stars_stand {suffix = suffix} stars (Some name) us are is w e = stars_before_word stars name (flat_suffix suffix ++ us) are is

-- a suffix, or what stands behind a declarator, begins no word
pub suffix_no_word : {types inner : List (List ℕ)} {suffix : Suffix} (us : List Sign) → IsSuffix types suffix inner → EndsDeclarator us → BeginsWord (flat_suffix suffix ++ us) → ⊥
suffix_no_word us w e b = let first = suffix_first us w e in let kinds : k.Punct ≡ k.Word = subst BeginsWord first.first b in cc

pub suffix_no_name : {types inner : List (List ℕ)} {suffix : Suffix} {name : List ℕ} (us : List Sign) → IsSuffix types suffix inner → EndsDeclarator us → BeginsName name (flat_suffix suffix ++ us) → ⊥
suffix_no_name {name = name} us w e b = suffix_no_word us w e (name_word name _ b)

stars_end : {types : List (List ℕ)} {seen : Typed} (stars : List (List (List ℕ))) (rest : List Sign) → EndsSpecifiers types seen rest → EndsSpecifiers types seen (flat_map prints_star stars ++ rest)
stars_end [] rest e = e
stars_end (words ∷ stars) rest e = at_sign (codes "*") _ (λ q. omega (arith, ap byte_of q))

-- a declarator ends the specifiers before it
pub declarator_ends : {types inner : List (List ℕ)} {seen : Typed} {name : List ℕ} {d : Declarator} → IsDeclarator types seen name d inner → (us : List Sign) →
    EndsSpecifiers types seen (flat_declarator d ++ us)
declarator_ends (declarator types seen name stars suffix inner is are w) us =
    subst (EndsSpecifiers types seen) (sym (flat_declarator-before (record { stars = stars; name = Some name; suffix = suffix }) us))
    (stars_end stars (word name ∷ (flat_suffix suffix ++ us)) (at_word name (flat_suffix suffix ++ us) is))

param_end : {types : List (List ℕ)} {seen : Typed} (us : List Sign) → EndsParameter us → EndsSpecifiers types seen us
param_end [] e = absurd e
param_end (sign ∷ ts) before_another = at_sign (codes ",") ts (λ q. omega (arith, ap byte_of q))
param_end (sign ∷ ts) behind_last = at_sign (codes ")") ts (λ q. omega (arith, ap byte_of q))

-- what may stand behind a parameter may stand behind a declarator
pub parameter_end : (us : List Sign) → EndsParameter us → EndsDeclarator us
parameter_end [] e = e
parameter_end (sign ∷ ts) before_another = at_comma
parameter_end (sign ∷ ts) behind_last = at_closing

-- and so does the declarator of a parameter
pub parameter_ends : {types inner : List (List ℕ)} {seen : Typed} {d : Declarator} → IsParameter types seen d inner → (us : List Sign) → EndsParameter us →
    EndsSpecifiers types seen (flat_declarator d ++ us)
parameter_ends (named types seen name d inner w) us e = declarator_ends w us
parameter_ends (unnamed types seen stars suffix inner are w) us e =
    subst (EndsSpecifiers types seen) (sym (flat_declarator-before (record { stars = stars; name = None; suffix = suffix }) us))
    (stars_end stars (flat_suffix suffix ++ us) (suffix_ends us w (param_end us e)))
