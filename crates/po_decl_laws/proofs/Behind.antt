-- What is printed behind the first of several members, declarators or parameters.
use Rattle.std.proofs.Common.{◌≡◌, ◌∙◌, ℕ, List, [], ◌∷◌, ◌++◌, map, flat_map, drop, get_or, Bool, true, false, cond, refl, sym, ap, subst, arith, append_assoc, append-nil}
use Rattle.std.specs.Prelude.{Option, Some, None}
use Rattle.po_base.specs.declared.token.TokenKind.TheVariants as k
use Rattle.po_tree.specs.declared.expression.Specifier.{Specifier}
use Rattle.po_tree.specs.declared.expression.Declarator.{Declarator}
use Rattle.po_tree.specs.declared.expression.Member.{Member, out-Member}
use Rattle.po_tree.specs.declared.expression.Param.{Param, out-Param}
use Rattle.po_tree.specs.declared.expression.Suffix.TheVariants as su
use Rattle.po_tree.specs.declared.declaration.Init.{Init}
use Rattle.po_tree.specs.Signs.{Sign, punct, comma, semicolon, opening, closing, brace_end, dots, equals}
use Rattle.po_tree.specs.Printing.{flat_specifier, flat_suffix, flat_declarator, flat_init, flat_part, flat_decl, with_commas, after_commas}
use Rattle.po_tree.specs.Expressions.{Typed}
use Rattle.po_tree.specs.Declarations.{Specs, AllDeclarators, no_more_declarators, one_more_declarator}
use Rattle.po_exp_parts.specs.Places.{BeginsWord}
use Rattle.po_decl_laws.specs.Parts.{flat_member, flat_param}
use Rattle.po_decl_laws.specs.Fronts.{EndsSpecifiers, EndsDeclarator, EndsParameter, at_comma, at_semicolon, before_another, behind_last}
use Rattle.po_decl_laws.proofs.Layers.{flat_suffix-Params}
use Rattle.po_decl_laws.proofs.Fronts.{declarator_ends}
use Rattle.po_decl_laws.proofs.Beginning.{specs_word}

-- what is behind the first sign
pub tails : {a b : Sign} {us vs : List Sign} → a ∷ us ≡ b ∷ vs → us ≡ vs
tails q = ap (drop 1) q

-- the first byte of the first sign
abbrev pub first_byte : List Sign → ℕ
first_byte signs = get_or (get_or signs 0 comma).text 0 0

pub no_word_first : {text : List ℕ} {signs us : List Sign} → BeginsWord signs → signs ≡ punct text ∷ us → ⊥
no_word_first b q = let kinds : k.Punct ≡ k.Word = subst BeginsWord q b in cc

pub some_specs_word : {outer free : Bool} {types final : List (List ℕ)} {seen sort : Typed} {specs : List Specifier} (us : List Sign) → (specs ≡ [] → ⊥) → Specs outer free types seen specs final sort →
    BeginsWord (flat_map flat_specifier specs ++ us)
some_specs_word {specs = []} us some w = absurd (some refl)
some_specs_word {specs = spec ∷ rest} us some w = subst BeginsWord (sym (append_assoc (flat_specifier spec) (flat_map flat_specifier rest) us)) (specs_word (flat_map flat_specifier rest ++ us) w)

-- declarators, each behind a comma, and the semicolon
abbrev pub declarators_behind : List Declarator → List Sign → List Sign
declarators_behind ds us = after_commas (map flat_declarator ds) ++ (semicolon ∷ us)

-- all of them, and the semicolon
abbrev pub declarators_front : List Declarator → List Sign → List Sign
declarators_front ds us = with_commas (map flat_declarator ds) ++ (semicolon ∷ us)

pub declarators_first : (d : Declarator) (ds : List Declarator) (us : List Sign) → declarators_front (d ∷ ds) us ≡ flat_declarator d ++ declarators_behind ds us
declarators_first d ds us = append_assoc (flat_declarator d) (after_commas (map flat_declarator ds)) (semicolon ∷ us)

pub declarators_next : (d : Declarator) (ds : List Declarator) (us : List Sign) → declarators_behind (d ∷ ds) us ≡ comma ∷ (flat_declarator d ++ declarators_behind ds us)
declarators_next d ds us = ap (λ v. comma ∷ v) (declarators_first d ds us)

pub declarators_end : (ds : List Declarator) (us : List Sign) → EndsDeclarator (declarators_behind ds us)
declarators_end [] us = at_semicolon
declarators_end (d ∷ ds) us = at_comma

-- some declarators end the specifiers before them
pub declarators_end_specs : {types : List (List ℕ)} {seen : Typed} {ds : List Declarator} (us : List Sign) → (ds ≡ [] → ⊥) → AllDeclarators types seen ds → EndsSpecifiers types seen (declarators_front ds us)
declarators_end_specs us some (no_more_declarators types seen) = absurd (some refl)
declarators_end_specs us some (one_more_declarator types seen name inner d rest w v) =
    subst (EndsSpecifiers types seen) (sym (declarators_first d rest us)) (declarator_ends w (declarators_behind rest us))

pub front_behind : (ds es : List Declarator) (us vs : List Sign) → (ds ≡ [] → ⊥) → (es ≡ [] → ⊥) → declarators_front ds us ≡ declarators_front es vs → declarators_behind ds us ≡ declarators_behind es vs
front_behind [] es us vs some some' q = absurd (some refl)
front_behind (d ∷ ds) [] us vs some some' q = absurd (some' refl)
front_behind (d ∷ ds) (e ∷ es) us vs some some' q = ap (λ v. comma ∷ v) q

-- members, and the closing brace
abbrev pub members_behind : List Member → List Sign → List Sign
members_behind ms us = flat_map flat_member ms ++ (brace_end ∷ us)

pub members_next : (m : Member) (ms : List Member) (us : List Sign) →
    members_behind (m ∷ ms) us ≡ flat_map flat_specifier (out-Member m).specs ++ declarators_front (out-Member m).declarators (members_behind ms us)
members_next m ms us =
    let specs : List Sign = flat_map flat_specifier (out-Member m).specs in
    let ds : List Sign = with_commas (map flat_declarator (out-Member m).declarators) in
    append_assoc (specs ++ (ds ++ semicolon ∷ [])) (flat_map flat_member ms) (brace_end ∷ us) ∙
    append_assoc specs (ds ++ semicolon ∷ []) (members_behind ms us) ∙
    ap (λ v. specs ++ v) (append_assoc ds (semicolon ∷ []) (members_behind ms us))

-- parameters, each behind a comma, `, ...` where it is written, and the closing parenthesis
abbrev pub params_behind : List Param → Bool → List Sign → List Sign
params_behind xs more us = after_commas (map flat_param xs) ++ (cond more (comma ∷ dots ∷ []) [] ++ (closing ∷ us))

abbrev pub params_front : List Param → Bool → List Sign → List Sign
params_front xs more us = with_commas (map flat_param xs) ++ (cond more (comma ∷ dots ∷ []) [] ++ (closing ∷ us))

pub params_first : (x : Param) (xs : List Param) (more : Bool) (us : List Sign) →
    params_front (x ∷ xs) more us ≡ flat_map flat_specifier (out-Param x).specs ++ (flat_declarator (out-Param x).declarator ++ params_behind xs more us)
params_first x xs more us =
    append_assoc (flat_param x) (after_commas (map flat_param xs)) (cond more (comma ∷ dots ∷ []) [] ++ (closing ∷ us)) ∙
    append_assoc (flat_map flat_specifier (out-Param x).specs) (flat_declarator (out-Param x).declarator) (params_behind xs more us)

pub params_next : (x : Param) (xs : List Param) (more : Bool) (us : List Sign) →
    params_behind (x ∷ xs) more us ≡ comma ∷ (flat_map flat_specifier (out-Param x).specs ++ (flat_declarator (out-Param x).declarator ++ params_behind xs more us))
params_next x xs more us = ap (λ v. comma ∷ v) (params_first x xs more us)

pub params_end : (xs : List Param) (more : Bool) (us : List Sign) → EndsParameter (params_behind xs more us)
params_end [] true us = before_another
params_end [] false us = behind_last
params_end (x ∷ xs) more us = before_another

-- a list of parameters with what stands behind it
pub flat_params-front : (xs : List Param) (more : Bool) (us : List Sign) → flat_suffix (su.Params xs more) ++ us ≡ opening ∷ params_front xs more us
flat_params-front xs more us =
    let inside : List Sign = with_commas (map flat_param xs) in
    let last : List Sign = cond more (comma ∷ dots ∷ []) [] in
    ap (λ v. v ++ us) (flat_suffix-Params xs more) ∙
    ap (λ v. opening ∷ v) (append_assoc (inside ++ last) (closing ∷ []) us ∙ append_assoc inside last (closing ∷ us))

-- where parameters end
pub params_ended : (more more' : Bool) (us vs : List Sign) → params_behind [] more us ≡ params_behind [] more' vs → (more ≡ more') × (us ≡ vs)
params_ended true true us vs q = (refl, tails (tails (tails q)))
params_ended false false us vs q = (refl, tails q)
params_ended true false us vs q = absurd (omega (arith, ap first_byte q))
params_ended false true us vs q = absurd (omega (arith, ap first_byte q))

-- no parameter stands there
pub params_over : (more : Bool) (us vs : List Sign) → BeginsWord vs → params_behind [] more us ≡ comma ∷ vs → ⊥
params_over true us vs b q = no_word_first b (sym (tails q))
params_over false us vs b q = omega (arith, ap first_byte q)

pub params_none : (more : Bool) (us : List Sign) {vs : List Sign} → BeginsWord vs → params_front [] more us ≡ vs → ⊥
params_none true us b q = no_word_first b (sym q)
params_none false us b q = no_word_first b (sym q)

-- declarators with their initialisers, each behind a comma, and the semicolon
abbrev pub parts_behind : List (Declarator × Option Init) → List Sign → List Sign
parts_behind ps us = after_commas (map flat_part ps) ++ (semicolon ∷ us)

abbrev pub parts_front : List (Declarator × Option Init) → List Sign → List Sign
parts_front ps us = with_commas (map flat_part ps) ++ (semicolon ∷ us)

pub part_first : (d : Declarator) (ps : List (Declarator × Option Init)) (us : List Sign) → parts_front ((d, None) ∷ ps) us ≡ flat_declarator d ++ parts_behind ps us
part_first d ps us = append_assoc (flat_declarator d ++ []) (after_commas (map flat_part ps)) (semicolon ∷ us) ∙ ap (λ v. v ++ parts_behind ps us) (append-nil (flat_declarator d))

pub initialised_first : (d : Declarator) (x : Init) (ps : List (Declarator × Option Init)) (us : List Sign) →
    parts_front ((d, Some x) ∷ ps) us ≡ flat_declarator d ++ (equals ∷ (flat_init x ++ parts_behind ps us))
initialised_first d x ps us =
    append_assoc (flat_declarator d ++ (equals ∷ flat_init x)) (after_commas (map flat_part ps)) (semicolon ∷ us) ∙ append_assoc (flat_declarator d) (equals ∷ flat_init x) (parts_behind ps us)

pub parts_end : (ps : List (Declarator × Option Init)) (us : List Sign) → EndsDeclarator (parts_behind ps us)
parts_end [] us = at_semicolon
parts_end (p ∷ ps) us = at_comma

-- a declaration with what stands behind it
pub flat_decl-before : (specs : List Specifier) (ps : List (Declarator × Option Init)) (us : List Sign) →
    flat_decl (record { specs = specs; parts = ps }) ++ us ≡ flat_map flat_specifier specs ++ parts_front ps us
flat_decl-before specs ps us =
    append_assoc (flat_map flat_specifier specs) (with_commas (map flat_part ps) ++ semicolon ∷ []) us ∙
    ap (λ v. flat_map flat_specifier specs ++ v) (append_assoc (with_commas (map flat_part ps)) (semicolon ∷ []) us)
