-- What the parts of declarations print and how high they are, by their own parts.
use Rattle.std.proofs.Common.{◌≡◌, ◌∙◌, ℕ, List, [], ◌∷◌, ◌++◌, map, flat_map, Bool, cond, refl, sym, ap, codes}
use Rattle.std.specs.Prelude.{Option, Some}
use Rattle.po_tree.specs.declared.expression.Exp.TheOpen.{Specifier-F, Suffix-F}
use Rattle.po_tree.specs.declared.expression.Specifier.{fold-roll-Specifier}
use Rattle.po_tree.specs.declared.expression.Specifier.TheVariants as sp
use Rattle.po_tree.specs.declared.expression.Suffix.{Suffix, fold-roll-Suffix}
use Rattle.po_tree.specs.declared.expression.Suffix.TheVariants as su
use Rattle.po_tree.specs.declared.expression.Declarator.{fold-roll-Declarator}
use Rattle.po_tree.specs.declared.expression.Member.{Member, out-Member, fold-Member, fold_out-Member, roll-Member, roll-out-Member}
use Rattle.po_tree.specs.declared.expression.Param.{Param, out-Param, fold-Param, fold_out-Param, roll-Param, roll-out-Param}
use Rattle.po_tree.specs.Signs.{Sign, word, comma, dots, semicolon}
use Rattle.po_tree.specs.Printing.{flat_specifier, flat_suffix, flat_declarator, prints_exp, prints_specifier, prints_suffix, prints_declarator, prints_member, prints_param, prints_type, prints_star, parenthesised, in_braces, in_a_row, with_commas, optional}
use Rattle.po_tree.specs.Heights.{specifier_height, suffix_height, declarator_height, rises_exp, rises_specifier, rises_suffix, rises_declarator, rises_member, rises_param, rises_type, greatest}
use Rattle.po_decl_laws.specs.Parts.{flat_member, flat_param, member_height, param_height}

in_a_row-map : {A : Type 0} (f : A → List Sign) (xs : List A) → in_a_row (map f xs) ≡ flat_map f xs
in_a_row-map f [] = refl
in_a_row-map f (x ∷ xs) = ap (λ v. f x ++ v) (in_a_row-map f xs)

-- members

abbrev print_member : Member → List Sign
print_member = fold-Member _ _ _ _ _ _ _ prints_exp prints_specifier prints_suffix prints_declarator prints_member prints_param prints_type

member_printed : (m : Member) → print_member m ≡ flat_member m
unfolding flat_specifier flat_declarator
member_printed m =
    fold_out-Member _ _ _ _ _ _ _ prints_exp prints_specifier prints_suffix prints_declarator prints_member prints_param prints_type m ∙
    ap (λ v. v ++ (with_commas (map flat_declarator (out-Member m).declarators) ++ semicolon ∷ [])) (in_a_row-map flat_specifier (out-Member m).specs)

members_printed : (ms : List Member) → in_a_row (map print_member ms) ≡ flat_map flat_member ms
members_printed [] = refl
members_printed (m ∷ ms) = rw (member_printed m, members_printed ms) refl

pub flat_specifier-members : (tag : Option (List ℕ)) (ms : List Member) →
    flat_specifier (sp.Struct tag (Some ms)) ≡ word (codes "struct") ∷ (optional (λ name. word name ∷ []) tag ++ in_braces (flat_map flat_member ms))
unfolding flat_specifier
flat_specifier-members tag ms =
    ap flat_specifier (sym (sp.rolls-Struct tag (Some ms))) ∙
    fold-roll-Specifier _ _ _ _ _ _ _ prints_exp prints_specifier prints_suffix prints_declarator prints_member prints_param prints_type (Specifier-F.Struct tag (Some ms)) ∙
    ap (λ v. word (codes "struct") ∷ (optional (λ name. word name ∷ []) tag ++ in_braces v)) (members_printed ms)

abbrev high_member : Member → ℕ
high_member = fold-Member _ _ _ _ _ _ _ rises_exp rises_specifier rises_suffix rises_declarator rises_member rises_param rises_type

member_high : (m : Member) → high_member m ≡ member_height m
unfolding specifier_height declarator_height
member_high m = fold_out-Member _ _ _ _ _ _ _ rises_exp rises_specifier rises_suffix rises_declarator rises_member rises_param rises_type m

members_high : (ms : List Member) → greatest (map high_member ms) ≡ greatest (map member_height ms)
members_high [] = refl
members_high (m ∷ ms) = rw (member_high m, members_high ms) refl

pub specifier_height-members : (tag : Option (List ℕ)) (ms : List Member) → specifier_height (sp.Struct tag (Some ms)) ≡ greatest (map member_height ms)
unfolding specifier_height
specifier_height-members tag ms =
    ap specifier_height (sym (sp.rolls-Struct tag (Some ms))) ∙
    fold-roll-Specifier _ _ _ _ _ _ _ rises_exp rises_specifier rises_suffix rises_declarator rises_member rises_param rises_type (Specifier-F.Struct tag (Some ms)) ∙
    members_high ms

-- parameters

abbrev print_param : Param → List Sign
print_param = fold-Param _ _ _ _ _ _ _ prints_exp prints_specifier prints_suffix prints_declarator prints_member prints_param prints_type

param_printed : (x : Param) → print_param x ≡ flat_param x
unfolding flat_specifier flat_declarator
param_printed x =
    fold_out-Param _ _ _ _ _ _ _ prints_exp prints_specifier prints_suffix prints_declarator prints_member prints_param prints_type x ∙
    ap (λ v. v ++ flat_declarator (out-Param x).declarator) (in_a_row-map flat_specifier (out-Param x).specs)

params_printed : (xs : List Param) → map print_param xs ≡ map flat_param xs
params_printed [] = refl
params_printed (x ∷ xs) = rw (param_printed x, params_printed xs) refl

pub flat_suffix-Params : (xs : List Param) (more : Bool) →
    flat_suffix (su.Params xs more) ≡ parenthesised (with_commas (map flat_param xs) ++ cond more (comma ∷ dots ∷ []) [])
unfolding flat_suffix
flat_suffix-Params xs more =
    ap flat_suffix (sym (su.rolls-Params xs more)) ∙
    fold-roll-Suffix _ _ _ _ _ _ _ prints_exp prints_specifier prints_suffix prints_declarator prints_member prints_param prints_type (Suffix-F.Params xs more) ∙
    ap (λ v. parenthesised (with_commas v ++ cond more (comma ∷ dots ∷ []) [])) (params_printed xs)

abbrev high_param : Param → ℕ
high_param = fold-Param _ _ _ _ _ _ _ rises_exp rises_specifier rises_suffix rises_declarator rises_member rises_param rises_type

param_high : (x : Param) → high_param x ≡ param_height x
unfolding specifier_height declarator_height
param_high x = fold_out-Param _ _ _ _ _ _ _ rises_exp rises_specifier rises_suffix rises_declarator rises_member rises_param rises_type x

params_high : (xs : List Param) → greatest (map high_param xs) ≡ greatest (map param_height xs)
params_high [] = refl
params_high (x ∷ xs) = rw (param_high x, params_high xs) refl

pub suffix_height-Params : (xs : List Param) (more : Bool) → suffix_height (su.Params xs more) ≡ greatest (map param_height xs)
unfolding suffix_height
suffix_height-Params xs more =
    ap suffix_height (sym (su.rolls-Params xs more)) ∙
    fold-roll-Suffix _ _ _ _ _ _ _ rises_exp rises_specifier rises_suffix rises_declarator rises_member rises_param rises_type (Suffix-F.Params xs more) ∙
    params_high xs

-- declarators

pub flat_declarator-all : (stars : List (List (List ℕ))) (name : Option (List ℕ)) (suffix : Suffix) →
    flat_declarator (record { stars = stars; name = name; suffix = suffix }) ≡ flat_map prints_star stars ++ (optional (λ text. word text ∷ []) name ++ flat_suffix suffix)
unfolding flat_declarator flat_suffix
flat_declarator-all stars name suffix =
    fold-roll-Declarator _ _ _ _ _ _ _ prints_exp prints_specifier prints_suffix prints_declarator prints_member prints_param prints_type (record { stars = stars; name = name; suffix = suffix })

pub declarator_height-all : (stars : List (List (List ℕ))) (name : Option (List ℕ)) (suffix : Suffix) →
    declarator_height (record { stars = stars; name = name; suffix = suffix }) ≡ suffix_height suffix
unfolding declarator_height suffix_height
declarator_height-all stars name suffix =
    fold-roll-Declarator _ _ _ _ _ _ _ rises_exp rises_specifier rises_suffix rises_declarator rises_member rises_param rises_type (record { stars = stars; name = name; suffix = suffix })

-- members and parameters are their parts

pub member_same : (m n : Member) → (out-Member m).specs ≡ (out-Member n).specs → (out-Member m).declarators ≡ (out-Member n).declarators → m ≡ n
member_same m n q r =
    sym (roll-out-Member m) ∙ ap (λ z. roll-Member (record { specs = z; declarators = (out-Member m).declarators })) q ∙
    ap (λ z. roll-Member (record { specs = (out-Member n).specs; declarators = z })) r ∙ roll-out-Member n

pub param_same : (x y : Param) → (out-Param x).specs ≡ (out-Param y).specs → (out-Param x).declarator ≡ (out-Param y).declarator → x ≡ y
param_same x y q r =
    sym (roll-out-Param x) ∙ ap (λ z. roll-Param (record { specs = z; declarator = (out-Param x).declarator })) q ∙
    ap (λ z. roll-Param (record { specs = (out-Param y).specs; declarator = z })) r ∙ roll-out-Param y
