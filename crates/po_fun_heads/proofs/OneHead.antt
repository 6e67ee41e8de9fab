-- Of two heads at the front of the same signs one is the other.
use Rattle.std.proofs.Common.{◌≡◌, ◌∙◌, ℕ, ◌≤◌, List, ◌∷◌, ◌++◌, drop, map, flat_map, sym, subst, ap, arith}
use Rattle.std.specs.Prelude.{max}
use Rattle.po_tree.specs.declared.expression.Specifier.{Specifier}
use Rattle.po_tree.specs.declared.expression.Declarator.{Declarator}
use Rattle.po_tree.specs.Signs.{Sign, brace}
use Rattle.po_tree.specs.Printing.{flat_specifier, flat_declarator}
use Rattle.po_tree.specs.Heights.{specifier_height, declarator_height, greatest}
use Rattle.po_tree.specs.Declarations.{without, IsDeclarator}
use Rattle.po_decl_laws.specs.Fronts as fr
use Rattle.po_decl_laws.proofs.Fronts.{declarator_ends}
use Rattle.po_decl_laws.proofs.One.{one_specs, one_declarator, declarator_named, some_same}
use Rattle.po_fun_heads.specs.Heads.{IsHead, head, HeadStands}

abbrev high : List Specifier → Declarator → ℕ
high specs d = max (greatest (map specifier_height specs)) (declarator_height d)

same_heads : {types inside within : List (List ℕ)} {specs others : List Specifier} {d e : Declarator} (left rest : List Sign) → IsHead types specs d inside → IsHead types others e within →
    high specs d ≤ 256 → high others e ≤ 256 → flat_map flat_specifier specs ++ (flat_declarator d ++ (brace ∷ left)) ≡ flat_map flat_specifier others ++ (flat_declarator e ++ (brace ∷ rest)) →
    (specs ≡ others) × (d ≡ e) × (inside ≡ within) × (left ≡ rest)
same_heads {d = d} {e = e} left rest (head own inner seen spec specs name stars params more w is) (head own' inner' seen' spec' specs' name' stars' params' more' w' is') low low' q =
    let s = one_specs w w' (omega (arith, low)) (omega (arith, low')) (flat_declarator d ++ (brace ∷ left)) (flat_declarator e ++ (brace ∷ rest)) q (declarator_ends is (brace ∷ left)) (declarator_ends is' (brace ∷ rest)) in
    let there = subst (λ z. IsDeclarator z seen name' e inner') (sym s.types_same) (subst (λ z. IsDeclarator own' z name' e inner') (sym s.seen_same) is') in
    let r = one_declarator is there (omega (arith, low)) (omega (arith, low')) (brace ∷ left) (brace ∷ rest) s.left_same fr.at_brace fr.at_brace in
    let same = some_same r.trees_same (declarator_named is) (declarator_named is') in
    (s.specs_same, r.trees_same, ap (λ z. without z inner) same ∙ ap (without name') r.types_same, ap (drop 1) r.left_same)

pub one_head : (types inside within : List (List ℕ)) (signs left rest : List Sign) (specs others : List Specifier) (d e : Declarator) → HeadStands types signs specs d inside left → HeadStands types signs others e within rest →
    (specs ≡ others) × (d ≡ e) × (inside ≡ within) × (left ≡ rest)
one_head types inside within signs left rest specs others d e h k = same_heads left rest h.formed k.formed h.nested k.nested (sym h.printed ∙ k.printed)
