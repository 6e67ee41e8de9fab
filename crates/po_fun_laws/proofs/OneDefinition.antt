-- Of two definitions that the same tokens print one is the other, and no declaration prints them.
use Rattle.std.proofs.Common.{◌≡◌, ◌∙◌, ℕ, ◌≤◌, List, [], ◌∷◌, ◌++◌, map, flat_map, refl, sym, ap, subst, arith, append_assoc}
use Rattle.po_tree.specs.declared.expression.Specifier.{Specifier}
use Rattle.po_tree.specs.declared.expression.Declarator.{Declarator}
use Rattle.po_tree.specs.declared.declaration.Decl.{Decl}
use Rattle.po_tree.specs.declared.statement.Stmt.{Stmt}
use Rattle.po_tree.specs.declared.function.FunTree.{FunTree}
use Rattle.po_tree.specs.Signs.{Sign, comma, semicolon, brace, brace_end}
use Rattle.po_tree.specs.Printing.{flat_specifier, flat_declarator, flat_stmt, flat_decl, flat_fun, flat_part, with_commas}
use Rattle.po_tree.specs.Heights.{fun_height}
use Rattle.po_tree.specs.Declarations.{without, IsDeclarator}
use Rattle.po_tree.specs.Statements.{AreItems, IsFunction, function, IsDefinition}
use Rattle.po_decl_laws.specs.Fronts as fr
use Rattle.po_decl_laws.proofs.Fronts.{declarator_ends}
use Rattle.po_decl_laws.proofs.Behind.{tails, first_byte}
use Rattle.po_decl_laws.proofs.One.{one_specs, one_declarator, declarator_named, some_same}
use Rattle.po_fun_laws.specs.Places.{AreSameTokens}
use Rattle.po_fun_laws.proofs.Layers.{items_behind}
use Rattle.po_fun_laws.proofs.OneStatement.{one_items}
use Rattle.po_fun_laws.proofs.OneMarking.{marks_are_one}

-- a definition with what stands behind it
definition_before : (g : FunTree) (us : List Sign) → flat_fun g ++ us ≡ flat_map flat_specifier g.specs ++ (flat_declarator g.declarator ++ (brace ∷ items_behind g.body us))
definition_before g us =
    append_assoc (flat_map flat_specifier g.specs) (flat_declarator g.declarator ++ (brace ∷ (flat_map flat_stmt g.body ++ brace_end ∷ []))) us ∙
    ap (λ v. flat_map flat_specifier g.specs ++ v)
    (append_assoc (flat_declarator g.declarator) (brace ∷ (flat_map flat_stmt g.body ++ brace_end ∷ [])) us ∙
    ap (λ v. flat_declarator g.declarator ++ (brace ∷ v)) (append_assoc (flat_map flat_stmt g.body) (brace_end ∷ []) us))

-- what two definitions come to
pub record SameDefinitions (g h : FunTree) (us vs : List Sign) : Type 0 where
  pub specs_same : g.specs ≡ h.specs
  pub declarator_same : g.declarator ≡ h.declarator
  pub body_same : g.body ≡ h.body
  pub left_same : us ≡ vs

-- of two definitions at the front of the same signs one is the other, but for the marks
pub one_function : {types : List (List ℕ)} {g h : FunTree} → IsFunction types g → IsFunction types h → fun_height g ≤ 256 → fun_height h ≤ 256 → (us vs : List Sign) →
    flat_fun g ++ us ≡ flat_fun h ++ vs → SameDefinitions g h us vs
one_function {g = g} {h = h} (function own inner seen spec specs name stars params more body marks names w d v) (function own' inner' seen' spec' specs' name' stars' params' more' body' marks' names' w' d' v') low high us vs q =
    let after = brace ∷ items_behind body us in
    let after' = brace ∷ items_behind body' vs in
    let s = one_specs w w' (omega (arith, low)) (omega (arith, high)) (flat_declarator g.declarator ++ after) (flat_declarator h.declarator ++ after')
    (sym (definition_before g us) ∙ q ∙ definition_before h vs) (declarator_ends d after) (declarator_ends d' after') in
    let there = subst (λ z. IsDeclarator z seen name' h.declarator inner') (sym s.types_same) (subst (λ z. IsDeclarator own' z name' h.declarator inner') (sym s.seen_same) d') in
    let r = one_declarator d there (omega (arith, low)) (omega (arith, high)) after after' s.left_same fr.at_brace fr.at_brace in
    let same = some_same r.trees_same (declarator_named d) (declarator_named d') in
    let items = subst (λ z. AreItems z body') (sym (ap (λ z. without z inner) same ∙ ap (without name') r.types_same)) v' in
    let o = one_items v items (omega (arith, low)) (omega (arith, high)) us vs (tails r.left_same) in
    record { specs_same = s.specs_same; declarator_same = r.trees_same; body_same = o.0; left_same = o.1 }

abbrev definition_of : List Specifier → Declarator → List Stmt → List (ℕ × ℕ) → List (List ℕ) → FunTree
definition_of specs declarator body marks names = record { specs = specs; declarator = declarator; body = body; marks = marks; names = names }

-- of two well-formed definitions with the same tokens one is the other
pub one_definition : (types : List (List ℕ)) (g h : FunTree) → IsDefinition types g → IsDefinition types h → AreSameTokens g h → g ≡ h
one_definition types g h w v t =
    let s = one_function w.formed v.formed w.nested v.nested [] [] (ap (λ z. z ++ []) t.printed) in
    let m = marks_are_one g h w.marked v.marked t.places in
    ap (λ z. definition_of z g.declarator g.body g.marks g.names) s.specs_same ∙
    ap (λ z. definition_of h.specs z g.body g.marks g.names) s.declarator_same ∙
    ap (λ z. definition_of h.specs h.declarator z g.marks g.names) s.body_same ∙
    ap (λ z. definition_of h.specs h.declarator h.body z g.names) m.0 ∙
    ap (definition_of h.specs h.declarator h.body h.marks) m.1

-- the last sign, of signs behind another one
final : Sign → List Sign → Sign
final sign [] = sign
final sign (x ∷ xs) = final x xs

final-append : (sign x : Sign) (xs ys : List Sign) → final sign (xs ++ (x ∷ ys)) ≡ final x ys
unfolding final
final-append sign x [] ys = refl
final-append sign x (z ∷ xs) ys = final-append z x xs ys

-- a declaration ends with a semicolon
declaration_final : (d : Decl) → final comma (flat_decl d) ≡ semicolon
unfolding final
declaration_final d =
    let specs : List Sign = flat_map flat_specifier d.specs in
    let parts : List Sign = with_commas (map flat_part d.parts) in
    ap (final comma) (sym (append_assoc specs parts (semicolon ∷ []))) ∙ final-append comma semicolon (specs ++ parts) []

-- a definition with a brace
definition_final : (g : FunTree) → final comma (flat_fun g) ≡ brace_end
unfolding final
definition_final g =
    let specs : List Sign = flat_map flat_specifier g.specs in
    let declarator : List Sign = flat_declarator g.declarator in
    let body : List Sign = flat_map flat_stmt g.body in
    ap (final comma) (sym (append_assoc specs declarator (brace ∷ (body ++ brace_end ∷ [])))) ∙ final-append comma brace (specs ++ declarator) (body ++ brace_end ∷ []) ∙ final-append brace brace_end body []

pub no_declaration_is_a_definition : (d : Decl) (g : FunTree) → flat_decl d ≡ flat_fun g → ⊥
no_declaration_is_a_definition d g q = let ends : semicolon ≡ brace_end = sym (declaration_final d) ∙ ap (final comma) q ∙ definition_final g in omega (arith, ap (λ v. first_byte (v ∷ [])) ends)
