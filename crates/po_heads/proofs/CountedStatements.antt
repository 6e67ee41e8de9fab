-- The expressions that are counted in initialisers, declarations, statements and definitions are just those inside them.
use Rattle.std.proofs.Common.{◌≡◌, List, [], ◌∷◌, flat_map, Option, Some, None, refl, sym, ap, subst}
use Rattle.po_tree.specs.declared.declaration.Init.{Init, fold-roll-Init, ind-Init, roll-Init, out-roll-Init}
use Rattle.po_tree.specs.declared.declaration.Init.TheOpen.{Init-F}
use Rattle.po_tree.specs.declared.declaration.Decl.{Decl}
use Rattle.po_tree.specs.declared.expression.Exp.{Exp}
use Rattle.po_tree.specs.declared.expression.Declarator.{Declarator}
use Rattle.po_tree.specs.declared.statement.First.{First}
use Rattle.po_tree.specs.declared.statement.First.TheVariants as f
use Rattle.po_tree.specs.declared.statement.Stmt.{Stmt, fold-roll-Stmt, ind-Stmt, roll-Stmt, out-roll-Stmt}
use Rattle.po_tree.specs.declared.statement.Stmt.TheOpen.{Stmt-F}
use Rattle.po_tree.specs.declared.function.FunTree.{FunTree}
use Rattle.po_tree.specs.Order.{expressions, specifier_expressions, init_expressions, part_expressions, decl_expressions, some_expressions, first_expressions, stmt_expressions, fun_expressions, orders_init, orders_stmt}
use Rattle.po_heads.specs.Inside.{Tree, expression, specifier, declarator, initialiser, declaration, statement, definition, any, parts, parts_init, parts_first, parts_stmt}
use Rattle.po_heads.proofs.Counting.{Counts, as_expression, Made, nothing, part, joins, whole, rows, row, any_of}
use Rattle.po_heads.proofs.Counted.{expression_counted, declarator_counted, specifier_counted}

-- a tree that is rolled, by its layer
by_layer : {Z A : Type 0} {o o' : Z → List Exp} (t : A → Tree) (r : Z → A) (inner : Z → List Tree) → ((z : Z) → o z ≡ o' z) → ((z : Z) → parts (t (r z)) ≡ inner z) → ((z : Z) → as_expression (t (r z)) ≡ None) →
    (y z : Z) → z ≡ y → Made (o' z) [] (inner z) → Counts (o y) (t (r y))
by_layer {o = o} {o' = o'} t r inner same opens other y z is m = subst (λ v. Counts (o v) (t (r v))) is
    (whole (t (r z)) (other z) (subst (λ l. Made l [] (parts (t (r z)))) (sym (same z)) (subst (λ ps. Made (o' z) [] ps) (sym (opens z)) m)))

abbrev CountedInit : Init → Type 0
CountedInit x = Counts (init_expressions x) (initialiser x)

init_counted : (x : Init) → CountedInit x
unfolding init_expressions
init_counted = ind-Init CountedInit (λ x. let turn = by_layer initialiser roll-Init parts_init (fold-roll-Init _ orders_init) (λ z. ap parts_init (out-roll-Init z)) (λ z. refl) in
    elim [
      | Init-F.One v ↦ λ is. turn x _ is (part (expression_counted v))
      | Init-F.Many xs more ↦ λ is. turn x _ is (row CountedInit init_expressions (λ l. l) initialiser (λ t p. p) xs)
    ])

part_counted : (x : Declarator × Option Init) → Made (part_expressions x) [] (declarator x.0 ∷ any initialiser x.1)
part_counted (d, x) = joins (part (declarator_counted d)) (any_of init_expressions initialiser init_counted x)

parts_counted : (xs : List (Declarator × Option Init)) → Made (flat_map part_expressions xs) [] (flat_map (λ x. declarator x.0 ∷ any initialiser x.1) xs)
parts_counted [] = nothing
parts_counted (x ∷ xs) = joins (part_counted x) (parts_counted xs)

pub declaration_counted : (d : Decl) → Counts (decl_expressions d) (declaration d)
declaration_counted d = whole (declaration d) refl (joins (rows specifier_expressions specifier specifier_counted d.specs) (parts_counted d.parts))

first_counted : (x : First) → Made (first_expressions x) [] (parts_first x)
first_counted f.Nothing = nothing
first_counted (f.Value x) = part (expression_counted x)
first_counted (f.Variables d) = part (declaration_counted d)

maybe : (x : Option Exp) → Made (some_expressions expressions x) [] (any expression x)
maybe x = any_of expressions expression expression_counted x

abbrev CountedStmt : Stmt → Type 0
CountedStmt x = Counts (stmt_expressions x) (statement x)

pub statement_counted : (x : Stmt) → CountedStmt x
unfolding stmt_expressions
statement_counted = ind-Stmt CountedStmt (λ y. let turn = by_layer statement roll-Stmt parts_stmt (fold-roll-Stmt _ orders_stmt) (λ z. ap parts_stmt (out-roll-Stmt z)) (λ z. refl) in
    elim [
      | Stmt-F.Block xs ↦ λ is. turn y _ is (row CountedStmt stmt_expressions (λ l. l) statement (λ t p. p) xs)
      | Stmt-F.Declare d ↦ λ is. turn y _ is (part (declaration_counted d))
      | Stmt-F.ExpS x ↦ λ is. turn y _ is (part (expression_counted x))
      | Stmt-F.Empty ↦ λ is. turn y _ is nothing
      | Stmt-F.If x a None ↦ λ is. turn y _ is (joins (part (expression_counted x)) (joins (part a.1) nothing))
      | Stmt-F.If x a (Some b) ↦ λ is. turn y _ is (joins (part (expression_counted x)) (joins (part a.1) (part b.1)))
      | Stmt-F.While x a ↦ λ is. turn y _ is (joins (part (expression_counted x)) (part a.1))
      | Stmt-F.Do a x ↦ λ is. turn y _ is (joins (part a.1) (part (expression_counted x)))
      | Stmt-F.For first test step a ↦ λ is. turn y _ is (joins (first_counted first) (joins (maybe test) (joins (maybe step) (part a.1))))
      | Stmt-F.Switch x a ↦ λ is. turn y _ is (joins (part (expression_counted x)) (part a.1))
      | Stmt-F.Case x a ↦ λ is. turn y _ is (joins (part (expression_counted x)) (part a.1))
      | Stmt-F.Default a ↦ λ is. turn y _ is (part a.1)
      | Stmt-F.Label name a ↦ λ is. turn y _ is (part a.1)
      | Stmt-F.Goto name ↦ λ is. turn y _ is nothing
      | Stmt-F.Break ↦ λ is. turn y _ is nothing
      | Stmt-F.Continue ↦ λ is. turn y _ is nothing
      | Stmt-F.Return x ↦ λ is. turn y _ is (maybe x)
    ])

pub definition_counted : (g : FunTree) → Counts (fun_expressions g) (definition g)
definition_counted g = whole (definition g) refl (joins (rows specifier_expressions specifier specifier_counted g.specs)
    (joins (part (declarator_counted g.declarator)) (rows stmt_expressions statement statement_counted g.body)))
