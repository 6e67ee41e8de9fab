-- The tokens of initialisers, declarations, statements and definitions are those that they print, and the heads among them are those of their
-- expressions.
use Rattle.std.proofs.Common.{List, [], ◌++◌, Option, Some, None, refl, ap, subst, ◌∙◌, append_assoc}
use Rattle.po_tree.specs.declared.declaration.Init.{Init, fold-roll-Init, ind-Init}
use Rattle.po_tree.specs.declared.declaration.Init.TheOpen.{Init-F}
use Rattle.po_tree.specs.declared.declaration.Decl.{Decl}
use Rattle.po_tree.specs.declared.expression.Exp.{Exp}
use Rattle.po_tree.specs.declared.expression.Declarator.{Declarator}
use Rattle.po_tree.specs.declared.statement.First.{First}
use Rattle.po_tree.specs.declared.statement.First.TheVariants as f
use Rattle.po_tree.specs.declared.statement.Stmt.{Stmt, fold-roll-Stmt, ind-Stmt}
use Rattle.po_tree.specs.declared.statement.Stmt.TheOpen.{Stmt-F}
use Rattle.po_tree.specs.declared.function.FunTree.{FunTree}
use Rattle.po_tree.specs.Signs.{Sign, closing, brace_end, semicolon}
use Rattle.po_tree.specs.Printing as print
use Rattle.po_tree.specs.Printing.{flat, flat_specifier, flat_init, flat_part, flat_decl, flat_first, flat_stmt, flat_fun, prints_init, prints_stmt, parenthesised}
use Rattle.po_tree.specs.Order.{expressions, specifier_expressions, init_expressions, part_expressions, decl_expressions, some_expressions, first_expressions, stmt_expressions, fun_expressions, orders_init, orders_stmt}
use Rattle.po_heads.specs.Marks.{Printed, optional, in_parentheses, marked, marked_specifier, marked_init, marked_part, marked_decl, marked_first, marked_stmt, marked_fun, marks_init, marks_stmt}
use Rattle.po_heads.specs.Heads.{stops_stmt, stmt_stops, fun_stops}
use Rattle.po_heads.proofs.Agree.{Agree, nothing, joins, plainly, keyed, before, closes, ends_block, unstopped, more_comma, rows, commas_of, optional_of, body, block, commas, by_layer}
use Rattle.po_heads.proofs.Expressions.{expression_agrees, specifier_agrees, declarator_agrees}

abbrev AgreesInit : Init → Type 0
AgreesInit x = Agree (marked_init x) (flat_init x) (init_expressions x) []

init_agrees : (x : Init) → AgreesInit x
unfolding marked_init flat_init init_expressions
init_agrees = ind-Init AgreesInit (λ x. let turn = by_layer {k = λ _. []} {k' = λ _. []} (fold-roll-Init _ marks_init) (fold-roll-Init _ prints_init) (fold-roll-Init _ orders_init) (λ z. refl) in
    elim [
      | Init-F.One v ↦ λ is. turn x _ is (expression_agrees v)
      | Init-F.Many xs more ↦ λ is. turn x _ is (plainly (closes brace_end (before (commas AgreesInit marked_init flat_init init_expressions (λ x. x) (λ t p. p) xs) (more_comma more))))
    ])

part_agrees : (x : Declarator × Option Init) → Agree (marked_part x) (flat_part x) (part_expressions x) []
part_agrees (d, None) = joins (declarator_agrees d) nothing
part_agrees (d, Some x) = joins (declarator_agrees d) (plainly (init_agrees x))

pub declaration_agrees : (d : Decl) → Agree (marked_decl d) (flat_decl d) (decl_expressions d) []
declaration_agrees d = joins (rows marked_specifier flat_specifier specifier_expressions specifier_agrees d.specs) (closes semicolon (commas_of marked_part flat_part part_expressions part_agrees d.parts))

first_agrees : (x : First) → Agree (marked_first x) (flat_first x) (first_expressions x) []
first_agrees f.Nothing = plainly nothing
first_agrees (f.Value x) = closes semicolon (expression_agrees x)
first_agrees (f.Variables d) = declaration_agrees d

in_parens : (x : Exp) → Agree (in_parentheses (marked x)) (parenthesised (flat x)) (expressions x) []
in_parens x = plainly (closes closing (expression_agrees x))

maybe : (x : Option Exp) → Agree (optional marked x) (print.optional flat x) (some_expressions expressions x) []
maybe x = optional_of marked flat expressions expression_agrees x

-- the expressions of a `for`, one part behind the other
regrouped : {ts : List Printed} {fs ks : List Sign} (a b c d : List Exp) → Agree ts fs ((a ++ (b ++ c)) ++ d) ks → Agree ts fs (a ++ (b ++ (c ++ d))) ks
regrouped {ts} {fs} {ks} a b c d h = subst (λ l. Agree ts fs l ks) (append_assoc a (b ++ c) d ∙ ap (λ l. a ++ l) (append_assoc b c d)) h

abbrev AgreesStmt : Stmt → Type 0
AgreesStmt x = Agree (marked_stmt x) (flat_stmt x) (stmt_expressions x) (stmt_stops x)

pub statement_agrees : (x : Stmt) → AgreesStmt x
unfolding marked_stmt flat_stmt stmt_expressions stmt_stops
statement_agrees = ind-Stmt AgreesStmt (λ y. let turn = by_layer (fold-roll-Stmt _ marks_stmt) (fold-roll-Stmt _ prints_stmt) (fold-roll-Stmt _ orders_stmt) (fold-roll-Stmt _ stops_stmt) in
    elim [
      | Stmt-F.Block xs ↦ λ is. turn y _ is (plainly (ends_block (block marked_stmt flat_stmt stmt_expressions stmt_stops xs)))
      | Stmt-F.Declare d ↦ λ is. turn y _ is (declaration_agrees d)
      | Stmt-F.ExpS x ↦ λ is. turn y _ is (closes semicolon (expression_agrees x))
      | Stmt-F.Empty ↦ λ is. turn y _ is (plainly nothing)
      | Stmt-F.If x a None ↦ λ is. turn y _ is (keyed (joins (in_parens x) (joins a.1 nothing)))
      | Stmt-F.If x a (Some b) ↦ λ is. turn y _ is (keyed (joins (in_parens x) (joins a.1 (plainly b.1))))
      | Stmt-F.While x a ↦ λ is. turn y _ is (keyed (joins (in_parens x) a.1))
      | Stmt-F.Do a x ↦ λ is. turn y _ is (keyed (unstopped (joins a.1 (plainly (closes semicolon (in_parens x))))))
      | Stmt-F.For first test step a ↦ λ is. turn y _ is (keyed (regrouped (first_expressions first) (some_expressions expressions test) (some_expressions expressions step) (stmt_expressions a.0)
          (joins (plainly (closes closing (joins (first_agrees first) (joins (maybe test) (plainly (maybe step)))))) a.1)))
      | Stmt-F.Switch x a ↦ λ is. turn y _ is (keyed (joins (in_parens x) a.1))
      | Stmt-F.Case x a ↦ λ is. turn y _ is (keyed (joins (expression_agrees x) (plainly a.1)))
      | Stmt-F.Default a ↦ λ is. turn y _ is (keyed (plainly a.1))
      | Stmt-F.Label name a ↦ λ is. turn y _ is (plainly (plainly a.1))
      | Stmt-F.Goto name ↦ λ is. turn y _ is (keyed (plainly (plainly nothing)))
      | Stmt-F.Break ↦ λ is. turn y _ is (keyed (plainly nothing))
      | Stmt-F.Continue ↦ λ is. turn y _ is (keyed (plainly nothing))
      | Stmt-F.Return x ↦ λ is. turn y _ is (keyed (closes semicolon (maybe x)))
    ])

pub definition_agrees : (g : FunTree) → Agree (marked_fun g) (flat_fun g) (fun_expressions g) (fun_stops g)
definition_agrees g = joins (rows marked_specifier flat_specifier specifier_expressions specifier_agrees g.specs)
    (joins (declarator_agrees g.declarator) (plainly (ends_block (body marked_stmt flat_stmt stmt_expressions stmt_stops statement_agrees g.body))))
