-- Each expression inside a well-formed declaration, statement or definition has a head.
use Rattle.std.proofs.Common.{◌≡◌, ℕ, Bool, true, List, [], ◌∷◌, ◌++◌, map, flat_map, Option, Some, None, refl, sym, ap, subst, ◌∙◌, false, codes}
use Rattle.po_tree.specs.declared.expression.Exp.{Exp}
use Rattle.po_tree.specs.declared.expression.Exp.TheOpen.{Specifier-F, Suffix-F}
use Rattle.po_tree.specs.declared.expression.Specifier.{Specifier, fold-roll-Specifier}
use Rattle.po_tree.specs.declared.expression.Specifier.TheVariants as sp
use Rattle.po_tree.specs.declared.expression.Suffix.{Suffix, fold-roll-Suffix}
use Rattle.po_tree.specs.declared.expression.Suffix.TheVariants as su
use Rattle.po_tree.specs.declared.expression.Declarator.{Declarator}
use Rattle.po_tree.specs.declared.expression.Member.{Member, out-Member, fold_out-Member}
use Rattle.po_tree.specs.declared.expression.Param.{Param, out-Param, fold_out-Param}
use Rattle.po_tree.specs.declared.declaration.Init.{Init, fold-Init, fold-roll-Init, roll-Init}
use Rattle.po_tree.specs.declared.declaration.Init.TheVariants as init
use Rattle.po_tree.specs.declared.declaration.Init.TheOpen.{Init-F}
use Rattle.po_tree.specs.declared.declaration.Decl.{Decl}
use Rattle.po_tree.specs.declared.statement.First.{First}
use Rattle.po_tree.specs.declared.statement.Stmt.{Stmt, fold-Stmt, fold-roll-Stmt, roll-Stmt}
use Rattle.po_tree.specs.declared.statement.Stmt.TheVariants as st
use Rattle.po_tree.specs.declared.statement.Stmt.TheOpen.{Stmt-F}
use Rattle.po_tree.specs.declared.function.FunTree.{FunTree}
use Rattle.po_tree.specs.Expressions.{Typed}
use Rattle.po_tree.specs.Declarations.{Specs, no_more_specs, storage_class, inline_word, qualifier, type_word, typedef_name, struct_tag, struct_body, enum_tag, enum_body, Enumerators, no_more_items, item, valued_item, Members, no_more_members, members, AllDeclarators, no_more_declarators, one_more_declarator, IsDeclarator, declarator, IsSuffix, no_parameters, parameters, more_parameters, Params, no_more_params, one_more_param, IsParameter, named, unnamed, IsInit, one, many, AllInits, no_more_inits, one_more_init, Parts, no_more_parts, part, initialised, Declared, declared, IsPiece, lone, declaration}
use Rattle.po_tree.specs.Statements as stat
use Rattle.po_tree.specs.Statements.{IsOptional, IsFirst, IsStatement, AreItems, IsFunction, function}
use Rattle.po_tree.specs.Order.{Ordered, all_within, item_within, expressions, specifier_expressions, declarator_expressions, some_expressions, init_expressions, part_expressions, decl_expressions, first_expressions, stmt_expressions, fun_expressions, orders_exp, orders_specifier, orders_suffix, orders_declarator, orders_member, orders_param, orders_type, orders_init, orders_stmt}
use Rattle.po_heads.proofs.Expressions.{orderExp, orderSpecifier, orderDeclarator, orderMember, orderParam}
use Rattle.po_heads.proofs.HavingExpressions.{Having, SpecifierHas, SuffixHas, DeclaratorHas, none, both, by_specifier_form, by_suffix_form, word_has, name_has, struct_has, enum_has, declarator_of, formed_has, suffix_has, expression_has}

-- members and parameters, by their parts

member_has : (m : Member) → Having (all_within (map orderSpecifier (out-Member m).specs)) → Having (all_within (map orderDeclarator (out-Member m).declarators)) → Having (orderMember m).1
member_has m h k = subst Having (ap (λ (v : Ordered Member). v.1) (sym (fold_out-Member _ _ _ _ _ _ _ orders_exp orders_specifier orders_suffix orders_declarator orders_member orders_param orders_type m))) (both h k)

param_has : (x : Param) → Having (all_within (map orderSpecifier (out-Param x).specs)) → DeclaratorHas (out-Param x).declarator → Having (orderParam x).1
param_has x h k = subst Having (ap (λ (v : Ordered Param). v.1) (sym (fold_out-Param _ _ _ _ _ _ _ orders_exp orders_specifier orders_suffix orders_declarator orders_member orders_param orders_type x))) (both h k)

-- enumerations, through whatever function passes over what may be missing
enumeration_of : (tag : Option (List ℕ)) (items : List (List ℕ × Option Exp)) (more : Bool) →
    ((g : (List ℕ × Option Exp) → (List ℕ × Option (Ordered Exp))) → ((n : List ℕ) → item_within (g (n, None)) ≡ []) →
    ((n : List ℕ) (v : Exp) → item_within (g (n, Some v)) ≡ (orderExp v).1) → Having (flat_map item_within (map g items))) → SpecifierHas (sp.Enum tag (Some items) more)
enumeration_of tag items more h =
    by_specifier_form (fold-roll-Specifier _ _ _ _ _ _ _ orders_exp orders_specifier orders_suffix orders_declarator orders_member orders_param orders_type) (Specifier-F.Enum tag (Some items) more) (sp.rolls-Enum tag (Some items) more) (h _ (λ n. refl) (λ n v. refl))

mutual
  specs_have : {outer free : Bool} {types types' : List (List ℕ)} {seen seen' : Typed} {specs : List Specifier} → Specs outer free types seen specs types' seen' →
      Having (all_within (map orderSpecifier specs))
  specs_have (no_more_specs outer free types seen) = none
  specs_have (storage_class outer types types' seen seen' text rest w s) = both (word_has text) (specs_have s)
  specs_have (inline_word outer free types types' seen seen' rest w s) = both (word_has (codes "inline")) (specs_have s)
  specs_have (qualifier outer free types types' seen seen' text rest w s) = both (word_has text) (specs_have s)
  specs_have (type_word outer free types types' seen seen' text rest w t s) = both (word_has text) (specs_have s)
  specs_have (typedef_name outer free types types' seen' name rest n h s) = both (name_has name) (specs_have s)
  specs_have (struct_tag outer free types types' seen' tag rest n s) = both (struct_has tag) (specs_have s)
  specs_have (struct_body outer free types inner types' seen' tag m ms rest n M s) =
      both (by_specifier_form (fold-roll-Specifier _ _ _ _ _ _ _ orders_exp orders_specifier orders_suffix orders_declarator orders_member orders_param orders_type) (Specifier-F.Struct tag (Some (m ∷ ms))) (sp.rolls-Struct tag (Some (m ∷ ms))) (members_have M)) (specs_have s)
  specs_have (enum_tag outer free types types' seen' tag rest n s) = both (enum_has tag) (specs_have s)
  specs_have (enum_body outer free more types inner types' seen' tag x xs rest n E s) = both (enumeration_of tag (x ∷ xs) more (λ g q r. enumerators_have g q r E)) (specs_have s)

  enumerators_have : (g : (List ℕ × Option Exp) → (List ℕ × Option (Ordered Exp))) → ((n : List ℕ) → item_within (g (n, None)) ≡ []) →
      ((n : List ℕ) (v : Exp) → item_within (g (n, Some v)) ≡ (orderExp v).1) → {types types' : List (List ℕ)} {items : List (List ℕ × Option Exp)} →
      Enumerators types items types' → Having (flat_map item_within (map g items))
  enumerators_have g q r (no_more_items types) = none
  enumerators_have g q r (item types types' name rest n E) = rw (q name) (enumerators_have g q r E)
  enumerators_have g q r (valued_item m types types' name value rest n l f E) = rw (r name value) (both (formed_has f) (enumerators_have g q r E))

  members_have : {types types' : List (List ℕ)} {ms : List Member} → Members types ms types' → Having (all_within (map orderMember ms))
  members_have (no_more_members types) = none
  members_have (members types inner types' seen m rest n s k d M) = both (member_has m (specs_have s) (declarators_have d)) (members_have M)

  declarators_have : {types : List (List ℕ)} {seen : Typed} {ds : List Declarator} → AllDeclarators types seen ds → Having (all_within (map orderDeclarator ds))
  declarators_have (no_more_declarators types seen) = none
  declarators_have (one_more_declarator types seen name inner d rest h k) = both (declarator_has h) (declarators_have k)

  declarator_has : {types : List (List ℕ)} {seen : Typed} {name : List ℕ} {d : Declarator} {inner : List (List ℕ)} → IsDeclarator types seen name d inner → DeclaratorHas d
  declarator_has (declarator types seen name stars suffix inner w s f) = declarator_of stars (Some name) suffix (any_suffix_has f)

  any_suffix_has : {types : List (List ℕ)} {suffix : Suffix} {inner : List (List ℕ)} → IsSuffix types suffix inner → SuffixHas suffix
  any_suffix_has (no_parameters types suffix f) = suffix_has f
  any_suffix_has (parameters types params inner P) = by_suffix_form (fold-roll-Suffix _ _ _ _ _ _ _ orders_exp orders_specifier orders_suffix orders_declarator orders_member orders_param orders_type) (Suffix-F.Params params false) (su.rolls-Params params false) (params_have P)
  any_suffix_has (more_parameters types x xs inner P) = by_suffix_form (fold-roll-Suffix _ _ _ _ _ _ _ orders_exp orders_specifier orders_suffix orders_declarator orders_member orders_param orders_type) (Suffix-F.Params (x ∷ xs) true) (su.rolls-Params (x ∷ xs) true) (params_have P)

  params_have : {types types' : List (List ℕ)} {xs : List Param} → Params types xs types' → Having (all_within (map orderParam xs))
  params_have (no_more_params types) = none
  params_have (one_more_param types own inner types' seen x rest n s p P) = both (param_has x (specs_have s) (parameter_has p)) (params_have P)

  parameter_has : {types : List (List ℕ)} {seen : Typed} {d : Declarator} {inner : List (List ℕ)} → IsParameter types seen d inner → DeclaratorHas d
  parameter_has (named types seen name d inner h) = declarator_has h
  parameter_has (unnamed types seen stars suffix inner s f) = declarator_of stars None suffix (any_suffix_has f)

-- initialisers and declarations

abbrev orderInit : Init → List Exp
orderInit = fold-Init _ orders_init

by_init_form : {o : Init-F Init → List Exp} → ((z : Init-F Init) → orderInit (roll-Init z) ≡ o z) → (z : Init-F Init) {x : Init} → roll-Init z ≡ x → Having (o z) → Having (orderInit x)
by_init_form layer z rolls h = subst Having (sym (layer z) ∙ ap orderInit rolls) h

mutual
  init_has : {types : List (List ℕ)} {x : Init} → IsInit types x → Having (orderInit x)
  init_has (one m x l f) = by_init_form (fold-roll-Init _ orders_init) (Init-F.One x) (init.rolls-One x) (expression_has f)
  init_has (many x xs more h) = by_init_form (fold-roll-Init _ orders_init) (Init-F.Many (x ∷ xs) more) (init.rolls-Many (x ∷ xs) more) (inits_have h)

  inits_have : {types : List (List ℕ)} {xs : List Init} → AllInits types xs → Having (flat_map (λ x. x) (map orderInit xs))
  inits_have no_more_inits = none
  inits_have (one_more_init x xs h k) = both (init_has h) (inits_have k)

init_expressions_have : {types : List (List ℕ)} {x : Init} → IsInit types x → Having (init_expressions x)
unfolding init_expressions
init_expressions_have h = init_has h

declarator_expressions_have : (d : Declarator) → DeclaratorHas d → Having (declarator_expressions d)
unfolding declarator_expressions
declarator_expressions_have d h = h

specifier_rows : (specs : List Specifier) → all_within (map orderSpecifier specs) ≡ flat_map specifier_expressions specs
unfolding specifier_expressions
specifier_rows [] = refl
specifier_rows (x ∷ xs) = ap (λ v. (orderSpecifier x).1 ++ v) (specifier_rows xs)

specifiers_have : {outer free : Bool} {types types' : List (List ℕ)} {seen seen' : Typed} {specs : List Specifier} → Specs outer free types seen specs types' seen' →
    Having (flat_map specifier_expressions specs)
specifiers_have {specs = specs} s = subst Having (specifier_rows specs) (specs_have s)

parts_have : {specs : List Specifier} {seen : Typed} {types types' : List (List ℕ)} {parts : List (Declarator × Option Init)} → Parts specs seen types parts types' →
    Having (flat_map part_expressions parts)
parts_have (no_more_parts types) = none
parts_have (part types params inner types' name d rest D w P) = both (both (declarator_expressions_have _ (declarator_has D)) none) (parts_have P)
parts_have (initialised types params inner types' name d x rest D w I P) = both (both (declarator_expressions_have _ (declarator_has D)) (init_expressions_have I)) (parts_have P)

pub declared_has : {types types' : List (List ℕ)} {d : Decl} → Declared types d types' → Having (decl_expressions d)
declared_has (declared types inner types' seen spec specs parts s p) = both (specifiers_have s) (parts_have p)

pub piece_has : {types types' : List (List ℕ)} {d : Decl} → IsPiece types d types' → Having (decl_expressions d)
piece_has (lone types) = none
piece_has (declaration types types' d h) = declared_has h

-- statements and definitions

abbrev orderStmt : Stmt → List Exp
orderStmt = fold-Stmt _ orders_stmt

by_stmt_form : {o : Stmt-F Stmt → List Exp} → ((z : Stmt-F Stmt) → orderStmt (roll-Stmt z) ≡ o z) → (z : Stmt-F Stmt) {x : Stmt} → roll-Stmt z ≡ x → Having (o z) → Having (orderStmt x)
by_stmt_form layer z rolls h = subst Having (sym (layer z) ∙ ap orderStmt rolls) h

optional_has : {types : List (List ℕ)} {x : Option Exp} → IsOptional types x → Having (some_expressions expressions x)
optional_has stat.missing = none
optional_has (stat.there m x f) = expression_has f

first_has : {types inner : List (List ℕ)} {x : First} → IsFirst types x inner → Having (first_expressions x)
first_has stat.nothing = none
first_has (stat.value m x f) = expression_has f
first_has (stat.variables d types' h) = declared_has h

mutual
  statement_has : {types : List (List ℕ)} {x : Stmt} → IsStatement types x → Having (orderStmt x)
  statement_has (stat.block types xs h) = by_stmt_form (fold-roll-Stmt _ orders_stmt) (Stmt-F.Block xs) (st.rolls-Block xs) (items_have h)
  statement_has (stat.expression types m x f) = by_stmt_form (fold-roll-Stmt _ orders_stmt) (Stmt-F.ExpS x) (st.rolls-ExpS x) (expression_has f)
  statement_has (stat.empty types) = by_stmt_form (fold-roll-Stmt _ orders_stmt) Stmt-F.Empty st.rolls-Empty none
  statement_has (stat.if_alone types m x s f h) = by_stmt_form (fold-roll-Stmt _ orders_stmt) (Stmt-F.If x s None) (st.rolls-If x s None) (both (expression_has f) (both (statement_has h) none))
  statement_has (stat.if_else types m x s t f h w k) = by_stmt_form (fold-roll-Stmt _ orders_stmt) (Stmt-F.If x s (Some t)) (st.rolls-If x s (Some t)) (both (expression_has f) (both (statement_has h) (statement_has k)))
  statement_has (stat.while types m x s f h) = by_stmt_form (fold-roll-Stmt _ orders_stmt) (Stmt-F.While x s) (st.rolls-While x s) (both (expression_has f) (statement_has h))
  statement_has (stat.do_while types m x s h f) = by_stmt_form (fold-roll-Stmt _ orders_stmt) (Stmt-F.Do s x) (st.rolls-Do s x) (both (statement_has h) (expression_has f))
  statement_has (stat.for_each types inner first test step s a b c h) = by_stmt_form (fold-roll-Stmt _ orders_stmt) (Stmt-F.For first test step s) (st.rolls-For first test step s) (both (first_has a) (both (optional_has b) (both (optional_has c) (statement_has h))))
  statement_has (stat.switch types m x s f h) = by_stmt_form (fold-roll-Stmt _ orders_stmt) (Stmt-F.Switch x s) (st.rolls-Switch x s) (both (expression_has f) (statement_has h))
  statement_has (stat.case types m x s l f h) = by_stmt_form (fold-roll-Stmt _ orders_stmt) (Stmt-F.Case x s) (st.rolls-Case x s) (both (expression_has f) (statement_has h))
  statement_has (stat.default types s h) = by_stmt_form (fold-roll-Stmt _ orders_stmt) (Stmt-F.Default s) (st.rolls-Default s) (statement_has h)
  statement_has (stat.label types name s n h) = by_stmt_form (fold-roll-Stmt _ orders_stmt) (Stmt-F.Label name s) (st.rolls-Label name s) (statement_has h)
  statement_has (stat.goto types name n) = by_stmt_form (fold-roll-Stmt _ orders_stmt) (Stmt-F.Goto name) (st.rolls-Goto name) none
  statement_has (stat.break types) = by_stmt_form (fold-roll-Stmt _ orders_stmt) Stmt-F.Break st.rolls-Break none
  statement_has (stat.continue types) = by_stmt_form (fold-roll-Stmt _ orders_stmt) Stmt-F.Continue st.rolls-Continue none
  statement_has (stat.return types x h) = by_stmt_form (fold-roll-Stmt _ orders_stmt) (Stmt-F.Return x) (st.rolls-Return x) (optional_has h)

  items_have : {types : List (List ℕ)} {xs : List Stmt} → AreItems types xs → Having (flat_map (λ x. x) (map orderStmt xs))
  items_have (stat.no_more_items types) = none
  items_have (stat.statement types s rest h k) = both (statement_has h) (items_have k)
  items_have (stat.declaration types types' d rest h k) = both (by_stmt_form (fold-roll-Stmt _ orders_stmt) (Stmt-F.Declare d) (st.rolls-Declare d) (declared_has h)) (items_have k)

body_rows : (xs : List Stmt) → flat_map (λ (x : List Exp). x) (map orderStmt xs) ≡ flat_map stmt_expressions xs
unfolding stmt_expressions
body_rows [] = refl
body_rows (x ∷ xs) = ap (λ v. orderStmt x ++ v) (body_rows xs)

pub function_has : {types : List (List ℕ)} {g : FunTree} → IsFunction types g → Having (fun_expressions g)
function_has (function own inner seen spec specs name stars params more body marks names s d h) =
    both (specifiers_have s) (both (declarator_expressions_have _ (declarator_has d)) (subst Having (body_rows body) (items_have h)))
