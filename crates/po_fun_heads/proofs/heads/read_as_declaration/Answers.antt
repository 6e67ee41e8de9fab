use Rattle.std.proofs.Common.{◌∙◌, ◌≤◌, [], length, sym, ap, subst, arith}
use Rattle.std.proofs.lemmas.List.{length_push}
use Rattle.po_decl_steps.specs.Standing.{DeclarationStands}
use Rattle.po_fun_heads.proofs.AsDeclarations.{whole_signs, none_whole, signs_left}
use Rattle.po_fun_heads.proofs.heads.read_as_declaration.Goals as goal

pub returns-in_default-clause-none : goal.returns-in_default-clause-none
returns-in_default-clause-none c = λ d w.
    let whole = whole_signs c.args.head _ _ c.args.count c.in_ok-push.ensures.ok c.in_ok-semicolon.ensures c.requires in
    let none = rw c.in_default.is at c.in_ok-d.ensures.none in
    none d [] (subst (λ v. DeclarationStands c.args.names.now.typedefs v d []) (sym whole) w)

pub returns-then-end-count-clause-none : goal.returns-then-end-count-clause-none
returns-then-end-count-clause-none c = λ d w.
    let whole = whole_signs c.args.head _ _ c.args.count c.in_ok-push.ensures.ok c.in_ok-semicolon.ensures c.requires in
    let size = ap length c.in_ok-push.ensures.ok ∙ length_push c.args.head c.in_ok-semicolon.field-0 in
    let few : c.args.count ≤ length c.push.new.self = omega (arith, size, c.requires) in
    let found = rw c.in-Some.is at c.in_ok-d.ensures.found in
    none_whole found (signs_left c.push.new.self c.in-Some.end c.args.count c.if-end-count.true few) d (subst (λ v. DeclarationStands c.args.names.now.typedefs v d []) (sym whole) w)
