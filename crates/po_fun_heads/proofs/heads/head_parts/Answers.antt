use Rattle.po_fun_heads.specs.Heads.{as_declaration, function_declarator}
use Rattle.po_fun_heads.proofs.AsDeclarations.{other_parts, no_function}
use Rattle.po_fun_heads.proofs.heads.head_parts.Goals as goal

pub returns-in_default-clause-none : goal.returns-in_default-clause-none
returns-in_default-clause-none c = λ specs stars name params more w.
    let none = rw c.in_default.is at c.in_ok-declaration.ensures.none in
    none (as_declaration specs (function_declarator stars name params more)) w

pub returns-in_default-only_declarator-clause-none : goal.returns-in_default-only_declarator-clause-none
returns-in_default-only_declarator-clause-none c =
    other_parts (rw c.in-Some.is at c.in_ok-declaration.ensures.found) c.in_default-only_declarator.ensures

pub returns-in_default-function_of-clause-none : goal.returns-in_default-function_of-clause-none
returns-in_default-function_of-clause-none c =
    no_function (rw c.in-Some.is at c.in_ok-declaration.ensures.found) c.in-Some-only_declarator.ensures c.in_default-function_of.ensures
