-- What may stand behind a statement.
use Rattle.std.specs.Prelude.{◌≡◌, true, List, codes}
use Rattle.po_tree.specs.declared.statement.Stmt.{Stmt}
use Rattle.po_tree.specs.Signs.{Sign, word}
use Rattle.po_tree.specs.Statements.{takes_else}
use Rattle.po_exp_parts.specs.Places.{Begins}

-- no `else` behind a statement that takes one: it would belong to the last `if` in there (6.8.4.1p3)
abbrev pub EndsStatement : Stmt → List Sign → Type 0
EndsStatement s signs = takes_else s ≡ true → Begins (word (codes "else")) signs → ⊥
