use Rattle.std.proofs.Common.{Some, sym, ap, ◌∙◌}
use Rattle.po_scopes.specs.Meanings.{as_meaning}
use Rattle.po_typed.specs.Expressions.{of_file, of_block}
use Rattle.po_operands.proofs.names.is_object.Goals as goal

pub returns-in-Global : goal.returns-in-Global
returns-in-Global c = of_file (sym c.in-Some.ensures ∙ ap (λ m. Some (as_meaning m)) c.in-Global.is)

pub returns-in-Local : goal.returns-in-Local
returns-in-Local c = of_block (sym c.in-Some.ensures ∙ ap (λ m. Some (as_meaning m)) c.in-Local.is)
