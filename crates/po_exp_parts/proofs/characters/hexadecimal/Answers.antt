use Rattle.std.proofs.Common.{◌∙◌}
use Rattle.po_exp_parts.proofs.Escapes.{hexadecimal_row}
use Rattle.po_exp_parts.proofs.characters.hexadecimal.Goals as goal

pub returns-then-digit-lt16-clause-exact : goal.returns-then-digit-lt16-clause-exact
returns-then-digit-lt16-clause-exact c =
    c.row.ensures.exact ∙ hexadecimal_row c.args.text.now c.args.at c.if-at-text.false (rw c.digit.ensures at c.if-digit-lt16.true)
