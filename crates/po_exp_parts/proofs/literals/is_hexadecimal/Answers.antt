use Rattle.std.proofs.Common.{arith}
use Rattle.po_exp_parts.proofs.Constants.{short_zero, octal}
use Rattle.po_exp_parts.proofs.literals.is_hexadecimal.Goals as goal

pub returns-then-text-at-lt2-clause-behind : goal.returns-then-text-at-lt2-clause-behind
returns-then-text-at-lt2-clause-behind c = short_zero _ _ c.if-text-at-lt2.true

pub returns-then-text-at-ne88-clause-behind : goal.returns-then-text-at-ne88-clause-behind
returns-then-text-at-ne88-clause-behind c = octal c.args.text.now c.args.at (omega arith) c.if-text-at-ne120.true c.if-text-at-ne88.true
