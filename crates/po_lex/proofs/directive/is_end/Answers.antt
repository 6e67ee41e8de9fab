use Rattle.po_lex.proofs.Directives.{end_told}
use Rattle.po_lex.proofs.directive.is_end.Goals as goal

pub returns : goal.returns
returns c = end_told c.args.line.now c.args.at
