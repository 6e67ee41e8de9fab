use Rattle.po_fun_laws.proofs.Rules.{statement_no_declaration}
use Rattle.po_fun_laws.proofs.laws.statements_begin_no_declaration.Goals as goal

pub returns : goal.returns
returns c = λ types behind x d left rest w v q. statement_no_declaration left rest w v q
