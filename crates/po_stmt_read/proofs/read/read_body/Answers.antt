use Rattle.std.proofs.lemmas.Result.{IfOk-weaker}
use Rattle.po_stmt_read.proofs.Bodies.{body_found, body_none}
use Rattle.po_stmt_read.proofs.read.read_body.Goals as goal

pub returns-clause-found : goal.returns-clause-found
returns-clause-found c = λ types same. IfOk-weaker c.items.result _ _ (body_found types c.args.tokens.now.list c.args.at c.args.to) (c.items.ensures.read types same)

pub returns-clause-none : goal.returns-clause-none
returns-clause-none c = λ types same. IfOk-weaker c.items.result _ _ (body_none types c.args.tokens.now.list c.args.at c.args.to) (c.items.ensures.read types same)
