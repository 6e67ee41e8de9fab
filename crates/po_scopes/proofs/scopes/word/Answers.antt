use Rattle.std.proofs.Common.{arith}
use Rattle.po_scopes.proofs.Blocks.{word_found, word_passed}
use Rattle.po_scopes.proofs.scopes.word.Goals as goal

pub returns-in-Some : goal.returns-in-Some
returns-in-Some c = word_found c.args.scopes.now c.loop-left.left c.index-scopes-left.result c.args.name.now c.loop-left-test.true c.loop-left.invariant.1 c.in-Some.local.now c.in-Some.ensures c.loop-left.invariant.0

pub loop-left-preserved : goal.loop-left-preserved
loop-left-preserved c = (word_passed c.args.scopes.now c.loop-left.left c.index-scopes-left.result c.args.name.now c.loop-left-test.true c.loop-left.invariant.1 c.in-None.ensures c.loop-left.invariant.0, let l = c.loop-left.invariant.1 in omega arith)
