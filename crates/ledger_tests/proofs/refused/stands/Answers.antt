use Rattle.ledger_tests.specs.Rows.{calls}
use Rattle.ledger_tests.proofs.Plain.{post_again}
use Rattle.ledger_tests.proofs.refused.stands.Goals as goal

pub post-requires-then-eq-clause-can : goal.post-requires-then-eq-clause-can
post-requires-then-eq-clause-can c = post_again calls c.post.new.self c.args.ledger.now c.args.t.now c.post.new.t 0 c.args.q c.in-Err.ensures.err c.post.ensures.ticket c.requires.can
