use Rattle.po_specified.specs.Words.{IsSomeWord}
use Rattle.po_specified.proofs.Passed.{one_more, all_passed, of_item}
use Rattle.po_specified.proofs.words.are_words.Goals as goal

pub returns-in-None : goal.returns-in-None
returns-in-None c = λ all. c.in-None.ensures (of_item IsSomeWord c.args.specs.now c.loop-specifier.specifier-index c.specifier-item.result c.loop-specifier-test.true c.specifier-item.is all)

pub loop-specifier-preserved : goal.loop-specifier-preserved
loop-specifier-preserved c =
    one_more IsSomeWord c.args.specs.now c.loop-specifier.specifier-index c.specifier-item.result c.loop-specifier-test.true c.specifier-item.is c.loop-specifier.invariant (_, c.in-Some.ensures)

pub returns : goal.returns
returns c = all_passed IsSomeWord c.args.specs.now c.loop-specifier.specifier-index c.loop-specifier-test.false c.loop-specifier.invariant
