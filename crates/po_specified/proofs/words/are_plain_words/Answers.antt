use Rattle.po_typed.specs.BaseTypes.{IsPlainWord}
use Rattle.po_specified.proofs.Passed.{one_more, all_passed, of_item}
use Rattle.po_specified.proofs.words.are_plain_words.Goals as goal

pub returns-then-not-is_plain_word : goal.returns-then-not-is_plain_word
returns-then-not-is_plain_word c = λ all. c.if-not-is_plain_word.ensures (of_item IsPlainWord c.args.specs.now c.loop-specifier.specifier-index c.specifier-item.result c.loop-specifier-test.true c.specifier-item.is all)

pub loop-specifier-preserved : goal.loop-specifier-preserved
loop-specifier-preserved c =
    one_more IsPlainWord c.args.specs.now c.loop-specifier.specifier-index c.specifier-item.result c.loop-specifier-test.true c.specifier-item.is c.loop-specifier.invariant c.if-not-is_plain_word.ensures

pub returns : goal.returns
returns c = all_passed IsPlainWord c.args.specs.now c.loop-specifier.specifier-index c.loop-specifier-test.false c.loop-specifier.invariant
