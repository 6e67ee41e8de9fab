use Rattle.std.proofs.Common.{◌+◌, subst, sym, All}
use Rattle.std.proofs.lemmas.List.{take_rest}
use Rattle.po_typed.specs.BaseTypes.{IsPlainWord}
use Rattle.po_specified.proofs.Apart.{all_plain, the_other, one_more_other}
use Rattle.po_specified.proofs.Passed.{one_more, all_passed}
use Rattle.po_specified.proofs.words.the_other.Goals as goal

pub returns-then-not-are_plain_words : goal.returns-then-not-are_plain_words
returns-then-not-are_plain_words c =
    one_more_other c.args.specs.now c.loop-i.i c.index-specs-i.result c.loop-i-test.true c.index-specs-i.is c.loop-i.invariant c.if-not-is_plain_word.ensures
    (λ all. c.if-not-are_plain_words.ensures (subst (All IsPlainWord) (sym (take_rest c.args.specs.now (c.loop-i.i + 1))) all))

pub returns-then-not-is_plain_word : goal.returns-then-not-is_plain_word
returns-then-not-is_plain_word c =
    the_other c.args.specs.now c.loop-i.i c.index-specs-i.result c.loop-i-test.true c.index-specs-i.is c.loop-i.invariant c.if-not-is_plain_word.ensures
    (subst (All IsPlainWord) (take_rest c.args.specs.now (c.loop-i.i + 1)) c.if-not-are_plain_words.ensures)

pub loop-i-preserved : goal.loop-i-preserved
loop-i-preserved c = one_more IsPlainWord c.args.specs.now c.loop-i.i c.index-specs-i.result c.loop-i-test.true c.index-specs-i.is c.loop-i.invariant c.if-not-is_plain_word.ensures

pub returns : goal.returns
returns c = all_plain c.args.specs.now (all_passed IsPlainWord c.args.specs.now c.loop-i.i c.loop-i-test.false c.loop-i.invariant)
