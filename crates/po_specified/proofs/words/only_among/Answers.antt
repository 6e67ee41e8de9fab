use Rattle.std.proofs.Common.{below_more, map}
use Rattle.po_specified.specs.Words.{Allows}
use Rattle.po_specified.proofs.Passed.{of_text, of_all, at_text}
use Rattle.po_specified.proofs.words.only_among.Goals as goal

pub returns-then-not-is_allowed : goal.returns-then-not-is_allowed
returns-then-not-is_allowed c = λ all.
    c.if-not-is_allowed.ensures (at_text (Allows (map (λ w. w.now) c.args.allowed.now) c.args.specs.now) (λ w. w.now) c.args.words.now c.loop-word.word-index _ c.loop-word-test.true all)

pub loop-word-preserved : goal.loop-word-preserved
loop-word-preserved c =
    below_more _ _ c.loop-word.invariant
    (of_text (Allows (map (λ w. w.now) c.args.allowed.now) c.args.specs.now) (λ w. w.now) c.args.words.now c.loop-word.word-index _ c.loop-word-test.true c.if-not-is_allowed.ensures)

pub returns : goal.returns
returns c = of_all (Allows (map (λ w. w.now) c.args.allowed.now) c.args.specs.now) (λ w. w.now) c.args.words.now c.loop-word.word-index c.loop-word-test.false c.loop-word.invariant
