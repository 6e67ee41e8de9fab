use Rattle.std.proofs.Common.{◌≡◌}
use Rattle.std.proofs.lemmas.List.Elements.{All-contains}
use Rattle.po_tree.specs.declared.expression.Specifier.TheVariants as sp
use Rattle.po_specified.proofs.Passed.{one_more, all_passed, contains_item}
use Rattle.po_specified.proofs.words.has_word.Goals as goal

pub loop-specifier-preserved : goal.loop-specifier-preserved
loop-specifier-preserved c =
    one_more (λ s. s ≡ sp.Word c.args.word.now → ⊥) c.args.specs.now c.loop-specifier.specifier-index c.specifier-item.result c.loop-specifier-test.true c.specifier-item.is
    c.loop-specifier.invariant c.if-is_word.ensures.is

pub returns-then-is_word : goal.returns-then-is_word
returns-then-is_word c =
    contains_item c.args.specs.now c.loop-specifier.specifier-index c.specifier-item.result _ c.loop-specifier-test.true c.specifier-item.is c.if-is_word.ensures.is

pub returns : goal.returns
returns c = λ h.
    All-contains (λ s. s ≡ sp.Word c.args.word.now → ⊥) c.args.specs.now _ (all_passed (λ s. s ≡ sp.Word c.args.word.now → ⊥) c.args.specs.now c.loop-specifier.specifier-index c.loop-specifier-test.false c.loop-specifier.invariant) h (λ i. sp.Word c.args.word.now)
