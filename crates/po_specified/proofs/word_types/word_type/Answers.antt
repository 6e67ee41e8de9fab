use Rattle.std.proofs.Common.{sym, subst}
use Rattle.po_typed.specs.BaseTypes.{IsWordType}
use Rattle.po_specified.proofs.TypeWordsCounted.{typed, untyped, not_words}
use Rattle.po_specified.proofs.word_types.word_type.Goals as goal

pub returns-then-not-are_words : goal.returns-then-not-are_words
returns-then-not-are_words c = not_words c.args.target c.args.specs.now c.if-not-are_words.ensures

pub returns-in-None : goal.returns-in-None
returns-in-None c = untyped c.args.target c.args.specs.now c.counts.result c.counts.ensures c.in-None.ensures.among

pub returns-in-Some : goal.returns-in-Some
returns-in-Some c =
    subst (IsWordType c.args.target c.args.specs.now) (sym c.row_type.ensures)
    (typed c.args.target c.args.specs.now c.counts.result c.in-Some.row c.if-not-are_words.ensures c.counts.ensures c.in-Some.ensures.row)
