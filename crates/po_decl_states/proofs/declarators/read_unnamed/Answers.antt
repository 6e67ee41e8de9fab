use Rattle.std.proofs.Common.{sym}
use Rattle.po_decl_states.proofs.InDeclarators.{no_word_goes, word_missing_goes}
use Rattle.po_decl_states.proofs.declarators.read_unnamed.Goals as goal

pub returns-then-not-is_parameter-clause-goes : goal.returns-then-not-is_parameter-clause-goes
returns-then-not-is_parameter-clause-goes c = λ none.
    word_missing_goes c.args.tokens.now.list c.args.to c.args.at c.args.lists _ c.args.below c.args.level c.args.stars none (λ q. let other = c.if-not-is_parameter.ensures in cc)

pub returns-clause-goes : goal.returns-clause-goes
returns-clause-goes c = λ none.
    no_word_goes c.args.tokens.now.list c.args.to c.args.at c.args.lists _ _ c.args.below c.args.level c.args.stars c.read_suffix.result none (sym c.if-not-is_parameter.ensures) c.read_suffix.ensures.goes
