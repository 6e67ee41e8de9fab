use Rattle.std.proofs.Common.{refl, arith}
use Rattle.std.proofs.lemmas.Bool.{iff_false}
use Rattle.po_decl_states.proofs.InDeclarators.{word_goes, wrong_word_goes}
use Rattle.po_decl_states.proofs.Stepping.{gets_on_ok}
use Rattle.po_decl_states.proofs.declarators.read_word.Goals as goal

pub returns-in_default-clause-goes : goal.returns-in_default-clause-goes
returns-in_default-clause-goes c = c.read_unnamed.ensures.goes c.in_default.ensures.first

pub returns-then-not-is_declared-clause-goes : goal.returns-then-not-is_declared-clause-goes
returns-then-not-is_declared-clause-goes c =
    wrong_word_goes c.args.tokens.now.list c.args.to c.args.at c.args.lists _ c.args.below c.args.level c.args.stars _ c.in-Some.ensures.first.1 (λ types s. iff_false (c.if-not-is_declared.ensures types s) refl)

pub returns-clause-goes : goal.returns-clause-goes
returns-clause-goes c =
    word_goes c.args.tokens.now.list c.args.to c.args.at c.args.lists _ _ c.args.below c.args.level c.args.stars _ c.read_suffix.result c.in-Some.ensures.first.1 (λ types s. (c.if-not-is_declared.ensures types s).0 refl)
    (rw c.in_ok-share.ensures at c.read_suffix.ensures.goes)

pub returns-clause-on : goal.returns-clause-on
returns-clause-on c =
    let within = c.in-Some.ensures.within in
    gets_on_ok c.args.tokens.now.list c.args.to c.args.at _ c.args.lists _ _ c.read_suffix.result (omega arith) (omega arith) c.read_suffix.ensures.on
