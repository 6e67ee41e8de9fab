use Rattle.std.proofs.Common.{refl, arith}
use Rattle.std.proofs.lemmas.Bool.{iff_false}
use Rattle.po_decl_states.proofs.InDeclarators.{opened_goes, empty_goes}
use Rattle.po_decl_states.proofs.Stepping.{gets_on_ok}
use Rattle.po_decl_states.proofs.declarators.read_suffix.Goals as goal

pub returns-then-not-stands-clause-goes : goal.returns-then-not-stands-clause-goes
returns-then-not-stands-clause-goes c = c.read_sizes.ensures.goes (iff_false c.if-not-stands.ensures.first refl)

pub returns-then-not-stands-2-clause-goes : goal.returns-then-not-stands-2-clause-goes
returns-then-not-stands-2-clause-goes c =
    opened_goes c.args.tokens.now.list c.args.to c.args.at c.args.lists _ _ c.args.below c.args.level c.args.stars c.args.word c.open_list.result c.if-not-stands.ensures.behind
    (c.open_list.ensures.goes c.args.tokens.now.list c.args.to (iff_false c.if-not-stands-2.ensures.first refl))

pub returns-then-not-stands-2-clause-on : goal.returns-then-not-stands-2-clause-on
returns-then-not-stands-2-clause-on c =
    let within = c.if-not-stands.ensures.within in
    gets_on_ok c.args.tokens.now.list c.args.to c.args.at _ c.args.lists _ _ c.open_list.result (omega arith) (omega (arith, within.1)) (c.open_list.ensures.on c.args.tokens.now.list c.args.to (omega (arith, within.1)))

pub returns-clause-goes : goal.returns-clause-goes
returns-clause-goes c =
    rw c.new.ensures (empty_goes c.args.tokens.now.list c.args.to c.args.at c.args.lists _ c.args.below c.args.level c.args.stars c.args.word c.if-not-stands.ensures.behind c.if-not-stands-2.ensures.behind)
