use Rattle.po_decl_states.proofs.BehindParts.{part_goes, undeclared_goes}
use Rattle.po_decl_states.proofs.parts.take_part.Goals as goal

pub returns-in_default-clause-goes : goal.returns-in_default-clause-goes
returns-in_default-clause-goes c =
    undeclared_goes c.args.tokens.now.list c.args.to c.args.at c.args.lists _ c.args.below c.args.specs c.args.free c.args.seen c.args.typedef c.args.parts c.args.item c.in_default.is

pub returns-clause-goes : goal.returns-clause-goes
returns-clause-goes c =
    let kept = c.in_ok-declare_word.ensures.kept in
    part_goes c.args.tokens.now.list c.args.to c.args.at c.args.lists _ _ _ c.args.below c.args.specs c.args.free c.args.seen c.args.typedef c.args.parts c.args.item _ c.read_part.result c.in-Some.is kept.0 kept.1
    c.in_ok-declare_word.ensures.same c.read_part.ensures.goes
