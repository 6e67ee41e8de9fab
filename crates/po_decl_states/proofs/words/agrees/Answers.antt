use Rattle.po_decl_states.proofs.Following.{agrees_true, agrees_false}
use Rattle.po_decl_states.proofs.words.agrees.Goals as goal

pub returns-then-typedef : goal.returns-then-typedef
returns-then-typedef c = agrees_true c.args.typedef c.is_typedef-told.result c.if-typedef.true c.is_typedef-told.ensures

pub returns : goal.returns
returns c = agrees_false c.args.typedef c.is_typedef-told.result c.if-typedef.false c.is_typedef-told.ensures
