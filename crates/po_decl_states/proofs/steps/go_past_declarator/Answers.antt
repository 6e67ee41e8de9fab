use Rattle.po_decl_steps.specs.declared.levels.Focus.TheVariants as focus
use Rattle.po_decl_states.proofs.AtSpecifiers.{owner_known_ok}
use Rattle.po_decl_states.proofs.steps.go_past_declarator.Goals as goal

pub returns-in-Declaration-clause-goes : goal.returns-in-Declaration-clause-goes
returns-in-Declaration-clause-goes c =
    owner_known_ok c.args.tokens.now.list c.args.to c.args.at c.args.lists _ _ c.args.below c.args.level _ (focus.Behind c.args.item) c.take_part.result c.in-Declaration.is c.take_part.ensures.goes

pub returns-in-Member-clause-goes : goal.returns-in-Member-clause-goes
returns-in-Member-clause-goes c =
    owner_known_ok c.args.tokens.now.list c.args.to c.args.at c.args.lists _ _ c.args.below c.args.level _ (focus.Behind c.args.item) c.take_member.result c.in-Member.is (c.take_member.ensures.goes _)

pub returns-in-Param-clause-goes : goal.returns-in-Param-clause-goes
returns-in-Param-clause-goes c =
    owner_known_ok c.args.tokens.now.list c.args.to c.args.at c.args.lists _ _ c.args.below c.args.level _ (focus.Behind c.args.item) c.take_param.result c.in-Param.is c.take_param.ensures.goes
