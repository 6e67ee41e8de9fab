use Rattle.std.proofs.Common.{refl, arith}
use Rattle.po_decl_steps.specs.declared.levels.Focus.TheVariants as focus
use Rattle.po_decl_states.proofs.AtSpecifiers.{focus_known_ok, gets_on_known}
use Rattle.po_decl_states.proofs.Stepping.{gets_on_ok}
use Rattle.po_decl_states.proofs.steps.take_step.Goals as goal

pub returns-in-Specifiers-clause-goes : goal.returns-in-Specifiers-clause-goes
returns-in-Specifiers-clause-goes c =
    focus_known_ok c.args.tokens.now.list c.args.to c.args.state.at c.args.state.lists _ _ c.args.state.below c.args.state.level c.args.state.focus focus.Specifiers c.take_specifier.result c.in-Specifiers.is c.take_specifier.ensures.goes

pub returns-in-Specifiers-clause-on : goal.returns-in-Specifiers-clause-on
returns-in-Specifiers-clause-on c =
    gets_on_known c.args.tokens.now.list c.args.to c.args.state.at c.args.state.lists 2 c.args.state.focus focus.Specifiers c.take_specifier.result c.in-Specifiers.is refl c.take_specifier.ensures.on

pub returns-in-Declarator-clause-goes : goal.returns-in-Declarator-clause-goes
returns-in-Declarator-clause-goes c =
    focus_known_ok c.args.tokens.now.list c.args.to c.args.state.at c.args.state.lists _ _ c.args.state.below c.args.state.level c.args.state.focus focus.Declarator c.take_declarator.result c.in-Declarator.is c.take_declarator.ensures.goes

pub returns-in-Declarator-clause-on : goal.returns-in-Declarator-clause-on
returns-in-Declarator-clause-on c =
    gets_on_known c.args.tokens.now.list c.args.to c.args.state.at c.args.state.lists 1 c.args.state.focus focus.Declarator c.take_declarator.result c.in-Declarator.is refl c.take_declarator.ensures.on

pub returns-in-Behind-clause-goes : goal.returns-in-Behind-clause-goes
returns-in-Behind-clause-goes c =
    focus_known_ok c.args.tokens.now.list c.args.to c.args.state.at c.args.state.lists _ _ c.args.state.below c.args.state.level c.args.state.focus (focus.Behind c.in-Behind.item) c.go_past_declarator.result c.in-Behind.is c.go_past_declarator.ensures.goes

pub returns-in-Behind-clause-on : goal.returns-in-Behind-clause-on
returns-in-Behind-clause-on c =
    gets_on_known c.args.tokens.now.list c.args.to c.args.state.at c.args.state.lists 0 c.args.state.focus (focus.Behind c.in-Behind.item) c.go_past_declarator.result c.in-Behind.is refl
    (gets_on_ok c.args.tokens.now.list c.args.to c.args.state.at c.args.state.at c.args.state.lists _ _ c.go_past_declarator.result (omega arith) (omega arith) c.go_past_declarator.ensures.on)
