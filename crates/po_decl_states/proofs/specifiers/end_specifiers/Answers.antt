use Rattle.std.proofs.Common.{refl}
use Rattle.std.proofs.lemmas.Bool.{iff_false}
use Rattle.po_decl_steps.specs.declared.levels.Focus.TheVariants as focus
use Rattle.po_decl_states.proofs.AtSpecifiers.{nothing_ends, member_ends, param_ends, owner_known}
use Rattle.po_decl_states.proofs.specifiers.end_specifiers.Goals as goal

pub returns-then-is_empty-clause-goes : goal.returns-then-is_empty-clause-goes
returns-then-is_empty-clause-goes c = λ names ends.
    nothing_ends c.args.tokens.now.list c.args.to c.args.at c.args.lists names c.args.below c.args.level (c.if-is_empty.ensures.0 refl) ends

pub returns-in-Declaration-clause-goes : goal.returns-in-Declaration-clause-goes
returns-in-Declaration-clause-goes c = λ names ends.
    owner_known c.args.tokens.now.list c.args.to c.args.at c.args.lists names names c.args.below c.args.level _ focus.Specifiers c.end_declaration.result c.in-Declaration.is (c.end_declaration.ensures.goes names ends)

pub returns-in-Member-clause-goes : goal.returns-in-Member-clause-goes
returns-in-Member-clause-goes c = λ names ends.
    member_ends c.args.tokens.now.list c.args.to c.args.at c.args.lists names c.args.below c.args.level c.in-Member.tag c.in-Member.members c.in-Member.declarators c.in-Member.is (iff_false c.if-is_empty.ensures refl) ends

pub returns-in-Param-clause-goes : goal.returns-in-Param-clause-goes
returns-in-Param-clause-goes c = λ names ends.
    param_ends c.args.tokens.now.list c.args.to c.args.at c.args.lists names c.args.below c.args.level c.in-Param.stars c.in-Param.word c.in-Param.params c.in-Param.is (iff_false c.if-is_empty.ensures refl) ends
