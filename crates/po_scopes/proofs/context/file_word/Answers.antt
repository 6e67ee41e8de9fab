use Rattle.std.proofs.Common.{ap, ◌∙◌, Some, None}
use Rattle.po_scopes.proofs.Files.{global_first, typedef_second, constant_third}
use Rattle.po_scopes.proofs.context.file_word.Goals as goal

pub returns-in-Some : goal.returns-in-Some
returns-in-Some c = ap Some c.of_global.ensures ∙ global_first c.args.env.now c.args.name.now c.in-Some.entry.now c.in-Some.ensures

pub returns-in-Some-find : goal.returns-in-Some-find
returns-in-Some-find c = ap Some c.of_typedef.ensures ∙ typedef_second c.args.env.now c.args.name.now c.in-Some-find.entry.now c.in-None.ensures c.in-Some-find.ensures

pub returns-in-Some-find-2 : goal.returns-in-Some-find-2
returns-in-Some-find-2 c = ap Some c.of_constant.ensures ∙ constant_third c.args.env.now c.args.name.now (Some c.in-Some-find-2.value.now) c.in-None.ensures c.in-None-find.ensures c.in-Some-find-2.ensures

pub returns-in-None-find-2 : goal.returns-in-None-find-2
returns-in-None-find-2 c = constant_third c.args.env.now c.args.name.now None c.in-None.ensures c.in-None-find.ensures c.in-None-find-2.ensures
