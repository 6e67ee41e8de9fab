use Rattle.std.proofs.Common.{Some, ap, ◌∙◌}
use Rattle.po_typed.specs.Scopes.{meaning}
use Rattle.po_scopes.specs.Meanings.{as_local}
use Rattle.po_scopes.proofs.Files.{local_first, file_behind}
use Rattle.po_scopes.proofs.context.Context.meaning.Goals as goal

pub returns-in-Some : goal.returns-in-Some
returns-in-Some c = ap Some c.of_local.ensures ∙ local_first c.self.inside.env.now c.args.name.now c.self.inside.scopes.now (as_local c.in-Some.local.now) c.in-Some.ensures ∙ ap (λ ctx. meaning ctx c.args.name.now) c.self.view_is

pub returns-in-None : goal.returns-in-None
returns-in-None c = c.file_word.ensures ∙ file_behind c.self.inside.env.now c.args.name.now c.self.inside.scopes.now c.in-None.ensures ∙ ap (λ ctx. meaning ctx c.args.name.now) c.self.view_is
