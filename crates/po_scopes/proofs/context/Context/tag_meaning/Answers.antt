use Rattle.std.proofs.Common.{ap, ◌∙◌}
use Rattle.po_typed.specs.Scopes.{tag_meaning}
use Rattle.po_scopes.specs.Meanings.{as_tag}
use Rattle.po_scopes.proofs.Files.{tag_first, tags_behind}
use Rattle.po_scopes.proofs.context.Context.tag_meaning.Goals as goal

pub returns-in-Some : goal.returns-in-Some
returns-in-Some c = tag_first c.self.inside.env.now c.args.name.now c.self.inside.scopes.now (as_tag c.in-Some.tag) c.in-Some.ensures ∙ ap (λ ctx. tag_meaning ctx c.args.name.now) c.self.view_is

pub returns-in-None : goal.returns-in-None
returns-in-None c = c.file_tag.ensures ∙ tags_behind c.self.inside.env.now c.args.name.now c.self.inside.scopes.now c.in-None.ensures ∙ ap (λ ctx. tag_meaning ctx c.args.name.now) c.self.view_is
