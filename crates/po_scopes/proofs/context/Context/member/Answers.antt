use Rattle.std.proofs.Common.{[], get_or, ap, ◌∙◌}
use Rattle.po_types.specs.Tables.{found}
use Rattle.po_scopes.proofs.Files.{no_member, some_member}
use Rattle.po_scopes.proofs.context.Context.member.Goals as goal

pub returns-in-None : goal.returns-in-None
returns-in-None c = no_member c.self.inside.env.now.members c.args.n c.args.name.now c.in-None.ensures.value ∙ ap (λ ctx. found (get_or ctx.members c.args.n []) c.args.name.now) c.self.view_is

pub returns-in-Some : goal.returns-in-Some
returns-in-Some c = c.find.ensures ∙ ap (λ m. found m c.args.name.now) (some_member c.self.inside.env.now.members c.args.n c.in-Some.members.now c.in-Some.ensures.value) ∙ ap (λ ctx. found (get_or ctx.members c.args.n []) c.args.name.now) c.self.view_is
