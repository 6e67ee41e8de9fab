use Rattle.std.proofs.Common.{◌≡◌, ◌-◌, Some, length, sym, ap, ◌∙◌, subst}
use Rattle.std.specs.Prelude.{slice_get}
use Rattle.std.specs.Option.{is_some, option_map}
use Rattle.po_typed.specs.Scopes.{tag_here}
use Rattle.po_scopes.specs.Meanings.{as_tag}
use Rattle.po_scopes.proofs.Blocks.{tag_at_top}
use Rattle.po_scopes.proofs.scopes.Scopes.has_tag_here.Goals as goal

pub returns-in-None-find : goal.returns-in-None-find
returns-in-None-find c = ap (λ o. is_some (option_map as_tag o)) c.in-None-find.ensures ∙ sym (ap (λ bs. is_some (tag_here bs c.args.name.now)) (sym c.self.view_is) ∙ ap is_some (tag_at_top c.self.inside.scopes.items c.in-Some.scope.now c.args.name.now (subst (λ xs. Some c.in-Some.scope.now ≡ slice_get xs (length xs - 1)) c.deref.ensures.value c.in-Some.ensures.value)))

pub returns-in-Some-find : goal.returns-in-Some-find
returns-in-Some-find c = ap (λ o. is_some (option_map as_tag o)) c.in-Some-find.ensures ∙ sym (ap (λ bs. is_some (tag_here bs c.args.name.now)) (sym c.self.view_is) ∙ ap is_some (tag_at_top c.self.inside.scopes.items c.in-Some.scope.now c.args.name.now (subst (λ xs. Some c.in-Some.scope.now ≡ slice_get xs (length xs - 1)) c.deref.ensures.value c.in-Some.ensures.value)))
