use Rattle.std.proofs.Common.{Some, sym, ap, ◌∙◌}
use Rattle.po_scopes.specs.Meanings.{as_storage, as_meaning}
use Rattle.po_typed.specs.Scopes.{local, automatic, in_static}
use Rattle.po_typed.specs.Expressions.{address_global, address_local}
use Rattle.po_operands.proofs.names.has_stored_address.Goals as goal

pub returns-else-is_void : goal.returns-else-is_void
returns-else-is_void c = address_global (sym c.in-Some.ensures ∙ ap (λ m. Some (as_meaning m)) c.in-Global.is) (λ q. let f = c.if-is_void.ensures.1 q in absurd cc)

pub returns-in-Automatic : goal.returns-in-Automatic
returns-in-Automatic c = address_local {s = automatic} (sym c.in-Some.ensures ∙ ap (λ m. Some (as_meaning m)) c.in-Local.is ∙ ap (λ s. Some (local (as_storage s) c.in-Local.field-1.now)) c.in-Automatic.is) (λ q. absurd cc)

pub returns-in-Static : goal.returns-in-Static
returns-in-Static c = address_local {s = in_static} (sym c.in-Some.ensures ∙ ap (λ m. Some (as_meaning m)) c.in-Local.is ∙ ap (λ s. Some (local (as_storage s) c.in-Local.field-1.now)) c.in-Static.is) (λ q. absurd cc)
