use Rattle.std.proofs.Common.{refl}
use Rattle.po_decl_states.proofs.Following.{declared_untyped}
use Rattle.po_decl_states.proofs.words.is_declared.Goals as goal

pub returns : goal.returns
returns c = λ types s. declared_untyped types _ _ _ c.is_type.result s (c.if-not-is_named.ensures.0 refl) (c.if-not-is_untyped.ensures.0 refl) c.is_type.ensures
