use Rattle.std.proofs.Common.{refl}
use Rattle.std.proofs.lemmas.Bool.{iff_false}
use Rattle.po_decl_states.proofs.specifiers.body_at.Goals as goal

pub returns-then-not-is_untyped-clause-none : goal.returns-then-not-is_untyped-clause-none
returns-then-not-is_untyped-clause-none c = λ tag us r opens. iff_false c.if-not-is_untyped.ensures refl r

pub returns-in_default-clause-none : goal.returns-in_default-clause-none
returns-in_default-clause-none c = λ tag us r opens. let none = rw c.in_default.is at c.in_ok-tag.ensures.none in none tag us opens
