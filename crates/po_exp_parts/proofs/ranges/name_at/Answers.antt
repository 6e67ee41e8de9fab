use Rattle.std.proofs.Common.{refl}
use Rattle.std.proofs.lemmas.Bool.{iff_false}
use Rattle.po_exp_parts.proofs.RangePlaces.{name_word, name_is}
use Rattle.po_exp_parts.proofs.ranges.name_at.Goals as goal

pub returns-in_default-clause-first : goal.returns-in_default-clause-first
returns-in_default-clause-first c = λ name h. c.in_default.ensures.first (name_word name _ h)

pub returns-then-not-is_name-clause-first : goal.returns-then-not-is_name-clause-first
returns-then-not-is_name-clause-first c = λ name h. iff_false (rw c.bytes.ensures at c.if-not-is_name.ensures) refl (name_is name c.in-Some.ensures.first h)

pub returns-clause-first : goal.returns-clause-first
returns-clause-first c = (rw c.bytes.ensures at (c.if-not-is_name.ensures.0 refl), c.in-Some.ensures.first)
