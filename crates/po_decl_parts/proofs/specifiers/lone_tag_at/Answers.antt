use Rattle.std.proofs.Common.{refl}
use Rattle.std.proofs.lemmas.Bool.{iff_false}
use Rattle.po_decl_parts.proofs.FirstWords.{no_lone_tag, closed_tag}
use Rattle.po_decl_parts.proofs.specifiers.lone_tag_at.Goals as goal

pub returns-in_default-clause-first : goal.returns-in_default-clause-first
returns-in_default-clause-first c = no_lone_tag c.in_default.ensures.first

pub returns-then-stands-clause-first : goal.returns-then-stands-clause-first
returns-then-stands-clause-first c = closed_tag c.in-Some.ensures.first.1 (c.if-stands.ensures.first.0 refl)

pub returns-clause-first : goal.returns-clause-first
returns-clause-first c = (c.in-Some.ensures.first.0, c.in-Some.ensures.first.1, iff_false c.if-stands.ensures.first refl)
