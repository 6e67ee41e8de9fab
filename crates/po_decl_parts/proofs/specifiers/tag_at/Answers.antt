use Rattle.std.proofs.Common.{refl}
use Rattle.std.proofs.lemmas.Bool.{iff_false}
use Rattle.po_decl_parts.specs.Specifiers.{no_tag}
use Rattle.po_decl_parts.proofs.FirstWords.{tag_none, tag_open, tag_by}
use Rattle.po_decl_parts.proofs.specifiers.tag_at.Goals as goal

pub returns-then-stands-clause-found : goal.returns-then-stands-clause-found
returns-then-stands-clause-found c = no_tag _ c.if-stands.ensures.behind

pub returns-in_default-clause-none : goal.returns-in_default-clause-none
returns-in_default-clause-none c = tag_none (iff_false c.if-stands.ensures.first refl) c.in_default.ensures.first

pub returns-then-not-stands-clause-none : goal.returns-then-not-stands-clause-none
returns-then-not-stands-clause-none c = tag_open c.in-Some.ensures.first.1 (iff_false c.if-not-stands.ensures.first refl)

pub returns-clause-found : goal.returns-clause-found
returns-clause-found c = rw c.in_ok-share.ensures (tag_by c.in-Some.ensures.first c.if-not-stands.ensures.behind)
