use Rattle.std.proofs.Common.{refl}
use Rattle.po_decl_parts.specs.Specifiers.{enum_tag}
use Rattle.po_decl_parts.proofs.specifiers.enum_at.Goals as goal

pub returns-in_default-clause-none : goal.returns-in_default-clause-none
returns-in_default-clause-none c = λ outer types s. c.enum_body_at.ensures.none outer types s c.in_default.ensures.first

pub returns-clause-found : goal.returns-clause-found
returns-clause-found c = λ outer types s.
    let first = c.in-Some.ensures.first in
    rw c.in_ok-share.ensures (types, enum_tag _ types _ _ refl first.0 first.1 first.2, s)
