use Rattle.std.proofs.Common.{refl}
use Rattle.po_decl_parts.specs.Specifiers.{struct_tag}
use Rattle.po_decl_parts.proofs.FirstWords.{no_struct}
use Rattle.po_decl_parts.proofs.specifiers.struct_at.Goals as goal

pub returns-in_default-clause-none : goal.returns-in_default-clause-none
returns-in_default-clause-none c = λ outer types spec free' behind seen' us w. no_struct refl c.in_default.ensures.first w

pub returns-clause-found : goal.returns-clause-found
returns-clause-found c = λ outer types now s.
    let first = c.in-Some.ensures.first in
    rw c.in_ok-share.ensures (types, struct_tag _ types _ _ refl first.0 first.1 first.2, s)
