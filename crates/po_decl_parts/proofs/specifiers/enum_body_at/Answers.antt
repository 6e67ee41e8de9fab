use Rattle.std.proofs.Common.{refl}
use Rattle.po_decl_parts.specs.Specifiers.{enum_body}
use Rattle.po_decl_parts.proofs.FirstWords.{no_enumeration, no_enumerators}
use Rattle.po_decl_parts.proofs.specifiers.enum_body_at.Goals as goal

pub returns-in_default-clause-none : goal.returns-in_default-clause-none
returns-in_default-clause-none c = λ outer types s lone spec free' behind seen' us w.
    let none = rw c.in_default.is at c.in_ok-tag.ensures.none in
    no_enumeration refl lone (λ tag vs t items more after left v. none tag vs t) w

pub returns-in_default-2-clause-none : goal.returns-in_default-2-clause-none
returns-in_default-2-clause-none c = λ outer types s lone spec free' behind seen' us w.
    no_enumeration refl lone (no_enumerators (rw c.in-Some.is at c.in_ok-tag.ensures.found) (rw c.in_default-2.is at (c.in_ok-body.ensures.none types s))) w

pub returns-clause-found : goal.returns-clause-found
returns-clause-found c = λ outer types s.
    let e = rw c.in-Some-2.is at (c.in_ok-body.ensures.found types s) in
    (e.0, enum_body _ _ types e.0 _ _ _ _ refl (rw c.in-Some.is at c.in_ok-tag.ensures.found) e.1, e.2)
