use Rattle.std.proofs.Common.{[], refl}
use Rattle.std.proofs.lemmas.Bool.{iff_false}
use Rattle.po_decl_read.proofs.OnePiece.{lone_is, stands_whole, whole_is, none_longer}
use Rattle.po_decl_read.proofs.whole.read_decl.Goals as goal

pub returns-then-is_lone-clause-found : goal.returns-then-is_lone-clause-found
returns-then-is_lone-clause-found c = lone_is _ _ _ (c.if-is_lone.ensures.0 refl) c.lone.ensures

pub returns-in_default-clause-none : goal.returns-in_default-clause-none
returns-in_default-clause-none c =
    let none = rw c.in_default.is at c.in_ok-d.ensures.none in
    λ d p. none d [] (stands_whole _ _ d (iff_false c.if-is_lone.ensures refl) p)

pub returns-then-not-is_behind-clause-none : goal.returns-then-not-is_behind-clause-none
returns-then-not-is_behind-clause-none c = λ d p.
    none_longer _ _ _ _ d c.one_declaration.ensures.at_the_front (iff_false c.if-is_lone.ensures refl) (rw c.in-Some.is at c.in_ok-d.ensures.found)
    (iff_false c.if-not-is_behind.ensures refl) p

pub returns-clause-found : goal.returns-clause-found
returns-clause-found c = whole_is _ _ _ _ (rw c.in-Some.is at c.in_ok-d.ensures.found) (c.if-not-is_behind.ensures.0 refl)
