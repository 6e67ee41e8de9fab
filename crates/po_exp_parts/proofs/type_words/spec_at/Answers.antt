use Rattle.std.proofs.Common.{refl}
use Rattle.po_exp_parts.specs.Seen.{typed}
use Rattle.po_exp_parts.specs.OneSpecifier.{qualifier, type_word, typedef_name, tag}
use Rattle.po_exp_parts.proofs.TypeWordsRead.{other_refused, unknown_refused}
use Rattle.std.proofs.lemmas.Bool.{iff_false}
use Rattle.po_exp_parts.proofs.type_words.spec_at.Goals as goal

pub returns-then-is_qualifier-clause-found : goal.returns-then-is_qualifier-clause-found
returns-then-is_qualifier-clause-found c =
    rw c.in_ok-share.ensures (qualifier (typed c.args.seen) (rw c.bytes.ensures at (c.if-is_qualifier.ensures.0 refl)))

pub returns-then-is_type_word-clause-found : goal.returns-then-is_type_word-clause-found
returns-then-is_type_word-clause-found c =
    rw c.in_ok-share-2.ensures (type_word (typed c.args.seen) (rw c.bytes-2.ensures at (c.if-is_type_word.ensures.0 refl)) (c.if-not-takes_word.ensures.0 refl))

pub returns-then-not-is_untyped-clause-none : goal.returns-then-not-is_untyped-clause-none
returns-then-not-is_untyped-clause-none c = λ spec now left w.
    other_refused (iff_false (rw c.bytes.ensures at c.if-is_qualifier.ensures) refl) (iff_false (rw c.bytes-2.ensures at c.if-is_type_word.ensures) refl)
    (iff_false c.if-not-is_untyped.ensures refl) w

pub returns-then-is_type_name-clause-found : goal.returns-then-is_type_name-clause-found
returns-then-is_type_name-clause-found c =
    let name = c.if-is_type_name.ensures.0 refl in
    rw (c.in_ok-share-3.ensures, c.if-not-is_untyped.ensures.0 refl) (typedef_name name.0 name.1)

pub returns-in-Some-clause-found : goal.returns-in-Some-clause-found
returns-in-Some-clause-found c =
    rw (c.if-not-is_untyped.ensures.0 refl) (tag _ _ (rw c.in-Some.is at c.in_ok-tag.ensures.found))

pub returns-in-None-clause-none : goal.returns-in-None-clause-none
returns-in-None-clause-none c = λ spec now left w.
    unknown_refused (iff_false (rw c.bytes.ensures at c.if-is_qualifier.ensures) refl) (iff_false (rw c.bytes-2.ensures at c.if-is_type_word.ensures) refl)
    (iff_false c.if-is_type_name.ensures refl) (rw c.in-None.is at c.in_ok-tag.ensures.none) w
