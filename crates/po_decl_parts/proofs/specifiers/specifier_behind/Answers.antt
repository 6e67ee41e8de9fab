use Rattle.std.proofs.Common.{refl}
use Rattle.std.proofs.lemmas.Bool.{iff_false}
use Rattle.po_decl_parts.specs.Specifiers.{storage_class, inline_word, qualifier, type_word}
use Rattle.po_decl_parts.proofs.FirstWords.{no_storage, no_inline, no_type_word, no_typed, specifier_word}
use Rattle.po_decl_parts.proofs.specifiers.specifier_behind.Goals as goal

pub returns-then-is_qualifier-clause-found : goal.returns-then-is_qualifier-clause-found
returns-then-is_qualifier-clause-found c = λ types s.
    rw c.in_ok-of_word.ensures (types, qualifier _ types _ (rw c.bytes.ensures at (c.if-is_qualifier.ensures.0 refl)), s)

pub returns-then-not-free-clause-none : goal.returns-then-not-free-clause-none
returns-then-not-free-clause-none c = λ types s spec free' behind seen' us w.
    no_storage (rw c.bytes-2.ensures at (c.if-is_storage_class.ensures.0 refl)) c.if-not-free.true w

pub returns-then-is_storage_class-clause-found : goal.returns-then-is_storage_class-clause-found
returns-then-is_storage_class-clause-found c = λ types s.
    rw (c.in_ok-of_word-2.ensures, c.if-not-free.false) (types, storage_class types _ (rw c.bytes-2.ensures at (c.if-is_storage_class.ensures.0 refl)), s)

pub returns-then-not-outer-clause-none : goal.returns-then-not-outer-clause-none
returns-then-not-outer-clause-none c = λ types s spec free' behind seen' us w. no_inline (c.if-is_word.ensures.0 refl) c.if-not-outer.true w

pub returns-then-is_word-clause-found : goal.returns-then-is_word-clause-found
returns-then-is_word-clause-found c = λ types s.
    rw c.in_ok-of_word-3.ensures (types, inline_word _ types _ (c.if-is_word.ensures.0 refl) c.if-not-outer.false, s)

pub returns-then-not-takes_word-clause-none : goal.returns-then-not-takes_word-clause-none
returns-then-not-takes_word-clause-none c = λ types s spec free' behind seen' us w.
    no_type_word (rw c.bytes-3.ensures at (c.if-is_type_word.ensures.0 refl)) (iff_false c.if-not-takes_word.ensures refl) w

pub returns-then-is_type_word-clause-found : goal.returns-then-is_type_word-clause-found
returns-then-is_type_word-clause-found c = λ types s.
    rw c.in_ok-of_word-4.ensures (types, type_word _ types _ (rw c.bytes-3.ensures at (c.if-is_type_word.ensures.0 refl)) (c.if-not-takes_word.ensures.0 refl), s)

pub returns-then-not-is_untyped-clause-none : goal.returns-then-not-is_untyped-clause-none
returns-then-not-is_untyped-clause-none c = λ types s spec free' behind seen' us w.
    no_typed (specifier_word (iff_false (rw c.bytes.ensures at c.if-is_qualifier.ensures) refl) (iff_false (rw c.bytes-2.ensures at c.if-is_storage_class.ensures) refl)
    (iff_false c.if-is_word.ensures refl) (iff_false (rw c.bytes-3.ensures at c.if-is_type_word.ensures) refl))
    (iff_false c.if-not-is_untyped.ensures refl) w

pub returns-clause-found : goal.returns-clause-found
returns-clause-found c = λ types s. rw (c.if-not-is_untyped.ensures.0 refl) (c.first_type.ensures.found c.args.outer types s)

pub returns-clause-none : goal.returns-clause-none
returns-clause-none c = λ types s.
    rw (c.if-not-is_untyped.ensures.0 refl) (c.first_type.ensures.none c.args.outer types s
    (specifier_word (iff_false (rw c.bytes.ensures at c.if-is_qualifier.ensures) refl) (iff_false (rw c.bytes-2.ensures at c.if-is_storage_class.ensures) refl)
    (iff_false c.if-is_word.ensures refl) (iff_false (rw c.bytes-3.ensures at c.if-is_type_word.ensures) refl)))
