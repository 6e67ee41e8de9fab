use Rattle.std.proofs.Common.{refl}
use Rattle.std.proofs.lemmas.Bool.{iff_false}
use Rattle.po_decl_parts.specs.Specifiers.{typedef_name}
use Rattle.po_decl_parts.proofs.FirstWords.{no_name}
use Rattle.po_decl_parts.proofs.specifiers.first_type.Goals as goal

pub returns-then-is_word-clause-found : goal.returns-then-is_word-clause-found
returns-then-is_word-clause-found c = λ outer types s. rw (c.if-is_word.ensures.0 refl) (c.enum_at.ensures.found outer types s)

pub returns-then-is_word-clause-none : goal.returns-then-is_word-clause-none
returns-then-is_word-clause-none c = λ outer types s plain. rw (c.if-is_word.ensures.0 refl) (c.enum_at.ensures.none outer types s)

pub returns-then-is_word-2-clause-found : goal.returns-then-is_word-2-clause-found
returns-then-is_word-2-clause-found c = λ outer types s. rw (c.if-is_word-2.ensures.0 refl) (c.struct_at.ensures.found outer types _ s)

pub returns-then-is_word-2-clause-none : goal.returns-then-is_word-2-clause-none
returns-then-is_word-2-clause-none c = λ outer types s plain. rw (c.if-is_word-2.ensures.0 refl) (c.struct_at.ensures.none outer types)

pub returns-then-not-is_type_name-clause-none : goal.returns-then-not-is_type_name-clause-none
returns-then-not-is_type_name-clause-none c = λ outer types s plain spec free' behind seen' us w.
    no_name plain (iff_false c.if-is_word.ensures refl) (iff_false c.if-is_word-2.ensures refl) (λ h. iff_false c.if-not-is_type_name.ensures refl (h.0, (s _).0 h.1)) w

pub returns-clause-found : goal.returns-clause-found
returns-clause-found c = λ outer types s.
    let is = c.if-not-is_type_name.ensures.0 refl in
    rw c.in_ok-share.ensures (types, typedef_name _ types is.0 ((s _).1 is.1), s)
