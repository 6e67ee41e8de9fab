use Rattle.std.proofs.Common.{refl}
use Rattle.std.proofs.lemmas.Bool.{iff_false}
use Rattle.po_tree.specs.Signs.{word}
use Rattle.po_exp_parts.proofs.Standing.{stands_first, stands_within}
use Rattle.po_exp_parts.proofs.Starred.{qualifier_word, not_qualifier}
use Rattle.po_exp_parts.proofs.stars.qualifier_at.Goals as goal

pub returns-in_default-clause-first : goal.returns-in_default-clause-first
returns-in_default-clause-first c = λ b. c.in_default.ensures (qualifier_word _ b)

pub returns-then-not-is_qualifier-clause-first : goal.returns-then-not-is_qualifier-clause-first
returns-then-not-is_qualifier-clause-first c =
    not_qualifier (stands_first c.args.at c.args.tokens.now (word c.in-Some.text.now) c.in-Some.ensures) (iff_false (rw c.bytes.ensures at c.if-not-is_qualifier.ensures) refl)

pub returns-clause-first : goal.returns-clause-first
returns-clause-first c =
    (rw c.bytes.ensures at (c.if-not-is_qualifier.ensures.0 refl), stands_first c.args.at c.args.tokens.now (word c.in-Some.text.now) c.in-Some.ensures)

pub returns-clause-within : goal.returns-clause-within
returns-clause-within c = stands_within c.args.at c.args.tokens.now (word c.in-Some.text.now) c.in-Some.ensures
