use Rattle.std.proofs.Common.{refl}
use Rattle.std.proofs.lemmas.Bool.{iff_false}
use Rattle.po_fun_parts.proofs.Behind.{goto_word, goto_semicolon, goto_stands}
use Rattle.po_fun_parts.proofs.behind_keywords.goto_start.Goals as goal

pub returns-in_default-clause-none : goal.returns-in_default-clause-none
returns-in_default-clause-none c = λ types begun left w. let b = goto_word w in c.in_default.ensures.first b.0 b.1

pub returns-then-not-stands-clause-none : goal.returns-then-not-stands-clause-none
returns-then-not-stands-clause-none c = λ types begun left w.
    iff_false c.if-not-stands.ensures.first refl (goto_semicolon c.in-Some.ensures.first.1 w)

pub returns-clause-found : goal.returns-clause-found
returns-clause-found c = λ types. rw c.in_ok-share.ensures (goto_stands c.in-Some.ensures.first c.if-not-stands.ensures.behind)
