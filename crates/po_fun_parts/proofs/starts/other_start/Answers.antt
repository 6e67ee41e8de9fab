use Rattle.std.proofs.Common.{refl, arith}
use Rattle.std.proofs.lemmas.Bool.{iff_false}
use Rattle.po_fun_parts.proofs.Starting.{no_word_start, label_starts}
use Rattle.po_fun_parts.proofs.starts.other_start.Goals as goal

pub returns-then-is_label-clause-found : goal.returns-then-is_label-clause-found
returns-then-is_label-clause-found c = λ types s.
    rw c.in_ok-share.ensures (label_starts c.requires.first c.if-is_label.ensures.behind (c.if-is_label.ensures.named.0 refl).0)

pub returns-in_default-clause-none : goal.returns-in_default-clause-none
returns-in_default-clause-none c = λ types s begun left w.
    no_word_start c.requires.first c.requires.other (iff_false c.if-is_label.ensures.named refl) (rw c.in_default.is at (c.in_ok-begun.ensures.none types s)) begun left w

pub returns-clause-found : goal.returns-clause-found
returns-clause-found c = λ types s. rw c.in-Some.is at (c.in_ok-begun.ensures.found types s)
