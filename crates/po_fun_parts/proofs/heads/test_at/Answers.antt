use Rattle.std.proofs.Common.{refl, ◌∷◌, ap, arith, subst, sym, codes}
use Rattle.std.proofs.lemmas.Bool.{iff_false}
use Rattle.po_tree.specs.Signs.{word}
use Rattle.po_exp_parts.specs.Places.{Begins}
use Rattle.po_fun_parts.proofs.Parentheses.{test_value, no_test, parenthesised_before}
use Rattle.po_fun_parts.proofs.heads.test_at.Goals as goal

pub returns-then-not-word_stands-clause-none : goal.returns-then-not-word_stands-clause-none
returns-then-not-word_stands-clause-none c = λ types s x left w.
    iff_false c.if-not-word_stands.ensures.first refl (subst (Begins (word (codes "while"))) (sym w.repeats) refl)

pub returns-in_default-clause-none : goal.returns-in_default-clause-none
returns-in_default-clause-none c = λ types s x left w.
    let none = rw c.in_default.is at (c.in_ok-x.ensures.none types s) in
    none x _ (test_value c.if-not-word_stands.ensures.behind w)

pub returns-then-not-stands-clause-none : goal.returns-then-not-stands-clause-none
returns-then-not-stands-clause-none c = λ types s x left w.
    no_test c.if-not-word_stands.ensures.behind (rw c.in-Some.is at (c.in_ok-x.ensures.found types s)) (iff_false c.if-not-stands.ensures.first refl) w

pub returns-clause-found : goal.returns-clause-found
returns-clause-found c = λ types s.
    record {
      inside = _;
      repeats = c.if-not-word_stands.ensures.behind;
      value = parenthesised_before c.if-not-stands.ensures.behind (rw c.in-Some.is at (c.in_ok-x.ensures.found types s));
    }
