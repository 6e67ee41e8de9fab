use Rattle.std.proofs.Common.{◌∷◌, ap, refl, ◌∙◌, arith}
use Rattle.std.specs.Prelude.{reverse}
use Rattle.std.proofs.lemmas.Bool.{iff_false}
use Rattle.po_init_read.proofs.Values.{value_alike, no_value}
use Rattle.po_init_read.proofs.Braces.{opening_alike}
use Rattle.po_init_read.proofs.Leading.{reverse_push}
use Rattle.po_init_read.proofs.read.begin.Goals as goal

pub returns-then-stands : goal.returns-then-stands
returns-then-stands c =
    let within = c.if-stands.ensures.within in
    let grown = ap reverse c.in_ok-push.ensures.ok ∙ reverse_push c.args.braces c.new.result ∙ ap (λ v. v ∷ reverse c.args.braces) c.new.ensures in
    (opening_alike (c.if-stands.ensures.behind) grown, omega arith, omega (arith, within.1))

pub returns-in-Some : goal.returns-in-Some
returns-in-Some c =
    let best = rw c.in-Some.is at c.in_ok-x.ensures.found in
    let ends = rw c.in-Some.is at c.in_ok-x.ensures.within in
    (value_alike c.one_tree_before_an_end.ensures (iff_false c.if-stands.ensures.first refl) best, ends.0, omega (arith, ends.0))

pub returns-in-None : goal.returns-in-None
returns-in-None c = λ y left k. no_value (iff_false c.if-stands.ensures.first refl) (rw c.in-None.is at c.in_ok-x.ensures.none) k
