use Rattle.std.proofs.Common.{◌≡◌, ◌+◌, ◌∷◌, ap, refl, ◌∙◌, arith}
use Rattle.std.specs.Prelude.{reverse}
use Rattle.po_tree.specs.Signs.{comma, brace_end}
use Rattle.po_exp_parts.specs.Places.{signs_between}
use Rattle.std.proofs.lemmas.Bool.{iff_false}
use Rattle.po_init_read.proofs.Braces.{closing_alike, closing_behind_comma_alike, further_alike, stuck}
use Rattle.po_init_read.proofs.Leading.{reverse_push}
use Rattle.po_init_read.proofs.read.go_on_inside.Goals as goal

pub returns-then-stands : goal.returns-then-stands
returns-then-stands c = λ types before x q.
    let within = c.if-stands.ensures.within in
    (closing_alike (c.if-stands.ensures.behind) (reverse_push c.args.braces before) q, omega arith, omega (arith, within.1))

pub returns-then-not-stands : goal.returns-then-not-stands
returns-then-not-stands c = λ types before x q y left k.
    stuck (iff_false c.if-stands.ensures.first refl) (iff_false c.if-not-stands.ensures.first refl) (reverse_push c.args.braces before) k

pub returns-then-stands-2 : goal.returns-then-stands-2
returns-then-stands-2 c = λ types before x q.
    let within = c.if-stands-2.ensures.within in
    let place : c.args.at + 1 + 1 ≡ c.args.at + 2 = omega arith in
    let behind = c.if-stands-2.ensures.behind ∙ ap (λ n. brace_end ∷ signs_between c.args.tokens.now.list n c.args.to) place in
    let all = c.if-not-stands.ensures.behind ∙ ap (λ signs. comma ∷ signs) behind in
    (closing_behind_comma_alike all (reverse_push c.args.braces before) q, omega arith, omega (arith, within.1))

pub returns : goal.returns
returns c = λ types before x q.
    let within = c.if-not-stands.ensures.within in
    let grown = ap reverse c.in_ok-push.ensures.ok ∙ reverse_push c.args.braces c.args.items in
    (further_alike (c.if-not-stands.ensures.behind) (iff_false c.if-stands-2.ensures.first refl) (reverse_push c.args.braces before) q grown, omega arith, omega (arith, within.1))
