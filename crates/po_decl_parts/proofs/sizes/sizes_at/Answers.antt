use Rattle.std.proofs.Common.{refl, ◌∙◌, ◌∷◌, ap, arith}
use Rattle.po_tree.specs.Signs.{bracket}
use Rattle.std.proofs.lemmas.Bool.{iff_false}
use Rattle.po_decl_parts.specs.Sizes.{sizes_end}
use Rattle.po_exp_parts.proofs.Leading.{leads_on, leads_end, leads_nowhere}
use Rattle.po_decl_parts.proofs.Bracketed.{empty_leads, size_leads, no_sizes, open_sizes, closed_by}
use Rattle.po_decl_parts.proofs.sizes.sizes_at.Goals as goal

pub loop-alloc-preserved-then-stands : goal.loop-alloc-preserved-then-stands
loop-alloc-preserved-then-stands c =
    let i = c.loop-alloc.invariant in
    let first = c.loop-alloc-test.ensures.behind in
    let second = c.if-stands.ensures.behind in
    let inside = c.if-stands.ensures.within in
    rw c.in_ok-push.ensures.ok (record {
      leads = λ types s. leads_on (i.leads types s) (empty_leads _ (first ∙ ap (λ v. bracket ∷ v) second));
      after = omega (arith, i.after);
      within = λ a b. (omega (arith, inside.0), omega (arith, inside.1));
    })

pub returns-in_default-clause-none : goal.returns-in_default-clause-none
returns-in_default-clause-none c = λ types s.
    let first = c.loop-alloc-test.ensures.behind in
    leads_nowhere (c.loop-alloc.invariant.leads types s) (no_sizes first (iff_false c.if-stands.ensures.first refl) (rw c.in_default.is at (c.in_ok-size.ensures.none types s)))

pub returns-then-not-stands-clause-none : goal.returns-then-not-stands-clause-none
returns-then-not-stands-clause-none c = λ types s.
    let first = c.loop-alloc-test.ensures.behind in
    leads_nowhere (c.loop-alloc.invariant.leads types s)
    (open_sizes first (iff_false c.if-stands.ensures.first refl) (rw c.in-Some.is at (c.in_ok-size.ensures.found types s)) (iff_false c.if-not-stands.ensures.first refl))

pub loop-alloc-preserved : goal.loop-alloc-preserved
loop-alloc-preserved c =
    let i = c.loop-alloc.invariant in
    let first = c.loop-alloc-test.ensures.behind in
    let behind = c.if-not-stands.ensures.behind in
    let inside = c.if-not-stands.ensures.within in
    let within = rw c.in-Some.is at c.in_ok-size.ensures.within in
    rw c.in_ok-push-2.ensures.ok (record {
      leads = λ types s.
          let found = rw c.in-Some.is at (c.in_ok-size.ensures.found types s) in
          leads_on (i.leads types s) (size_leads _ first (iff_false c.if-stands.ensures.first refl) (closed_by _ behind found));
      after = omega (arith, i.after, within.0);
      within = λ a b. (omega (arith, inside.0), omega (arith, inside.1));
    })

pub returns-clause-found : goal.returns-clause-found
returns-clause-found c = λ types s. leads_end (c.loop-alloc.invariant.leads types s) (sizes_end _ (iff_false c.loop-alloc-test.ensures.first refl))
