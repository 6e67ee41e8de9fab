use Rattle.std.proofs.Common.{◌∙◌, arith, refl}
use Rattle.std.specs.Prelude.{true, false}
use Rattle.po_tree.specs.Declarations.{without}
use Rattle.std.proofs.lemmas.Bool.{iff_false}
use Rattle.po_exp_parts.proofs.Leading.{leads_start, leads_on, leads_nowhere}
use Rattle.po_decl_parts.proofs.Naming.{hides_same}
use Rattle.po_decl_parts.proofs.Listed.{item_leads, no_items, open_items, closed_by_brace, closed_by_comma}
use Rattle.po_decl_parts.proofs.enumerators.enumerators_at.Goals as goal

pub loop-items-init : goal.loop-items-init
loop-items-init c = record { leads = λ types s. (types, s, rw c.new-items.ensures leads_start); kept = (refl, refl); after = omega arith }

pub returns-in_default-clause-none : goal.returns-in_default-clause-none
returns-in_default-clause-none c = λ types s items more behind left w.
    let l = c.loop-items.invariant.leads types s in
    leads_nowhere l.2 (no_items (rw c.in_default.is at (c.in_ok-name.ensures.none l.0 l.1))) items (record { more = more; types = behind; left = left }) w

pub returns-then-stands-clause-found : goal.returns-then-stands-clause-found
returns-then-stands-clause-found c = λ types s.
    let l = c.loop-items.invariant.leads types s in
    let read = rw c.in-Some.is at (c.in_ok-name.ensures.found l.0 l.1) in
    let closed = closed_by_brace _ read c.if-stands.ensures.behind in
    (_, rw c.in_ok-push.ensures.ok (l.2.forth _ (record { more = false; types = without c.in-Some.name l.0; left = _ }) closed), hides_same _ _ _ _ l.1 c.in_ok-hide.ensures.ok.0)

pub returns-then-not-stands-clause-none : goal.returns-then-not-stands-clause-none
returns-then-not-stands-clause-none c = λ types s items more behind left w.
    let l = c.loop-items.invariant.leads types s in
    let read = rw c.in-Some.is at (c.in_ok-name.ensures.found l.0 l.1) in
    leads_nowhere l.2 (open_items read (iff_false c.if-stands.ensures.first refl) (iff_false c.if-not-stands.ensures.first refl)) items (record { more = more; types = behind; left = left }) w

pub returns-then-stands-2-clause-found : goal.returns-then-stands-2-clause-found
returns-then-stands-2-clause-found c = λ types s.
    let l = c.loop-items.invariant.leads types s in
    let read = rw c.in-Some.is at (c.in_ok-name.ensures.found l.0 l.1) in
    let closed = closed_by_comma _ _ read c.if-not-stands.ensures.behind c.if-stands-2.ensures.behind in
    (_, rw c.in_ok-push.ensures.ok (l.2.forth _ (record { more = true; types = without c.in-Some.name l.0; left = _ }) closed), hides_same _ _ _ _ l.1 c.in_ok-hide.ensures.ok.0)

pub loop-items-preserved : goal.loop-items-preserved
loop-items-preserved c =
    let i = c.loop-items.invariant in
    let hidden = c.in_ok-hide.ensures.ok in
    let within = rw c.in-Some.is at c.in_ok-name.ensures.within in
    record {
      leads = λ types s.
          let l = i.leads types s in
          let read = rw c.in-Some.is at (c.in_ok-name.ensures.found l.0 l.1) in
          (_, hides_same _ _ _ _ l.1 hidden.0, rw c.in_ok-push.ensures.ok (leads_on l.2 (item_leads _ read c.if-not-stands.ensures.behind (iff_false c.if-stands-2.ensures.first refl))));
      kept = (hidden.1 ∙ i.kept.0, hidden.2 ∙ i.kept.1);
      after = omega (arith, i.after, within.0);
    }
