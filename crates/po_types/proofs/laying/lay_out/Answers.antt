use Rattle.std.proofs.Common.{rules, arith, ◌≡◌, ◌<◌, sym, subst, ◌∙◌, refl, length}
use Rattle.std.specs.Prelude.{get_or}
use Rattle.po_types.specs.declared.layout.Extent.{Extent}
use Rattle.po_types.proofs.Lays.{Laid, laid_none, laid_more, laid_too_far, laid_too_large, large_words, other_object}
use Rattle.po_types.proofs.laying.lay_out.Goals as goal

abbrev nothing : Extent
nothing = record { size = 0; align = 0 }

pub loop-i-init : goal.loop-i-init
loop-i-init c = rw c.new-offsets.ensures (laid_none c.args.members.now)

pub returns-in-None : goal.returns-in-None
returns-in-None c =
    let h : c.loop-i.i < length c.args.members.now = search (arith, rules) in
    laid_too_far c.args.target c.args.members.now c.loop-i.i (get_or c.args.members.now c.loop-i.i nothing) nothing c.loop-i.offsets c.loop-i.end c.loop-i.align h refl
    c.loop-i.invariant (rw c.in-None.is at c.in_ok-place.ensures)

pub loop-i-preserved : goal.loop-i-preserved
loop-i-preserved c =
    let h : c.loop-i.i < length c.args.members.now = search (arith, rules) in
    let p = rw c.in-Some.is at c.in_ok-place.ensures in
    rw (p.2, p.3, c.greater-align.ensures)
    (laid_more c.args.members.now c.loop-i.i (get_or c.args.members.now c.loop-i.i nothing) nothing c.loop-i.offsets c.loop-i.end c.loop-i.align p.0 h refl
    c.loop-i.invariant p.1)

pub returns-in-None-next : goal.returns-in-None-next
returns-in-None-next c =
    let e : c.loop-i.i ≡ length c.args.members.now = search (arith, rules) in
    laid_too_large c.args.target c.args.members.now c.loop-i.offsets c.loop-i.end c.loop-i.align
    (subst (λ i. Laid c.args.members.now i c.loop-i.offsets c.loop-i.end c.loop-i.align) e c.loop-i.invariant)
    (large_words c.args.target c.loop-i.align c.loop-i.end c.in-None-next.ensures)

pub returns-in-None-as_object : goal.returns-in-None-as_object
returns-in-None-as_object c =
    let e : c.loop-i.i ≡ length c.args.members.now = search (arith, rules) in
    laid_too_large c.args.target c.args.members.now c.loop-i.offsets c.loop-i.end c.loop-i.align
    (subst (λ i. Laid c.args.members.now i c.loop-i.offsets c.loop-i.end c.loop-i.align) e c.loop-i.invariant)
    (other_object c.args.target c.loop-i.align c.loop-i.end c.in-Some-next.size c.in-Some-next.ensures (sym c.as_object.ensures ∙ c.in-None-as_object.is))
