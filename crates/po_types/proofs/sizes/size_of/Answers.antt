use Rattle.std.proofs.Common.{rules, arith, ◌≡◌, ◌≤◌, ◌*◌, ◌^◌, sym}
use Rattle.po_types.proofs.TypesLaws.{bytes_Array}
use Rattle.po_types.proofs.Large.{too_many, regroup}
use Rattle.po_types.proofs.sizes.size_of.Goals as goal

pub returns-in-None-checked_mul : goal.returns-in-None-checked_mul
returns-in-None-checked_mul c =
    let h : (2 ^ 64) ≤ (c.loop-inner.times * c.in-Some.count) = search (arith, rules) in
    rw (c.loop-inner.invariant, c.in-Array.is, bytes_Array c.args.target c.args.structs.now c.in-Array.element c.in-Array.count, c.in-Some.is)
    (sym (too_many c.args.target c.loop-inner.times c.in-Some.count h _))

pub loop-inner-preserved : goal.loop-inner-preserved
loop-inner-preserved c =
    let p : c.in-Some-checked_mul.product ≡ (c.loop-inner.times * c.in-Some.count) = search rules in
    rw (c.loop-inner.invariant, c.in-Array.is, bytes_Array c.args.target c.args.structs.now c.in-Array.element c.in-Array.count, c.in-Some.is, c.get-inner.ensures, p)
    (regroup c.loop-inner.times c.in-Some.count _)
