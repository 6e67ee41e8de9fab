use Rattle.std.proofs.Common.{rules, arith, ◌≡◌, ◌+◌, ◌-◌, ◌<◌, ◌%◌}
use Rattle.po_types.proofs.Lays.{next_itself, next_behind}
use Rattle.po_types.proofs.laying.next.Goals as goal

pub returns-then-rest-eq0 : goal.returns-then-rest-eq0
returns-then-rest-eq0 c = let h : (c.args.at % c.args.align) ≡ 0 = search (arith, rules) in next_itself c.args.align c.args.at h

pub returns-in-Some : goal.returns-in-Some
returns-in-Some c =
    let p : 0 < c.args.align = search (arith, rules) in
    let h : 0 < (c.args.at % c.args.align) = search (arith, rules) in
    let e : c.in-Some.m ≡ (c.args.at + (c.args.align - (c.args.at % c.args.align))) = search (arith, rules) in
    rw e (next_behind c.args.align c.args.at p h)
