use Rattle.std.proofs.Common.{◌≡◌, ◌<◌, ◌+◌, ℕ, length, arith, ap, refl}
use Rattle.po_marks.proofs.Undone.{in_turn-length, in_turn_before, in_turn_last, in_turn_none}
use Rattle.po_marks.proofs.undoing.forget.Goals as goal

pub loop-left-init : goal.loop-left-init
loop-left-init g c = λ m n h q. (n, h, refl)

pub forget_last-requires : goal.forget_last-requires
forget_last-requires g c =
    let r = c.requires in
    let i = c.loop-left.invariant r.0 r.1 r.2 r.3 in
    let all = in_turn-length _ r.1 r.0 c.args.marks.now r.2 in
    let seen = ap (λ z. length z.items) c.marks.view_is in
    let some : 0 < i.0 = omega (arith, i.2, all, seen, r.3, c.len-left-end.ensures.len, c.loop-left-test.true) in
    in_turn_last _ i.0 r.0 c.loop-left.marks i.1 some

pub loop-left-preserved : goal.loop-left-preserved
loop-left-preserved g c = λ m n h q.
    let i = c.loop-left.invariant m n h q in
    let all = in_turn-length _ n m c.args.marks.now h in
    let seen = ap (λ z. length z.items) c.marks.view_is in
    let some : 0 < i.0 = omega (arith, i.2, all, seen, q, c.len-left-end.ensures.len, c.loop-left-test.true) in
    let before = in_turn_before _ i.0 m c.loop-left.marks c.forget_last.new.marks i.1 some c.forget_last.ensures in
    (before.0, before.1, omega (arith, before.2, i.2))

pub returns : goal.returns
returns g c = λ m n h q.
    let i = c.loop-left.invariant m n h q in
    let all = in_turn-length _ n m c.args.marks.now h in
    let seen = ap (λ z. length z.items) c.marks.view_is in
    in_turn_none _ i.0 m c.loop-left.marks i.1 (omega (arith, i.2, all, seen, q, c.len-left-end.ensures.len, c.loop-left-test.false))
