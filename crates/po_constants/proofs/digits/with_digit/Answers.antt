use Rattle.std.proofs.Common.{◌≡◌, ◌+◌, ◌*◌, arith, mul_comm}
use Rattle.po_constants.proofs.DigitRows.{summed}
use Rattle.po_constants.proofs.digits.with_digit.Goals as goal

pub returns-in-Some-checked_mul : goal.returns-in-Some-checked_mul
returns-in-Some-checked_mul c = λ n held.
    let v : c.in-Some.value ≡ n = rw c.in-Some.is at held in
    let m : c.in-Some.value * c.from.result ≡ c.args.base * n = rw (v, c.from.ensures) (mul_comm n c.args.base) in
    let p = c.in-Some-checked_mul.ensures in
    summed c.checked_add.result (c.in-Some-checked_mul.product + c.from-in-Some-checked_mul.result) (c.args.base * n + c.args.digit)
    (omega (arith, m, p.1, c.from-in-Some-checked_mul.ensures)) c.checked_add.ensures
