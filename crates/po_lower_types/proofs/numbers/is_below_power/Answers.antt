use Rattle.std.proofs.Common.{arith}
use Rattle.po_lower_types.proofs.Powers.{below_high_power, quotient_tells}
use Rattle.po_lower_types.proofs.numbers.is_below_power.Goals as goal

pub returns-then-exponent-ge128 : goal.returns-then-exponent-ge128
returns-then-exponent-ge128 c = below_high_power c.args.n c.args.exponent c.ranges.n.fits (omega (arith, c.if-exponent-ge128.true))

pub returns : goal.returns
returns c = quotient_tells c.args.n c.args.exponent
