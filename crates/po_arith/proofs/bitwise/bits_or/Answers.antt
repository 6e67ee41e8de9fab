use Rattle.po_arith.proofs.BitByBit.{or_is}
use Rattle.po_arith.proofs.bitwise.bits_or.Goals as goal

pub returns : goal.returns
returns c = or_is c.args.a c.args.b c.ranges.a c.ranges.b
