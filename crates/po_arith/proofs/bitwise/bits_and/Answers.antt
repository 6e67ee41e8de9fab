use Rattle.po_arith.proofs.BitByBit.{and_is}
use Rattle.po_arith.proofs.bitwise.bits_and.Goals as goal

pub returns : goal.returns
returns c = and_is c.args.a c.args.b c.ranges.a c.ranges.b
