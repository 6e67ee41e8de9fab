use Rattle.po_arith.proofs.BitByBit.{xor_is}
use Rattle.po_arith.proofs.bitwise.bits_xor.Goals as goal

pub returns : goal.returns
returns c = xor_is c.args.a c.args.b c.ranges.a c.ranges.b
