use Rattle.po_arith.proofs.BitByBit.{telling}
use Rattle.po_arith.proofs.laws.bits_tell_numbers_apart.Goals as goal

pub returns : goal.returns
returns c = telling
