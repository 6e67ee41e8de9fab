use Rattle.std.proofs.Common.{arith}
use Rattle.std.proofs.lemmas.Int.{ints}
use Rattle.po_arith.proofs.Sizes.{fits_between}
use Rattle.po_arith.proofs.BitsNeeded.{filled_holds, bits_least}
use Rattle.po_arith.proofs.BitsKept.{kept_of_type}
use Rattle.po_arith.proofs.laws.bits_hold_numbers.Goals as goal

pub returns-clause-least : goal.returns-clause-least
returns-clause-least c = λ v some less. ((filled_holds v (fits_between v (omega (arith, ints)) less) some).0, λ k held. bits_least v k some less held)

pub returns-clause-kept : goal.returns-clause-kept
returns-clause-kept c = kept_of_type
