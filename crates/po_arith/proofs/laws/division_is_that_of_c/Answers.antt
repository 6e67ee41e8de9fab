use Rattle.po_arith.proofs.Divided.{divided, one_division}
use Rattle.po_arith.proofs.laws.division_is_that_of_c.Goals as goal

pub returns-clause-holds : goal.returns-clause-holds
returns-clause-holds c = divided

pub returns-clause-one : goal.returns-clause-one
returns-clause-one c = one_division
