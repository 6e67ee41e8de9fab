use Rattle.po_operate.proofs.arithmetic.compared.Goals as goal

pub returns-in-None : goal.returns-in-None
returns-in-None c = λ x is. c.in-None.ensures is.0 is.1
