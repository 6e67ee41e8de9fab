use Rattle.po_fun_parts.proofs.OneStart as once
use Rattle.po_fun_parts.proofs.laws.one_start.Goals as goal

pub returns : goal.returns
returns c = λ types signs left rest begun other w v. once.one_start w v
