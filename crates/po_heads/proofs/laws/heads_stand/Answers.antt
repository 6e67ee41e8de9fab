use Rattle.po_heads.specs.Heads.{is_head}
use Rattle.po_heads.specs.Marks.{marked_fun}
use Rattle.po_heads.proofs.Standing.{counted, head_stands, ascends, lies_within}
use Rattle.po_heads.proofs.laws.heads_stand.Goals as goal

pub returns-clause-counted : goal.returns-clause-counted
returns-clause-counted c = λ g has. counted g has

pub returns-clause-stands : goal.returns-clause-stands
returns-clause-stands c = λ g has k x here. head_stands g has k x here

pub returns-clause-ascend : goal.returns-clause-ascend
returns-clause-ascend c = λ g. ascends is_head (marked_fun g) 0

pub returns-clause-lie_within : goal.returns-clause-lie_within
returns-clause-lie_within c = λ g k n here. lies_within is_head g k n here
