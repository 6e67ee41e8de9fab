use Rattle.po_heads.specs.Heads.{is_stop}
use Rattle.po_heads.specs.Marks.{marked_fun}
use Rattle.po_heads.proofs.Standing.{stops_counted, stop_stands, ascends, lies_within}
use Rattle.po_heads.proofs.laws.keywords_stand.Goals as goal

pub returns-clause-counted : goal.returns-clause-counted
returns-clause-counted c = λ g. stops_counted g

pub returns-clause-stands : goal.returns-clause-stands
returns-clause-stands c = λ g k s here. stop_stands g k s here

pub returns-clause-ascend : goal.returns-clause-ascend
returns-clause-ascend c = λ g. ascends is_stop (marked_fun g) 0

pub returns-clause-lie_within : goal.returns-clause-lie_within
returns-clause-lie_within c = λ g k n here. lies_within is_stop g k n here
