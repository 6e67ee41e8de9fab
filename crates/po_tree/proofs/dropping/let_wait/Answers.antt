use Rattle.std.proofs.Common.{ap}
use Rattle.po_tree.specs.declared.expression.Param.{out-roll-Param}
use Rattle.po_tree.proofs.Steps.{lets_wait}
use Rattle.po_tree.proofs.dropping.let_wait.Goals as goal

pub returns-in-Last : goal.returns-in-Last
returns-in-Last c =
    let a = c.in-Last.ensures in
    let made = out-roll-Param (record { specs = c.in-Last.specs; declarator = record { stars = c.in-Last.declarator.stars; name = c.in-Last.declarator.name; suffix = c.kept_in_suffix-suffix.result } }) in
    lets_wait _ _ _ a.1.0 _ _ _ _ _ _ _ _ _ a.1.1 a.1.2 a.1.3 c.put_back.ensures (ap (λ v. v.specs) made) (ap (λ v. v.declarator) made) c.kept_in_suffix-suffix.ensures
    c.parts_of-coming.ensures
