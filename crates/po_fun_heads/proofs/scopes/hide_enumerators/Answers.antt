use Rattle.po_fun_heads.proofs.Hiding.{enumerators_hidden}
use Rattle.po_fun_heads.proofs.scopes.hide_enumerators.Goals as goal

pub returns-clause-hides : goal.returns-clause-hides
returns-clause-hides c = let h = rw c.new.ensures at c.in_ok-declare.ensures in enumerators_hidden h.0 h.1
