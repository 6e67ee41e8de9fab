use Rattle.po_decl_steps.proofs.BehindDeclarators.{bare_alike, value_alike}
use Rattle.po_decl_steps.proofs.laws.initialisers_are_read.Goals as goal

pub returns-clause-bare : goal.returns-clause-bare
returns-clause-bare c = λ specs now typedef parts item types signs none. bare_alike none

pub returns-clause-value : goal.returns-clause-value
returns-clause-value c = λ specs now typedef parts item types x signs inside left q w. value_alike c.one_initialiser_before_an_end.ensures q w
