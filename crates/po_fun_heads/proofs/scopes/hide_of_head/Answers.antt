use Rattle.po_fun_heads.proofs.Hiding.{names_hidden_both, name_hidden}
use Rattle.po_fun_heads.proofs.scopes.hide_of_head.Goals as goal

pub returns-clause-hides : goal.returns-clause-hides
returns-clause-hides c =
    names_hidden_both c.in_ok-specs.ensures.hides (names_hidden_both c.in_ok-params.ensures.hides (name_hidden c.in_ok-hide.ensures.ok))
