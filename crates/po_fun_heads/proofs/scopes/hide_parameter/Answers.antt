use Rattle.po_fun_heads.proofs.Hiding.{parameter_hidden}
use Rattle.po_fun_heads.proofs.scopes.hide_parameter.Goals as goal

pub returns-clause-hides : goal.returns-clause-hides
returns-clause-hides c =
    parameter_hidden c.args.param c.into_parts-specs.ensures.0 c.into_parts-specs.ensures.1 c.in_ok-specs.ensures.hides c.in_ok-hide_word.ensures
