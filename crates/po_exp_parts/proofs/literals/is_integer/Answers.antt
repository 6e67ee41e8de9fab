use Rattle.std.proofs.lemmas.List.{take_rest}
use Rattle.po_exp_parts.proofs.Constants.{suffixed}
use Rattle.po_exp_parts.proofs.literals.is_integer.Goals as goal

pub returns-in-Some : goal.returns-in-Some
returns-in-Some c = suffixed c.args.text.now _ _ c.in-Some.ensures.behind (rw take_rest at c.is_suffix.ensures)
