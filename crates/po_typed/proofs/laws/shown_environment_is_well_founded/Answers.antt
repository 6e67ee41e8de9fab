use Rattle.po_typed.proofs.KeepsFounded.{shown_is_well_founded}
use Rattle.po_typed.proofs.laws.shown_environment_is_well_founded.Goals as goal

pub returns : goal.returns
returns c = λ env file s f. shown_is_well_founded s f
