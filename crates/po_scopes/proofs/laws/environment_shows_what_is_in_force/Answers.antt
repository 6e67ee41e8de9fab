use Rattle.po_scopes.proofs.Shown.{shows}
use Rattle.po_scopes.proofs.laws.environment_shows_what_is_in_force.Goals as goal

pub returns : goal.returns
returns c = shows
