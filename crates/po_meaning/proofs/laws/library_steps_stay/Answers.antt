use Rattle.po_meaning.proofs.LibraryCalls.{library_steps_stay}
use Rattle.po_meaning.proofs.laws.library_steps_stay.Goals as goal

pub returns : goal.returns
returns c = library_steps_stay
