use Rattle.po_type_calls.proofs.TypingsOfCalls as calls
use Rattle.po_type_calls.proofs.laws.typings_of_calls.Goals as goal

pub returns : goal.returns
returns c = calls.typings_of_calls c.typings_are_of_parts.ensures
