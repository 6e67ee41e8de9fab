use Rattle.po_type_parts.proofs.PartsOfTypings as parts
use Rattle.po_type_parts.proofs.laws.typings_are_of_parts.Goals as goal

pub returns : goal.returns
returns c = parts.typings_are_of_parts
