use Rattle.po_bases.proofs.Covered.{moved_allows}
use Rattle.po_bases.proofs.laws.moved_bases_cover.Goals as goal

pub returns : goal.returns
returns c = λ value move moves by grain is_grain a p w. moved_allows value move moves by grain is_grain a p w
