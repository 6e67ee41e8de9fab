use Rattle.po_bases.proofs.Covered.{join_allows_first, join_allows_second}
use Rattle.po_bases.proofs.laws.joins_of_bases_cover.Goals as goal

pub returns : goal.returns
returns c = record {
  first = λ value a b p. join_allows_first value a b p;
  second = λ value a b p. join_allows_second value a b p;
}
