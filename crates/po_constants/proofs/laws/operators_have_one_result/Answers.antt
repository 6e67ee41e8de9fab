use Rattle.po_typed.proofs.OneConstant.{becomes_one, kept_one, computes_one, shifts_one, compares_one}
use Rattle.po_constants.proofs.laws.operators_have_one_result.Goals as goal

pub returns : goal.returns
returns c = record {
  becomes = λ t v w u f g. becomes_one f g;
  kept = λ t v w u f g. kept_one f g;
  computes = λ o t v w r s f g. computes_one f g;
  shifts = λ o t v r s n f g. shifts_one f g;
  compares = λ o v w r s f g. compares_one f g;
}
