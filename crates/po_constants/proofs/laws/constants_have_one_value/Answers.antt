use Rattle.po_typed.proofs.OneConstant.{number_is_one, character_is_one, strings_are_one}
use Rattle.po_constants.proofs.laws.constants_have_one_value.Goals as goal

pub returns : goal.returns
returns c = record {
  number = λ target text s t m n f g. number_is_one f g;
  character = λ text v w f g. character_is_one f g;
  strings = λ texts vs ws f g. strings_are_one f g;
}
