-- Constants before an end, as a size or the value of an enumerator is (C99 6.6).
use Rattle.std.specs.Prelude.{ℕ, List}
use Rattle.po_tree.specs.declared.expression.Exp.{Exp}
use Rattle.po_tree.specs.Signs.{Sign}
use Rattle.po_exp_read.specs.Longest.{StandsAt}
use Rattle.po_exp_parts.specs.Places.{BeginsEnd}

-- x is a conditional expression, where `types` are the typedef names in force; the tokens are those that it prints and then these, which
-- begin with an end
pub record ConstantStands (types : List (List ℕ)) (signs : List Sign) (x : Exp) (left : List Sign) : Type 0 where
  pub stands : StandsAt 2 types signs x left
  pub ended : BeginsEnd left
