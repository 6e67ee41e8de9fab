-- Expressions with the sign behind them that ends them in a statement (C99 6.8.3 to 6.8.6).
use Rattle.std.specs.Prelude.{ℕ, ◌≡◌, List, ◌∷◌, Option, Some, None}
use Rattle.po_tree.specs.declared.expression.Exp.{Exp}
use Rattle.po_tree.specs.Signs.{Sign, semicolon, closing}
use Rattle.po_exp_read.specs.Longest.{StandsBefore}
use Rattle.po_fun_parts.specs.declared.expressions.Stop.{Stop}
use Rattle.po_fun_parts.specs.declared.expressions.Stop.TheVariants as stop

abbrev pub stop_sign : Stop → Sign
stop_sign stop.Semicolon = semicolon
stop_sign stop.Parenthesis = closing

-- an expression that may be missing, with this sign behind it
pub data OptionalStands (types : List (List ℕ)) (last : Sign) (signs : List Sign) : Option Exp → List Sign → Type 0 where
  alone : (left : List Sign) → signs ≡ last ∷ left → OptionalStands types last signs None left
  behind_value : (x : Exp) (left : List Sign) → StandsBefore types signs x (last ∷ left) → OptionalStands types last signs (Some x) left
