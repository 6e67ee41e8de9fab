-- What stands in the parentheses of a statement (C99 6.8.4, 6.8.5).
use Rattle.std.specs.Prelude.{ℕ, ◌≡◌, List, ◌∷◌, codes, Option}
use Rattle.po_tree.specs.declared.expression.Exp.{Exp}
use Rattle.po_tree.specs.Signs.{Sign, word, opening, closing, semicolon}
use Rattle.po_exp_read.specs.Longest.{StandsBefore}
use Rattle.po_fun_parts.specs.Stops.{OptionalStands}

-- an expression in parentheses
pub record ParenthesisedStands (types : List (List ℕ)) (signs : List Sign) (x : Exp) (left : List Sign) : Type 0 where
  pub inside : List Sign
  pub opens : signs ≡ opening ∷ inside
  pub value : StandsBefore types inside x (closing ∷ left)

-- the condition and the step of a `for`, and its closing parenthesis (6.8.5.3)
pub record StepsStand (types : List (List ℕ)) (signs : List Sign) (test step : Option Exp) (left : List Sign) : Type 0 where
  pub between : List Sign
  pub tested : OptionalStands types semicolon signs test between
  pub stepped : OptionalStands types closing between step left

-- what stands behind the statement of a `do` (6.8.5.2)
pub record TestStands (types : List (List ℕ)) (signs : List Sign) (x : Exp) (left : List Sign) : Type 0 where
  pub inside : List Sign
  pub repeats : signs ≡ word (codes "while") ∷ inside
  pub value : ParenthesisedStands types inside x (semicolon ∷ left)

-- the parentheses of a `for` where an expression stands first, or nothing
pub record ForStands (types : List (List ℕ)) (signs : List Sign) (first test step : Option Exp) (left : List Sign) : Type 0 where
  pub inside : List Sign
  pub behind : List Sign
  pub opens : signs ≡ opening ∷ inside
  pub begins : OptionalStands types semicolon inside first behind
  pub steps : StepsStand types behind test step left

-- the opening parenthesis of a `for` where neither an expression stands first nor nothing
pub record ForOpens (types : List (List ℕ)) (signs left : List Sign) : Type 0 where
  pub opens : signs ≡ opening ∷ left
  pub others : (x : Option Exp) (us : List Sign) → OptionalStands types semicolon left x us → ⊥
