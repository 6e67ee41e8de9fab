-- What stands in the parentheses of a statement is one at most.
use Rattle.std.proofs.Common.{◌≡◌, ◌∙◌, ℕ, List, ◌∷◌, sym, subst, refl, codes}
use Rattle.std.specs.Prelude.{Option}
use Rattle.po_tree.specs.declared.expression.Exp.{Exp}
use Rattle.po_tree.specs.Signs.{Sign, word, opening, closing, semicolon}
use Rattle.po_exp_parts.specs.Places.{Begins}
use Rattle.po_exp_read.specs.Longest.{StandsBefore}
use Rattle.po_decl_laws.proofs.Behind.{tails}
use Rattle.po_fun_laws.proofs.OneExpression.{before_semicolon, before_closing}
use Rattle.po_fun_parts.specs.Stops.{OptionalStands}
use Rattle.po_fun_parts.specs.Heads.{ParenthesisedStands, StepsStand, TestStands, ForStands, ForOpens}
use Rattle.po_fun_parts.proofs.Ending.{one_value, one_optional_value}

module _ {types : List (List ℕ)} where
  value_along : {signs other us : List Sign} {x : Exp} → signs ≡ other → StandsBefore types signs x us → StandsBefore types other x us
  value_along {us = us} {x = x} q w = subst (λ z. StandsBefore types z x us) q w

  optional_along : {signs other us : List Sign} {a : Sign} {x : Option Exp} → signs ≡ other → OptionalStands types a signs x us → OptionalStands types a other x us
  optional_along {us = us} {a = a} {x = x} q w = subst (λ z. OptionalStands types a z x us) q w

  pub parenthesised_along : {signs other us : List Sign} {x : Exp} → signs ≡ other → ParenthesisedStands types signs x us → ParenthesisedStands types other x us
  parenthesised_along {us = us} {x = x} q w = subst (λ z. ParenthesisedStands types z x us) q w

  pub parenthesised_before : {signs us vs : List Sign} {x : Exp} → us ≡ vs → ParenthesisedStands types signs x us → ParenthesisedStands types signs x vs
  parenthesised_before {signs = signs} {x = x} q w = subst (λ z. ParenthesisedStands types signs x z) q w

  steps_along : {signs other us : List Sign} {x y : Option Exp} → signs ≡ other → StepsStand types signs x y us → StepsStand types other x y us
  steps_along {us = us} {x = x} {y = y} q w = subst (λ z. StepsStand types z x y us) q w

  -- parentheses

  pub inside_parentheses : {signs inside us : List Sign} {x : Exp} → signs ≡ opening ∷ inside → ParenthesisedStands types signs x us → StandsBefore types inside x (closing ∷ us)
  inside_parentheses q w = value_along (tails (sym w.opens ∙ q)) w.value

  pub no_parenthesis : {signs us : List Sign} {x : Exp} → (Begins opening signs → ⊥) → ParenthesisedStands types signs x us → ⊥
  no_parenthesis none w = none (subst (Begins opening) (sym w.opens) refl)

  pub one_parenthesised : {signs us vs : List Sign} {x y : Exp} → ParenthesisedStands types signs x us → ParenthesisedStands types signs y vs → (x ≡ y) × (us ≡ vs)
  one_parenthesised w v = let c = one_value before_closing before_closing w.value (inside_parentheses w.opens v) in (c.0, tails c.1)

  -- the condition and the step of a `for`

  pub steps_behind_test : {signs between us : List Sign} {x y z : Option Exp} → OptionalStands types semicolon signs z between → StepsStand types signs x y us →
      (z ≡ x) × OptionalStands types closing between y us
  steps_behind_test h w = let c = one_optional_value before_semicolon h w.tested in (c.0, optional_along (sym c.1) w.stepped)

  pub one_steps : {signs us vs : List Sign} {x y z s : Option Exp} → StepsStand types signs x y us → StepsStand types signs z s vs → (x ≡ z) × (y ≡ s) × (us ≡ vs)
  one_steps w v = let p = steps_behind_test w.tested v in let c = one_optional_value before_closing w.stepped p.1 in (p.0, c.0, c.1)

  -- the test of a `do`

  pub test_value : {signs inside us : List Sign} {x : Exp} → signs ≡ word (codes "while") ∷ inside → TestStands types signs x us → ParenthesisedStands types inside x (semicolon ∷ us)
  test_value q w = parenthesised_along (tails (sym w.repeats ∙ q)) w.value

  pub no_test : {signs inside us vs : List Sign} {x y : Exp} → signs ≡ word (codes "while") ∷ inside → ParenthesisedStands types inside x us → (Begins semicolon us → ⊥) → TestStands types signs y vs → ⊥
  no_test q w none v = none (subst (Begins semicolon) (sym (one_parenthesised w (test_value q v)).1) refl)

  -- the parentheses of a `for`

  pub for_first : {signs inside us : List Sign} {x y z : Option Exp} → signs ≡ opening ∷ inside → ForStands types signs x y z us →
      (behind : List Sign) × OptionalStands types semicolon inside x behind × StepsStand types behind y z us
  for_first q w = (w.behind, optional_along (tails (sym w.opens ∙ q)) w.begins, w.steps)

  pub for_steps : {signs inside behind us : List Sign} {first x y z : Option Exp} → signs ≡ opening ∷ inside → OptionalStands types semicolon inside first behind → ForStands types signs x y z us →
      (first ≡ x) × StepsStand types behind y z us
  for_steps q h w =
      let p = for_first q w in
      let c = one_optional_value before_semicolon h p.1 in
      (c.0, steps_along (sym c.1) p.2)
