-- What is made of the parts behind a keyword.
use Rattle.std.proofs.Common.{◌≡◌, ◌∙◌, ℕ, List, ◌∷◌, ◌++◌, refl, sym, ap, subst, inl, inr}
use Rattle.std.specs.Prelude.{Option}
use Rattle.po_tree.specs.declared.expression.Exp.{Exp}
use Rattle.po_tree.specs.declared.statement.Stmt.TheVariants as st
use Rattle.po_tree.specs.Signs.{Sign, word, opening, semicolon, colon}
use Rattle.po_tree.specs.Words.{IsName}
use Rattle.po_exp_parts.specs.Places.{Begins, BeginsName}
use Rattle.po_exp_parts.proofs.SameSigns.{same_word}
use Rattle.po_exp_read.specs.Longest.{StandsAt}
use Rattle.po_fun_parts.specs.declared.keywords.Keyword.TheVariants as keyword
use Rattle.po_fun_parts.specs.declared.starts.Start.{Start}
use Rattle.po_fun_parts.specs.declared.starts.Start.TheVariants as start
use Rattle.po_fun_parts.specs.Stops.{OptionalStands}
use Rattle.po_fun_parts.specs.Heads.{StepsStand, ForStands, ForOpens}
use Rattle.po_fun_parts.specs.Starting.{StartsBehind}
use Rattle.po_fun_parts.proofs.Parentheses.{for_first, for_steps, one_steps}

module _ {types : List (List ℕ)} where
  -- `for`

  pub no_for : {signs left : List Sign} {begun : Start} → (Begins opening signs → ⊥) → StartsBehind keyword.For types signs begun left → ⊥
  no_for none (inl (first, test, step, q, w)) = none (subst (Begins opening) (sym w.opens) refl)
  no_for none (inr (q, w)) = none (subst (Begins opening) (sym w.opens) refl)

  -- where an expression is first, or nothing, the condition and the step stand behind it
  pub no_for_steps : {signs inside behind left : List Sign} {first : Option Exp} {begun : Start} → signs ≡ opening ∷ inside → OptionalStands types semicolon inside first behind →
      ((test step : Option Exp) (us : List Sign) → StepsStand types behind test step us → ⊥) → StartsBehind keyword.For types signs begun left → ⊥
  no_for_steps q h none (inl (first, test, step, r, w)) = none test step _ (for_steps q h w).1
  no_for_steps {inside = inside} {behind = behind} {first = first} q h none (inr (r, w)) =
      let rests : inside ≡ _ = cc in
      w.others first behind (subst (λ z. OptionalStands types semicolon z first behind) rests h)

  pub for_stands : {signs inside behind left : List Sign} {first test step : Option Exp} → signs ≡ opening ∷ inside → OptionalStands types semicolon inside first behind →
      StepsStand types behind test step left → ForStands types signs first test step left
  for_stands q h w = record { inside = _; behind = _; opens = q; begins = h; steps = w }

-- `goto`

abbrev GotoStands : List Sign → Start → List Sign → Type 0
GotoStands signs begun left = (name : List ℕ) × (begun ≡ start.Whole (st.Goto name)) × IsName name × (signs ≡ word name ∷ (semicolon ∷ left))

pub goto_word : {signs left : List Sign} {begun : Start} → GotoStands signs begun left → (name : List ℕ) × BeginsName name signs
goto_word (name, q, is, w) = (name, (is, subst (Begins (word name)) (sym w) refl))

pub goto_semicolon : {signs ts left : List Sign} {begun : Start} {text : List ℕ} → signs ≡ word text ∷ ts → GotoStands signs begun left → Begins semicolon ts
goto_semicolon q (name, r, is, w) = subst (Begins semicolon) (sym (same_word (sym q ∙ w)).1) refl

pub goto_stands : {signs ts left : List Sign} {name : List ℕ} → IsName name × (signs ≡ word name ∷ ts) → ts ≡ semicolon ∷ left → GotoStands signs (start.Whole (st.Goto name)) left
goto_stands {name = name} h q = (name, refl, h.0, h.1 ∙ ap (λ z. word name ∷ z) q)
