-- What a step comes to (C99 6.7).
use Rattle.std.specs.Prelude.{ℕ, ◌≡◌, ◌<◌, ◌≤◌, ◌+◌, ◌*◌, ◌-◌, List, length, reverse}
use Rattle.po_base.specs.declared.token.Token.{Token}
use Rattle.po_tree.specs.declared.declaration.Decl.{Decl}
use Rattle.po_tree.specs.Signs.{Sign}
use Rattle.po_tree.specs.InForce.{InForce, Standing}
use Rattle.po_exp_parts.specs.Places.{signs_between}
use Rattle.po_decl_steps.specs.declared.levels.Focus.{Focus}
use Rattle.po_decl_steps.specs.declared.levels.Focus.TheVariants as focus
use Rattle.po_decl_steps.specs.Completing.{Completes}
use Rattle.po_decl_steps.specs.Steps.{Alike}
use Rattle.po_decl_states.specs.declared.state.State.{State}
use Rattle.po_decl_states.specs.declared.state.Step.{Step}
use Rattle.po_decl_states.specs.declared.state.Step.TheVariants as step
use Rattle.po_decl_states.specs.Scopes.{Scoped, Reads}

-- What goes on from a place to a whole declaration, for each list of the typedef names where a list of parameters began, the innermost first, and
-- of those in force.
abbrev pub Goal : Type 1
Goal = List (List (List ℕ)) → List (List ℕ) → Decl → List Sign → Type 0

-- what completes the reader's state, which stands at a place of these tokens
abbrev pub Completed : List Token → ℕ → State → Goal
Completed tokens to s outers types y left = Completes y left (reverse s.below) outers types s.level s.focus (signs_between tokens s.at to)

-- a step goes on to this state: what completes it is what went on before
pub record Leads (P : Decl → List Sign → Type 0) (tags : List (List ℕ)) (base : List Standing) (tokens : List Token) (to : ℕ) (names : InForce) (s : State) : Type 0 where
  pub outers : List (List (List ℕ))
  pub types : List (List ℕ)
  pub reads : Reads tags base outers types s.lists names
  pub alike : Alike P (Completed tokens to s outers types)

-- the declaration `d` is whole, and is the only one
pub record Ends (P : Decl → List Sign → Type 0) (d : Decl) (left : List Sign) : Type 0 where
  pub whole : P d left
  pub one : (y : Decl) (rest : List Sign) → P y rest → (y ≡ d) × (rest ≡ left)

abbrev pub Comes : (Decl → List Sign → Type 0) → List (List ℕ) → List Standing → List (List (List ℕ)) → ℕ → List Token → ℕ → InForce → Step → Type 0
Comes P tags base outers lists tokens to names (step.Next s) = Leads P tags base tokens to names s
Comes P tags base outers lists tokens to names (step.Whole d end) = Ends P d (signs_between tokens end to) × Scoped tags base outers lists names
Comes P tags base outers lists tokens to names step.Stuck = ((y : Decl) (rest : List Sign) → P y rest → ⊥) × Scoped tags base outers lists names

-- Goes P tokens to lists before behind step: from what P says a step comes to this, with `lists` open lists of parameters and the names `before`
-- in force before it, and the names `behind` behind it
pub record Goes (P : Goal) (tokens : List Token) (to lists : ℕ) (before behind : InForce) (step : Step) : Type 0 where
  pub comes : (tags : List (List ℕ)) (base : List Standing) (outers : List (List (List ℕ))) (types : List (List ℕ)) →
      Reads tags base outers types lists before → Comes (P outers types) tags base outers lists tokens to behind step

-- how many steps may follow at one place
abbrev pub rank : Focus → ℕ
rank focus.Specifiers = 2
rank focus.Declarator = 1
rank (focus.Behind item) = 0

-- more steps than are left
abbrev pub remaining : List Token → State → ℕ
remaining tokens s = 3 * (length tokens - s.at) + rank s.focus

-- a step from a place, with `steps` left, gets on
abbrev pub GetsOn : List Token → ℕ → ℕ → ℕ → ℕ → Step → Type 0
GetsOn tokens to at lists steps (step.Next s) = (at ≤ s.at) × (remaining tokens s < steps) × (lists ≤ at → s.lists ≤ s.at)
GetsOn tokens to at lists steps (step.Whole d end) = (at < end) × (end ≤ to) × (end ≤ length tokens)
GetsOn tokens to at lists steps step.Stuck = Unit {0}
