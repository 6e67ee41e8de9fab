-- What the reader has read, and how it goes on to a whole initialiser.
use Rattle.std.specs.Prelude.{ℕ, ◌≡◌, ◌<◌, ◌≤◌, ◌+◌, ◌*◌, ◌-◌, true, false, List, [], ◌∷◌, ◌++◌, length, reverse, Option, Some, None}
use Rattle.po_base.specs.declared.token.Token.{Token}
use Rattle.po_tree.specs.declared.declaration.Init.{Init}
use Rattle.po_tree.specs.declared.declaration.Init.TheVariants as init
use Rattle.po_tree.specs.Signs.{Sign, comma, brace_end}
use Rattle.po_exp_parts.specs.Places.{signs_between, BeginsEnd}
use Rattle.po_init_read.specs.declared.read.State.{State}
use Rattle.po_init_read.specs.declared.read.Step.{Step}
use Rattle.po_init_read.specs.declared.read.Step.TheVariants as step
use Rattle.po_init_read.specs.Initialisers.{StandsEnded}

-- Completes types outer last ts y us: behind what was read, y is completed by the tokens at the front of ts, and us are left. What was read are
-- the items so far of each open brace, the innermost first, and the last initialiser; none where one is wanted. An initialiser that is wanted
-- is taken at once, with all that stands in its braces.
pub data Completes (types : List (List ℕ)) : List (List Init) → Option Init → List Sign → Init → List Sign → Type 0 where
  item : (outer : List (List Init)) (x y : Init) (ts us left : List Sign) → StandsEnded types ts x us →
      Completes types outer (Some x) us y left → Completes types outer None ts y left
  whole : (x : Init) (ts : List Sign) → BeginsEnd ts → Completes types [] (Some x) ts x ts
  next : (outer : List (List Init)) (xs : List Init) (x y : Init) (ts left : List Sign) →
      Completes types ((xs ++ x ∷ []) ∷ outer) None ts y left → Completes types (xs ∷ outer) (Some x) (comma ∷ ts) y left
  closed : (outer : List (List Init)) (xs : List Init) (x y : Init) (ts left : List Sign) →
      Completes types outer (Some (init.Many (xs ++ x ∷ []) false)) ts y left → Completes types (xs ∷ outer) (Some x) (brace_end ∷ ts) y left
  closed_behind_comma : (outer : List (List Init)) (xs : List Init) (x y : Init) (ts left : List Sign) →
      Completes types outer (Some (init.Many (xs ++ x ∷ []) true)) ts y left → Completes types (xs ∷ outer) (Some x) (comma ∷ (brace_end ∷ ts)) y left

-- what completes the one completes the other
pub record Alike (types : List (List ℕ)) (outer : List (List Init)) (last : Option Init) (ts : List Sign)
    (outer' : List (List Init)) (last' : Option Init) (ts' : List Sign) : Type 0 where
  pub forth : (y : Init) (left : List Sign) → Completes types outer last ts y left → Completes types outer' last' ts' y left
  pub back : (y : Init) (left : List Sign) → Completes types outer' last' ts' y left → Completes types outer last ts y left

-- Where the reader stands is `s`: what it has read, and a place of these tokens.
abbrev pub Completed : List (List ℕ) → List Token → ℕ → State → Init → List Sign → Type 0
Completed types tokens to s y left = Completes types (reverse s.braces) s.last (signs_between tokens s.at to) y left

-- an initialiser that is wanted is one step more
abbrev pub wanted : Option Init → ℕ
wanted None = 1
wanted (Some x) = 0

-- more steps than are left
abbrev pub remaining : List Token → State → ℕ
remaining tokens s = 2 * (length tokens - s.at) + wanted s.last

-- A step goes on from one place to another, or ends: what was read is whole, or nothing completes it.
abbrev pub Goes : List (List ℕ) → List Token → ℕ → State → Step → Type 0
Goes types tokens to s (step.Next t) =
    Alike types (reverse s.braces) s.last (signs_between tokens s.at to) (reverse t.braces) t.last (signs_between tokens t.at to) ×
    (s.at ≤ t.at) × (remaining tokens t < remaining tokens s)
Goes types tokens to s (step.Whole x end) =
    (s.braces ≡ []) × (s.last ≡ Some x) × (s.at ≡ end) × BeginsEnd (signs_between tokens end to) × (end ≤ to) × (end ≤ length tokens)
Goes types tokens to s step.Stuck = (y : Init) (left : List Sign) → Completed types tokens to s y left → ⊥

-- What completes the reader's state is what stands with an end behind it at the place where it began.
pub record Leads (types : List (List ℕ)) (tokens : List Token) (from to : ℕ) (s : State) : Type 0 where
  pub forth : (y : Init) (left : List Sign) → StandsEnded types (signs_between tokens from to) y left → Completed types tokens to s y left
  pub back : (y : Init) (left : List Sign) → Completed types tokens to s y left → StandsEnded types (signs_between tokens from to) y left
  pub after : from ≤ s.at
