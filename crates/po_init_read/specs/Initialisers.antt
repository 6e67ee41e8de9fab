-- The initialiser at the front of tokens (C99 6.7.8).
use Rattle.std.specs.Prelude.{ℕ, ◌≤◌, ◌≡◌, List, ◌++◌}
use Rattle.po_tree.specs.declared.declaration.Init.{Init}
use Rattle.po_tree.specs.Signs.{Sign}
use Rattle.po_tree.specs.Printing.{flat_init}
use Rattle.po_tree.specs.Heights.{init_height}
use Rattle.po_tree.specs.Declarations.{IsInit}
use Rattle.po_exp_parts.specs.Places.{BeginsEnd}

-- x is a well-formed initialiser, none of whose paths has more than 256 expressions, where `types` are the typedef names in force;
-- the tokens are those that it prints and then these, which begin with an end
pub record StandsEnded (types : List (List ℕ)) (signs : List Sign) (x : Init) (left : List Sign) : Type 0 where
  pub formed : IsInit types x
  pub nested : init_height x ≤ 256
  pub printed : signs ≡ flat_init x ++ left
  pub ended : BeginsEnd left

-- no initialiser with an end behind it stands at the front
abbrev pub NoneStandsEnded : List (List ℕ) → List Sign → Type 0
NoneStandsEnded types signs = (x : Init) (left : List Sign) → StandsEnded types signs x left → ⊥
