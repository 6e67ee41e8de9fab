-- Lists of the names that expressions assign.
use Rattle.std.specs.Prelude.{ℕ, ◌≡◌, List, map, Bool, ◌||◌}
use Rattle.po_tree.specs.declared.expression.Exp.{Exp}
use Rattle.po_lowering.specs.Naming.{assigned, any_of, holds_of}

-- whether one of the expressions assigns such a variable
abbrev pub some_assigns : (List ℕ → Bool) → List Exp → Bool
some_assigns is_one xs = any_of (map (λ x. (assigned is_one x).does) xs)

-- whether the name that an expression is, if it is one, is such a name
abbrev pub assigns_name : (List ℕ → Bool) → Exp → Bool
assigns_name is_one x = holds_of is_one (assigned is_one x).is

-- Whatever is asked of a name, it is true of one of the names exactly where one of the expressions assigns a variable of which it is true.
abbrev pub Gathers : List Exp → List (List ℕ) → Type 0
Gathers xs names = (is_one : List ℕ → Bool) → any_of (map is_one names) ≡ some_assigns is_one xs

-- Of the names behind the old ones whatever is asked is true of one exactly where the word says so.
pub record AddsNames (tells : (List ℕ → Bool) → Bool) (before after : List (List ℕ)) : Type 0 where
  pub adds : (is_one : List ℕ → Bool) → any_of (map is_one after) ≡ (any_of (map is_one before) || tells is_one)

-- the names that one of the expressions assigns are behind the old ones
abbrev pub GathersMore : List Exp → List (List ℕ) → List (List ℕ) → Type 0
GathersMore xs = AddsNames (λ is_one. some_assigns is_one xs)
