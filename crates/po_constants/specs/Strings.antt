-- One string literal.
use Rattle.std.specs.Prelude.{ℕ, ◌≡◌, List, ◌∷◌}
use Rattle.po_tree.specs.Literals.{Characters}

-- a string literal of these characters (6.4.5)
pub record IsStringOf (text values : List ℕ) : Type 0 where
  pub rest : List ℕ
  pub quoted : text ≡ 34 ∷ rest
  pub characters : Characters 34 values rest
