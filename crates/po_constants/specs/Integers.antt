-- How the digits of integer constants begin.
use Rattle.std.specs.Prelude.{ℕ, ◌≡◌, ◌<◌, ◌⊎◌, List, ◌∷◌}
use Rattle.po_tree.specs.Literals.{digit}

-- `0x`, a hexadecimal digit and further bytes
pub record IsHexadecimal (text : List ℕ) : Type 0 where
  pub x : ℕ
  pub d : ℕ
  pub rest : List ℕ
  pub begins : text ≡ 48 ∷ (x ∷ (d ∷ rest))
  pub is_x : (x ≡ 120) ⊎ (x ≡ 88)
  pub is_digit : digit d < 16
