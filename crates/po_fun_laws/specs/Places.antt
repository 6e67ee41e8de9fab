-- Definitions with the same tokens.
use Rattle.std.specs.Prelude.{◌≡◌}
use Rattle.po_tree.specs.declared.function.FunTree.{FunTree}
use Rattle.po_tree.specs.Printing.{flat_fun}
use Rattle.po_tree.specs.Statements.{places_of}

-- two definitions print the same tokens, each in the same file and line
pub record AreSameTokens (g h : FunTree) : Type 0 where
  pub printed : flat_fun g ≡ flat_fun h
  pub places : places_of g ≡ places_of h
