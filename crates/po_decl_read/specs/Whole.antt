-- The declaration that a piece of a file is (C99 6.7, 6.9).
use Rattle.std.specs.Prelude.{ℕ, ◌≡◌, List}
use Rattle.po_tree.specs.declared.declaration.Decl.{Decl}
use Rattle.po_tree.specs.Signs.{Sign}
use Rattle.po_tree.specs.Printing.{flat_decl}
use Rattle.po_tree.specs.Declarations.{IsDeclaration}

-- the tokens of the piece are just those that d prints, where d is a well-formed declaration at file level or a lone semicolon, none of whose
-- paths has more than 256 expressions, and `types` are the typedef names in force
pub record PieceIs (types : List (List ℕ)) (signs : List Sign) (d : Decl) : Type 0 where
  pub behind : List (List ℕ)
  pub formed : IsDeclaration types d behind
  pub printed : signs ≡ flat_decl d
