-- The declaration at the front of tokens (C99 6.7).
use Rattle.std.specs.Prelude.{ℕ, ◌≤◌, ◌≡◌, List, ◌++◌}
use Rattle.po_tree.specs.declared.declaration.Decl.{Decl}
use Rattle.po_tree.specs.Signs.{Sign}
use Rattle.po_tree.specs.Printing.{flat_decl}
use Rattle.po_tree.specs.Heights.{decl_height}
use Rattle.po_tree.specs.Declarations.{Declared}

-- d is a well-formed declaration, none of whose paths has more than 256 expressions, where `types` are the typedef names in force; the
-- tokens are those that it prints, with its semicolon, and then these
pub record DeclarationStands (types : List (List ℕ)) (signs : List Sign) (d : Decl) (left : List Sign) : Type 0 where
  pub behind : List (List ℕ)
  pub formed : Declared types d behind
  pub nested : decl_height d ≤ 256
  pub printed : signs ≡ flat_decl d ++ left
