-- Where the body of a definition opens: at the first brace that no word stands directly before. In a head a brace stands directly behind `struct`,
-- `enum` or a tag (C99 6.7.2.1, 6.7.2.2), and the body's stands behind a declarator (6.9.1).
use Rattle.std.specs.Prelude.{◌≡◌, Bool, true, false, List, [], ◌∷◌, ◌++◌}
use Rattle.po_base.specs.declared.token.TokenKind.{TokenKind}
use Rattle.po_base.specs.declared.token.TokenKind.TheVariants as k
use Rattle.po_tree.specs.Signs.{Sign, brace}

abbrev pub is_word_kind : TokenKind → Bool
is_word_kind k.Word = true
is_word_kind _ = false

-- a keyword or a name (6.4.1, 6.4.2)
abbrev pub is_word : Sign → Bool
is_word sign = is_word_kind sign.kind

-- each brace stands directly behind a word; `behind` says whether a word stands directly before the signs
abbrev pub BracesFollow : Bool → List Sign → Type 0
BracesFollow behind [] = Unit {0}
BracesFollow behind (sign ∷ signs) = (sign ≡ brace → behind ≡ true) × BracesFollow (is_word sign) signs

-- whether the last of the signs is a word; `behind` says it where there is none
abbrev pub ends_in_word : Bool → List Sign → Bool
ends_in_word behind [] = behind
ends_in_word behind (sign ∷ signs) = ends_in_word (is_word sign) signs

-- the signs are those of a head, the brace that opens the body, and these
pub record OpensBody (signs head left : List Sign) : Type 0 where
  pub parted : signs ≡ head ++ (brace ∷ left)
  pub follow : BracesFollow false head
  pub ends : ends_in_word false head ≡ false

-- the signs are those before a place, whose braces follow words and the last of which is a word or isn't, and those from there on
pub record Passes (signs head left : List Sign) (behind : Bool) : Type 0 where
  pub parted : signs ≡ head ++ left
  pub follow : BracesFollow false head
  pub ends : ends_in_word false head ≡ behind
