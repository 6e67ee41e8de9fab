-- The files and lines of tokens, and the marks that give them (C99 6.10.4).
use Rattle.std.specs.Prelude.{ℕ, ◌≡◌, ◌<◌, List, [], ◌∷◌, ◌++◌, map, take, drop, length, get_or, Contains}
use Rattle.po_base.specs.declared.token.Token.{Token}
use Rattle.po_base.specs.declared.token.Tokens.{Tokens}
use Rattle.po_tree.specs.Statements.{AreNumbered, AllDiffer}

-- the name of a token's file, and its line
abbrev pub spot : List (List ℕ) → Token → List ℕ × ℕ
spot names token = (get_or names token.file [], token.line)

-- those of the tokens from one place to another
abbrev pub spots_between : Tokens → ℕ → ℕ → List (List ℕ × ℕ)
spots_between tokens from to = map (spot tokens.names) (drop from (take to tokens.list))

-- the name and the line that a mark gives
abbrev pub marked : List (List ℕ) → ℕ × ℕ → List ℕ × ℕ
marked names mark = (get_or names mark.0 [], mark.1)

-- the place of a name among names: it stands there, or it is new and stands behind them
pub data IsPlaceOf (before : List (List ℕ)) (name : List ℕ) : ℕ → List (List ℕ) → Type 0 where
  known : (place : ℕ) → place < length before → get_or before place [] ≡ name → IsPlaceOf before name place before
  first_seen : (Contains before name → ⊥) → IsPlaceOf before name (length before) (before ++ name ∷ [])

-- marks of these spots, with the names of files in the order of first appearance, no name twice; other spots are left
pub record Marking (spots : List (List ℕ × ℕ)) (marks : List (ℕ × ℕ)) (names : List (List ℕ)) (left : List (List ℕ × ℕ)) : Type 0 where
  pub order : AreNumbered 0 marks (length names)
  pub differ : AllDiffer names
  pub placed : spots ≡ map (marked names) marks ++ left
