-- What literals and comments are, in the words of C99.
use Rattle.std.specs.Prelude.{ℕ, ◌≡◌, ◌≢◌, List, [], ◌∷◌, ◌++◌, codes}

abbrev pub backslash : ℕ
backslash = 92

abbrev pub newline : ℕ
newline = 10

-- The characters between the quotes of a literal (6.4.4.4, 6.4.5): any but the quote, the backslash and the newline, and a
-- backslash with the one behind it, which is no newline.
pub data Characters : ℕ → List ℕ → Type 0 where
  no_character : (quote : ℕ) → Characters quote []
  plain_character : (quote c : ℕ) (cs : List ℕ) → c ≢ quote → c ≢ backslash → c ≢ newline → Characters quote cs → Characters quote (c ∷ cs)
  escape : (quote c : ℕ) (cs : List ℕ) → c ≢ newline → Characters quote cs → Characters quote (backslash ∷ c ∷ cs)

-- characters between two such quotes
abbrev pub IsLiteral : ℕ → List ℕ → Type 0
IsLiteral quote text = (chars : List ℕ) × Characters quote chars × (text ≡ quote ∷ (chars ++ (quote ∷ [])))

-- no `*/` stands in the bytes
abbrev pub HasNoEnd : List ℕ → Type 0
HasNoEnd bytes = (before after : List ℕ) → bytes ≡ before ++ (codes "*/" ++ after) → ⊥

-- `/*` and what follows up to the first `*/` (6.4.9): none ends before its last byte
abbrev pub IsComment : List ℕ → Type 0
IsComment text = (body : List ℕ) × (text ≡ codes "/*" ++ (body ++ codes "*/")) × HasNoEnd (body ++ codes "*")
