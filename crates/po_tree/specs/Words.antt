-- Kinds of words.
use Rattle.std.specs.Prelude.{ℕ, List, [], ◌∷◌, codes, Contains}

-- the keywords of C99 (6.4.1)
abbrev pub keywords : List (List ℕ)
keywords =
    codes "auto" ∷ codes "break" ∷ codes "case" ∷ codes "char" ∷ codes "const" ∷ codes "continue" ∷ codes "default" ∷ codes "do" ∷
    codes "double" ∷ codes "else" ∷ codes "enum" ∷ codes "extern" ∷ codes "float" ∷ codes "for" ∷ codes "goto" ∷ codes "if" ∷
    codes "inline" ∷ codes "int" ∷ codes "long" ∷ codes "register" ∷ codes "restrict" ∷ codes "return" ∷ codes "short" ∷ codes "signed" ∷
    codes "sizeof" ∷ codes "static" ∷ codes "struct" ∷ codes "switch" ∷ codes "typedef" ∷ codes "union" ∷ codes "unsigned" ∷ codes "void" ∷
    codes "volatile" ∷ codes "while" ∷ codes "_Bool" ∷ codes "_Complex" ∷ codes "_Imaginary" ∷ []

-- a word may be a name where it is no keyword (6.4.2.1)
abbrev pub IsName : List ℕ → Type 0
IsName text = Contains keywords text → ⊥

-- storage-class specifiers (6.7.1)
abbrev pub storage_classes : List (List ℕ)
storage_classes = codes "typedef" ∷ codes "extern" ∷ codes "static" ∷ codes "auto" ∷ codes "register" ∷ []

-- the words of void and of the integer types (6.7.2)
abbrev pub type_words : List (List ℕ)
type_words =
    codes "void" ∷ codes "char" ∷ codes "short" ∷ codes "int" ∷ codes "long" ∷ codes "signed" ∷ codes "unsigned" ∷ codes "_Bool" ∷ []

-- type qualifiers (6.7.3); `volatile` isn't read
abbrev pub qualifiers : List (List ℕ)
qualifiers = codes "const" ∷ codes "restrict" ∷ []
