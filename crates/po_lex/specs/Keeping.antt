-- The kept tokens: those of a file without the words and attributes of its compiler that declare nothing.
use Rattle.std.specs.Prelude.{ℕ, ◌≡◌, ◌+◌, ◌-◌, Bool, true, false, cond, not, ◌==◌, ◌&&◌, ◌||◌, List, [], ◌∷◌, ◌++◌, take, drop, codes, Option, Some, None}
use Rattle.std.specs.List.{list_any}
use Rattle.std.specs.Str.{bytes_eq}
use Rattle.po_base.specs.declared.token.Token.{Token}
use Rattle.po_lex.specs.Brackets.{State, outset, step, mark, is_word, closer, is_closer}
use Rattle.po_lex.specs.declared.keeping.Context.{Context}
use Rattle.po_lex.specs.declared.keeping.Replacements.{Replacements}
use Rattle.po_lex.specs.declared.extension.Extension.{Extension}
use Rattle.po_lex.specs.declared.extension.Extension.TheVariants as e

-- words that are dropped
abbrev pub dropped : List (List ℕ)
dropped = codes "__extension__" ∷ codes "__restrict" ∷ codes "__restrict__" ∷ []

abbrev pub attribute : List (List ℕ)
attribute = codes "__attribute__" ∷ []

abbrev pub assembler : List (List ℕ)
assembler = codes "__asm__" ∷ []

-- an attribute that holds one of these stays
abbrev pub telling : List (List ℕ)
telling =
    codes "packed" ∷ codes "aligned" ∷ codes "mode" ∷ codes "vector_size" ∷ codes "cleanup" ∷ codes "__packed__" ∷ codes "__aligned__" ∷
    codes "__mode__" ∷ codes "__vector_size__" ∷ codes "__cleanup__" ∷ []

-- words that are read as `inline`, and as `const`
abbrev pub inlines : List (List ℕ)
inlines = codes "__inline" ∷ codes "__inline__" ∷ []

abbrev pub consts : List (List ℕ)
consts = codes "__const" ∷ []

-- the text is one of these
abbrev pub is_among : List (List ℕ) → List ℕ → Bool
is_among words text = list_any (λ w. bytes_eq w text) words

-- the token is one of these words
abbrev pub is_one_of : List (List ℕ) → Token → Bool
is_one_of words t = is_word t.kind && is_among words t.text

-- the word of the compiler's own that a text is
abbrev pub extension_word : List ℕ → Extension
extension_word text =
    cond (is_among dropped text) e.Dropped
    (cond (is_among attribute text) e.Attribute
    (cond (is_among assembler text) e.Assembler
    (cond (is_among inlines text) e.Inline
    (cond (is_among consts text) e.Const e.Other))))

abbrev pub extension_of : Token → Extension
extension_of t = cond (is_word t.kind) (extension_word t.text) e.Other

abbrev pub is_empty : {X : Type 0} → List X → Bool
is_empty [] = true
is_empty (x ∷ xs) = false

-- no bracket is open any more
abbrev pub is_closed : Option State → Bool
is_closed None = false
is_closed (Some s) = is_empty s.stack

-- How many tokens there are up to the first behind which no bracket is open, after n others; 0 where brackets don't match
-- before, or there is no such token.
abbrev pub group : ℕ → Option State → List Token → ℕ
group n s [] = 0
group n None (t ∷ ts) = 0
group n (Some s) (t ∷ ts) = cond (is_closed (step s t)) (n + 1) (group (n + 1) (step s t) ts)

abbrev pub begins_paren : List Token → Bool
begins_paren [] = false
begins_paren (t ∷ ts) = mark t == 40

-- how many tokens the parentheses have that stand first, with what they hold; 0 where none stand there
abbrev pub parens : List Token → ℕ
parens ts = cond (begins_paren ts) (group 0 (Some outset) ts) 0

-- the same of double parentheses, of which the inner ones close directly before the outer
abbrev pub double_parens : List Token → ℕ
double_parens ts = cond (not (parens (drop 1 ts) == 0) && (parens (drop 1 ts) + 2 == parens ts)) (parens ts) 0

-- how many brackets are open behind a token, where d were before it
abbrev pub deeper : ℕ → Token → ℕ
deeper d t = cond (is_closer (mark t)) (d - 1) (cond (closer (mark t) == 0) d (d + 1))

-- a declarator may end with it: a word, a `)` or a `]`
abbrev pub may_end : Token → Bool
may_end t = is_word t.kind || (mark t == 41) || (mark t == 93)

-- The start of a file: no bracket is open, and nothing stands before.
abbrev pub at_start : Context
at_start = record { depth = 0; after = false }

-- what holds behind these tokens
abbrev pub advance : Context → List Token → Context
advance m [] = m
advance m (t ∷ ts) = advance (record { depth = deeper m.depth t; after = may_end t }) ts

-- How many tokens from t on are judged at once: an attribute with its double parentheses, outside brackets an `__asm__` with
-- its parentheses behind what a declarator may end with, and else one token.
abbrev pub size_as : Extension → Context → List Token → ℕ
size_as e.Attribute m us = double_parens us + 1
size_as e.Assembler m us = cond (m.after && (m.depth == 0)) (parens us + 1) 1
size_as _ m us = 1

abbrev pub size : Context → Token → List Token → ℕ
size m t us = size_as (extension_of t) m us

-- the words as which others are read
pub record AreReplacements (words : Replacements) : Type 0 where
  pub inline_of : words.inline ≡ codes "inline"
  pub constant_of : words.constant ≡ codes "const"

-- a token with the word as which it is read
abbrev pub renamed_as : Extension → Token → Token
renamed_as e.Inline t = record t { text = codes "inline" }
renamed_as e.Const t = record t { text = codes "const" }
renamed_as _ t = t

abbrev pub renamed : Token → Token
renamed t = renamed_as (extension_of t) t

-- an attribute stays where it holds a word that tells something
abbrev pub tells : List Token → Bool
tells held = list_any (is_one_of telling) held

-- What is kept of a token and those `held` behind it, which are judged at once: an attribute stays whole, or goes.
abbrev pub kept_as : Extension → Token → List Token → List Token
kept_as e.Dropped t held = []
kept_as e.Attribute t held = cond (is_empty held || tells held) (t ∷ held) []
kept_as e.Assembler t held = cond (is_empty held) (t ∷ []) []
kept_as x t held = renamed_as x t ∷ []

abbrev pub kept_of : ℕ → Token → List Token → List Token
kept_of n t us = kept_as (extension_of t) t (take (n - 1) us)

-- The tokens `kept` are those that are kept of the tokens, before which this holds.
pub data Keeps : Context → List Token → List Token → Type 0 where
  nothing : (m : Context) → Keeps m [] []
  more : (m : Context) (t : Token) (us kept : List Token) →
      Keeps (advance m (take (size m t us) (t ∷ us))) (drop (size m t us) (t ∷ us)) kept →
      Keeps m (t ∷ us) (kept_of (size m t us) t us ++ kept)

-- The tokens `kept` are some of these, in their order, each as it is or with the word as which it is read.
pub data AreSelected : List Token → List Token → Type 0 where
  none_left : AreSelected [] []
  left_out : (t : Token) (ts kept : List Token) → AreSelected ts kept → AreSelected (t ∷ ts) kept
  taken : (t : Token) (ts kept : List Token) → AreSelected ts kept → AreSelected (t ∷ ts) (t ∷ kept)
  reread : (t : Token) (ts kept : List Token) → AreSelected ts kept → AreSelected (t ∷ ts) (renamed t ∷ kept)
