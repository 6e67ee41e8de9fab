-- What the reader of tokens has read, and why it fails.
use Rattle.std.specs.Prelude.{ℕ, ◌≡◌, ◌^◌, ◌<◌, ◌≤◌, Bool, true, false, List, ◌∷◌, length}
use Rattle.po_base.specs.declared.token.Token.{Token}
use Rattle.po_lex.specs.Division.{Part, Fails, HasTooMany, start, behind_all, tokens_of, names_of}
use Rattle.po_lex.specs.declared.lexing.LexFail.{LexFail}
use Rattle.po_lex.specs.declared.lexing.LexFail.TheVariants as f
use Rattle.po_lex.specs.declared.lexing.Lexer.{Lexer}

-- the failure on this line, of a directive or of another part
abbrev pub failure : Bool → ℕ → LexFail
failure true own = f.Directive own
failure false own = f.Lex own

-- each answer that `tokens` gives in place of the tokens, with its cause; want of memory has none
abbrev pub HasCause : List ℕ → LexFail → Type 0
HasCause bytes (f.Lex line) = Fails bytes line false
HasCause bytes (f.Directive line) = Fails bytes line true
HasCause bytes f.TooMany = HasTooMany bytes
HasCause bytes f.Memory = Unit {0}

-- the list is that of the tokens, or they are more than it may have
abbrev pub IsKept : Bool → List Token → List Token → Type 0
IsKept false list tokens = (list ≡ tokens) × (length tokens ≤ 2 ^ 22)
IsKept true list tokens = 2 ^ 22 < length tokens

-- the reader has read these parts of a file of this name
pub record IsRead (name : List ℕ) (front : List Part) (lexer : Lexer) : Type 0 where
  pub position : lexer.position ≡ behind_all start front
  pub list : IsKept lexer.excess lexer.list (tokens_of start front)
  pub names : lexer.names ≡ name ∷ names_of front
