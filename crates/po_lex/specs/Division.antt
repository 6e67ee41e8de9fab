-- The division of a file's bytes into blanks, comments, directives and tokens, and the tokens of a division.
use Rattle.std.specs.Prelude.{ℕ, ◌≡◌, ◌+◌, ◌-◌, ◌^◌, ◌<◌, ◌≤◌, ◌≢◌, Bool, true, ◌==◌, ◌&&◌, ◌||◌, List, [], ◌∷◌, ◌++◌, length, drop, Option, Some, None, slice_index}
use Rattle.std.specs.List.{All}
use Rattle.po_base.specs.declared.token.TokenKind.{TokenKind}
use Rattle.po_base.specs.declared.token.Token.{Token}
use Rattle.po_base.specs.declared.token.Tokens.{Tokens}
use Rattle.po_lex.specs.Bytes.{newlines, is_gap}
use Rattle.po_lex.specs.Rows.{skip}
use Rattle.po_lex.specs.PartKinds.{part_kind_of, opening, row_of, closing, token_kind_of}
use Rattle.po_lex.specs.Directives.{directive_effect, is_proper}
use Rattle.po_lex.specs.declared.part_kind.PartKind.{PartKind}
use Rattle.po_lex.specs.declared.part_kind.PartKind.TheVariants as l
use Rattle.po_lex.specs.declared.effect.Effect.{Effect}
use Rattle.po_lex.specs.declared.effect.Effect.TheVariants as e
use Rattle.po_lex.specs.declared.position.Position.{Position}

-- a blank, a comment, a directive or a token: what it is, its bytes, and what it says of the lines after it
pub record Part : Type 0 where
  pub part_kind : PartKind
  pub text : List ℕ
  pub effect : Effect

-- Only a directive says something. Before its `#` nothing but spaces and tabs stand on its line, and it is one of those
-- that are allowed.
abbrev pub HasEffect : PartKind → Bool → List ℕ → Effect → Type 0
HasEffect l.Directive fresh text effect = (fresh ≡ true) × (directive_effect (drop 1 text) ≡ Some effect) × (is_proper effect ≡ true)
HasEffect _ fresh text effect = effect ≡ e.Silent

-- The part stands at the front of the bytes, and `rest` comes after it: its opening bytes, its row as far as it goes on,
-- and its closing bytes. `fresh` says that only spaces and tabs stand before the bytes on their line.
pub record Stands (fresh : Bool) (bytes : List ℕ) (part : Part) (rest : List ℕ) : Type 0 where
  pub whole : bytes ≡ part.text ++ rest
  pub begun : part.part_kind ≡ part_kind_of bytes
  pub some : 0 < opening part.part_kind bytes
  pub within : opening part.part_kind bytes ≤ length bytes
  pub ended : skip (row_of part.part_kind) 0 (drop (opening part.part_kind bytes) bytes) ≡ closing part.part_kind ++ rest
  pub part_effect : HasEffect part.part_kind fresh part.text part.effect

-- whether only spaces and tabs stand on the line up to the end of these bytes
abbrev pub freshly : Bool → List ℕ → Bool
freshly fresh [] = fresh
freshly fresh (c ∷ cs) = freshly ((c == 10) || (is_gap c && fresh)) cs

-- the number of the line after this one
abbrev pub next_line : Effect → ℕ → ℕ
next_line e.Silent next = next
next_line (e.Line n) next = n
next_line (e.Named n name) next = n

-- the names that a part gives to the file
abbrev pub named_by : Effect → List (List ℕ)
named_by (e.Named n name) = name ∷ []
named_by _ = []

-- the place behind a part with these bytes, which says this
abbrev pub moved : Position → List ℕ → Effect → Position
moved p text effect = record {
  fresh = freshly p.fresh text;
  next = next_line effect p.next + newlines text;
  own = p.own + newlines text;
  named = p.named + length (named_by effect);
}

abbrev pub after : Position → Part → Position
after p x = moved p x.text x.effect

-- The place at which a file begins: on its line 1, so that its next line is 2.
abbrev pub start : Position
start = record { fresh = true; next = 2; own = 1; named = 0 }

-- the place behind these parts
abbrev pub behind_all : Position → List Part → Position
behind_all p [] = p
behind_all p (x ∷ xs) = behind_all (after p x) xs

-- The parts are those of the bytes from this place on, one after the other, and `left` comes after them.
abbrev pub Divides : Position → List Part → List ℕ → List ℕ → Type 0
Divides p [] bytes left = bytes ≡ left
Divides p (x ∷ xs) bytes left = (rest : List ℕ) × Stands p.fresh bytes x rest × Divides (after p x) xs rest left

-- the token of a part, where it is one
abbrev pub as_token : Option TokenKind → Position → List ℕ → List Token
as_token None p text = []
as_token (Some kind) p text = record { kind = kind; text = text; file = p.named; line = p.next - 1; own_line = p.own } ∷ []

-- the tokens of the parts from this place on
abbrev pub tokens_of : Position → List Part → List Token
tokens_of p [] = []
tokens_of p (x ∷ xs) = as_token (token_kind_of x.part_kind) p x.text ++ tokens_of (after p x) xs

-- the names that the parts give to the file
abbrev pub names_of : List Part → List (List ℕ)
names_of [] = []
names_of (x ∷ xs) = named_by x.effect ++ names_of xs

-- the tokens are those of the bytes' division, in a file of this name
pub record AreTokens (name bytes : List ℕ) (tokens : Tokens) : Type 0 where
  pub parts : List Part
  pub divides : Divides start parts bytes []
  pub list : tokens.list ≡ tokens_of start parts
  pub names : tokens.names ≡ name ∷ names_of parts
  pub few : length tokens.list ≤ 2 ^ 22

-- the file of each token is a place among the names
abbrev pub ArePlaced : Tokens → Type 0
ArePlaced tokens = All (λ t. t.file < length tokens.names) tokens.list

-- no part stands at the front of the bytes
abbrev pub NoneStands : Bool → List ℕ → Type 0
NoneStands fresh bytes = (part : Part) (rest : List ℕ) → Stands fresh bytes part rest → ⊥

-- a directive begins here
abbrev pub is_directive : Bool → List ℕ → Bool
is_directive fresh bytes = fresh && (slice_index bytes 0 == 35)

-- the first place at which no part stands is on this line of the file; whether a directive begins there
pub record Fails (bytes : List ℕ) (line : ℕ) (directive : Bool) : Type 0 where
  pub front : List Part
  pub left : List ℕ
  pub divides : Divides start front bytes left
  pub some : left ≢ []
  pub none : NoneStands (behind_all start front).fresh left
  pub line_of : line ≡ (behind_all start front).own
  pub directive_of : directive ≡ is_directive (behind_all start front).fresh left

-- the bytes' division has too many tokens
pub record HasTooMany (bytes : List ℕ) : Type 0 where
  pub parts : List Part
  pub divides : Divides start parts bytes []
  pub many : 2 ^ 22 < length (tokens_of start parts)
