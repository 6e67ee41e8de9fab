-- What stands at a place, as the first two bytes there tell, and the bytes that it has.
use Rattle.std.specs.Prelude.{ℕ, Bool, cond, ◌==◌, ◌&&◌, ◌||◌, List, [], ◌∷◌, nat_eq, max, length, codes, Option, Some, None, slice_index}
use Rattle.std.specs.List.{starts_with}
use Rattle.po_base.specs.declared.token.TokenKind.{TokenKind}
use Rattle.po_base.specs.declared.token.TokenKind.TheVariants as k
use Rattle.po_lex.specs.Bytes.{is_space, is_digit, begins_word, are, newlines}
use Rattle.po_lex.specs.declared.row.Row.{Row}
use Rattle.po_lex.specs.declared.row.Row.TheVariants as r
use Rattle.po_lex.specs.declared.part_kind.PartKind.{PartKind}
use Rattle.po_lex.specs.declared.part_kind.PartKind.TheVariants as l

-- a digit, or a `.` and a digit (6.4.8)
abbrev pub begins_number : ℕ → ℕ → Bool
begins_number c d = is_digit c || ((c == 46) && is_digit d)

-- What the first two bytes begin, 0 standing for no second one; each line of the table where none before applies.
abbrev pub part_kind_at : ℕ → ℕ → PartKind
part_kind_at c d =
    cond ((c == 10) || is_space c) l.Blank
    (cond (are c d 92 10) l.Splice
    (cond (are c d 47 42) l.Comment
    (cond (are c d 47 47) l.LineComment
    (cond (begins_word c) l.Word
    (cond (begins_number c d) l.Number
    (cond (c == 39) l.Char
    (cond (c == 34) l.Str
    (cond (c == 35) l.Directive l.Punctuator))))))))

abbrev pub part_kind_of : List ℕ → PartKind
part_kind_of bytes = part_kind_at (slice_index bytes 0) (slice_index bytes 1)

-- the punctuators (6.4.6)
abbrev pub signs : List (List ℕ)
signs =
    codes "[" ∷ codes "]" ∷ codes "(" ∷ codes ")" ∷ codes "{" ∷ codes "}" ∷ codes "." ∷ codes "->" ∷ codes "++" ∷ codes "--" ∷
    codes "&" ∷ codes "*" ∷ codes "+" ∷ codes "-" ∷ codes "~" ∷ codes "!" ∷ codes "/" ∷ codes "%" ∷ codes "<<" ∷ codes ">>" ∷
    codes "<" ∷ codes ">" ∷ codes "<=" ∷ codes ">=" ∷ codes "==" ∷ codes "!=" ∷ codes "^" ∷ codes "|" ∷ codes "&&" ∷ codes "||" ∷
    codes "?" ∷ codes ":" ∷ codes ";" ∷ codes "..." ∷ codes "=" ∷ codes "*=" ∷ codes "/=" ∷ codes "%=" ∷ codes "+=" ∷ codes "-=" ∷
    codes "<<=" ∷ codes ">>=" ∷ codes "&=" ∷ codes "^=" ∷ codes "|=" ∷ codes "," ∷ []

-- the length of the longest of these texts with which the bytes begin, 0 where they begin with none
abbrev pub longest : List (List ℕ) → List ℕ → ℕ
longest [] bytes = 0
longest (x ∷ xs) bytes = cond (starts_with nat_eq bytes x) (max (length x) (longest xs bytes)) (longest xs bytes)

-- how many bytes it has before its row begins
abbrev pub opening : PartKind → List ℕ → ℕ
opening l.Splice bytes = 2
opening l.Comment bytes = 2
opening l.LineComment bytes = 2
opening l.Punctuator bytes = longest signs bytes
opening _ bytes = 1

-- the row that then goes on as far as it can
abbrev pub row_of : PartKind → Row
row_of l.Comment = r.Comment
row_of l.LineComment = r.Line
row_of l.Word = r.Word
row_of l.Number = r.Number
row_of l.Char = r.Literal 39
row_of l.Str = r.Literal 34
row_of l.Directive = r.Line
row_of _ = r.Nothing

-- the bytes that have to close it
abbrev pub closing : PartKind → List ℕ
closing l.Comment = 47 ∷ []
closing l.Char = 39 ∷ []
closing l.Str = 34 ∷ []
closing _ = []

-- the kind of token that it is, where it is one
abbrev pub token_kind_of : PartKind → Option TokenKind
token_kind_of l.Word = Some k.Word
token_kind_of l.Number = Some k.Number
token_kind_of l.Char = Some k.Char
token_kind_of l.Str = Some k.Str
token_kind_of l.Punctuator = Some k.Punct
token_kind_of _ = None

-- how many lines end in a part with these bytes: none in a token or a directive
abbrev pub lines : PartKind → List ℕ → ℕ
lines l.Word text = 0
lines l.Number text = 0
lines l.Char text = 0
lines l.Str text = 0
lines l.Directive text = 0
lines l.Punctuator text = 0
lines _ text = newlines text
