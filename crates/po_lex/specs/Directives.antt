-- What the lines of the preprocessor say: line markers, and lines that are skipped.
use Rattle.std.specs.Prelude.{ℕ, ◌+◌, ◌*◌, ◌-◌, ◌^◌, Bool, false, true, cond, not, min, ◌==◌, ◌&&◌, ◌||◌, nat_le, nat_lt, List, [], ◌∷◌, drop, codes, Option, Some, None}
use Rattle.std.specs.Str.{bytes_eq, is_utf8}
use Rattle.std.specs.List.{list_all}
use Rattle.po_lex.specs.Bytes.{is_digit}
use Rattle.po_lex.specs.Rows.{front, skip}
use Rattle.po_lex.specs.declared.row.Row.{Row}
use Rattle.po_lex.specs.declared.row.Row.TheVariants as r
use Rattle.po_lex.specs.declared.effect.Effect.{Effect}
use Rattle.po_lex.specs.declared.effect.Effect.TheVariants as e

abbrev pub is_end : List ℕ → Bool
is_end [] = true
is_end (c ∷ cs) = false

abbrev pub begins_digit : List ℕ → Bool
begins_digit [] = false
begins_digit (c ∷ cs) = is_digit c

abbrev pub begins_quote : List ℕ → Bool
begins_quote [] = false
begins_quote (c ∷ cs) = c == 34

-- the number whose digits go on from n with the longest row of digits at the front
abbrev pub value : ℕ → List ℕ → ℕ
value n [] = n
value n (c ∷ cs) = cond (is_digit c) (value (10 * n + (c - 48)) cs) n

-- the decimal number at the front, where 2^31 stands for every number that isn't below it
abbrev pub number : List ℕ → ℕ
number xs = min (2 ^ 31) (value 0 xs)

-- A written name without its escapes: `\\` is a backslash, `\"` a quote, any other backslash stands for itself.
-- `taken` says that a backslash stands before the bytes.
abbrev pub plain : Bool → List ℕ → List ℕ
plain false [] = []
plain true [] = 92 ∷ []
plain false (c ∷ cs) = cond (c == 92) (plain true cs) (c ∷ plain false cs)
plain true (c ∷ cs) = cond ((c == 92) || (c == 34)) (c ∷ plain false cs) (92 ∷ c ∷ plain false cs)

-- what comes after the blanks at the front
abbrev pub solid : List ℕ → List ℕ
solid xs = skip r.Spaces 0 xs

-- what comes after the literal at the front, from its second quote on
abbrev pub unquoted : List ℕ → List ℕ
unquoted xs = skip (r.Literal 34) 0 (drop 1 xs)

-- `"NAME"`, and then nothing but such a row
abbrev pub is_named : Row → List ℕ → Bool
is_named tail xs = begins_quote xs && begins_quote (unquoted xs) && is_end (skip tail 0 (drop 1 (unquoted xs)))

abbrev pub name_of : List ℕ → List ℕ
name_of xs = plain false (front (r.Literal 34) 0 (drop 1 xs))

abbrev pub named : Row → ℕ → List ℕ → Option Effect
named tail n xs = cond (is_named tail xs) (Some (e.Named n (name_of xs))) None

-- `N "NAME" flags`
abbrev pub marker : List ℕ → Option Effect
marker xs = named r.Flags (number xs) (solid (skip r.Digits 0 xs))

-- after `line`: `N`, or `N "NAME"`
abbrev pub numbered : List ℕ → Option Effect
numbered xs =
    cond (not (begins_digit xs)) None
    (cond (is_end (solid (skip r.Digits 0 xs))) (Some (e.Line (number xs)))
    (named r.Spaces (number xs) (solid (skip r.Digits 0 xs))))

-- the bytes begin with this word
abbrev pub is_word : List ℕ → List ℕ → Bool
is_word word xs = bytes_eq (front r.Word 0 xs) word

-- what comes after the word at the front and the blanks behind it
abbrev pub next : List ℕ → List ℕ
next xs = solid (skip r.Word 0 xs)

-- what a line says from its first byte that is no blank on; None where no such line is allowed
abbrev pub directive_effect_at : List ℕ → Option Effect
directive_effect_at xs =
    cond (is_end xs) (Some e.Silent)
    (cond (begins_digit xs) (marker xs)
    (cond (is_word (codes "line") xs) (numbered (next xs))
    (cond (is_word (codes "ident") xs) (Some e.Silent)
    (cond (is_word (codes "pragma") xs && not (is_word (codes "pack") (next xs))) (Some e.Silent) None))))

-- what a line says, from behind its `#`
abbrev pub directive_effect : List ℕ → Option Effect
directive_effect line = directive_effect_at (solid line)

-- bytes of a name: UTF-8 without bytes below 32
abbrev pub is_name : List ℕ → Bool
is_name name = list_all (λ c. nat_le 32 c) name && is_utf8 name

-- a number of a line is at most 2147483647
abbrev pub is_proper : Effect → Bool
is_proper e.Silent = true
is_proper (e.Line n) = nat_lt n (2 ^ 31)
is_proper (e.Named n name) = nat_lt n (2 ^ 31) && is_name name
