-- Kinds of bytes (C99 5.2.1, 6.4).
use Rattle.std.specs.Prelude.{ℕ, Bool, ◌==◌, ◌&&◌, ◌||◌, nat_le, List, count_by}

-- a blank within a line: space, tab, vertical tab, form feed or carriage return
abbrev pub is_space : ℕ → Bool
is_space c = (c == 32) || (c == 9) || (c == 11) || (c == 12) || (c == 13)

-- a blank by itself: a newline, or a blank within a line
abbrev pub is_blank : ℕ → Bool
is_blank c = (c == 10) || is_space c

-- a space or a tab
abbrev pub is_gap : ℕ → Bool
is_gap c = (c == 32) || (c == 9)

abbrev pub is_digit : ℕ → Bool
is_digit c = nat_le 48 c && nat_le c 57

-- a letter or `_` (6.4.2.1)
abbrev pub is_letter : ℕ → Bool
is_letter c = (nat_le 97 c && nat_le c 122) || (nat_le 65 c && nat_le c 90) || (c == 95)

-- a word begins with a letter, `_` or `$`
abbrev pub begins_word : ℕ → Bool
begins_word c = is_letter c || (c == 36)

-- a sign may follow these in a number (6.4.8)
abbrev pub is_exponent : ℕ → Bool
is_exponent c = (c == 101) || (c == 69) || (c == 112) || (c == 80)

-- the first two bytes are these two
abbrev pub are : ℕ → ℕ → ℕ → ℕ → Bool
are c d one two = (c == one) && (d == two)

-- how many lines end in these bytes
abbrev pub newlines : List ℕ → ℕ
newlines bytes = count_by (λ c. c == 10) bytes
