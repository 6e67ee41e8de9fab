-- What renumbers the lines behind it: a directive `#line` of C99 6.10.4, and the line marker that gcc writes for it.
use Rattle.std.specs.Prelude.{ℕ, ◌≡◌, ◌≢◌, ◌||◌, true, List, [], ◌∷◌, ◌++◌, codes}
use Rattle.std.specs.List.{list_all}
use Rattle.po_lex.specs.Bytes.{is_space, is_digit}
use Rattle.po_lex.specs.Texts.{Characters}

-- Behind its `#` stand blanks, the digits of N, blanks, the characters of NAME between `"`, and flags, which are digits and blanks.
pub record IsMarker (line digits name : List ℕ) : Type 0 where
  pub blanks : List ℕ
  pub gap : List ℕ
  pub flags : List ℕ
  pub whole : line ≡ blanks ++ (digits ++ (gap ++ (34 ∷ (name ++ (34 ∷ flags)))))
  pub some : digits ≢ []
  pub are_blanks : list_all is_space blanks ≡ true
  pub are_digits : list_all is_digit digits ≡ true
  pub is_gap : list_all is_space gap ≡ true
  pub are_characters : Characters 34 name
  pub are_flags : list_all (λ c. is_space c || is_digit c) flags ≡ true

-- `#line N` (6.10.4p3): behind the `#` stand blanks, the word `line`, blanks, the digits of N, and blanks.
pub record IsNumberedLine (line digits : List ℕ) : Type 0 where
  pub blanks : List ℕ
  pub gap : List ℕ
  pub last : List ℕ
  pub whole : line ≡ blanks ++ (codes "line" ++ (gap ++ (digits ++ last)))
  pub some : digits ≢ []
  pub apart : gap ≢ []
  pub are_blanks : list_all is_space blanks ≡ true
  pub is_gap : list_all is_space gap ≡ true
  pub are_digits : list_all is_digit digits ≡ true
  pub are_last : list_all is_space last ≡ true

-- `#line N "NAME"` (6.10.4p4): so, with the characters of NAME between `"` before the last blanks.
pub record IsNamedLine (line digits name : List ℕ) : Type 0 where
  pub blanks : List ℕ
  pub gap : List ℕ
  pub space : List ℕ
  pub last : List ℕ
  pub whole : line ≡ blanks ++ (codes "line" ++ (gap ++ (digits ++ (space ++ (34 ∷ (name ++ (34 ∷ last)))))))
  pub some : digits ≢ []
  pub apart : gap ≢ []
  pub are_blanks : list_all is_space blanks ≡ true
  pub is_gap : list_all is_space gap ≡ true
  pub are_digits : list_all is_digit digits ≡ true
  pub is_space_between : list_all is_space space ≡ true
  pub are_characters : Characters 34 name
  pub are_last : list_all is_space last ≡ true
