-- What renumbers lines is a line marker or a `#line`, and a `#line` is read as such.
use Rattle.std.proofs.Common.{◌≡◌, ◌≤◌, inl, inr, arith, rules, tests, ne_eqb, drop, ℕ, ◌^◌, Bool, true, false, cond, List, [], ◌∷◌, ◌++◌, sym, ap, refl, ◌∙◌, subst, append-nil}
use Rattle.std.specs.Prelude.{◌≢◌, ◌==◌, ◌&&◌, ◌||◌, not, nat_le, min, Option, Some, None, codes, ◌⊎◌}
use Rattle.std.specs.List.{list_all}
use Rattle.std.proofs.lemmas.Bool.{and_parts, cases_lt, eqb-true}
use Rattle.std.proofs.lemmas.Slice.Eq.{bytes_eq-Decides}
use Rattle.po_lex.specs.Bytes.{is_space, is_digit, begins_word}
use Rattle.po_lex.specs.Rows.{goes_on, behind, front, skip}
use Rattle.po_lex.specs.Directives.{is_end, begins_digit, begins_quote, value, number, plain, solid, is_named, name_of, named, marker, numbered, is_word, next, directive_effect_at, directive_effect}
use Rattle.po_lex.specs.Texts.{Characters}
use Rattle.po_lex.specs.Markers.{IsMarker, IsNumberedLine, IsNamedLine}
use Rattle.po_lex.specs.declared.row.Row.{Row}
use Rattle.po_lex.specs.declared.row.Row.TheVariants as r
use Rattle.po_lex.specs.declared.effect.Effect.{Effect}
use Rattle.po_lex.specs.declared.effect.Effect.TheVariants as e
use Rattle.po_lex.proofs.Texts.{Read, literal_read, literal_stops, no_line}
use Rattle.po_lex.proofs.Directives.{named_so}
use Rattle.po_lex.proofs.Markers.{Stops, row_left, value_of, literal_front, digit_solid, blank_no_digit, behind_digits, quote_no_slash}

-- a row and what is behind it
parted : (row : Row) (b : ℕ) (xs : List ℕ) → xs ≡ front row b xs ++ skip row b xs
parted row b [] = refl
parted row b (x ∷ xs) = elim (goes_on row b x) as (λ v. x ∷ xs ≡ cond v (x ∷ front row (behind row b x) xs) [] ++ cond v (skip row (behind row b x) xs) (x ∷ xs)) [
  | true ↦ ap (λ l. x ∷ l) (parted row (behind row b x) xs)
  | false ↦ refl
]

module _ (row : Row) (test : ℕ → Bool) (same : (b c : ℕ) → goes_on row b c ≡ test c) where
  all_pass : (b : ℕ) (xs : List ℕ) → list_all test (front row b xs) ≡ true
  all_pass b [] = refl
  all_pass b (x ∷ xs) = rw (same b x) (elim (test x) as (λ v. test x ≡ v → list_all test (cond v (x ∷ front row (behind row b x) xs) []) ≡ true) [
    | true ↦ (λ q. rw q (all_pass (behind row b x) xs))
    | false ↦ (λ q. refl)
  ] refl)

  next_stops : (b : ℕ) (xs : List ℕ) → Stops test (skip row b xs)
  next_stops b [] = tt
  next_stops b (x ∷ xs) = rw (same b x) (elim (test x) as (λ v. test x ≡ v → Stops test (cond v (skip row (behind row b x) xs) (x ∷ xs))) [
    | true ↦ (λ q. next_stops (behind row b x) xs)
    | false ↦ (λ q. q)
  ] refl)

  -- a row with nothing behind it
  all_in : (xs : List ℕ) → skip row 0 xs ≡ [] → list_all test xs ≡ true
  all_in xs h = subst (λ l. list_all test l ≡ true) (sym (parted row 0 xs ∙ (ap (λ l. front row 0 xs ++ l) h ∙ append-nil (front row 0 xs)))) (all_pass 0 xs)

  -- no row at all
  row_kept : (b : ℕ) (ys : List ℕ) → Stops test ys → front row b ys ≡ []
  row_kept b [] s = refl
  row_kept b (y ∷ ys) s = rw (same b y, s) refl

  row_ended : (xs : List ℕ) → list_all test xs ≡ true → skip row 0 xs ≡ []
  row_ended xs h = ap (skip row 0) (sym (append-nil xs)) ∙ row_left row test same 0 xs [] h tt

value_front : (xs : List ℕ) → number xs ≡ min (2 ^ 31) (value 0 (front r.Digits 0 xs))
value_front xs = ap (min (2 ^ 31)) (ap (value 0) (parted r.Digits 0 xs) ∙
    value_of 0 (front r.Digits 0 xs) (skip r.Digits 0 xs) (all_pass r.Digits is_digit (λ b c. refl) 0 xs) (next_stops r.Digits is_digit (λ b c. refl) 0 xs))

digits_some : (xs : List ℕ) → begins_digit xs ≡ true → front r.Digits 0 xs ≢ []
digits_some [] h q = absurd (cc)
digits_some (c ∷ cs) h q = let bad : c ∷ front r.Digits c cs ≡ [] = ap (λ v. cond v (c ∷ front r.Digits c cs) []) (sym h) ∙ q in absurd (cc)

nothing_left : (xs : List ℕ) → is_end xs ≡ true → xs ≡ []
nothing_left [] h = refl
nothing_left (c ∷ cs) h = absurd (cc)

-- a name between quotes, with nothing but a row behind it
record Quoted (tail : Row) (xs name : List ℕ) : Type 0 where
  written : List ℕ
  last : List ℕ
  whole : xs ≡ 34 ∷ (written ++ (34 ∷ last))
  are_characters : Characters 34 written
  ends : skip tail 0 last ≡ []
  told : name ≡ plain false written

closed : (tail : Row) (c : ℕ) (cs u name : List ℕ) → skip (r.Literal 34) 0 cs ≡ u → (((c == 34) && begins_quote u) && is_end (skip tail 0 (drop 1 u))) ≡ true → name ≡ plain false (front (r.Literal 34) 0 cs) →
    Quoted tail (c ∷ cs) name
closed tail c cs [] name q h n = let bad : false ≡ true = (and_parts (c == 34) false (and_parts ((c == 34) && false) true h).0).1 in absurd (cc)
closed tail c cs (d ∷ ds) name q h n =
    let all = and_parts ((c == 34) && (d == 34)) (is_end (skip tail 0 ds)) h in
    let quotes = and_parts (c == 34) (d == 34) all.0 in
    let first : c ≡ 34 = eqb-true c 34 quotes.0 in
    let second : d ≡ 34 = eqb-true d 34 quotes.1 in
    let so : Read false 34 cs ds = literal_read 34 (no_line 34 refl) 0 cs ds (q ∙ ap (λ v. v ∷ ds) second) in
    let same : front (r.Literal 34) 0 cs ≡ so.0 = ap (front (r.Literal 34) 0) so.2 ∙ literal_front (quote_no_slash 34 refl) 0 ds refl so.1 in
    record {
      written = so.0;
      last = ds;
      whole = ap (λ v. v ∷ cs) first ∙ ap (λ l. 34 ∷ l) so.2;
      are_characters = so.1;
      ends = nothing_left (skip tail 0 ds) all.1;
      told = n ∙ ap (plain false) same;
    }

quoted : (tail : Row) (xs name : List ℕ) → is_named tail xs ≡ true → name ≡ name_of xs → Quoted tail xs name
quoted tail [] name h n = absurd (cc)
quoted tail (c ∷ cs) name h n = closed tail c cs (skip (r.Literal 34) 0 cs) name refl h n

named_quoted : (tail : Row) (n : ℕ) (xs : List ℕ) (m : ℕ) (name : List ℕ) → named tail n xs ≡ Some (e.Named m name) → (m ≡ n) × Quoted tail xs name
named_quoted tail n xs m name h = elim (is_named tail xs) as (λ v. is_named tail xs ≡ v → cond v (Some (e.Named n (name_of xs))) None ≡ Some (e.Named m name) → (m ≡ n) × Quoted tail xs name) [
  | true ↦ (λ q k. let a : m ≡ n = (cc) in let b : name ≡ name_of xs = (cc) in (a, quoted tail xs name q b))
  | false ↦ (λ q k. absurd (cc))
] refl h

named_no_line : (tail : Row) (n : ℕ) (xs : List ℕ) (m : ℕ) → named tail n xs ≡ Some (e.Line m) → ⊥
named_no_line tail n xs m h = elim (is_named tail xs) as (λ v. cond v (Some (e.Named n (name_of xs))) None ≡ Some (e.Line m) → ⊥) [
  | true ↦ (λ k. absurd (cc))
  | false ↦ (λ k. absurd (cc))
] h

-- which rule gave a line its effect
chosen : {t : Effect} (a b c d f : Bool) (x y : Option Effect) → cond a (Some e.Silent) (cond b x (cond c y (cond d (Some e.Silent) (cond f (Some e.Silent) None)))) ≡ Some t → (e.Silent ≡ t → ⊥) →
    ((b ≡ true) × (x ≡ Some t)) ⊎ ((c ≡ true) × (y ≡ Some t))
chosen true b c d f x y h n = absurd (n (cc))
chosen false true c d f x y h n = inl (refl, h)
chosen false false true d f x y h n = inr (refl, h)
chosen false false false true f x y h n = absurd (n (cc))
chosen false false false false true x y h n = absurd (n (cc))
chosen false false false false false x y h n = absurd (cc)

-- behind `line` digits stand, and then nothing or a name
after_line : {t : Effect} (a b : Bool) (x : Effect) (y : Option Effect) → cond (not a) None (cond b (Some x) y) ≡ Some t → (a ≡ true) × (((b ≡ true) × (x ≡ t)) ⊎ (y ≡ Some t))
after_line false b x y h = absurd (cc)
after_line true true x y h = (refl, inl (refl, (cc)))
after_line true false x y h = (refl, inr h)

-- the word `line`, and blanks that keep it apart from digits
abbrev is_word_byte : ℕ → Bool
is_word_byte c = begins_word c || is_digit c

worded : (xs : List ℕ) → is_word (codes "line") xs ≡ true → xs ≡ codes "line" ++ skip r.Word 0 xs
worded xs h = let same : front r.Word 0 xs ≡ codes "line" = (bytes_eq-Decides (front r.Word 0 xs) (codes "line")).0 h in parted r.Word 0 xs ∙ ap (λ l. l ++ skip r.Word 0 xs) same

or_digit : (a b : Bool) → (a || b) ≡ false → b ≡ true → ⊥
or_digit true b h k = absurd (cc)
or_digit false b h k = absurd (cc)

no_digit_next : (zs : List ℕ) → Stops is_word_byte zs → begins_digit zs ≡ true → ⊥
no_digit_next [] s h = absurd (cc)
no_digit_next (c ∷ cs) s h = or_digit (begins_word c) (is_digit c) s h

kept_apart : (xs : List ℕ) → begins_digit (next xs) ≡ true → front r.Spaces 0 (skip r.Word 0 xs) ≢ []
kept_apart xs h q =
    let all : skip r.Word 0 xs ≡ next xs = parted r.Spaces 0 (skip r.Word 0 xs) ∙ ap (λ l. l ++ next xs) q in
    no_digit_next (next xs) (subst (Stops is_word_byte) all (next_stops r.Word is_word_byte (λ b c. refl) 0 xs)) h

blanks_pass : (b : ℕ) (xs : List ℕ) → list_all is_space (front r.Spaces b xs) ≡ true
blanks_pass b xs = all_pass r.Spaces is_space (λ b c. refl) b xs

-- what the bytes behind the `#` are, row by row

digits_then : (xs : List ℕ) → xs ≡ front r.Digits 0 xs ++ (front r.Spaces 0 (skip r.Digits 0 xs) ++ solid (skip r.Digits 0 xs))
digits_then xs = parted r.Digits 0 xs ∙ ap (λ l. front r.Digits 0 xs ++ l) (parted r.Spaces 0 (skip r.Digits 0 xs))

marker_of : (line : List ℕ) (m : ℕ) (name : List ℕ) → begins_digit (solid line) ≡ true → marker (solid line) ≡ Some (e.Named m name) →
    (digits : List ℕ) × (written : List ℕ) × IsMarker line digits written × (m ≡ min (2 ^ 31) (value 0 digits)) × (name ≡ plain false written)
marker_of line m name d h =
    let xs : List ℕ = solid line in
    let q = named_quoted r.Flags (number xs) (solid (skip r.Digits 0 xs)) m name h in
    let so : Quoted r.Flags (solid (skip r.Digits 0 xs)) name = q.1 in (
      front r.Digits 0 xs,
      so.written,
      record {
        blanks = front r.Spaces 0 line;
        gap = front r.Spaces 0 (skip r.Digits 0 xs);
        flags = so.last;
        whole = parted r.Spaces 0 line ∙ ap (λ l. front r.Spaces 0 line ++ l) (digits_then xs ∙ ap (λ l. front r.Digits 0 xs ++ (front r.Spaces 0 (skip r.Digits 0 xs) ++ l)) so.whole);
        some = digits_some xs d;
        are_blanks = blanks_pass 0 line;
        are_digits = all_pass r.Digits is_digit (λ b c. refl) 0 xs;
        is_gap = blanks_pass 0 (skip r.Digits 0 xs);
        are_characters = so.are_characters;
        are_flags = all_in r.Flags (λ c. is_space c || is_digit c) (λ b c. refl) so.last so.ends;
      },
      q.0 ∙ value_front xs,
      so.told,
    )

lined : (line : List ℕ) → is_word (codes "line") (solid line) ≡ true →
    line ≡ front r.Spaces 0 line ++ (codes "line" ++ (front r.Spaces 0 (skip r.Word 0 (solid line)) ++ next (solid line)))
lined line w = parted r.Spaces 0 line ∙ ap (λ l. front r.Spaces 0 line ++ l) (worded (solid line) w ∙ ap (λ l. codes "line" ++ l) (parted r.Spaces 0 (skip r.Word 0 (solid line))))

named_line_of : (line : List ℕ) (m : ℕ) (name : List ℕ) → is_word (codes "line") (solid line) ≡ true → begins_digit (next (solid line)) ≡ true →
    named r.Spaces (number (next (solid line))) (solid (skip r.Digits 0 (next (solid line)))) ≡ Some (e.Named m name) →
    (digits : List ℕ) × (written : List ℕ) × IsNamedLine line digits written × (m ≡ min (2 ^ 31) (value 0 digits)) × (name ≡ plain false written)
named_line_of line m name w d h =
    let zs : List ℕ = next (solid line) in
    let q = named_quoted r.Spaces (number zs) (solid (skip r.Digits 0 zs)) m name h in
    let so : Quoted r.Spaces (solid (skip r.Digits 0 zs)) name = q.1 in (
      front r.Digits 0 zs,
      so.written,
      record {
        blanks = front r.Spaces 0 line;
        gap = front r.Spaces 0 (skip r.Word 0 (solid line));
        space = front r.Spaces 0 (skip r.Digits 0 zs);
        last = so.last;
        whole = lined line w ∙ ap (λ l. front r.Spaces 0 line ++ (codes "line" ++ (front r.Spaces 0 (skip r.Word 0 (solid line)) ++ l)))
            (digits_then zs ∙ ap (λ l. front r.Digits 0 zs ++ (front r.Spaces 0 (skip r.Digits 0 zs) ++ l)) so.whole);
        some = digits_some zs d;
        apart = kept_apart (solid line) d;
        are_blanks = blanks_pass 0 line;
        is_gap = blanks_pass 0 (skip r.Word 0 (solid line));
        are_digits = all_pass r.Digits is_digit (λ b c. refl) 0 zs;
        is_space_between = blanks_pass 0 (skip r.Digits 0 zs);
        are_characters = so.are_characters;
        are_last = all_in r.Spaces is_space (λ b c. refl) so.last so.ends;
      },
      q.0 ∙ value_front zs,
      so.told,
    )

numbered_line_of : (line : List ℕ) (m : ℕ) → is_word (codes "line") (solid line) ≡ true → begins_digit (next (solid line)) ≡ true →
    is_end (solid (skip r.Digits 0 (next (solid line)))) ≡ true → m ≡ number (next (solid line)) → (digits : List ℕ) × IsNumberedLine line digits × (m ≡ min (2 ^ 31) (value 0 digits))
numbered_line_of line m w d ends is =
    let zs : List ℕ = next (solid line) in (
      front r.Digits 0 zs,
      record {
        blanks = front r.Spaces 0 line;
        gap = front r.Spaces 0 (skip r.Word 0 (solid line));
        last = skip r.Digits 0 zs;
        whole = lined line w ∙ ap (λ l. front r.Spaces 0 line ++ (codes "line" ++ (front r.Spaces 0 (skip r.Word 0 (solid line)) ++ l))) (parted r.Digits 0 zs);
        some = digits_some zs d;
        apart = kept_apart (solid line) d;
        are_blanks = blanks_pass 0 line;
        is_gap = blanks_pass 0 (skip r.Word 0 (solid line));
        are_digits = all_pass r.Digits is_digit (λ b c. refl) 0 zs;
        are_last = all_in r.Spaces is_space (λ b c. refl) (skip r.Digits 0 zs) (nothing_left (solid (skip r.Digits 0 zs)) ends);
      },
      is ∙ value_front zs,
    )

-- what names the lines behind it is a line marker, or a `#line` with a name
pub what_names : (line : List ℕ) (m : ℕ) (name : List ℕ) → directive_effect line ≡ Some (e.Named m name) →
    (digits : List ℕ) × (written : List ℕ) × (IsMarker line digits written ⊎ IsNamedLine line digits written) × (m ≡ min (2 ^ 31) (value 0 digits)) × (name ≡ plain false written)
what_names line m name h =
    elim (chosen (is_end (solid line)) (begins_digit (solid line)) (is_word (codes "line") (solid line)) _ _ (marker (solid line)) (numbered (next (solid line))) h (λ q. absurd (cc))) [
      | inl k ↦ (let so = marker_of line m name k.0 k.1 in (so.0, so.1, inl so.2, so.3, so.4))
      | inr k ↦ (let zs : List ℕ = next (solid line) in
          let a = after_line (begins_digit zs) (is_end (solid (skip r.Digits 0 zs))) (e.Line (number zs)) (named r.Spaces (number zs) (solid (skip r.Digits 0 zs))) k.1 in
          elim a.1 [
            | inl b ↦ absurd (let bad : e.Line (number zs) ≡ e.Named m name = b.1 in (cc))
            | inr b ↦ (let so = named_line_of line m name k.0 a.0 b in (so.0, so.1, inr so.2, so.3, so.4))
          ])
    ]

-- what numbers them and names no file is a `#line` without a name
pub what_numbers : (line : List ℕ) (m : ℕ) → directive_effect line ≡ Some (e.Line m) → (digits : List ℕ) × IsNumberedLine line digits × (m ≡ min (2 ^ 31) (value 0 digits))
what_numbers line m h =
    elim (chosen (is_end (solid line)) (begins_digit (solid line)) (is_word (codes "line") (solid line)) _ _ (marker (solid line)) (numbered (next (solid line))) h (λ q. absurd (cc))) [
      | inl k ↦ absurd (named_no_line r.Flags (number (solid line)) (solid (skip r.Digits 0 (solid line))) m k.1)
      | inr k ↦ (let zs : List ℕ = next (solid line) in
          let a = after_line (begins_digit zs) (is_end (solid (skip r.Digits 0 zs))) (e.Line (number zs)) (named r.Spaces (number zs) (solid (skip r.Digits 0 zs))) k.1 in
          elim a.1 [
            | inl b ↦ (let same : e.Line (number zs) ≡ e.Line m = b.1 in let is : m ≡ number zs = (cc) in numbered_line_of line m k.0 a.0 b.0 is)
            | inr b ↦ absurd (named_no_line r.Spaces (number zs) (solid (skip r.Digits 0 zs)) m b)
          ])
    ]

-- a `#line` is read as such

space_low : (c : ℕ) → is_space c ≡ true → c ≤ 32
space_low c h = elim (cases_lt c 33) [
  | inl low ↦ omega (arith, low)
  | inr high ↦ absurd (
      let other : (k : ℕ) → (c ≡ k → ⊥) → (c == k) ≡ false = λ k n. ne_eqb c k n in
      let bad : is_space c ≡ false = rw (
        other 32 (λ q. omega (arith, high, q)),
        other 9 (λ q. omega (arith, high, q)),
        other 11 (λ q. omega (arith, high, q)),
        other 12 (λ q. omega (arith, high, q)),
        other 13 (λ q. omega (arith, high, q)),
      ) refl in
      let worse : true ≡ false = sym h ∙ bad in (cc))
]

no_word : (c : ℕ) → c ≤ 32 → is_word_byte c ≡ false
no_word c low =
    let a : nat_le 97 c ≡ false = search (rules, tests) in
    let b : nat_le 65 c ≡ false = search (rules, tests) in
    let d : (c == 95) ≡ false = ne_eqb c 95 (λ q. omega (arith, low, q)) in
    let f : (c == 36) ≡ false = ne_eqb c 36 (λ q. omega (arith, low, q)) in
    let g : nat_le 48 c ≡ false = search (rules, tests) in
    rw (a, b, d, f, g) refl

-- behind the word `line` stands no byte of a word
word_ends : (gap rest : List ℕ) → gap ≢ [] → list_all is_space gap ≡ true → Stops is_word_byte (gap ++ rest)
word_ends [] rest some h = absurd (some refl)
word_ends (g ∷ gs) rest some h = no_word g (space_low g (and_parts (is_space g) (list_all is_space gs) h).0)

digits_solid : (digits left : List ℕ) → digits ≢ [] → list_all is_digit digits ≡ true → Stops is_space (digits ++ left)
digits_solid [] left some h = absurd (some refl)
digits_solid (d ∷ ds) left some h = digit_solid d (and_parts (is_digit d) (list_all is_digit ds) h).0

digits_begin : (digits left : List ℕ) → digits ≢ [] → list_all is_digit digits ≡ true → begins_digit (digits ++ left) ≡ true
digits_begin [] left some h = absurd (some refl)
digits_begin (d ∷ ds) left some h = (and_parts (is_digit d) (list_all is_digit ds) h).0

-- `line` with what stands behind it
module _ (line blanks gap digits left : List ℕ) (some : digits ≢ []) (apart : gap ≢ []) (are_blanks : list_all is_space blanks ≡ true) (is_gap : list_all is_space gap ≡ true)
    (are_digits : list_all is_digit digits ≡ true) (stops : Stops is_digit left) (whole : line ≡ blanks ++ (codes "line" ++ (gap ++ (digits ++ left)))) where
  solid_line : solid line ≡ codes "line" ++ (gap ++ (digits ++ left))
  solid_line = ap (skip r.Spaces 0) whole ∙ row_left r.Spaces is_space (λ b c. refl) 0 blanks (codes "line" ++ (gap ++ (digits ++ left))) are_blanks refl

  word_stops : Stops is_word_byte (gap ++ (digits ++ left))
  word_stops = word_ends gap (digits ++ left) apart is_gap

  is_line : is_word (codes "line") (codes "line" ++ (gap ++ (digits ++ left))) ≡ true
  is_line = let none : front r.Word 101 (gap ++ (digits ++ left)) ≡ [] = row_kept r.Word is_word_byte (λ b c. refl) 101 (gap ++ (digits ++ left)) word_stops in rw none refl

  behind_line : next (codes "line" ++ (gap ++ (digits ++ left))) ≡ digits ++ left
  behind_line = ap solid (row_left r.Word is_word_byte (λ b c. refl) 101 [] (gap ++ (digits ++ left)) refl word_stops) ∙
      row_left r.Spaces is_space (λ b c. refl) 0 gap (digits ++ left) is_gap (digits_solid digits left some are_digits)

  line_effect : directive_effect line ≡ numbered (digits ++ left)
  line_effect = let first : directive_effect_at (codes "line" ++ (gap ++ (digits ++ left))) ≡ numbered (next (codes "line" ++ (gap ++ (digits ++ left)))) = rw is_line refl in
      ap directive_effect_at solid_line ∙ (first ∙ ap numbered behind_line)

  counted : number (digits ++ left) ≡ min (2 ^ 31) (value 0 digits)
  counted = ap (min (2 ^ 31)) (value_of 0 digits left are_digits stops)

  after_digits : skip r.Digits 0 (digits ++ left) ≡ left
  after_digits = row_left r.Digits is_digit (λ b c. refl) 0 digits left are_digits stops

  ends_with_number : is_end (solid left) ≡ true → directive_effect line ≡ Some (e.Line (min (2 ^ 31) (value 0 digits)))
  ends_with_number h =
      let ended : is_end (solid (skip r.Digits 0 (digits ++ left))) ≡ true = ap (λ l. is_end (solid l)) after_digits ∙ h in
      let read : numbered (digits ++ left) ≡ Some (e.Line (number (digits ++ left))) = rw (digits_begin digits left some are_digits, ended) refl in
      line_effect ∙ (read ∙ ap (λ n. Some (e.Line n)) counted)

  ends_with_name : (xs : List ℕ) → solid left ≡ xs → is_end xs ≡ false → directive_effect line ≡ named r.Spaces (min (2 ^ 31) (value 0 digits)) xs
  ends_with_name xs q h =
      let at : solid (skip r.Digits 0 (digits ++ left)) ≡ xs = ap solid after_digits ∙ q in
      let read : numbered (digits ++ left) ≡ named r.Spaces (number (digits ++ left)) xs = rw (digits_begin digits left some are_digits, at, h) refl in
      line_effect ∙ (read ∙ ap (λ n. named r.Spaces n xs) counted)

blank_stops : (space : List ℕ) → list_all is_space space ≡ true → Stops is_digit space
blank_stops [] h = tt
blank_stops (c ∷ cs) h = blank_no_digit c (and_parts (is_space c) (list_all is_space cs) h).0

pub numbered_line_read : (line digits : List ℕ) → IsNumberedLine line digits → directive_effect line ≡ Some (e.Line (min (2 ^ 31) (value 0 digits)))
numbered_line_read line digits h =
    let ended : solid h.last ≡ [] = row_ended r.Spaces is_space (λ b c. refl) h.last h.are_last in
    ends_with_number line h.blanks h.gap digits h.last h.some h.apart h.are_blanks h.is_gap h.are_digits (blank_stops h.last h.are_last) h.whole (ap is_end ended)

pub named_line_read : (line digits name : List ℕ) → IsNamedLine line digits name → directive_effect line ≡ Some (e.Named (min (2 ^ 31) (value 0 digits)) (plain false name))
named_line_read line digits name h =
    let quote : List ℕ = 34 ∷ (name ++ (34 ∷ h.last)) in
    let close : solid (h.space ++ quote) ≡ quote = row_left r.Spaces is_space (λ b c. refl) 0 h.space quote h.is_space_between refl in
    let ended : skip r.Spaces 0 h.last ≡ [] = row_ended r.Spaces is_space (λ b c. refl) h.last h.are_last in
    let so : Some (e.Named (min (2 ^ 31) (value 0 digits)) (plain false name)) ≡ named r.Spaces (min (2 ^ 31) (value 0 digits)) quote =
    named_so r.Spaces (min (2 ^ 31) (value 0 digits)) quote (34 ∷ h.last) refl (literal_stops (quote_no_slash 34 refl) 0 h.last refl h.are_characters) [] (plain false name) refl ended refl
    (ap (plain false) (sym (literal_front (quote_no_slash 34 refl) 0 h.last refl h.are_characters))) in
    ends_with_name line h.blanks h.gap digits (h.space ++ quote) h.some h.apart h.are_blanks h.is_gap h.are_digits (behind_digits h.space (name ++ (34 ∷ h.last)) h.is_space_between) h.whole quote close refl ∙ sym so
