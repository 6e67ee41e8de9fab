-- A line marker is read as such.
use Rattle.std.proofs.Common.{◌≡◌, ℕ, ◌+◌, ◌*◌, ◌-◌, ◌^◌, ◌≤◌, Bool, true, false, cond, List, [], ◌∷◌, ◌++◌, arith, sym, ap, refl, ◌∙◌, append-nil, ne_eqb}
use borrow.Author.Tests.{leb-true}
use Rattle.std.specs.Prelude.{◌≢◌, ◌==◌, ◌&&◌, ◌||◌, not, nat_le, min, Some}
use Rattle.std.specs.List.{list_all}
use Rattle.std.proofs.lemmas.Bool.{and_parts, eqb-false}
use Rattle.po_lex.specs.Bytes.{is_space, is_digit}
use Rattle.po_lex.specs.Rows.{goes_on, behind, front, skip}
use Rattle.po_lex.specs.Directives.{value, number, plain, solid, named, marker, directive_effect_at, directive_effect}
use Rattle.po_lex.specs.Texts.{Characters, no_character, plain_character, escape}
use Rattle.po_lex.specs.Markers.{IsMarker}
use Rattle.po_lex.specs.declared.row.Row.{Row}
use Rattle.po_lex.specs.declared.row.Row.TheVariants as r
use Rattle.po_lex.specs.declared.effect.Effect.TheVariants as e
use Rattle.po_lex.proofs.Texts.{same_first, literal_stops}
use Rattle.po_lex.proofs.Directives.{named_so}

-- the bytes don't begin with one that passes the test
abbrev pub Stops : (ℕ → Bool) → List ℕ → Type 0
Stops test [] = Unit {0}
Stops test (c ∷ cs) = test c ≡ false

-- a row of bytes that pass a test is left behind
pub row_left : (row : Row) (test : ℕ → Bool) → ((b c : ℕ) → goes_on row b c ≡ test c) → (b : ℕ) (xs ys : List ℕ) → list_all test xs ≡ true → Stops test ys →
    skip row b (xs ++ ys) ≡ ys
row_left row test same b [] [] h s = refl
row_left row test same b [] (y ∷ ys) h s = rw (same b y, s) refl
row_left row test same b (x ∷ xs) ys h s =
    let both = and_parts (test x) (list_all test xs) h in rw (same b x, both.0) (row_left row test same (behind row b x) xs ys both.1 s)

pub value_of : (n : ℕ) (xs ys : List ℕ) → list_all is_digit xs ≡ true → Stops is_digit ys → value n (xs ++ ys) ≡ value n xs
value_of n [] [] h s = refl
value_of n [] (y ∷ ys) h s = rw s refl
value_of n (x ∷ xs) ys h s =
    let both = and_parts (is_digit x) (list_all is_digit xs) h in
    let more : value (10 * n + (x - 48)) (xs ++ ys) ≡ value (10 * n + (x - 48)) xs = value_of (10 * n + (x - 48)) xs ys both.1 s in rw both.0 more

-- the characters of a literal are its row
pub literal_front : {q : ℕ} {chars : List ℕ} → q ≢ 92 → (before : ℕ) (rest : List ℕ) → (before == 92) ≡ false → Characters q chars →
    front (r.Literal q) before (chars ++ (q ∷ rest)) ≡ chars
literal_front other before rest at (no_character q) =
    rw (at, same_first q) (elim (q == 10) as (λ v. cond (not v && false) (q ∷ front (r.Literal q) q rest) [] ≡ []) [ true ↦ refl | false ↦ refl ])
literal_front other before rest at (plain_character q c cs quote slash line k) =
    let a : (c == 10) ≡ false = ne_eqb c 10 line in
    let b : (c == q) ≡ false = ne_eqb c q quote in
    let d : (c == 92) ≡ false = ne_eqb c 92 slash in
    let on : front (r.Literal q) c (cs ++ (q ∷ rest)) ≡ cs = literal_front other c rest d k in rw (at, a, b) (ap (λ v. c ∷ v) on)
literal_front other before rest at (escape q c cs line k) =
    let a : (c == 10) ≡ false = ne_eqb c 10 line in
    let b : (92 == q) ≡ false = ne_eqb 92 q (λ w. other (sym w)) in
    let on : front (r.Literal q) 0 (cs ++ (q ∷ rest)) ≡ cs = literal_front other 0 rest refl k in rw (at, b, a) (ap (λ v. 92 ∷ c ∷ v) on)

pub digit_solid : (c : ℕ) → is_digit c ≡ true → is_space c ≡ false
digit_solid c h =
    let low : 48 ≤ c = leb-true 48 c (and_parts (nat_le 48 c) (nat_le c 57) h).0 in
    let other : (k : ℕ) → 48 ≤ c → (c ≡ k → ⊥) → (c == k) ≡ false = λ k b n. ne_eqb c k n in
    rw (
      other 32 low (λ q. omega (arith, low, q)),
      other 9 low (λ q. omega (arith, low, q)),
      other 11 low (λ q. omega (arith, low, q)),
      other 12 low (λ q. omega (arith, low, q)),
      other 13 low (λ q. omega (arith, low, q)),
    ) refl

pub blank_no_digit : (c : ℕ) → is_space c ≡ true → is_digit c ≡ false
blank_no_digit c h =
    elim (is_digit c) as (λ b. is_digit c ≡ b → b ≡ false) [
      | true ↦ (λ q. let bad : true ≡ false = sym h ∙ digit_solid c q in absurd (cc))
      | false ↦ (λ q. refl)
    ] refl

pub behind_digits : (gap rest : List ℕ) → list_all is_space gap ≡ true → Stops is_digit (gap ++ (34 ∷ rest))
behind_digits [] rest h = refl
behind_digits (g ∷ gs) rest h = blank_no_digit g (and_parts (is_space g) (list_all is_space gs) h).0

pub quote_no_slash : (quote : ℕ) → (quote == 92) ≡ false → quote ≢ 92
quote_no_slash quote h = eqb-false quote 92 h

pub marker_read : (line digits name : List ℕ) → IsMarker line digits name →
    directive_effect line ≡ Some (e.Named (min (2 ^ 31) (value 0 digits)) (plain false name))
marker_read line [] name h = absurd (h.some refl)
marker_read line (d ∷ ds) name h =
    let quote : List ℕ = 34 ∷ (name ++ (34 ∷ h.flags)) in
    let tail : List ℕ = h.gap ++ quote in
    let xs : List ℕ = d ∷ (ds ++ tail) in
    let digit : is_digit d ≡ true = (and_parts (is_digit d) (list_all is_digit ds) h.are_digits).0 in
    let stops : Stops is_digit tail = behind_digits h.gap (name ++ (34 ∷ h.flags)) h.is_gap in
    let solid_line : solid line ≡ xs = ap (skip r.Spaces 0) h.whole ∙ row_left r.Spaces is_space (λ b c. refl) 0 h.blanks xs h.are_blanks (digit_solid d digit) in
    let after : skip r.Digits 0 xs ≡ tail = row_left r.Digits is_digit (λ b c. refl) 0 (d ∷ ds) tail h.are_digits stops in
    let close : skip r.Spaces 0 tail ≡ quote = row_left r.Spaces is_space (λ b c. refl) 0 h.gap quote h.is_gap refl in
    let counted : number xs ≡ min (2 ^ 31) (value 0 (d ∷ ds)) = ap (min (2 ^ 31)) (value_of 0 (d ∷ ds) tail h.are_digits stops) in
    let end : skip r.Flags 0 h.flags ≡ [] =
    ap (skip r.Flags 0) (sym (append-nil h.flags)) ∙ row_left r.Flags (λ c. is_space c || is_digit c) (λ b c. refl) 0 h.flags [] h.are_flags tt in
    let so : Some (e.Named (min (2 ^ 31) (value 0 (d ∷ ds))) (plain false name)) ≡ named r.Flags (min (2 ^ 31) (value 0 (d ∷ ds))) quote =
    named_so r.Flags (min (2 ^ 31) (value 0 (d ∷ ds))) quote (34 ∷ h.flags) refl (literal_stops (quote_no_slash 34 refl) 0 h.flags refl h.are_characters) [] (plain false name) refl end refl
    (ap (plain false) (sym (literal_front (quote_no_slash 34 refl) 0 h.flags refl h.are_characters))) in
    let first : directive_effect_at xs ≡ marker xs = rw digit refl in
    ap directive_effect_at solid_line ∙ first ∙ ap (λ v. named r.Flags (number xs) (solid v)) after ∙ ap (named r.Flags (number xs)) close ∙
    ap (λ v. named r.Flags v quote) counted ∙ sym so
