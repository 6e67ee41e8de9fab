-- Where strings end.
use Rattle.std.proofs.Common.{◌≡◌, ◌≤◌, ◌<◌, ◌+◌, ◌-◌, ℕ, sym, ◌∙◌, subst, refl, arith, inl, inr, length, List}
use Rattle.std.specs.Prelude.{ℤ, pos, negsuc, ◌≤ℤ◌, ◌<ℤ◌, ◌↔◌, ◌≢◌, Option, Some, None, slice_get}
use Rattle.std.proofs.lemmas.Int.{ints}
use Rattle.std.proofs.lemmas.Bool.{cases_lt}
use Rattle.std.proofs.lemmas.Option.{slice_get_past}
use Rattle.po_memory.specs.declared.block.Block.{Block}
use Rattle.po_memory.specs.declared.value.Byte.{Byte}
use Rattle.po_memory.specs.declared.value.Byte.TheVariants as byte
use Rattle.po_memory.specs.Blocks.{IsCharacter, HasString, IsTerminated, Fits}
use Rattle.po_holds.specs.declared.choosing.Numbers.{Numbers}
use Rattle.po_holds.specs.declared.strings.Places.{Places}
use Rattle.po_holds.specs.Choosing.{IsOneOf, AreSome, least, greatest}
use Rattle.po_holds.specs.Asking.{EndsAt, IsEndOf, FitsIn, EachFitsIn, ArePlaces, AllBefore}

same_byte : (b d : Byte) → Some b ≡ Some d → b ≡ d
same_byte b d e = cc

same_number : (n m : ℕ) → Some (byte.Number n) ≡ Some (byte.Number m) → n ≡ m
same_number n m e = cc

-- where a string begins there is its zero byte or a character
first_byte : (bytes : List Byte) (at z : ℕ) → EndsAt bytes at z → (slice_get bytes at ≡ Some (byte.Number 0) → ⊥) → (at < z) × IsCharacter (slice_get bytes at)
first_byte bytes at z ends other = elim (cases_lt at z) [
  | inl less ↦ (less, ends.characters at (omega arith) less)
  | inr not_less ↦
      let behind = ends.behind in
      let same : z ≡ at = omega arith in
      absurd (other (subst (λ i. slice_get bytes i ≡ Some (byte.Number 0)) same ends.zero))
]

pub end_here : (bytes : List Byte) (at : ℕ) → slice_get bytes at ≡ Some (byte.Number 0) → EndsAt bytes at at
end_here bytes at there = record { behind = omega arith; zero = there; characters = λ i low high. absurd (omega arith) }

pub no_end : (bytes : List Byte) (at : ℕ) (b : Byte) → slice_get bytes at ≡ Some b → (b ≡ byte.Number 0 → ⊥) → (IsCharacter (Some b) → ⊥) → (z : ℕ) → EndsAt bytes at z → ⊥
no_end bytes at b there other no_character z ends =
    let first = first_byte bytes at z ends (λ ended. other (same_byte b (byte.Number 0) (sym there ∙ ended))) in
    no_character (subst IsCharacter there first.1)

pub end_on : (bytes : List Byte) (at n : ℕ) (next : Option ℕ) → slice_get bytes at ≡ Some (byte.Number n) → n ≢ 0 → IsEndOf bytes (at + 1) next → IsEndOf bytes at next
end_on bytes at n None there some none = λ z ends.
    let first = first_byte bytes at z ends (λ ended. some (same_number n 0 (sym there ∙ ended))) in
    none z (record { behind = let less = first.0 in omega arith; zero = ends.zero; characters = λ i low high. ends.characters i (omega arith) high })
end_on bytes at n (Some z) there some ends = record { behind = let behind = ends.behind in omega arith; zero = ends.zero; characters = each }
  where
    each : (i : ℕ) → at ≤ i → i < z → IsCharacter (slice_get bytes i)
    each i low high = elim (cases_lt at i) [
      | inl less ↦ ends.characters i (omega arith) high
      | inr not_less ↦ let same : at ≡ i = omega arith in subst (λ j. IsCharacter (slice_get bytes j)) same (subst IsCharacter (sym there) some)
    ]

no_character : (bytes : List Byte) (z : ℕ) → slice_get bytes z ≡ Some (byte.Number 0) → IsCharacter (slice_get bytes z) → ⊥
no_character bytes z ended character = subst IsCharacter ended character refl

pub one_end : (bytes : List Byte) (at z y : ℕ) → EndsAt bytes at z → EndsAt bytes at y → z ≡ y
one_end bytes at z y first second = elim (cases_lt z y) [
  | inl less ↦ absurd (no_character bytes z first.zero (second.characters z first.behind less))
  | inr not_less ↦ elim (cases_lt y z) [
    | inl more ↦ absurd (no_character bytes y second.zero (first.characters y second.behind more))
    | inr not_more ↦ omega arith
  ]
]

pub no_end_past : (bytes : List Byte) (at z : ℕ) → length bytes ≤ at → EndsAt bytes at z → ⊥
no_end_past bytes at z past ends =
    let behind = ends.behind in
    let none = slice_get_past bytes z (omega arith) in
    let both : Some (byte.Number 0) ≡ None = sym ends.zero ∙ none in
    absurd (cc)

pub fits_none : (bytes : List Byte) (at room : ℕ) → IsEndOf bytes at None → FitsIn bytes room at → ⊥
fits_none bytes at room none fits = none fits.zero fits.ends

pub fits_end : (bytes : List Byte) (at room z : ℕ) → EndsAt bytes at z → ((at ≤ z) × (z - at < room)) ↔ FitsIn bytes room at
fits_end bytes at room z ends = (λ h. let less = h.1 in let behind = h.0 in record { zero = z; ends = ends; short = omega arith }, back)
  where
    back : FitsIn bytes room at → (at ≤ z) × (z - at < room)
    back fits =
        let same = one_end bytes at z fits.zero ends fits.ends in
        let behind = ends.behind in
        let short = fits.short in
        (omega arith, omega arith)

-- ---- as they are in a block

string_of : (c : Block) (at z : ℕ) → EndsAt c.bytes at z → HasString (z - at) (pos at) c
string_of c at z ends =
    let behind = ends.behind in
    let end : z ≡ at + (z - at) = omega arith in
    (at, refl, subst (λ i. slice_get c.bytes i ≡ Some (byte.Number 0)) end ends.zero, λ i less. ends.characters (at + i) (omega arith) (omega arith))

end_of : (c : Block) (n at : ℕ) (o : ℤ) → o ≡ pos at → HasString n o c → EndsAt c.bytes at (at + n)
end_of c n at o place (start, is, ended, each) =
    let same : start ≡ at = omega (arith, ints) in
    record {
      behind = omega arith;
      zero = subst (λ s. slice_get c.bytes (s + n) ≡ Some (byte.Number 0)) same ended;
      characters = λ i low high. let back : start + (i - at) ≡ i = omega arith in subst (λ j. IsCharacter (slice_get c.bytes j)) back (each (i - at) (omega arith));
    }

in_bytes : (bytes : List Byte) (i : ℕ) (b : Byte) → slice_get bytes i ≡ Some b → i < length bytes
in_bytes bytes i b there = elim (cases_lt i (length bytes)) [
  | inl less ↦ less
  | inr not_less ↦ let none = slice_get_past bytes i not_less in let both : Some b ≡ None = sym there ∙ none in absurd (cc)
]

start_within : (c : Block) (n : ℕ) (o : ℤ) → HasString n o c → (pos 0 ≤ℤ o) × (o <ℤ pos (length c.bytes))
start_within c n o (start, is, ended, each) = let less = in_bytes c.bytes (start + n) (byte.Number 0) ended in (omega (arith, ints), omega (arith, ints))

pub not_terminated : (c : Block) (at : Numbers) → AreSome at → (AllBefore at (length c.bytes) → ⊥) → ((o : ℤ) → IsOneOf at o → IsTerminated o c) → ⊥
not_terminated c at some out h =
    let first = h (least at) (omega (arith, ints), omega (arith, ints)) in
    let last = h (greatest at) (omega (arith, ints), omega (arith, ints)) in
    out ((start_within c first.0 (least at) first.1).0, (start_within c last.0 (greatest at) last.1).1)

-- a number between is a place between
place_of : (at : Numbers) (size : ℕ) (s : Places) (o : ℤ) → ArePlaces at size s → IsOneOf at o → (i : ℕ) × (o ≡ pos i) × (s.first ≤ i) × (i ≤ s.last)
place_of at size s (pos i) are one = let first = are.first in let last = are.last in let low = one.0 in let high = one.1 in (i, refl, omega (arith, ints), omega (arith, ints))
place_of at size s (negsuc i) are one = let first = are.first in let low = one.0 in absurd (omega (arith, ints))

pub all_terminated : (c : Block) (at : Numbers) (s : Places) → AreSome at → ArePlaces at (length c.bytes) s → EachFitsIn c.bytes (length c.bytes) s.first s.last ↔ ((o : ℤ) → IsOneOf at o → IsTerminated o c)
all_terminated c at s some are = (there, back)
  where
    there : EachFitsIn c.bytes (length c.bytes) s.first s.last → (o : ℤ) → IsOneOf at o → IsTerminated o c
    there fits o one =
        let place = place_of at (length c.bytes) s o are one in
        let found = fits place.0 place.2 place.3 in
        subst (λ z. IsTerminated z c) (sym place.1) (found.zero - place.0, string_of c place.0 found.zero found.ends)

    back : ((o : ℤ) → IsOneOf at o → IsTerminated o c) → EachFitsIn c.bytes (length c.bytes) s.first s.last
    back h i low high =
        let first = are.first in
        let last = are.last in
        let string = h (pos i) (omega (arith, ints), omega (arith, ints)) in
        let ends = end_of c string.0 i (pos i) refl string.1 in
        record { zero = i + string.0; ends = ends; short = let less = in_bytes c.bytes (i + string.0) (byte.Number 0) ends.zero in omega arith }

-- ---- room for strings

pub no_room : (c d : Block) (at from : Numbers) → AreSome at → AreSome from → (AllBefore at (length c.bytes) → ⊥) → ((o r : ℤ) → IsOneOf at o → IsOneOf from r → Fits o c r d) → ⊥
no_room c d at from some some_from out h =
    let first = h (least at) (least from) (omega (arith, ints), omega (arith, ints)) (omega (arith, ints), omega (arith, ints)) in
    let last = h (greatest at) (least from) (omega (arith, ints), omega (arith, ints)) (omega (arith, ints), omega (arith, ints)) in
    out (first.2, let up = last.3 in omega (arith, ints))

pub no_strings : (c d : Block) (at from : Numbers) → AreSome at → AreSome from → (AllBefore from (length d.bytes) → ⊥) → ((o r : ℤ) → IsOneOf at o → IsOneOf from r → Fits o c r d) → ⊥
no_strings c d at from some some_from out h =
    let first = h (least at) (least from) (omega (arith, ints), omega (arith, ints)) (omega (arith, ints), omega (arith, ints)) in
    let last = h (least at) (greatest from) (omega (arith, ints), omega (arith, ints)) (omega (arith, ints), omega (arith, ints)) in
    out ((start_within d first.0 (least from) first.1).0, (start_within d last.0 (greatest from) last.1).1)

pub all_fit : (c d : Block) (at from : Numbers) (t s : Places) → AreSome at → AreSome from → ArePlaces at (length c.bytes) t → ArePlaces from (length d.bytes) s →
    EachFitsIn d.bytes (length c.bytes - t.last) s.first s.last ↔ ((o r : ℤ) → IsOneOf at o → IsOneOf from r → Fits o c r d)
all_fit c d at from t s some some_from are are_from = (there, back)
  where
    there : EachFitsIn d.bytes (length c.bytes - t.last) s.first s.last → (o r : ℤ) → IsOneOf at o → IsOneOf from r → Fits o c r d
    there fits o r o_in r_in =
        let place = place_of from (length d.bytes) s r are_from r_in in
        let target = place_of at (length c.bytes) t o are o_in in
        let found = fits place.0 place.2 place.3 in
        let string = string_of d place.0 found.zero found.ends in
        let behind = found.ends.behind in
        let short = found.short in
        let is = target.1 in
        let below = target.3 in
        let within = are.within in
        (found.zero - place.0, subst (λ z. HasString (found.zero - place.0) z d) (sym place.1) string, omega (arith, ints), omega (arith, ints))

    back : ((o r : ℤ) → IsOneOf at o → IsOneOf from r → Fits o c r d) → EachFitsIn d.bytes (length c.bytes - t.last) s.first s.last
    back h i low high =
        let first = are_from.first in
        let last = are_from.last in
        let target = are.last in
        let within = are.within in
        let fitting = h (greatest at) (pos i) (omega (arith, ints), omega (arith, ints)) (omega (arith, ints), omega (arith, ints)) in
        let ends = end_of d fitting.0 i (pos i) refl fitting.1 in
        let up = fitting.3 in
        record { zero = i + fitting.0; ends = ends; short = omega (arith, ints) }

-- ---- the start of a block

pub not_start : (at : Numbers) → AreSome at → (AllBefore at 1 → ⊥) → ((o : ℤ) → IsOneOf at o → o ≡ pos 0) → ⊥
not_start at some out h =
    let first = h (least at) (omega (arith, ints), omega (arith, ints)) in
    let last = h (greatest at) (omega (arith, ints), omega (arith, ints)) in
    out (omega (arith, ints), omega (arith, ints))

pub all_start : (at : Numbers) (s : Places) (o : ℤ) → ArePlaces at 1 s → IsOneOf at o → AreSome at → o ≡ pos 0
all_start at s o are one some =
    let first = are.first in
    let last = are.last in
    let within = are.within in
    let low = one.0 in
    let high = one.1 in
    omega (arith, ints)

-- ---- from the last place on down

pub none_past : (bytes : List Byte) → IsEndOf bytes (length bytes) None
none_past bytes z ends = no_end_past bytes (length bytes) z (omega arith) ends

pub more_fit : (bytes : List Byte) (room last at : ℕ) → 0 < at → ((i : ℕ) → at ≤ i → i ≤ last → FitsIn bytes room i) → (at - 1 ≤ last → FitsIn bytes room (at - 1)) → (i : ℕ) → at - 1 ≤ i → i ≤ last → FitsIn bytes room i
more_fit bytes room last at some rest first i low high = elim (cases_lt i at) [
  | inl less ↦ let same : at - 1 ≡ i = omega arith in subst (FitsIn bytes room) same (first (omega arith))
  | inr not_less ↦ rest i not_less high
]
