-- A text begins with one piece of a format at most, so a format reads one list at most.
use Rattle.std.proofs.Common.{refl, sym, ap, ◌∙◌, subst, ◌≡◌, ◌≤◌, ℕ, suc, List, [], ◌∷◌, ◌++◌, Option, Some, None, true, false, drop, length, get_or, arith}
use Rattle.std.specs.Prelude.{◌≢◌, ⊤, cond, nat_eq, All, Contains}
use Rattle.std.specs.List.{starts_with, cons_option}
use Rattle.std.proofs.lemmas.List.Elements.{All-nil, All-cons, All-tail, All-contains}
use Rattle.std.proofs.lemmas.List.{append_cancel_left}
use Rattle.std.proofs.lemmas.Slice.Eq.{starts_is}
use Rattle.std.proofs.lemmas.Bool.Decides.{Decides-eqb}
use Rattle.po_arith.specs.declared.target.Target.{Target}
use Rattle.po_types.specs.declared.format.Spec.{Spec}
use Rattle.po_types.specs.Formats.{conversions, flags, IsDigit, IsFieldWidth, no_width, width, FlagsFit, IsConversion, IsPiece, plain_byte, percent_sign, conversion, IsFormat, format_end, piece}
use Rattle.po_types.specs.FormatReading.{Stops, IsRun, first_row}

pub head_is : {x y : ℕ} {xs ys : List ℕ} → x ∷ xs ≡ y ∷ ys → x ≡ y
head_is {x = x} q = ap (λ l. get_or l 0 x) q

pub tail_is : {x y : ℕ} {xs ys : List ℕ} → x ∷ xs ≡ y ∷ ys → xs ≡ ys
tail_is q = ap (drop 1) q

some_is : {X : Type 0} {a b : X} → Some a ≡ Some b → a ≡ b
some_is {X} {a} q = ap taken q
  where
    taken : Option X → X
    taken None = a
    taken (Some x) = x

-- a property of each of the items of a table, one by one
abbrev Rows : {X : Type 0} → (X → Type 0) → List X → Type 0
Rows P [] = ⊤
Rows P (x ∷ xs) = P x × Rows P xs

all_rows : {X : Type 0} (P : X → Type 0) (xs : List X) → Rows P xs → All P xs
all_rows P [] h = All-nil P
all_rows P (x ∷ xs) h = All-cons P x xs h.0 (all_rows P xs h.1)

at_row : {X : Type 0} (P : X → Type 0) (xs : List X) (x : X) → Rows P xs → Contains xs x → P x
at_row P xs x h k = All-contains P xs x (all_rows P xs h) k

row_found : (l : List ℕ) (s : Spec) (r : List ℕ) → Contains conversions (l, s) → first_row conversions (l ++ r) ≡ Some (l, s)
row_found l s r h =
    at_row (λ row. first_row conversions (row.0 ++ r) ≡ Some row) conversions (l, s)
    (refl, (refl, (refl, (refl, (refl, (refl, (refl, (refl, (refl, (refl, (refl, tt))))))))))) h

abbrev Lettered : List ℕ → Type 0
Lettered l = (b : ℕ) × (bs : List ℕ) × (l ≡ b ∷ bs) × (58 ≤ b)

lettered : (l : List ℕ) (s : Spec) → Contains conversions (l, s) → Lettered l
lettered l s h =
    at_row (λ row. Lettered row.0) conversions (l, s)
    ((_, _, refl, omega arith), ((_, _, refl, omega arith), ((_, _, refl, omega arith), ((_, _, refl, omega arith), ((_, _, refl, omega arith), ((_, _, refl, omega arith), ((_, _, refl, omega arith), ((_, _, refl, omega arith), ((_, _, refl, omega arith), ((_, _, refl, omega arith), ((_, _, refl, omega arith), tt))))))))))) h

flag_low : (b : ℕ) → Contains flags b → (b ≤ 48) × (b ≢ 37)
flag_low b h =
    at_row (λ b. (b ≤ 48) × (b ≢ 37)) flags b
    ((omega arith, omega arith), ((omega arith, omega arith), ((omega arith, omega arith), ((omega arith, omega arith), ((omega arith, omega arith), tt))))) h

letters_stop : (P : ℕ → Type 0) (l : List ℕ) (s : Spec) (r : List ℕ) → ((b : ℕ) → P b → b ≤ 57) → Contains conversions (l, s) → Stops P (l ++ r)
letters_stop P l s r low h =
    let w = lettered l s h in
    subst (λ l. Stops P (l ++ r)) (sym w.2) (λ p. absurd (omega (arith, low w.0 p, w.3)))

width_stops : (w l : List ℕ) (s : Spec) (r : List ℕ) → IsFieldWidth w → Contains conversions (l, s) → Stops (Contains flags) (w ++ (l ++ r))
width_stops w l s r no_width h = letters_stop (Contains flags) l s r (λ b p. let low = (flag_low b p).0 in omega (arith, low)) h
width_stops w l s r (width b bs low high digits) h = λ p. let most = (flag_low b p).0 in absurd (omega (arith, low, most))

width_run : (w : List ℕ) → IsFieldWidth w → All IsDigit w
width_run w no_width = All-nil IsDigit
width_run w (width b bs low high digits) = All-cons IsDigit b bs (omega (arith, low), high) digits

pub field_width : (w r : List ℕ) → All IsDigit w → Stops (Contains flags) (w ++ r) → IsFieldWidth w
field_width [] r h stops = no_width
field_width (b ∷ bs) r h stops =
    let here : IsDigit b = h 0 b (omega arith) in
    let other : b ≢ 48 = λ q. stops (1, omega arith, sym q) in
    width b bs (omega (arith, here.0, other)) here.1 (All-tail IsDigit b bs h)

pub one_run : (P : ℕ → Type 0) (a r b s : List ℕ) → IsRun P a r → IsRun P b s → a ++ r ≡ b ++ s → (a ≡ b) × (r ≡ s)
one_run P [] r [] s h k q = (refl, q)
one_run P [] r (x ∷ b) s h k q = absurd (subst (λ l. Stops P l) q h.stops (k.all 0 x (omega arith)))
one_run P (x ∷ a) r [] s h k q = absurd (subst (λ l. Stops P l) (sym q) k.stops (h.all 0 x (omega arith)))
one_run P (x ∷ a) r (y ∷ b) s h k q =
    let rest = one_run P a r b s (record { all = All-tail P x a h.all; stops = h.stops }) (record { all = All-tail P y b k.all; stops = k.stops }) (tail_is q) in
    (ap (λ z. z ∷ a) (head_is q) ∙ ap (λ l. y ∷ l) rest.0, rest.1)

-- the parts of a conversion are runs
module _ {text rest : List ℕ} {spec : Spec} (k : IsConversion text spec rest) where
  flags_run : IsRun (Contains flags) k.given (k.width ++ (k.letters ++ rest))
  flags_run = record { all = k.are_flags; stops = width_stops k.width k.letters spec rest k.field_width k.reads }

  digits_run : IsRun IsDigit k.width (k.letters ++ rest)
  digits_run = record { all = width_run k.width k.field_width; stops = letters_stop IsDigit k.letters spec rest (λ b p. p.1) k.reads }

  pub parts_are : (given behind digits end : List ℕ) → IsRun (Contains flags) given behind → text ≡ given ++ behind → IsRun IsDigit digits end → behind ≡ digits ++ end →
      (k.given ≡ given) × (k.letters ++ rest ≡ end) × (first_row conversions end ≡ Some (k.letters, spec))
  parts_are given behind digits end h q j p =
      let f = one_run (Contains flags) k.given _ given behind flags_run h (sym k.splits ∙ q) in
      let d = one_run IsDigit k.width _ digits end digits_run j (f.1 ∙ p) in
      (f.0, d.1, ap (first_row conversions) (sym d.1) ∙ row_found k.letters spec rest k.reads)

one_conversion : {text r q : List ℕ} {s t : Spec} → IsConversion text s r → IsConversion text t q → (s ≡ t) × (r ≡ q)
one_conversion {r = r} {q = q} {s = s} k m =
    let p = parts_are m k.given _ k.width _ (flags_run k) k.splits (digits_run k) refl in
    let row : (k.letters, s) ≡ (m.letters, _) = some_is (sym (row_found k.letters s r k.reads) ∙ p.2) in
    let same : k.letters ++ q ≡ k.letters ++ r = ap (λ l. l ++ q) (ap (λ x. x.0) row) ∙ p.1 in
    (ap (λ x. x.1) row, sym (append_cancel_left k.letters q r same))

no_sign : (g w l : List ℕ) (s : Spec) (r xs : List ℕ) → All (Contains flags) g → IsFieldWidth w → Contains conversions (l, s) → g ++ (w ++ (l ++ r)) ≡ 37 ∷ xs → ⊥
no_sign (x ∷ g) w l s r xs h j c q = (flag_low x (h 0 x (omega arith))).1 (head_is q)
no_sign [] w l s r xs h (width b bs low high digits) c q = let first : b ≡ 37 = head_is q in omega (arith, low, first)
no_sign [] w l s r xs h no_width c q =
    let k = lettered l s c in
    let first : k.0 ≡ 37 = head_is (ap (λ l. l ++ r) (sym k.2) ∙ q) in
    omega (arith, k.3, first)

pub not_percent : {text rest xs : List ℕ} {s : Spec} → IsConversion text s rest → text ≡ 37 ∷ xs → ⊥
not_percent k q = no_sign k.given k.width k.letters _ _ _ k.are_flags k.field_width k.reads (sym k.splits ∙ q)

pub no_first : {text rest : List ℕ} {read : Option Spec} → text ≡ [] → IsPiece text read rest → ⊥
no_first q (plain_byte b p n m r) = absurd (cc (sym q ∙ p))
no_first q (percent_sign p r) = absurd (cc (sym q ∙ p))
no_first q (conversion behind s p k r) = absurd (cc (sym q ∙ p))

pub one_piece : {text r s : List ℕ} {a b : Option Spec} → IsPiece text a r → IsPiece text b s → (a ≡ b) × (r ≡ s)
one_piece (plain_byte b p n m f) (plain_byte c q o j g) = (f ∙ sym g, tail_is (sym p ∙ q))
one_piece (plain_byte b p n m f) (percent_sign q g) = absurd (n (head_is (sym p ∙ q)))
one_piece (plain_byte b p n m f) (conversion behind s q k g) = absurd (n (head_is (sym p ∙ q)))
one_piece (percent_sign p f) (plain_byte c q o j g) = absurd (o (head_is (sym q ∙ p)))
one_piece (percent_sign p f) (percent_sign q g) = (f ∙ sym g, tail_is (tail_is (sym p ∙ q)))
one_piece (percent_sign p f) (conversion behind s q k g) = absurd (not_percent k (tail_is (sym q ∙ p)))
one_piece (conversion behind s p k f) (plain_byte c q o j g) = absurd (o (head_is (sym q ∙ p)))
one_piece (conversion behind s p k f) (percent_sign q g) = absurd (not_percent k (tail_is (sym p ∙ q)))
one_piece {s = end} (conversion behind s p k f) (conversion other t q m g) =
    let same = tail_is (sym p ∙ q) in
    let o = one_conversion k (subst (λ l. IsConversion l t end) (sym same) m) in
    (f ∙ ap Some o.0 ∙ sym g, o.1)

pub no_piece : (text behind : List ℕ) → text ≡ 37 ∷ behind → ((others : List ℕ) → behind ≡ 37 ∷ others → ⊥) → ((spec : Spec) (rest : List ℕ) → IsConversion behind spec rest → ⊥) →
    (read : Option Spec) (rest : List ℕ) → IsPiece text read rest → ⊥
no_piece text behind q no_percent none read rest (plain_byte b p n m r) = n (head_is (sym p ∙ q))
no_piece text behind q no_percent none read rest (percent_sign p r) = no_percent rest (tail_is (sym q ∙ p))
no_piece text behind q no_percent none read rest (conversion other s p k r) = none s rest (subst (λ l. IsConversion l s rest) (tail_is (sym p ∙ q)) k)

pub one_format : (target : Target) {format : List ℕ} {a b : List Spec} → IsFormat target format a → IsFormat target format b → a ≡ b
one_format target format_end format_end = refl
one_format target format_end (piece _ rest read others specs p f q) = absurd (no_first refl p)
one_format target (piece _ rest read others specs p f q) format_end = absurd (no_first refl p)
one_format target (piece text rest read others specs p f q) (piece _ left other more all j g k) =
    let o = one_piece p j in
    let same = one_format target f (subst (λ l. IsFormat target l more) (sym o.1) g) in
    q ∙ ap (λ x. cons_option x others) o.0 ∙ ap (cons_option other) same ∙ sym k

row_is : (rows : List (List ℕ × Spec)) (text : List ℕ) (row : List ℕ × Spec) → first_row rows text ≡ Some row → Contains rows row × (text ≡ row.0 ++ drop (length row.0) text)
row_is [] text row q = absurd (cc q)
row_is (first ∷ rows) text row q =
    elim (starts_with nat_eq text first.0) as (λ v. starts_with nat_eq text first.0 ≡ v → cond v (Some first) (first_row rows text) ≡ Some row →
    Contains (first ∷ rows) row × (text ≡ row.0 ++ drop (length row.0) text)) [
      | true ↦ (λ h k. let same : first ≡ row = some_is k in
          ((0, omega arith, same), subst (λ f. text ≡ f.0 ++ drop (length f.0) text) same ((starts_is Decides-eqb text first.0 _ refl).0 h)))
      | false ↦ (λ h k. let rest = row_is rows text row k in ((suc rest.0.0, omega (arith, rest.0.1), rest.0.2), rest.1))
    ] refl q

-- what the code finds of the parts of a conversion
pub conversion_stands : (text given behind digits end : List ℕ) (row : List ℕ × Spec) → IsRun (Contains flags) given behind → text ≡ given ++ behind → IsRun IsDigit digits end →
    behind ≡ digits ++ end → first_row conversions end ≡ Some row → FlagsFit given row.0 → IsConversion text row.1 (drop (length row.0) end)
conversion_stands text given behind digits end row h q j p f fit =
    let r = row_is conversions end row f in
    record {
      given = given;
      width = digits;
      letters = row.0;
      splits = q ∙ ap (λ l. given ++ l) (p ∙ ap (λ l. digits ++ l) r.1);
      are_flags = h.all;
      field_width = field_width digits end j.all (subst (λ l. Stops (Contains flags) l) p h.stops);
      reads = r.0;
      fit = fit;
    }

pub no_letters : (text given behind digits end : List ℕ) → IsRun (Contains flags) given behind → text ≡ given ++ behind → IsRun IsDigit digits end → behind ≡ digits ++ end →
    first_row conversions end ≡ None → (spec : Spec) (rest : List ℕ) → IsConversion text spec rest → ⊥
no_letters text given behind digits end h q j p f spec rest k = absurd (cc (sym f ∙ (parts_are k given behind digits end h q j p).2))

pub no_fit : (text given behind digits end : List ℕ) (row : List ℕ × Spec) → IsRun (Contains flags) given behind → text ≡ given ++ behind → IsRun IsDigit digits end →
    behind ≡ digits ++ end → first_row conversions end ≡ Some row → (FlagsFit given row.0 → ⊥) → (spec : Spec) (rest : List ℕ) → IsConversion text spec rest → ⊥
no_fit text given behind digits end row h q j p f other spec rest k =
    let parts = parts_are k given behind digits end h q j p in
    let same : (k.letters, spec) ≡ row = some_is (sym parts.2 ∙ f) in
    other (subst (λ g. FlagsFit g row.0) parts.0 (subst (λ r. FlagsFit k.given r.0) same k.fit))
