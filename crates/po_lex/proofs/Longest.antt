-- No text that is a part by itself is longer than the part that stands.
use Rattle.std.proofs.Common.{◌≡◌, ℕ, ◌+◌, ◌-◌, ◌<◌, ◌≤◌, Bool, true, false, cond, List, [], ◌∷◌, ◌++◌, length, take, drop, arith, sym, ap, refl, ◌∙◌, subst, append-nil, length-append, inl, inr}
use Rattle.std.specs.Prelude.{nat_eq, max, min, ◌⊎◌}
use Rattle.std.proofs.lemmas.Bool.{cases_lt}
use Rattle.std.specs.List.{starts_with}
use Rattle.std.proofs.lemmas.Slice.Eq.{bytes_eq-Decides}
use Rattle.std.proofs.lemmas.List.{append_cancel_left, drop-append-le, take-append-le, length-drop, length-take}
use Rattle.po_lex.specs.Rows.{goes_on, behind, skip}
use Rattle.po_lex.specs.PartKinds.{part_kind_of, opening, row_of, closing, signs, longest}
use Rattle.po_lex.specs.Division.{Part, Stands}
use Rattle.po_lex.specs.declared.row.Row.{Row}
use Rattle.po_lex.specs.declared.row.Row.TheVariants as r
use Rattle.po_lex.specs.declared.part_kind.PartKind.{PartKind}
use Rattle.po_lex.specs.declared.part_kind.PartKind.TheVariants as l

-- a row leaves no more than there was
skip_short : (row : Row) (before : ℕ) (xs : List ℕ) → length (skip row before xs) ≤ length xs
skip_short row before [] = omega arith
skip_short row before (c ∷ cs) =
    let h = skip_short row (behind row before c) cs in
    elim (goes_on row before c) as (λ b. length (cond b (skip row (behind row before c) cs) (c ∷ cs)) ≤ length (c ∷ cs)) [
      | true ↦ omega (arith, h)
      | false ↦ omega arith
    ]

-- a row that stops within xs stops there also where more comes after
skip_stops : (row : Row) (before : ℕ) (xs ys zs : List ℕ) (z : ℕ) → skip row before xs ≡ z ∷ zs → skip row before (xs ++ ys) ≡ (z ∷ zs) ++ ys
skip_stops row before [] ys zs z e = absurd (cc)
skip_stops row before (c ∷ cs) ys zs z e =
    elim (goes_on row before c) as (λ b. cond b (skip row (behind row before c) cs) (c ∷ cs) ≡ z ∷ zs →
    cond b (skip row (behind row before c) (cs ++ ys)) (c ∷ (cs ++ ys)) ≡ (z ∷ zs) ++ ys) [
      | true ↦ (λ q. skip_stops row (behind row before c) cs ys zs z q)
      | false ↦ (λ q. ap (λ v. v ++ ys) q)
    ] e

-- a row that takes all of xs leaves no more than what comes after
skip_goes : (row : Row) (before : ℕ) (xs ys : List ℕ) → skip row before xs ≡ [] → length (skip row before (xs ++ ys)) ≤ length ys
skip_goes row before [] ys e = skip_short row before ys
skip_goes row before (c ∷ cs) ys e =
    elim (goes_on row before c) as (λ b. cond b (skip row (behind row before c) cs) (c ∷ cs) ≡ [] →
    length (cond b (skip row (behind row before c) (cs ++ ys)) (c ∷ (cs ++ ys))) ≤ length ys) [
      | true ↦ (λ q. skip_goes row (behind row before c) cs ys q)
      | false ↦ (λ q. absurd (cc))
    ] e

rest_short : (row : Row) (o : ℕ) (close text left rest : List ℕ) → o ≤ length text → skip row (0) (drop o text) ≡ close ++ [] →
    skip row (0) (drop o (text ++ left)) ≡ close ++ rest → length rest ≤ length left
rest_short row o [] text left rest within alone more =
    let d : drop o (text ++ left) ≡ drop o text ++ left = drop-append-le o text left within in
    let h : length (skip row (0) (drop o text ++ left)) ≤ length left = skip_goes row (0) (drop o text) left alone in
    let e : length (skip row (0) (drop o text ++ left)) ≡ length rest = ap (λ v. length (skip row (0) v)) (sym d) ∙ ap length more in
    omega arith
rest_short row o (q ∷ qs) text left rest within alone more =
    let d : drop o (text ++ left) ≡ drop o text ++ left = drop-append-le o text left within in
    let a : skip row (0) (drop o text ++ left) ≡ (q ∷ qs) ++ left = skip_stops row (0) (drop o text) left qs q (alone ∙ append-nil (q ∷ qs)) in
    let e : left ≡ rest = append_cancel_left (q ∷ qs) left rest (sym a ∙ ap (skip row (0)) (sym d) ∙ more) in
    let n : length left ≡ length rest = ap length e in
    omega arith

-- more bytes begin with no shorter sign
begins_so : (x text left : List ℕ) → starts_with nat_eq text x ≡ true → starts_with nat_eq (text ++ left) x ≡ true
begins_so x text left h =
    let same : x ≡ take (length x) text = (bytes_eq-Decides x (take (length x) text)).0 h in
    let n : length x ≡ length (take (length x) text) = ap length same in
    let m : length (take (length x) text) ≡ min (length x) (length text) = length-take (length x) text in
    let short : length x ≤ length text = omega arith in
    let e : take (length x) (text ++ left) ≡ take (length x) text = take-append-le (length x) text left short in
    (bytes_eq-Decides x (take (length x) (text ++ left))).1 (same ∙ sym e)

longest_grows : (xs : List (List ℕ)) (text left : List ℕ) → longest xs text ≤ longest xs (text ++ left)
longest_grows [] text left = omega arith
longest_grows (x ∷ xs) text left =
    let h : longest xs text ≤ longest xs (text ++ left) = longest_grows xs text left in
    let a : ℕ = longest xs text in
    let b : ℕ = longest xs (text ++ left) in
    elim (starts_with nat_eq text x) as (λ v. starts_with nat_eq text x ≡ v → cond v (max (length x) a) a ≤ cond (starts_with nat_eq (text ++ left) x) (max (length x) b) b) [
      | true ↦ (λ q. rw (begins_so x text left q) (omega arith))
      | false ↦ (λ q. elim (starts_with nat_eq (text ++ left) x) as (λ v. a ≤ cond v (max (length x) b) b) [ true ↦ omega arith | false ↦ omega arith ])
    ] refl

skip_nothing : (xs : List ℕ) → skip r.Nothing 0 xs ≡ xs
skip_nothing [] = refl
skip_nothing (c ∷ cs) = refl

-- what comes after a part is no longer than what comes after a text of the same part_kind that is a part by itself
same_lead : (part_kind : PartKind) (text left rest : List ℕ) → opening part_kind text ≤ length text →
    skip (row_of part_kind) 0 (drop (opening part_kind text) text) ≡ closing part_kind ++ [] →
    skip (row_of part_kind) 0 (drop (opening part_kind (text ++ left)) (text ++ left)) ≡ closing part_kind ++ rest → length rest ≤ length left
same_lead l.Blank text left rest w a m = rest_short r.Nothing 1 [] text left rest w a m
same_lead l.Splice text left rest w a m = rest_short r.Nothing 2 [] text left rest w a m
same_lead l.Comment text left rest w a m = rest_short r.Comment 2 (47 ∷ []) text left rest w a m
same_lead l.LineComment text left rest w a m = rest_short r.Line 2 [] text left rest w a m
same_lead l.Word text left rest w a m = rest_short r.Word 1 [] text left rest w a m
same_lead l.Number text left rest w a m = rest_short r.Number 1 [] text left rest w a m
same_lead l.Char text left rest w a m = rest_short (r.Literal 39) 1 (39 ∷ []) text left rest w a m
same_lead l.Str text left rest w a m = rest_short (r.Literal 34) 1 (34 ∷ []) text left rest w a m
same_lead l.Directive text left rest w a m = rest_short r.Line 1 [] text left rest w a m
same_lead l.Punctuator text left rest w a m =
    let n : ℕ = longest signs text in
    let k : ℕ = longest signs (text ++ left) in
    let grows : n ≤ k = longest_grows signs text left in
    let none : length (drop n text) ≡ 0 = ap length (sym (skip_nothing (drop n text)) ∙ a) in
    let all : length (drop n text) ≡ length text - n = length-drop n text in
    let there : length (drop k (text ++ left)) ≡ length rest = ap length (sym (skip_nothing (drop k (text ++ left))) ∙ m) in
    let gone : length (drop k (text ++ left)) ≡ length (text ++ left) - k = length-drop k (text ++ left) in
    let both : length (text ++ left) ≡ length text + length left = length-append text left in
    omega arith

not_empty : (fresh : Bool) (bytes : List ℕ) (x : Part) (rest : List ℕ) → Stands fresh bytes x rest → 0 < length x.text
not_empty fresh bytes x rest h =
    let o : ℕ = opening x.part_kind bytes in
    let a : length (drop o bytes) ≡ length bytes - o = length-drop o bytes in
    let b : length (skip (row_of x.part_kind) 0 (drop o bytes)) ≤ length (drop o bytes) = skip_short (row_of x.part_kind) 0 (drop o bytes) in
    let c : length (skip (row_of x.part_kind) 0 (drop o bytes)) ≡ length (closing x.part_kind) + length rest = ap length h.ended ∙ length-append (closing x.part_kind) rest in
    let d : length bytes ≡ length x.text + length rest = ap length h.whole ∙ length-append x.text rest in
    let e : 0 < o = h.some in
    let f : o ≤ length bytes = h.within in
    omega arith

-- the first two bytes of a text are those of the bytes that it begins
lead_same : (text left : List ℕ) → 1 < length text → part_kind_of (text ++ left) ≡ part_kind_of text
lead_same [] left h = absurd (omega arith)
lead_same (c ∷ []) left h = absurd (omega arith)
lead_same (c ∷ d ∷ cs) left h = refl

pub no_longer : (fresh : Bool) (bytes : List ℕ) (x y : Part) (rest left : List ℕ) → Stands fresh bytes x rest → Stands true y.text y [] →
    bytes ≡ y.text ++ left → (length y.text ≤ 1) ⊎ (1 < length y.text) → length y.text ≤ length x.text
no_longer fresh bytes x y rest left h k e (inl small) =
    let some : 0 < length x.text = not_empty fresh bytes x rest h in omega arith
no_longer fresh bytes x y rest left h k e (inr long) =
    let part_kind : x.part_kind ≡ y.part_kind = h.begun ∙ ap part_kind_of e ∙ lead_same y.text left long ∙ sym k.begun in
    let ended : skip (row_of y.part_kind) 0 (drop (opening y.part_kind (y.text ++ left)) (y.text ++ left)) ≡ closing y.part_kind ++ rest =
    subst (λ v. skip (row_of y.part_kind) 0 (drop (opening y.part_kind v) v) ≡ closing y.part_kind ++ rest) e
    (subst (λ v. skip (row_of v) 0 (drop (opening v bytes) bytes) ≡ closing v ++ rest) part_kind h.ended) in
    let short : length rest ≤ length left = same_lead y.part_kind y.text left rest k.within k.ended ended in
    let a : length bytes ≡ length x.text + length rest = ap length h.whole ∙ length-append x.text rest in
    let b : length bytes ≡ length y.text + length left = ap length e ∙ length-append y.text left in
    omega arith

small_or_long : (n : ℕ) → (n ≤ 1) ⊎ (1 < n)
small_or_long n = elim (cases_lt 1 n) as (λ _. (n ≤ 1) ⊎ (1 < n)) [ inl h ↦ inr h | inr h ↦ inl h ]

pub longest_stands : (fresh : Bool) (bytes : List ℕ) (x y : Part) (rest left : List ℕ) → Stands fresh bytes x rest → Stands true y.text y [] →
    bytes ≡ y.text ++ left → length y.text ≤ length x.text
longest_stands fresh bytes x y rest left h k e = no_longer fresh bytes x y rest left h k e (small_or_long (length y.text))
