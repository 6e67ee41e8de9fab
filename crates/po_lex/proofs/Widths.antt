-- The tokens of a group end at the closing bracket that is met on the way back.
use Rattle.std.proofs.Common.{◌≡◌, ℕ, zero, suc, ◌+◌, ◌-◌, ◌<◌, ◌≤◌, Bool, true, false, cond, List, [], ◌∷◌, length, take, drop, set, get_or, arith, sym, ap, refl, ◌∙◌, subst, inl, inr, ne_eqb}
use Rattle.std.specs.Prelude.{Option, Some, None, ◌==◌, ◌&&◌, not, slice_index}
use Rattle.std.proofs.lemmas.Bool.{eqb-true, eq-eqb}
use Rattle.std.proofs.lemmas.Bool.Decides.{eqb_tells}
use Rattle.std.proofs.lemmas.List.{drop_more, drop-set, length-drop, take_all}
use Rattle.po_base.specs.declared.token.Token.{Token}
use Rattle.po_lex.specs.Brackets.{State, outset, step, behind_mark, mark, closer, is_closer, pop}
use Rattle.po_lex.specs.Keeping.{group, is_closed, parens, double_parens, size_as, size, extension_of, begins_paren}
use Rattle.po_lex.specs.declared.extension.Extension.{Extension}
use Rattle.po_lex.specs.declared.extension.Extension.TheVariants as e
use Rattle.po_lex.specs.Closings.{parens_from_each, opened, met, closings, width}
use Rattle.po_lex.specs.declared.nesting.Open.{Open}
use Rattle.po_lex.specs.declared.closing.Closing.{Closing}
use Rattle.po_lex.specs.declared.keeping.Context.{Context}

-- how many tokens stand behind the bracket that closes the outermost of these open ones
abbrev meets : List Open → List Closing → Option ℕ
meets [] cs = None
meets (x ∷ xs) [] = None
meets (x ∷ []) (c ∷ cs) = cond (x.close == c.byte) (Some c.behind) None
meets (x ∷ y ∷ ys) (c ∷ cs) = cond (x.close == c.byte) (meets (y ∷ ys) cs) None

-- a group of n tokens ends before so many of them all; None where there is no group
abbrev GroupEnds : ℕ → ℕ → Option ℕ → Type 0
GroupEnds n all None = n ≡ 0
GroupEnds n all (Some left) = n + left ≡ all

abbrev at : List Open → Bool → Option State
at stack begins = Some (record { stack = stack; begins = begins })

-- the group goes on behind a token
abbrev on : ℕ → Option State → List Token → ℕ
on n s ts = cond (is_closed s) (n + 1) (group (n + 1) s ts)

group-none : (n : ℕ) (ts : List Token) → group n None ts ≡ 0
group-none n [] = refl
group-none n (t ∷ ts) = refl

-- what is known of the tokens behind
abbrev Known : List Token → Type 0
Known ts = (n : ℕ) (begins : Bool) (x : Open) (xs : List Open) → GroupEnds (group n (at (x ∷ xs) begins) ts) (n + length ts) (meets (x ∷ xs) (closings ts))

known_on : (ts : List Token) → Known ts → (t : Token) (n : ℕ) (begins : Bool) (x : Open) (xs : List Open) →
    GroupEnds (on n (at (x ∷ xs) begins) ts) (n + length (t ∷ ts)) (meets (x ∷ xs) (closings ts))
known_on ts h t n begins x xs =
    let e : (n + 1) + length ts ≡ n + length (t ∷ ts) = omega arith in
    subst (λ v. GroupEnds (group (n + 1) (at (x ∷ xs) begins) ts) v (meets (x ∷ xs) (closings ts))) e (h (n + 1) begins x xs)

-- behind a closing bracket
closes : (ts : List Token) → Known ts → (t : Token) (n c : ℕ) (x : Open) (xs : List Open) →
    GroupEnds (on n (behind_mark c (pop c (x ∷ xs))) ts) (n + length (t ∷ ts)) (meets (x ∷ xs) (record { byte = c; behind = length ts } ∷ closings ts))
closes ts h t n c x [] =
    elim (x.close == c) as (λ b. GroupEnds (on n (behind_mark c (cond b (Some []) None)) ts) (n + length (t ∷ ts)) (cond b (Some (length ts)) None)) [
      | true ↦ omega arith
      | false ↦ group-none (n + 1) ts
    ]
closes ts h t n c x (y ∷ ys) =
    elim (x.close == c) as (λ b. GroupEnds (on n (behind_mark c (cond b (Some (y ∷ ys)) None)) ts) (n + length (t ∷ ts)) (cond b (meets (y ∷ ys) (closings ts)) None)) [
      | true ↦ known_on ts h t n (c == 41) y ys
      | false ↦ group-none (n + 1) ts
    ]

meets_opened : (o x : Open) (xs : List Open) (cs : List Closing) → meets (o ∷ x ∷ xs) cs ≡ meets (x ∷ xs) (opened o.close cs)
meets_opened o x xs [] = refl
meets_opened o x xs (c ∷ cs) =
    elim (o.close == c.byte) as (λ b. cond b (meets (x ∷ xs) cs) None ≡ meets (x ∷ xs) (cond b cs [])) [ true ↦ refl | false ↦ refl ]

-- behind an opening bracket
opens : (ts : List Token) → Known ts → (t : Token) (n : ℕ) (begins : Bool) (o x : Open) (xs : List Open) →
    GroupEnds (on n (at (o ∷ x ∷ xs) begins) ts) (n + length (t ∷ ts)) (meets (x ∷ xs) (opened o.close (closings ts)))
opens ts h t n begins o x xs =
    subst (λ v. GroupEnds (on n (at (o ∷ x ∷ xs) begins) ts) (n + length (t ∷ ts)) v) (meets_opened o x xs (closings ts)) (known_on ts h t n begins o (x ∷ xs))

abbrev bracket : Token → Bool → Open
bracket t begins = record { close = closer (mark t); line = t.own_line; body = (mark t == 123) && begins }

pub group_ends : (ts : List Token) → Known ts
group_ends [] = λ n begins x xs. refl
group_ends (t ∷ ts) = λ n begins x xs.
    let h : Known ts = group_ends ts in
    let c : ℕ = mark t in
    elim (is_closer c) as (λ b. GroupEnds (on n (behind_mark c (cond b (pop c (x ∷ xs)) (cond (closer c == 0) (Some (x ∷ xs)) (Some (bracket t begins ∷ x ∷ xs))))) ts)
    (n + length (t ∷ ts)) (meets (x ∷ xs) (cond b (record { byte = c; behind = length ts } ∷ closings ts) (cond (closer c == 0) (closings ts) (opened (closer c) (closings ts)))))) [
      | true ↦ closes ts h t n c x xs
      | false ↦ elim (closer c == 0) as (λ b. GroupEnds (on n (behind_mark c (cond b (Some (x ∷ xs)) (Some (bracket t begins ∷ x ∷ xs)))) ts)
          (n + length (t ∷ ts)) (meets (x ∷ xs) (cond b (closings ts) (opened (closer c) (closings ts))))) [
            | true ↦ known_on ts h t n (c == 41) x xs
            | false ↦ opens ts h t n (c == 41) (bracket t begins) x xs
          ]
    ]

either_way : (a b : ℕ) → (a == b) ≡ (b == a)
either_way a b = elim (eqb_tells a b) [
  | inl h ↦ h.0 ∙ sym (eq-eqb b a (sym h.1))
  | inr h ↦ h.0 ∙ sym (ne_eqb b a (λ q. h.1 (sym q)))
]

-- the parentheses that a `(` opens
from_paren : (n begun : ℕ) (line : ℕ) (body : Bool) (cs : List Closing) →
    GroupEnds n (1 + begun) (meets (record { close = 41; line = line; body = body } ∷ []) cs) → n ≡ width 40 begun cs
from_paren n begun line body [] h = h
from_paren n begun line body (c ∷ cs) h =
    rw (either_way c.byte 41) (elim (41 == c.byte) as (λ b. GroupEnds n (1 + begun) (cond b (Some c.behind) None) → n ≡ cond b (begun + 1 - c.behind) 0) [
      | true ↦ (λ q. omega (arith, q))
      | false ↦ (λ q. q)
    ] h)

by_paren : (t : Token) (ts : List Token) → mark t ≡ 40 → group 0 (Some outset) (t ∷ ts) ≡ width (mark t) (length ts) (closings ts)
by_paren t ts q =
    let h = from_paren (group 1 (at (record { close = 41; line = t.own_line; body = false } ∷ []) false) ts) (length ts) t.own_line false (closings ts)
    (group_ends ts 1 false (record { close = 41; line = t.own_line; body = false }) []) in
    rw q h

no_paren : (byte n : ℕ) (cs : List Closing) → (byte == 40) ≡ false → 0 ≡ width byte n cs
no_paren byte n [] q = refl
no_paren byte n (c ∷ cs) q = rw q refl

pub parens_width : (t : Token) (ts : List Token) → parens (t ∷ ts) ≡ width (mark t) (length ts) (closings ts)
parens_width t ts =
    elim (mark t == 40) as (λ b. (mark t == 40) ≡ b → cond b (group 0 (Some outset) (t ∷ ts)) 0 ≡ width (mark t) (length ts) (closings ts)) [
      | true ↦ (λ q. by_paren t ts (eqb-true (mark t) 40 q))
      | false ↦ no_paren (mark t) (length ts) (closings ts)
    ] refl

-- what stands from the next token on, where `behind` come after it
next_parts : (tokens : List Token) (behind at : ℕ) (t : Token) → behind < length tokens → at ≡ length tokens - 1 - behind → t ≡ get_or tokens at t →
    (drop (length tokens - (behind + 1)) tokens ≡ t ∷ drop (length tokens - behind) tokens) × (length (drop (length tokens - behind) tokens) ≡ behind)
next_parts tokens behind at t in' q item =
    let a : length tokens - (behind + 1) ≡ at = omega arith in
    let b : at + 1 ≡ length tokens - behind = omega arith in
    let d : drop at tokens ≡ t ∷ drop (at + 1) tokens = drop_more tokens at t (omega arith) ∙ ap (λ v. v ∷ drop (at + 1) tokens) (sym item) in
    let l : length (drop (length tokens - behind) tokens) ≡ length tokens - (length tokens - behind) = length-drop (length tokens - behind) tokens in
    (ap (λ n. drop n tokens) a ∙ d ∙ ap (λ n. t ∷ drop n tokens) b, omega arith)

pub widths_more : (tokens : List Token) (behind at : ℕ) (t : Token) (widths : List ℕ) (cs : List Closing) → behind < length tokens →
    at ≡ length tokens - 1 - behind → t ≡ get_or tokens at t → length widths ≡ length tokens →
    drop (length tokens - behind) widths ≡ parens_from_each (drop (length tokens - behind) tokens) →
    cs ≡ closings (drop (length tokens - behind) tokens) →
    drop (length tokens - (behind + 1)) (set widths at (width (mark t) behind cs)) ≡ parens_from_each (drop (length tokens - (behind + 1)) tokens)
widths_more tokens behind at t widths cs in' q item long so met =
    let rest : List Token = drop (length tokens - behind) tokens in
    let parts = next_parts tokens behind at t in' q item in
    let a : length tokens - (behind + 1) ≡ at = omega arith in
    let b : at + 1 ≡ length tokens - behind = omega arith in
    let v : ℕ = width (mark t) behind cs in
    let wide : v ≡ parens (t ∷ rest) = ap (λ n. width (mark t) n cs) (sym parts.1) ∙ ap (width (mark t) (length rest)) met ∙ sym (parens_width t rest) in
    let put : drop at (set widths at v) ≡ v ∷ drop (at + 1) widths = drop-set widths at v (omega arith) in
    ap (λ n. drop n (set widths at v)) a ∙ put ∙ ap (λ n. v ∷ drop n widths) b ∙ ap (λ n. v ∷ n) so ∙ ap (λ n. n ∷ parens_from_each rest) wide ∙ ap parens_from_each (sym parts.0)

pub closings_more : (tokens : List Token) (behind at : ℕ) (t : Token) (cs : List Closing) → behind < length tokens →
    at ≡ length tokens - 1 - behind → t ≡ get_or tokens at t → cs ≡ closings (drop (length tokens - behind) tokens) →
    met (mark t) behind cs ≡ closings (drop (length tokens - (behind + 1)) tokens)
closings_more tokens behind at t cs in' q item so =
    let rest : List Token = drop (length tokens - behind) tokens in
    let parts = next_parts tokens behind at t in' q item in
    ap (met (mark t) behind) so ∙ ap (λ n. met (mark t) n (closings rest)) (sym parts.1) ∙ ap closings (sym parts.0)

-- the table's first entry, and its second
pub first_width : (ts : List Token) → slice_index (parens_from_each ts) 0 ≡ parens ts
first_width [] = refl
first_width (t ∷ ts) = refl

pub second_width : (ts : List Token) → slice_index (parens_from_each ts) 1 ≡ parens (drop 1 ts)
second_width [] = refl
second_width (t ∷ []) = refl
second_width (t ∷ u ∷ ts) = refl

-- the table of what is left
pub widths_from : (n : ℕ) (ts : List Token) → drop n (parens_from_each ts) ≡ parens_from_each (drop n ts)
widths_from zero ts = refl
widths_from (suc n) [] = refl
widths_from (suc n) (t ∷ ts) = widths_from n ts

group_within : (n : ℕ) (s : Option State) (ts : List Token) → group n s ts ≤ n + length ts
group_within n s [] = omega arith
group_within n None (t ∷ ts) = omega arith
group_within n (Some s) (t ∷ ts) =
    let h : group (n + 1) (step s t) ts ≤ (n + 1) + length ts = group_within (n + 1) (step s t) ts in
    elim (is_closed (step s t)) as (λ b. cond b (n + 1) (group (n + 1) (step s t) ts) ≤ n + length (t ∷ ts)) [
      | true ↦ omega arith
      | false ↦ omega (arith, h)
    ]

parens_within : (ts : List Token) → parens ts ≤ length ts
parens_within ts =
    let h : group 0 (Some outset) ts ≤ 0 + length ts = group_within 0 (Some outset) ts in
    elim (begins_paren ts) as (λ b. cond b (group 0 (Some outset) ts) 0 ≤ length ts) [ true ↦ omega (arith, h) | false ↦ omega arith ]

double_parens_within : (ts : List Token) → double_parens ts ≤ length ts
double_parens_within ts =
    elim (not (parens (drop 1 ts) == 0) && (parens (drop 1 ts) + 2 == parens ts)) as (λ b. cond b (parens ts) 0 ≤ length ts) [
      | true ↦ parens_within ts
      | false ↦ omega arith
    ]

size_as_within : (x : Extension) (m : Context) (ts : List Token) → size_as x m ts ≤ length ts + 1
size_as_within e.Attribute m ts =
    let a = double_parens_within ts in omega (arith, a)
size_as_within e.Assembler m ts =
    let b = parens_within ts in elim (m.after && (m.depth == 0)) as (λ v. cond v (parens ts + 1) 1 ≤ length ts + 1) [ true ↦ omega (arith, b) | false ↦ omega arith ]
size_as_within e.Other m ts = omega arith
size_as_within e.Dropped m ts = omega arith
size_as_within e.Inline m ts = omega arith
size_as_within e.Const m ts = omega arith

-- what is judged at once is there
pub size_within : (m : Context) (t : Token) (ts : List Token) → size m t ts ≤ length ts + 1
size_within m t ts = size_as_within (extension_of t) m ts

pub as_many : (ts : List Token) → length (parens_from_each ts) ≡ length ts
as_many [] = refl
as_many (t ∷ ts) = ap suc (as_many ts)

pub widths_behind : (read : List Token) (widths : List ℕ) (k : ℕ) → widths ≡ parens_from_each read →
    take (length widths - k) (drop k widths) ≡ parens_from_each (drop k read)
widths_behind read widths k q =
    let long : length (drop k widths) ≡ length widths - k = length-drop k widths in
    take_all (length widths - k) (drop k widths) (omega arith) ∙ ap (drop k) q ∙ widths_from k read

-- what is judged at once from a place on is there
pub judged_within : (read : List Token) (widths : List ℕ) (at n : ℕ) (m : Context) (x : Extension) (t : Token) → at < length read → widths ≡ parens_from_each read →
    x ≡ extension_of t →
    ((others : List Token) → take (length widths - (at + 1)) (drop (at + 1) widths) ≡ parens_from_each others → n ≡ size_as x m others) →
    (n ≡ size m t (drop (at + 1) read)) × (at + n ≤ length read)
judged_within read widths at n m x t in' q word tells =
    let us : List Token = drop (at + 1) read in
    let sized : n ≡ size m t us = tells us (widths_behind read widths (at + 1) q) ∙ ap (λ v. size_as v m us) word in
    let within : size m t us ≤ length us + 1 = size_within m t us in
    let left : length us ≡ length read - (at + 1) = length-drop (at + 1) read in
    (sized, omega arith)
