-- The kept tokens are some of the tokens, in their order.
use Rattle.std.proofs.Common.{◌≡◌, ℕ, zero, suc, ◌+◌, ◌-◌, ◌<◌, ◌≤◌, true, false, cond, List, [], ◌∷◌, ◌++◌, length, take, drop, arith, sym, refl, subst}
use Rattle.std.specs.Prelude.{◌==◌, ◌&&◌, ◌||◌}
use Rattle.std.specs.List.{All}
use Rattle.std.proofs.lemmas.List.Elements.{All-cons, All-head, All-tail}
use Rattle.po_base.specs.declared.token.Token.{Token}
use Rattle.po_lex.specs.Keeping.{Keeps, nothing, more, kept_as, kept_of, size_as, size, renamed_as, renamed, tells, is_empty, extension_of, double_parens, parens, AreSelected, none_left, left_out, taken, reread}
use Rattle.po_lex.specs.declared.extension.Extension.{Extension}
use Rattle.po_lex.specs.declared.extension.Extension.TheVariants as e
use Rattle.po_lex.specs.declared.keeping.Context.{Context}

skip_front : (n : ℕ) (ts kept : List Token) → AreSelected (drop n ts) kept → AreSelected ts kept
skip_front zero ts kept h = h
skip_front (suc n) [] kept h = h
skip_front (suc n) (t ∷ ts) kept h = left_out t ts kept (skip_front n ts kept h)

whole_front : (n : ℕ) (ts kept : List Token) → AreSelected (drop n ts) kept → AreSelected ts (take n ts ++ kept)
whole_front zero ts kept h = h
whole_front (suc n) [] kept h = h
whole_front (suc n) (t ∷ ts) kept h = taken t ts (take n ts ++ kept) (whole_front n ts kept h)

one_as : (x : Extension) (m : Context) (t : Token) (us kept : List Token) → extension_of t ≡ x → AreSelected (drop (size_as x m us) (t ∷ us)) kept →
    AreSelected (t ∷ us) (kept_as x t (take (size_as x m us - 1) us) ++ kept)
one_as e.Dropped m t us kept q h = skip_front 1 (t ∷ us) kept h
one_as e.Attribute m t us kept q h =
    let held : List Token = take (double_parens us + 1 - 1) us in
    let n : double_parens us + 1 ≡ suc (double_parens us + 1 - 1) = omega arith in
    let rest : AreSelected (drop (double_parens us + 1 - 1) us) kept = subst (λ k. AreSelected (drop k (t ∷ us)) kept) n h in
    elim (is_empty held || tells held) as (λ b. AreSelected (t ∷ us) (cond b (t ∷ held) [] ++ kept)) [
      | true ↦ taken t us (held ++ kept) (whole_front (double_parens us + 1 - 1) us kept rest)
      | false ↦ skip_front (double_parens us + 1) (t ∷ us) kept h
    ]
one_as e.Assembler m t us kept q h =
    elim (m.after && (m.depth == 0)) as (λ b. AreSelected (drop (cond b (parens us + 1) 1) (t ∷ us)) kept →
    AreSelected (t ∷ us) (cond (is_empty (take (cond b (parens us + 1) 1 - 1) us)) (t ∷ []) [] ++ kept)) [
      | true ↦ (λ k. code k)
      | false ↦ (λ k. taken t us kept k)
    ] h
  where
    code : AreSelected (drop (parens us + 1) (t ∷ us)) kept → AreSelected (t ∷ us) (cond (is_empty (take (parens us + 1 - 1) us)) (t ∷ []) [] ++ kept)
    code k =
        let n : parens us + 1 ≡ suc (parens us) = omega arith in
        let rest : AreSelected (drop (parens us) us) kept = subst (λ v. AreSelected (drop v (t ∷ us)) kept) n k in
        elim (is_empty (take (parens us + 1 - 1) us)) as (λ b. AreSelected (t ∷ us) (cond b (t ∷ []) [] ++ kept)) [
          | true ↦ taken t us kept (skip_front (parens us) us kept rest)
          | false ↦ left_out t us kept (skip_front (parens us) us kept rest)
        ]
one_as e.Inline m t us kept q h = subst (λ x. AreSelected (t ∷ us) (renamed_as x t ∷ kept)) q (reread t us kept h)
one_as e.Const m t us kept q h = subst (λ x. AreSelected (t ∷ us) (renamed_as x t ∷ kept)) q (reread t us kept h)
one_as e.Other m t us kept q h = taken t us kept h

one_group : (m : Context) (t : Token) (us kept : List Token) → AreSelected (drop (size m t us) (t ∷ us)) kept → AreSelected (t ∷ us) (kept_of (size m t us) t us ++ kept)
one_group m t us kept h = one_as (extension_of t) m t us kept refl h

selected-along : {m : Context} {ts kept : List Token} → Keeps m ts kept → AreSelected ts kept
selected-along (nothing m) = none_left
selected-along (more m t us kept h) = one_group m t us kept (selected-along h)

pub selected : (m : Context) (ts kept : List Token) → Keeps m ts kept → AreSelected ts kept
selected m ts kept h = selected-along h

fewer-along : {ts kept : List Token} → AreSelected ts kept → length kept ≤ length ts
fewer-along none_left = omega arith
fewer-along (left_out t ts kept h) = let n = fewer-along h in omega arith
fewer-along (taken t ts kept h) = let n = fewer-along h in omega arith
fewer-along (reread t ts kept h) = let n = fewer-along h in omega arith

pub fewer : (ts kept : List Token) → AreSelected ts kept → length kept ≤ length ts
fewer ts kept h = fewer-along h

same_as : (x : Extension) (t : Token) → (renamed_as x t).file ≡ t.file
same_as e.Other t = refl
same_as e.Dropped t = refl
same_as e.Attribute t = refl
same_as e.Assembler t = refl
same_as e.Inline t = refl
same_as e.Const t = refl

same_file : (t : Token) → (renamed t).file ≡ t.file
same_file t = same_as (extension_of t) t

placed-along : {ts kept : List Token} (n : ℕ) → AreSelected ts kept → All (λ t. t.file < n) ts → All (λ t. t.file < n) kept
placed-along n none_left h = h
placed-along n (left_out t ts kept k) h = placed-along n k (All-tail (λ t. t.file < n) t ts h)
placed-along n (taken t ts kept k) h =
    All-cons (λ t. t.file < n) t kept (All-head (λ t. t.file < n) t ts h) (placed-along n k (All-tail (λ t. t.file < n) t ts h))
placed-along n (reread t ts kept k) h =
    All-cons (λ t. t.file < n) (renamed t) kept (subst (λ k. k < n) (sym (same_file t)) (All-head (λ t. t.file < n) t ts h)) (placed-along n k (All-tail (λ t. t.file < n) t ts h))

pub still_placed : (n : ℕ) (ts kept : List Token) → AreSelected ts kept → All (λ t. t.file < n) ts → All (λ t. t.file < n) kept
still_placed n ts kept h k = placed-along n h k
