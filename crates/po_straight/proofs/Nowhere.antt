-- Where no sign stands.
use Rattle.std.proofs.Common.{◌≡◌, ℕ, ◌+◌, ◌-◌, ◌<◌, ◌≤◌, List, [], ◌∷◌, ◌++◌, length, get_or, drop, take, arith, ap, sym, ◌∙◌}
use Rattle.std.specs.Prelude.{All}
use Rattle.std.proofs.lemmas.List.{drop_more, drop-drop, take-append-drop}
use Rattle.std.proofs.lemmas.List.Elements.{All-head}
use Rattle.po_straight.specs.declared.lexeme.Sign.{Sign}
use Rattle.po_straight.specs.Spelling.{IsSpelling, IsWordByte, BeginsWithWordByte}
use Rattle.po_straight.specs.Lexing.{Stands}
use Rattle.po_straight.proofs.Splits.{split_same}
use Rattle.po_straight.proofs.OneSign.{ends}
use Rattle.po_straight.proofs.Shapes.{word, mark, shape}

pub no_word_stands : (bytes : List ℕ) (at end : ℕ) → at < length bytes → at ≤ end → end ≤ length bytes → IsWordByte (get_or bytes at 0) →
    All IsWordByte (take (end - at) (drop at bytes)) → (BeginsWithWordByte (drop end bytes) → ⊥) →
    ((x : Sign) → IsSpelling x (take (end - at) (drop at bytes)) → ⊥) → (x : Sign) (left : List ℕ) → Stands x (drop at bytes) left → ⊥
no_word_stands bytes at end in' low high first all ended none x left h =
    let e : at + (end - at) ≡ end = omega arith in
    let d : drop (end - at) (drop at bytes) ≡ drop end bytes = drop-drop (end - at) at bytes ∙ ap (λ n. drop n bytes) e in
    let p : take (end - at) (drop at bytes) ++ drop end bytes ≡ drop at bytes = rw (← d) (take-append-drop (end - at) (drop at bytes)) in
    let q : h.text ++ left ≡ take (end - at) (drop at bytes) ++ drop end bytes = sym h.parts ∙ sym p in
    elim (shape x h.text h.spelled) as (λ _. ⊥) [
      | word w a n ↦
          (let s = split_same IsWordByte h.text (take (end - at) (drop at bytes)) left (drop end bytes) a all (ends left (h.ends w)) (ends (drop end bytes) ended) q in
          none x (rw s.0 at h.spelled))
      | mark c w t nw nb ↦
          (let r : c ∷ left ≡ get_or bytes at 0 ∷ drop (at + 1) bytes = sym (ap (λ v. v ++ left) t) ∙ sym h.parts ∙ drop_more bytes at 0 in' in
          let s : c ≡ get_or bytes at 0 = cc in nw (rw s first))
    ]

word_first : (text left cs : List ℕ) (c : ℕ) → All IsWordByte text → 0 < length text → text ++ left ≡ c ∷ cs → IsWordByte c
word_first [] left cs c all some q = absurd (omega arith)
word_first (b ∷ bs) left cs c all some q = let e : b ≡ c = cc in rw e at (All-head IsWordByte b bs all)

pub no_mark_stands : (bytes : List ℕ) (at : ℕ) → at < length bytes → (IsWordByte (get_or bytes at 0) → ⊥) →
    ((x : Sign) (text : List ℕ) → IsSpelling x (get_or bytes at 0 ∷ text) → ⊥) → (x : Sign) (left : List ℕ) → Stands x (drop at bytes) left → ⊥
no_mark_stands bytes at in' other none x left h =
    let q : h.text ++ left ≡ get_or bytes at 0 ∷ drop (at + 1) bytes = sym h.parts ∙ drop_more bytes at 0 in' in
    elim (shape x h.text h.spelled) as (λ _. ⊥) [
      | word w a n ↦ other (word_first h.text left (drop (at + 1) bytes) (get_or bytes at 0) a n q)
      | mark c w t nw nb ↦
          (let r : c ∷ left ≡ get_or bytes at 0 ∷ drop (at + 1) bytes = sym (ap (λ v. v ++ left) t) ∙ q in
          let s : c ≡ get_or bytes at 0 = cc in
          none x [] (rw (← s) (rw t at h.spelled)))
    ]
