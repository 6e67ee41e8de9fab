-- How many are found by walks.
use Rattle.std.proofs.Common.{◌≡◌, ◌⊎◌, ℕ, ◌+◌, ◌<◌, ◌≤◌, List, length, map, take, get_or, sym, ap, subst, inl, inr, arith}
use Rattle.std.specs.Prelude.{Option, Some}
use Rattle.std.proofs.lemmas.Option.{slice_get_within}
use Rattle.std.specs.List.{Contains}
use Rattle.std.proofs.lemmas.Bool.{cases_eq}
use Rattle.po_base.specs.declared.numbers.FileNo.{FileNo}
use Rattle.po_core.specs.Core.{AreApart}
use Rattle.po_lists.proofs.Members.{has}
use Rattle.po_core.specs.declared.event.Hand.{Hand}
use Rattle.po_core.specs.declared.event.Mark.{Mark}
use Rattle.po_core.specs.declared.event.Mark.TheVariants.{Untaken}
use Rattle.po_core.specs.declared.obl.Obl.{Obl}
use Rattle.po_ledger.specs.Calls.{Counts}
use Rattle.po_ledger.specs.Parts.{HandAt}
use Rattle.po_ledger.proofs.Counted.{counts_none, counts_same, counts_more}
use Rattle.po_ledger.proofs.Lists.{front_cases, front_last, front_more, key_once}

-- the files below a number that are held
module _ {P : Type 0} (hands : List (Option (Hand P))) where
  abbrev pub IsHeldBelow : ℕ → FileNo → Type 0
  IsHeldBelow n file = (file.0 < n) × HandAt hands file

  pub none_below : Counts (IsHeldBelow 0) 0
  none_below = counts_none (IsHeldBelow 0) (IsHeldBelow 0) (λ f h. let l : f.0 < 0 = h.0 in absurd (omega arith))

  below_cases : (n : ℕ) (f : FileNo) → IsHeldBelow (n + 1) f → IsHeldBelow n f ⊎ (f ≡ record { 0 = n })
  below_cases n f h = elim (cases_eq f.0 n) [
    | inl q ↦ inr (let to : ℕ → FileNo = λ k. record { 0 = k } in ap to q)
    | inr q ↦ inl (let other : f.0 ≡ n → ⊥ = q in let l : f.0 < n + 1 = h.0 in omega arith, h.1)
  ]

  pub held_here : (n k : ℕ) → Counts (IsHeldBelow n) k → HandAt hands (record { 0 = n }) → Counts (IsHeldBelow (n + 1)) (k + 1)
  held_here n k c h = counts_more (IsHeldBelow n) (IsHeldBelow (n + 1)) (record { 0 = n }) k c (λ x. let l : n < n = x.0 in omega arith) (omega arith, h) (λ f x. (let l : f.0 < n = x.0 in omega arith, x.1)) (below_cases n)

  pub free_here : (n k : ℕ) → Counts (IsHeldBelow n) k → ¬ HandAt hands (record { 0 = n }) → Counts (IsHeldBelow (n + 1)) k
  free_here n k c free = counts_same (IsHeldBelow n) (IsHeldBelow (n + 1)) k (λ f x. (let l : f.0 < n = x.0 in omega arith, x.1)) (λ f x. elim (below_cases n f x) [ inl y ↦ y | inr q ↦ absurd (free (subst (λ (z : FileNo). HandAt hands z) q x.1)) ]) c

  pub held_then : (n k m : ℕ) → Counts (IsHeldBelow n) k × (k ≤ n) → HandAt hands (record { 0 = n }) → m ≡ k + 1 → Counts (IsHeldBelow (n + 1)) m × (m ≤ n + 1)
  held_then n k m c h is = let le : k ≤ n = c.1 in (subst (λ (z : ℕ). Counts (IsHeldBelow (n + 1)) z) (sym is) (held_here n k c.0 h), omega arith)

  pub held_else : (n k m : ℕ) → Counts (IsHeldBelow n) k × (k ≤ n) → ¬ HandAt hands (record { 0 = n }) → m ≡ k → Counts (IsHeldBelow (n + 1)) m × (m ≤ n + 1)
  held_else n k m c h is = let le : k ≤ n = c.1 in (subst (λ (z : ℕ). Counts (IsHeldBelow (n + 1)) z) (sym is) (free_here n k c.0 h), omega arith)

  pub held_all : (n k files : ℕ) → length hands ≡ files → files ≤ n → Counts (IsHeldBelow n) k → Counts (HandAt hands) k
  held_all n k files long done c = counts_same (IsHeldBelow n) (HandAt hands) k (λ f h. h.1) (λ f h. (let l : f.0 < length hands = slice_get_within hands f.0 (Some h.0) h.1 in omega arith, h)) c

-- the untaken obligations of a front of the marks
module _ {P N : Type 0} (marks : List (Obl P × Mark P N)) where
  abbrev pub IsUntakenBefore : ℕ → Obl P → Type 0
  IsUntakenBefore i o = Contains (take i marks) (o, Untaken)

  pub none_before : Counts (IsUntakenBefore 0) 0
  none_before = counts_none (IsUntakenBefore 0) (IsUntakenBefore 0) (λ o h. has (take 0 marks) (o, Untaken) h)

  module _ (i : ℕ) (e : Obl P × Mark P N) (l : i < length marks) (q : e ≡ get_or marks i e) (k : ℕ) (c : Counts (IsUntakenBefore i) k) where
    pub untaken_here : AreApart (map (λ x. x.0) marks) → e.1 ≡ Untaken → Counts (IsUntakenBefore (i + 1)) (k + 1)
    untaken_here apart is =
        let entry : ◌≡◌ {A = Obl P × Mark P N} e (e.0, Untaken) = ap (λ (z : Mark P N). let y : Obl P × Mark P N = (e.0, z) in y) is in
        counts_more (IsUntakenBefore i) (IsUntakenBefore (i + 1)) e.0 k c
        (λ h. key_once marks i e apart l q Untaken (has (take i marks) (e.0, Untaken) h))
        (subst (λ (z : Obl P × Mark P N). Contains (take (i + 1) marks) z) entry (front_last marks i e l q))
        (λ o h. front_more marks i e (o, Untaken) l q h)
        (λ o h. elim (front_cases marks i e (o, Untaken) l q h) [ inl x ↦ inl x | inr x ↦ inr (ap (λ (z : Obl P × Mark P N). z.0) (sym x)) ])

    pub other_here : ¬ (e.1 ≡ Untaken) → Counts (IsUntakenBefore (i + 1)) k
    other_here other = counts_same (IsUntakenBefore i) (IsUntakenBefore (i + 1)) k
        (λ o h. front_more marks i e (o, Untaken) l q h)
        (λ o h. elim (front_cases marks i e (o, Untaken) l q h) [ inl x ↦ x | inr x ↦ absurd (other (ap (λ (z : Obl P × Mark P N). z.1) x)) ]) c

  pub untaken_then : (i : ℕ) (e : Obl P × Mark P N) (k m : ℕ) → AreApart (map (λ x. x.0) marks) → i < length marks → e ≡ get_or marks i e → Counts (IsUntakenBefore i) k × (k ≤ i) → e.1 ≡ Untaken → m ≡ k + 1 → Counts (IsUntakenBefore (i + 1)) m × (m ≤ i + 1)
  untaken_then i e k m apart l q c h is = let le : k ≤ i = c.1 in (subst (λ (z : ℕ). Counts (IsUntakenBefore (i + 1)) z) (sym is) (untaken_here i e l q k c.0 apart h), omega arith)

  pub untaken_else : (i : ℕ) (e : Obl P × Mark P N) (k m : ℕ) → i < length marks → e ≡ get_or marks i e → Counts (IsUntakenBefore i) k × (k ≤ i) → ¬ (e.1 ≡ Untaken) → m ≡ k → Counts (IsUntakenBefore (i + 1)) m × (m ≤ i + 1)
  untaken_else i e k m l q c h is = let le : k ≤ i = c.1 in (subst (λ (z : ℕ). Counts (IsUntakenBefore (i + 1)) z) (sym is) (other_here i e l q k c.0 h), omega arith)

  pub untaken_all : (i k : ℕ) → take i marks ≡ marks → Counts (IsUntakenBefore i) k → Counts (λ o. Contains marks (o, Untaken)) k
  untaken_all i k is c = subst (λ (z : List (Obl P × Mark P N)). Counts (λ o. Contains z (o, Untaken)) k) is c
