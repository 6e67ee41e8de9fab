-- How many are in a set.
use Rattle.std.proofs.Common.{◌≡◌, ◌⊎◌, ℕ, suc, ◌+◌, ◌-◌, ◌<◌, ◌≤◌, List, [], ◌∷◌, length, set, replicate, refl, sym, ◌∙◌, ap, subst, inl, inr, arith}
use Rattle.std.specs.Prelude.{Option, Some, None, slice_get, ◌↔◌}
use Rattle.std.proofs.lemmas.Option.{slice_get_within}
use Rattle.std.specs.List.{Contains}
use Rattle.po_base.specs.declared.numbers.FileNo.{FileNo}
use Rattle.po_core.specs.Core.{AreApart}
use Rattle.po_lists.proofs.Members.{Has, has, contains}
use Rattle.po_core.specs.declared.event.Hand.{Hand}
use Rattle.po_ledger.specs.Calls.{Counts}
use Rattle.po_ledger.specs.Parts.{HandAt}
use Rattle.po_ledger.proofs.Queued.{held_cases, held_now, held_still, no_hand}
use Rattle.po_marks.proofs.InLine.{few_below, same_file, same_number}

module _ {X : Type 0} (Q R : X → Type 0) where
  pub counts_none : ((x : X) → ¬ Q x) → Counts Q 0
  counts_none none = ([], tt, λ x h. absurd (has [] x h), λ x h. absurd (none x h), refl)

  pub counts_same : (n : ℕ) → ((x : X) → Q x → R x) → ((x : X) → R x → Q x) → Counts Q n → Counts R n
  counts_same n up down c = (c.0, c.1, λ x h. up x (c.2 x h), λ x h. c.3 x (down x h), c.4)

  -- one more
  pub counts_more : (x : X) (n : ℕ) → Counts Q n → ¬ Q x → R x → ((y : X) → Q y → R y) → ((y : X) → R y → Q y ⊎ (y ≡ x)) → Counts R (n + 1)
  counts_more x n c other here up down = (
    x ∷ c.0,
    (λ h. other (c.2 x h), c.1),
    λ y h. elim (has (x ∷ c.0) y h) [ inl q ↦ subst R q here | inr k ↦ up y (c.2 y (contains c.0 y k)) ],
    λ y h. elim (down y h) [ inl k ↦ contains (x ∷ c.0) y (inr (has c.0 y (c.3 y k))) | inr q ↦ contains (x ∷ c.0) y (inl (sym q)) ],
    let long : length c.0 ≡ n = c.4 in omega arith,
  )

-- a list without one of its items
record Dropped {X : Type 0} (xs : List X) (x : X) : Type 0 where
  pub rest : List X
  pub apart : AreApart rest
  pub shorter : length xs ≡ suc (length rest)
  pub others : (y : X) → Has rest y ↔ (Has xs y × ¬ (y ≡ x))

dropped : {X : Type 0} (xs : List X) (x : X) → AreApart xs → Has xs x → Dropped xs x
dropped [] x a h = absurd h
dropped {X = X} (z ∷ zs) x a (inl q) = record {
  rest = zs;
  apart = a.1;
  shorter = refl;
  others = λ y. (
    λ h. (inr h, λ e. a.0 (contains zs z (subst (λ (w : X). Has zs w) (e ∙ sym q) h))),
    λ h. elim h.0 [ inl p ↦ absurd (h.1 (sym p ∙ q)) | inr k ↦ k ],
  );
}
dropped {X = X} (z ∷ zs) x a (inr h) =
    let r = dropped zs x a.1 h in
    let other : ¬ (z ≡ x) = λ e. a.0 (contains zs z (subst (λ (w : X). Has zs w) (sym e) h)) in
    record {
      rest = z ∷ r.rest;
      apart = (λ k. a.0 (contains zs z ((r.others z).0 (has r.rest z k)).0), r.apart);
      shorter = ap suc r.shorter;
      others = λ y. (
        λ k. elim k [ inl p ↦ (inl p, λ e. other (p ∙ e)) | inr w ↦ (let v = (r.others y).0 w in (inr v.0, v.1)) ],
        λ k. elim k.0 [ inl p ↦ inl p | inr w ↦ inr ((r.others y).1 (w, k.1)) ],
      );
    }

module _ {X : Type 0} (Q R : X → Type 0) where
  -- one less
  pub counts_less : (x : X) (n : ℕ) → Counts Q n → Q x → ((y : X) → R y ↔ (Q y × ¬ (y ≡ x))) → (m : ℕ) × Counts R m × (m + 1 ≡ n)
  counts_less x n c here same =
      let d = dropped c.0 x c.1 (has c.0 x (c.3 x here)) in
      let long : length c.0 ≡ n = c.4 in
      let short : length c.0 ≡ suc (length d.rest) = d.shorter in (
        length d.rest,
        (
          d.rest,
          d.apart,
          λ y h. let k = (d.others y).0 (has d.rest y h) in (same y).1 (c.2 y (contains c.0 y k.0), k.1),
          λ y h. let k = (same y).0 h in contains d.rest y ((d.others y).1 (has c.0 y (c.3 y k.0), k.1)),
          refl,
        ),
        omega (arith, long, short),
      )

-- there is one, where there is one
pub counts_some : {X : Type 0} (Q : X → Type 0) (n : ℕ) → Counts Q n → (0 < n) → (x : X) × Q x
counts_some Q n c l = some c.0 c.2 (let long : length c.0 ≡ n = c.4 in omega (arith, l, long))
  where
    some : (xs : List _) → ((x : _) → Contains xs x → Q x) → 0 < length xs → (x : _) × Q x
    some [] all l = absurd (omega arith)
    some (x ∷ xs) all l = (x, all x (contains (x ∷ xs) x (inl refl)))

pub some_counts : {X : Type 0} (Q : X → Type 0) (n : ℕ) → Counts Q n → (x : X) × Q x → 0 < n
some_counts Q n c h = let l = (c.3 h.0 h.1).1 in let long : length c.0 ≡ n = c.4 in omega (arith, l, long)

-- files that are held
module _ {P : Type 0} (hands later : List (Option (Hand P))) (file : FileNo) (n : ℕ) (c : Counts (HandAt hands) n) where
  pub held_more : (hand : Hand P) → ¬ HandAt hands file → file.0 < length hands → later ≡ set hands file.0 (Some hand) → Counts (HandAt later) (n + 1)
  held_more hand free within is =
      counts_more (HandAt hands) (HandAt later) file n c free
      (subst (λ (z : List (Option (Hand P))). HandAt z file) (sym is) (held_now hands file.0 hand file refl within))
      (λ f h. subst (λ (z : List (Option (Hand P))). HandAt z f) (sym is) (held_still hands file.0 (Some hand) f (λ q. free (subst (λ (z : FileNo). HandAt hands z) (same_file f file q) h)) h))
      (λ f h. elim (held_cases hands file.0 (Some hand) f (subst (λ (z : List (Option (Hand P))). HandAt z f) is h)) [ inl x ↦ inr (same_file f file x.0) | inr x ↦ inl x.1 ])

  pub held_less : HandAt hands file → later ≡ set hands file.0 None → (m : ℕ) × Counts (HandAt later) m × (m + 1 ≡ n)
  held_less held is = counts_less (HandAt hands) (HandAt later) file n c held (λ f. (
    λ h. elim (held_cases hands file.0 None f (subst (λ (z : List (Option (Hand P))). HandAt z f) is h)) [
      | inl x ↦ absurd (let none : ◌≡◌ {A = Option (Hand P)} None (Some x.1.0) = x.1.1 in cc)
      | inr x ↦ (x.1, λ q. x.0 (same_number f file q))
    ],
    λ h. subst (λ (z : List (Option (Hand P))). HandAt z f) (sym is) (held_still hands file.0 None f (λ q. h.1 (same_file f file q)) h.0),
  ))

  pub less_held : HandAt hands file → later ≡ set hands file.0 None → (m : ℕ) → m ≡ n - 1 → Counts (HandAt later) m
  less_held held is m q = let r = held_less held is in subst (λ (z : ℕ). Counts (HandAt later) z) (let w = r.2 in omega (arith, w, q)) r.1

  pub held_one : HandAt hands file → 1 ≤ n
  held_one h = let l = some_counts (HandAt hands) n c (file, h) in omega (arith, l)

  -- no more are held than there are
  pub held_below : n ≤ length hands
  held_below = let few = few_below c.0 (length hands) c.1 (λ f h. let x = c.2 f h in slice_get_within hands f.0 (Some x.0) x.1) in let long : length c.0 ≡ n = c.4 in omega (arith, few, long)

pub none_are_held : {P : Type 0} (hands : List (Option (Hand P))) (files : ℕ) → hands ≡ replicate files None → Counts (HandAt hands) 0
none_are_held {P} hands files is = counts_none (HandAt hands) (HandAt hands) (λ f h. no_hand files f.0 h.0 (ap (λ (z : List (Option (Hand P))). slice_get z f.0) (sym is) ∙ h.1))
