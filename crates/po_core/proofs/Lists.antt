-- Lists as sets: membership, and how many items stand apart.
use Rattle.std.proofs.Common.{◌≡◌, ◌⊎◌, suc, ◌≤◌, List, [], ◌∷◌, length, refl, sym, ◌∙◌, ap, subst, inl, inr, arith}
use Rattle.po_core.specs.Core.{AreApart}
use Rattle.po_lists.proofs.Members.{Has, contains}

-- a list without one of its items
record Without {X : Type 0} (ys : List X) (x : X) : Type 0 where
  pub rest : List X
  pub shorter : length ys ≡ suc (length rest)
  pub others : (y : X) → Has ys y → (y ≡ x) ⊎ Has rest y

without : {X : Type 0} (ys : List X) (x : X) → Has ys x → Without ys x
without [] x h = absurd h
without (z ∷ zs) x (inl q) = record { rest = zs; shorter = refl; others = λ y h. elim h [ inl e ↦ inl (sym e ∙ q) | inr e ↦ inr e ] }
without (z ∷ zs) x (inr h) =
    let w = without zs x h in
    record { rest = z ∷ w.rest; shorter = ap suc w.shorter; others = λ y k. elim k [ inl e ↦ inr (inl e) | inr e ↦ elim (w.others y e) [ inl d ↦ inl d | inr d ↦ inr (inr d) ] ] }

-- items that stand apart, all of them among others, are no more than those
pub apart_within : {X : Type 0} (xs ys : List X) → AreApart xs → ((x : X) → Has xs x → Has ys x) → length xs ≤ length ys
apart_within [] ys a h = omega arith
apart_within {X = X} (x ∷ xs) ys a h =
    let w = without ys x (h x (inl refl)) in
    let rec : length xs ≤ length w.rest = apart_within xs w.rest a.1 (λ y k. elim (w.others y (h y (inr k))) [ inl e ↦ absurd (a.0 (contains xs x (subst (λ (z : X). Has xs z) e k))) | inr e ↦ e ]) in
    let short : length ys ≡ suc (length w.rest) = w.shorter in
    omega arith
