-- Members lie in one way at most.
use Rattle.std.proofs.Common.{arith, refl, sym, ap, ◌∙◌, subst, ◌≡◌, ◌≤◌, ◌+◌, ℕ, List, ◌∷◌}
use Rattle.po_types.specs.declared.layout.Extent.{Extent}
use Rattle.po_types.specs.declared.layout.Layout.{Layout}
use Rattle.po_types.specs.Layouts.{IsNext, Lie, no_more, member, IsLayout}

next_below : (align n m k : ℕ) → IsNext align n m → IsNext align n k → m ≤ k
next_below align n m k p q = rw q.multiple (p.least q.times (rw (sym q.multiple) q.behind))

pub one_next : (align n m k : ℕ) → IsNext align n m → IsNext align n k → m ≡ k
one_next align n m k p q = let a = next_below align n m k p q in let b = next_below align n k m q p in omega (arith, a, b)

lie_along : (x : Extent) (xs : List Extent) (offsets : List ℕ) (end m k : ℕ) → m ≡ k → Lie (m + x.size) xs offsets end → Lie (k + x.size) xs offsets end
lie_along x xs offsets end m k q l = subst (λ o. Lie (o + x.size) xs offsets end) q l

pub one_lie : {at : ℕ} {xs : List Extent} {offsets others : List ℕ} {end fin : ℕ} → Lie at xs offsets end → Lie at xs others fin → (offsets ≡ others) × (end ≡ fin)
one_lie (no_more end) (no_more _) = (refl, refl)
one_lie (member at o end x xs offsets n l) (member _ p fin _ _ others m k) =
    let q = one_next x.align at o p n m in
    let r = one_lie (lie_along x xs offsets end o p q l) k in
    (ap (λ z. z ∷ offsets) q ∙ ap (λ zs. p ∷ zs) r.0, r.1)

layout_along : (align m k n o : ℕ) → m ≡ k → IsNext align m n → IsNext align k o → n ≡ o
layout_along align m k n o q a b = one_next align k n o (subst (λ z. IsNext align z n) q a) b

pub one_layout : (members : List Extent) (a b : Layout) → IsLayout members a → IsLayout members b → a ≡ b
one_layout members a b p q =
    let l = one_lie p.lie q.lie in
    let align : a.align ≡ b.align = p.greatest ∙ sym q.greatest in
    let size : a.size ≡ b.size = layout_along b.align p.end q.end a.size b.size l.1 (subst (λ z. IsNext z p.end a.size) align p.size) q.size in
    λ i. record { size = size i; align = align i; offsets = l.0 i }
