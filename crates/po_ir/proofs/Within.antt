-- A way through a valid graph stays among its nodes.
use Rattle.std.proofs.Common.{◌≡◌, ℕ, zero, suc, ◌+◌, ◌-◌, ◌<◌, ◌≤◌, List, [], ◌∷◌, length, get_or, refl, ap, sym, ◌∙◌, subst, ◌⊎◌, inl, inr, arith}
use Rattle.std.specs.Prelude.{Option, Some, MatchOption, Contains, slice_get}
use Rattle.std.proofs.lemmas.List.Elements.{All-get_or}
use Rattle.std.proofs.lemmas.Option.{slice_get_within, slice_get-get_or}
use Rattle.po_lists.proofs.Members.{contains_none}
use Rattle.po_ir.specs.declared.graph.Node.{Node}
use Rattle.po_ir.specs.declared.graph.Graph.{Graph}
use Rattle.po_ir.specs.declared.instr.Instr.{Instr}
use Rattle.po_ir.specs.declared.instr.Instr.TheVariants.{If, Jump, Return, Never}
use Rattle.po_ir.specs.Instructions.{followers}
use Rattle.po_ir.specs.Paths.{NodeAt, start, step}
use Rattle.po_ir.specs.Valid.{AreTargets, Ends, NamesParts, EndsLast, IsValid, WaysStayWithin}

only : (a m : ℕ) → Contains (a ∷ []) m → a ≡ m
only a m (zero, l, is) = is
only a m (suc k, l, is) = absurd (omega arith)

either : (a b m : ℕ) → Contains (a ∷ (b ∷ [])) m → (a ≡ m) ⊎ (b ≡ m)
either a b m (zero, l, is) = inl is
either a b m (suc k, l, is) = inr (only b m (k, omega arith, is))

target_or_next : (i : Instr) (n m count : ℕ) → AreTargets count i → Contains (followers n i) m → (m < count) ⊎ ((n + 1 ≡ m) × (Ends i → ⊥))
target_or_next (If op ty a b true_side false_side) n m count t c =
    inl (elim (either true_side.0 false_side.0 m c) [ inl q ↦ subst (λ k. k < count) q t.0 | inr q ↦ subst (λ k. k < count) q t.1 ])
target_or_next (Jump next) n m count t c = inl (subst (λ k. k < count) (only next.0 m c) t)
target_or_next (Return value) n m count t c = absurd (contains_none m c)
target_or_next (Never reason) n m count t c = absurd (contains_none m c)
target_or_next _ n m count t c = inr (only (n + 1) m c, λ h. h)

some_node : (x y : Node) → Some x ≡ Some y → x ≡ y
some_node x y h = cc

last_ends : (nodes : List Node) (n : ℕ) (node : Node) → EndsLast nodes → slice_get nodes n ≡ Some node → (n + 1 < length nodes → ⊥) → Ends node.instr
last_ends nodes n node last here h =
    let below = slice_get_within nodes n node here in
    let at : n ≡ length nodes - 1 = elim (later n (length nodes) below) [ inl l ↦ absurd (h l) | inr e ↦ omega arith ] in
    subst (λ (o : Option Node). MatchOption o ⊥ (λ (x : Node). Ends x.instr)) (ap (slice_get nodes) (sym at) ∙ here) last
  where
    later : (k l : ℕ) → k < l → (k + 1 < l) ⊎ (k + 1 ≡ l)
    later zero zero h = absurd (omega arith)
    later zero (suc zero) h = inr refl
    later zero (suc (suc l)) h = inl (omega arith)
    later (suc k) zero h = absurd (omega arith)
    later (suc k) (suc l) h = elim (later k l (omega arith)) [ inl a ↦ inl (omega arith) | inr e ↦ inr (omega arith) ]

not_empty : (nodes : List Node) → EndsLast nodes → 0 < length nodes
not_empty [] h = absurd h
not_empty (n ∷ ns) h = omega arith

decide : (n l : ℕ) → (n < l) ⊎ (l ≤ n)
decide n zero = inr (omega arith)
decide zero (suc l) = inl (omega arith)
decide (suc n) (suc l) = elim (decide n l) [ inl h ↦ inl (omega arith) | inr h ↦ inr (omega arith) ]

follower_within : (g : Graph) (n m : ℕ) (i : Instr) → IsValid g → NodeAt g n i → Contains (followers n i) m → m < length g.nodes
follower_within g n m i valid at c =
    let node = at.0 in
    let below = slice_get_within g.nodes n node at.1 in
    let is : get_or g.nodes n node ≡ node = some_node (get_or g.nodes n node) node (sym (slice_get-get_or g.nodes n node below) ∙ at.1) in
    let named : NamesParts g i = subst (λ (x : Instr). NamesParts g x) (ap (λ (x : Node). x.instr) is ∙ at.2) (All-get_or (λ (x : Node). NamesParts g x.instr) g.nodes n node below valid.0) in
    elim (target_or_next i n m (length g.nodes) named.2 c) [
      | inl h ↦ h
      | inr next ↦ elim (decide (n + 1) (length g.nodes)) [
        | inl h ↦ subst (λ k. k < length g.nodes) next.0 h
        | inr h ↦ absurd (next.1 (subst (λ (x : Instr). Ends x) at.2 (last_ends g.nodes n node valid.1 at.1 (λ l. omega arith))))
      ]
    ]

pub within : WaysStayWithin
within g back n valid start = not_empty g.nodes valid.1
within g back n valid (step rest k m i way at c) = follower_within g k m i valid at c
