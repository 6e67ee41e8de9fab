-- What following an edge does, by what was read on the way.
use Rattle.std.proofs.Common.{◌≡◌, ℕ, ◌+◌, ◌≤◌, ◌<◌, List, length, true, false, Some, get_or, sym, ◌∙◌, ap, subst, arith, inl, below_more}
use Rattle.std.proofs.Math.ListN.{set}
use Rattle.std.specs.List.{Contains, slice_get}
use Rattle.std.proofs.lemmas.List.{get_or_default}
use Rattle.std.proofs.lemmas.List.Elements.{Contains-get_or}
use Rattle.std.proofs.lemmas.Option.{get_or_from_slice_get}
use Rattle.po_base.specs.declared.numbers.NodeNo.{NodeNo}
use Rattle.po_flow.specs.Counting.{counted_on}
use Rattle.po_flow.specs.Flows.{Flows, HasEdge, IsLawful}
use Rattle.po_flow.specs.Least.{state}
use Rattle.po_flow.specs.Working.{HoldsOrWaits, IsWork, Rises}
use Rattle.po_flow.specs.declared.work.Work.{Work}
use Rattle.po_flow.proofs.Rising.{followed, raised, stays}

module _ {S : Type 0} (f : Flows S) (proper : S → Type 0) (law : IsLawful f proper) where
  state_is : (t : List S) (n : ℕ) (s : S) → slice_get t n ≡ Some s → state f t n ≡ s
  state_is t n s h = get_or_from_slice_get t n s f.least h

  pub m_within : (n m : NodeNo) (size : ℕ) → HasEdge f n m → size ≡ f.size → m.0 < size
  m_within n m size edge q = let l = law.within n m edge in omega arith

  module _ (a : Work S) (n m : NodeNo) (moved s_n s_m : S) (at_n : slice_get a.table n.0 ≡ Some s_n) (at_m : slice_get a.table m.0 ≡ Some s_m) (is_moved : moved ≡ f.moved n m s_n) where
    pub held : true ≡ f.below moved s_m → HoldsOrWaits f a n m
    held below = inl (ap (λ s. f.below (f.moved n m s) (state f a.table m.0)) (state_is a.table n.0 s_n at_n) ∙ ap (λ s. f.below s (state f a.table m.0)) (sym is_moved) ∙ ap (f.below moved) (state_is a.table m.0 s_m at_m) ∙ sym below)

    module _ (b : Work S) (s_j risen : S) (at_j : slice_get a.table m.0 ≡ Some s_j) (is : IsWork f proper a) (edge : HasEdge f n m) (not_below : false ≡ f.below moved s_m) (is_risen : risen ≡ f.joined s_j moved) (table_is : b.table ≡ set a.table m.0 risen) (rises_are : b.rises ≡ set a.rises m.0 (counted_on (get_or a.rises m.0 0) 1)) (list_is : b.list ≡ set a.list m.0 true) where
      moved_is : moved ≡ f.moved n m (state f a.table n.0)
      moved_is = is_moved ∙ ap (f.moved n m) (sym (state_is a.table n.0 s_n at_n))

      above : f.below moved (state f a.table m.0) ≡ false
      above = ap (f.below moved) (state_is a.table m.0 s_m at_m) ∙ sym not_below

      risen_is : risen ≡ f.joined (state f a.table m.0) moved
      risen_is = is_risen ∙ ap (λ s. f.joined s moved) (sym (state_is a.table m.0 s_j at_j))

      pub raises : Rises f proper a b
      raises = raised f proper law a b n m moved risen is edge moved_is above risen_is table_is rises_are list_is

      pub raises_edge : HoldsOrWaits f b n m
      raises_edge = followed f proper law a b n m moved risen is edge moved_is above risen_is table_is rises_are list_is

  module _ (n : NodeNo) (xs : List NodeNo) (there : n.0 < f.size) (nexts : xs ≡ f.nexts n) where
    pub has_edge : (i : ℕ) (d : NodeNo) → i < length xs → HasEdge f n (get_or xs i d)
    has_edge i d lt = (there, subst (λ ys. Contains ys (get_or xs i d)) nexts (Contains-get_or xs i d lt))

    -- the edges to the first nexts hold or n waits, and to one more
    pub one_more_edge : (a b : Work S) (i : ℕ) (d : NodeNo) → i < length xs → ((k : ℕ) → k < i → HoldsOrWaits f a n (get_or xs k n)) → Rises f proper a b → HoldsOrWaits f b n (get_or xs i d) → (k : ℕ) → k < i + 1 → HoldsOrWaits f b n (get_or xs k n)
    one_more_edge a b i d lt before r here =
        below_more (λ k. HoldsOrWaits f b n (get_or xs k n)) i
        (λ k l. stays f proper law a b n (get_or xs k n) r (has_edge k n (omega arith)) (before k l))
        (subst (λ m. HoldsOrWaits f b n m) (get_or_default xs i d n lt) here)

    pub all_edges : (b : Work S) (i : ℕ) → length xs ≤ i → ((k : ℕ) → k < i → HoldsOrWaits f b n (get_or xs k n)) → (m : NodeNo) → Contains xs m → HoldsOrWaits f b n m
    all_edges b i le edges m h = subst (λ k. HoldsOrWaits f b n k) (get_or_default xs h.0 n m h.1 ∙ h.2) (edges h.0 (let l = h.1 in omega arith))
