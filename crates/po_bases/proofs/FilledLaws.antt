-- Filled bytes and facts of blocks are ordered, and their joins are the least upper bounds.
use Rattle.std.specs.Prelude.{◌≡◌, ℕ, ◌<◌, ◌^◌, min, nat_le, Bool, not, ◌&&◌, ◌||◌, List, [], ◌∷◌, ◌↔◌}
use Rattle.std.proofs.Common.{refl, sym, ap, ◌∙◌, subst, arith, inl, inr}
use Rattle.std.specs.declared.cmp.Ordering.{Ordering}
use Rattle.std.specs.declared.cmp.Ordering.TheVariants.{Less, Equal, Greater}
use Rattle.std.specs.Ordering.{nat_cmp, match_ordering, MatchOrdering}
use Rattle.std.proofs.lemmas.Cmp.{ranked}
use Rattle.std.proofs.lemmas.Map.Lookups.{exact_unsigned}
use Rattle.po_bases.specs.General.{IsJoin, alone, surely, surely_tells, le_tells, at_least, pairs, along, renamed, reordered}
use Rattle.std.specs.Cmp.{nat_cmp_total}
use Rattle.po_base.specs.declared.numbers.NodeNo.{NodeNo}
use Rattle.std.specs.Bool.{Decides}
use Rattle.std.proofs.lemmas.Bool.Decides.{Decides-and}
use Rattle.po_bases.specs.Maps.{by_order, maps}
use Rattle.po_bases.proofs.BasesLaws.{lesser_is}
use Rattle.po_bases.specs.Filled.{IsAmong, IsBelowAll, IsAscending, IsFilled, FilledBelow, common, common_with, join_filled, has_all, filled_within, IsFact, FactBelow, join_facts, fact_within, node_of, IsHeapEntry, HeapEntryBelow, join_heap_entries, IsHeap, HeapBelow, join_heap}
use Rattle.po_bases.specs.declared.filled.Filled.{Filled}
use Rattle.po_bases.specs.declared.filled.Filled.TheVariants.{All, Bytes}
use Rattle.po_bases.specs.declared.heap_fact.HeapFact.{HeapFact}

-- what an answer says
is_ranked : (x y : ℕ) (o : Ordering) → nat_cmp x y ≡ o → MatchOrdering o (x < y) (x ≡ y) (y < x)
is_ranked x y o h = subst (λ v. MatchOrdering v (x < y) (x ≡ y) (y < x)) h (ranked x y (nat_cmp x y) refl)

pub when_less : (x y : ℕ) → nat_cmp x y ≡ Less → x < y
when_less x y h = is_ranked x y Less h

when_greater : (x y : ℕ) → nat_cmp x y ≡ Greater → y < x
when_greater x y h = is_ranked x y Greater h

-- ---- the bytes of both

abbrev AreCommon : List ℕ → List ℕ → List ℕ → Type 0
AreCommon xs ys zs = (b : ℕ) → IsAmong b zs ↔ (IsAmong b xs × IsAmong b ys)

not_before : (x y : ℕ) (ys : List ℕ) → x < y → IsBelowAll y ys → IsAmong x (y ∷ ys) → ⊥
not_before x y ys less below (inl same) = omega arith
not_before x y ys less below (inr later) = let h : y < x = below x later in omega arith

common_here : (x : ℕ) (xs : List ℕ) (rest : List ℕ → List ℕ) → IsBelowAll x xs → ((ys : List ℕ) → IsAscending ys → AreCommon xs ys (rest ys)) →
    (ys : List ℕ) → IsAscending ys → AreCommon (x ∷ xs) ys (common_with x rest ys)
common_here x xs rest ax in_rest [] ay = λ b. (λ h. absurd h, λ h. absurd h.1)
common_here x xs rest ax in_rest (y ∷ ys) ay =
    by_order (AreCommon (x ∷ xs) (y ∷ ys)) (nat_cmp x y) _ _ _
    (λ h b. (λ z. let k = (in_rest (y ∷ ys) ay b).0 z in (inr k.0, k.1), λ k. less (when_less x y h) b k.0 k.1))
    (λ h b. (λ z. equal_in (exact_unsigned x y h) b z, λ k. equal (exact_unsigned x y h) b k.0 k.1))
    (λ h b. (λ z. let k = (common_here x xs rest ax in_rest ys ay.1 b).0 z in (k.0, inr k.1), λ k. greater (common_here x xs rest ax in_rest ys ay.1) (when_greater x y h) b k.0 k.1)) where
      less : x < y → (b : ℕ) → IsAmong b (x ∷ xs) → IsAmong b (y ∷ ys) → IsAmong b (rest (y ∷ ys))
      less h b (inl same) k = absurd (not_before x y ys h ay.0 (subst (λ v. IsAmong v (y ∷ ys)) (sym same) k))
      less h b (inr later) k = (in_rest (y ∷ ys) ay b).1 (later, k)

      equal_in : x ≡ y → (b : ℕ) → IsAmong b (x ∷ rest ys) → IsAmong b (x ∷ xs) × IsAmong b (y ∷ ys)
      equal_in h b (inl same) = (inl same, inl (sym h ∙ same))
      equal_in h b (inr later) = let k = (in_rest ys ay.1 b).0 later in (inr k.0, inr k.1)

      equal : x ≡ y → (b : ℕ) → IsAmong b (x ∷ xs) → IsAmong b (y ∷ ys) → IsAmong b (x ∷ rest ys)
      equal h b (inl same) k = inl same
      equal h b (inr later) (inl same) = inl (h ∙ same)
      equal h b (inr later) (inr k) = inr ((in_rest ys ay.1 b).1 (later, k))

      greater : AreCommon (x ∷ xs) ys (common_with x rest ys) → y < x → (b : ℕ) → IsAmong b (x ∷ xs) → IsAmong b (y ∷ ys) → IsAmong b (common_with x rest ys)
      greater deeper h b k (inl same) = absurd (not_before y x xs h ax (subst (λ v. IsAmong v (x ∷ xs)) (sym same) k))
      greater deeper h b k (inr later) = (deeper b).1 (k, later)

pub commons : (xs ys : List ℕ) → IsAscending xs → IsAscending ys → AreCommon xs ys (common xs ys)
commons [] ys ax ay = λ b. (λ h. absurd h, λ h. absurd h.0)
commons (x ∷ xs) ys ax ay = common_here x xs (common xs) ax.0 (λ zs az. commons xs zs ax.1 az) ys ay

-- an item that is below all of one list is below all that it has in common with another
ascending_here : (x : ℕ) (xs : List ℕ) → IsBelowAll x xs → ((ys : List ℕ) → IsAscending ys → AreCommon xs ys (common xs ys)) →
    ((ys : List ℕ) → IsAscending ys → IsAscending (common xs ys)) → (ys : List ℕ) → IsAscending ys → IsAscending (common_with x (common xs) ys)
ascending_here x xs ax in_rest ascends [] ay = tt
ascending_here x xs ax in_rest ascends (y ∷ ys) ay =
    by_order IsAscending (nat_cmp x y) _ _ _
    (λ h. ascends (y ∷ ys) ay)
    (λ h. (λ b k. ax b ((in_rest ys ay.1 b).0 k).0, ascends ys ay.1))
    (λ h. ascending_here x xs ax in_rest ascends ys ay.1)

common_ascends : (xs ys : List ℕ) → IsAscending xs → IsAscending ys → IsAscending (common xs ys)
common_ascends [] ys ax ay = tt
common_ascends (x ∷ xs) ys ax ay = ascending_here x xs ax.0 (λ zs az. commons xs zs ax.1 az) (λ zs az. common_ascends xs zs ax.1 az) ys ay

-- ---- ascending lists of the same bytes are the same

first_same : (x y : ℕ) (xs ys : List ℕ) → IsBelowAll x xs → IsBelowAll y ys → IsAmong x (y ∷ ys) → IsAmong y (x ∷ xs) → x ≡ y
first_same x y xs ys ax ay (inl same) k = sym same
first_same x y xs ys ax ay (inr later) (inl same) = same
first_same x y xs ys ax ay (inr later) (inr k) =
    let h1 : y < x = ay x later in
    let h2 : x < y = ax y k in
    omega arith

rest_among : (x y : ℕ) (xs ys : List ℕ) → x ≡ y → IsBelowAll x xs → (b : ℕ) → IsAmong b xs → IsAmong b (y ∷ ys) → IsAmong b ys
rest_among x y xs ys same ax b h (inl here) = let k : x < b = ax b h in absurd (omega arith)
rest_among x y xs ys same ax b h (inr later) = later

same_bytes : (xs ys : List ℕ) → IsAscending xs → IsAscending ys → ((b : ℕ) → IsAmong b xs → IsAmong b ys) → ((b : ℕ) → IsAmong b ys → IsAmong b xs) → xs ≡ ys
same_bytes [] [] ax ay h k = refl
same_bytes [] (y ∷ ys) ax ay h k = absurd (k y (inl refl))
same_bytes (x ∷ xs) [] ax ay h k = absurd (h x (inl refl))
same_bytes (x ∷ xs) (y ∷ ys) ax ay h k =
    let first = first_same x y xs ys ax.0 ay.0 (h x (inl refl)) (k y (inl refl)) in
    let rest = same_bytes xs ys ax.1 ay.1 (λ b m. rest_among x y xs ys first ax.0 b m (h b (inr m))) (λ b m. rest_among y x ys xs (sym first) ay.0 b m (k b (inr m))) in
    λ i. first i ∷ rest i

-- ---- filled bytes

pub filled_join : IsJoin IsFilled FilledBelow join_filled
filled_join = record { stays = stays; itself = λ x px b h. h; through = λ x y z px py pz h k b m. h b (k b m); apart = apart; left = left; right = right; least = least } where
  stays : (x y : Filled) → IsFilled x → IsFilled y → IsFilled (join_filled x y)
  stays All y px py = py
  stays (Bytes xs) All px py = px
  stays (Bytes xs) (Bytes ys) px py = (common_ascends xs ys px.0 py.0, λ b h. px.1 b ((commons xs ys px.0 py.0 b).0 h).0)

  apart : (x y : Filled) → IsFilled x → IsFilled y → FilledBelow x y → FilledBelow y x → x ≡ y
  apart All All px py h k = refl
  apart All (Bytes ys) px py h k = let m : 4096 < 4096 = py.1 4096 (k 4096 tt) in absurd (omega arith)
  apart (Bytes xs) All px py h k = let m : 4096 < 4096 = px.1 4096 (h 4096 tt) in absurd (omega arith)
  apart (Bytes xs) (Bytes ys) px py h k = ap Bytes (same_bytes xs ys px.0 py.0 k h)

  left : (x y : Filled) → IsFilled x → IsFilled y → FilledBelow x (join_filled x y)
  left All y px py b h = tt
  left (Bytes xs) All px py b h = h
  left (Bytes xs) (Bytes ys) px py b h = ((commons xs ys px.0 py.0 b).0 h).0

  right : (x y : Filled) → IsFilled x → IsFilled y → FilledBelow y (join_filled x y)
  right All y px py b h = h
  right (Bytes xs) All px py b h = tt
  right (Bytes xs) (Bytes ys) px py b h = ((commons xs ys px.0 py.0 b).0 h).1

  least : (x y z : Filled) → IsFilled x → IsFilled y → IsFilled z → FilledBelow x z → FilledBelow y z → FilledBelow (join_filled x y) z
  least All y z px py pz h k b m = k b m
  least (Bytes xs) All z px py pz h k b m = h b m
  least (Bytes xs) (Bytes ys) z px py pz h k b m = (commons xs ys px.0 py.0 b).1 (h b m, k b m)

lesser_fits : (x y : ℕ) → x < 2 ^ 64 → y < 2 ^ 64 → min x y < 2 ^ 64
lesser_fits x y px py = lesser_is (λ n. n < 2 ^ 64) x y px py

pub facts_join : IsJoin IsFact FactBelow join_facts
facts_join =
    reordered (renamed
    (along (λ (f : HeapFact). (f.alive, (f.size, f.filled))) (λ p. record { alive = p.0; size = p.1.0; filled = p.1.1 }) (λ f. refl) (λ p. refl)
    (pairs surely (pairs (at_least (λ n. n < 2 ^ 64) lesser_fits) filled_join)))
    IsFact (λ f. (λ h. h.1, λ h. (tt, h))))
    FactBelow (λ x y px py. (λ h. h, λ h. h))

-- ---- heaps

node_at : (n : NodeNo) (k : ℕ) → (n ≡ record { 0 = k }) ↔ (n.0 ≡ k)
node_at n k = (λ h. ap (λ (m : NodeNo). m.0) h, λ h i. record { 0 = h i })

pub heap_entries : (k : ℕ) → IsJoin (λ e. (node_of e ≡ k) × IsHeapEntry e) HeapEntryBelow join_heap_entries
heap_entries k =
    reordered (renamed (pairs (alone (record { 0 = k })) facts_join) (λ e. (node_of e ≡ k) × IsHeapEntry e)
    (λ e. (λ h. ((node_at e.0 k).0 h.0, h.1), λ h. ((node_at e.0 k).1 h.0, h.1))))
    HeapEntryBelow (λ x y px py. (λ h. h.1, λ h. (tt, h)))

pub heaps_join : IsJoin IsHeap HeapBelow join_heap
heaps_join = maps node_of nat_cmp nat_cmp_total exact_unsigned HeapEntryBelow join_heap_entries (λ x y. refl) IsHeapEntry heap_entries

-- ---- the tests tell the orders

HasAll : List ℕ → List ℕ → Type 0
HasAll xs ys = (b : ℕ) → IsAmong b ys → IsAmong b xs

skipped_all : (x y : ℕ) (xs ys : List ℕ) → x < y → IsBelowAll y ys → HasAll (x ∷ xs) (y ∷ ys) → HasAll xs (y ∷ ys)
unfolding HasAll
skipped_all x y xs ys less ay all b k = skipped (all b k) where
  skipped : IsAmong b (x ∷ xs) → IsAmong b xs
  skipped (inl same) = absurd (not_before x y ys less ay (subst (λ v. IsAmong v (y ∷ ys)) (sym same) k))
  skipped (inr later) = later

same_all : (x y : ℕ) (xs ys : List ℕ) → x ≡ y → HasAll xs ys → HasAll (x ∷ xs) (y ∷ ys)
unfolding HasAll
same_all x y xs ys same all b (inl here) = inl (same ∙ here)
same_all x y xs ys same all b (inr later) = inr (all b later)

rest_all : (x y : ℕ) (xs ys : List ℕ) → x ≡ y → IsBelowAll y ys → HasAll (x ∷ xs) (y ∷ ys) → HasAll xs ys
unfolding HasAll
rest_all x y xs ys same ay all b k = rest_among y x ys xs (sym same) ay b k (all b (inr k))

decided : (o : Ordering) (P : Type 0) (f g h : Bool) → (o ≡ Less → Decides f P) → (o ≡ Equal → Decides g P) → (o ≡ Greater → Decides h P) → Decides (match_ordering o f g h) P
decided Less P f g h less equal greater = less refl
decided Equal P f g h less equal greater = equal refl
decided Greater P f g h less equal greater = greater refl

tells_all : (xs ys : List ℕ) → IsAscending xs → IsAscending ys → Decides (has_all xs ys) (HasAll xs ys)
unfolding HasAll
tells_all [] [] ax ay = (λ h b k. k, λ h. refl)
tells_all [] (y ∷ ys) ax ay = (λ h. cc, λ h. absurd (h y (inl refl)))
tells_all (x ∷ xs) [] ax ay = (λ h b k. absurd k, λ h. refl)
tells_all (x ∷ xs) (y ∷ ys) ax ay =
    decided (nat_cmp x y) (HasAll (x ∷ xs) (y ∷ ys)) _ _ _
    (λ h. let later = tells_all xs (y ∷ ys) ax.1 ay in (λ t b k. inr (later.0 t b k), λ all. later.1 (skipped_all x y xs ys (when_less x y h) ay.0 all)))
    (λ h. let later = tells_all xs ys ax.1 ay.1 in
    (λ t. same_all x y xs ys (exact_unsigned x y h) (later.0 t), λ all. later.1 (rest_all x y xs ys (exact_unsigned x y h) ay.0 all)))
    (λ h. (λ no_test. cc, λ all. absurd (not_before y x xs (when_greater x y h) ax.0 (all y (inl refl)))))

pub filled_tells : (f g : Filled) → IsFilled f → IsFilled g → Decides (filled_within f g) (FilledBelow f g)
unfolding HasAll
filled_tells All g pf pg = (λ h b k. tt, λ h. refl)
filled_tells (Bytes xs) All pf pg = (λ h. cc, λ h. let m : 4096 < 4096 = pf.1 4096 (h 4096 tt) in absurd (omega arith))
filled_tells (Bytes xs) (Bytes ys) pf pg = tells_all xs ys pf.0 pg.0

pub fact_tells : (f g : HeapFact) → IsFact f → IsFact g → Decides (fact_within f g) (FactBelow f g)
fact_tells f g pf pg =
    let parts = Decides-and ((f.alive || not g.alive) && nat_le g.size f.size) (filled_within f.filled g.filled)
    (Decides-and (f.alive || not g.alive) (nat_le g.size f.size) (surely_tells f.alive g.alive) (le_tells g.size f.size)) (filled_tells f.filled g.filled pf.1 pg.1) in
    (λ t. let p = parts.0 t in (p.0.0, (p.0.1, p.1)), λ b. parts.1 ((b.0, b.1.0), b.1.1))
