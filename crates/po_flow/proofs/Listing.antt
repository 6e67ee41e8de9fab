-- What waits, by the order.
use Rattle.std.proofs.Common.{◌≡◌, ℕ, ◌<◌, List, length, Bool, false, Option, Some, None, get_or, sym, ◌∙◌, subst, arith, inl, inr}
use Rattle.std.proofs.Math.ListN.{set, length-set}
use Rattle.std.specs.List.{slice_get}
use Rattle.std.specs.Option.{MatchOption}
use Rattle.std.proofs.lemmas.Bool.{cases_lt}
use Rattle.std.proofs.lemmas.List.{get_or_past}
use Rattle.std.proofs.lemmas.Option.{slice_get_within}
use Rattle.po_base.specs.declared.numbers.NodeNo.{NodeNo}
use Rattle.po_flow.specs.Waiting.{AreIdleBefore, AreWithin, IsIdleAt, IsListed, IsWaiting, NoneWaits}

module _ (nodes : List NodeNo) (places : List ℕ) (waiting : List Bool) (is : IsListed nodes places waiting) where
  pub set_listed : (n : ℕ) (waits : Bool) → IsListed nodes places (set waiting n waits)
  set_listed n waits = record { is_order = is.is_order; long = is.long ∙ sym (length-set waiting n waits) }

  pub nodes_within : AreWithin nodes (length waiting)
  nodes_within at n h = let l = (is.is_order.once at n h).0 in omega (arith, is.long)

  pub waits_within : (n : ℕ) → IsWaiting waiting n → n < length waiting
  waits_within n waits =
      elim (cases_lt n (length waiting)) [
        | inl lt ↦ lt
        | inr past ↦ let idle = get_or_past waiting n false past in absurd (cc)
      ]

  -- where no node that waits stands in the order, none waits
  pub none_left : AreIdleBefore nodes waiting (length nodes) → NoneWaits waiting
  none_left idle n =
      elim (cases_lt n (length waiting)) [
        | inl lt ↦
            let there = is.is_order.placed n (omega (arith, is.long)) in
            idle (get_or places n 0) (slice_get_within nodes (get_or places n 0) (record { 0 = n }) there) (record { 0 = n }) there
        | inr past ↦ get_or_past waiting n false past
      ]

-- what was found at a place where a node stands
pub found_at : (nodes : List NodeNo) (waiting : List Bool) (at : ℕ) (n : NodeNo) (found : Option NodeNo) → slice_get nodes at ≡ Some n → MatchOption found (get_or waiting n.0 false ≡ false) (λ m. (m ≡ n) × IsWaiting waiting n.0) → MatchOption found (IsIdleAt nodes waiting at) (λ m. IsWaiting waiting m.0)
found_at nodes waiting at n None here idle = λ m there. let e : Some m ≡ Some n = sym there ∙ here in let q : m ≡ n = cc in subst (λ k. get_or waiting k.0 false ≡ false) (sym q) idle
found_at nodes waiting at n (Some m) here h = subst (λ k. IsWaiting waiting k.0) (sym h.0) h.1

pub idle_past : (nodes : List NodeNo) (waiting : List Bool) (at : ℕ) → slice_get nodes at ≡ None → IsIdleAt nodes waiting at
idle_past nodes waiting at past m there = absurd (cc)
