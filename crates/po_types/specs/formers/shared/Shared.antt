-- Where a `Shared` keeps its value, so that a type may have a `Shared` of itself for a field: contracts see the value, and
-- in memory it lies behind the pointer of the `Arc` inside.
use mathlib.Core.Path.{refl}
use mathlib.Core.Former.{Former, this, const, pair, via}
use base.Stored.{gnil}
use base.Fml.{ftrue}
use denote.RattleType.{RattleType}
use denote.Memory.{part_of}
use denote.RawPtr.{Ptr}
use denote.Sharing.{nothing}
use denote.HoleLaws.{Alike}
use denote.HolePlaces.{Recodes, struct_places, laid, one_value}
use denote.Hole.Fix.{over}
use denote.Param.Weighed.{Weighed}
use denote.Model.Placed.{view_places}
use Rattle.std.specs.declared.sync.Arc.{Arc}
use Rattle.std.specs.contracts.sync.Arc as arc
use Rattle.std.specs.declared.alloc.Global.{Global}
use Rattle.std.specs.contracts.alloc.Global as heap
use Rattle.std.specs.contracts.impls.GlobalAllocator.TheImpl.{ghosts}
use Rattle.po_types.specs.declared.shared.Shared.TheInside.{Inside}
use Rattle.po_types.specs.declared.shared.Shared.TheView.{view, invariant}
use Rattle.po_types.specs.contracts.shared.Shared as shared
use Rattle.po_types.specs.contracts.shared.Shared.TheInside as inside

-- contracts see the value itself, and it weighs what the value weighs
abbrev pub the_former : Former {0} → Former {0}
the_former value = value

abbrev pub the_weighed : {value : Former {0}} → Weighed value → Weighed (the_former value)
the_weighed weighed = weighed

-- the struct's one field is an `Arc`: a pointer, and the value
abbrev in_arc : Former {0}
in_arc = via (pair (const Ptr) this) Inside (λ X within. (within.inner.ptr, within.inner.value))
    (λ X parts. record { inner = record { ptr = parts.0; value = parts.1 } }) (λ X within. refl) (λ X parts. refl)

-- the same owner with another value
abbrev with_value : {X Y : Type 0} → Arc X Global → Y → Arc Y Global
with_value old value = record { ptr = old.ptr; value = value }

-- owners of values of a type, on the heap
abbrev arc_of : RattleType → RattleType
arc_of R = arc.the_row R heap.the_row ghosts

-- owners of two types of values that lie alike lie alike themselves, and their codes are those of the values
module _ (R S : RattleType) (over_value : R.Denot → S.Denot) where
  owners_lie_alike : Alike R S over_value → Alike (arc_of R) (arc_of S) (λ b. with_value b (over_value b.value))
  unfolding part_of
  owners_lie_alike alike = record {
    mir_same = λ i. (arc_of (one_value R (alike.mir_same i) (λ _. ftrue) (λ _ _. nothing) gnil)).mir;
    own_same = λ b i. (arc_of (one_value R (alike.mir_same i) (alike.own_same b.value i) (alike.shr_same b.value i) gnil)).own_val (with_value b tt);
    shr_same = λ b i. (arc_of (one_value R (alike.mir_same i) (alike.own_same b.value i) (alike.shr_same b.value i) gnil)).shr_at (with_value b tt);
  }

  pub the_places : Alike R S over_value → Alike (shared.the_row R) (shared.the_row S) ((the_former this).map R.Denot S.Denot over_value)
  the_places alike = view_places in_arc this view (λ X Y k u. refl) (λ X u. refl) R.Denot S.Denot over_value
      (shared.the_row R).coded (shared.the_row S).coded (invariant R.Denot) (invariant S.Denot)
      (λ u p q. refl) (λ u p q. refl) (λ u e. tt) (λ u e. tt) (over (inside.the_row R)) (over (inside.the_row S))
      (struct_places (inside.the_type R) (inside.the_type S) ((λ b. with_value b (over_value b.value)), tt) _ (λ d. refl) refl
      (laid _ _ _ (owners_lie_alike alike), tt))

  pub the_codes_placed : Recodes R S over_value → Recodes (shared.the_row R) (shared.the_row S) ((the_former this).map R.Denot S.Denot over_value)
  the_codes_placed recodes value = recodes value
