-- Where a `Boxed` keeps its value, so that a type may have a `Boxed` of itself for a field: contracts see the value, and
-- in memory it lies behind the pointer of the box inside.
use mathlib.Core.Path.{refl}
use mathlib.Core.Former.{Former, this, const, pair, via}
use base.Stored.{gnil}
use base.Fml.{ftrue}
use denote.RattleType.{RattleType}
use denote.Memory.{part_of}
use denote.RawPtr.{Ptr}
use denote.Sharing.{nothing}
use denote.HoleLaws.{Alike}
use denote.HolePlaces.{Recodes, struct_places, laid, one_value}
use denote.Hole.Fix.{over}
use denote.Param.Weighed.{Weighed}
use denote.Model.Placed.{view_places}
use Rattle.std.specs.declared.boxed.Box.{Box}
use Rattle.std.specs.contracts.boxed.Box as box
use Rattle.std.specs.declared.alloc.Global.{Global}
use Rattle.std.specs.contracts.alloc.Global as heap
use Rattle.std.specs.contracts.impls.GlobalAllocator.TheImpl.{ghosts}
use Rattle.po_base.specs.declared.boxed.Boxed.TheInside.{Inside}
use Rattle.po_base.specs.declared.boxed.Boxed.TheView.{view, invariant}
use Rattle.po_base.specs.contracts.boxed.Boxed as boxed
use Rattle.po_base.specs.contracts.boxed.Boxed.TheInside as inside

-- contracts see the value itself, and it weighs what the value weighs
abbrev pub the_former : Former {0} → Former {0}
the_former value = value

abbrev pub the_weighed : {value : Former {0}} → Weighed value → Weighed (the_former value)
the_weighed weighed = weighed

-- the struct's one field is a box: a pointer and the heap's handle, and the value
abbrev in_box : Former {0}
in_box = via (pair (const (Ptr × Global)) this) Inside (λ X within. ((within.inner.ptr, within.inner.alloc), within.inner.value))
    (λ X parts. record { inner = record { ptr = parts.0.0; alloc = parts.0.1; value = parts.1 } }) (λ X within. refl) (λ X parts. refl)

-- the same box with another value
abbrev with_value : {X Y : Type 0} → Box X Global → Y → Box Y Global
with_value old value = record { ptr = old.ptr; alloc = old.alloc; value = value }

-- boxes of a type, on the heap
abbrev box_of : RattleType → RattleType
box_of R = box.the_row R heap.the_row ghosts

-- boxes of two types whose values lie alike lie alike themselves, and their codes are those of the values
module _ (R S : RattleType) (over_value : R.Denot → S.Denot) where
  boxes_lie_alike : Alike R S over_value → Alike (box_of R) (box_of S) (λ b. with_value b (over_value b.value))
  unfolding part_of
  boxes_lie_alike alike = record {
    mir_same = λ i. (box_of (one_value R (alike.mir_same i) (λ _. ftrue) (λ _ _. nothing) gnil)).mir;
    own_same = λ b i. (box_of (one_value R (alike.mir_same i) (alike.own_same b.value i) (alike.shr_same b.value i) gnil)).own_val (with_value b tt);
    shr_same = λ b i. (box_of (one_value R (alike.mir_same i) (alike.own_same b.value i) (alike.shr_same b.value i) gnil)).shr_at (with_value b tt);
  }

  pub the_places : Alike R S over_value → Alike (boxed.the_row R) (boxed.the_row S) ((the_former this).map R.Denot S.Denot over_value)
  the_places alike = view_places in_box this view (λ X Y k u. refl) (λ X u. refl) R.Denot S.Denot over_value
      (boxed.the_row R).coded (boxed.the_row S).coded (invariant R.Denot) (invariant S.Denot)
      (λ u p q. refl) (λ u p q. refl) (λ u e. tt) (λ u e. tt) (over (inside.the_row R)) (over (inside.the_row S))
      (struct_places (inside.the_type R) (inside.the_type S) ((λ b. with_value b (over_value b.value)), tt) _ (λ d. refl) refl
      (laid _ _ _ (boxes_lie_alike alike), tt))

  pub the_codes_placed : Recodes R S over_value → Recodes (boxed.the_row R) (boxed.the_row S) ((the_former this).map R.Denot S.Denot over_value)
  the_codes_placed recodes value = recodes value
