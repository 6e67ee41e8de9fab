-- Where a `List` keeps its items, so that a type may have a `List` of itself for a field: a list of items is a list of
-- the values in its places, and a list of other values lies in memory as the vector inside it does.
use mathlib.Core.Path.{◌≡◌, refl, sym}
use mathlib.Core.List.{List, []}
use mathlib.Core.Former.{Former, this, list, via, children}
use base.Stored.{code_map}
use denote.RattleType.{RattleType}
use denote.HoleLaws.{Alike}
use denote.HolePlaces.{Recodes, struct_places, laid}
use denote.Hole.Carrier.{listed, list-listed}
use denote.Hole.Fix.{over}
use denote.Param.Weighed.{Weighed, w_list}
use denote.Model.Placed.{view_places}
use Rattle.std.specs.formers.vec.Vec as vector
use Rattle.std.specs.declared.alloc.Global.{Global}
use Rattle.std.specs.contracts.alloc.Global as heap
use Rattle.std.specs.contracts.impls.GlobalAllocator.TheImpl.{ghosts}
use Rattle.po_base.specs.declared.list.List.TheInside.{Inside}
use Rattle.po_base.specs.declared.list.List.TheView.{view, invariant}
use Rattle.po_base.specs.contracts.list.List as item_list
use Rattle.po_base.specs.contracts.list.List.TheInside as inside

-- contracts see a list; what it weighs is what its items weigh; and one list has no items at all
abbrev pub the_former : Former {0} → Former {0}
the_former item = list item

abbrev pub the_weighed : {item : Former {0}} → Weighed item → Weighed (the_former item)
the_weighed weighed = w_list weighed

pub the_empty : List ⊥
the_empty = []

-- the values in the places of a list are its items, in their order
abbrev pub the_items : (X : Type 0) → List X → List X
the_items X items = items

pub the_items_listed : (X : Type 0) (items : List X) → listed _ (children (the_former this) X items) ≡ the_items X items
the_items_listed X items = list-listed X items

-- the struct's one field is a vector on the heap
abbrev in_vector : Former {0}
in_vector =
    via (vector.the_former this Global) Inside (λ X within. within.items) (λ X items. record { items = items }) (λ X within. refl) (λ X items. refl)

-- lists of two types whose items lie alike lie alike themselves, and their codes go over item by item
module _ (R S : RattleType) (over_items : R.Denot → S.Denot) where
  pub the_places : Alike R S over_items → Alike (item_list.the_row R) (item_list.the_row S) ((the_former this).map R.Denot S.Denot over_items)
  the_places alike = view_places in_vector (list this) view (λ X Y k u. refl) (λ X u. refl) R.Denot S.Denot over_items
      (item_list.the_row R).coded (item_list.the_row S).coded (invariant R.Denot) (invariant S.Denot)
      (λ u p q. refl) (λ u p q. refl) (λ u e. tt) (λ u e. tt) (over (inside.the_row R)) (over (inside.the_row S))
      (struct_places (inside.the_type R) (inside.the_type S) (vector.mapped over_items, tt) _ (λ d. refl) refl
      (laid _ _ _ (vector.the_places heap.the_row ghosts R S over_items alike), tt))

  pub the_codes_placed : Recodes R S over_items → Recodes (item_list.the_row R) (item_list.the_row S) ((the_former this).map R.Denot S.Denot over_items)
  the_codes_placed recodes items = sym (code_map R.coded.code S.coded.code over_items (λ item. sym (recodes item)) items)
