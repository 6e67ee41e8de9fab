-- What a conversion does, by the forms of the types.
use Rattle.std.specs.Prelude.{ℕ, ◌≡◌, Option}
use Rattle.std.proofs.Common.{refl, ap, sym, ◌∙◌}
use Rattle.po_base.specs.declared.operand.Opnd.{Opnd}
use Rattle.po_types.specs.declared.ctype.CType.{CType, out-CType}
use Rattle.po_types.specs.declared.ctype.CType.TheOpen.{CType-F}
use Rattle.po_lowering.specs.Typed.{Typed}
use Rattle.po_lowering.specs.Conversions.{Change, change, change_between}

change_by_form : (f : Typed) (from to : CType) (v : Opnd) → change f from to v ≡ change_between f (out-CType from) (out-CType to) v
unfolding change
change_by_form f from to v = refl

pub change_is : (f : Typed) (from to : CType) (v : Opnd) (form : CType-F CType) (m : Change) → out-CType from ≡ form → m ≡ change_between f form (out-CType to) v → m ≡ change f from to v
change_is f from to v form m q h = h ∙ ap (λ z. change_between f z (out-CType to) v) (sym q) ∙ sym (change_by_form f from to v)

-- an array is converted as a pointer to its elements
pub same_address : (f : Typed) (s : CType) (n : Option ℕ) (to : CType-F CType) (v : Opnd) → change_between f (CType-F.Ptr s) to v ≡ change_between f (CType-F.Array s n) to v
same_address f s n CType-F.Void v = refl
same_address f s n (CType-F.Int t) v = refl
same_address f s n (CType-F.Ptr t) v = refl
same_address f s n (CType-F.Array t m) v = refl
same_address f s n (CType-F.Struct m) v = refl
same_address f s n (CType-F.Fun t params more) v = refl
