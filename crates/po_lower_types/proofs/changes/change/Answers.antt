use Rattle.std.proofs.Common.{refl, ap, sym, ◌∙◌}
use Rattle.po_types.specs.declared.ctype.CType.{out-CType}
use Rattle.po_types.specs.declared.ctype.CType.TheOpen.{CType-F}
use Rattle.po_types.proofs.TypesLaws.{out_Void, out_Int, out_Ptr, out_Array, out_Struct, out_Fun}
use Rattle.po_lower_types.proofs.Changing.{change_is, same_address}
use Rattle.po_lower_types.proofs.changes.change.Goals as goal

pub returns-in-Void : goal.returns-in-Void
returns-in-Void c = λ f m. change_is f c.args.from.now c.args.to.now c.args.v CType-F.Void _ (ap out-CType c.in-Void.is ∙ out_Void) refl

pub returns-in-Int : goal.returns-in-Int
returns-in-Int c = λ f m. change_is f c.args.from.now c.args.to.now c.args.v (CType-F.Int c.in-Int.s) _ (ap out-CType c.in-Int.is ∙ out_Int c.in-Int.s) (c.from_integer.ensures f)

pub returns-in-Ptr : goal.returns-in-Ptr
returns-in-Ptr c = λ f m.
    change_is f c.args.from.now c.args.to.now c.args.v (CType-F.Ptr c.get.result.now) _ (ap out-CType c.in-Ptr.is ∙ out_Ptr c.in-Ptr.s ∙ ap CType-F.Ptr (sym c.get.ensures)) (c.from_address.ensures f m)

pub returns-in-Array : goal.returns-in-Array
returns-in-Array c = λ f m.
    let n = c.in-Array.field-1 in
    let s = c.get-in-Array.result.now in
    change_is f c.args.from.now c.args.to.now c.args.v (CType-F.Array s n) _
    (ap out-CType c.in-Array.is ∙ out_Array c.in-Array.s n ∙ ap (λ z. CType-F.Array z n) (sym c.get-in-Array.ensures))
    (c.from_address-in-Array.ensures f m ∙ same_address f s n (out-CType c.args.to.now) c.args.v)

pub returns-in-Struct : goal.returns-in-Struct
returns-in-Struct c = λ f m. change_is f c.args.from.now c.args.to.now c.args.v (CType-F.Struct c.in-Struct.field-0) _ (ap out-CType c.in-Struct.is ∙ out_Struct c.in-Struct.field-0) refl

pub returns-in-Fun : goal.returns-in-Fun
returns-in-Fun c = λ f m.
    change_is f c.args.from.now c.args.to.now c.args.v (CType-F.Fun c.in-Fun.field-0 c.in-Fun.field-1 c.in-Fun.field-2) _
    (ap out-CType c.in-Fun.is ∙ out_Fun c.in-Fun.field-0 c.in-Fun.field-1 c.in-Fun.field-2) refl
