-- Facts on depth and on the structs that are named, one layer after the other.
use Rattle.std.specs.Prelude.{ℕ, suc, ◌≡◌, max, Bool, List, map, Option}
use Rattle.std.proofs.Common.{ap, sym, ◌∙◌}
use Rattle.po_types.specs.declared.ctype.CType.{CType, fold-roll-CType}
use Rattle.po_types.specs.declared.ctype.CType.TheVariants as c
use Rattle.po_types.specs.declared.ctype.CType.TheOpen.{CType-F}
use Rattle.po_types.specs.Nesting.{depth, levels, structs_below, names_below, greatest}

pub depth_Ptr : (t : CType) → depth (c.Ptr t) ≡ suc (depth t)
unfolding depth
depth_Ptr t = ap depth (sym (c.rolls-Ptr t)) ∙ fold-roll-CType _ levels (CType-F.Ptr t)

pub depth_Array : (t : CType) (n : Option ℕ) → depth (c.Array t n) ≡ suc (depth t)
unfolding depth
depth_Array t n = ap depth (sym (c.rolls-Array t n)) ∙ fold-roll-CType _ levels (CType-F.Array t n)

pub depth_Struct : (n : ℕ) → depth (c.Struct n) ≡ 0
unfolding depth
depth_Struct n = ap depth (sym (c.rolls-Struct n)) ∙ fold-roll-CType _ levels (CType-F.Struct n)

pub depth_Fun : (t : CType) (params : List CType) (more : Bool) → depth (c.Fun t params more) ≡ suc (max (depth t) (greatest (map depth params)))
unfolding depth
depth_Fun t params more = ap depth (sym (c.rolls-Fun t params more)) ∙ fold-roll-CType _ levels (CType-F.Fun t params more)

pub below_Ptr : (t : CType) → structs_below (c.Ptr t) ≡ structs_below t
unfolding structs_below
below_Ptr t = ap structs_below (sym (c.rolls-Ptr t)) ∙ fold-roll-CType _ names_below (CType-F.Ptr t)

pub below_Array : (t : CType) (n : Option ℕ) → structs_below (c.Array t n) ≡ structs_below t
unfolding structs_below
below_Array t n = ap structs_below (sym (c.rolls-Array t n)) ∙ fold-roll-CType _ names_below (CType-F.Array t n)

pub below_Struct : (n : ℕ) → structs_below (c.Struct n) ≡ suc n
unfolding structs_below
below_Struct n = ap structs_below (sym (c.rolls-Struct n)) ∙ fold-roll-CType _ names_below (CType-F.Struct n)

pub below_Fun : (t : CType) (params : List CType) (more : Bool) → structs_below (c.Fun t params more) ≡ max (structs_below t) (greatest (map structs_below params))
unfolding structs_below
below_Fun t params more = ap structs_below (sym (c.rolls-Fun t params more)) ∙ fold-roll-CType _ names_below (CType-F.Fun t params more)
