-- What a conversion does.
use Rattle.po_base.specs.declared.operand.Opnd.{Opnd}
use Rattle.po_types.specs.declared.ctype.CType.{CType, out-CType}
use Rattle.po_types.specs.declared.ctype.CType.TheOpen.{CType-F}
use Rattle.po_lowering.specs.Typed.{Typed}
use Rattle.po_lowering.specs.Conversions.{Change, nothing, comparison, conversion, change_between}
use Rattle.po_lower_types.specs.declared.changes.Conversion.{Conversion}
use Rattle.po_lower_types.specs.declared.changes.Conversion.TheVariants as con

-- what it means
abbrev pub told : Conversion → Change
told con.Nothing = nothing
told (con.Comparison ty) = comparison ty
told (con.Conv ty align) = conversion ty align

-- from a pointer to the type, or an array of it
abbrev pub from_address : Typed → CType → CType → Opnd → Change
from_address f s to v = change_between f (CType-F.Ptr s) (out-CType to) v
