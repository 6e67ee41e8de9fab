-- The types of the rows of the table of type words.
use Rattle.po_arith.specs.declared.target.Target.{Target}
use Rattle.po_types.specs.declared.ctype.CType.{CType}
use Rattle.po_types.specs.declared.ctype.CType.TheVariants as c
use Rattle.po_types.specs.Integers.{long_type, size_type}
use Rattle.po_specified.specs.declared.word_types.RowType.{RowType}
use Rattle.po_specified.specs.declared.word_types.RowType.TheVariants as r

abbrev pub row_type : Target → RowType → CType
row_type target r.Void = c.Void
row_type target (r.Int t) = c.Int t
row_type target r.Long = c.Int (long_type target)
row_type target r.UnsignedLong = c.Int (size_type target)
