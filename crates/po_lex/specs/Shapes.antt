-- Each answer that `pieces` gives in place of the pieces, with its cause; want of memory has none.
use Rattle.std.specs.Prelude.{List}
use Rattle.po_base.specs.declared.token.Token.{Token}
use Rattle.po_lex.specs.Pieces.{IsMisshapen}
use Rattle.po_lex.specs.declared.shape.ShapeFail.{ShapeFail}
use Rattle.po_lex.specs.declared.shape.ShapeFail.TheVariants as f

abbrev pub IsCaused : List Token → ShapeFail → Type 0
IsCaused tokens (f.Shape line) = IsMisshapen tokens line
IsCaused tokens f.Memory = Unit {0}
