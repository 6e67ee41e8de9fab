-- A library that is asked for the starts of heap blocks alone.
use Rattle.std.specs.Prelude.{map}
use Rattle.po_base.specs.declared.operand.Opnd.{Opnd}
use Rattle.po_pred.specs.declared.pred.Pred.{Pred}
use Rattle.po_pred.specs.declared.pred.Pred.TheVariants.{HeapStart}
use Rattle.po_gen.specs.Asks.{Required, place}

abbrev pub start_asked : Opnd → Pred
start_asked a = HeapStart (place a)

-- each operand starts a heap block
abbrev pub starts_asked : Required
starts_asked lib args strings = map start_asked args
