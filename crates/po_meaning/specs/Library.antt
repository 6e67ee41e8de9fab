-- What is to be known of the C library.
use Rattle.std.specs.Prelude.{List}
use Rattle.po_base.specs.declared.numbers.LibNo.{LibNo}
use Rattle.po_ir.specs.Whole.{Signature}
use Rattle.po_memory.specs.declared.block.Block.{Block}
use Rattle.po_memory.specs.declared.value.Value.{Value}
use Rattle.po_gen.specs.Asks.{Required}
use Rattle.po_meaning.specs.declared.state.Ending.{Ending}

-- what a call of a library function on these values and blocks may end as, and with which blocks
abbrev pub Outcomes : Type 1
Outcomes = LibNo → List Value → List Block → Ending → List Block → Type 0

-- its functions by number, what a call of each asks, and what it may do
pub record Library : Type 1 where
  pub signatures : List Signature
  pub required : Required
  pub outcomes : Outcomes
