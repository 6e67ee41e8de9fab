use Rattle.std.proofs.Common.{take}
use Rattle.std.specs.Prelude.{All}
use Rattle.std.specs.List.{AllZip}
use Rattle.po_app.specs.Lowering.{IsFunction}
use Rattle.po_app.specs.Ranges.{IsSmallFunction}
use Rattle.po_app.proofs.lowering.project.Given as goal

abbrev pub invariant-loop-definition : goal.invariant-loop-definition
invariant-loop-definition l = record {
  functions : AllZip (IsFunction l.file) (take l.definition-index l.definition-items) l.functions;
  small : All IsSmallFunction l.functions;
}
