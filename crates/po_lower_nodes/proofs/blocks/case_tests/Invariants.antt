use Rattle.std.proofs.Common.{take, length}
use Rattle.po_lower_nodes.specs.Groups.{AddsRow}
use Rattle.po_lower_nodes.proofs.Groups.{tests_of}
use Rattle.po_lower_nodes.proofs.blocks.case_tests.Given as goal

abbrev pub invariant-loop-case : goal.invariant-loop-case
invariant-loop-case l = AddsRow l.initial.d l.d (λ g. tests_of (length l.initial.d.nodes) l.ty l.v l.spot g (take l.case-index l.cases))
