use Rattle.std.proofs.Common.{[], take}
use Rattle.po_tree.specs.Scope.{HasWord}
use Rattle.po_tree.specs.NameSets.{Adds}
use Rattle.po_tree.proofs.names.words.Given as goal

abbrev pub invariant-loop-part : goal.invariant-loop-part
invariant-loop-part l = Adds (HasWord (take l.part-index l.parts)) [] l.words
