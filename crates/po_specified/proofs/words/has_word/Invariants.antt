use Rattle.std.proofs.Common.{◌≡◌, take}
use Rattle.std.specs.Prelude.{All}
use Rattle.po_tree.specs.declared.expression.Specifier.TheVariants as sp
use Rattle.po_specified.proofs.words.has_word.Given as goal

abbrev pub invariant-loop-specifier : goal.invariant-loop-specifier
invariant-loop-specifier l = All (λ s. s ≡ sp.Word l.word → ⊥) (take l.specifier-index l.specs)
