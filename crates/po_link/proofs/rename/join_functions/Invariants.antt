use Rattle.std.proofs.Common.{◌≡◌, ◌++◌, length, map}
use Rattle.std.specs.Vec.Iter.{into_iter_items, into_iter_len}
use Rattle.po_link.specs.Joined.{Naming, joined_function}
use Rattle.po_link.specs.Scoped.{IsScope}
use Rattle.po_link.proofs.rename.join_functions.Given as goal

abbrev pub invariant-loop-function : goal.invariant-loop-function
invariant-loop-function l = record {
  taken : l.yielded ++ into_iter_items l.function-iterator ≡ into_iter_items l.initial.function-iterator;
  left : into_iter_len l.function-iterator ≡ length (into_iter_items l.function-iterator);
  made : (names : Naming) → IsScope l.scope names → l.all ≡ l.fn.all ++ map (joined_function names l.file.0) l.yielded;
}
