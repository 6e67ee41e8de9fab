use Rattle.std.proofs.Common.{◌≡◌, ◌++◌, length}
use Rattle.std.specs.Vec.Iter.{into_iter_items, into_iter_len}
use Rattle.po_fun_heads.specs.Inside.{IsOfParameters, HidesNames}
use Rattle.po_fun_heads.proofs.scopes.hide_parameters.Given as goal

abbrev pub invariant-loop-param : goal.invariant-loop-param
invariant-loop-param l = record {
  taken : l.yielded ++ into_iter_items l.param-iterator ≡ l.fn.params;
  left : into_iter_len l.param-iterator ≡ length (into_iter_items l.param-iterator);
  same : l.hidden ≡ l.yielded;
  hides : HidesNames (IsOfParameters l.yielded) l.fn.names l.names;
}
