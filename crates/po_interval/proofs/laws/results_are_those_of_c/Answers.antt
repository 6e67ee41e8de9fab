use Rattle.std.proofs.Common.{◌^◌}
use Rattle.std.proofs.lemmas.Nat.{pow_pos}
use Rattle.po_arith.proofs.Wrapped.{rest_is_congruent}
use Rattle.po_interval.proofs.Covers.{modulo_of_type}
use Rattle.po_interval.proofs.laws.results_are_those_of_c.Goals as goal

pub returns : goal.returns
returns c = λ t v is kind. (modulo_of_type t v kind, rest_is_congruent v (2 ^ t.bits) (pow_pos t.bits))
