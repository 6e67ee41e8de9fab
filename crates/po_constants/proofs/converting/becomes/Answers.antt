use Rattle.std.proofs.Common.{ap, of_z}
use Rattle.std.specs.Int.{w128}
use Rattle.std.proofs.lemmas.Int.{to_z-of_z}
use Rattle.po_constants.proofs.Results.{bool_zero, bool_one, finds_converted, is_zero}
use Rattle.po_constants.proofs.converting.becomes.Goals as goal

pub returns-then-v-eq0-clause-exact : goal.returns-then-v-eq0-clause-exact
returns-then-v-eq0-clause-exact c = bool_zero c.args.t c.args.v c.if-is_bool.ensures (is_zero c.args.v c.ranges.v c.if-v-eq0.true)

pub returns-else-v-eq0-clause-exact : goal.returns-else-v-eq0-clause-exact
returns-else-v-eq0-clause-exact c = bool_one c.args.t c.args.v c.if-is_bool.ensures (λ e. c.if-v-eq0.false (ap (of_z w128) e))

pub returns-clause-exact : goal.returns-clause-exact
returns-clause-exact c =
    let v = c.ranges.v in
    finds_converted c.args.t c.args.v c.kept.result c.if-is_bool.ensures (simp to_z-of_z at c.kept.ensures.exact)
