use Rattle.std.proofs.Common.{sym}
use Rattle.po_constants.proofs.ConstantTypes.{no_number, chosen}
use Rattle.po_constants.proofs.numbers.number.Goals as goal

pub returns-in_err-value-clause-exact : goal.returns-in_err-value-clause-exact
returns-in_err-value-clause-exact c =
    let great = rw c.in_err-value.was at c.in_ok-integer.ensures.value.0 in
    rw c.from_residual-in_err-value.ensures (no_number c.args.target c.args.text.now great)

pub returns-clause-of_type : goal.returns-clause-of_type
returns-clause-of_type c = chosen c.args.target c.in_ok-suffix.suffix.unsigned c.in_ok-integer.integer.decimal c.in_ok-suffix.suffix.longs c.in_ok-value.value c.in_ok-t.t (sym c.in_ok-t.ensures)
