use Rattle.std.proofs.Common.{ap, arith, length}
use Rattle.std.proofs.lemmas.Option.{slice_get_within}
use Rattle.po_straight.proofs.Signing.{names_signed, signed_at}
use Rattle.po_straight.proofs.scope.Functions.find.Goals as goal

pub returns-in_default : goal.returns-in_default
returns-in_default c = rw (← c.self.view_is, names_signed c.self.inside.names c.self.inside.counts c.self.invariant) c.in_default.ensures

pub bounds-as_slice-place : goal.bounds-as_slice-place
bounds-as_slice-place c =
    omega (arith, ap length c.as_slice.ensures, c.self.invariant, slice_get_within c.self.inside.names c.in-Some.place c.args.name.now c.in-Some.ensures)

pub returns : goal.returns
returns c =
    rw (← c.self.view_is, c.as_slice.ensures) (signed_at c.self.inside.names c.self.inside.counts c.in-Some.place c.args.name.now c.self.invariant c.in-Some.ensures)
