use Rattle.std.proofs.Common.{ap, arith, length}
use Rattle.po_straight.proofs.Placing.{popped}
use Rattle.po_straight.proofs.Signing.{names_signed, signed_push, signed_long}
use Rattle.po_straight.proofs.scope.Functions.insert.Goals as goal

pub insert-requires : goal.insert-requires
insert-requires c =
    omega (arith, signed_long c.self.inside.names c.self.inside.counts c.self.invariant, ap length c.self.view_is, c.requires)

pub returns-in-Ok-true : goal.returns-in-Ok-true
returns-in-Ok-true c =
    let added = rw c.in-Ok-true.field-0-test at c.in-Ok-true.ensures.added in (
      rw (← c.self.view_is, added.0, c.in_ok-push.ensures.ok) (signed_push c.self.inside.names c.self.inside.counts c.args.name c.args.count c.self.invariant),
      rw (← c.self.view_is, names_signed c.self.inside.names c.self.inside.counts c.self.invariant) added.1,
    )

pub returns-in-Ok-false : goal.returns-in-Ok-false
returns-in-Ok-false c =
    let added = rw c.in-Ok-false.field-0-test at c.in-Ok-false.ensures.added in (
      rw (added.0, popped c.self.inside.counts c.push.new.self c.pop.new.self c.args.count c.pop.result c.in_ok-push.ensures.ok c.pop.ensures) c.self.view_is,
      rw (← c.self.view_is, names_signed c.self.inside.names c.self.inside.counts c.self.invariant) added.1,
    )
