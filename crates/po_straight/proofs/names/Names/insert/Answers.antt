use Rattle.std.proofs.Common.{ap}
use Rattle.std.specs.Map.{lookup}
use Rattle.std.specs.BTreeMap.{is_at}
use Rattle.std.specs.Ordering.{nat_cmp}
use Rattle.std.specs.Cmp.Lexicographic.{slice_cmp}
use Rattle.po_straight.proofs.Placing.{placed_push, placed_same, popped}
use Rattle.po_straight.proofs.names.Names.insert.Goals as goal

pub invariant_of-self-in-Ok : goal.invariant_of-self-in-Ok
invariant_of-self-in-Ok c =
    placed_push _ _ _ (rw c.in_ok-share.ensures at c.in_ok-push.ensures.ok) _ _ _ c.len-at.ensures (rw (← c.self.view_is) at c.in-None.ensures) c.in-Ok.ensures.updates.0 c.self.invariant

pub invariant_of-self-in-Err : goal.invariant_of-self-in-Err
invariant_of-self-in-Err c =
    placed_same c.self.inside.names _ _ _ (popped _ _ _ _ _ c.in_ok-push.ensures.ok c.pop.ensures)
    (λ q. ap (λ es. lookup (is_at (slice_cmp nat_cmp q)) es) c.in-Err.ensures.err) c.self.invariant
