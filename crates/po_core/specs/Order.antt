-- The order in which a report lists.
use Rattle.std.specs.Ordering.{nat_cmp, ordering_then}
use Rattle.std.specs.declared.cmp.Ordering.{Ordering}
use Rattle.std.specs.declared.cmp.Ordering.TheVariants.{Less, Greater}
use Rattle.po_base.specs.declared.numbers.FunNo.{FunNo}
use Rattle.po_core.specs.declared.obl.Cause.{Cause}
use Rattle.po_core.specs.declared.obl.Cause.TheVariants.{Primary, Support}
use Rattle.po_core.specs.declared.obl.Obl.{Obl}

-- `by` compares predicates.
module _ {P : Type 0} (by : P → P → Ordering) where
  -- what a function asks by itself comes before what supports a call, the first by place, the second by predicate
  abbrev pub cause_cmp : Cause P → Cause P → Ordering
  cause_cmp (Primary i) (Primary j) = nat_cmp i j
  cause_cmp (Primary i) (Support q) = Less
  cause_cmp (Support p) (Primary j) = Greater
  cause_cmp (Support p) (Support q) = by p q

  -- by function, then by node, then by cause
  abbrev pub obl_cmp : Obl P → Obl P → Ordering
  obl_cmp o p = ordering_then (nat_cmp o.fun.0 p.fun.0) (ordering_then (nat_cmp o.node.0 p.node.0) (cause_cmp o.cause p.cause))

  -- by function, then by predicate
  abbrev pub assumption_cmp : (FunNo × P) → (FunNo × P) → Ordering
  assumption_cmp x y = ordering_then (nat_cmp x.0.0 y.0.0) (by x.1 y.1)
