-- The arguments of a call can be put into what a report lists there.
use Rattle.std.specs.Prelude.{List, All, Option, Some, None, MatchOption, length, slice_get}
use Rattle.po_base.specs.declared.numbers.NodeNo.{NodeNo}
use Rattle.po_ir.specs.declared.graph.Node.{Node}
use Rattle.po_ir.specs.declared.instr.Callee.TheVariants.{Fun}
use Rattle.po_ir.specs.declared.instr.Instr.{Instr}
use Rattle.po_ir.specs.declared.instr.Instr.TheVariants.{Call}
use Rattle.po_ir.specs.declared.project.Function.{Function}
use Rattle.po_ir.specs.declared.project.Project.{Project}
use Rattle.po_core.specs.declared.obl.Cause.{Cause}
use Rattle.po_core.specs.declared.obl.Cause.TheVariants.{Primary, Support}
use Rattle.po_core.specs.declared.obl.Obl.{Obl}
use Rattle.po_core.specs.declared.obl.Verdict.{Verdict}
use Rattle.po_pred.specs.declared.pred.Pred.{Pred}
use Rattle.po_pred.specs.declared.pred.Rule.{Rule}
use Rattle.po_ir.specs.Whole.{IsUnread}
use Rattle.po_pred.specs.Finite.{IsOver}
use Rattle.po_pred.specs.View.{places_of}
use Rattle.po_pred.specs.Subst.{IsOpenTo, IsCountedOperand}

-- the parameters of the predicate stand among the operands of the call, and all numbers are at most 2^64 in size
abbrev pub Takes : Instr → Pred → Type 0
Takes (Call to (Fun g) args strings) q = All (IsOpenTo (length args)) (places_of q) × All IsCountedOperand args
Takes _ q = Unit {0}

abbrev pub TakesAt : Option Node → Pred → Type 0
TakesAt None q = Unit {0}
TakesAt (Some node) q = Takes node.instr q

abbrev pub TakesIn : Option Function → NodeNo → Pred → Type 0
TakesIn None n q = Unit {0}
TakesIn (Some f) n q = TakesAt (slice_get f.graph.nodes n.0) q

abbrev pub TakesCause : Project → Obl Pred → Cause Pred → Type 0
TakesCause p o (Primary k) = Unit {0}
TakesCause p o (Support q) = TakesIn (slice_get p.functions o.fun.0) o.node q

-- all supporting obligations of the report are such
abbrev pub TakesAll : Project → List (Obl Pred × Verdict Pred Rule) → Type 0
TakesAll p lines = All (λ (line : Obl Pred × Verdict Pred Rule). TakesCause p line.0 line.0.cause) lines

-- ---- what a report of a project lists

-- a predicate that is supported is one on the parameters of the called function, whose body is read
abbrev pub SupportFits : Project → Instr → Pred → Type 0
SupportFits p (Call to (Fun g) args strings) q = MatchOption (slice_get p.functions g.0) ⊥ (λ (callee : Function). (IsUnread callee → ⊥) × IsOver callee.graph.params q)
SupportFits p i q = Unit {0}

abbrev pub SupportFitsAt : Project → Option Node → Pred → Type 0
SupportFitsAt p None q = Unit {0}
SupportFitsAt p (Some node) q = SupportFits p node.instr q

abbrev pub SupportFitsIn : Project → Option Function → NodeNo → Pred → Type 0
SupportFitsIn p None n q = Unit {0}
SupportFitsIn p (Some f) n q = SupportFitsAt p (slice_get f.graph.nodes n.0) q

abbrev pub CauseFits : Project → Obl Pred → Cause Pred → Type 0
CauseFits p o (Primary k) = Unit {0}
CauseFits p o (Support q) = SupportFitsIn p (slice_get p.functions o.fun.0) o.node q

-- each assumption that a report supports at a call is one on the parameters of the called function
abbrev pub SupportsFit : Project → List (Obl Pred × Verdict Pred Rule) → Type 0
SupportsFit p lines = All (λ (line : Obl Pred × Verdict Pred Rule). CauseFits p line.0 line.0.cause) lines
