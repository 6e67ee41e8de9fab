-- The predicate of an obligation, and its verdict.
use Rattle.std.specs.Prelude.{ℕ, cond, Option, Some, None, length, slice_get}
use Rattle.po_ir.specs.declared.instr.Instr.{Instr}
use Rattle.po_ir.specs.declared.instr.Instr.TheVariants.{Call}
use Rattle.po_ir.specs.declared.graph.Node.{Node}
use Rattle.po_ir.specs.declared.project.Function.{Function}
use Rattle.po_ir.specs.declared.project.Project.{Project}
use Rattle.po_core.specs.declared.obl.Cause.{Cause}
use Rattle.po_core.specs.declared.obl.Cause.TheVariants.{Primary, Support}
use Rattle.po_core.specs.declared.obl.Obl.{Obl}
use Rattle.po_core.specs.declared.obl.Verdict.{Verdict}
use Rattle.po_core.specs.declared.obl.Verdict.TheVariants.{Closed, Delegated, Open}
use Rattle.po_pred.specs.declared.pred.Pred.{Pred}
use Rattle.po_pred.specs.Subst.{put_in}
use Rattle.po_app.specs.declared.rule.Rule.{Rule}
use Rattle.po_app.specs.declared.rule.Rule.TheVariants.{Range}
use Rattle.po_app.specs.Obligations.{predicates}
use Rattle.po_app.specs.Discharge.{is_closed}
use Rattle.po_app.specs.Delegation.{is_assumable, delegated}

-- at a call, what the called function may assume, with the arguments put in
abbrev pub supported : Instr → Pred → Option Pred
supported (Call to callee args strings) q = cond (is_assumable (length args) q) (Some (put_in q args)) None
supported _ q = None

abbrev pub caused : Option Node → Cause Pred → Option Pred
caused None cause = None
caused (Some node) (Primary i) = slice_get (predicates node.instr) i
caused (Some node) (Support q) = supported node.instr q

abbrev pub function_of : Project → Obl Pred → Option Function
function_of p o = slice_get p.functions o.fun.0

abbrev pub node_in : Option Function → ℕ → Option Node
node_in None n = None
node_in (Some f) n = slice_get f.graph.nodes n

abbrev pub node_of : Project → Obl Pred → Option Node
node_of p o = node_in (function_of p o) o.node.0

-- the predicate of an obligation: what its node's operation asks for at this place, or what supports an assumption
abbrev pub predicate_of : Project → Obl Pred → Option Pred
predicate_of p o = caused (node_of p o) o.cause

abbrev pub left : Option Pred → Verdict Pred Rule
left None = Open
left (Some q) = Delegated q

-- a predicate is closed by its ranges, or else delegated where it can be, or else open
abbrev pub verdict_on : ℕ → Pred → Verdict Pred Rule
verdict_on params q = cond (is_closed q) (Closed Range) (left (delegated params q))

abbrev pub judged : Option Function → Option Pred → Verdict Pred Rule
judged (Some f) (Some q) = verdict_on f.graph.params q
judged _ _ = Open

-- what isn't asked in the project is open
abbrev pub verdict_of : Project → Obl Pred → Verdict Pred Rule
verdict_of p o = judged (function_of p o) (predicate_of p o)
