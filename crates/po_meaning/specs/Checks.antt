-- The obligations at the node of a state's running frame, in the order in which they are checked.
use Rattle.std.specs.Prelude.{ℕ, ◌+◌, ◌<◌, ◌≡◌, ◌==◌, ◌&&◌, cond, ◌++◌, List, [], ◌∷◌, Option, Some, None, slice_get}
use Rattle.std.specs.List.{flat_map}
use Rattle.po_base.specs.declared.numbers.FunNo.{FunNo}
use Rattle.po_base.specs.declared.numbers.NodeNo.{NodeNo}
use Rattle.po_ir.specs.declared.graph.Node.{Node}
use Rattle.po_ir.specs.declared.instr.Callee.TheVariants.{Fun}
use Rattle.po_ir.specs.declared.instr.Instr.{Instr}
use Rattle.po_ir.specs.declared.instr.Instr.TheVariants.{Call}
use Rattle.po_ir.specs.declared.project.Function.{Function}
use Rattle.po_ir.specs.declared.project.Project.{Project}
use Rattle.po_core.specs.declared.obl.Cause.{Cause}
use Rattle.po_core.specs.declared.obl.Cause.TheVariants.{Primary, Support}
use Rattle.po_core.specs.declared.obl.Obl.{Obl}
use Rattle.po_core.specs.declared.obl.Verdict.{Verdict}
use Rattle.po_core.specs.declared.report.Report.{Report}
use Rattle.po_pred.specs.declared.pred.Pred.{Pred}
use Rattle.po_pred.specs.declared.pred.Rule.{Rule}
use Rattle.po_pred.specs.Subst.{put_in}
use Rattle.po_gen.specs.Asks.{Required}
use Rattle.po_gen.specs.Gen.{gen}
use Rattle.po_memory.specs.Holding.{Holds}
use Rattle.po_meaning.specs.States.{State}

-- an obligation with its predicate
abbrev pub Asked : Type 0
Asked = Obl Pred × Pred

abbrev pub obligation : FunNo → NodeNo → Cause Pred → Obl Pred
obligation f n cause = record { fun = f; node = n; cause = cause }

-- ---- the primary ones

-- the predicates with their places, which are counted from k on
abbrev pub numbered : FunNo → NodeNo → ℕ → List Pred → List Asked
numbered f n k [] = []
numbered f n k (q ∷ rest) = (obligation f n (Primary k), q) ∷ numbered f n (k + 1) rest

abbrev pub primaries : Required → Project → FunNo → NodeNo → List Asked
primaries required p f n = numbered f n 0 (gen required p f n)

-- ---- the supporting ones

-- what a called function assumes, with the arguments of the call at this instruction put in
abbrev pub supported_by : Instr → Pred → List Pred
supported_by (Call to (Fun g) args strings) q = put_in q args ∷ []
supported_by _ q = []

abbrev pub supported_at : Option Node → Pred → List Pred
supported_at None q = []
supported_at (Some node) q = supported_by node.instr q

abbrev pub supported_in : Option Function → NodeNo → Pred → List Pred
supported_in None n q = []
supported_in (Some f) n q = supported_at (slice_get f.graph.nodes n.0) q

abbrev pub with_obligation : Obl Pred → List Pred → List Asked
with_obligation o [] = []
with_obligation o (q ∷ rest) = (o, q) ∷ with_obligation o rest

abbrev pub asked_by : Project → Obl Pred → Cause Pred → List Asked
asked_by p o (Primary k) = []
asked_by p o (Support q) = with_obligation o (supported_in (slice_get p.functions o.fun.0) o.node q)

abbrev pub supports_in : Project → FunNo → NodeNo → (Obl Pred × Verdict Pred Rule) → List Asked
supports_in p f n line = cond (line.0.fun.0 == f.0 && line.0.node.0 == n.0) (asked_by p line.0 line.0.cause) []

-- those that the report lists at the node, in its order, which is that of predicates
abbrev pub supports : Project → Report Pred Rule → FunNo → NodeNo → List Asked
supports p r f n = flat_map (supports_in p f n) r.lines

-- ---- all, and how they are checked

-- the primary ones first, then the supporting ones
abbrev pub asked_at : Required → Project → Report Pred Rule → FunNo → NodeNo → List Asked
asked_at required p r f n = primaries required p f n ++ supports p r f n

abbrev pub asked : Required → Project → Report Pred Rule → State → List Asked
asked required p r s = asked_at required p r s.top.function s.top.node

-- all those before the place k hold
abbrev pub HoldBefore : Required → Project → Report Pred Rule → State → ℕ → Type 0
HoldBefore required p r s k = (j : ℕ) (a : Asked) → j < k → slice_get (asked required p r s) j ≡ Some a → Holds s.top s.memory a.1

abbrev pub AllHold : Required → Project → Report Pred Rule → State → Type 0
AllHold required p r s = (j : ℕ) (a : Asked) → slice_get (asked required p r s) j ≡ Some a → Holds s.top s.memory a.1

-- o is the first obligation in s that doesn't hold
pub record FirstViolated (required : Required) (p : Project) (r : Report Pred Rule) (s : State) (o : Obl Pred) : Type 0 where
  pub place : ℕ
  pub pred : Pred
  pub checked : slice_get (asked required p r s) place ≡ Some (o, pred)
  pub before : HoldBefore required p r s place
  pub fails : Holds s.top s.memory pred → ⊥
