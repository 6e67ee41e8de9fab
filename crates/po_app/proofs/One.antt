-- Definitions have one project, a project one report, and so one text.
use Rattle.std.proofs.Common.{◌≡◌, ℕ, ◌+◌, List, [], ◌∷◌, ◌++◌, map, length, replicate, Some, false, pos, codes, ap, sym, ◌∙◌, refl, subst}
use Rattle.std.specs.List.{AllZip}
use Rattle.po_base.specs.declared.operators.Op.{Op}
use Rattle.po_base.specs.declared.operand.Opnd.{Opnd}
use Rattle.po_base.specs.declared.operand.Opnd.TheVariants.{Num}
use Rattle.po_ir.specs.declared.instr.Callee.TheVariants.{Fun}
use Rattle.po_ir.specs.declared.instr.Instr.TheVariants.{Bin, Call, Return}
use Rattle.po_ir.specs.declared.graph.Node.{Node}
use Rattle.po_ir.specs.declared.graph.Graph.{Graph}
use Rattle.po_ir.specs.declared.project.Function.{Function}
use Rattle.po_ir.specs.declared.project.Project.{Project}
use Rattle.po_straight.specs.declared.expression.Expression.{Expression, fold-Expression, fold-roll-Expression}
use Rattle.po_straight.specs.declared.expression.Expression.TheVariants as e
use Rattle.po_straight.specs.declared.expression.Expression.TheOpen.{Expression-F}
use Rattle.po_straight.specs.declared.definition.Definition.{Definition}
use Rattle.po_core.proofs.Single.{one_least_report}
use Rattle.po_core.specs.declared.report.Report.{Report}
use Rattle.po_pred.specs.declared.pred.Pred.{Pred}
use Rattle.po_pred.specs.Order.{pred_cmp}
use Rattle.po_pred.specs.OrderLaws.{pred_total}
use Rattle.po_app.specs.declared.rule.Rule.{Rule}
use Rattle.po_app.specs.declared.status.Status.{Status}
use Rattle.po_app.specs.Lowering.{Lowers, parameter, constant, paren, binary, call, LowersAll, none, more, node_at, register, int, parameter_register, temporary_register, IsGraph, IsFunction, IsProject}
use Rattle.po_app.specs.Book.{book}
use Rattle.po_app.specs.Closed.{IsReport}
use Rattle.po_app.specs.ReportText.{report_text}
use Rattle.po_app.specs.Outcome.{status_of, IsReported}

-- the nodes and the value of both operands, and then the operator's
joined : List ℕ → ℕ → Op → ℕ → ℕ → List Node × Opnd → List Node × Opnd → List Node × Opnd
joined file params op line taken a b =
    let k = params + (taken + (length a.0 + length b.0)) in
    (a.0 ++ (b.0 ++ node_at file line (Bin (record { 0 = k }) op int a.1 b.1) ∷ []), register k)

-- the nodes and the values of the arguments, and then the call's
called : List ℕ → ℕ → ℕ → ℕ → ℕ → List Node × List Opnd → List Node × Opnd
called file params f line taken a =
    let k = params + (taken + length a.0) in
    (a.0 ++ node_at file line (Call (Some (record { 0 = k })) (Fun (record { 0 = f })) a.1 []) ∷ [], register k)

-- one more expression before others
before : List Node × Opnd → List Node × List Opnd → List Node × List Opnd
before a b = (a.0 ++ b.0, a.1 ∷ b.1)

in_turn : List (ℕ → List Node × Opnd) → ℕ → List Node × List Opnd
in_turn [] taken = ([], [])
in_turn (x ∷ xs) taken = before (x taken) (in_turn xs (taken + length (x taken).0))

layer : List ℕ → ℕ → Expression-F (ℕ → List Node × Opnd) → ℕ → List Node × Opnd
layer file params (Expression-F.Parameter n) = λ taken. ([], register n)
layer file params (Expression-F.Constant value) = λ taken. ([], Num (pos value))
layer file params (Expression-F.Paren x) = x
layer file params (Expression-F.Call f line xs) = λ taken. called file params f line taken (in_turn xs taken)
layer file params (Expression-F.Binary op line x y) = λ taken. joined file params op line taken (x taken) (y (taken + length (x taken).0))

-- what an expression becomes after so many temporaries
lowering_of : List ℕ → ℕ → Expression → ℕ → List Node × Opnd
lowering_of file params = fold-Expression (ℕ → List Node × Opnd) (layer file params)

module _ (file : List ℕ) (params : ℕ) where
  at_parameter : (n k : ℕ) → lowering_of file params (e.Parameter n) k ≡ ([], register n)
  unfolding lowering_of layer
  at_parameter n k = ap (λ y. lowering_of file params y k) (sym (e.rolls-Parameter n)) ∙ ap (λ g. g k) (fold-roll-Expression _ (layer file params) (Expression-F.Parameter n))

  at_constant : (value k : ℕ) → lowering_of file params (e.Constant value) k ≡ ([], Num (pos value))
  unfolding lowering_of layer
  at_constant value k = ap (λ y. lowering_of file params y k) (sym (e.rolls-Constant value)) ∙ ap (λ g. g k) (fold-roll-Expression _ (layer file params) (Expression-F.Constant value))

  at_paren : (y : Expression) (k : ℕ) → lowering_of file params (e.Paren y) k ≡ lowering_of file params y k
  unfolding lowering_of layer
  at_paren y k = ap (λ z. lowering_of file params z k) (sym (e.rolls-Paren y)) ∙ ap (λ g. g k) (fold-roll-Expression _ (layer file params) (Expression-F.Paren y))

  at_call : (f line : ℕ) (xs : List Expression) (k : ℕ) → lowering_of file params (e.Call f line xs) k ≡ called file params f line k (in_turn (map (lowering_of file params) xs) k)
  unfolding lowering_of layer
  at_call f line xs k = ap (λ z. lowering_of file params z k) (sym (e.rolls-Call f line xs)) ∙ ap (λ g. g k) (fold-roll-Expression _ (layer file params) (Expression-F.Call f line xs))

  at_binary : (op : Op) (line : ℕ) (y z : Expression) (k : ℕ) →
      lowering_of file params (e.Binary op line y z) k ≡ joined file params op line k (lowering_of file params y k) (lowering_of file params z (k + length (lowering_of file params y k).0))
  unfolding lowering_of layer
  at_binary op line y z k = ap (λ q. lowering_of file params q k) (sym (e.rolls-Binary op line y z)) ∙ ap (λ g. g k) (fold-roll-Expression _ (layer file params) (Expression-F.Binary op line y z))

  joined_at : (op : Op) (line k : ℕ) (ms ns : List Node) (v w : Opnd) →
      joined file params op line k (ms, v) (ns, w) ≡
      (ms ++ (ns ++ node_at file line (Bin (record { 0 = params + (k + (length ms + length ns)) }) op int v w) ∷ []), register (params + (k + (length ms + length ns))))
  unfolding joined
  joined_at op line k ms ns v w = refl

  called_at : (f line k : ℕ) (ns : List Node) (vs : List Opnd) →
      called file params f line k (ns, vs) ≡ (ns ++ node_at file line (Call (Some (record { 0 = params + (k + length ns) })) (Fun (record { 0 = f })) vs []) ∷ [], register (params + (k + length ns)))
  unfolding called
  called_at f line k ns vs = refl

  none_in_turn : (k : ℕ) → in_turn [] k ≡ ([], [])
  unfolding in_turn
  none_in_turn k = refl

  more_in_turn : (x : ℕ → List Node × Opnd) (xs : List (ℕ → List Node × Opnd)) (k : ℕ) (ms ns : List Node) (v : Opnd) (vs : List Opnd) →
      x k ≡ (ms, v) → in_turn xs (k + length ms) ≡ (ns, vs) → in_turn (x ∷ xs) k ≡ (ms ++ ns, v ∷ vs)
  unfolding in_turn before
  more_in_turn x xs k ms ns v vs h rest = ap (λ a. before a (in_turn xs (k + length a.0))) h ∙ ap (λ b. before (ms, v) b) rest

  mutual
    known : (x : Expression) (taken : ℕ) (nodes : List Node) (v : Opnd) → Lowers file params x taken nodes v → lowering_of file params x taken ≡ (nodes, v)
    known x taken nodes v (parameter n k) = at_parameter n k
    known x taken nodes v (constant value k) = at_constant value k
    known x taken nodes v (paren y k ns w l) = at_paren y k ∙ known y k ns w l
    known x taken nodes v (binary op line k y z ms ns u w l r) =
        let left = known y k ms u l in
        let right = known z (k + length ms) ns w r in
        at_binary op line y z k ∙
        (ap (λ a. joined file params op line k a (lowering_of file params z (k + length a.0))) left ∙ ap (λ b. joined file params op line k (ms, u) b) right ∙ joined_at op line k ms ns u w)
    known x taken nodes v (call f line k xs ns vs l) =
        at_call f line xs k ∙ (ap (λ a. called file params f line k a) (all_known xs k ns vs l) ∙ called_at f line k ns vs)

    all_known : (xs : List Expression) (taken : ℕ) (nodes : List Node) (vs : List Opnd) → LowersAll file params xs taken nodes vs → in_turn (map (lowering_of file params) xs) taken ≡ (nodes, vs)
    all_known xs taken nodes vs (none k) = none_in_turn k
    all_known xs taken nodes vs (more k y ys ms ns v ws l r) =
        more_in_turn (lowering_of file params y) (map (lowering_of file params) ys) k ms ns v ws (known y k ms v l) (all_known ys (k + length ms) ns ws r)

graph_of : List ℕ → Definition → Graph
graph_of file d =
    let made = lowering_of file (length d.parameters) d.value 0 in
    record {
      nodes = made.0 ++ node_at file d.line (Return (Some made.1)) ∷ [];
      regs = map parameter_register d.parameters ++ replicate (length made.0) temporary_register;
      slots = [];
      params = length d.parameters;
    }

graph_known : (file : List ℕ) (d : Definition) (g : Graph) → IsGraph file d g → g ≡ graph_of file d
unfolding graph_of
graph_known file d g is =
    let made = known file (length d.parameters) d.value 0 is.nodes is.value is.lowered in
    let nodes = is.all_nodes ∙ ap (λ m. m.0 ++ node_at file d.line (Return (Some m.1)) ∷ []) (sym made) in
    let regs = is.all_regs ∙ ap (λ m. map parameter_register d.parameters ++ replicate (length m.0) temporary_register) (sym made) in
    λ i. record { nodes = nodes i; regs = regs i; slots = is.no_slots i; params = is.params i }

function_of : List ℕ → Definition → Function
function_of file d = record { file = record { 0 = 0 }; name = d.name; local = false; result = record { text = codes "i32" }; graph = graph_of file d }

function_known : (file : List ℕ) (d : Definition) (f : Function) → IsFunction file d f → f ≡ function_of file d
unfolding function_of
function_known file d f is =
    let graph = graph_known file d f.graph is.graph in
    λ i. record { file = is.first_file i; name = is.name i; local = is.external i; result = is.result i; graph = graph i }

functions_known : (file : List ℕ) (ds : List Definition) (fs : List Function) → AllZip (IsFunction file) ds fs → fs ≡ map (function_of file) ds
functions_known file [] [] all = refl
functions_known file [] (f ∷ fs) all = absurd all
functions_known file (d ∷ ds) [] all = absurd all
functions_known file (d ∷ ds) (f ∷ fs) all =
    ap (λ g. g ∷ fs) (function_known file d f all.0) ∙ ap (λ l. function_of file d ∷ l) (functions_known file ds fs all.1)

one_project : (file : List ℕ) (ds : List Definition) (p q : Project) → IsProject file ds p → IsProject file ds q → p ≡ q
one_project file ds p q is also =
    let files = is.files ∙ sym also.files in
    let functions = functions_known file ds p.functions is.functions ∙ sym (functions_known file ds q.functions also.functions) in
    let opaque = is.opaque ∙ sym also.opaque in
    let globals = is.globals ∙ sym also.globals in
    let texts = is.texts ∙ sym also.texts in
    let effects = is.effects ∙ sym also.effects in
    let target = is.target ∙ sym also.target in
    λ i. record { files = files i; opaque = opaque i; functions = functions i; globals = globals i; texts = texts i; effects = effects i; target = target i }

one_report : (p : Project) (r s : Report Pred Rule) → IsReport p r → IsReport p s → r ≡ s
one_report p r s is also = one_least_report pred_cmp pred_total (book p) r s is also

pub one_text : (name : List ℕ) (ds : List Definition) (s t : Status) (text other : List ℕ) → IsReported name ds s text → IsReported name ds t other → (s ≡ t) × (text ≡ other)
one_text name ds s t text other is also =
    let projects = one_project name ds is.project also.project is.lowered also.lowered in
    let moved = subst (λ p. IsReport p is.report) projects is.ruled in
    let reports = one_report also.project is.report also.report moved also.ruled in
    let texts = ap (λ p. report_text p is.report) projects ∙ ap (report_text also.project) reports in
    (is.answered ∙ ap status_of reports ∙ sym also.answered, is.written ∙ texts ∙ sym also.written)
