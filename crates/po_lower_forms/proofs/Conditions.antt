-- What conditions add to a draft, and the values that are made of them.
use Rattle.std.proofs.Common.{◌≡◌, ◌∙◌, ℕ, ◌+◌, ◌≤◌, ◌<◌, List, length, sym, ap, subst, arith, true}
use Rattle.std.specs.Prelude.{pos}
use Rattle.po_base.specs.declared.operators.Op.{Op}
use Rattle.po_base.specs.declared.operators.Op.TheVariants as op
use Rattle.po_base.specs.declared.operand.Opnd.{Opnd}
use Rattle.po_base.specs.declared.operand.Opnd.TheVariants as o
use Rattle.po_base.specs.declared.spot.Spot.{Spot}
use Rattle.po_ir.specs.declared.instr.Ty.{Ty}
use Rattle.po_ir.specs.declared.instr.Instr.TheVariants as ins
use Rattle.po_ir.specs.declared.graph.Node.{Node}
use Rattle.po_ir.specs.Types.{is_comparison}
use Rattle.po_tree.specs.declared.expression.Exp.{Exp, out-Exp}
use Rattle.po_tree.specs.declared.expression.Exp.TheOpen.{Exp-F}
use Rattle.po_lowering.specs.Places.{Place, next, behind, head_in}
use Rattle.po_lowering.specs.Typed.{Typed, type_at, conversion_of, spot_at}
use Rattle.po_lowering.specs.Types.{register_type}
use Rattle.po_lowering.specs.Temporaries.{State, Takes, Row, to, register}
use Rattle.po_lowering.specs.Conversions.{tested}
use Rattle.po_lowering.specs.Naming.{Scope}
use Rattle.po_lowering.specs.Forms.{Layer, IsPlain}
use Rattle.po_lowering.specs.Expressions as x
use Rattle.po_lowering.specs.Expressions.{Value, Operand, Unused, Condition, one_or_zero, third, nothing}
use Rattle.po_draft.specs.Sketches.{Sketch, first_label, with_place, IsFilled}
use Rattle.po_draft.proofs.Making.{makes_then, makes_map, makes_fill, at_own, at_other}
use Rattle.po_lower_nodes.specs.Groups.{AddsNode, AddsChoice}
use Rattle.po_lower_forms.specs.Made.{MakesValue, MakesBoth, MakesCondition}
use Rattle.po_lower_forms.proofs.Groups.{stood}

-- ---- conditions

-- a condition that goes to the same nodes
pub condition_at : {f : Typed} {c : Scope} {ns : List Node} {s t : State} {a b hit hit' miss miss' : ℕ} {y : Layer} {p : Place} → Condition f c ns s a y p hit miss b t → hit ≡ hit' → miss ≡ miss' → Condition f c ns s a y p hit' miss' b t
condition_at {f = f} {c = c} {ns = ns} {s = s} {t = t} {a = a} {b = b} {hit' = hit'} {miss = miss} {y = y} {p = p} k eh em =
    subst (λ z. Condition f c ns s a y p hit' z b t) em (subst (λ z. Condition f c ns s a y p z miss b t) eh k)

-- the same behind nodes of which a label got its node
condition_from : {f : Typed} {c : Scope} {ns : List Node} {s s' t : State} {a a' b hit miss : ℕ} {y : Layer} {p : Place} → Condition f c ns s a y p hit miss b t → s ≡ s' → a ≡ a' → Condition f c ns s' a' y p hit miss b t
condition_from {f = f} {c = c} {ns = ns} {s' = s'} {t = t} {a = a} {b = b} {hit = hit} {miss = miss} {y = y} {p = p} k es ea =
    subst (λ z. Condition f c ns s' z y p hit miss b t) ea (subst (λ z. Condition f c ns z a y p hit miss b t) es k)

pub rule_swapped : (f : Typed) (c : Scope) {d e : Sketch} (p : Place) (y : Exp) (hit miss : ℕ) → MakesCondition f c d e (out-Exp y) (next p) miss hit → MakesCondition f c d e (Exp-F.Not y) p hit miss
rule_swapped f c {d = d} {e = e} p y hit miss a = makes_map d e _ _ (λ final g pl k. x.swapped k) a

pub rule_in_parens : (f : Typed) (c : Scope) {d e : Sketch} (p : Place) (y : Exp) (hit miss : ℕ) → MakesCondition f c d e (out-Exp y) (next p) hit miss → MakesCondition f c d e (Exp-F.Paren y) p hit miss
rule_in_parens f c {d = d} {e = e} p y hit miss a = makes_map d e _ _ (λ final g pl k. x.in_parens k) a

pub rule_comparison : (f : Typed) (c : Scope) {d e h : Sketch} (p : Place) (operator : Op) (y z : Exp) (v w : Opnd) (hit miss : ℕ) → is_comparison operator ≡ true → MakesBoth f c d e y z p v w →
    AddsNode e h (λ g. ins.If operator (register_type (conversion_of f y p)) v w (to (g hit)) (to (g miss))) (spot_at f (behind y p)) → MakesCondition f c d h (Exp-F.Binary operator y z) p hit miss
rule_comparison f c {d = d} {e = e} {h = h} p operator y z v w hit miss is a b =
    makes_map d h _ _ (λ final g pl k. stood (λ n s. Condition f c final d.state (length d.nodes) (Exp-F.Binary operator y z) p (g hit) (g miss) n s) k.1 (λ at. x.comparison is k.0 at)) (makes_then d e h _ _ a b)

pub rule_test : (f : Typed) (c : Scope) {d e h : Sketch} (p : Place) (y : Layer) (v : Opnd) (hit miss : ℕ) → IsPlain y → MakesValue f c d e y p v →
    AddsNode e h (λ g. ins.If op.Ne (tested (type_at f (head_in y p))) v (o.Num (pos 0)) (to (g hit)) (to (g miss))) (spot_at f (head_in y p)) → MakesCondition f c d h y p hit miss
rule_test f c {d = d} {e = e} {h = h} p y v hit miss plain a b =
    makes_map d h _ _ (λ final g pl k. stood (λ n s. Condition f c final d.state (length d.nodes) y p (g hit) (g miss) n s) k.1 (λ at. x.test plain k.0 at)) (makes_then d e h _ _ a b)

pub rule_and_then : (f : Typed) (c : Scope) {d e h k : Sketch} (p : Place) (y z : Exp) (hit miss from i : ℕ) → first_label ≤ hit → (hit ≡ miss → ⊥) → from ≡ length d.nodes →
    MakesCondition f c d e (out-Exp y) p hit miss → i ≡ length e.nodes → i + 8 < first_label → IsFilled from hit i e.nodes h.nodes → h.state ≡ e.state →
    MakesCondition f c h k (out-Exp z) (next (behind y p)) hit miss → MakesCondition f c d k (Exp-F.LogAnd y z) p hit miss
rule_and_then f c {d = d} {e = e} {h = h} {k = k} p y z hit miss from i label apart start a here small filled same b =
    makes_map d k _ _ (λ final g pl t. x.and_then (condition_at t.0 (at_own g hit i ∙ here) (at_other g hit i miss (λ q. apart (sym q)))) (condition_from t.1 same filled.same_length))
    (makes_then d h k _ _ (makes_fill d e h from hit i _ a filled start label (omega (arith, small))) b)

pub rule_or_else : (f : Typed) (c : Scope) {d e h k : Sketch} (p : Place) (y z : Exp) (hit miss from i : ℕ) → first_label ≤ miss → (hit ≡ miss → ⊥) → from ≡ length d.nodes →
    MakesCondition f c d e (out-Exp y) p hit miss → i ≡ length e.nodes → i + 8 < first_label → IsFilled from miss i e.nodes h.nodes → h.state ≡ e.state →
    MakesCondition f c h k (out-Exp z) (next (behind y p)) hit miss → MakesCondition f c d k (Exp-F.LogOr y z) p hit miss
rule_or_else f c {d = d} {e = e} {h = h} {k = k} p y z hit miss from i label apart start a here small filled same b =
    makes_map d k _ _ (λ final g pl t. x.or_else (condition_at t.0 (at_other g miss i hit apart) (at_own g miss i ∙ here)) (condition_from t.1 same filled.same_length))
    (makes_then d h k _ _ (makes_fill d e h from miss i _ a filled start label (omega (arith, small))) b)

-- ---- `&&` and `||` as values

pub value_at : {f : Typed} {c : Scope} {ns : List Node} {s t : State} {a b b' : ℕ} {y : Layer} {p : Place} {v v' : Opnd} → Value f c ns s a y p v b t → v ≡ v' → b ≡ b' → Value f c ns s a y p v' b' t
value_at {f = f} {c = c} {ns = ns} {s = s} {t = t} {a = a} {b' = b'} {y = y} {p = p} {v = v} k ev eb = subst (λ z. Value f c ns s a y p z b' t) ev (subst (λ z. Value f c ns s a y p v z t) eb k)

-- a condition whose labels stand for the nodes of 1 and 0 behind it
chosen : (f : Typed) (c : Scope) {d e h k l : Sketch} (p : Place) (y : Layer) (held : Ty) (spot : Spot) (hit miss from i : ℕ) (v : Opnd) → first_label ≤ hit → first_label ≤ miss → (hit ≡ miss → ⊥) → from ≡ length d.nodes →
    MakesCondition f c d e y p hit miss → i ≡ length e.nodes → i + 8 < first_label → IsFilled from hit i e.nodes h.nodes → h.state ≡ e.state → IsFilled from miss (i + 2) h.nodes k.nodes → k.state ≡ h.state → AddsChoice k l held spot v →
    ((final : List Node) (n r : ℕ) (t : State) → Condition f c final d.state (length d.nodes) y p n (n + 2) n e.state → Takes held e.state r t → Row final n (one_or_zero n r spot) (n + 3) →
    Value f c final d.state (length d.nodes) y p (register r) (n + 3) t) → MakesValue f c d l y p v
chosen f c {d = d} {e = e} {h = h} {k = k} {l = l} p y held spot hit miss from i v label_hit label_miss apart start a here small first same1 second same2 b rule =
    let size : length k.nodes ≡ length e.nodes = second.same_length ∙ first.same_length in
    let m1 = makes_fill d e h from hit i _ a first start label_hit (omega (arith, small)) in
    let m2 = makes_fill d h k from miss (i + 2) _ m1 second start label_miss (omega (arith, small)) in
    makes_map d l _ _ (λ final g pl t.
    let n = length e.nodes in
    let condition = condition_at t.0 (at_own (with_place g miss (i + 2)) hit i ∙ here) (at_other (with_place g miss (i + 2)) hit i miss (λ q. apart (sym q)) ∙ at_own g miss (i + 2) ∙ ap (λ z. z + 2) here) in
    let takes = subst (λ s. Takes held s t.1.number l.state) (same2 ∙ same1) t.1.takes in
    let ends : length l.nodes ≡ n + 3 = t.1.ends ∙ ap (λ z. z + 3) size in
    let row = subst (λ z. Row final z (one_or_zero z t.1.number spot) (z + 3)) size (subst (λ z. Row final (length k.nodes) (one_or_zero (length k.nodes) t.1.number spot) z) t.1.ends t.1.row) in
    value_at (rule final n t.1.number l.state condition takes row) (sym t.1.is_value) (sym ends))
    (makes_then d k l _ _ m2 b)

pub rule_and_value : (f : Typed) (c : Scope) {d e h k l : Sketch} (p : Place) (y z : Exp) (hit miss from i : ℕ) (v : Opnd) → first_label ≤ hit → first_label ≤ miss → (hit ≡ miss → ⊥) → from ≡ length d.nodes →
    MakesCondition f c d e (Exp-F.LogAnd y z) p hit miss → i ≡ length e.nodes → i + 8 < first_label → IsFilled from hit i e.nodes h.nodes → h.state ≡ e.state → IsFilled from miss (i + 2) h.nodes k.nodes → k.state ≡ h.state →
    AddsChoice k l (register_type (type_at f (behind y p))) (spot_at f (behind y p)) v → MakesValue f c d l (Exp-F.LogAnd y z) p v
rule_and_value f c p y z hit miss from i v lh lm apart start a here small f1 s1 f2 s2 b =
    chosen f c p (Exp-F.LogAnd y z) _ _ hit miss from i v lh lm apart start a here small f1 s1 f2 s2 b (λ final n r t condition takes row. x.and_value condition takes row)

pub rule_or_value : (f : Typed) (c : Scope) {d e h k l : Sketch} (p : Place) (y z : Exp) (hit miss from i : ℕ) (v : Opnd) → first_label ≤ hit → first_label ≤ miss → (hit ≡ miss → ⊥) → from ≡ length d.nodes →
    MakesCondition f c d e (Exp-F.LogOr y z) p hit miss → i ≡ length e.nodes → i + 8 < first_label → IsFilled from hit i e.nodes h.nodes → h.state ≡ e.state → IsFilled from miss (i + 2) h.nodes k.nodes → k.state ≡ h.state →
    AddsChoice k l (register_type (type_at f (behind y p))) (spot_at f (behind y p)) v → MakesValue f c d l (Exp-F.LogOr y z) p v
rule_or_value f c p y z hit miss from i v lh lm apart start a here small f1 s1 f2 s2 b =
    chosen f c p (Exp-F.LogOr y z) _ _ hit miss from i v lh lm apart start a here small f1 s1 f2 s2 b (λ final n r t condition takes row. x.or_value condition takes row)
