-- What `?:` adds to a draft.
use Rattle.std.proofs.Common.{◌≡◌, ◌∙◌, ℕ, ◌+◌, ◌≤◌, ◌<◌, List, length, refl, sym, ap, subst, arith, true, false}
use Rattle.po_base.specs.declared.operand.Opnd.{Opnd}
use Rattle.po_base.specs.declared.spot.Spot.{Spot}
use Rattle.po_ir.specs.declared.instr.Instr.{Instr}
use Rattle.po_ir.specs.declared.instr.Instr.TheVariants as ins
use Rattle.po_ir.specs.declared.graph.Node.{Node}
use Rattle.po_tree.specs.declared.expression.Exp.{Exp, out-Exp}
use Rattle.po_tree.specs.declared.expression.Exp.TheOpen.{Exp-F}
use Rattle.po_lowering.specs.Places.{Place, next, behind}
use Rattle.po_lowering.specs.Typed.{Typed, type_at, spot_at}
use Rattle.po_lowering.specs.Types.{register_type, is_void}
use Rattle.po_lowering.specs.Temporaries.{State, At, Takes, to, register, put}
use Rattle.po_lowering.specs.Naming.{Scope}
use Rattle.po_lowering.specs.Forms.{Layer}
use Rattle.po_lowering.specs.Expressions as x
use Rattle.po_lowering.specs.Expressions.{Value, Operand, Unused, third, nothing}
use Rattle.po_draft.specs.Sketches.{Sketch, first_label, with_place, IsFilled}
use Rattle.po_draft.proofs.Making.{makes_then, makes_map, makes_fill, makes_along, at_own, at_other}
use Rattle.po_lower_nodes.specs.Groups.{AddsNode}
use Rattle.po_lower_forms.specs.Made.{MakesValue, MakesOperand, MakesUnused, MakesCondition}
use Rattle.po_lower_forms.proofs.Conditions.{condition_at, value_at}

operand_from : {f : Typed} {c : Scope} {ns : List Node} {s s' t : State} {a a' b : ℕ} {y : Exp} {p : Place} {v : Opnd} → Operand f c ns s a y p v b t → s ≡ s' → a ≡ a' → Operand f c ns s' a' y p v b t
operand_from {f = f} {c = c} {ns = ns} {s' = s'} {t = t} {a = a} {b = b} {y = y} {p = p} {v = v} k es ea = subst (λ z. Operand f c ns s' z y p v b t) ea (subst (λ z. Operand f c ns z a y p v b t) es k)

unused_from : {f : Typed} {c : Scope} {ns : List Node} {s s' t : State} {a a' b : ℕ} {y : Layer} {p : Place} → Unused f c ns s a y p b t → s ≡ s' → a ≡ a' → Unused f c ns s' a' y p b t
unused_from {f = f} {c = c} {ns = ns} {s' = s'} {t = t} {a = a} {b = b} {y = y} {p = p} k es ea = subst (λ z. Unused f c ns s' z y p b t) ea (subst (λ z. Unused f c ns z a y p b t) es k)

value_to : {f : Typed} {c : Scope} {ns : List Node} {s t t' : State} {a b : ℕ} {y : Layer} {p : Place} {v : Opnd} → Value f c ns s a y p v b t → t ≡ t' → Value f c ns s a y p v b t'
value_to {f = f} {c = c} {ns = ns} {s = s} {a = a} {b = b} {y = y} {p = p} {v = v} k et = subst (λ z. Value f c ns s a y p v b z) et k

node_at : {ns : List Node} {a a' : ℕ} {instr : Instr} {spot : Spot} → At ns a instr spot → a ≡ a' → At ns a' instr spot
node_at {ns = ns} {instr = instr} {spot = spot} k q = subst (λ n. At ns n instr spot) q k

jump_at : {ns : List Node} {a a' n n' : ℕ} {spot : Spot} → At ns a (ins.Jump (to n)) spot → a ≡ a' → n ≡ n' → At ns a' (ins.Jump (to n')) spot
jump_at {ns = ns} {a' = a'} {n = n} {spot = spot} k qa qn = subst (λ m. At ns a' (ins.Jump (to m)) spot) qn (subst (λ m. At ns m (ins.Jump (to n)) spot) qa k)

pub rule_choice : (f : Typed) (c : Scope) {d e e1 h h1 k l l1 m n q : Sketch} (p : Place) (y z w : Exp) (u v : Opnd) (r hit miss join from i j b : ℕ) → is_void (type_at f (behind y p)) ≡ false →
    first_label ≤ hit → first_label ≤ miss → first_label ≤ join → (hit ≡ miss → ⊥) → (join ≡ miss → ⊥) → from ≡ length d.nodes →
    MakesCondition f c d e (out-Exp y) p hit miss → i ≡ length e.nodes → i + 8 < first_label → IsFilled from hit i e.nodes e1.nodes → e1.state ≡ e.state →
    MakesOperand f c e1 h z (next (behind y p)) u → Takes (register_type (type_at f (behind y p))) h.state r h1.state → h1.nodes ≡ h.nodes →
    AddsNode h1 k (λ g. put r u) (spot_at f (behind y p)) → AddsNode k l (λ g. ins.Jump (to (g join))) (spot_at f (behind y p)) →
    j ≡ length l.nodes → j + 8 < first_label → IsFilled from miss j l.nodes l1.nodes → l1.state ≡ l.state →
    MakesOperand f c l1 m w (third y z p) v → AddsNode m n (λ g. put r v) (spot_at f (behind y p)) →
    b ≡ length n.nodes → b + 8 < first_label → IsFilled from join b n.nodes q.nodes → q.state ≡ n.state → MakesValue f c d q (Exp-F.Cond y z w) p (register r)
rule_choice f c {d = d} {e = e} {e1 = e1} {h = h} {h1 = h1} {k = k} {l = l} {l1 = l1} {m = m} {n = n} {q = q} p y z w u v r hit miss join from i j b not_void lh lm lj apart1 apart2 start a here_i small_i f1 s1 a2 takes same a3 a4 here_j small_j f2 s2 a5 a6 here_b small_b f3 s3 =
    let m1 = makes_fill d e e1 from hit i _ a f1 start lh (omega (arith, small_i)) in
    let m2 = makes_then d e1 h _ _ m1 a2 in
    let m3 = makes_then d h k _ _ m2 (makes_along h1 h k k _ (sym same) refl a3) in
    let m4 = makes_then d k l _ _ m3 a4 in
    let m5 = makes_fill d l l1 from miss j _ m4 f2 start lm (omega (arith, small_j)) in
    let m6 = makes_then d l1 m _ _ m5 a5 in
    let m7 = makes_then d m n _ _ m6 a6 in
    let m8 = makes_fill d n q from join b _ m7 f3 start lj (omega (arith, small_b)) in
    makes_map d q _ _ (λ final g pl t.
    let first = t.0.0.0.1 in
    let jump = t.0.0.1 in
    let last = t.1 in
    let g1 = with_place g join b in
    let g2 = with_place g1 miss j in
    let size_h : length h1.nodes ≡ length h.nodes = ap length same in
    let size_k : length k.nodes ≡ length h.nodes + 1 = omega (arith, first.ends, size_h) in
    let size_l : length l.nodes ≡ length h.nodes + 2 = omega (arith, jump.ends, size_k) in
    let condition = condition_at t.0.0.0.0.0 (at_own g2 hit i ∙ here_i) (at_other g2 hit i miss (λ e. apart1 (sym e)) ∙ at_own g1 miss j ∙ here_j ∙ size_l) in
    let second = operand_from t.0.0.0.0.1 s1 f1.same_length in
    let third_operand = operand_from t.0.1 (s2 ∙ jump.same ∙ first.same) (f2.same_length ∙ size_l) in
    let goes = jump_at jump.here size_k (at_other g1 miss j join apart2 ∙ at_own g join b ∙ here_b ∙ last.ends) in
    value_to (value_at (x.choice not_void condition second takes (node_at first.here size_h) goes third_operand last.here) refl (sym (f3.same_length ∙ last.ends))) (sym (s3 ∙ last.same)))
    m8

pub rule_void_choice : (f : Typed) (c : Scope) {d e e1 h l l1 m q : Sketch} (p : Place) (y z w : Exp) (hit miss join from i j b : ℕ) → is_void (type_at f (behind y p)) ≡ true →
    first_label ≤ hit → first_label ≤ miss → first_label ≤ join → (hit ≡ miss → ⊥) → (join ≡ miss → ⊥) → from ≡ length d.nodes →
    MakesCondition f c d e (out-Exp y) p hit miss → i ≡ length e.nodes → i + 8 < first_label → IsFilled from hit i e.nodes e1.nodes → e1.state ≡ e.state →
    MakesUnused f c e1 h (out-Exp z) (next (behind y p)) → AddsNode h l (λ g. ins.Jump (to (g join))) (spot_at f (behind y p)) →
    j ≡ length l.nodes → j + 8 < first_label → IsFilled from miss j l.nodes l1.nodes → l1.state ≡ l.state →
    MakesUnused f c l1 m (out-Exp w) (third y z p) → b ≡ length m.nodes → b + 8 < first_label → IsFilled from join b m.nodes q.nodes → q.state ≡ m.state → MakesValue f c d q (Exp-F.Cond y z w) p nothing
rule_void_choice f c {d = d} {e = e} {e1 = e1} {h = h} {l = l} {l1 = l1} {m = m} {q = q} p y z w hit miss join from i j b is lh lm lj apart1 apart2 start a here_i small_i f1 s1 a2 a4 here_j small_j f2 s2 a5 here_b small_b f3 s3 =
    let m1 = makes_fill d e e1 from hit i _ a f1 start lh (omega (arith, small_i)) in
    let m2 = makes_then d e1 h _ _ m1 a2 in
    let m4 = makes_then d h l _ _ m2 a4 in
    let m5 = makes_fill d l l1 from miss j _ m4 f2 start lm (omega (arith, small_j)) in
    let m6 = makes_then d l1 m _ _ m5 a5 in
    let m8 = makes_fill d m q from join b _ m6 f3 start lj (omega (arith, small_b)) in
    makes_map d q _ _ (λ final g pl t.
    let jump = t.0.1 in
    let g1 = with_place g join b in
    let g2 = with_place g1 miss j in
    let condition = condition_at t.0.0.0 (at_own g2 hit i ∙ here_i) (at_other g2 hit i miss (λ e. apart1 (sym e)) ∙ at_own g1 miss j ∙ here_j ∙ jump.ends) in
    let second = unused_from t.0.0.1 s1 f1.same_length in
    let goes = jump_at jump.here refl (at_other g1 miss j join apart2 ∙ at_own g join b ∙ here_b) in
    let last = unused_from t.1 (s2 ∙ jump.same) (f2.same_length ∙ jump.ends) in
    value_to (value_at (x.void_choice is condition second goes last) refl (sym f3.same_length)) (sym s3))
    m8
