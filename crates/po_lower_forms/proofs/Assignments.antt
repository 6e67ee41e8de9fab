-- What assignments and steps add to a draft.
use Rattle.std.proofs.Common.{◌≡◌, ℕ, [], ◌∷◌, length}
use Rattle.std.specs.Prelude.{Option, Some, None, Bool, true, false}
use Rattle.po_base.specs.declared.operators.Op.{Op}
use Rattle.po_base.specs.declared.operators.Op.TheVariants as op
use Rattle.po_base.specs.declared.operand.Opnd.{Opnd}
use Rattle.po_ir.specs.declared.instr.Instr.TheVariants as ins
use Rattle.po_tree.specs.declared.expression.Exp.{Exp, out-Exp}
use Rattle.po_tree.specs.declared.expression.Exp.TheOpen.{Exp-F}
use Rattle.po_lowering.specs.Places.{Place, next, behind, head_of}
use Rattle.po_lowering.specs.Typed.{Typed, type_of, conversion_of, spot_at}
use Rattle.po_lowering.specs.Types.{register_type, access_of}
use Rattle.po_lowering.specs.Temporaries.{reg, register, put, Saves, saved_or}
use Rattle.po_lowering.specs.Conversions.{Converts, combines, steps, store}
use Rattle.po_lowering.specs.Naming.{Scope, changes, register_of}
use Rattle.po_lowering.specs.Expressions as x
use Rattle.po_lowering.specs.Expressions.{Value, Steps}
use Rattle.po_draft.specs.Sketches.{Sketch}
use Rattle.po_draft.proofs.Making.{makes_then, makes_map}
use Rattle.po_lower_nodes.specs.Groups.{AddsNode, AddsValue, AddsHolding, AddsSaving}
use Rattle.po_lower_forms.specs.Made.{MakesValue, MakesOperand, MakesAddress, MakesSteps, AddsConversion}
use Rattle.po_lower_forms.proofs.Groups.{computed, computed_in, stood}

pub rule_set_register : (f : Typed) (c : Scope) {d e h : Sketch} (p : Place) (y z : Exp) (r : ℕ) (v : Opnd) → register_of c y ≡ Some r → MakesOperand f c d e z (next (behind y p)) v →
    AddsNode e h (λ g. put r v) (spot_at f (behind y p)) → MakesValue f c d h (Exp-F.Assign None y z) p (register r)
rule_set_register f c {d = d} {e = e} {h = h} p y z r v is a b =
    makes_map d h _ _ (λ final g pl k. stood (λ n s. Value f c final d.state (length d.nodes) (Exp-F.Assign None y z) p (register r) n s) k.1 (λ at. x.set_register is k.0 at)) (makes_then d e h _ _ a b)

pub rule_set_object : (f : Typed) (c : Scope) {d e h k l : Sketch} (p : Place) (y z : Exp) (v w u : Opnd) → register_of c y ≡ None → MakesAddress f c d e (out-Exp y) p v →
    AddsHolding e h (spot_at f (head_of y p)) v (changes c v (z ∷ [])) w → MakesOperand f c h k z (next (behind y p)) u → AddsNode k l (λ g. store f (type_of f y p) w u) (spot_at f (behind y p)) →
    MakesValue f c d l (Exp-F.Assign None y z) p u
rule_set_object f c {d = d} {e = e} {h = h} {k = k} {l = l} p y z v w u is a b m n =
    makes_map d l _ _ (λ final g pl i. stood (λ j s. Value f c final d.state (length d.nodes) (Exp-F.Assign None y z) p u j s) i.1 (λ at. x.set_object is i.0.0.0 i.0.0.1 i.0.1 at))
    (makes_then d k l _ _ (makes_then d h k _ _ (makes_then d e h _ _ a b) m) n)

pub rule_update_register : (f : Typed) (c : Scope) {d e h k l m n : Sketch} (p : Place) (operator : Op) (y z : Exp) (r : ℕ) (v w u i j : Opnd) → register_of c y ≡ Some r →
    AddsConversion f d e (spot_at f (head_of y p)) (type_of f y p) (conversion_of f y p) (register r) v → AddsHolding e h (spot_at f (head_of y p)) v (changes c v (z ∷ [])) w →
    MakesOperand f c h k z (next (behind y p)) u →
    AddsValue k l (register_type (conversion_of f y p)) (λ q. combines f operator (conversion_of f y p) (conversion_of f z (next (behind y p))) w u q) (spot_at f (behind y p)) i →
    AddsConversion f l m (spot_at f (behind y p)) (conversion_of f y p) (type_of f y p) i j → AddsNode m n (λ g. put r j) (spot_at f (behind y p)) →
    MakesValue f c d n (Exp-F.Assign (Some operator) y z) p (register r)
rule_update_register f c {d = d} {e = e} {h = h} {k = k} {l = l} {m = m} {n = n} p operator y z r v w u i j is a1 a2 a3 a4 a5 a6 =
    makes_map d n _ _ (λ final g pl t.
    computed (λ q b. Converts f final l.state b (spot_at f (behind y p)) (conversion_of f y p) (type_of f y p) q j (length m.nodes) m.state →
    Value f c final d.state (length d.nodes) (Exp-F.Assign (Some operator) y z) p (register r) (length n.nodes) n.state) t.0.0.1
    (λ q takes at converts. stood (λ b s. Value f c final d.state (length d.nodes) (Exp-F.Assign (Some operator) y z) p (register r) b s) t.1
    (λ last. x.update_register is t.0.0.0.0.0 t.0.0.0.0.1 t.0.0.0.1 takes at converts last)) t.0.1)
    (makes_then d m n _ _ (makes_then d l m _ _ (makes_then d k l _ _ (makes_then d h k _ _ (makes_then d e h _ _ a1 a2) a3) a4) a5) a6)

pub rule_update_object : (f : Typed) (c : Scope) {d e h k l m n o q : Sketch} (p : Place) (operator : Op) (y z : Exp) (place held loaded v u i j : Opnd) → register_of c y ≡ None →
    MakesAddress f c d e (out-Exp y) p place → AddsHolding e h (spot_at f (head_of y p)) place (changes c place (z ∷ [])) held →
    AddsValue h k (register_type (type_of f y p)) (λ r. ins.Load (reg r) held (access_of f (type_of f y p))) (spot_at f (behind y p)) loaded →
    AddsConversion f k l (spot_at f (head_of y p)) (type_of f y p) (conversion_of f y p) loaded v → MakesOperand f c l m z (next (behind y p)) u →
    AddsValue m n (register_type (conversion_of f y p)) (λ r. combines f operator (conversion_of f y p) (conversion_of f z (next (behind y p))) v u r) (spot_at f (behind y p)) i →
    AddsConversion f n o (spot_at f (behind y p)) (conversion_of f y p) (type_of f y p) i j → AddsNode o q (λ g. ins.Store held j (access_of f (type_of f y p))) (spot_at f (behind y p)) →
    MakesValue f c d q (Exp-F.Assign (Some operator) y z) p j
rule_update_object f c {d = d} {e = e} {h = h} {k = k} {l = l} {m = m} {n = n} {o = o} {q = q} p operator y z place held loaded v u i j is a1 a2 a3 a4 a5 a6 a7 a8 =
    makes_map d q _ _ (λ final g pl t.
    computed (λ r b. Converts f final k.state b (spot_at f (head_of y p)) (type_of f y p) (conversion_of f y p) r v (length l.nodes) l.state →
    Value f c final d.state (length d.nodes) (Exp-F.Assign (Some operator) y z) p j (length q.nodes) q.state) t.0.0.0.0.0.1
    (λ r takes at before. computed (λ r2 b. Converts f final n.state b (spot_at f (behind y p)) (conversion_of f y p) (type_of f y p) r2 j (length o.nodes) o.state →
    Value f c final d.state (length d.nodes) (Exp-F.Assign (Some operator) y z) p j (length q.nodes) q.state) t.0.0.1
    (λ r2 takes2 at2 after. stood (λ b s. Value f c final d.state (length d.nodes) (Exp-F.Assign (Some operator) y z) p j b s) t.1
    (λ last. x.update_object is t.0.0.0.0.0.0.0 t.0.0.0.0.0.0.1 takes at before t.0.0.0.1 takes2 at2 after last)) t.0.1) t.0.0.0.0.1)
    (makes_then d o q _ _ (makes_then d n o _ _ (makes_then d m n _ _ (makes_then d l m _ _ (makes_then d k l _ _ (makes_then d h k _ _ (makes_then d e h _ _ a1 a2) a3) a4) a5) a6) a7) a8)

-- ---- steps

pub rule_step_register : (f : Typed) (c : Scope) {d e h k l : Sketch} (p at_token : Place) (operator : Op) (old : Bool) (y : Exp) (r : ℕ) (v : Option Opnd) (i j : Opnd) → register_of c y ≡ Some r →
    AddsSaving d e (spot_at f at_token) (register_type (type_of f y p)) old (reg r) v →
    AddsValue e h (register_type (conversion_of f y p)) (λ q. steps f operator (conversion_of f y p) (register r) q) (spot_at f at_token) i →
    AddsConversion f h k (spot_at f at_token) (conversion_of f y p) (type_of f y p) i j → AddsNode k l (λ g. put r j) (spot_at f at_token) → MakesSteps f c d l y p at_token operator old (saved_or v (register r))
rule_step_register f c {d = d} {e = e} {h = h} {k = k} {l = l} p at_token operator old y r v i j is a1 a2 a3 a4 =
    makes_map d l _ _ (λ final g pl t.
    computed (λ q b. Converts f final h.state b (spot_at f at_token) (conversion_of f y p) (type_of f y p) q j (length k.nodes) k.state →
    Steps f c final d.state (length d.nodes) y p at_token operator old (saved_or v (register r)) (length l.nodes) l.state) t.0.0.1
    (λ q takes at converts. stood (λ b s. Steps f c final d.state (length d.nodes) y p at_token operator old (saved_or v (register r)) b s) t.1
    (λ last. x.step_register is t.0.0.0 takes at converts last)) t.0.1)
    (makes_then d k l _ _ (makes_then d h k _ _ (makes_then d e h _ _ a1 a2) a3) a4)

pub rule_step_object : (f : Typed) (c : Scope) {d e h k l m n : Sketch} (p at_token : Place) (operator : Op) (old : Bool) (y : Exp) (q : ℕ) (v : Option Opnd) (place i j : Opnd) → register_of c y ≡ None →
    MakesAddress f c d e (out-Exp y) p place →
    AddsValue e h (register_type (type_of f y p)) (λ r. ins.Load (reg r) place (access_of f (type_of f y p))) (spot_at f at_token) (register q) →
    AddsSaving h k (spot_at f at_token) (register_type (type_of f y p)) old (reg q) v →
    AddsValue k l (register_type (conversion_of f y p)) (λ r. steps f operator (conversion_of f y p) (register q) r) (spot_at f at_token) i →
    AddsConversion f l m (spot_at f at_token) (conversion_of f y p) (type_of f y p) i j → AddsNode m n (λ g. ins.Store place j (access_of f (type_of f y p))) (spot_at f at_token) →
    MakesSteps f c d n y p at_token operator old (saved_or v j)
rule_step_object f c {d = d} {e = e} {h = h} {k = k} {l = l} {m = m} {n = n} p at_token operator old y q v place i j is a1 a2 a3 a4 a5 a6 =
    makes_map d n _ _ (λ final g pl t.
    computed_in q (λ b. Saves final h.state b (spot_at f at_token) (register_type (type_of f y p)) old (reg q) v (length k.nodes) k.state →
    Steps f c final d.state (length d.nodes) y p at_token operator old (saved_or v j) (length n.nodes) n.state) t.0.0.0.0.1
    (λ takes at saves. computed (λ r b. Converts f final l.state b (spot_at f at_token) (conversion_of f y p) (type_of f y p) r j (length m.nodes) m.state →
    Steps f c final d.state (length d.nodes) y p at_token operator old (saved_or v j) (length n.nodes) n.state) t.0.0.1
    (λ r takes2 at2 converts. stood (λ b s. Steps f c final d.state (length d.nodes) y p at_token operator old (saved_or v j) b s) t.1
    (λ last. x.step_object is t.0.0.0.0.0 takes at saves takes2 at2 converts last)) t.0.1) t.0.0.0.1)
    (makes_then d m n _ _ (makes_then d l m _ _ (makes_then d k l _ _ (makes_then d h k _ _ (makes_then d e h _ _ a1 a2) a3) a4) a5) a6)

pub rule_pre_increment : (f : Typed) (c : Scope) {d e : Sketch} (p : Place) (y : Exp) (v : Opnd) → MakesSteps f c d e y (next p) p op.Add false v → MakesValue f c d e (Exp-F.PreInc y) p v
rule_pre_increment f c {d = d} {e = e} p y v a = makes_map d e _ _ (λ final g pl k. x.pre_increment k) a

pub rule_pre_decrement : (f : Typed) (c : Scope) {d e : Sketch} (p : Place) (y : Exp) (v : Opnd) → MakesSteps f c d e y (next p) p op.Sub false v → MakesValue f c d e (Exp-F.PreDec y) p v
rule_pre_decrement f c {d = d} {e = e} p y v a = makes_map d e _ _ (λ final g pl k. x.pre_decrement k) a

pub rule_post_increment : (f : Typed) (c : Scope) {d e : Sketch} (p : Place) (y : Exp) (v : Opnd) → MakesSteps f c d e y p (behind y p) op.Add true v → MakesValue f c d e (Exp-F.PostInc y) p v
rule_post_increment f c {d = d} {e = e} p y v a = makes_map d e _ _ (λ final g pl k. x.post_increment k) a

pub rule_post_decrement : (f : Typed) (c : Scope) {d e : Sketch} (p : Place) (y : Exp) (v : Opnd) → MakesSteps f c d e y p (behind y p) op.Sub true v → MakesValue f c d e (Exp-F.PostDec y) p v
rule_post_decrement f c {d = d} {e = e} p y v a = makes_map d e _ _ (λ final g pl k. x.post_decrement k) a
