-- What the forms that designate objects add to a draft, and those whose value isn't used.
use Rattle.std.proofs.Common.{◌≡◌, ℕ, ◌+◌, List, [], ◌∷◌, ◌++◌, length, refl, sym, ap, subst}
use Rattle.std.specs.Prelude.{false}
use Rattle.po_base.specs.declared.operators.Op.TheVariants as op
use Rattle.po_base.specs.declared.numbers.SlotNo.{SlotNo}
use Rattle.po_base.specs.declared.numbers.GlobalNo.{GlobalNo}
use Rattle.po_base.specs.declared.operand.Opnd.{Opnd}
use Rattle.po_ir.specs.declared.instr.Ty.TheVariants as ty
use Rattle.po_ir.specs.declared.instr.Instr.TheVariants as ins
use Rattle.po_tree.specs.declared.expression.Exp.{Exp, out-Exp}
use Rattle.po_tree.specs.declared.expression.Exp.TheOpen.{Exp-F}
use Rattle.po_lowering.specs.declared.var.Var.TheVariants as var
use Rattle.po_lowering.specs.Places.{Place, next, behind}
use Rattle.po_lowering.specs.Typed.{Typed, type_of, conversion_of, spot_at}
use Rattle.po_lowering.specs.Types.{referenced}
use Rattle.po_lowering.specs.Temporaries.{reg}
use Rattle.po_lowering.specs.Conversions.{combines}
use Rattle.po_lowering.specs.Naming.{Scope, variable, named}
use Rattle.po_lowering.specs.Spelling.{Spells}
use Rattle.po_lowering.specs.Forms.{Layer, IsSameUnused, offset_of}
use Rattle.po_lowering.specs.Expressions as x
use Rattle.po_lowering.specs.Expressions.{Address}
use Rattle.po_draft.specs.Sketches.{Sketch}
use Rattle.po_draft.proofs.Making.{makes_then, makes_map, makes_along}
use Rattle.po_lower_nodes.specs.Groups.{AddsValue}
use Rattle.po_lower_forms.specs.Made.{MakesValue, MakesOperand, MakesBoth, MakesAddress, MakesSteps, MakesUnused, AddsMove}
use Rattle.po_lower_forms.proofs.Groups.{computed}

-- ---- addresses

pub rule_slot_address : (f : Typed) (c : Scope) {d e : Sketch} (p : Place) (name : List ℕ) (k : SlotNo) (v : Opnd) → named f c name p ≡ variable (var.Slot k) →
    AddsValue d e ty.Ptr (λ r. ins.AddrSlot (reg r) k) (spot_at f p) v → MakesAddress f c d e (Exp-F.Var name) p v
rule_slot_address f c {d = d} {e = e} p name k v q a =
    makes_map d e _ _ (λ final g pl i. computed (λ z n. Address f c final d.state (length d.nodes) (Exp-F.Var name) p z n e.state) i (λ r takes at. x.slot_address q takes at)) a

pub rule_global_address : (f : Typed) (c : Scope) {d e : Sketch} (p : Place) (name : List ℕ) (k : GlobalNo) (v : Opnd) → named f c name p ≡ variable (var.Global k) →
    AddsValue d e ty.Ptr (λ r. ins.AddrGlobal (reg r) k) (spot_at f p) v → MakesAddress f c d e (Exp-F.Var name) p v
rule_global_address f c {d = d} {e = e} p name k v q a =
    makes_map d e _ _ (λ final g pl i. computed (λ z n. Address f c final d.state (length d.nodes) (Exp-F.Var name) p z n e.state) i (λ r takes at. x.global_address q takes at)) a

-- a literal of its own is passed on behind the node
pub rule_literal_address : (f : Typed) (c : Scope) {d e h : Sketch} (p : Place) (texts : List (List ℕ)) (bytes : List ℕ) (v : Opnd) → Spells texts bytes →
    AddsValue d e ty.Ptr (λ r. ins.AddrStr (reg r) (record { 0 = f.texts + length d.state.texts })) (spot_at f p) v →
    h ≡ record e { state = record e.state { texts = d.state.texts ++ bytes ∷ [] } } → MakesAddress f c d h (Exp-F.Str texts) p v
rule_literal_address f c {d = d} {e = e} {h = h} p texts bytes v spells a q =
    let nodes : h.nodes ≡ e.nodes = ap (λ (s : Sketch). s.nodes) q in
    let state : h.state ≡ record e.state { texts = d.state.texts ++ bytes ∷ [] } = ap (λ (s : Sketch). s.state) q in
    makes_map d h _ _ (λ final g pl i.
    subst (λ s. Address f c final d.state (length d.nodes) (Exp-F.Str texts) p v (length h.nodes) s) (sym state)
    (subst (λ n. Address f c final d.state (length d.nodes) (Exp-F.Str texts) p v n (record e.state { texts = d.state.texts ++ bytes ∷ [] })) (sym (ap length nodes))
    (computed (λ z n. Address f c final d.state (length d.nodes) (Exp-F.Str texts) p z n (record e.state { texts = d.state.texts ++ bytes ∷ [] })) i (λ r takes at. x.literal_address spells takes at))))
    (makes_along d d e h _ refl nodes a)

pub rule_paren_address : (f : Typed) (c : Scope) {d e : Sketch} (p : Place) (y : Exp) (v : Opnd) → MakesAddress f c d e (out-Exp y) (next p) v → MakesAddress f c d e (Exp-F.Paren y) p v
rule_paren_address f c {d = d} {e = e} p y v a = makes_map d e _ _ (λ final g pl k. x.paren_address k) a

pub rule_element_address : (f : Typed) (c : Scope) {d e h : Sketch} (p : Place) (y z : Exp) (v w u : Opnd) → MakesBoth f c d e y z p v w →
    AddsValue e h ty.Ptr (λ r. combines f op.Add (conversion_of f y p) (conversion_of f z (next (behind y p))) v w r) (spot_at f (behind y p)) u → MakesAddress f c d h (Exp-F.Index y z) p u
rule_element_address f c {d = d} {e = e} {h = h} p y z v w u a b =
    makes_map d h _ _ (λ final g pl k. computed (λ i n. Address f c final d.state (length d.nodes) (Exp-F.Index y z) p i n h.state) k.1 (λ r takes at. x.element_address k.0 takes at)) (makes_then d e h _ _ a b)

pub rule_pointed_address : (f : Typed) (c : Scope) {d e : Sketch} (p : Place) (y : Exp) (v : Opnd) → MakesOperand f c d e y (next p) v → MakesAddress f c d e (Exp-F.Deref y) p v
rule_pointed_address f c {d = d} {e = e} p y v a = makes_map d e _ _ (λ final g pl k. x.pointed_address k) a

pub rule_member_address : (f : Typed) (c : Scope) {d e h : Sketch} (p : Place) (y : Exp) (name : List ℕ) (v w : Opnd) → MakesValue f c d e (out-Exp y) p v →
    AddsMove e h (spot_at f (behind y p)) (offset_of f (type_of f y p) name) v w → MakesAddress f c d h (Exp-F.Dot y name) p w
rule_member_address f c {d = d} {e = e} {h = h} p y name v w a b = makes_map d h _ _ (λ final g pl k. x.member_address k.0 k.1) (makes_then d e h _ _ a b)

pub rule_pointed_member_address : (f : Typed) (c : Scope) {d e h : Sketch} (p : Place) (y : Exp) (name : List ℕ) (v w : Opnd) → MakesOperand f c d e y p v →
    AddsMove e h (spot_at f (behind y p)) (offset_of f (referenced (conversion_of f y p)) name) v w → MakesAddress f c d h (Exp-F.Arrow y name) p w
rule_pointed_member_address f c {d = d} {e = e} {h = h} p y name v w a b = makes_map d h _ _ (λ final g pl k. x.pointed_member_address k.0 k.1) (makes_then d e h _ _ a b)

-- ---- what isn't used

pub rule_unused_increment : (f : Typed) (c : Scope) {d e : Sketch} (p : Place) (y : Exp) (v : Opnd) → MakesSteps f c d e y p (behind y p) op.Add false v → MakesUnused f c d e (Exp-F.PostInc y) p
rule_unused_increment f c {d = d} {e = e} p y v a = makes_map d e _ _ (λ final g pl k. x.unused_increment k) a

pub rule_unused_decrement : (f : Typed) (c : Scope) {d e : Sketch} (p : Place) (y : Exp) (v : Opnd) → MakesSteps f c d e y p (behind y p) op.Sub false v → MakesUnused f c d e (Exp-F.PostDec y) p
rule_unused_decrement f c {d = d} {e = e} p y v a = makes_map d e _ _ (λ final g pl k. x.unused_decrement k) a

pub rule_unused_paren : (f : Typed) (c : Scope) {d e : Sketch} (p : Place) (y : Exp) → MakesUnused f c d e (out-Exp y) (next p) → MakesUnused f c d e (Exp-F.Paren y) p
rule_unused_paren f c {d = d} {e = e} p y a = makes_map d e _ _ (λ final g pl k. x.unused_paren k) a

pub rule_unused_comma : (f : Typed) (c : Scope) {d e h : Sketch} (p : Place) (y z : Exp) → MakesUnused f c d e (out-Exp y) p → MakesUnused f c e h (out-Exp z) (next (behind y p)) → MakesUnused f c d h (Exp-F.Comma y z) p
rule_unused_comma f c {d = d} {e = e} {h = h} p y z a b = makes_map d h _ _ (λ final g pl k. x.unused_comma k.0 k.1) (makes_then d e h _ _ a b)

pub rule_unused_value : (f : Typed) (c : Scope) {d e : Sketch} (p : Place) (y : Layer) (v : Opnd) → IsSameUnused y → MakesValue f c d e y p v → MakesUnused f c d e y p
rule_unused_value f c {d = d} {e = e} p y v same a = makes_map d e _ _ (λ final g pl k. x.unused_value same k) a
