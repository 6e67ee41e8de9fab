-- What forms without jumps add to a draft.
use Rattle.std.proofs.Common.{◌≡◌, ℕ, List, [], ◌∷◌, length, true, false}
use Rattle.std.specs.Prelude.{ℤ, pos, Some, None}
use Rattle.po_base.specs.declared.operators.Op.{Op}
use Rattle.po_base.specs.declared.operators.Op.TheVariants as op
use Rattle.po_base.specs.declared.operators.UnOp.TheVariants as un
use Rattle.po_base.specs.declared.numbers.RegNo.{RegNo}
use Rattle.po_base.specs.declared.operand.Opnd.{Opnd}
use Rattle.po_base.specs.declared.operand.Opnd.TheVariants as o
use Rattle.po_arith.specs.declared.int_type.IntType.{IntType}
use Rattle.po_ir.specs.declared.instr.Callee.TheVariants.{Extern}
use Rattle.po_ir.specs.declared.instr.Instr.TheVariants as ins
use Rattle.po_tree.specs.declared.expression.Exp.{Exp, out-Exp}
use Rattle.po_tree.specs.declared.expression.Exp.TheOpen.{Exp-F}
use Rattle.po_tree.specs.declared.expression.TypeName.{TypeName}
use Rattle.po_types.specs.Types.{integer}
use Rattle.po_lowering.specs.declared.var.Var.TheVariants as var
use Rattle.po_lowering.specs.Places.{Place, next, behind, head_of, head_in, operand_of_cast}
use Rattle.po_lowering.specs.Typed.{Typed, type_at, type_of, conversion_of, spot_at}
use Rattle.po_lowering.specs.Types.{register_type, is_void}
use Rattle.po_lowering.specs.Temporaries.{reg}
use Rattle.po_lowering.specs.Conversions.{tested, combines}
use Rattle.po_lowering.specs.Naming.{Scope, variable, enumerator, named, changes}
use Rattle.po_lowering.specs.Forms.{Layer, IsObject}
use Rattle.po_lowering.specs.Expressions as x
use Rattle.po_lowering.specs.Expressions.{Value, nothing}
use Rattle.po_draft.specs.Sketches.{Sketch}
use Rattle.po_draft.proofs.Making.{makes_none, makes_then, makes_map}
use Rattle.po_lower_nodes.specs.Groups.{AddsNode, AddsValue, AddsHolding}
use Rattle.po_lower_forms.specs.Made.{MakesValue, MakesOperand, MakesBoth, MakesArguments, MakesAddress, MakesUnused, AddsConversion, AddsReading}
use Rattle.po_lower_forms.proofs.Groups.{computed, stood}

-- ---- no nodes

pub rule_number : (f : Typed) (c : Scope) (d : Sketch) (p : Place) (text : List ℕ) (n : ℤ) → f.constants p.number ≡ Some n → MakesValue f c d d (Exp-F.Num text) p (o.Num n)
rule_number f c d p text n q = makes_none d _ (λ final g. x.number q)

pub rule_character : (f : Typed) (c : Scope) (d : Sketch) (p : Place) (text : List ℕ) (n : ℤ) → f.constants p.number ≡ Some n → MakesValue f c d d (Exp-F.Chr text) p (o.Num n)
rule_character f c d p text n q = makes_none d _ (λ final g. x.character q)

pub rule_size_of_expression : (f : Typed) (c : Scope) (d : Sketch) (p : Place) (y : Exp) (n : ℤ) → f.constants p.number ≡ Some n → MakesValue f c d d (Exp-F.SizeExp y) p (o.Num n)
rule_size_of_expression f c d p y n q = makes_none d _ (λ final g. x.size_of_expression q)

pub rule_size_of_type : (f : Typed) (c : Scope) (d : Sketch) (p : Place) (t : TypeName) (n : ℤ) → f.constants p.number ≡ Some n → MakesValue f c d d (Exp-F.SizeType t) p (o.Num n)
rule_size_of_type f c d p t n q = makes_none d _ (λ final g. x.size_of_type q)

pub rule_constant_name : (f : Typed) (c : Scope) (d : Sketch) (p : Place) (name : List ℕ) (n : ℤ) → named f c name p ≡ enumerator n → MakesValue f c d d (Exp-F.Var name) p (o.Num n)
rule_constant_name f c d p name n q = makes_none d _ (λ final g. x.constant_name q)

pub rule_register_name : (f : Typed) (c : Scope) (d : Sketch) (p : Place) (name : List ℕ) (r : RegNo) → named f c name p ≡ variable (var.Reg r) → MakesValue f c d d (Exp-F.Var name) p (o.Reg r)
rule_register_name f c d p name r q = makes_none d _ (λ final g. x.register_name q)

-- ---- one operand

pub rule_paren : (f : Typed) (c : Scope) {d e : Sketch} (p : Place) (y : Exp) (v : Opnd) → MakesValue f c d e (out-Exp y) (next p) v → MakesValue f c d e (Exp-F.Paren y) p v
rule_paren f c {d = d} {e = e} p y v a = makes_map d e _ _ (λ final g pl k. x.paren k) a

pub rule_plus : (f : Typed) (c : Scope) {d e : Sketch} (p : Place) (y : Exp) (v : Opnd) → MakesOperand f c d e y (next p) v → MakesValue f c d e (Exp-F.Plus y) p v
rule_plus f c {d = d} {e = e} p y v a = makes_map d e _ _ (λ final g pl k. x.plus k) a

pub rule_address_of : (f : Typed) (c : Scope) {d e : Sketch} (p : Place) (y : Exp) (v : Opnd) → MakesAddress f c d e (out-Exp y) (next p) v → MakesValue f c d e (Exp-F.Addr y) p v
rule_address_of f c {d = d} {e = e} p y v a = makes_map d e _ _ (λ final g pl k. x.address_of k) a

pub rule_object : (f : Typed) (c : Scope) {d e h : Sketch} (p : Place) (y : Layer) (v w : Opnd) → IsObject y → MakesAddress f c d e y p v → AddsReading f e h (spot_at f (head_in y p)) (type_at f (head_in y p)) v w →
    MakesValue f c d h y p w
rule_object f c {d = d} {e = e} {h = h} p y v w is a b = makes_map d h _ _ (λ final g pl k. x.object is k.0 k.1) (makes_then d e h _ _ a b)

pub rule_minus : (f : Typed) (c : Scope) {d e h : Sketch} (p : Place) (y : Exp) (v w : Opnd) (t : IntType) → MakesOperand f c d e y (next p) v → integer (type_at f p) ≡ Some t →
    AddsValue e h (register_type (type_at f p)) (λ r. ins.Un (reg r) un.Neg t v) (spot_at f p) w → MakesValue f c d h (Exp-F.Minus y) p w
rule_minus f c {d = d} {e = e} {h = h} p y v w t a q b =
    makes_map d h _ _ (λ final g pl k. computed (λ z n. Value f c final d.state (length d.nodes) (Exp-F.Minus y) p z n h.state) k.1 (λ r takes at. x.minus k.0 q takes at)) (makes_then d e h _ _ a b)

pub rule_complement : (f : Typed) (c : Scope) {d e h : Sketch} (p : Place) (y : Exp) (v w : Opnd) (t : IntType) → MakesOperand f c d e y (next p) v → integer (type_at f p) ≡ Some t →
    AddsValue e h (register_type (type_at f p)) (λ r. ins.Un (reg r) un.Not t v) (spot_at f p) w → MakesValue f c d h (Exp-F.Compl y) p w
rule_complement f c {d = d} {e = e} {h = h} p y v w t a q b =
    makes_map d h _ _ (λ final g pl k. computed (λ z n. Value f c final d.state (length d.nodes) (Exp-F.Compl y) p z n h.state) k.1 (λ r takes at. x.complement k.0 q takes at)) (makes_then d e h _ _ a b)

pub rule_not : (f : Typed) (c : Scope) {d e h : Sketch} (p : Place) (y : Exp) (v w : Opnd) → MakesValue f c d e (out-Exp y) (next p) v →
    AddsValue e h (register_type (type_at f p)) (λ r. ins.Bin (reg r) op.Eq (tested (type_of f y (next p))) v (o.Num (pos 0))) (spot_at f p) w → MakesValue f c d h (Exp-F.Not y) p w
rule_not f c {d = d} {e = e} {h = h} p y v w a b =
    makes_map d h _ _ (λ final g pl k. computed (λ z n. Value f c final d.state (length d.nodes) (Exp-F.Not y) p z n h.state) k.1 (λ r takes at. x.not_value k.0 takes at)) (makes_then d e h _ _ a b)

pub rule_cast : (f : Typed) (c : Scope) {d e h : Sketch} (p : Place) (t : TypeName) (y : Exp) (v w : Opnd) → is_void (type_at f p) ≡ false → MakesValue f c d e (out-Exp y) (operand_of_cast t p) v →
    AddsConversion f e h (spot_at f p) (type_of f y (operand_of_cast t p)) (type_at f p) v w → MakesValue f c d h (Exp-F.Cast t y) p w
rule_cast f c {d = d} {e = e} {h = h} p t y v w q a b = makes_map d h _ _ (λ final g pl k. x.cast q k.0 k.1) (makes_then d e h _ _ a b)

pub rule_void_cast : (f : Typed) (c : Scope) {d e : Sketch} (p : Place) (t : TypeName) (y : Exp) → is_void (type_at f p) ≡ true → MakesUnused f c d e (out-Exp y) (operand_of_cast t p) →
    MakesValue f c d e (Exp-F.Cast t y) p nothing
rule_void_cast f c {d = d} {e = e} p t y q a = makes_map d e _ _ (λ final g pl k. x.void_cast q k) a

-- ---- two operands

pub rule_operand : (f : Typed) (c : Scope) {d e h : Sketch} (p : Place) (y : Exp) (v w : Opnd) → MakesValue f c d e (out-Exp y) p v →
    AddsConversion f e h (spot_at f (head_of y p)) (type_of f y p) (conversion_of f y p) v w → MakesOperand f c d h y p w
rule_operand f c {d = d} {e = e} {h = h} p y v w a b = makes_map d h _ _ (λ final g pl k. x.operand k.0 k.1) (makes_then d e h _ _ a b)

pub rule_both : (f : Typed) (c : Scope) {d e h k : Sketch} (p : Place) (y z : Exp) (u v w : Opnd) → MakesOperand f c d e y p u → AddsHolding e h (spot_at f (head_of y p)) u (changes c u (z ∷ [])) v →
    MakesOperand f c h k z (next (behind y p)) w → MakesBoth f c d k y z p v w
rule_both f c {d = d} {e = e} {h = h} {k = k} p y z u v w a b m = makes_map d k _ _ (λ final g pl i. x.both i.0.0 i.0.1 i.1) (makes_then d h k _ _ (makes_then d e h _ _ a b) m)

pub rule_binary : (f : Typed) (c : Scope) {d e h : Sketch} (p : Place) (operator : Op) (y z : Exp) (v w u : Opnd) → MakesBoth f c d e y z p v w →
    AddsValue e h (register_type (type_at f (behind y p))) (λ r. combines f operator (conversion_of f y p) (conversion_of f z (next (behind y p))) v w r) (spot_at f (behind y p)) u →
    MakesValue f c d h (Exp-F.Binary operator y z) p u
rule_binary f c {d = d} {e = e} {h = h} p operator y z v w u a b =
    makes_map d h _ _ (λ final g pl k. computed (λ i n. Value f c final d.state (length d.nodes) (Exp-F.Binary operator y z) p i n h.state) k.1 (λ r takes at. x.binary k.0 takes at)) (makes_then d e h _ _ a b)

pub rule_comma : (f : Typed) (c : Scope) {d e h : Sketch} (p : Place) (y z : Exp) (v : Opnd) → MakesUnused f c d e (out-Exp y) p → MakesOperand f c e h z (next (behind y p)) v → MakesValue f c d h (Exp-F.Comma y z) p v
rule_comma f c {d = d} {e = e} {h = h} p y z v a b = makes_map d h _ _ (λ final g pl k. x.comma k.0 k.1) (makes_then d e h _ _ a b)

-- ---- calls

pub rule_call : (f : Typed) (c : Scope) {d e h : Sketch} (p : Place) (y : Exp) (name : List ℕ) (ys : List Exp) (vs : List Opnd) (w : Opnd) → out-Exp y ≡ Exp-F.Var name → MakesArguments f c d e ys (next (behind y p)) vs →
    is_void (type_at f (behind y p)) ≡ false →
    AddsValue e h (register_type (type_at f (behind y p))) (λ r. ins.Call (Some (reg r)) (Extern name) vs (f.strings (behind y p).number)) (spot_at f (behind y p)) w → MakesValue f c d h (Exp-F.Call y ys) p w
rule_call f c {d = d} {e = e} {h = h} p y name ys vs w is a q b =
    makes_map d h _ _ (λ final g pl k. computed (λ i n. Value f c final d.state (length d.nodes) (Exp-F.Call y ys) p i n h.state) k.1 (λ r takes at. x.call is k.0 q takes at)) (makes_then d e h _ _ a b)

pub rule_void_call : (f : Typed) (c : Scope) {d e h : Sketch} (p : Place) (y : Exp) (name : List ℕ) (ys : List Exp) (vs : List Opnd) → out-Exp y ≡ Exp-F.Var name → MakesArguments f c d e ys (next (behind y p)) vs →
    is_void (type_at f (behind y p)) ≡ true → AddsNode e h (λ g. ins.Call None (Extern name) vs (f.strings (behind y p).number)) (spot_at f (behind y p)) → MakesValue f c d h (Exp-F.Call y ys) p nothing
rule_void_call f c {d = d} {e = e} {h = h} p y name ys vs is a q b =
    makes_map d h _ _ (λ final g pl k. stood (λ n s. Value f c final d.state (length d.nodes) (Exp-F.Call y ys) p nothing n s) k.1 (λ at. x.void_call is k.0 q at)) (makes_then d e h _ _ a b)
