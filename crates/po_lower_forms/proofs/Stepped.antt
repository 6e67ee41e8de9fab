-- A step of what typing says the code is told.
use Rattle.std.proofs.Common.{◌≡◌, ◌∙◌, ℕ, ap, subst}
use Rattle.std.specs.Prelude.{Option, Some, None, Bool}
use Rattle.po_base.specs.declared.operators.Op.{Op}
use Rattle.po_base.specs.declared.operand.Opnd.{Opnd}
use Rattle.po_base.specs.declared.spot.Spot.{Spot}
use Rattle.po_ir.specs.declared.instr.Ty.{Ty}
use Rattle.po_ir.specs.declared.instr.Instr.TheVariants as ins
use Rattle.po_tree.specs.declared.expression.Exp.{Exp, out-Exp}
use Rattle.po_types.specs.declared.ctype.CType.{CType}
use Rattle.po_lowering.specs.Places.{Place}
use Rattle.po_lowering.specs.Typed.{Typed}
use Rattle.po_lowering.specs.Types.{register_type, access_of}
use Rattle.po_lowering.specs.Temporaries.{reg, register, put, saved_or}
use Rattle.po_lowering.specs.Conversions.{steps}
use Rattle.po_lowering.specs.Naming.{Scope, register_of}
use Rattle.po_draft.specs.Sketches.{Sketch}
use Rattle.po_lower_nodes.specs.Groups.{AddsNode, AddsValue, AddsSaving}
use Rattle.po_lower_forms.specs.Made.{MakesAddress, MakesSteps, AddsConversion}
use Rattle.po_lower_forms.specs.Standing.{IsStepped}
use Rattle.po_lower_forms.proofs.Assignments.{rule_step_register, rule_step_object}

saving_along : {d e : Sketch} {spot spot' : Spot} {held held' : Ty} {old : Bool} {r : ℕ} {v : Option Opnd} → AddsSaving d e spot held old (reg r) v → spot ≡ spot' → held ≡ held' → AddsSaving d e spot' held' old (reg r) v
saving_along {d = d} {e = e} {spot = spot} {held' = held'} {old = old} {r = r} {v = v} a qs qh = subst (λ z. AddsSaving d e z held' old (reg r) v) qs (subst (λ z. AddsSaving d e spot z old (reg r) v) qh a)

step_along : (f : Typed) (operator : Op) (w : Opnd) {d e : Sketch} {spot spot' : Spot} {u u' : CType} {v : Opnd} → AddsValue d e (register_type u) (λ q. steps f operator u w q) spot v → spot ≡ spot' → u ≡ u' →
    AddsValue d e (register_type u') (λ q. steps f operator u' w q) spot' v
step_along f operator w {d = d} {e = e} {spot = spot} {u' = u'} {v = v} a qs qu =
    subst (λ z. AddsValue d e (register_type u') (λ q. steps f operator u' w q) z v) qs (subst (λ z. AddsValue d e (register_type z) (λ q. steps f operator z w q) spot v) qu a)

conversion_along : {f : Typed} {d e : Sketch} {spot spot' : Spot} {t t' u u' : CType} {v w : Opnd} → AddsConversion f d e spot u t v w → spot ≡ spot' → u ≡ u' → t ≡ t' → AddsConversion f d e spot' u' t' v w
conversion_along {f = f} {d = d} {e = e} {spot = spot} {t = t} {t' = t'} {u' = u'} {v = v} {w = w} a qs qu qt =
    subst (λ z. AddsConversion f d e z u' t' v w) qs (subst (λ z. AddsConversion f d e spot u' z v w) qt (subst (λ z. AddsConversion f d e spot z t v w) qu a))

load_along : (f : Typed) (at : Opnd) {d e : Sketch} {spot spot' : Spot} {t t' : CType} {v : Opnd} → AddsValue d e (register_type t) (λ r. ins.Load (reg r) at (access_of f t)) spot v → spot ≡ spot' → t ≡ t' →
    AddsValue d e (register_type t') (λ r. ins.Load (reg r) at (access_of f t')) spot' v
load_along f at {d = d} {e = e} {spot = spot} {t' = t'} {v = v} a qs qt =
    subst (λ z. AddsValue d e (register_type t') (λ r. ins.Load (reg r) at (access_of f t')) z v) qs (subst (λ z. AddsValue d e (register_type z) (λ r. ins.Load (reg r) at (access_of f z)) spot v) qt a)

store_along : (f : Typed) (at v : Opnd) {d e : Sketch} {spot spot' : Spot} {t t' : CType} → AddsNode d e (λ g. ins.Store at v (access_of f t)) spot → spot ≡ spot' → t ≡ t' → AddsNode d e (λ g. ins.Store at v (access_of f t')) spot'
store_along f at v {d = d} {e = e} {spot = spot} {t' = t'} a qs qt =
    subst (λ z. AddsNode d e (λ g. ins.Store at v (access_of f t')) z) qs (subst (λ z. AddsNode d e (λ g. ins.Store at v (access_of f z)) spot) qt a)

pub stepped_register : (f : Typed) (c : Scope) {d e h k l : Sketch} (p at_token : Place) (operator : Op) (old : Bool) (y : Exp) (r : ℕ) (v : Option Opnd) (i j : Opnd) (t u : CType) (spot : Spot) (held : Ty) →
    IsStepped f y p at_token t u spot → held ≡ register_type t → register_of c y ≡ Some r → AddsSaving d e spot held old (reg r) v → AddsValue e h (register_type u) (λ q. steps f operator u (register r) q) spot i →
    AddsConversion f h k spot u t i j → AddsNode k l (λ g. put r j) spot → MakesSteps f c d l y p at_token operator old (saved_or v (register r))
stepped_register f c {k = k} {l = l} p at_token operator old y r v i j t u spot held s q is a1 a2 a3 a4 =
    rule_step_register f c p at_token operator old y r v i j is (saving_along a1 s.has_spot (q ∙ ap register_type s.has_type)) (step_along f operator (register r) a2 s.has_spot s.has_conversion)
    (conversion_along a3 s.has_spot s.has_conversion s.has_type) (subst (λ z. AddsNode k l (λ g. put r j) z) s.has_spot a4)

pub stepped_object : (f : Typed) (c : Scope) {d e h k l m n : Sketch} (p at_token : Place) (operator : Op) (old : Bool) (y : Exp) (q : ℕ) (v : Option Opnd) (place i j : Opnd) (t u : CType) (spot : Spot) (held : Ty) →
    IsStepped f y p at_token t u spot → held ≡ register_type t → register_of c y ≡ None → MakesAddress f c d e (out-Exp y) p place →
    AddsValue e h (register_type t) (λ r. ins.Load (reg r) place (access_of f t)) spot (register q) → AddsSaving h k spot held old (reg q) v →
    AddsValue k l (register_type u) (λ r. steps f operator u (register q) r) spot i → AddsConversion f l m spot u t i j → AddsNode m n (λ g. ins.Store place j (access_of f t)) spot →
    MakesSteps f c d n y p at_token operator old (saved_or v j)
stepped_object f c p at_token operator old y q v place i j t u spot held s same is a1 a2 a3 a4 a5 a6 =
    rule_step_object f c p at_token operator old y q v place i j is a1 (load_along f place a2 s.has_spot s.has_type) (saving_along a3 s.has_spot (same ∙ ap register_type s.has_type)) (step_along f operator (register q) a4 s.has_spot s.has_conversion)
    (conversion_along a5 s.has_spot s.has_conversion s.has_type) (store_along f place j a6 s.has_spot s.has_type)
