-- What combines, steps and stores goes to no node.
use Rattle.std.specs.Prelude.{ℕ, ◌≡◌, Bool, true, false, cond}
use Rattle.std.proofs.Common.{refl}
use Rattle.po_base.specs.declared.operators.Op.{Op}
use Rattle.po_base.specs.declared.operators.Op.TheVariants as op
use Rattle.po_base.specs.declared.operand.Opnd.{Opnd}
use Rattle.po_ir.specs.declared.instr.Instr.{Instr}
use Rattle.po_ir.specs.declared.instr.Instr.TheVariants as ins
use Rattle.po_types.specs.declared.ctype.CType.{CType}
use Rattle.po_lowering.specs.Typed.{Typed}
use Rattle.po_lowering.specs.Types.{is_address, is_struct, access_of}
use Rattle.po_lowering.specs.Conversions.{adds, subtracts, combines, steps, step_of, store}
use Rattle.po_draft.specs.Sketches.{resolve}

resolve-adds : (g : ℕ → ℕ) (f : Typed) (first second : Bool) (t u : CType) (v w : Opnd) (r : ℕ) → resolve g (adds f first second t u v w r) ≡ adds f first second t u v w r
resolve-adds g f true second t u v w r = refl
resolve-adds g f false true t u v w r = refl
resolve-adds g f false false t u v w r = refl

resolve-subtracts : (g : ℕ → ℕ) (f : Typed) (first second : Bool) (t u : CType) (v w : Opnd) (r : ℕ) → resolve g (subtracts f first second t u v w r) ≡ subtracts f first second t u v w r
resolve-subtracts g f true true t u v w r = refl
resolve-subtracts g f true false t u v w r = refl
resolve-subtracts g f false second t u v w r = refl

pub resolve-combines : (g : ℕ → ℕ) (f : Typed) (operator : Op) (t u : CType) (v w : Opnd) (r : ℕ) → resolve g (combines f operator t u v w r) ≡ combines f operator t u v w r
unfolding combines
resolve-combines g f op.Add t u v w r = resolve-adds g f (is_address t) (is_address u) t u v w r
resolve-combines g f op.Sub t u v w r = resolve-subtracts g f (is_address t) (is_address u) t u v w r
resolve-combines g f op.Mul t u v w r = refl
resolve-combines g f op.Div t u v w r = refl
resolve-combines g f op.Rem t u v w r = refl
resolve-combines g f op.And t u v w r = refl
resolve-combines g f op.Or t u v w r = refl
resolve-combines g f op.Xor t u v w r = refl
resolve-combines g f op.Shl t u v w r = refl
resolve-combines g f op.Shr t u v w r = refl
resolve-combines g f op.Eq t u v w r = refl
resolve-combines g f op.Ne t u v w r = refl
resolve-combines g f op.Lt t u v w r = refl
resolve-combines g f op.Le t u v w r = refl
resolve-combines g f op.Gt t u v w r = refl
resolve-combines g f op.Ge t u v w r = refl

resolve-step_of : (g : ℕ → ℕ) (f : Typed) (operator : Op) (address : Bool) (t : CType) (v : Opnd) (r : ℕ) → resolve g (step_of f operator address t v r) ≡ step_of f operator address t v r
resolve-step_of g f operator true t v r = refl
resolve-step_of g f operator false t v r = refl

pub resolve-steps : (g : ℕ → ℕ) (f : Typed) (operator : Op) (t : CType) (v : Opnd) (r : ℕ) → resolve g (steps f operator t v r) ≡ steps f operator t v r
unfolding steps
resolve-steps g f operator t v r = resolve-step_of g f operator (is_address t) t v r

resolve-cond : (g : ℕ → ℕ) (b : Bool) (x y : Instr) → resolve g x ≡ x → resolve g y ≡ y → resolve g (cond b x y) ≡ cond b x y
resolve-cond g true x y p q = p
resolve-cond g false x y p q = q

pub resolve-store : (g : ℕ → ℕ) (f : Typed) (t : CType) (to v : Opnd) → resolve g (store f t to v) ≡ store f t to v
unfolding store
resolve-store g f t to v = resolve-cond g (is_struct t) (ins.CopyBytes to v (f.size t) (f.align t)) (ins.Store to v (access_of f t)) refl refl
