-- Which instruction combines, steps and stores, by the operator and the type.
use Rattle.std.specs.Prelude.{ℕ, ◌≡◌, ℤ, pos, neg_ℤ, Bool, true, false, cond}
use Rattle.std.proofs.Common.{refl, ap, sym, ◌∙◌, ◌≢◌}
use Rattle.po_base.specs.declared.operators.Op.{Op}
use Rattle.po_base.specs.declared.operators.Op.TheVariants as op
use Rattle.po_base.specs.declared.operand.Opnd.{Opnd}
use Rattle.po_base.specs.declared.operand.Opnd.TheVariants as o
use Rattle.po_ir.specs.declared.instr.Access.{Access}
use Rattle.po_ir.specs.declared.instr.Instr.{Instr}
use Rattle.po_ir.specs.declared.instr.Instr.TheVariants as ins
use Rattle.po_types.specs.declared.ctype.CType.{CType}
use Rattle.po_lowering.specs.Typed.{Typed}
use Rattle.po_lowering.specs.Types.{register_type, is_address, is_struct, access_of}
use Rattle.po_lowering.specs.Temporaries.{reg}
use Rattle.po_lowering.specs.Conversions.{adds, subtracts, combines, steps, step_of, signed_size, step_size, store}

pub combines_Add : (f : Typed) (t u : CType) (v w : Opnd) (r : ℕ) → combines f op.Add t u v w r ≡ adds f (is_address t) (is_address u) t u v w r
unfolding combines
combines_Add f t u v w r = refl

pub combines_Sub : (f : Typed) (t u : CType) (v w : Opnd) (r : ℕ) → combines f op.Sub t u v w r ≡ subtracts f (is_address t) (is_address u) t u v w r
unfolding combines
combines_Sub f t u v w r = refl

pub combines_other : (f : Typed) (operator : Op) (t u : CType) (v w : Opnd) (r : ℕ) → operator ≢ op.Add → operator ≢ op.Sub →
    combines f operator t u v w r ≡ ins.Bin (reg r) operator (register_type t) v w
unfolding combines
combines_other f op.Add t u v w r h k = absurd (h refl)
combines_other f op.Sub t u v w r h k = absurd (k refl)
combines_other f op.Mul t u v w r h k = refl
combines_other f op.Div t u v w r h k = refl
combines_other f op.Rem t u v w r h k = refl
combines_other f op.And t u v w r h k = refl
combines_other f op.Or t u v w r h k = refl
combines_other f op.Xor t u v w r h k = refl
combines_other f op.Shl t u v w r h k = refl
combines_other f op.Shr t u v w r h k = refl
combines_other f op.Eq t u v w r h k = refl
combines_other f op.Ne t u v w r h k = refl
combines_other f op.Lt t u v w r h k = refl
combines_other f op.Le t u v w r h k = refl
combines_other f op.Gt t u v w r h k = refl
combines_other f op.Ge t u v w r h k = refl

signed_size-other : (f : Typed) (operator : Op) (t : CType) → operator ≢ op.Sub → signed_size f operator t ≡ step_size f t
signed_size-other f op.Add t h = refl
signed_size-other f op.Sub t h = absurd (h refl)
signed_size-other f op.Mul t h = refl
signed_size-other f op.Div t h = refl
signed_size-other f op.Rem t h = refl
signed_size-other f op.And t h = refl
signed_size-other f op.Or t h = refl
signed_size-other f op.Xor t h = refl
signed_size-other f op.Shl t h = refl
signed_size-other f op.Shr t h = refl
signed_size-other f op.Eq t h = refl
signed_size-other f op.Ne t h = refl
signed_size-other f op.Lt t h = refl
signed_size-other f op.Le t h = refl
signed_size-other f op.Gt t h = refl
signed_size-other f op.Ge t h = refl

steps_by_form : (f : Typed) (operator : Op) (t : CType) (v : Opnd) (r : ℕ) → steps f operator t v r ≡ step_of f operator (is_address t) t v r
unfolding steps
steps_by_form f operator t v r = refl

pub steps_as : (f : Typed) (operator : Op) (t : CType) (v : Opnd) (r : ℕ) (b : Bool) → is_address t ≡ b → step_of f operator b t v r ≡ steps f operator t v r
steps_as f operator t v r b q = ap (λ z. step_of f operator z t v r) (sym q) ∙ sym (steps_by_form f operator t v r)

pub step_back : (f : Typed) (operator : Op) (t : CType) (v : Opnd) (r : ℕ) → operator ≡ op.Sub →
    ins.PtrAdd (reg r) v (o.Num (pos 1)) (neg_ℤ (step_size f t)) ≡ step_of f operator true t v r
step_back f operator t v r is = ap (λ z. ins.PtrAdd (reg r) v (o.Num (pos 1)) (signed_size f z t)) (sym is)

pub step_on : (f : Typed) (operator : Op) (t : CType) (v : Opnd) (r : ℕ) → operator ≢ op.Sub →
    ins.PtrAdd (reg r) v (o.Num (pos 1)) (step_size f t) ≡ step_of f operator true t v r
step_on f operator t v r other = ap (λ z. ins.PtrAdd (reg r) v (o.Num (pos 1)) z) (sym (signed_size-other f operator t other))

store_by_form : (f : Typed) (t : CType) (to v : Opnd) → store f t to v ≡ cond (is_struct t) (ins.CopyBytes to v (f.size t) (f.align t)) (ins.Store to v (access_of f t))
unfolding store
store_by_form f t to v = refl

store_as : (f : Typed) (t : CType) (to v : Opnd) (b : Bool) → is_struct t ≡ b → cond b (ins.CopyBytes to v (f.size t) (f.align t)) (ins.Store to v (access_of f t)) ≡ store f t to v
store_as f t to v b q = ap (λ z. cond z (ins.CopyBytes to v (f.size t) (f.align t)) (ins.Store to v (access_of f t))) (sym q) ∙ sym (store_by_form f t to v)

pub store_struct : (f : Typed) (t : CType) (to v : Opnd) (size align : ℕ) → is_struct t ≡ true → size ≡ f.size t → align ≡ f.align t → ins.CopyBytes to v size align ≡ store f t to v
store_struct f t to v size align q is_size is_align = ap (λ z. ins.CopyBytes to v z align) is_size ∙ ap (λ z. ins.CopyBytes to v (f.size t) z) is_align ∙ store_as f t to v true q

pub store_value : (f : Typed) (t : CType) (to v : Opnd) (access : Access) → is_struct t ≡ false → access ≡ access_of f t → ins.Store to v access ≡ store f t to v
store_value f t to v access q is = ap (ins.Store to v) is ∙ store_as f t to v false q
