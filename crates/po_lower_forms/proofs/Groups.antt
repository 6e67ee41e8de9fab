-- A group of nodes as the last part of a form.
use Rattle.std.proofs.Common.{◌≡◌, ℕ, ◌+◌, List, sym, ap, subst}
use Rattle.po_base.specs.declared.operand.Opnd.{Opnd}
use Rattle.po_base.specs.declared.operand.Opnd.TheVariants as o
use Rattle.po_base.specs.declared.spot.Spot.{Spot}
use Rattle.po_ir.specs.declared.instr.Ty.{Ty}
use Rattle.po_ir.specs.declared.instr.Instr.{Instr}
use Rattle.po_ir.specs.declared.graph.Node.{Node}
use Rattle.po_lowering.specs.Temporaries.{State, At, Takes, register}
use Rattle.po_lower_nodes.specs.Groups.{Stands, Computes}

-- what holds of the node's result, of the place behind it and of what is passed on
pub computed : {ns : List Node} {s t : State} {a b : ℕ} {ty : Ty} {instr : ℕ → Instr} {spot : Spot} {v : Opnd} (F : Opnd → ℕ → Type 0) → Computes ns s a ty instr spot v b t →
    ((r : ℕ) → Takes ty s r t → At ns a (instr r) spot → F (register r) (a + 1)) → F v b
computed {b = b} F k f = subst (λ z. F z b) (sym k.is_value) (subst (F (register k.number)) (sym k.ends) (f k.number k.takes k.here))

pub stood : {ns : List Node} {s t : State} {a b : ℕ} {instr : Instr} {spot : Spot} (F : ℕ → State → Type 0) → Stands ns s a instr spot b t → (At ns a instr spot → F (a + 1) s) → F b t
stood {s = s} {b = b} F k f = subst (F b) (sym k.same) (subst (λ z. F z s) (sym k.ends) (f k.here))

number_in : Opnd → ℕ
number_in (o.Num n) = 0
number_in (o.Reg r) = r.0

one_register : (m n : ℕ) → register m ≡ register n → m ≡ n
unfolding number_in
one_register m n q = ap number_in q

-- the same where the register is known
pub computed_in : {ns : List Node} {s t : State} {a b : ℕ} {ty : Ty} {instr : ℕ → Instr} {spot : Spot} (q : ℕ) (F : ℕ → Type 0) → Computes ns s a ty instr spot (register q) b t →
    (Takes ty s q t → At ns a (instr q) spot → F (a + 1)) → F b
computed_in {ns = ns} {s = s} {t = t} {a = a} {ty = ty} {instr = instr} {spot = spot} q F k f =
    let same : k.number ≡ q = one_register k.number q (sym k.is_value) in
    subst F (sym k.ends) (f (subst (λ n. Takes ty s n t) same k.takes) (subst (λ n. At ns a (instr n) spot) same k.here))
