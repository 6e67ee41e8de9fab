-- Operands and places in a frame in which what they stand on has an int for its value.
use Rattle.std.proofs.Common.{◌≡◌, ℕ, ◌+◌, ◌<◌, List, [], ◌∷◌, refl, sym, ◌∙◌, subst, arith, ◌⊎◌, inl, inr}
use Rattle.std.specs.Prelude.{Option, Some, None, ℤ, pos}
use Rattle.std.proofs.lemmas.Int.{ints}
use Rattle.po_base.specs.declared.operand.Opnd.{Opnd}
use Rattle.po_base.specs.declared.operand.Opnd.TheVariants.{Reg, Num}
use Rattle.po_pred.specs.declared.pred.Atom.{Atom}
use Rattle.po_pred.specs.declared.pred.Place.{Place}
use Rattle.po_pred.specs.declared.pred.Over.{Over}
use Rattle.po_pred.specs.declared.pred.Pred.{Pred}
use Rattle.po_pred.specs.declared.pred.Pred.TheVariants.{Nonzero, NoOver}
use Rattle.po_app.specs.Predicates.{IsOfType, IsMoved, MayBe, MayBeFrom, SecondMayBe, HoldsForAll}
use Rattle.po_app.specs.Obligations.{place}
use Rattle.po_app.specs.Meaning.{Value, number, Frame, atom_value, operand_value, register_value, Chooses, HasNumber, SecondChooses, SecondHasNumber, Holds}
use Rattle.po_app.proofs.Soundness.Registers.{IsIntAt, Filled}

-- a register below the limit, or an int
abbrev pub IsBefore : ℕ → Opnd → Type 0
IsBefore limit (Reg r) = r.0 < limit
IsBefore limit (Num n) = IsOfType 32 n

abbrev pub AreBefore : ℕ → List Opnd → Type 0
AreBefore limit [] = Unit {0}
AreBefore limit (a ∷ rest) = IsBefore limit a × AreBefore limit rest

pub before_more : (k l : ℕ) (a : Opnd) → k < l + 1 → IsBefore k a → IsBefore l a
before_more k l (Reg r) h b = omega arith
before_more k l (Num n) h b = b

pub all_before_more : (k l : ℕ) (list : List Opnd) → k < l + 1 → AreBefore k list → AreBefore l list
all_before_more k l [] h b = tt
all_before_more k l (a ∷ rest) h b = (before_more k l a h b.0, all_before_more k l rest h b.1)

pub same_number : (u v : ℤ) → Some (number u) ≡ Some (number v) → u ≡ v
same_number u v e = cc

-- an int that a value is
abbrev pub Known : Option Value → Type 0
Known v = (u : ℤ) × (v ≡ Some (number u)) × IsOfType 32 u

known : (v : Option Value) → IsIntAt v → Known v
known None h = absurd h
known (Some (number u)) h = (u, refl, h)

zero_int : IsOfType 32 (pos 0)
zero_int = (omega (arith, ints), omega (arith, ints))

-- an operand's value is an int
pub operand_known : (limit : ℕ) (a : Opnd) (frame : Frame) → IsBefore limit a → Filled limit frame.regs → Known (operand_value frame a)
operand_known limit (Reg r) frame before filled = known (register_value frame r.0) (filled r.0 before)
operand_known limit (Num n) frame before filled = (n, refl, before)

pub operand_int : (limit : ℕ) (a : Opnd) (frame : Frame) (v : ℤ) → IsBefore limit a → Filled limit frame.regs → operand_value frame a ≡ Some (number v) → IsOfType 32 v
operand_int limit a frame v before filled is =
    let k = operand_known limit a frame before filled in
    subst (IsOfType 32) (same_number k.0 v (sym k.1 ∙ is)) k.2

-- what the place stands on has an int for its value
abbrev pub IsReady : Frame → Place → Type 0
IsReady frame p = Known (atom_value frame p.atom)

abbrev pub SecondReady : Frame → Option Place → Type 0
SecondReady frame None = Unit {0}
SecondReady frame (Some p) = IsReady frame p

-- the same of all places of a predicate of a kind that is served
abbrev pub AreReady : Frame → Pred → Type 0
AreReady frame (Nonzero x) = IsReady frame x
AreReady frame (NoOver op bits a b) = IsReady frame a × SecondReady frame b
AreReady frame _ = ⊥

pub ready_number : (frame : Frame) (p : Place) → IsReady frame p → HasNumber frame p
ready_number frame p k = (k.0, k.1)

pub second_number : (frame : Frame) (b : Option Place) → SecondReady frame b → SecondHasNumber frame b
second_number frame None k = tt
second_number frame (Some p) k = ready_number frame p k

pub place_ready : (limit : ℕ) (a : Opnd) (frame : Frame) → IsBefore limit a → Filled limit frame.regs → IsReady frame (place a)
place_ready limit (Reg r) frame before filled = known (register_value frame r.0) (filled r.0 before)
place_ready limit (Num n) frame before filled = (pos 0, refl, zero_int)

may_be_from : (atom : Option Atom) (frame : Frame) (p : Place) (v u : ℤ) → Known (atom_value frame atom) → atom_value frame atom ≡ Some (number u) → IsMoved p u v → MayBeFrom atom p v
may_be_from None frame p v u k is moved = subst (λ w. IsMoved p w v) (sym (same_number (pos 0) u is)) moved
may_be_from (Some atom) frame p v u k is moved = (u, subst (IsOfType 32) (same_number k.0 u (sym k.1 ∙ is)) k.2, moved)

-- the numbers of a place are values that it may have
may_be : (frame : Frame) (p : Place) (v : ℤ) → IsReady frame p → Chooses frame p v → MayBe p v
may_be frame p v k c = may_be_from p.atom frame p v c.0 k c.1 c.2

second_may_be : (frame : Frame) (b : Option Place) (w : ℤ) → SecondReady frame b → SecondChooses frame b w → SecondMayBe b w
second_may_be frame None w k c = c
second_may_be frame (Some p) w k c = may_be frame p w k c

-- what holds for all values of its places holds in the frame
pub holds : (q : Pred) (frame : Frame) → AreReady frame q → HoldsForAll q → Holds frame q
holds (Nonzero x) frame k all = (ready_number frame x k, λ v c. all v (may_be frame x v k c))
holds (NoOver op bits a b) frame k all =
    (ready_number frame a k.0, second_number frame b k.1, λ v w c d. all v w (may_be frame a v k.0 c) (second_may_be frame b w k.1 d))
holds _ frame k all = absurd k

-- the operand's value is a number of its place
pub chooses : (a : Opnd) (frame : Frame) (v : ℤ) → operand_value frame a ≡ Some (number v) → Chooses frame (place a) v
chooses (Reg r) frame v is = (v, is, (omega (arith, ints), omega (arith, ints)))
chooses (Num n) frame v is = let same = same_number n v is in (pos 0, refl, (omega (arith, ints, same), omega (arith, ints, same)))

-- no other number is
pub chosen : (a : Opnd) (frame : Frame) (v u : ℤ) → operand_value frame a ≡ Some (number v) → Chooses frame (place a) u → u ≡ v
chosen (Reg r) frame v u is c = let same = same_number c.0 v (sym c.1 ∙ is) in let low = c.2.0 in let high = c.2.1 in omega (arith, ints, same, low, high)
chosen (Num n) frame v u is c =
    let same = same_number n v is in
    let none = same_number (pos 0) c.0 c.1 in
    let low = c.2.0 in
    let high = c.2.1 in
    omega (arith, ints, same, none, low, high)

-- a predicate on the divisor, or on the result
abbrev pub IsAbout : Opnd → Opnd → Pred → Type 0
IsAbout a b q = (q ≡ Nonzero (place b)) ⊎ ((o : Over) × (q ≡ NoOver o 32 (place a) (Some (place b))))

pub about_ready : (limit : ℕ) (a b : Opnd) (q : Pred) (frame : Frame) → IsAbout a b q → IsBefore limit a → IsBefore limit b → Filled limit frame.regs → AreReady frame q
about_ready limit a b q frame (inl is) a_before b_before filled = subst (AreReady frame) (sym is) (place_ready limit b frame b_before filled)
about_ready limit a b q frame (inr is) a_before b_before filled = subst (AreReady frame) (sym is.1) (place_ready limit a frame a_before filled, place_ready limit b frame b_before filled)
