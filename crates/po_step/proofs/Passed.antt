-- Operands that are passed, one more at a time.
use Rattle.std.specs.Prelude.{ℕ, zero, suc, ◌+◌, ◌≡◌, ◌≤◌, ◌<◌, ◌⊎◌, List, [], ◌∷◌, ◌++◌, Some, None, length, slice_get, slice_index_or}
use Rattle.std.proofs.Common.{refl, sym, ap, ◌∙◌, subst, arith, inl, inr, length-append}
use Rattle.po_base.specs.declared.operand.Opnd.{Opnd}
use Rattle.po_ir.specs.declared.instr.Ty.{Ty}
use Rattle.po_memory.specs.declared.frame.Frame.{Frame}
use Rattle.po_memory.specs.declared.value.Value.{Value}
use Rattle.po_meaning.specs.Operands.{ArePassed}
use Rattle.po_step.specs.Passing.{IsPassedAs, ArePassedUpTo}

same_operand : (a b : Opnd) → Some a ≡ Some b → a ≡ b
same_operand a b same = cc

same_of : (v w : Value) → Some v ≡ Some w → v ≡ w
same_of v w same = cc

-- each operand has a value
passed_at : (frame : Frame) (types : List Ty) (args : List Opnd) (values : List Value) → ArePassed frame types args values → (j : ℕ) (a : Opnd) → slice_get args j ≡ Some a → (v : Value) × IsPassedAs frame (slice_get types j) a v
passed_at frame [] [] values are j a here = absurd (cc)
passed_at frame [] (b ∷ args) [] are j a here = absurd are
passed_at frame [] (b ∷ args) (v ∷ values) are zero a here = (v, subst (λ (x : Opnd). IsPassedAs frame None x v) (same_operand b a here) are.0)
passed_at frame [] (b ∷ args) (v ∷ values) are (suc j) a here = passed_at frame [] args values are.1 j a here
passed_at frame (t ∷ types) [] values are j a here = absurd are
passed_at frame (t ∷ types) (b ∷ args) [] are j a here = absurd are
passed_at frame (t ∷ types) (b ∷ args) (v ∷ values) are zero a here = (v, subst (λ (x : Opnd). IsPassedAs frame (Some t) x v) (same_operand b a here) are.0)
passed_at frame (t ∷ types) (b ∷ args) (v ∷ values) are (suc j) a here = passed_at frame types args values are.1 j a here

pub types_few : (frame : Frame) (types : List Ty) (args : List Opnd) (values : List Value) → ArePassed frame types args values → length types ≤ length args
types_few frame [] args values are = omega arith
types_few frame (t ∷ types) [] values are = absurd are
types_few frame (t ∷ types) (a ∷ args) [] are = absurd are
types_few frame (t ∷ types) (a ∷ args) (v ∷ values) are = let rest = types_few frame types args values are.1 in omega (arith, rest)

-- all have these
pub passed_of : (frame : Frame) (types : List Ty) (args : List Opnd) (values : List Value) → length types ≤ length args → length values ≡ length args →
    ((j : ℕ) (a : Opnd) (v : Value) → slice_get args j ≡ Some a → slice_get values j ≡ Some v → IsPassedAs frame (slice_get types j) a v) → ArePassed frame types args values
passed_of frame [] [] [] few count each = tt
passed_of frame [] [] (v ∷ values) few count each = absurd (omega (arith, count))
passed_of frame [] (a ∷ args) [] few count each = absurd (omega (arith, count))
passed_of frame [] (a ∷ args) (v ∷ values) few count each = (each 0 a v refl refl, passed_of frame [] args values (omega arith) (omega (arith, count)) (λ j b w. each (suc j) b w))
passed_of frame (t ∷ types) [] values few count each = absurd (omega (arith, few))
passed_of frame (t ∷ types) (a ∷ args) [] few count each = absurd (omega (arith, count))
passed_of frame (t ∷ types) (a ∷ args) (v ∷ values) few count each = (each 0 a v refl refl, passed_of frame types args values (omega (arith, few)) (omega (arith, count)) (λ j b w. each (suc j) b w))

-- the items of a list with one behind it
behind : (xs : List Value) (j : ℕ) (v w : Value) → slice_get (xs ++ v ∷ []) j ≡ Some w → (slice_get xs j ≡ Some w) ⊎ ((j ≡ length xs) × (v ≡ w))
behind [] zero v w here = inr (refl, same_of v w here)
behind [] (suc j) v w here = absurd (cc)
behind (x ∷ xs) zero v w here = inl here
behind (x ∷ xs) (suc j) v w here = by (behind xs j v w here)
  where
    by : (slice_get xs j ≡ Some w) ⊎ ((j ≡ length xs) × (v ≡ w)) → (slice_get (x ∷ xs) (suc j) ≡ Some w) ⊎ ((suc j ≡ length (x ∷ xs)) × (v ≡ w))
    by (inl is) = inl is
    by (inr is) = inr (ap suc is.0, is.1)

-- one more
passed_more : (frame : Frame) (types : List Ty) (args : List Opnd) (k : ℕ) (values : List Value) (a : Opnd) (v : Value) → ArePassedUpTo frame types args k values → slice_get args k ≡ Some a → IsPassedAs frame (slice_get types k) a v →
    ArePassedUpTo frame types args (k + 1) (values ++ v ∷ [])
passed_more frame types args k values a v before here is = record {
  count = let size = before.count in length-append values (v ∷ []) ∙ omega (arith, size);
  each = λ j b w there found. by j b w there (behind values j v w found);
}
  where
    by : (j : ℕ) (b : Opnd) (w : Value) → slice_get args j ≡ Some b → (slice_get values j ≡ Some w) ⊎ ((j ≡ length values) × (v ≡ w)) → IsPassedAs frame (slice_get types j) b w
    by j b w there (inl found) = before.each j b w there found
    by j b w there (inr last) =
        let at : k ≡ j = sym (last.0 ∙ before.count) in
        let same : a ≡ b = same_operand a b (sym here ∙ (ap (λ (n : ℕ). slice_get args n) at ∙ there)) in
        subst (λ (n : ℕ). IsPassedAs frame (slice_get types n) b w) at (subst (λ (x : Opnd). IsPassedAs frame (slice_get types k) x w) same (subst (IsPassedAs frame (slice_get types k) a) last.1 is))

-- ---- items by index

pub index_there : {X : Type 0} (xs : List X) (i : ℕ) (d : X) → i < length xs → slice_get xs i ≡ Some (slice_index_or xs i d)
index_there [] i d inside = absurd (omega (arith, inside))
index_there (x ∷ xs) zero d inside = refl
index_there (x ∷ xs) (suc i) d inside = index_there xs i d (omega (arith, inside))

pub passed_there : (frame : Frame) (types : List Ty) (args : List Opnd) (values : List Value) → ArePassed frame types args values → (k : ℕ) (d : Opnd) → k < length args →
    ((v : Value) → IsPassedAs frame (slice_get types k) (slice_index_or args k d) v → ⊥) → ⊥
passed_there frame types args values are k d inside no_value = let found = passed_at frame types args values are k (slice_index_or args k d) (index_there args k d inside) in no_value found.0 found.1

pub passed_next : (frame : Frame) (types : List Ty) (args : List Opnd) (k : ℕ) (values : List Value) (d : Opnd) (v : Value) → ArePassedUpTo frame types args k values → k < length args → IsPassedAs frame (slice_get types k) (slice_index_or args k d) v →
    ArePassedUpTo frame types args (k + 1) (values ++ v ∷ [])
passed_next frame types args k values d v before inside is = passed_more frame types args k values (slice_index_or args k d) v before (index_there args k d inside) is
