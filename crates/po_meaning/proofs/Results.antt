-- What operators give lies in the type of the register that gets it.
use Rattle.std.specs.Prelude.{◌≡◌, ◌⊎◌, ℤ, pos, Bool, true, false, cond, List, [], ◌∷◌, ◌++◌, Option, Some, None, IfSome}
use Rattle.std.proofs.Common.{refl, subst, inl, inr}
use Rattle.std.specs.List.{cons_option}
use Rattle.po_base.specs.declared.operators.Op.{Op}
use Rattle.po_base.specs.declared.operators.Op.TheVariants as op
use Rattle.po_base.specs.declared.operators.UnOp.{UnOp}
use Rattle.po_arith.specs.declared.int_type.IntType.{IntType}
use Rattle.po_arith.specs.Types.{IsIntType, IsOfType}
use Rattle.po_interval.specs.declared.members.Members.TheVariants.{Few, Any}
use Rattle.po_interval.specs.Members.{AreOfType}
use Rattle.po_interval.specs.Results.{truth, binary, unary, conv}
use Rattle.po_interval.specs.Gathering.{gathered, BinMembersCover, ResultsAreOfType}
use Rattle.po_ir.specs.declared.instr.Ty.{Ty}
use Rattle.po_ir.specs.declared.instr.Ty.TheVariants.{Int, Ptr}
use Rattle.po_ir.specs.Types.{IsKept, HasTruth, is_comparison}
use Rattle.po_memory.specs.declared.value.Value.{Value}
use Rattle.po_memory.specs.declared.value.Value.TheVariants.{Number, Null, Pointer, Wild}
use Rattle.po_memory.specs.Bytes.{LiesIn}
use Rattle.po_meaning.specs.Pointers.{MayCompare}

-- a value of a type that is kept in another is one of that
pub kept_value : (s t : Ty) (v : Value) → IsKept s t → LiesIn s v → LiesIn t v
kept_value (Int s) (Int t) (Number v) kept lies = kept v lies
kept_value (Int s) (Int t) Null kept lies = absurd lies
kept_value (Int s) (Int t) (Pointer block offset) kept lies = absurd lies
kept_value (Int s) (Int t) Wild kept lies = absurd lies
kept_value (Int s) Ptr v kept lies = absurd kept
kept_value Ptr (Int t) v kept lies = absurd kept
kept_value Ptr Ptr v kept lies = lies

-- the one result
one_result : (t : IntType) (o : Option ℤ) (x : ℤ) → o ≡ Some x → IfSome (gathered (cons_option o [])) (AreOfType t) → IsOfType t x
one_result t o x is given = let found : IfSome (gathered (cons_option (Some x) [])) (AreOfType t) = subst (λ (r : Option ℤ). IfSome (gathered (cons_option r [])) (AreOfType t)) is given in found x (inl refl)

module _ (of_type : ResultsAreOfType) where
  pub unary_lies : (o : UnOp) (t : IntType) (v x : ℤ) → unary o t v ≡ Some x → IsOfType t x
  unary_lies o t v x is = one_result t (unary o t v) x is (of_type.unary o t (Few (v ∷ []))).of_type

  pub conv_lies : (t : IntType) (v x : ℤ) → conv t v ≡ Some x → IsOfType t x
  conv_lies t v x is = one_result t (conv t v) x is (of_type.converted t (Few (v ∷ []))).of_type

  pub binary_lies : (o : Op) (t : IntType) (v w x : ℤ) → IsIntType t → binary o t v w ≡ Some x → IsOfType t x
  binary_lies o t v w x int is = one_result t (binary o t v w) x is (subst (λ (l : List ℤ). IfSome (gathered l) (AreOfType t)) (nothing_behind (binary o t v w)) (of_type.binary o t (Few (v ∷ [])) (Few (w ∷ [])) int).of_type)
    where
      nothing_behind : (r : Option ℤ) → cons_option r [] ++ [] ≡ cons_option r []
      nothing_behind None = refl
      nothing_behind (Some y) = refl

  -- a comparison gives 0 or 1
  two_lie : (u : IntType) (x : ℤ) → IsOfType u (pos 0) → IsOfType u (pos 1) → (pos 0 ≡ x) ⊎ ((pos 1 ≡ x) ⊎ ⊥) → IsOfType u x
  two_lie u x zero_lies one_lies (inl same) = subst (IsOfType u) same zero_lies
  two_lie u x zero_lies one_lies (inr (inl same)) = subst (IsOfType u) same one_lies
  two_lie u x zero_lies one_lies (inr (inr none)) = absurd none

  truth_fits : (t : Ty) (x : ℤ) → HasTruth t → (pos 0 ≡ x) ⊎ ((pos 1 ≡ x) ⊎ ⊥) → LiesIn t (Number x)
  truth_fits (Int u) x both among = two_lie u x both.0 both.1 among
  truth_fits Ptr x both among = absurd both

  -- the result of an operator on numbers, in the register that gets it
  pub number_fits : ((o : Op) → BinMembersCover o) → (o : Op) (t : IntType) (r : Ty) (v w x : ℤ) → IsIntType t → cond (is_comparison o) (HasTruth r) (IsKept (Int t) r) → binary o t v w ≡ Some x → LiesIn r (Number x)
  number_fits cover op.Add t r v w x int fits is = kept_value (Int t) r (Number x) fits (binary_lies op.Add t v w x int is)
  number_fits cover op.Sub t r v w x int fits is = kept_value (Int t) r (Number x) fits (binary_lies op.Sub t v w x int is)
  number_fits cover op.Mul t r v w x int fits is = kept_value (Int t) r (Number x) fits (binary_lies op.Mul t v w x int is)
  number_fits cover op.Div t r v w x int fits is = kept_value (Int t) r (Number x) fits (binary_lies op.Div t v w x int is)
  number_fits cover op.Rem t r v w x int fits is = kept_value (Int t) r (Number x) fits (binary_lies op.Rem t v w x int is)
  number_fits cover op.And t r v w x int fits is = kept_value (Int t) r (Number x) fits (binary_lies op.And t v w x int is)
  number_fits cover op.Or t r v w x int fits is = kept_value (Int t) r (Number x) fits (binary_lies op.Or t v w x int is)
  number_fits cover op.Xor t r v w x int fits is = kept_value (Int t) r (Number x) fits (binary_lies op.Xor t v w x int is)
  number_fits cover op.Shl t r v w x int fits is = kept_value (Int t) r (Number x) fits (binary_lies op.Shl t v w x int is)
  number_fits cover op.Shr t r v w x int fits is = kept_value (Int t) r (Number x) fits (binary_lies op.Shr t v w x int is)
  number_fits cover op.Eq t r v w x int fits is = truth_fits r x fits (cover op.Eq t Any Any v w x int tt tt is)
  number_fits cover op.Ne t r v w x int fits is = truth_fits r x fits (cover op.Ne t Any Any v w x int tt tt is)
  number_fits cover op.Lt t r v w x int fits is = truth_fits r x fits (cover op.Lt t Any Any v w x int tt tt is)
  number_fits cover op.Le t r v w x int fits is = truth_fits r x fits (cover op.Le t Any Any v w x int tt tt is)
  number_fits cover op.Gt t r v w x int fits is = truth_fits r x fits (cover op.Gt t Any Any v w x int tt tt is)
  number_fits cover op.Ge t r v w x int fits is = truth_fits r x fits (cover op.Ge t Any Any v w x int tt tt is)

truth_lies : (t : Ty) (holds : Bool) → HasTruth t → LiesIn t (Number (truth holds))
truth_lies (Int u) true both = both.1
truth_lies (Int u) false both = both.0
truth_lies Ptr holds both = absurd both

-- the result of a comparison of pointers
pub comparison_fits : (o : Op) (t : Ty) (v w : Value) (holds : Bool) → cond (is_comparison o) (HasTruth t) (IsKept Ptr t) → MayCompare o v w holds → LiesIn t (Number (truth holds))
comparison_fits op.Add t v w holds fits may = absurd may
comparison_fits op.Sub t v w holds fits may = absurd may
comparison_fits op.Mul t v w holds fits may = absurd may
comparison_fits op.Div t v w holds fits may = absurd may
comparison_fits op.Rem t v w holds fits may = absurd may
comparison_fits op.And t v w holds fits may = absurd may
comparison_fits op.Or t v w holds fits may = absurd may
comparison_fits op.Xor t v w holds fits may = absurd may
comparison_fits op.Shl t v w holds fits may = absurd may
comparison_fits op.Shr t v w holds fits may = absurd may
comparison_fits op.Eq t v w holds fits may = truth_lies t holds fits
comparison_fits op.Ne t v w holds fits may = truth_lies t holds fits
comparison_fits op.Lt t v w holds fits may = truth_lies t holds fits
comparison_fits op.Le t v w holds fits may = truth_lies t holds fits
comparison_fits op.Gt t v w holds fits may = truth_lies t holds fits
comparison_fits op.Ge t v w holds fits may = truth_lies t holds fits
