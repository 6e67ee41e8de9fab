-- Members of results: the results of all members that meet what their operation asks for, gathered.
use Rattle.std.specs.Prelude.{Bool, true, false, cond, ℤ, pos, List, [], ◌∷◌, ◌++◌, ◌≡◌, filter_map, Option, Some, None, IfSome}
use Rattle.std.specs.Ordering.{int_cmp}
use Rattle.std.specs.BTreeSet.{insert_key}
use Rattle.po_arith.specs.declared.int_type.IntType.{IntType}
use Rattle.po_arith.specs.Types.{IsIntType}
use Rattle.po_base.specs.declared.operators.Op.{Op}
use Rattle.po_base.specs.declared.operators.Op.TheVariants as op
use Rattle.po_base.specs.declared.operators.UnOp.{UnOp}
use Rattle.po_interval.specs.Sets.{ascending, few}
use Rattle.po_interval.specs.Members.{Allows, IsProper, AreOfType, AreWithin}
use Rattle.po_interval.specs.Results.{binary, unary, conv}
use Rattle.po_interval.specs.declared.members.Members.{Members}
use Rattle.po_interval.specs.declared.members.Members.TheVariants.{Few, Any}

-- members of the numbers of a set, none of the empty one
abbrev pub of_set : List ℤ → Option Members
of_set [] = None
of_set (x ∷ xs) = Some (few (x ∷ xs))

abbrev pub gathered : List ℤ → Option Members
gathered xs = of_set (ascending xs)

-- a result that is there is put into the set
abbrev pub put : List ℤ → Option ℤ → List ℤ
put xs None = xs
put xs (Some v) = insert_key int_cmp xs v

-- what f gives of each number of the first with each of the second, where it gives something
abbrev pub pairs : (ℤ → ℤ → Option ℤ) → List ℤ → List ℤ → List ℤ
pairs f [] ys = []
pairs f (x ∷ xs) ys = filter_map (f x) ys ++ pairs f xs ys

abbrev pub is_comparison : Op → Bool
is_comparison op.Eq = true
is_comparison op.Ne = true
is_comparison op.Lt = true
is_comparison op.Le = true
is_comparison op.Gt = true
is_comparison op.Ge = true
is_comparison _ = false

-- results of any numbers: a comparison gives 0 or 1 (6.5.8p6, 6.5.9p3)
abbrev pub of_any : Op → Members
of_any op = cond (is_comparison op) (Few (pos 0 ∷ pos 1 ∷ [])) Any

abbrev pub bin_members : Op → IntType → Members → Members → Option Members
bin_members op t (Few xs) (Few ys) = gathered (pairs (binary op t) xs ys)
bin_members op t (Few xs) Any = Some (of_any op)
bin_members op t Any b = Some (of_any op)

abbrev pub un_members : UnOp → IntType → Members → Option Members
un_members op t (Few xs) = gathered (filter_map (unary op t) xs)
un_members op t Any = Some Any

abbrev pub conv_members : IntType → Members → Option Members
conv_members t (Few xs) = gathered (filter_map (conv t) xs)
conv_members t Any = Some Any

-- v is one of the results; of none no number is
abbrev pub IsResult : Option Members → ℤ → Type 0
IsResult None v = ⊥
IsResult (Some m) v = Allows m v

abbrev pub ResultsWithin : Option Members → Option Members → Type 0
ResultsWithin None b = Unit {0}
ResultsWithin (Some a) None = ⊥
ResultsWithin (Some a) (Some b) = AreWithin a b

-- every result of numbers that the members allow is among the results
abbrev pub BinMembersCover : Op → Type 0
BinMembersCover op = (t : IntType) (a b : Members) (v w x : ℤ) → IsIntType t → Allows a v → Allows b w → binary op t v w ≡ Some x → IsResult (bin_members op t a b) x

abbrev pub UnMembersCover : UnOp → Type 0
UnMembersCover op = (t : IntType) (a : Members) (v x : ℤ) → Allows a v → unary op t v ≡ Some x → IsResult (un_members op t a) x

abbrev pub ConvMembersCover : Type 0
ConvMembersCover = (t : IntType) (a : Members) (v x : ℤ) → Allows a v → conv t v ≡ Some x → IsResult (conv_members t a) x

-- operands that allow more have results that allow more
abbrev pub BinMembersAreMonotone : Op → Type 0
BinMembersAreMonotone op = (t : IntType) (a b c d : Members) → IsIntType t → AreWithin a c → AreWithin b d → ResultsWithin (bin_members op t a b) (bin_members op t c d)

abbrev pub UnMembersAreMonotone : UnOp → Type 0
UnMembersAreMonotone op = (t : IntType) (a c : Members) → AreWithin a c → ResultsWithin (un_members op t a) (un_members op t c)

abbrev pub ConvMembersAreMonotone : Type 0
ConvMembersAreMonotone = (t : IntType) (a c : Members) → AreWithin a c → ResultsWithin (conv_members t a) (conv_members t c)

-- the results are numbers of the type, and proper members
pub record IsOfResults (t : IntType) (o : Option Members) : Type 0 where
  pub of_type : IfSome o (AreOfType t)
  pub proper : IfSome o IsProper

pub record ResultsAreOfType : Type 0 where
  pub binary : (op : Op) (t : IntType) (a b : Members) → IsIntType t → IsOfResults t (bin_members op t a b)
  pub unary : (op : UnOp) (t : IntType) (a : Members) → IsOfResults t (un_members op t a)
  pub converted : (t : IntType) (a : Members) → IsOfResults t (conv_members t a)
