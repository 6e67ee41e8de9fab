-- Members: which numbers they allow, their order and their join.
use Rattle.std.specs.Prelude.{◌<◌, ◌≤◌, Bool, true, false, ℤ, List, [], length, ◌≡◌, ◌⊎◌}
use Rattle.po_arith.specs.declared.int_type.IntType.{IntType}
use Rattle.po_arith.specs.Types.{IsOfType}
use Rattle.po_interval.specs.Sets.{IsAmong, IsAscending, numbers_within, insert_all, few}
use Rattle.po_interval.specs.declared.members.Members.{Members}
use Rattle.po_interval.specs.declared.members.Members.TheVariants.{Few, Any}

-- v is one of the numbers that are allowed
abbrev pub Allows : Members → ℤ → Type 0
Allows (Few xs) v = IsAmong v xs
Allows Any v = Unit {0}

-- one to eight numbers, ascending; or any
abbrev pub IsProper : Members → Type 0
IsProper (Few xs) = (0 < length xs) × (length xs ≤ 8) × IsAscending xs
IsProper Any = Unit {0}

-- the numbers that are listed are numbers of the type
abbrev pub AreOfType : IntType → Members → Type 0
AreOfType t (Few xs) = (v : ℤ) → IsAmong v xs → IsOfType t v
AreOfType t Any = Unit {0}

-- each number that the first allow is one that the second allow
abbrev pub AreWithin : Members → Members → Type 0
AreWithin a b = (v : ℤ) → Allows a v → Allows b v

abbrev pub members_within : Members → Members → Bool
members_within a Any = true
members_within Any (Few ys) = false
members_within (Few xs) (Few ys) = numbers_within xs ys

-- all numbers of both where they are at most eight
abbrev pub join_few : List ℤ → List ℤ → Members
join_few xs ys = few (insert_all (insert_all [] xs) ys)

abbrev pub join_members : Members → Members → Members
join_members (Few xs) (Few ys) = join_few xs ys
join_members (Few xs) Any = Any
join_members Any b = Any

-- the test tells just whether all that one allows is allowed by the other
abbrev pub WithinIsExact : Type 0
WithinIsExact = (a b : Members) → (members_within a b ≡ true → AreWithin a b) × (AreWithin a b → members_within a b ≡ true)

-- members that allow the same numbers are the same
abbrev pub OneOfAll : Type 0
OneOfAll = (a b : Members) → IsProper a → IsProper b → AreWithin a b → AreWithin b a → a ≡ b

-- the join is proper, allows what both allow, and no more than any proper members that do
pub record JoinIsLeast : Type 0 where
  pub proper : (a b : Members) → IsProper a → IsProper b → IsProper (join_members a b)
  pub first : (a b : Members) → AreWithin a (join_members a b)
  pub second : (a b : Members) → AreWithin b (join_members a b)
  pub least : (a b c : Members) → IsProper c → AreWithin a c → AreWithin b c → AreWithin (join_members a b) c

-- so that neither order nor grouping nor repetition matters
pub record JoinIsOfSets : Type 0 where
  pub commutes : (a b : Members) → IsProper a → IsProper b → join_members a b ≡ join_members b a
  pub associates : (a b c : Members) → IsProper a → IsProper b → IsProper c → join_members (join_members a b) c ≡ join_members a (join_members b c)
  pub idempotent : (a : Members) → IsProper a → join_members a a ≡ a

-- a join that lists numbers lists those of the two and no others, so that numbers of a type are joined to numbers of the type
pub record JoinIsOfBoth : Type 0 where
  pub listed : (a b : Members) (zs : List ℤ) (v : ℤ) → join_members a b ≡ Few zs → IsAmong v zs → Allows a v ⊎ Allows b v
  pub of_type : (t : IntType) (a b : Members) → AreOfType t a → AreOfType t b → AreOfType t (join_members a b)
