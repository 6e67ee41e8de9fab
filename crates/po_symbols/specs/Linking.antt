-- What files say of external names, and where that can't be joined.
use Rattle.std.specs.Prelude.{ℕ, ◌*◌, ◌^◌, ◌≡◌, ◌≢◌, ◌<◌, ◌≤◌, ◌++◌, ◌∷◌, ◌⊎◌, List, MatchOption, Contains, codes, length, sum_by, slice_get, [], Bool, not, ◌&&◌, cond, bytes_eq, flat_map, find, Option, Some, option_map}
use Rattle.std.specs.Ordering.{nat_cmp}
use Rattle.std.specs.Cmp.Lexicographic.{slice_cmp}
use Rattle.std.specs.declared.cmp.Ordering.TheVariants.{Greater}
use Rattle.po_ir.specs.declared.project.CTypeText.{CTypeText}
use Rattle.po_ir.specs.declared.project.Global.{Global}
use Rattle.po_ir.specs.declared.project.Function.{Function}
use Rattle.po_ir.specs.declared.unit.Unit.{Unit as FileUnit}
use Rattle.po_symbols.specs.declared.link_fail.LinkFail.{LinkFail}
use Rattle.po_symbols.specs.declared.link_fail.LinkFail.TheVariants.{TwoBodies, Clash, TooLarge, Memory}

-- what P says holds of the unit of the file
abbrev pub InFile : List FileUnit → ℕ → (FileUnit → Type 0) → Type 0
InFile units file P = MatchOption (slice_get units file) ⊥ P

abbrev pub function_body : Function → List (List ℕ)
function_body f = cond f.local [] (f.name ∷ [])

abbrev pub global_body : Global → List (List ℕ)
global_body g = cond (not g.local && g.defined) (g.name ∷ []) []

-- the external names to which the file gives a body: those of its functions that other files see, read or not, and of its globals
-- that they see and that have an initialiser (6.9p5)
abbrev pub bodies : FileUnit → List (List ℕ)
bodies u = flat_map function_body u.functions ++ flat_map global_body u.globals

abbrev pub GivesBody : List ℕ → FileUnit → Type 0
GivesBody name u = Contains (bodies u) name

abbrev pub declares : List ℕ → List ℕ × CTypeText → Bool
declares name d = bytes_eq d.0 name

abbrev pub spelling_of : List ℕ × CTypeText → List ℕ
spelling_of d = d.1.text

-- the type that the external name has at the end of the file
abbrev pub type_in : List ℕ → List (List ℕ × CTypeText) → Option (List ℕ)
type_in name declared = option_map spelling_of (find (declares name) declared)

abbrev pub HasType : List ℕ → List ℕ → FileUnit → Type 0
HasType name type u = type_in name u.declared ≡ Some type

-- the first spelling is that of an array without a size, and what follows the first `]` is the same in both
abbrev pub IsSizeless : List ℕ → List ℕ → Type 0
IsSizeless s t = (item : List ℕ) × (size : List ℕ) × (s ≡ codes "[]" ++ item) × (t ≡ size ++ 93 ∷ item) × (Contains size 93 → ⊥)

-- two types of one name differ (6.2.7p2): their spellings do, and neither is the other without its size
abbrev pub Differ : List ℕ → List ℕ → Type 0
Differ s t = (s ≢ t) × (IsSizeless s t → ⊥) × (IsSizeless t s → ⊥)

-- both files give the name a body (6.9p5)
pub record AreTwoBodies (units : List FileUnit) (name : List ℕ) (a b : ℕ) : Type 0 where
  pub ascending : a < b
  pub first : InFile units a (GivesBody name)
  pub second : InFile units b (GivesBody name)

-- both files declare the name, with types that differ (6.2.7p2)
pub record AreClashing (units : List FileUnit) (name : List ℕ) (a b : ℕ) : Type 0 where
  pub ascending : a < b
  pub type : List ℕ
  pub other : List ℕ
  pub first : InFile units a (HasType name type)
  pub second : InFile units b (HasType name other)
  pub differ : Differ type other

abbrev pub IsLeastPair : (ℕ → ℕ → Type 0) → ℕ → ℕ → Type 0
IsLeastPair P a b = P a b × ((c d : ℕ) → P c d → (a < c) ⊎ ((a ≡ c) × (b ≤ d)))

-- the files can't be joined, for this name
abbrev pub HasCause : List FileUnit → List ℕ → Type 0
HasCause units name = (a : ℕ) × (b : ℕ) × (AreTwoBodies units name a b ⊎ AreClashing units name a b)

-- the name is at most every one for which the files can't be joined, byte by byte
abbrev pub IsLeastName : List FileUnit → List ℕ → Type 0
IsLeastName units name = (other : List ℕ) → HasCause units other → slice_cmp nat_cmp name other ≢ Greater

-- the least name has two bodies, first of all in these two files
pub record IsTwoBodies (units : List FileUnit) (name : List ℕ) (a b : ℕ) : Type 0 where
  pub least : IsLeastPair (AreTwoBodies units name) a b
  pub least_name : IsLeastName units name

-- the least name has one body at most, and its types differ, first of all in these two files
pub record IsClash (units : List FileUnit) (name : List ℕ) (a b : ℕ) : Type 0 where
  pub least : IsLeastPair (AreClashing units name) a b
  pub one_body : (c d : ℕ) → AreTwoBodies units name c d → ⊥
  pub least_name : IsLeastName units name

abbrev pub weight_of : Function → ℕ
weight_of f = length f.graph.nodes * length f.graph.regs

abbrev pub unit_weight : FileUnit → ℕ
unit_weight u = sum_by weight_of u.functions

abbrev pub unit_functions : FileUnit → ℕ
unit_functions u = length u.functions

-- the sum of nodes times registers passes 2^24, or else the functions pass 65,535
abbrev pub IsTooLarge : List FileUnit → ℕ → Type 0
IsTooLarge units count =
    ((2 ^ 24 < sum_by unit_weight units) × (count ≡ sum_by unit_weight units)) ⊎
    ((sum_by unit_weight units ≤ 2 ^ 24) × (65535 < sum_by unit_functions units) × (count ≡ sum_by unit_functions units))

-- files that can't be joined are refused for one name and one pair of files, and for one of the two causes
pub record OneRefusal : Type 0 where
  pub bodies : (units : List FileUnit) (x y : List ℕ) (a b c d : ℕ) → IsTwoBodies units x a b → IsTwoBodies units y c d → (x ≡ y) × (a ≡ c) × (b ≡ d)
  pub clashes : (units : List FileUnit) (x y : List ℕ) (a b c d : ℕ) → IsClash units x a b → IsClash units y c d → (x ≡ y) × (a ≡ c) × (b ≡ d)
  pub bodies_first : (units : List FileUnit) (x y : List ℕ) (a b c d : ℕ) → IsTwoBodies units x a b → IsClash units y c d → ⊥

-- the files together are small enough
abbrev pub Fits : List FileUnit → Type 0
Fits units = (count : ℕ) → IsTooLarge units count → ⊥

abbrev pub NoCause : List FileUnit → Type 0
NoCause units = (name : List ℕ) → HasCause units name → ⊥

-- why the files aren't joined to a project; want of memory has no cause
abbrev pub IsRefused : List FileUnit → LinkFail → Type 0
IsRefused units (TwoBodies name a b) = IsTwoBodies units name a.0 b.0
IsRefused units (Clash name a b) = IsClash units name a.0 b.0
IsRefused units (TooLarge count) = NoCause units × IsTooLarge units count
IsRefused units Memory = Unit {0}
