-- The objects of the first globals.
use Rattle.std.specs.Prelude.{ℕ, ◌≡◌, List, [], ◌∷◌, ◌++◌, Some, None, cond, bytes_eq, length, take, position, filter, option_map}
use Rattle.std.specs.Option.{option_or}
use Rattle.std.specs.BTreeMap.{BTreeMap}
use Rattle.po_ir.specs.declared.project.Global.{Global}
use Rattle.po_link.specs.declared.objects.Objects.{Objects}
use Rattle.po_ir.specs.General.{each_from}
use Rattle.po_symbols.specs.Names.{named, listed}
use Rattle.po_link.specs.Joined.{is_shared, count_new, object_number, object_at}

-- the globals under each name
pub record AreShared (all : List Global) (shared : BTreeMap (List ℕ) (List Global)) : Type 0 where
  pub each : (name : List ℕ) → listed shared name ≡ filter (is_shared name) all

abbrev pub number_at : List Global → ℕ → Global → List ℕ
number_at all place g = object_number all place g ∷ []

-- the objects of the first globals, and the numbers of these globals
pub record AreObjects (all : List Global) (count : ℕ) (objects : Objects) : Type 0 where
  pub numbers : objects.numbers ≡ each_from (number_at all) 0 (take count all)
  pub globals : objects.globals ≡ each_from (object_at all) 0 (take count all)
  pub length_is : length objects.globals ≡ count_new all count
  pub names : (name : List ℕ) → named objects.names name ≡ option_map (count_new all) (position (is_shared name) (take count all))

-- a local global is added
pub record AddsLocal (before after : Objects) (g : Global) : Type 0 where
  pub numbers : after.numbers ≡ before.numbers ++ length before.globals ∷ []
  pub globals : after.globals ≡ before.globals ++ g ∷ []
  pub names : (name : List ℕ) → named after.names name ≡ named before.names name

-- the first global of a name is added, as its object
pub record AddsFirst (before after : Objects) (g : Global) (object : Global) : Type 0 where
  pub numbers : after.numbers ≡ before.numbers ++ length before.globals ∷ []
  pub globals : after.globals ≡ before.globals ++ object ∷ []
  pub names : (name : List ℕ) → named after.names name ≡ option_or (named before.names name) (cond (bytes_eq g.name name) (Some (length before.globals)) None)

-- a global of an object that is there
pub record AddsKnown (before after : Objects) (number : ℕ) : Type 0 where
  pub numbers : after.numbers ≡ before.numbers ++ number ∷ []
  pub globals : after.globals ≡ before.globals
  pub names : (name : List ℕ) → named after.names name ≡ named before.names name
