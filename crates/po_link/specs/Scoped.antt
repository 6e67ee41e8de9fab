-- What the names and numbers of a file mean, as it is looked up.
use Rattle.std.specs.Prelude.{ℕ, ◌+◌, ◌≡◌, List, Option, Some, None, cond, find, position, slice_get, option_map, option_and_then, unwrap_or}
use Rattle.std.specs.Option.{option_or}
use Rattle.std.specs.Ordering.{nat_cmp}
use Rattle.std.specs.BTreeMap.{BTreeMap, get}
use Rattle.po_link.specs.declared.seen.Seen.{Seen}
use Rattle.po_link.specs.declared.scope.Scope.{Scope}
use Rattle.po_ir.specs.declared.unit.LibUse.{LibUse}
use Rattle.po_ir.specs.declared.unit.Unit.{Unit as FileUnit}
use Rattle.po_symbols.specs.Names.{named}
use Rattle.po_link.specs.Joined.{Naming, is_named, is_declared, is_lib}

abbrev pub flat : {X : Type 0} → Option (Option X) → Option X
flat None = None
flat (Some o) = o

-- the function of a name in a file whose functions are numbered from `first` on
abbrev pub scoped_function : Seen → ℕ → FileUnit → List ℕ → Option ℕ
scoped_function seen first u name = option_or (option_map (λ place. first + place) (position (is_named name) u.functions)) (cond (is_declared name u) (named seen.numbers name) None)

abbrev pub seen_by : Seen → LibUse → Option ℕ
seen_by seen used = named seen.numbers used.name

-- the functions that stand for library functions, of one number the first
pub record AreScoped (seen : Seen) (used : List LibUse) (libs : BTreeMap ℕ (Option ℕ)) : Type 0 where
  pub each : (lib : ℕ) → get nat_cmp libs lib ≡ option_map (seen_by seen) (find (is_lib lib) used)

abbrev pub scoped_lib : Seen → FileUnit → ℕ → Option ℕ
scoped_lib seen u lib = option_and_then (seen_by seen) (find (is_lib lib) u.libs)

-- what the scope gives
pub record IsScope (scope : Scope) (names : Naming) : Type 0 where
  pub functions : (name : List ℕ) → named scope.functions name ≡ names.function name
  pub libs : (lib : ℕ) → flat (get nat_cmp scope.libs lib) ≡ names.lib lib
  pub globals : (place : ℕ) → unwrap_or (slice_get scope.globals.now place) place ≡ names.global place
  pub texts : (place : ℕ) → scope.texts + place ≡ names.text place
