-- What is noted of the items so far.
use Rattle.std.specs.Prelude.{ℕ, ◌≡◌, List, length, position, find, option_map}
use Rattle.std.specs.Ordering.{nat_cmp}
use Rattle.std.specs.BTreeMap.{BTreeMap, get}
use Rattle.po_ir.specs.declared.project.Effects.{Effects}
use Rattle.po_ir.specs.declared.project.Function.{Function}
use Rattle.po_link.specs.declared.seen.Seen.{Seen}
use Rattle.po_ir.specs.declared.unit.LibUse.{LibUse}
use Rattle.po_symbols.specs.Names.{named}
use Rattle.po_link.specs.Joined.{is_seen, is_lib}

-- the numbers of the functions that other files see
pub record AreSeen (seen : Seen) (functions : List Function) : Type 0 where
  pub count : seen.count ≡ length functions
  pub numbers : (name : List ℕ) → named seen.numbers name ≡ position (is_seen name) functions

abbrev pub effects_of_lib : LibUse → Effects
effects_of_lib used = used.effects

-- the effects of the library functions
pub record AreNoted (noted : BTreeMap ℕ Effects) (libs : List LibUse) : Type 0 where
  pub each : (lib : ℕ) → get nat_cmp noted lib ≡ option_map effects_of_lib (find (is_lib lib) libs)
