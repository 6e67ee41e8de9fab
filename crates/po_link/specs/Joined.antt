-- The project to which files are joined.
use Rattle.std.specs.Prelude.{ℕ, ◌+◌, ◌==◌, ◌≡◌, List, [], ◌∷◌, length, map, flat_map, take, filter, find, position, slice_get, Bool, true, not, ◌&&◌, ◌||◌, cond, bytes_eq, Option, Some, None, unwrap_or, option_map, option_and_then}
use Rattle.std.specs.List.{list_any}
use Rattle.std.specs.Option.{option_or, option_map_or}
use Rattle.po_base.specs.declared.spot.Spot.{Spot}
use Rattle.po_arith.specs.declared.target.Target.{Target}
use Rattle.po_ir.specs.declared.instr.Callee.{Callee}
use Rattle.po_ir.specs.declared.instr.Callee.TheVariants.{Fun, Extern}
use Rattle.po_ir.specs.declared.instr.Instr.{Instr}
use Rattle.po_ir.specs.declared.instr.Instr.TheVariants.{AddrGlobal, AddrStr, Call, Lib}
use Rattle.po_ir.specs.declared.graph.Node.{Node}
use Rattle.po_ir.specs.declared.graph.Graph.{Graph}
use Rattle.po_ir.specs.declared.project.Global.{Global}
use Rattle.po_ir.specs.declared.project.Function.{Function}
use Rattle.po_ir.specs.declared.project.Project.{Project}
use Rattle.po_ir.specs.declared.unit.Piece3.{Piece3}
use Rattle.po_ir.specs.declared.unit.Piece3.TheVariants.{Opaque}
use Rattle.po_ir.specs.declared.unit.LibUse.{LibUse}
use Rattle.po_ir.specs.declared.unit.Unit.{Unit as FileUnit}
use Rattle.po_ir.specs.General.{each_from}
use Rattle.po_ir.specs.Reaching.{LibraryEffects, AreEffects}

-- ---- what files have, by file and then by place in it

abbrev pub file_name : FileUnit → List ℕ
file_name u = u.name

abbrev pub functions_of : FileUnit → List Function
functions_of u = u.functions

abbrev pub globals_of : FileUnit → List Global
globals_of u = u.globals

abbrev pub texts_of : FileUnit → List (List ℕ)
texts_of u = u.texts

abbrev pub libs_of : FileUnit → List LibUse
libs_of u = u.libs

-- where a piece stands that isn't read
abbrev pub opaque_of : Piece3 → List Spot
opaque_of (Opaque spot) = spot ∷ []
opaque_of _ = []

abbrev pub opaque_in : FileUnit → List Spot
opaque_in u = flat_map opaque_of u.pieces

-- ---- which function a name means

-- the function has the name
abbrev pub is_named : List ℕ → Function → Bool
is_named name f = bytes_eq f.name name

-- other files see the function under the name
abbrev pub is_seen : List ℕ → Function → Bool
is_seen name f = not f.local && bytes_eq f.name name

abbrev pub is_declared : List ℕ → FileUnit → Bool
is_declared name u = list_any (λ d. bytes_eq d.0 name) u.declared

-- the number of the function that other files see under the name
abbrev pub seen_function : List FileUnit → List ℕ → Option ℕ
seen_function units name = position (is_seen name) (flat_map functions_of units)

-- the number of the file's own first function of the name, whatever that is
abbrev pub own_function : List FileUnit → ℕ → FileUnit → List ℕ → Option ℕ
own_function units file u name = option_map (λ place. length (flat_map functions_of (take file units)) + place) (position (is_named name) u.functions)

-- a call takes the file's own function; else, where the name isn't static in the file, the one that another file lets others see
abbrev pub function_of : List FileUnit → ℕ → FileUnit → List ℕ → Option ℕ
function_of units file u name = option_or (own_function units file u name) (cond (is_declared name u) (seen_function units name) None)

abbrev pub is_lib : ℕ → LibUse → Bool
is_lib lib use_of = use_of.lib.0 == lib

-- the function that some file defines under the name of the file's library function
abbrev pub function_of_lib : List FileUnit → FileUnit → ℕ → Option ℕ
function_of_lib units u lib = option_and_then (λ (use_of : LibUse). seen_function units use_of.name) (find (is_lib lib) u.libs)

-- ---- which object a global is, and what is known of it

-- other files see the global under the name
abbrev pub is_shared : List ℕ → Global → Bool
is_shared name g = not g.local && bytes_eq g.name name

-- after these the global is a further object: a local one always, another one where it is the first of its name (6.2.2p2)
abbrev pub is_new : List Global → Global → Bool
is_new before g = g.local || not (list_any (is_shared g.name) before)

abbrev pub new_at : List Global → ℕ → Global → List Global
new_at all place g = cond (is_new (take place all) g) (g ∷ []) []

-- how many new ones are among the first so many
abbrev pub count_new : List Global → ℕ → ℕ
count_new all count = length (each_from (new_at all) 0 (take count all))

-- the first place at which the object of the global at this place stands
abbrev pub first_place : List Global → ℕ → Global → ℕ
first_place all place g = cond g.local place (unwrap_or (position (is_shared g.name) all) place)

-- objects are numbered in the order of their first places
abbrev pub object_number : List Global → ℕ → Global → ℕ
object_number all place g = count_new all (first_place all place g)

abbrev pub has_size : Global → Bool
has_size g = not (g.size == 0)

abbrev pub defines_size : Global → Bool
defines_size g = g.defined && has_size g

-- size, alignment and type are those of the first that defines the object with a size, else of the first that gives it one, else
-- of the first
abbrev pub shape_of : Global → List Global → Global
shape_of first same = unwrap_or (option_or (find defines_size same) (find has_size same)) first

-- what is known of the object whose first global this is
abbrev pub joined : Global → List Global → Global
joined first same = record {
  name = first.name;
  size = (shape_of first same).size;
  align = (shape_of first same).align;
  constant = list_any (λ (g : Global). g.constant) same;
  local = first.local;
  defined = list_any (λ (g : Global). g.defined) same;
  ty = (shape_of first same).ty;
}

-- the object whose first global this is
abbrev pub object_of : List Global → Global → Global
object_of all g = cond g.local g (joined g (filter (is_shared g.name) all))

abbrev pub object_at : List Global → ℕ → Global → List Global
object_at all place g = cond (is_new (take place all) g) (object_of all g ∷ []) []

-- the objects of all globals
abbrev pub joined_globals : List Global → List Global
joined_globals all = each_from (object_at all) 0 all

-- the number in the project of the global at this place of the file
abbrev pub global_of : List FileUnit → ℕ → FileUnit → ℕ → ℕ
global_of units file u place = option_map_or (object_number (flat_map globals_of units) (length (flat_map globals_of (take file units)) + place)) (slice_get u.globals place) place

-- ---- what becomes of nodes

-- what names and numbers of a file mean in the project
pub record Naming : Type 0 where
  pub function : List ℕ → Option ℕ
  pub lib : ℕ → Option ℕ
  pub global : ℕ → ℕ
  pub text : ℕ → ℕ

abbrev pub naming_of : List FileUnit → ℕ → FileUnit → Naming
naming_of units file u = record {
  function = function_of units file u;
  lib = function_of_lib units u;
  global = global_of units file u;
  text = λ place. length (flat_map texts_of (take file units)) + place;
}

-- a name that means no function stays
abbrev pub renamed_callee : Naming → Callee → Callee
renamed_callee names (Extern name) = option_map_or (λ number. Fun (record { 0 = number })) (names.function name) (Extern name)
renamed_callee names (Fun f) = Fun f

abbrev pub renamed : Naming → Instr → Instr
renamed names (AddrGlobal to global) = AddrGlobal to (record { 0 = names.global global.0 })
renamed names (AddrStr to text) = AddrStr to (record { 0 = names.text text.0 })
renamed names (Call to callee args strings) = Call to (renamed_callee names callee) args strings
renamed names (Lib to lib args strings) = option_map_or (λ number. Call to (Fun (record { 0 = number })) args strings) (names.lib lib.0) (Lib to lib args strings)
renamed names i = i

abbrev pub renamed_node : Naming → Node → Node
renamed_node names n = record { instr = renamed names n.instr; spot = n.spot }

abbrev pub renamed_graph : Naming → Graph → Graph
renamed_graph names g = record { nodes = map (renamed_node names) g.nodes; regs = g.regs; slots = g.slots; params = g.params }

abbrev pub joined_function : Naming → ℕ → Function → Function
joined_function names file f = record { file = record { 0 = file }; name = f.name; local = f.local; result = f.result; graph = renamed_graph names f.graph }

abbrev pub joined_functions : List FileUnit → ℕ → FileUnit → List Function
joined_functions units file u = map (joined_function (naming_of units file u) file) u.functions

-- ---- the project

-- what the files say of a library function; what they don't name may do all
abbrev pub named_effects : List FileUnit → LibraryEffects
named_effects units lib = option_map_or (λ (use_of : LibUse). use_of.effects) (find (is_lib lib.0) (flat_map libs_of units)) (record { frees = true; writes = true })

-- all of the project but its effects
pub record IsJoined (units : List FileUnit) (target : Target) (p : Project) : Type 0 where
  pub files : p.files ≡ map file_name units
  pub opaque : p.opaque ≡ flat_map opaque_in units
  pub functions : p.functions ≡ each_from (joined_functions units) 0 units
  pub globals : p.globals ≡ joined_globals (flat_map globals_of units)
  pub texts : p.texts ≡ flat_map texts_of units
  pub target_is : p.target ≡ target

-- the project of these files
pub record IsLinked (units : List FileUnit) (target : Target) (p : Project) : Type 0 where
  pub joined_parts : IsJoined units target p
  pub effects : AreEffects (named_effects units) p p.effects

-- files are joined to one project at most
abbrev pub OneProject : Type 0
OneProject = (units : List FileUnit) (target : Target) (p q : Project) → IsLinked units target p → IsLinked units target q → p ≡ q

-- the functions of the project stand by file, and then by place in the file
abbrev pub StandsByFile : Type 0
StandsByFile = (units : List FileUnit) (target : Target) (p : Project) → IsLinked units target p → (file place : ℕ) (u : FileUnit) (f : Function) → slice_get units file ≡ Some u → slice_get u.functions place ≡ Some f →
    slice_get p.functions (length (flat_map functions_of (take file units)) + place) ≡ Some (joined_function (naming_of units file u) file f)
