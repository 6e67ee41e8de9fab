-- What the files say of each name, in the order of the files.
use Rattle.std.specs.Prelude.{ℕ, ◌==◌, ◌-◌, ◌≡◌, List, [], ◌∷◌, ◌++◌, Bool, false, cond, flat_map, bytes_eq, length, slice_get}
use Rattle.std.specs.Option.{option_map_or}
use Rattle.std.specs.BTreeMap.{BTreeMap}
use Rattle.po_ir.specs.declared.project.CTypeText.{CTypeText}
use Rattle.po_ir.specs.declared.project.Function.{Function}
use Rattle.po_ir.specs.declared.project.Global.{Global}
use Rattle.po_ir.specs.declared.unit.Unit.{Unit as FileUnit}
use Rattle.po_ir.specs.General.{each_from}
use Rattle.po_symbols.specs.Linking.{function_body, global_body, bodies, type_in}
use Rattle.po_symbols.specs.Names.{listed}

-- the file, as often as it is the name
abbrev pub mark : List ℕ → ℕ → List ℕ → List ℕ
mark name file other = cond (bytes_eq other name) (file ∷ []) []

abbrev pub marks : List ℕ → ℕ → List (List ℕ) → List ℕ
marks name file names = flat_map (mark name file) names

abbrev pub function_marks : List ℕ → ℕ → Function → List ℕ
function_marks name file f = marks name file (function_body f)

abbrev pub global_marks : List ℕ → ℕ → Global → List ℕ
global_marks name file g = marks name file (global_body g)

abbrev pub marks_at : List ℕ → ℕ → FileUnit → List ℕ
marks_at name file u = marks name file (bodies u)

-- the files that give the name a body, each as often as it does
abbrev pub body_files : List ℕ → List FileUnit → List ℕ
body_files name units = each_from (marks_at name) 0 units

-- the file and the type that the name has in it, where it is declared there
abbrev pub typed_in : List ℕ → ℕ → List (List ℕ × CTypeText) → List (ℕ × List ℕ)
typed_in name file declared = option_map_or (λ type. (file, type) ∷ []) (type_in name declared) []

abbrev pub type_at : List ℕ → ℕ → FileUnit → List (ℕ × List ℕ)
type_at name file u = typed_in name file u.declared

-- the files that declare the name, with the type that it has in each
abbrev pub typed_files : List ℕ → List FileUnit → List (ℕ × List ℕ)
typed_files name units = each_from (type_at name) 0 units

pub record AreBodies (units : List FileUnit) (said : BTreeMap (List ℕ) (List ℕ)) : Type 0 where
  pub each : (name : List ℕ) → listed said name ≡ body_files name units

pub record AreTypes (units : List FileUnit) (said : BTreeMap (List ℕ) (List (ℕ × List ℕ))) : Type 0 where
  pub each : (name : List ℕ) → listed said name ≡ typed_files name units

-- the last of them is what this file says
abbrev pub ends_with_file : List (ℕ × List ℕ) → ℕ → Bool
ends_with_file said file = option_map_or (λ (last : ℕ × List ℕ). last.0 == file) (slice_get said (length said - 1)) false

-- with the type that the name has in the file, where it isn't there yet
abbrev pub with_type : List (ℕ × List ℕ) → ℕ → List ℕ → List (ℕ × List ℕ)
with_type said file type = cond (ends_with_file said file) said (said ++ (file, type) ∷ [])
