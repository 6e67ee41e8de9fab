-- The parts of a project that stand by file, made from the first files.
use Rattle.std.specs.Prelude.{ℕ, ◌≡◌, List, map, flat_map, take}
use Rattle.po_ir.specs.declared.unit.Unit.{Unit as FileUnit}
use Rattle.po_link.specs.declared.join.Parts.{Parts}
use Rattle.po_ir.specs.General.{each_from}
use Rattle.po_link.specs.Joined.{file_name, opaque_in, joined_functions, texts_of}

pub record AreParts (units : List FileUnit) (count : ℕ) (parts : Parts) : Type 0 where
  pub files : parts.files ≡ map file_name (take count units)
  pub opaque : parts.opaque ≡ flat_map opaque_in (take count units)
  pub functions : parts.functions ≡ each_from (joined_functions units) 0 (take count units)
  pub texts : parts.texts ≡ flat_map texts_of (take count units)
