-- What the making of a table does to the tables that are at hand.
use Rattle.std.specs.Prelude.{◌≡◌, ◌⊎◌, List, [], ◌∷◌, ◌++◌}
use Rattle.std.specs.List.{Contains}
use Rattle.po_base.specs.declared.numbers.FunNo.{FunNo}

-- the function has a table
abbrev pub HasTable : {T : Type 0} → List (FunNo × T) → FunNo → Type 0
HasTable {T} tables f = (table : T) × Contains tables (f, table)

-- the tables stay, or one of the function, which had none, is new at the end
abbrev pub AddsTable : {T : Type 0} → FunNo → List (FunNo × T) → List (FunNo × T) → Type 0
AddsTable {T} f old new = (new ≡ old) ⊎ ((¬ HasTable old f) × ((table : T) × (new ≡ old ++ (f, table) ∷ [])))
