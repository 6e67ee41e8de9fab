-- How a loop drops nested initialisers: what its steps do, and why it ends.
use Rattle.std.specs.Prelude.{ℕ, suc, ◌+◌, ◌*◌, ◌<◌, ◌≡◌, List, [], map, Option, Some, None}
use Rattle.po_tree.specs.declared.declaration.Init.{Init, fold-Init}
use Rattle.po_tree.specs.declared.declaration.Init.TheOpen.{Init-F}
use Rattle.po_tree.specs.declared.declaration.Init.TheVariants as init
use Rattle.po_tree.specs.declared.declaration.InitParts.{InitParts}
use Rattle.po_tree.specs.declared.declaration.InitParts.TheVariants as parts
use Rattle.po_tree.specs.declared.dropping_initialisers.Way.{Way}
use Rattle.po_tree.specs.declared.dropping_initialisers.Leaf.TheVariants as leaf
use Rattle.po_tree.specs.declared.dropping_initialisers.Step.{Step}
use Rattle.po_tree.specs.declared.dropping_initialisers.Step.TheVariants as step
use Rattle.po_tree.specs.Gathering.{total}

-- what an initialiser is made of
abbrev pub IsMadeOf : Init → InitParts → Type 0
IsMadeOf x (parts.Value value) = x ≡ init.One value
IsMadeOf x (parts.Braces xs more) = x ≡ init.Many xs more

abbrev pub weighs_init : Init-F ℕ → ℕ
weighs_init (Init-F.One x) = 1
weighs_init (Init-F.Many xs more) = suc (suc (total xs))

unfoldable pub init_weight : Init → ℕ
init_weight = fold-Init _ weighs_init

abbrev pub total_weight : List Init → ℕ
total_weight xs = total (map init_weight xs)

abbrev pub here_weight : Option (List Init) → ℕ
here_weight None = 0
here_weight (Some xs) = suc (total_weight xs)

abbrev pub way_weight : Option Way → ℕ
way_weight None = 0
way_weight (Some w) = suc (suc (total_weight w.inits))

-- A step makes the whole lighter, or leaves it and makes what is here lighter.
abbrev pub measure : Option (List Init) → Option Way → ℕ
measure here way = (here_weight here + way_weight way) * (here_weight here + way_weight way) + here_weight here

abbrev pub Goes : Option (List Init) → Option Way → Step → Type 0
Goes here way step.Done = (here ≡ None) × (way ≡ None)
Goes here way (step.Next next back leaf.Nothing) = measure next back < measure here way
Goes here way (step.Next next back (leaf.Value x)) = measure next back < measure here way
Goes here way (step.Next next back (leaf.Inits xs)) = (measure next back < measure here way) × (xs ≡ [])
