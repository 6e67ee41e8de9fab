-- What an initialiser prints and how high it is, by its parts.
use Rattle.std.proofs.Common.{◌≡◌, List, [], ◌∷◌, ◌++◌, map, cond, ap, sym, ◌∙◌}
use Rattle.std.specs.Prelude.{Bool}
use Rattle.po_tree.specs.declared.expression.Exp.{Exp}
use Rattle.po_tree.specs.declared.declaration.Init.{Init, fold-roll-Init}
use Rattle.po_tree.specs.declared.declaration.Init.TheVariants as init
use Rattle.po_tree.specs.declared.declaration.Init.TheOpen.{Init-F}
use Rattle.po_tree.specs.Signs.{comma}
use Rattle.po_tree.specs.Printing.{flat, flat_init, prints_init, in_braces, with_commas}
use Rattle.po_tree.specs.Heights.{height, init_height, rises_init, greatest}

pub flat_init-One : (x : Exp) → flat_init (init.One x) ≡ flat x
unfolding flat_init
flat_init-One x = ap flat_init (sym (init.rolls-One x)) ∙ fold-roll-Init _ prints_init (Init-F.One x)

pub flat_init-Many : (xs : List Init) (more : Bool) → flat_init (init.Many xs more) ≡ in_braces (with_commas (map flat_init xs) ++ cond more (comma ∷ []) [])
unfolding flat_init
flat_init-Many xs more = ap flat_init (sym (init.rolls-Many xs more)) ∙ fold-roll-Init _ prints_init (Init-F.Many xs more)

pub init_height-One : (x : Exp) → init_height (init.One x) ≡ height x
unfolding init_height
init_height-One x = ap init_height (sym (init.rolls-One x)) ∙ fold-roll-Init _ rises_init (Init-F.One x)

pub init_height-Many : (xs : List Init) (more : Bool) → init_height (init.Many xs more) ≡ greatest (map init_height xs)
unfolding init_height
init_height-Many xs more = ap init_height (sym (init.rolls-Many xs more)) ∙ fold-roll-Init _ rises_init (Init-F.Many xs more)
