-- The steps of the loop that drops initialisers.
use Rattle.std.proofs.Common.{◌≡◌, suc, ◌+◌, ◌<◌, ◌≤◌, List, [], ◌∷◌, ◌++◌, ap, sym, ◌∙◌, arith}
use Rattle.std.specs.Prelude.{Option, Bool}
use Rattle.po_tree.specs.declared.expression.Exp.{Exp}
use Rattle.po_tree.specs.declared.declaration.Init.{Init, fold-roll-Init}
use Rattle.po_tree.specs.declared.declaration.Init.TheVariants as init
use Rattle.po_tree.specs.declared.declaration.Init.TheOpen.{Init-F}
use Rattle.po_tree.specs.declared.dropping_initialisers.Way.{Way}
use Rattle.po_tree.specs.DroppingInitialisers.{weighs_init, init_weight, total_weight, here_weight, way_weight, measure}
use Rattle.po_tree.proofs.Weights.{total_push}
use Rattle.po_tree.proofs.Squares.{squares_less, squares_same}

init_weight-One : (x : Exp) → init_weight (init.One x) ≡ 1
unfolding init_weight
init_weight-One x = ap init_weight (sym (init.rolls-One x)) ∙ fold-roll-Init _ weighs_init (Init-F.One x)

init_weight-Many : (xs : List Init) (more : Bool) → init_weight (init.Many xs more) ≡ suc (suc (total_weight xs))
unfolding init_weight
init_weight-Many xs more = ap init_weight (sym (init.rolls-Many xs more)) ∙ fold-roll-Init _ weighs_init (Init-F.Many xs more)

pub with_value : (xs rest : List Init) (x : Init) (value : Exp) → xs ≡ rest ++ x ∷ [] → x ≡ init.One value → total_weight xs ≡ suc (total_weight rest)
with_value xs rest x value q is =
    let a = ap total_weight q ∙ total_push init_weight rest x in let b = ap init_weight is ∙ init_weight-One value in omega (arith, a, b)

pub with_braces : (xs rest : List Init) (x : Init) (inside : List Init) (more : Bool) → xs ≡ rest ++ x ∷ [] → x ≡ init.Many inside more →
    total_weight xs ≡ total_weight rest + suc (suc (total_weight inside))
with_braces xs rest x inside more q is =
    let a = ap total_weight q ∙ total_push init_weight rest x in let b = ap init_weight is ∙ init_weight-Many inside more in omega (arith, a, b)

pub lighter : (here next : Option (List Init)) (way back : Option Way) → here_weight next + way_weight back < here_weight here + way_weight way → measure next back < measure here way
lighter here next way back less = squares_less (here_weight here + way_weight way) (here_weight next + way_weight back) (here_weight here) (here_weight next) less (omega arith)

pub nearer : (here next : Option (List Init)) (way back : Option Way) → here_weight next + way_weight back ≤ here_weight here + way_weight way → here_weight next < here_weight here →
    measure next back < measure here way
nearer here next way back as_light less = squares_same (here_weight here + way_weight way) (here_weight next + way_weight back) (here_weight here) (here_weight next) as_light less
