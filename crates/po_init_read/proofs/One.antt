-- Of two initialisers at the front of the same signs, each with an end behind it, one is the other.
use Rattle.std.proofs.Common.{◌≡◌, ℕ, ◌≤◌, List, [], ◌∷◌, ◌++◌, map, ap, sym, ◌∙◌, refl, arith, drop}
use Rattle.std.specs.Prelude.{Bool, true, false}
use Rattle.po_tree.specs.declared.declaration.Init.{Init}
use Rattle.po_tree.specs.declared.declaration.Init.TheVariants as init
use Rattle.po_tree.specs.Signs.{Sign, comma}
use Rattle.po_tree.specs.Printing.{flat_init}
use Rattle.po_tree.specs.Heights.{init_height, greatest}
use Rattle.po_tree.specs.Declarations.{IsInit, one, many, AllInits, no_more_inits, one_more_init}
use Rattle.po_exp_parts.specs.Places.{BeginsEnd}
use Rattle.po_init_read.specs.Initialisers.{StandsEnded}
use Rattle.po_init_read.proofs.Layers.{init_height-Many}
use Rattle.po_init_read.proofs.Fronts.{is_front, no_expression}
use Rattle.po_init_read.proofs.Ended.{OneBeforeEnd, one_expression, stands_at}
use Rattle.po_init_read.proofs.Behind.{behind_first, behind_next, behind_ends, flat_braces, comma_brace_end, no_brace_end}

-- what is behind the first sign
tails : {a b : Sign} {us vs : List Sign} → a ∷ us ≡ b ∷ vs → us ≡ vs
tails q = ap (drop 1) q

one_end : (more more' : Bool) (us vs : List Sign) → behind_first [] more us ≡ behind_first [] more' vs → (more ≡ more') × (us ≡ vs)
one_end true true us vs q = (refl, tails (tails q))
one_end false false us vs q = (refl, tails q)
one_end true false us vs q = absurd (comma_brace_end q)
one_end false true us vs q = absurd (comma_brace_end (sym q))

-- where braces close no further initialiser stands
no_more_here : {types : List (List ℕ)} {x : Init} (xs : List Init) (more more' : Bool) (us vs : List Sign) → IsInit types x → init_height x ≤ 256 →
    behind_first [] more us ≡ comma ∷ (flat_init x ++ behind_first xs more' vs) → ⊥
no_more_here xs true more' us vs first low q = no_brace_end (behind_first xs more' vs) us first low (sym (tails q))
no_more_here xs false more' us vs first low q = comma_brace_end (sym q)

mutual
  one_init : OneBeforeEnd → {types : List (List ℕ)} {x y : Init} (us vs : List Sign) → IsInit types x → IsInit types y → init_height x ≤ 256 → init_height y ≤ 256 →
      flat_init x ++ us ≡ flat_init y ++ vs → BeginsEnd us → BeginsEnd vs → (x ≡ y) × (us ≡ vs)
  one_init law us vs (one m x high formed) (one k y high' formed') low low' q e f =
      let s = one_expression law _ (flat_init (init.One x) ++ us) us vs x y (stands_at us m x high formed low refl) (stands_at vs k y high' formed' low' q) e f in
      (ap init.One s.0, s.1)
  one_init law us vs (one m x high formed) (many y ys more all) low low' q e f =
      absurd (no_expression (ap is_front (q ∙ flat_braces y ys more vs)) (stands_at us m x high formed low refl))
  one_init law us vs (many x xs more all) (one k y high formed) low low' q e f =
      absurd (no_expression (ap is_front (sym q ∙ flat_braces x xs more us)) (stands_at vs k y high formed low' refl))
  one_init law us vs (many x xs more all) (many y ys more' all') low low' q e f =
      let inside = tails (sym (flat_braces x xs more us) ∙ q ∙ flat_braces y ys more' vs) in
      let s = one_list law more more' us vs all all' (omega (arith, init_height-Many (x ∷ xs) more, low)) (omega (arith, init_height-Many (y ∷ ys) more', low'))
      (behind_next x xs more us ∙ ap (λ v. comma ∷ v) inside ∙ sym (behind_next y ys more' vs)) in
      (ap (λ zs. init.Many zs more) s.0 ∙ ap (init.Many (y ∷ ys)) s.1, s.2)

  one_list : OneBeforeEnd → {types : List (List ℕ)} {xs ys : List Init} (more more' : Bool) (us vs : List Sign) → AllInits types xs → AllInits types ys →
      greatest (map init_height xs) ≤ 256 → greatest (map init_height ys) ≤ 256 → behind_first xs more us ≡ behind_first ys more' vs →
      (xs ≡ ys) × (more ≡ more') × (us ≡ vs)
  one_list law more more' us vs no_more_inits no_more_inits low low' q =
      let s = one_end more more' us vs q in (refl, s.0, s.1)
  one_list law more more' us vs no_more_inits (one_more_init y ys first others) low low' q =
      absurd (no_more_here ys more more' us vs first (omega (arith, low')) (q ∙ behind_next y ys more' vs))
  one_list law more more' us vs (one_more_init x xs first others) no_more_inits low low' q =
      absurd (no_more_here xs more' more vs us first (omega (arith, low)) (sym q ∙ behind_next x xs more us))
  one_list law more more' us vs (one_more_init x xs first others) (one_more_init y ys first' others') low low' q =
      let s = one_init law (behind_first xs more us) (behind_first ys more' vs) first first' (omega (arith, low)) (omega (arith, low'))
      (tails (sym (behind_next x xs more us) ∙ q ∙ behind_next y ys more' vs)) (behind_ends xs more us) (behind_ends ys more' vs) in
      let r = one_list law more more' us vs others others' (omega (arith, low)) (omega (arith, low')) s.1 in
      (ap (λ z. z ∷ xs) s.0 ∙ ap (λ zs. y ∷ zs) r.0, r.1, r.2)

pub one_ended : OneBeforeEnd → (types : List (List ℕ)) (signs us vs : List Sign) (x y : Init) → StandsEnded types signs x us → StandsEnded types signs y vs → (x ≡ y) × (us ≡ vs)
one_ended law types signs us vs x y left right = one_init law us vs left.formed right.formed left.nested right.nested (sym left.printed ∙ right.printed) left.ended right.ended
