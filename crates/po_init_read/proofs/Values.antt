-- Where an initialiser is wanted an expression is read, or nothing completes what was read.
use Rattle.std.proofs.Common.{◌≡◌, ℕ, ◌≤◌, List, ◌++◌, ap, sym, ◌∙◌, refl, subst, Some, None}
use Rattle.po_tree.specs.declared.expression.Exp.{Exp}
use Rattle.po_tree.specs.declared.declaration.Init.{Init}
use Rattle.po_tree.specs.declared.declaration.Init.TheVariants as init
use Rattle.po_tree.specs.Signs.{Sign, brace}
use Rattle.po_tree.specs.Printing.{flat_init}
use Rattle.po_tree.specs.Heights.{init_height}
use Rattle.po_tree.specs.Declarations.{IsInit, one, many}
use Rattle.po_exp_parts.specs.Places.{Begins, at_comma, at_brace, BeginsEnd}
use Rattle.po_exp_read.specs.Longest.{IsLongestAt, NothingStandsAt, StandsAt}
use Rattle.po_init_read.specs.Completing.{Completes, item, whole, next, closed, closed_behind_comma, Alike}
use Rattle.po_init_read.proofs.Ended.{OneBeforeEnd, longest_ended, stands_at, stands_ended}
use Rattle.po_init_read.proofs.Behind.{flat_braces}

-- behind an initialiser that was read stands an end, where it can be completed
pub completes_ended : {types : List (List ℕ)} {braces : List (List Init)} {x y : Init} {ts left : List Sign} → Completes types braces (Some x) ts y left → BeginsEnd ts
completes_ended (whole x ts e) = e
completes_ended (next outer xs x y ts left c) = at_comma
completes_ended (closed outer xs x y ts left c) = at_brace
completes_ended (closed_behind_comma outer xs x y ts left c) = at_comma

-- an initialiser that begins with no brace is an expression
no_braces : {types : List (List ℕ)} {ts : List Sign} {x : Init} (us : List Sign) → (Begins brace ts → ⊥) → IsInit types x → init_height x ≤ 256 → ts ≡ flat_init x ++ us →
    (v : Exp) × (x ≡ init.One v) × StandsAt 1 types ts v us
no_braces us none (one m x high formed) low q = (x, refl, stands_at us m x high formed low q)
no_braces us none (many x xs more all) low q = absurd (none (subst (Begins brace) (sym (q ∙ flat_braces x xs more us)) refl))

value_forth : OneBeforeEnd → {types : List (List ℕ)} {outer : List (List Init)} {ts us left : List Sign} {x : Exp} {y : Init} → (Begins brace ts → ⊥) → IsLongestAt 1 types ts x us →
    Completes types outer None ts y left → Completes types outer (Some (init.One x)) us y left
value_forth law {types = types} {x = v} none best (item outer x y ts us left s c) =
    let p = no_braces us none s.formed s.nested s.printed in
    let q = longest_ended law best p.2 s.ended in
    subst (λ w. Completes types outer (Some (init.One v)) w y left) q.1
    (subst (λ w. Completes types outer (Some w) us y left) (p.1 ∙ ap init.One q.0) c)

value_back : {types : List (List ℕ)} {outer : List (List Init)} {ts us left : List Sign} {x : Exp} {y : Init} → StandsAt 1 types ts x us →
    Completes types outer (Some (init.One x)) us y left → Completes types outer None ts y left
value_back {outer = outer} {ts = ts} {us = us} {left = left} {x = x} {y = y} at c = item outer (init.One x) y ts us left (stands_ended us x at (completes_ended c)) c

pub value_alike : OneBeforeEnd → {types : List (List ℕ)} {outer : List (List Init)} {ts us : List Sign} {x : Exp} → (Begins brace ts → ⊥) → IsLongestAt 1 types ts x us →
    Alike types outer None ts outer (Some (init.One x)) us
value_alike law none best = record { forth = λ y left c. value_forth law none best c; back = λ y left c. value_back best.stands c }

pub no_value : {types : List (List ℕ)} {outer : List (List Init)} {ts left : List Sign} {y : Init} → (Begins brace ts → ⊥) → NothingStandsAt 1 types ts →
    Completes types outer None ts y left → ⊥
no_value none nothing (item outer x y ts us left s c) = let p = no_braces us none s.formed s.nested s.printed in nothing p.0 us p.2
