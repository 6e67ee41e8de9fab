-- The reader begins with nothing, and ends with a whole initialiser.
use Rattle.std.proofs.Common.{◌≡◌, ℕ, List, [], ◌∷◌, ◌++◌, sym, subst, arith, Some, None}
use Rattle.std.proofs.lemmas.List.{reverse-append}
use Rattle.std.specs.Prelude.{reverse}
use Rattle.po_base.specs.declared.token.Token.{Token}
use Rattle.po_tree.specs.declared.declaration.Init.{Init}
use Rattle.po_tree.specs.Signs.{Sign}
use Rattle.po_exp_parts.specs.Places.{signs_between, BeginsEnd}
use Rattle.po_init_read.specs.declared.read.State.{State}
use Rattle.po_init_read.specs.declared.read.Step.TheVariants as step
use Rattle.po_init_read.specs.Initialisers.{StandsEnded}
use Rattle.po_init_read.specs.Completing.{Completes, item, whole, Completed, Goes, Leads}

-- what is completed from nothing is what stands there
started : {types : List (List ℕ)} {ts left : List Sign} {y : Init} → StandsEnded types ts y left → Completes types [] None ts y left
started {ts = ts} {left = left} {y = y} s = item [] y y ts left left s (whole y left s.ended)

whole_stands : {types : List (List ℕ)} {ts us left : List Sign} {x y : Init} → StandsEnded types ts x us → Completes types [] (Some x) us y left → StandsEnded types ts y left
whole_stands s (whole x us e) = s

stands_completed : {types : List (List ℕ)} {ts left : List Sign} {y : Init} → Completes types [] None ts y left → StandsEnded types ts y left
stands_completed (item outer x y ts us left s c) = whole_stands s c

-- the innermost comes first
pub reverse_push : {A : Type 0} (xs : List A) (x : A) → reverse (xs ++ x ∷ []) ≡ x ∷ reverse xs
reverse_push xs x = reverse-append xs (x ∷ [])

pub leads_first : (types : List (List ℕ)) (tokens : List Token) (from to : ℕ) (braces : List (List Init)) → braces ≡ [] →
    Leads types tokens from to (record { braces = braces; last = None; at = from })
leads_first types tokens from to braces q = record {
  forth = λ y left s. subst (λ b. Completes types (reverse b) None (signs_between tokens from to) y left) (sym q) (started s);
  back = λ y left c. stands_completed (subst (λ b. Completes types (reverse b) None (signs_between tokens from to) y left) q c);
  after = omega arith;
}

whole_completed : (types : List (List ℕ)) (tokens : List Token) (to : ℕ) (s : State) (x : Init) (end : ℕ) → s.braces ≡ [] → s.last ≡ Some x → s.at ≡ end →
    BeginsEnd (signs_between tokens end to) → Completed types tokens to s x (signs_between tokens end to)
whole_completed types tokens to s x end p q r e =
    subst (λ b. Completes types (reverse b) s.last (signs_between tokens s.at to) x (signs_between tokens end to)) (sym p)
    (subst (λ l. Completes types [] l (signs_between tokens s.at to) x (signs_between tokens end to)) (sym q)
    (subst (λ n. Completes types [] (Some x) (signs_between tokens n to) x (signs_between tokens end to)) (sym r)
    (whole x (signs_between tokens end to) e)))

pub leads_whole : {types : List (List ℕ)} {tokens : List Token} {from to : ℕ} (s : State) (x : Init) (end : ℕ) → Leads types tokens from to s → Goes types tokens to s (step.Whole x end) →
    StandsEnded types (signs_between tokens from to) x (signs_between tokens end to)
leads_whole {types = types} {tokens = tokens} {to = to} s x end h g = h.back x (signs_between tokens end to) (whole_completed types tokens to s x end g.0 g.1 g.2 g.3)
