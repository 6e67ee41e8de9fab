-- Steps behind a parameter.
use Rattle.std.proofs.Common.{◌≡◌, ◌+◌, ◌∷◌, ◌++◌, ◌∙◌, ℕ, List, Bool, [], length, refl, sym, ap, subst, arith}
use Rattle.std.specs.Prelude.{reverse, false, true, Option, Result, IfOk}
use Rattle.po_base.specs.declared.memory.Memory.{Memory}
use Rattle.po_base.specs.declared.token.Token.{Token}
use Rattle.po_tree.specs.declared.declaration.Decl.{Decl}
use Rattle.po_tree.specs.declared.expression.Declarator.{Declarator}
use Rattle.po_tree.specs.declared.expression.Param.{Param, roll-Param}
use Rattle.po_tree.specs.declared.expression.Specifier.{Specifier}
use Rattle.po_tree.specs.declared.expression.Suffix.TheVariants as su
use Rattle.po_tree.specs.InForce.{InForce, Closes}
use Rattle.po_tree.specs.NameSets.{AreSame}
use Rattle.po_tree.specs.Signs.{Sign, comma, closing, dots}
use Rattle.po_exp_parts.specs.declared.seen.Seen.{Seen}
use Rattle.po_exp_parts.specs.declared.seen.Seen.TheVariants as none
use Rattle.po_exp_parts.specs.Places.{signs_between, Begins}
use Rattle.po_decl_steps.specs.declared.levels.Level.{Level}
use Rattle.po_decl_steps.specs.declared.levels.Owner.TheVariants as owner
use Rattle.po_decl_steps.specs.declared.levels.Focus.TheVariants as focus
use Rattle.po_decl_steps.specs.Completing.{Outside, list, hidden, Completes}
use Rattle.po_decl_steps.specs.Steps.{Alike, ParamsWanted}
use Rattle.po_decl_steps.proofs.BehindDeclarators.{next_alike, closing_alike, dots_alike, dots_wrong}
use Rattle.po_decl_steps.proofs.Parameters.{no_param_end}
use Rattle.po_init_read.proofs.Leading.{reverse_push}
use Rattle.po_decl_states.specs.declared.state.Step.{Step}
use Rattle.po_decl_states.specs.declared.state.Step.TheVariants as step
use Rattle.po_decl_states.specs.Going.{Goal, Completed, Goes}
use Rattle.po_decl_states.proofs.Stepping.{alike_itself, goes_next, goes_stuck, goes_along_ok, goes_closed}
use Rattle.po_decl_states.proofs.AtSpecifiers.{state}

-- what completes parameters, and what a list stands in, where these signs follow
abbrev pub AtParams : List Level → List (List (List ℕ)) → Option (List ℕ) → List Param → List Sign → Goal
AtParams below stars name params ts outers types = ParamsWanted (reverse below) outers stars name params types ts

abbrev pub BehindList : List Level → List (List (List ℕ)) → Option (List ℕ) → List Param → Bool → List Sign → Goal
BehindList below stars name params more ts outers types y left = Outside y left (reverse below) outers (list stars name params more) ts

pub param_goes : (tokens : List Token) (to at lists : ℕ) (before mid behind : InForce) (below : List Level) (specs : List Specifier) (free : Bool) (seen : Seen) (stars : List (List (List ℕ))) (name : Option (List ℕ)) (params more : List Param) (item : Declarator) (r : Result Step Memory) →
    more ≡ params ++ roll-Param (record { specs = specs; declarator = item }) ∷ [] → mid.tags ≡ before.tags → mid.outer ≡ before.outer →
    ((types : List (List ℕ)) → AreSame types before.typedefs → AreSame (hidden item.name types) mid.typedefs) →
    IfOk r (Goes (AtParams below stars name more (signs_between tokens at to)) tokens to lists mid behind) →
    IfOk r (Goes (Completed tokens to (state below (record { specs = specs; free = free; seen = seen; owner = owner.Param stars name params }) (focus.Behind item) at lists)) tokens to lists before behind)
param_goes tokens to at lists before mid behind below specs free seen stars name params more item r q p o f g =
    goes_along_ok (Completed tokens to (state below (record { specs = specs; free = free; seen = seen; owner = owner.Param stars name params }) (focus.Behind item) at lists))
    (AtParams below stars name more (signs_between tokens at to)) tokens to lists before mid behind r p o
    (λ outers types s. record {
      after = hidden item.name types;
      same = f types s;
      alike = subst (λ v. Alike (λ y left. Completes y left (reverse below) outers types (record { specs = specs; free = free; seen = seen; owner = owner.Param stars name params }) (focus.Behind item) (signs_between tokens at to))
          (ParamsWanted (reverse below) outers stars name v (hidden item.name types) (signs_between tokens at to)))
          (sym q) (alike_itself (ParamsWanted (reverse below) outers stars name (params ++ roll-Param (record { specs = specs; declarator = item }) ∷ []) (hidden item.name types) (signs_between tokens at to)));
    }) g

pub end_goes : (tokens : List Token) (to at lists : ℕ) (before behind : InForce) (below : List Level) (stars : List (List (List ℕ))) (name : Option (List ℕ)) (params : List Param) (r : Result Step Memory) →
    signs_between tokens at to ≡ closing ∷ signs_between tokens (at + 1) to → IfOk r (Goes (BehindList below stars name params false (signs_between tokens (at + 1) to)) tokens to lists before behind) →
    IfOk r (Goes (AtParams below stars name params (signs_between tokens at to)) tokens to lists before behind)
end_goes tokens to at lists before behind below stars name params r q g =
    goes_along_ok (AtParams below stars name params (signs_between tokens at to)) (BehindList below stars name params false (signs_between tokens (at + 1) to)) tokens to lists before before behind r refl refl
    (λ outers types s. record { after = types; same = s; alike = closing_alike (reverse below) outers stars name q }) g

pub no_param_goes : (tokens : List Token) (to at lists : ℕ) (names : InForce) (below : List Level) (stars : List (List (List ℕ))) (name : Option (List ℕ)) (params : List Param) →
    (Begins comma (signs_between tokens at to) → ⊥) → (Begins closing (signs_between tokens at to) → ⊥) → Goes (AtParams below stars name params (signs_between tokens at to)) tokens to lists names names step.Stuck
no_param_goes tokens to at lists names below stars name params a b =
    goes_stuck (AtParams below stars name params (signs_between tokens at to)) tokens to lists names names refl refl (λ outers types s n y rest k. no_param_end a b k)

pub past_comma_goes : (tokens : List Token) (to at lists : ℕ) (before behind : InForce) (below : List Level) (stars : List (List (List ℕ))) (name : Option (List ℕ)) (params : List Param) (r : Result Step Memory) →
    signs_between tokens at to ≡ comma ∷ signs_between tokens (at + 1) to → IfOk r (Goes (AtParams below stars name params (comma ∷ signs_between tokens (at + 1) to)) tokens to lists before behind) →
    IfOk r (Goes (AtParams below stars name params (signs_between tokens at to)) tokens to lists before behind)
past_comma_goes tokens to at lists before behind below stars name params r q g = subst (λ ts. IfOk r (Goes (AtParams below stars name params ts) tokens to lists before behind)) (sym q) g

pub further_param_goes : (tokens : List Token) (to at lists : ℕ) (names : InForce) (below : List Level) (stars : List (List (List ℕ))) (name : Option (List ℕ)) (params : List Param) → (Begins dots (signs_between tokens at to) → ⊥) →
    Goes (AtParams below stars name params (comma ∷ signs_between tokens at to)) tokens to lists names names
    (step.Next (state below (record { specs = []; free = true; seen = none.Nothing; owner = owner.Param stars name params }) focus.Specifiers at lists))
further_param_goes tokens to at lists names below stars name params shut =
    goes_next (AtParams below stars name params (comma ∷ signs_between tokens at to)) tokens to lists names names
    (state below (record { specs = []; free = true; seen = none.Nothing; owner = owner.Param stars name params }) focus.Specifiers at lists) refl refl refl
    (λ outers types s. record { after = types; same = s; alike = next_alike (reverse below) outers stars name refl shut })

pub wrong_dots_goes : (tokens : List Token) (to at lists : ℕ) (names : InForce) (below : List Level) (stars : List (List (List ℕ))) (name : Option (List ℕ)) (params : List Param) →
    signs_between tokens at to ≡ dots ∷ signs_between tokens (at + 1) to → (Begins closing (signs_between tokens (at + 1) to) → ⊥) →
    Goes (AtParams below stars name params (comma ∷ signs_between tokens at to)) tokens to lists names names step.Stuck
wrong_dots_goes tokens to at lists names below stars name params q wrong =
    goes_stuck (AtParams below stars name params (comma ∷ signs_between tokens at to)) tokens to lists names names refl refl
    (λ outers types s n y rest k. dots_wrong (reverse below) outers stars name rest y (ap (λ v. comma ∷ v) q) wrong k)

pub dots_goes : (tokens : List Token) (to at lists : ℕ) (before behind : InForce) (below : List Level) (stars : List (List (List ℕ))) (name : Option (List ℕ)) (params : List Param) (r : Result Step Memory) →
    signs_between tokens at to ≡ dots ∷ signs_between tokens (at + 1) to → signs_between tokens (at + 1) to ≡ closing ∷ signs_between tokens (at + 1 + 1) to →
    IfOk r (Goes (BehindList below stars name params true (signs_between tokens (at + 1 + 1) to)) tokens to lists before behind) →
    IfOk r (Goes (AtParams below stars name params (comma ∷ signs_between tokens at to)) tokens to lists before behind)
dots_goes tokens to at lists before behind below stars name params r q p g =
    goes_along_ok (AtParams below stars name params (comma ∷ signs_between tokens at to)) (BehindList below stars name params true (signs_between tokens (at + 1 + 1) to)) tokens to lists before before behind r refl refl
    (λ outers types s. record { after = types; same = s; alike = dots_alike (reverse below) outers stars name (ap (λ v. comma ∷ v) q) p }) g

-- a list closes

no_list : (l : List Level) (outers : List (List (List ℕ))) (stars : List (List (List ℕ))) (name : Option (List ℕ)) (params : List Param) (more : Bool) (ts left : List Sign) (y : Decl) → length outers ≡ 0 →
    Outside y left l outers (list stars name params more) ts → ⊥
no_list [] outers stars name params more ts left y n k = k
no_list (l ∷ below) [] stars name params more ts left y n k = k
no_list (l ∷ below) (types ∷ outers) stars name params more ts left y n k = absurd (omega (arith, n))

pub no_list_goes : (tokens : List Token) (to at lists : ℕ) (names : InForce) (below : List Level) (stars : List (List (List ℕ))) (name : Option (List ℕ)) (params : List Param) (more : Bool) → lists ≡ 0 →
    Goes (BehindList below stars name params more (signs_between tokens at to)) tokens to lists names names step.Stuck
no_list_goes tokens to at lists names below stars name params more q =
    goes_stuck (BehindList below stars name params more (signs_between tokens at to)) tokens to lists names names refl refl
    (λ outers types s n y rest k. no_list (reverse below) outers stars name params more (signs_between tokens at to) rest y (n ∙ q) k)

pub no_outside_goes : (tokens : List Token) (to at lists : ℕ) (names : InForce) (below : List Level) (stars : List (List (List ℕ))) (name : Option (List ℕ)) (params : List Param) (more : Bool) → below ≡ [] →
    Goes (BehindList below stars name params more (signs_between tokens at to)) tokens to lists names names step.Stuck
no_outside_goes tokens to at lists names below stars name params more q =
    goes_stuck (BehindList below stars name params more (signs_between tokens at to)) tokens to lists names names refl refl
    (λ outers types s n y rest k. subst (λ b. Outside y rest (reverse b) outers (list stars name params more) (signs_between tokens at to)) q k)

pub list_closes : (tokens : List Token) (to at lists fewer : ℕ) (before behind : InForce) (below left : List Level) (l : Level) (stars : List (List (List ℕ))) (name : Option (List ℕ)) (params : List Param) (more : Bool) →
    below ≡ left ++ l ∷ [] → fewer + 1 ≡ lists → Closes before behind →
    Goes (BehindList below stars name params more (signs_between tokens at to)) tokens to lists before behind
    (step.Next (state left l (focus.Behind (record { stars = stars; name = name; suffix = su.Params params more })) at fewer))
list_closes tokens to at lists fewer before behind below left l stars name params more q n closes =
    goes_closed (BehindList below stars name params more (signs_between tokens at to)) tokens to lists before behind
    (state left l (focus.Behind (record { stars = stars; name = name; suffix = su.Params params more })) at fewer) n closes
    (λ outers types outer. subst (λ b. Alike (λ y rest. Outside y rest b (outer ∷ outers) (list stars name params more) (signs_between tokens at to))
    (λ y rest. Completes y rest (reverse left) outers outer l (focus.Behind (record { stars = stars; name = name; suffix = su.Params params more })) (signs_between tokens at to)))
    (sym (ap reverse q ∙ reverse_push left l)) (alike_itself (λ y rest. Outside y rest (l ∷ reverse left) (outer ∷ outers) (list stars name params more) (signs_between tokens at to))))
