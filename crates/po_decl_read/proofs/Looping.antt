-- The loop over the steps: how it begins, goes on and ends.
use Rattle.std.proofs.Common.{◌≡◌, ℕ, List, [], true, false, refl, sym, subst}
use Rattle.po_base.specs.declared.token.Token.{Token}
use Rattle.po_tree.specs.declared.declaration.Decl.{Decl}
use Rattle.po_tree.specs.Signs.{Sign}
use Rattle.po_tree.specs.InForce.{InForce, Standing}
use Rattle.po_exp_parts.specs.Places.{signs_between}
use Rattle.po_exp_parts.specs.declared.seen.Seen.TheVariants as seen
use Rattle.po_decl_steps.specs.declared.levels.Owner.TheVariants as of
use Rattle.po_decl_steps.specs.declared.levels.Focus.TheVariants as wanted
use Rattle.po_decl_steps.specs.Completing.{Completes}
use Rattle.po_decl_steps.specs.Standing.{DeclarationStands}
use Rattle.po_decl_steps.specs.Steps.{Alike}
use Rattle.po_decl_states.specs.declared.state.State.{State}
use Rattle.po_decl_states.specs.declared.state.Step.{Step}
use Rattle.po_decl_states.specs.declared.state.Step.TheVariants as step
use Rattle.po_decl_states.specs.Going.{Completed, Leads, Goes, Comes}
use Rattle.po_decl_states.proofs.Stepping.{joined}

-- nothing was read
pub begin_leads : (tokens : List Token) (from to : ℕ) (names : InForce) (s : State) →
    s ≡ record { below = []; level = record { specs = []; free = true; seen = seen.Nothing; owner = of.Declaration false [] }; focus = wanted.Specifiers; at = from; lists = 0 } →
    ((types : List (List ℕ)) (signs : List Sign) → Alike (DeclarationStands types signs) (λ y left. Completes y left [] [] types (record { specs = []; free = true; seen = seen.Nothing; owner = of.Declaration false [] }) wanted.Specifiers signs)) →
    Leads (DeclarationStands names.typedefs (signs_between tokens from to)) names.tags names.outer tokens to names s
begin_leads tokens from to names s q law =
    subst (λ z. Leads (DeclarationStands names.typedefs (signs_between tokens from to)) names.tags names.outer tokens to names z) (sym q) (record {
      outers = [];
      types = names.typedefs;
      reads = record { same = λ name. ((λ h. h), (λ h. h)); scoped = record { kept = refl; scopes = refl; counted = refl } };
      alike = law names.typedefs (signs_between tokens from to);
    })

-- what a step comes to from what went on before the loop
pub comes_along : (P : Decl → List Sign → Type 0) (tags : List (List ℕ)) (base : List Standing) (tokens : List Token) (to : ℕ) (before behind : InForce) (s : State) (step : Step) →
    (w : Leads P tags base tokens to before s) → Goes (Completed tokens to s) tokens to s.lists before behind step → Comes P tags base w.outers s.lists tokens to behind step
comes_along P tags base tokens to before behind s (step.Next n) w g =
    let h = g.comes tags base w.outers w.types w.reads in
    record { outers = h.outers; types = h.types; reads = h.reads; alike = joined w.alike h.alike }
comes_along P tags base tokens to before behind s (step.Whole d end) w g =
    let h = g.comes tags base w.outers w.types w.reads in
    (record { whole = w.alike.back d _ h.0.whole; one = λ y rest p. h.0.one y rest (w.alike.forth y rest p) }, h.1)
comes_along P tags base tokens to before behind s step.Stuck w g =
    let h = g.comes tags base w.outers w.types w.reads in
    ((λ y rest p. h.0 y rest (w.alike.forth y rest p)), h.1)
