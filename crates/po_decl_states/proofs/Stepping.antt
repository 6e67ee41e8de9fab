-- A step from what goes on before it, by what it does to the names.
use Rattle.std.proofs.Common.{◌≡◌, ◌≤◌, ◌+◌, ◌∷◌, ◌∙◌, ℕ, List, [], length, sym, subst, arith}
use Rattle.std.specs.Prelude.{Result, Ok, Err, IfOk}
use Rattle.po_base.specs.declared.memory.Memory.{Memory}
use Rattle.po_base.specs.declared.token.Token.{Token}
use Rattle.po_tree.specs.declared.declaration.Decl.{Decl}
use Rattle.po_tree.specs.Signs.{Sign}
use Rattle.po_tree.specs.InForce.{InForce, Standing, OpensScope, Closes}
use Rattle.po_tree.specs.NameSets.{AreSame}
use Rattle.po_exp_parts.specs.Places.{signs_between}
use Rattle.po_decl_steps.specs.Steps.{Alike}
use Rattle.po_decl_states.specs.declared.state.State.{State}
use Rattle.po_decl_states.specs.declared.state.Step.{Step}
use Rattle.po_decl_states.specs.declared.state.Step.TheVariants as step
use Rattle.po_decl_states.specs.Scopes.{InScopes, Scoped, Reads}
use Rattle.po_decl_states.specs.Going.{Goal, Completed, Leads, Ends, Goes, GetsOn}

pub joined : {P Q R : Decl → List Sign → Type 0} → Alike P Q → Alike Q R → Alike P R
joined a b = record { forth = λ y left p. b.forth y left (a.forth y left p); back = λ y left r. a.back y left (b.back y left r) }

pub alike_itself : (P : Decl → List Sign → Type 0) → Alike P P
alike_itself P = record { forth = λ y left p. p; back = λ y left p. p }

-- scopes stay where neither tags nor scopes change
pub scoped_kept : {tags : List (List ℕ)} {base : List Standing} {outers : List (List (List ℕ))} {lists : ℕ} (before behind : InForce) → behind.tags ≡ before.tags → behind.outer ≡ before.outer →
    Scoped tags base outers lists before → Scoped tags base outers lists behind
scoped_kept {tags = tags} {base = base} {outers = outers} before behind p q s = record { kept = p ∙ s.kept; scopes = subst (InScopes tags base outers) (sym q) s.scopes; counted = s.counted }

-- what goes on is `P`, and the state `s` behind it has the typedef names `after`
pub record Onward (P : Decl → List Sign → Type 0) (Q : List (List ℕ) → Decl → List Sign → Type 0) (names : InForce) : Type 0 where
  pub after : List (List ℕ)
  pub same : AreSame after names.typedefs
  pub alike : Alike P (Q after)

pub goes_next : (P : Goal) (tokens : List Token) (to lists : ℕ) (before behind : InForce) (s : State) → s.lists ≡ lists → behind.tags ≡ before.tags → behind.outer ≡ before.outer →
    ((outers : List (List (List ℕ))) (types : List (List ℕ)) → AreSame types before.typedefs → Onward (P outers types) (Completed tokens to s outers) behind) →
    Goes P tokens to lists before behind (step.Next s)
goes_next P tokens to lists before behind s n p q f = record {
  comes = λ tags base outers types r.
      let g = f outers types r.same in
      record {
        outers = outers;
        types = g.after;
        reads = record { same = g.same; scoped = subst (λ k. Scoped tags base outers k behind) (sym n) (scoped_kept before behind p q r.scoped) };
        alike = g.alike;
      };
}

pub goes_stuck : (P : Goal) (tokens : List Token) (to lists : ℕ) (before behind : InForce) → behind.tags ≡ before.tags → behind.outer ≡ before.outer →
    ((outers : List (List (List ℕ))) (types : List (List ℕ)) → AreSame types before.typedefs → length outers ≡ lists → (y : Decl) (rest : List Sign) → P outers types y rest → ⊥) →
    Goes P tokens to lists before behind step.Stuck
goes_stuck P tokens to lists before behind p q f = record { comes = λ tags base outers types r. (f outers types r.same r.scoped.counted, scoped_kept before behind p q r.scoped) }

pub goes_whole : (P : Goal) (tokens : List Token) (to lists : ℕ) (names : InForce) (d : Decl) (end : ℕ) →
    ((outers : List (List (List ℕ))) (types : List (List ℕ)) → AreSame types names.typedefs → Ends (P outers types) d (signs_between tokens end to)) →
    Goes P tokens to lists names names (step.Whole d end)
goes_whole P tokens to lists names d end f = record { comes = λ tags base outers types r. (f outers types r.same, r.scoped) }

-- what goes on otherwise goes on as before
pub goes_along : (P Q : Goal) (tokens : List Token) (to lists : ℕ) (before mid behind : InForce) (s : Step) → mid.tags ≡ before.tags → mid.outer ≡ before.outer →
    ((outers : List (List (List ℕ))) (types : List (List ℕ)) → AreSame types before.typedefs → Onward (P outers types) (Q outers) mid) →
    Goes Q tokens to lists mid behind s → Goes P tokens to lists before behind s
goes_along P Q tokens to lists before mid behind (step.Next s) p q f h = record {
  comes = λ tags base outers types r.
      let g = f outers types r.same in
      let w = h.comes tags base outers g.after (record { same = g.same; scoped = scoped_kept before mid p q r.scoped }) in
      record { outers = w.outers; types = w.types; reads = w.reads; alike = joined g.alike w.alike };
}
goes_along P Q tokens to lists before mid behind (step.Whole d end) p q f h = record {
  comes = λ tags base outers types r.
      let g = f outers types r.same in
      let w = h.comes tags base outers g.after (record { same = g.same; scoped = scoped_kept before mid p q r.scoped }) in
      (record { whole = g.alike.back d _ w.0.whole; one = λ y rest c. w.0.one y rest (g.alike.forth y rest c) }, w.1);
}
goes_along P Q tokens to lists before mid behind step.Stuck p q f h = record {
  comes = λ tags base outers types r.
      let g = f outers types r.same in
      let w = h.comes tags base outers g.after (record { same = g.same; scoped = scoped_kept before mid p q r.scoped }) in
      ((λ y rest c. w.0 y rest (g.alike.forth y rest c)), w.1);
}

pub goes_along_ok : (P Q : Goal) (tokens : List Token) (to lists : ℕ) (before mid behind : InForce) (r : Result Step Memory) → mid.tags ≡ before.tags → mid.outer ≡ before.outer →
    ((outers : List (List (List ℕ))) (types : List (List ℕ)) → AreSame types before.typedefs → Onward (P outers types) (Q outers) mid) →
    IfOk r (Goes Q tokens to lists mid behind) → IfOk r (Goes P tokens to lists before behind)
goes_along_ok P Q tokens to lists before mid behind (Ok s) p q f h = goes_along P Q tokens to lists before mid behind s p q f h
goes_along_ok P Q tokens to lists before mid behind (Err e) p q f h = tt

-- a scope opens
pub goes_opened : (P : Goal) (tokens : List Token) (to lists : ℕ) (before behind : InForce) (s : State) → s.lists ≡ lists + 1 → OpensScope before behind →
    ((outers : List (List (List ℕ))) (types : List (List ℕ)) → Alike (P outers types) (Completed tokens to s (types ∷ outers) types)) →
    Goes P tokens to lists before behind (step.Next s)
goes_opened P tokens to lists before behind s n q f = record {
  comes = λ tags base outers types r. record {
    outers = types ∷ outers;
    types = types;
    reads = subst (Reads tags base (types ∷ outers) types s.lists) (sym q) (record {
      same = r.same;
      scoped = record { kept = r.scoped.kept; scopes = (r.same, r.scoped.kept, r.scoped.scopes); counted = omega (arith, r.scoped.counted, n) };
    });
    alike = f outers types;
  };
}

closed : (P : Goal) (tokens : List Token) (to lists : ℕ) (before behind : InForce) (s : State) → s.lists + 1 ≡ lists → Closes before behind →
    ((outers : List (List (List ℕ))) (types outer : List (List ℕ)) → Alike (P (outer ∷ outers) types) (Completed tokens to s outers outer)) →
    (tags : List (List ℕ)) (base : List Standing) (outers : List (List (List ℕ))) (types : List (List ℕ)) → Reads tags base outers types lists before → Leads (P outers types) tags base tokens to behind s
closed P tokens to lists before behind s n q f tags base [] types r = absurd (let c = r.scoped.counted in omega (arith, c, n))
closed P tokens to lists before behind s n q f tags base (outer ∷ outers) types r =
    let inside = subst (InScopes tags base (outer ∷ outers)) q r.scoped.scopes in
    let c = r.scoped.counted in
    record {
      outers = outers;
      types = outer;
      reads = record { same = inside.0; scoped = record { kept = inside.1; scopes = inside.2; counted = omega (arith, c, n) } };
      alike = f outers types outer;
    }

-- the innermost scope closes
pub goes_closed : (P : Goal) (tokens : List Token) (to lists : ℕ) (before behind : InForce) (s : State) → s.lists + 1 ≡ lists → Closes before behind →
    ((outers : List (List (List ℕ))) (types outer : List (List ℕ)) → Alike (P (outer ∷ outers) types) (Completed tokens to s outers outer)) →
    Goes P tokens to lists before behind (step.Next s)
goes_closed P tokens to lists before behind s n q f = record { comes = closed P tokens to lists before behind s n q f }

-- a step from a later place gets on from an earlier one
pub gets_on : (tokens : List Token) (to at later lists more steps : ℕ) (s : Step) → at ≤ later → more ≤ steps → GetsOn tokens to later lists more s → GetsOn tokens to at lists steps s
gets_on tokens to at later lists more steps (step.Next s) a m g = (omega (arith, a, g.0), omega (arith, m, g.1), λ h. g.2 (omega (arith, h, a)))
gets_on tokens to at later lists more steps (step.Whole d end) a m g = (omega (arith, a, g.0), g.1, g.2)
gets_on tokens to at later lists more steps step.Stuck a m g = tt

pub gets_on_ok : (tokens : List Token) (to at later lists more steps : ℕ) (r : Result Step Memory) → at ≤ later → more ≤ steps → IfOk r (GetsOn tokens to later lists more) → IfOk r (GetsOn tokens to at lists steps)
gets_on_ok tokens to at later lists more steps (Ok s) a m g = gets_on tokens to at later lists more steps s a m g
gets_on_ok tokens to at later lists more steps (Err e) a m g = tt
