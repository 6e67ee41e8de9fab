-- Brackets are balanced exactly where the walk over them leaves none open.
use Rattle.std.proofs.Common.{◌≡◌, ℕ, Bool, true, false, cond, List, [], ◌∷◌, ◌++◌, sym, ap, refl, ◌∙◌, subst, append_assoc, append-nil}
use Rattle.std.specs.Prelude.{Option, Some, None, ◌==◌, ◌&&◌, ◌||◌, not}
use Rattle.std.proofs.lemmas.Bool.{and_parts, eqb-true, eq-eqb}
use Rattle.po_base.specs.declared.token.Token.{Token}
use Rattle.po_lex.specs.Brackets.{State, outset, step, behind_mark, pop, ends, ends_in, mark, closer, is_closer}
use Rattle.po_lex.specs.Balance.{is_bracket, Matches, Balanced, no_token, and_token, and_group, steps}
use Rattle.po_lex.specs.Pieces.{goes, IsPiece}
use Rattle.po_lex.specs.declared.nesting.Open.{Open}

steps-append : (s : Option State) (xs ys : List Token) → steps s (xs ++ ys) ≡ steps (steps s xs) ys
steps-append s [] ys = refl
steps-append None (x ∷ xs) [] = refl
steps-append None (x ∷ xs) (y ∷ ys) = refl
steps-append (Some s) (x ∷ xs) ys = steps-append (step s x) xs ys

-- a byte is no opening and no closing bracket at once
no_closer : (c : ℕ) → is_closer c ≡ true → closer c ≡ 0
no_closer c h =
    elim (c == 41) as (λ b. (c == 41) ≡ b → ((b || (c == 93)) || (c == 125)) ≡ true → closer c ≡ 0) [
      | true ↦ (λ q k. let same : c ≡ 41 = eqb-true c 41 q in rw same refl)
      | false ↦ (λ q. elim (c == 93) as (λ b. (c == 93) ≡ b → ((false || b) || (c == 125)) ≡ true → closer c ≡ 0) [
        | true ↦ (λ p k. let same : c ≡ 93 = eqb-true c 93 p in rw same refl)
        | false ↦ (λ p k. let same : c ≡ 125 = eqb-true c 125 k in rw same refl)
      ] refl)
    ] refl h

opens_group : (o c : Token) → Matches o c → (is_closer (mark o) ≡ false) × ((closer (mark o) == 0) ≡ false)
opens_group o c h = (first, second)
  where
    some : closer (mark o) ≡ 0 → ⊥
    some q =
        let none : mark c ≡ 0 = sym h.0 ∙ q in
        let bad : true ≡ false = sym h.1 ∙ ap is_closer none in absurd (cc)

    first : is_closer (mark o) ≡ false
    first =
        elim (is_closer (mark o)) as (λ b. is_closer (mark o) ≡ b → b ≡ false) [
          | true ↦ (λ q. absurd (some (no_closer (mark o) q)))
          | false ↦ (λ q. refl)
        ] refl

    second : (closer (mark o) == 0) ≡ false
    second =
        elim (closer (mark o) == 0) as (λ b. (closer (mark o) == 0) ≡ b → b ≡ false) [
          | true ↦ (λ q. absurd (some (eqb-true (closer (mark o)) 0 q)))
          | false ↦ (λ q. refl)
        ] refl

abbrev at : List Open → Bool → Option State
at stack begins = Some (record { stack = stack; begins = begins })

-- a token that is no bracket leaves the brackets as they are
over_token : (t : Token) (stack : List Open) (begins : Bool) → is_bracket t ≡ false → steps (at stack begins) (t ∷ []) ≡ at stack (mark t == 41)
over_token t stack begins h =
    elim (is_closer (mark t)) as (λ b. (b || not (closer (mark t) == 0)) ≡ false →
    behind_mark (mark t) (cond b (pop (mark t) stack) (cond (closer (mark t) == 0) (Some stack) (Some (record { close = closer (mark t); line = t.own_line; body = (mark t == 123) && begins } ∷ stack)))) ≡ at stack (mark t == 41)) [
      | true ↦ (λ q. absurd (cc))
      | false ↦ (λ q. elim (closer (mark t) == 0) as (λ b. not b ≡ false →
          behind_mark (mark t) (cond b (Some stack) (Some (record { close = closer (mark t); line = t.own_line; body = (mark t == 123) && begins } ∷ stack))) ≡ at stack (mark t == 41)) [
            | true ↦ (λ p. refl)
            | false ↦ (λ p. absurd (cc))
          ] q)
    ] h

over_open : (t : Token) (stack : List Open) (begins : Bool) → is_closer (mark t) ≡ false → (closer (mark t) == 0) ≡ false →
    step (record { stack = stack; begins = begins }) t ≡ at (record { close = closer (mark t); line = t.own_line; body = (mark t == 123) && begins } ∷ stack) (mark t == 41)
over_open t stack begins p q = rw (p, q) refl

over_close : (t : Token) (x : Open) (stack : List Open) (begins : Bool) → is_closer (mark t) ≡ true → (x.close == mark t) ≡ true →
    step (record { stack = x ∷ stack; begins = begins }) t ≡ at stack (mark t == 41)
over_close t x stack begins p q = rw (p, q) refl

-- the walk over balanced brackets comes back to those that were open
pub comes_back : {ts : List Token} → Balanced ts → (stack : List Open) (begins : Bool) → (now : Bool) × (steps (at stack begins) ts ≡ at stack now)
comes_back no_token stack begins = (begins, refl)
comes_back (and_token ts t q h) stack begins =
    let one = comes_back h stack begins in
    (mark t == 41, steps-append (at stack begins) ts (t ∷ []) ∙ ap (λ v. steps v (t ∷ [])) one.1 ∙ over_token t stack one.0 q)
comes_back (and_group ts inner o c m h k) stack begins =
    let one = comes_back h stack begins in
    let x : Open = record { close = closer (mark o); line = o.own_line; body = (mark o == 123) && one.0 } in
    let parts = opens_group o c m in
    let opened : steps (at stack one.0) (o ∷ (inner ++ (c ∷ []))) ≡ steps (at (x ∷ stack) (mark o == 41)) (inner ++ (c ∷ [])) =
    ap (λ v. steps v (inner ++ (c ∷ []))) (over_open o stack one.0 parts.0 parts.1) in
    let two = comes_back k (x ∷ stack) (mark o == 41) in
    let inside : steps (at (x ∷ stack) (mark o == 41)) (inner ++ (c ∷ [])) ≡ steps (at (x ∷ stack) two.0) (c ∷ []) =
    steps-append (at (x ∷ stack) (mark o == 41)) inner (c ∷ []) ∙ ap (λ v. steps v (c ∷ [])) two.1 in
    let same : (closer (mark o) == mark c) ≡ true = eq-eqb (closer (mark o)) (mark c) m.0 in
    let closed : steps (at (x ∷ stack) two.0) (c ∷ []) ≡ at stack (mark c == 41) =
    ap (λ v. steps v []) (over_close c x stack two.0 m.1 same) in
    (mark c == 41, steps-append (at stack begins) ts (o ∷ (inner ++ (c ∷ []))) ∙ ap (λ v. steps v (o ∷ (inner ++ (c ∷ [])))) one.1 ∙ opened ∙ inside ∙ closed)

-- the tokens leave these brackets open, the innermost first, and are balanced but for them
abbrev Opens : List Open → List Token → Type 0
Opens [] ts = Balanced ts
Opens (x ∷ xs) ts =
    (front : List Token) × (o : Token) × (inner : List Token) × (closer (mark o) ≡ x.close) × Opens xs front × Balanced inner × (ts ≡ front ++ (o ∷ inner))

with_token : (stack : List Open) (done : List Token) (t : Token) → is_bracket t ≡ false → Opens stack done → Opens stack (done ++ (t ∷ []))
with_token [] done t q h = and_token done t q h
with_token (x ∷ xs) done t q h =
    (h.0, h.1, h.2 ++ (t ∷ []), h.3, h.4, and_token h.2 t q h.5, ap (λ v. v ++ (t ∷ [])) h.6 ∙ append_assoc h.0 (h.1 ∷ h.2) (t ∷ []))

with_group : (stack : List Open) (done inner : List Token) (o c : Token) → Matches o c → Balanced inner → Opens stack done →
    Opens stack (done ++ (o ∷ (inner ++ (c ∷ []))))
with_group [] done inner o c m k h = and_group done inner o c m h k
with_group (x ∷ xs) done inner o c m k h =
    let group : List Token = o ∷ (inner ++ (c ∷ [])) in
    (h.0, h.1, h.2 ++ group, h.3, h.4, and_group h.2 inner o c m h.5 k, ap (λ v. v ++ group) h.6 ∙ append_assoc h.0 (h.1 ∷ h.2) group)

closing : (stack : List Open) (done : List Token) (t : Token) (now : State) → is_closer (mark t) ≡ true → Opens stack done →
    behind_mark (mark t) (pop (mark t) stack) ≡ Some now → Opens now.stack (done ++ (t ∷ []))
closing [] done t now q h s = absurd (cc)
closing (x ∷ xs) done t now q h s =
    elim (x.close == mark t) as (λ b. (x.close == mark t) ≡ b → behind_mark (mark t) (cond b (Some xs) None) ≡ Some now → Opens now.stack (done ++ (t ∷ []))) [
      | true ↦ (λ same k. let there : record { stack = xs; begins = mark t == 41 } ≡ now = cc in
          let matches : Matches h.1 t = (h.3 ∙ eqb-true x.close (mark t) same, q) in
          let all : done ++ (t ∷ []) ≡ h.0 ++ (h.1 ∷ (h.2 ++ (t ∷ []))) = ap (λ v. v ++ (t ∷ [])) h.6 ∙ append_assoc h.0 (h.1 ∷ h.2) (t ∷ []) in
          let grown : Opens xs (done ++ (t ∷ [])) = subst (Opens xs) (sym all) (with_group xs h.0 h.2 h.1 t matches h.5 h.4) in
          subst (λ v. Opens v (done ++ (t ∷ []))) (ap (λ v. v.stack) there) grown)
      | false ↦ (λ same k. absurd (cc))
    ] refl s

one_step : (s : State) (done : List Token) (t : Token) (now : State) → Opens s.stack done → step s t ≡ Some now → Opens now.stack (done ++ (t ∷ []))
one_step s done t now h q =
    let c : ℕ = mark t in
    let x : Open = record { close = closer c; line = t.own_line; body = (c == 123) && s.begins } in
    elim (is_closer c) as (λ b. is_closer c ≡ b → behind_mark c (cond b (pop c s.stack) (cond (closer c == 0) (Some s.stack) (Some (x ∷ s.stack)))) ≡ Some now → Opens now.stack (done ++ (t ∷ []))) [
      | true ↦ (λ p k. closing s.stack done t now p h k)
      | false ↦ (λ p. elim (closer c == 0) as (λ b. (closer c == 0) ≡ b → behind_mark c (cond b (Some s.stack) (Some (x ∷ s.stack))) ≡ Some now → Opens now.stack (done ++ (t ∷ []))) [
        | true ↦ (λ r k. let there : record { stack = s.stack; begins = c == 41 } ≡ now = cc in
            let plain : is_bracket t ≡ false = rw (p, r) refl in
            subst (λ v. Opens v (done ++ (t ∷ []))) (ap (λ v. v.stack) there) (with_token s.stack done t plain h))
        | false ↦ (λ r k. let there : record { stack = x ∷ s.stack; begins = c == 41 } ≡ now = cc in
            let opened : Opens (x ∷ s.stack) (done ++ (t ∷ [])) = (done, t, [], refl, h, no_token, refl) in
            subst (λ v. Opens v (done ++ (t ∷ []))) (ap (λ v. v.stack) there) opened)
      ] refl)
    ] refl q

none_goes : (ts : List Token) (now : State) → steps None ts ≡ Some now → ⊥
none_goes [] now q = absurd (cc)
none_goes (t ∷ ts) now q = absurd (cc)

onward : (s : State) (done ts : List Token) (now : State) → Opens s.stack done → steps (Some s) ts ≡ Some now → Opens now.stack (done ++ ts)
onward s done [] now h q =
    let same : s ≡ now = cc in subst (λ v. Opens v.stack (done ++ [])) same (subst (Opens s.stack) (sym (append-nil done)) h)
onward s done (t ∷ ts) now h q =
    elim (step s t) as (λ v. step s t ≡ v → steps v ts ≡ Some now → Opens now.stack (done ++ (t ∷ ts))) [
      | None ↦ (λ p k. absurd (none_goes ts now k))
      | Some n ↦ (λ p k. subst (Opens now.stack) (append_assoc done (t ∷ []) ts) (onward n (done ++ (t ∷ [])) ts now (one_step s done t n h p) k))
    ] refl q

pub none_left_open : (ts : List Token) (now : State) → steps (Some outset) ts ≡ Some now → now.stack ≡ [] → Balanced ts
none_left_open ts now q none = subst (λ v. Opens v ts) none (onward outset [] ts now no_token q)

goes_none : (ts : List Token) (now : State) → goes None ts ≡ Some now → ⊥
goes_none [] now q = absurd (cc)
goes_none (t ∷ ts) now q = absurd (cc)

goes_steps : (s : State) (ts : List Token) (now : State) → goes (Some s) ts ≡ Some now → steps (Some s) ts ≡ Some now
goes_steps s [] now q = q
goes_steps s (t ∷ ts) now q =
    elim (ends s t) as (λ b. goes (cond b None (step s t)) ts ≡ Some now → steps (step s t) ts ≡ Some now) [
      | true ↦ (λ k. absurd (goes_none ts now k))
      | false ↦ (λ k. elim (step s t) as (λ v. goes v ts ≡ Some now → steps v ts ≡ Some now) [
        | None ↦ (λ p. absurd (goes_none ts now p))
        | Some n ↦ (λ p. goes_steps n ts now p)
      ] k)
    ] q

-- behind the last token of a piece no bracket is open
all_closed : (stack : List Open) (begins : Bool) (t : Token) (now : State) → ends_in stack (mark t) ≡ true →
    step (record { stack = stack; begins = begins }) t ≡ Some now → now.stack ≡ []
all_closed [] begins t now h q =
    let same : mark t ≡ 59 = eqb-true (mark t) 59 h in
    let there : Some (record { stack = []; begins = false }) ≡ Some now = sym (rw same refl) ∙ q in
    let so : record { stack = []; begins = false } ≡ now = cc in sym (ap (λ v. v.stack) so)
all_closed (x ∷ []) begins t now h q =
    let same : mark t ≡ 125 = eqb-true (mark t) 125 (and_parts x.body (mark t == 125) h).1 in
    elim (x.close == 125) as (λ b. behind_mark 125 (cond b (Some []) None) ≡ Some now → now.stack ≡ []) [
      | true ↦ (λ k. let so : record { stack = []; begins = false } ≡ now = cc in sym (ap (λ v. v.stack) so))
      | false ↦ (λ k. absurd (cc))
    ] (sym (rw same refl) ∙ q)
all_closed (x ∷ y ∷ xs) begins t now h q = absurd (cc)

pub piece_balanced : (tokens : List Token) (body : Bool) → IsPiece tokens body → Balanced tokens
piece_balanced tokens body h =
    let front : steps (Some outset) h.front ≡ Some h.before = goes_steps outset h.front h.before h.goes_to in
    let all : steps (Some outset) tokens ≡ Some h.behind =
    ap (steps (Some outset)) h.whole ∙ steps-append (Some outset) h.front (h.last ∷ []) ∙ ap (λ v. steps v (h.last ∷ [])) front ∙ h.matches in
    none_left_open tokens h.behind all (all_closed h.before.stack h.before.begins h.last h.behind h.ends_it h.matches)

pub balanced_back : (ts : List Token) → Balanced ts → (s : State) → (begins : Bool) × (steps (Some s) ts ≡ Some (record { stack = s.stack; begins = begins }))
balanced_back ts h s = comes_back h s.stack s.begins
