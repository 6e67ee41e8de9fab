-- The scopes of the lists of parameters that are open.
use Rattle.std.proofs.Common.{◌≡◌, ◌≤◌, ◌∷◌, ℕ, List, [], length, drop, sym, subst, arith}
use Rattle.po_tree.specs.InForce.{InForce, Standing}
use Rattle.po_decl_states.specs.Scopes.{InScopes, Scoped}

-- what is left of the scopes where those of the lists are taken away
scopes_dropped : (tags : List (List ℕ)) (base : List Standing) (outers : List (List (List ℕ))) (standing : List Standing) → InScopes tags base outers standing →
    (length outers ≤ length standing) × (drop (length outers) standing ≡ base)
scopes_dropped tags base [] standing h = (omega arith, h)
scopes_dropped tags base (types ∷ outers) [] h = absurd h
scopes_dropped tags base (types ∷ outers) (s ∷ standing) h =
    let w = scopes_dropped tags base outers standing h.2 in
    (omega (arith, w.0), w.1)

pub lists_open : (tags : List (List ℕ)) (base : List Standing) (outers : List (List (List ℕ))) (lists : ℕ) (names : InForce) → Scoped tags base outers lists names → lists ≤ length names.outer
lists_open tags base outers lists names s =
    let w = scopes_dropped tags base outers names.outer s.scopes in
    let n = s.counted in
    omega (arith, w.0, n)

pub lists_closed : (tags : List (List ℕ)) (base : List Standing) (outers : List (List (List ℕ))) (lists : ℕ) (names : InForce) → Scoped tags base outers lists names → drop lists names.outer ≡ base
lists_closed tags base outers lists names s =
    subst (λ n. drop n names.outer ≡ base) s.counted (scopes_dropped tags base outers names.outer s.scopes).1

scopes_open : (tags : List (List ℕ)) (base : List Standing) (outers : List (List (List ℕ))) (standing : List Standing) → (base ≡ [] → ⊥) → InScopes tags base outers standing → standing ≡ [] → ⊥
scopes_open tags base [] standing some h q = some (rw (sym h) q)
scopes_open tags base (types ∷ outers) [] some h q = h
scopes_open tags base (types ∷ outers) (s ∷ standing) some h q = absurd (cc q)

pub scope_open : (tags : List (List ℕ)) (base : List Standing) (outers : List (List (List ℕ))) (lists : ℕ) (names : InForce) → (base ≡ [] → ⊥) → Scoped tags base outers lists names → names.outer ≡ [] → ⊥
scope_open tags base outers lists names some s = scopes_open tags base outers names.outer some s.scopes
