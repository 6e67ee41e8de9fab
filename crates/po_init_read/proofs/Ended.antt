-- Before an end there is one expression at most, and it is the longest.
use Rattle.std.proofs.Common.{◌≡◌, ℕ, ◌≤◌, List, [], ◌∷◌, ◌++◌, length, length-append, drop, get_or, ap, sym, ◌∙◌, refl, subst, arith, append_assoc}
use Rattle.po_tree.specs.declared.expression.Exp.{Exp}
use Rattle.po_tree.specs.declared.declaration.Init.TheVariants as init
use Rattle.po_tree.specs.Signs.{Sign, semicolon}
use Rattle.po_tree.specs.Printing.{flat, flat_init}
use Rattle.po_tree.specs.Heights.{init_height}
use Rattle.po_tree.specs.Expressions.{Formed}
use Rattle.po_tree.specs.Declarations.{one}
use Rattle.po_exp_read.specs.Longest.{StandsAt, IsLongestAt}
use Rattle.po_exp_parts.specs.Places.{IsEnd, at_semicolon, BeginsEnd}
use Rattle.po_init_read.specs.Initialisers.{StandsEnded}
use Rattle.po_init_read.proofs.Layers.{flat_init-One, init_height-One}

-- the law of the reader of expressions
abbrev pub OneBeforeEnd : Type 0
OneBeforeEnd = (types : List (List ℕ)) (least : ℕ) (signs us vs : List Sign) (x y : Exp) (a b : Sign) → 1 ≤ least → IsEnd a → IsEnd b →
    StandsAt least types signs x (a ∷ us) → StandsAt least types signs y (b ∷ vs) → (x ≡ y) × (a ∷ us ≡ b ∷ vs)

-- of two expressions with ends behind them one is the other
pub one_expression : OneBeforeEnd → (types : List (List ℕ)) (ts us vs : List Sign) (x y : Exp) → StandsAt 1 types ts x us → StandsAt 1 types ts y vs → BeginsEnd us → BeginsEnd vs →
    (x ≡ y) × (us ≡ vs)
one_expression law types ts [] vs x y left right e f = absurd e
one_expression law types ts (a ∷ us) [] x y left right e f = absurd f
one_expression law types ts (a ∷ us) (b ∷ vs) x y left right e f = law types 1 ts us vs x y a b (omega arith) e f left right

-- where two fronts of a list leave rests, the longer front is the shorter one with what the longer rest begins with
between : (xs us ys vs : List Sign) → xs ++ us ≡ ys ++ vs → length us ≤ length vs → (ws : List Sign) × (xs ≡ ys ++ ws) × (vs ≡ ws ++ us)
between xs us [] vs q h = (xs, refl, sym q)
between [] us (y ∷ ys) vs q h = absurd (omega (arith, ap length q, length-append ys vs, h))
between (x ∷ xs) us (y ∷ ys) vs q h =
    let r = between xs us ys vs (ap (drop 1) q) h in
    let first : x ≡ y = ap (λ zs. get_or zs 0 x) q in
    (r.0, ap (λ z. z ∷ xs) first ∙ ap (λ zs. y ∷ zs) r.1, r.2)

cut : {types : List (List ℕ)} {ts us : List Sign} {x : Exp} (signs vs : List Sign) → signs ≡ flat x ++ vs → StandsAt 1 types ts x us → StandsAt 1 types signs x vs
cut signs vs q at = record { stands = record { formed = at.stands.formed; printed = q }; high = at.high }

same_between : OneBeforeEnd → (types : List (List ℕ)) (ts us vs ws : List Sign) (x y : Exp) → StandsAt 1 types ts x us → StandsAt 1 types ts y vs → BeginsEnd vs →
    flat x ≡ flat y ++ ws → vs ≡ ws ++ us → (y ≡ x) × (vs ≡ us)
same_between law types ts us vs [] x y left right e p q =
    let signs = flat x ++ semicolon ∷ [] in
    let printed : signs ≡ flat y ++ semicolon ∷ [] = ap (λ v. v ++ semicolon ∷ []) p ∙ append_assoc (flat y) [] (semicolon ∷ []) in
    let s = law types 1 signs [] [] x y semicolon semicolon (omega arith) at_semicolon at_semicolon (cut signs (semicolon ∷ []) refl left) (cut signs (semicolon ∷ []) printed right) in
    (sym s.0, q)
same_between law types ts us vs (w ∷ ws) x y left right e p q =
    let signs = flat x ++ semicolon ∷ [] in
    let printed : signs ≡ flat y ++ (w ∷ (ws ++ semicolon ∷ [])) = ap (λ v. v ++ semicolon ∷ []) p ∙ append_assoc (flat y) (w ∷ ws) (semicolon ∷ []) in
    let s = law types 1 signs [] (ws ++ semicolon ∷ []) x y semicolon w (omega arith) at_semicolon (subst BeginsEnd q e)
    (cut signs (semicolon ∷ []) refl left) (cut signs (w ∷ (ws ++ semicolon ∷ [])) printed right) in
    absurd (omega (arith, ap length s.1, length-append ws (semicolon ∷ [])))

-- an expression with an end behind it is the longest
pub longest_ended : OneBeforeEnd → {types : List (List ℕ)} {ts us vs : List Sign} {x y : Exp} → IsLongestAt 1 types ts x us → StandsAt 1 types ts y vs → BeginsEnd vs → (y ≡ x) × (vs ≡ us)
longest_ended law {types = types} {ts = ts} {us = us} {vs = vs} {x = x} {y = y} best at e =
    let r = between (flat x) us (flat y) vs (sym best.stands.stands.printed ∙ at.stands.printed) (best.longest y vs at) in
    same_between law types ts us vs r.0 x y best.stands at e r.1 r.2

-- an initialiser that is an expression stands as one
pub stands_at : {types : List (List ℕ)} {ts : List Sign} (us : List Sign) (m : ℕ) (x : Exp) → 1 ≤ m → Formed types m x → init_height (init.One x) ≤ 256 → ts ≡ flat_init (init.One x) ++ us → StandsAt 1 types ts x us
stands_at us m x high formed low printed = record {
  stands = record {
    formed = record { level_of = m; formed = formed; nested = omega (arith, init_height-One x, low) };
    printed = printed ∙ ap (λ v. v ++ us) (flat_init-One x);
  };
  high = high;
}

-- an expression with an end behind it is an initialiser
pub stands_ended : {types : List (List ℕ)} {ts : List Sign} (us : List Sign) (x : Exp) → StandsAt 1 types ts x us → BeginsEnd us → StandsEnded types ts (init.One x) us
stands_ended us x at e = record {
  formed = one at.stands.formed.level_of x at.high at.stands.formed.formed;
  nested = omega (arith, init_height-One x, at.stands.formed.nested);
  printed = at.stands.printed ∙ ap (λ v. v ++ us) (sym (flat_init-One x));
  ended = e;
}
