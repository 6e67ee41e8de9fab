-- Expressions that a token closes, and what has two parts.
use Rattle.std.proofs.Common.{◌≡◌, ℕ, ◌≤◌, List, ◌∷◌, length, ap, sym, refl, subst, arith}
use Rattle.po_tree.specs.declared.expression.Exp.{Exp}
use Rattle.po_exp_parts.specs.declared.continuation.Continuation.TheVariants as c
use Rattle.po_exp_parts.specs.declared.found.Tail.{Tail}
use Rattle.po_exp_parts.specs.declared.found.Tail.TheVariants as t
use Rattle.po_tree.specs.Signs.{Sign, colon}
use Rattle.po_tree.specs.Heights.{height}
use Rattle.po_exp_parts.specs.Continuing.{GoesOn, tail_height}
use Rattle.po_exp_parts.specs.Places.{Begins}
use Rattle.po_exp_parts.specs.Reading.{Reads, Follows, chosen}
use Rattle.po_exp_parts.specs.Finding.{IsBest, IsNone}
use Rattle.po_exp_read.specs.Enclosed.{StandsClosed, Closes}
use Rattle.po_exp_read.proofs.Comparing.{Compared, same, longer, shorter, ends_same, goes_on-colon}
use Rattle.po_exp_read.proofs.Compared.{reads_compared}

-- two expressions that a token closes are the same
pub closed_same : {types : List (List ℕ)} {least : ℕ} {last : Sign} {signs us vs : List Sign} {x y : Exp} → Closes least last →
    StandsClosed types least last signs x us → StandsClosed types least last signs y vs → (x ≡ y) × (us ≡ vs)
closed_same closes w v = let p = ends_same (closes _) (closes _) (reads_compared w v) in (p.0, cc)

-- where the token stands behind the longest expression, that one is closed
pub closed_best : {types : List (List ℕ)} {least depth : ℕ} {last : Sign} {signs us rest : List Sign} {x : Exp} → us ≡ last ∷ rest →
    IsBest height (Reads types least signs) depth x us → IsBest height (StandsClosed types least last signs) depth x rest
closed_best {types = types} {least = least} {last = last} {signs = signs} {x = x} at b = record {
  stands = subst (λ v. Reads types least signs x v) at b.stands;
  shallow = b.shallow;
  best = λ y vs w h. let k = b.best y (last ∷ vs) w h in omega (arith, ap length at);
}

closed_compared : {least : ℕ} {last : Sign} {us vs : List Sign} {x y : Exp} → Closes least last → (Begins last us → ⊥) → length us ≤ length (last ∷ vs) →
    Compared {A = Exp} (λ _ ws. GoesOn least ws) x us y (last ∷ vs) → ⊥
closed_compared {last = last} closes none h (same q r) = none (subst (Begins last) (sym r) refl)
closed_compared closes none h (longer k g) = closes _ g
closed_compared closes none h (shorter k g) = omega arith

-- where it doesn't, none is
pub closed_none : {types : List (List ℕ)} {least depth : ℕ} {last : Sign} {signs us : List Sign} {x : Exp} → Closes least last → (Begins last us → ⊥) →
    IsBest height (Reads types least signs) depth x us → IsNone height (StandsClosed types least last signs) depth
closed_none {last = last} closes none b y vs w h = closed_compared closes none (b.best y (last ∷ vs) w h) (reads_compared b.stands w)

-- no expression, none that is closed
pub closed_nowhere : {types : List (List ℕ)} {least depth : ℕ} (last : Sign) {signs : List Sign} →
    IsNone height (Reads types least signs) depth → IsNone height (StandsClosed types least last signs) depth
closed_nowhere last none y vs w h = none y (last ∷ vs) w h

-- the operands behind `?`
chosen_back : {types : List (List ℕ)} {ts mid us : List Sign} {y : Exp} {o : Tail} → StandsClosed types 0 colon ts y mid → Follows types c.Question ts o us →
    (z : Exp) × (o ≡ t.Chosen y z) × Reads types 2 mid z us
chosen_back {types = types} w (chosen a z ts mid us v u) =
    let p = closed_same (goes_on-colon 0) w v in
    (z, ap (λ b. t.Chosen b z) (sym p.0), subst (λ b. Reads types 2 b z us) (sym p.1) u)

pub chosen_best : {types : List (List ℕ)} {depth : ℕ} {ts mid us : List Sign} {y z : Exp} → IsBest height (StandsClosed types 0 colon ts) depth y mid →
    IsBest height (Reads types 2 mid) depth z us → IsBest tail_height (Follows types c.Question ts) depth (t.Chosen y z) us
chosen_best {ts = ts} {mid = mid} {us = us} {y = y} {z = z} a b = record {
  stands = chosen y z ts mid us a.stands b.stands;
  shallow = omega (arith, a.shallow, b.shallow);
  best = λ o vs w h. let p = chosen_back a.stands w in b.best p.0 vs p.2 (omega (arith, ap tail_height p.1));
}

pub chosen_none : {types : List (List ℕ)} {depth : ℕ} {ts mid : List Sign} {y : Exp} → IsBest height (StandsClosed types 0 colon ts) depth y mid →
    IsNone height (Reads types 2 mid) depth → IsNone tail_height (Follows types c.Question ts) depth
chosen_none a none o vs w h = let p = chosen_back a.stands w in none p.0 vs p.2 (omega (arith, ap tail_height p.1))

unchosen : {types : List (List ℕ)} {depth : ℕ} {ts us : List Sign} {o : Tail} → IsNone height (StandsClosed types 0 colon ts) depth → Follows types c.Question ts o us → tail_height o ≤ depth → ⊥
unchosen none (chosen a z ts mid us v u) h = none a mid v (omega arith)

pub chosen_nowhere : {types : List (List ℕ)} {depth : ℕ} {ts : List Sign} → IsNone height (StandsClosed types 0 colon ts) depth → IsNone tail_height (Follows types c.Question ts) depth
chosen_nowhere none o vs w h = unchosen none w h
