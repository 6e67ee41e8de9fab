-- What the reader's tests tell of the expressions that can stand at a place.
use Rattle.std.proofs.Common.{◌≡◌, ℕ, zero, suc, add-one, ◌+◌, ◌-◌, ◌≤◌, ◌<◌, List, [], ◌∷◌, ◌++◌, ap, sym, ◌∙◌, refl, subst, arith, length, drop, length-drop, append-nil, get_or, ◌⊎◌, inl, inr}
use Rattle.std.specs.Prelude.{◌≢◌}
use Rattle.std.proofs.Math.Seq.{drop-length, drop-cons}
use Rattle.po_base.specs.declared.operators.Op.{Op}
use Rattle.po_straight.specs.declared.lexeme.Sign.{Sign}
use Rattle.po_straight.specs.declared.lexeme.Sign.TheVariants as s
use Rattle.po_straight.specs.declared.lexeme.Lexeme.{Lexeme}
use Rattle.po_straight.specs.declared.expression.Expression.{Expression}
use Rattle.po_straight.specs.declared.expression.Expression.TheVariants as e
use Rattle.po_straight.specs.declared.read_expression.Operator.{Operator}
use Rattle.po_straight.specs.Scopes.{Scope, NamesDiffer}
use Rattle.po_straight.specs.Expressions.{IsOperator, height, Prints, IsExpression}
use Rattle.po_straight.specs.Reading.{GoesOn, Reads, begun, Operand, parameter, constant, paren, call, Climbs, stop, more}
use Rattle.po_straight.specs.Outline.{Begins}
use Rattle.po_straight.specs.Places.{GoesOnBy, Closed, close}
use Rattle.po_straight.specs.Heights.{height-Parameter, height-Constant, height-Paren, height-Call, height-Binary}
use Rattle.po_straight.proofs.Readings.{one_operator, reads_same, operand_same}
use Rattle.po_straight.proofs.Sound.{reads_sound}
use Rattle.po_straight.proofs.Single.{reads_whole}

-- in reading from start, x of level m was read so far, and ts are left
pub record Leads (scope : Scope) (l : ℕ) (start : List Lexeme) (m : ℕ) (x : Expression) (ts : List Lexeme) : Type 0 where
  pub forth : (z : Expression) (us : List Lexeme) → Climbs scope l m x ts z us → Reads scope l start z us
  pub back : (z : Expression) (us : List Lexeme) → Reads scope l start z us → Climbs scope l m x ts z us

back_begun : {scope : Scope} {l : ℕ} {start ts us : List Lexeme} {x z : Expression} → NamesDiffer scope → Operand scope start x ts → Reads scope l start z us → Climbs scope l 2 x ts z us
back_begun {scope = scope} {ts = ts} differ w (begun l a z start vs us v c) =
    let p = operand_same differ w v in
    subst (λ b. Climbs scope l 2 b ts z us) (sym p.0) (subst (λ u. Climbs scope l 2 a u z us) (sym p.1) c)

pub starts : {scope : Scope} {start ts : List Lexeme} {x : Expression} (l : ℕ) → NamesDiffer scope → Operand scope start x ts → Leads scope l start 2 x ts
starts l differ w = record {
  forth = λ z us c. begun l _ z _ _ us w c;
  back = λ z us r. back_begun differ w r;
}

-- what follows an expression that goes on by an operator
record Follows (scope : Scope) (l k : ℕ) (o : Op) (line : ℕ) (a : Expression) (rest : List Lexeme) (z : Expression) (us : List Lexeme) : Type 0 where
  right : Expression
  left : List Lexeme
  reads : Reads scope (k + 1) rest right left
  climbs : Climbs scope l k (e.Binary o line a right) left z us

follows : {scope : Scope} {l m k : ℕ} {o : Op} {a z : Expression} {ts us : List Lexeme} (mark : Lexeme) (rest : List Lexeme) → IsOperator o mark.sign k → l ≤ k → k ≤ m → Climbs scope l m a ts z us → ts ≡ mark ∷ rest → Follows scope l k o mark.line a rest z us
follows {k = k0} {o = o0} mark rest w low high (stop l m a ts g) q = absurd (g (subst (GoesOn l m) (sym q) (o0, k0, w, low, high)))
follows {scope = scope} {k = k0} {o = o0} mark rest w low high (more l m k o a y z own ts us vs v low' high' r c) q =
    let marks : own ≡ mark = cc in
    let rests : ts ≡ rest = cc in
    let p = one_operator v (rw (← marks) at w) in
    record { right = y; left = us; reads = rw (← p.1, ← rests) r; climbs = rw (← p.0, ← p.1, ← marks) c }

-- an expression is no higher than what it is a part of
rises : {scope : Scope} {l m : ℕ} {x z : Expression} {ts us : List Lexeme} → Climbs scope l m x ts z us → height x ≤ height z
rises (stop l m x ts g) = omega arith
rises (more l m k o x y z mark ts us vs w low high r c) = let h = rises c in omega (arith, height-Binary o mark.line x y)

operand_high : {scope : Scope} {ts us : List Lexeme} {x : Expression} → Operand scope ts x us → 1 ≤ height x
operand_high (parameter n name mark ts q r) = omega (arith, height-Parameter n)
operand_high (constant value mark ts q) = omega (arith, height-Constant value)
operand_high (paren x first last ts us q r w) = omega (arith, height-Paren x)
operand_high (call f called xs mark first ts us q o g free k w) = omega (arith, height-Call f first.line xs)

-- what is left behind the sign at a place
behind_sign : (n : ℕ) (ts us : List Lexeme) (mark : Lexeme) → drop n ts ≡ mark ∷ us → us ≡ drop (suc n) ts
behind_sign zero [] us mark q = absurd cc
behind_sign zero (t ∷ ts) us mark q = cc
behind_sign (suc n) [] us mark q = absurd cc
behind_sign (suc n) (t ∷ ts) us mark q = behind_sign n ts us mark q

pub behind : (n : ℕ) (ts us : List Lexeme) (mark : Lexeme) → drop n ts ≡ mark ∷ us → us ≡ drop (n + 1) ts
behind n ts us mark q = rw add-one (behind_sign n ts us mark q)

-- the sign at a place is the first of what is left there
pub at_place : (n : ℕ) (ts : List Lexeme) (d : Lexeme) → n < length ts → drop n ts ≡ get_or ts n d ∷ drop (n + 1) ts
at_place n ts d h = rw add-one (drop-cons ts n d h)

-- an operator out of the range of levels does not go on
pub out_of_range : {o : Op} {k : ℕ} (l m : ℕ) (mark : Lexeme) (ts rest : List Lexeme) → IsOperator o mark.sign k → (k < l) ⊎ ((l ≤ k) × (m < k)) → ts ≡ mark ∷ rest → GoesOn l m ts → ⊥
out_of_range l m mark ts rest w h q g =
    let f : GoesOn l m (mark ∷ rest) = rw q at g in
    let p = (one_operator w f.2).1 in
    elim h [ inl a ↦ omega (arith, a, p, f.3) | inr b ↦ omega (arith, b.1, p, f.4) ]

-- the operator's sign, where an operator goes on with an expression
record AtOperator (l m : ℕ) (operator : Operator) (ts rest : List Lexeme) : Type 0 where
  mark : Lexeme
  here : ts ≡ mark ∷ rest
  is : IsOperator operator.op mark.sign operator.level
  line : operator.line ≡ mark.line
  low : l ≤ operator.level
  high : operator.level ≤ m

at_operator : (l m : ℕ) (operator : Operator) (n : ℕ) (ts : List Lexeme) → GoesOnBy l m operator (drop n ts) → AtOperator l m operator (drop n ts) (drop (n + 1) ts)
at_operator l m operator n ts g = go (drop n ts) refl g
  where
    go : (us : List Lexeme) → drop n ts ≡ us → GoesOnBy l m operator us → AtOperator l m operator (drop n ts) (drop (n + 1) ts)
    go [] q h = absurd h
    go (mark ∷ us) q h = record {
      mark = mark;
      here = q ∙ ap (λ v. mark ∷ v) (behind n ts us mark q);
      is = h.0;
      line = h.1;
      low = h.2;
      high = h.3;
    }

pub low_level : (l m : ℕ) (operator : Operator) (n : ℕ) (ts : List Lexeme) → GoesOnBy l m operator (drop n ts) → operator.level ≤ m
low_level l m operator n ts g = (at_operator l m operator n ts g).high

module _ {scope : Scope} (differ : NamesDiffer scope) {l m : ℕ} {start : List Lexeme} {x : Expression} (operator : Operator) (n : ℕ) (ts : List Lexeme) (leads : Leads scope l start m x (drop n ts)) (goes : GoesOnBy l m operator (drop n ts)) where
  -- with each reading of the whole the operator's right operand is read
  right_of : (z : Expression) (us : List Lexeme) → Reads scope l start z us → Follows scope l operator.level operator.op operator.line x (drop (n + 1) ts) z us
  right_of z us r =
      let at = at_operator l m operator n ts goes in
      rw at.line (follows at.mark (drop (n + 1) ts) at.is at.low at.high (leads.back z us r) at.here)

  back_step : (y : Expression) (vs : List Lexeme) → Reads scope (operator.level + 1) (drop (n + 1) ts) y vs → (z : Expression) (us : List Lexeme) → Reads scope l start z us →
      Climbs scope l operator.level (e.Binary operator.op operator.line x y) vs z us
  back_step y vs w z us r =
      let b = right_of z us r in
      let p = reads_same differ w b.reads in
      subst (λ v. Climbs scope l operator.level (e.Binary operator.op operator.line x v) vs z us) (sym p.0)
      (subst (λ v. Climbs scope l operator.level (e.Binary operator.op operator.line x b.right) v z us) (sym p.1) b.climbs)

  forth_step : (y : Expression) (vs : List Lexeme) → Reads scope (operator.level + 1) (drop (n + 1) ts) y vs → (z : Expression) (us : List Lexeme) →
      Climbs scope l operator.level (e.Binary operator.op operator.line x y) vs z us → Reads scope l start z us
  forth_step y vs w z us c =
      let at = at_operator l m operator n ts goes in
      leads.forth z us (rw at.here (more l m operator.level operator.op x y z at.mark (drop (n + 1) ts) vs us at.is at.low at.high w (rw at.line at c)))

  -- the operator and its right operand are read
  pub steps : (y : Expression) (vs : List Lexeme) → Reads scope (operator.level + 1) (drop (n + 1) ts) y vs → Leads scope l start operator.level (e.Binary operator.op operator.line x y) vs
  steps y vs w = record { forth = forth_step y vs w; back = back_step y vs w }

  -- the expression so far has the greatest height that the whole may have
  pub too_high : (depth : ℕ) → depth ≤ height x → (z : Expression) (us : List Lexeme) → Reads scope l start z us → height z ≤ depth → ⊥
  too_high depth h z us r g =
      let b = right_of z us r in
      omega (arith, rises b.climbs, height-Binary operator.op operator.line x b.right)

  -- the operator has no right operand
  pub no_right : (depth : ℕ) → ((y : Expression) (vs : List Lexeme) → Reads scope (operator.level + 1) (drop (n + 1) ts) y vs → height y ≤ depth - 1 → ⊥) →
      (z : Expression) (us : List Lexeme) → Reads scope l start z us → height z ≤ depth → ⊥
  no_right depth none z us r g =
      let b = right_of z us r in
      none b.right b.left b.reads (omega (arith, rises b.climbs, height-Binary operator.op operator.line x b.right))

-- nothing stands where no sign is left
pub none_at_end : {scope : Scope} {ts us : List Lexeme} {x : Expression} → Operand scope ts x us → ts ≡ [] → ⊥
none_at_end (parameter n name mark ts q r) e = cc
none_at_end (constant value mark ts q) e = cc
none_at_end (paren x first last ts us q r w) e = cc
none_at_end (call f called xs mark first ts us q o g free k w) e = cc

-- an operand has the height 1 at least
pub none_flat : {scope : Scope} {ts us : List Lexeme} {x : Expression} → Operand scope ts x us → height x ≤ 0 → ⊥
none_flat w h = omega (arith, operand_high w)

-- nothing stands at a sign that no operand begins with
pub none_begun : {scope : Scope} {ts us : List Lexeme} {x : Expression} (mark : Lexeme) (rest : List Lexeme) →
    ((name : List ℕ) → mark.sign ≡ s.Name name → ⊥) → ((value : ℕ) → mark.sign ≡ s.Constant value → ⊥) → (mark.sign ≡ s.Open → ⊥) →
    ts ≡ mark ∷ rest → Operand scope ts x us → ⊥
none_begun mark rest f g h e (parameter n own mark' ts q r) = let marks : mark' ≡ mark = cc in f own (rw (← marks) q)
none_begun mark rest f g h e (constant value mark' ts q) = let marks : mark' ≡ mark = cc in g value (rw (← marks) q)
none_begun mark rest f g h e (call n called xs own first ts us q o r free k w) = let marks : own ≡ mark = cc in f called.name (rw (← marks) q)
none_begun mark rest f g h e (paren x first last ts us q r w) = let marks : first ≡ mark = cc in h (rw (← marks) q)

-- nothing stands at an opening parenthesis where nothing that is closed stands behind it
pub none_closed : {scope : Scope} {ts us : List Lexeme} {x : Expression} (depth : ℕ) (mark : Lexeme) (rest : List Lexeme) →
    mark.sign ≡ s.Open → ((y : Expression) (vs : List Lexeme) → Closed scope rest y vs → height y ≤ depth - 1 → ⊥) →
    ts ≡ mark ∷ rest → Operand scope ts x us → height x ≤ depth → ⊥
none_closed depth mark rest h none e (parameter n own mark' ts q r) k = let marks : mark' ≡ mark = cc in cc
none_closed depth mark rest h none e (constant value mark' ts q) k = let marks : mark' ≡ mark = cc in cc
none_closed depth mark rest h none e (call n called xs own first ts us q o r free l w) k = let marks : own ≡ mark = cc in cc
none_closed depth mark rest h none e (paren x first last ts us q r w) k =
    let rests : ts ≡ rest = cc in
    none x us (rw (← rests) (close x last ts us r w)) (omega (arith, height-Paren x))

pub found_closed : {scope : Scope} {ts us : List Lexeme} {x : Expression} (mark : Lexeme) (rest : List Lexeme) →
    mark.sign ≡ s.Open → ts ≡ mark ∷ rest → Closed scope rest x us → Operand scope ts (e.Paren x) us
found_closed mark rest h q (close x last ts us r w) = rw q (paren x mark last ts us h r w)

-- an expression behind which no closing parenthesis stands is not closed
pub none_unclosed : {scope : Scope} {ts vs us : List Lexeme} {x y : Expression} → NamesDiffer scope →
    Reads scope 0 ts y vs → (Begins s.Close vs → ⊥) → Closed scope ts x us → ⊥
none_unclosed differ r none (close x last ts us q w) = none (subst (Begins s.Close) (sym (reads_same differ r w).1) q)

-- the sign that stands at a place
pub record StandsAt (n : ℕ) (ts : List Lexeme) : Type 0 where
  pub mark : Lexeme
  pub here : drop n ts ≡ mark ∷ drop (n + 1) ts
  pub within : n < length ts

pub stands_at : (sign : Sign) (n : ℕ) (ts : List Lexeme) → Begins sign (drop n ts) → (at : StandsAt n ts) × (at.mark.sign ≡ sign)
stands_at sign n ts h = go (drop n ts) refl h
  where
    go : (us : List Lexeme) → drop n ts ≡ us → Begins sign us → (at : StandsAt n ts) × (at.mark.sign ≡ sign)
    go [] q h = absurd h
    go (mark ∷ us) q h = (
      record {
        mark = mark;
        here = q ∙ ap (λ v. mark ∷ v) (behind n ts us mark q);
        within = omega (arith, length-drop n ts, ap length q);
      },
      h,
    )

-- and with a closing parenthesis it is
pub is_closed : {scope : Scope} {x : Expression} (n m : ℕ) (ts : List Lexeme) →
    Reads scope 0 (drop n ts) x (drop m ts) → Begins s.Close (drop m ts) → Closed scope (drop n ts) x (drop (m + 1) ts) × (m < length ts)
is_closed {scope = scope} {x = x} n m ts r h =
    let p = stands_at s.Close m ts h in
    (close x p.0.mark (drop n ts) (drop (m + 1) ts) p.1 (rw p.0.here at r), p.0.within)

-- the whole is an expression where nothing is left
pub whole : {scope : Scope} {x : Expression} (n : ℕ) (ts : List Lexeme) → Reads scope 0 ts x (drop n ts) → n ≡ length ts → height x ≤ 256 → IsExpression scope x ts
whole {scope = scope} {x = x} n ts r h k =
    let p = reads_sound (omega arith) r in
    let nothing : drop n ts ≡ [] = rw h (drop-length ts) in
    let same : ts ≡ p.signs = p.split ∙ ap (λ v. p.signs ++ v) nothing ∙ append-nil p.signs in
    record { level = p.level; printed = subst (Prints scope p.level x) (sym same) p.printed; nested = k }

-- and it is none where something is left
pub none_whole : {scope : Scope} {x : Expression} (n : ℕ) (ts : List Lexeme) → NamesDiffer scope → Reads scope 0 ts x (drop n ts) → n ≤ length ts → n ≢ length ts → (y : Expression) → IsExpression scope y ts → ⊥
none_whole n ts differ r h k y w =
    let p = reads_same differ r (reads_whole w.printed) in
    omega (arith, length-drop n ts, ap length p.1)

-- where nothing is read, the signs are no expression
pub none_expression : {scope : Scope} {ts : List Lexeme} → ((x : Expression) (us : List Lexeme) → Reads scope 0 ts x us → height x ≤ 256 → ⊥) → (y : Expression) → IsExpression scope y ts → ⊥
none_expression none y w = none y [] (reads_whole w.printed) w.nested

-- no operand, no expression
none_read : {scope : Scope} {l : ℕ} {ts us : List Lexeme} {x : Expression} (depth : ℕ) →
    ((y : Expression) (vs : List Lexeme) → Operand scope ts y vs → height y ≤ depth → ⊥) → Reads scope l ts x us → height x ≤ depth → ⊥
none_read depth none (begun l x y ts us vs w c) h = none x us w (omega (arith, rises c))

pub no_operand : {scope : Scope} (l : ℕ) {ts : List Lexeme} (depth : ℕ) →
    ((y : Expression) (vs : List Lexeme) → Operand scope ts y vs → height y ≤ depth → ⊥) → (x : Expression) (us : List Lexeme) → Reads scope l ts x us → height x ≤ depth → ⊥
no_operand l depth none x us w h = none_read depth none w h
