-- What stands at the name of a function, and the arguments of a call.
use Rattle.std.proofs.Common.{◌≡◌, ℕ, ◌+◌, ◌-◌, ◌≤◌, List, [], ◌∷◌, ◌++◌, ap, sym, ◌∙◌, refl, subst, arith, length, map, drop, get_or, append_assoc}
use Rattle.std.specs.Prelude.{Option, Some, None, slice_get, Contains, ◌≢◌, max}
use Rattle.po_straight.specs.declared.lexeme.Sign.TheVariants as s
use Rattle.po_straight.specs.declared.lexeme.Lexeme.{Lexeme}
use Rattle.po_straight.specs.declared.expression.Expression.{Expression}
use Rattle.po_straight.specs.declared.expression.Expression.TheVariants as e
use Rattle.po_straight.specs.declared.read_expression.Arguments.{Arguments as Found}
use Rattle.po_straight.specs.Scopes.{Scope, Signature, NamesDiffer}
use Rattle.po_straight.specs.Expressions.{height}
use Rattle.po_straight.specs.Reading.{Reads, Operand, parameter, constant, paren, call, Arguments, without, with, Items, final, further}
use Rattle.po_straight.specs.Outline.{Begins}
use Rattle.po_straight.specs.Places.{height_of_call, AreFound}
use Rattle.po_straight.specs.Heights.{height-Call}
use Rattle.po_straight.proofs.Rules.{at_place, stands_at}
use Rattle.po_straight.proofs.Readings.{there, name_at, one_function, reads_same, arguments_same}

-- the call that stands where a function's name was, behind it
record Calls (scope : Scope) (name : List ℕ) (behind : List Lexeme) (x : Expression) (us : List Lexeme) : Type 0 where
  f : ℕ
  called : Signature
  values : List Expression
  first : Lexeme
  rest : List Lexeme
  named : called.name ≡ name
  opens : first.sign ≡ s.Open
  here : behind ≡ first ∷ rest
  known : slice_get scope.functions f ≡ Some called
  fits : length values ≡ called.count
  arguments : Arguments scope rest values us
  whole : x ≡ e.Call f first.line values

-- at a name that is no parameter only calls stand
calls : {scope : Scope} {ts us : List Lexeme} {x : Expression} (mark : Lexeme) (name : List ℕ) (behind : List Lexeme) →
    mark.sign ≡ s.Name name → (Contains scope.parameters name → ⊥) → ts ≡ mark ∷ behind → Operand scope ts x us → Calls scope name behind x us
calls {scope = scope} mark name behind h free e (parameter n own mark' ts q r) =
    let marks : mark' ≡ mark = cc in
    let names : own ≡ name = cc in
    absurd (free (rw names at (there scope.parameters n own r)))
calls mark name behind h free e (constant value mark' ts q) = let marks : mark' ≡ mark = cc in absurd cc
calls mark name behind h free e (paren x first last ts us q r w) = let marks : first ≡ mark = cc in absurd cc
calls mark name behind h free e (call f called xs own first ts us q o g n k w) =
    let marks : own ≡ mark = cc in
    let behinds : behind ≡ first ∷ ts = cc in
    let names : called.name ≡ name = cc in
    record { f = f; called = called; values = xs; first = first; rest = ts; named = names; opens = o; here = behinds; known = g; fits = k; arguments = w; whole = refl }

module _ {scope : Scope} {ts us : List Lexeme} {x : Expression} (mark : Lexeme) (name : List ℕ) (behind : List Lexeme) (named : mark.sign ≡ s.Name name)
    (free : Contains scope.parameters name → ⊥) (here : ts ≡ mark ∷ behind) (stands : Operand scope ts x us) where
  of : Calls scope name behind x us
  of = calls mark name behind named free here stands

  -- no function has the name
  pub none_named : (Contains (map (λ f. f.name) scope.functions) name → ⊥) → ⊥
  none_named unknown =
      let c = of in
      unknown (rw c.named at (there (map (λ f. f.name) scope.functions) c.f c.called.name (name_at scope.functions c.f c.called c.known)))

  -- no parenthesis stands behind the name
  pub none_open : (Begins s.Open behind → ⊥) → ⊥
  none_open none = let c = of in none (rw c.here c.opens)

  -- no arguments stand behind the parenthesis
  pub none_arguments : (depth : ℕ) (first : Lexeme) (rest : List Lexeme) → behind ≡ first ∷ rest →
      ((xs : List Expression) (vs : List Lexeme) → Arguments scope rest xs vs → height_of_call xs ≤ depth - 1 → ⊥) → height x ≤ depth → ⊥
  none_arguments depth first rest e none h =
      let c = of in
      let rests : c.rest ≡ rest = let q : c.first ∷ c.rest ≡ first ∷ rest = sym c.here ∙ e in cc in
      none c.values us (rw rests at c.arguments) (omega (arith, ap height c.whole, height-Call c.f c.first.line c.values))

  -- the arguments are too many or too few
  pub none_fitting : NamesDiffer scope → (f : ℕ) (called : Signature) (first : Lexeme) (xs : List Expression) (rest vs : List Lexeme) → behind ≡ first ∷ rest →
      slice_get scope.functions f ≡ Some called → called.name ≡ name → Arguments scope rest xs vs → length xs ≢ called.count → ⊥
  none_fitting differ f called first xs rest vs e known own w other =
      let c = of in
      let rests : c.rest ≡ rest = let q : c.first ∷ c.rest ≡ first ∷ rest = sym c.here ∙ e in cc in
      let places : c.f ≡ f = one_function differ c.f f c.called called c.known known (c.named ∙ sym own) in
      let same : c.called ≡ called = let q : slice_get scope.functions f ≡ Some c.called = rw places at c.known in cc in
      let values : c.values ≡ xs = (arguments_same differ (rw rests at c.arguments) w).0 in
      other (ap length (sym values) ∙ c.fits ∙ ap (λ v. v.count) same)

-- a function's name, a parenthesis and arguments are a call
pub is_call : {scope : Scope} {us : List Lexeme} {x : Expression} (n : ℕ) (ts : List Lexeme) (d : Lexeme) (f count : ℕ) (name : List ℕ) (xs : List Expression) →
    Begins (s.Name name) (drop n ts) → (Contains scope.parameters name → ⊥) → Begins s.Open (drop (n + 1) ts) → slice_get scope.functions f ≡ Some (record { name = name; count = count }) →
    Arguments scope (drop (n + 1 + 1) ts) xs us → length xs ≡ count → x ≡ e.Call f (get_or ts (n + 1) d).line xs → Operand scope (drop n ts) x us
is_call {us = us} n ts d f count name xs named free opens known w fits q =
    let at = stands_at (s.Name name) n ts named in
    let here = at_place (n + 1) ts d (stands_at s.Open (n + 1) ts opens).0.within in
    rw (q, at.0.here, here) (call f (record { name = name; count = count }) xs at.0.mark (get_or ts (n + 1) d) (drop (n + 1 + 1) ts) us at.1 (rw here at opens) known free fits w)

-- the greatest height of a called name and its arguments, with one more argument
pub height_push : (xs : List Expression) (x : Expression) → height_of_call (xs ++ x ∷ []) ≡ max (height_of_call xs) (height x)
height_push [] x = omega arith
height_push (y ∷ ys) x = let h = height_push ys x in omega arith

height_has : (xs ys : List Expression) (x : Expression) → height x ≤ height_of_call (xs ++ (x ∷ ys))
height_has [] ys x = omega arith
height_has (z ∷ zs) ys x = let h = height_has zs ys x in omega arith

-- arguments of which there is one at least don't begin with a parenthesis that closes
pub not_without : {scope : Scope} {ts us : List Lexeme} {xs : List Expression} → (Begins s.Close ts → ⊥) → Arguments scope ts xs us → Items scope ts xs us
not_without none (without last ts q) = absurd (none q)
not_without none (with xs ts us w) = w

pub are_arguments : (scope : Scope) (depth at : ℕ) (ts : List Lexeme) → (Begins s.Close (drop at ts) → ⊥) → (found : Option Found) →
    AreFound (Items scope) depth at ts found → AreFound (Arguments scope) depth at ts found
are_arguments scope depth at ts none None h = λ xs us w g. h xs us (not_without none w) g
are_arguments scope depth at ts none (Some found) h = (with found.values (drop at ts) (drop found.end ts) h.0, h.1, h.2, h.3, h.4)

-- in reading arguments from start, xs were read so far, each with a comma behind it, and ts are left
pub record ItemsLead (scope : Scope) (start : List Lexeme) (xs : List Expression) (ts : List Lexeme) : Type 0 where
  pub forth : (ys : List Expression) (us : List Lexeme) → Items scope ts ys us → Items scope start (xs ++ ys) us
  pub back : (zs : List Expression) (us : List Lexeme) → Items scope start zs us → (ys : List Expression) × (zs ≡ xs ++ ys) × Items scope ts ys us

pub items_start : {scope : Scope} (ts : List Lexeme) → ItemsLead scope ts [] ts
items_start ts = record { forth = λ ys us w. w; back = λ zs us w. (zs, refl, w) }

-- the first of some arguments, and what follows it
record First (scope : Scope) (ts : List Lexeme) (xs : List Expression) : Type 0 where
  value : Expression
  others : List Expression
  left : List Lexeme
  all : xs ≡ value ∷ others
  read : Reads scope 0 ts value left

first_of : {scope : Scope} {ts us : List Lexeme} {xs : List Expression} → Items scope ts xs us → First scope ts xs
first_of (final x last ts us q r) = record { value = x; others = []; left = last ∷ us; all = refl; read = r }
first_of (further x xs mark ts us vs q r w) = record { value = x; others = xs; left = mark ∷ us; all = refl; read = r }

-- what follows an argument behind which a comma stands
others_of : {scope : Scope} {ts us vs : List Lexeme} {x : Expression} {ys : List Expression} (mark : Lexeme) → NamesDiffer scope → mark.sign ≡ s.Comma →
    Reads scope 0 ts x (mark ∷ us) → Items scope ts ys vs → (zs : List Expression) × (ys ≡ x ∷ zs) × Items scope us zs vs
others_of mark differ h r (final y last ts us q v) =
    let p = reads_same differ r v in
    let marks : mark ≡ last = let e = p.1 in cc in
    absurd cc
others_of {scope = scope} {us = us} mark differ h r (further y ys own ts left vs q v w) =
    let p = reads_same differ r v in
    let rests : us ≡ left = let e = p.1 in cc in
    (ys, ap (λ a. a ∷ ys) (sym p.0), subst (λ a. Items scope a ys vs) (sym rests) w)

module _ {scope : Scope} {start ts : List Lexeme} {xs : List Expression} (lead : ItemsLead scope start xs ts) where
  -- one more argument with a comma behind it
  pub items_more : {x : Expression} {us : List Lexeme} (mark : Lexeme) (grown : List Expression) → NamesDiffer scope → mark.sign ≡ s.Comma → grown ≡ xs ++ x ∷ [] →
      Reads scope 0 ts x (mark ∷ us) → ItemsLead scope start grown us
  items_more {x = x} {us = us} mark grown differ h e r =
      let join : (ys : List Expression) → grown ++ ys ≡ xs ++ (x ∷ ys) = λ ys. ap (λ v. v ++ ys) e ∙ append_assoc xs (x ∷ []) ys in
      record {
        forth = λ ys vs w. subst (λ v. Items scope start v vs) (sym (join ys)) (lead.forth (x ∷ ys) vs (further x ys mark ts us vs h r w));
        back = λ zs vs w. let p = lead.back zs vs w in
            let o = others_of mark differ h r p.2 in
            (o.0, p.1 ∙ ap (λ v. xs ++ v) o.1 ∙ sym (join o.0), o.2);
      }

  -- the last argument
  pub items_end : {x : Expression} {us : List Lexeme} (last : Lexeme) (grown : List Expression) → last.sign ≡ s.Close → grown ≡ xs ++ x ∷ [] →
      Reads scope 0 ts x (last ∷ us) → Items scope start grown us
  items_end {x = x} {us = us} last grown h e r = subst (λ v. Items scope start v us) (sym e) (lead.forth (x ∷ []) us (final x last ts us h r))

  -- no argument is left
  pub items_stuck : (depth : ℕ) → ((x : Expression) (us : List Lexeme) → Reads scope 0 ts x us → height x ≤ depth → ⊥) →
      (zs : List Expression) (us : List Lexeme) → Items scope start zs us → height_of_call zs ≤ depth → ⊥
  items_stuck depth none zs us w h =
      let p = lead.back zs us w in
      let f = first_of p.2 in
      let same : zs ≡ xs ++ (f.value ∷ f.others) = p.1 ∙ ap (λ v. xs ++ v) f.all in
      none f.value f.left f.read (omega (arith, height_has xs f.others f.value, ap height_of_call same))

  -- neither a comma nor a closing parenthesis stands behind an argument
  pub items_unparted : {x : Expression} {us : List Lexeme} → NamesDiffer scope → Reads scope 0 ts x us → (Begins s.Close us → ⊥) → (Begins s.Comma us → ⊥) →
      (zs : List Expression) (vs : List Lexeme) → Items scope start zs vs → ⊥
  items_unparted differ r close comma zs vs w = unparted (lead.back zs vs w).2
    where
      unparted : {ys : List Expression} → Items scope ts ys vs → ⊥
      unparted (final y last ts us q v) = close (rw (reads_same differ r v).1 q)
      unparted (further y ys mark ts us vs q v w) = comma (rw (reads_same differ r v).1 q)
