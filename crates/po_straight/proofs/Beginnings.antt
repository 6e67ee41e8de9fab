-- At the front of some signs stands at most one definition.
use Rattle.std.proofs.Common.{◌≡◌, ℕ, ◌+◌, ◌-◌, ◌<◌, ◌≤◌, List, [], ◌∷◌, ◌++◌, length, map, drop, take, ap, sym, ◌∙◌, refl, subst, arith, append_assoc, length-append, length-drop}
use Rattle.std.proofs.lemmas.List.{drop_at, drop-drop, take-append-drop, append_cancel_right, map-append, length-map}
use Rattle.po_straight.specs.declared.lexeme.Sign.{Sign}
use Rattle.po_straight.specs.declared.lexeme.Sign.TheVariants as s
use Rattle.po_straight.specs.declared.lexeme.Lexeme.{Lexeme}
use Rattle.po_straight.specs.declared.expression.Expression.{Expression}
use Rattle.po_straight.specs.declared.definition.Definition.{Definition}
use Rattle.po_straight.specs.Distinct.{AllDiffer}
use Rattle.po_straight.specs.Scopes.{Scope, Signature, NamesDiffer}
use Rattle.po_straight.specs.Expressions.{IsExpression}
use Rattle.po_straight.specs.Definitions.{signs, parameter_signs, heading_signs, known_with, scope_of}
use Rattle.po_straight.specs.Outline.{Leads, IsOpen, IsBody, Starts}
use Rattle.po_straight.proofs.Splits.{split_same}
use Rattle.po_straight.proofs.Listings.{commas}
use Rattle.po_straight.proofs.Headers.{heading_same}
use Rattle.po_straight.proofs.Bodies.{all_open, open_ends}
use Rattle.po_straight.proofs.WholeBodies.{expression_same}

-- two ends of a list that have the same length are the same
pub suffix_same : {X : Type 0} (a b m n : List X) → a ++ m ≡ b ++ n → length m ≡ length n → m ≡ n
suffix_same a b m n e l =
    let q : length (a ++ m) ≡ length (b ++ n) = ap length e in
    let p : length a ≡ length b = omega (arith, length-append a m, length-append b n, q) in
    sym (drop_at a m (length b) p) ∙ ap (λ v. drop (length b) v) e ∙ drop_at b n (length b) refl

commas_long : (ps : List (List ℕ)) → length ps ≤ length (commas ps)
commas_long [] = omega arith
commas_long (p ∷ ps) = let h = commas_long ps in omega arith

parameters_long : (ps : List (List ℕ)) → length ps ≤ length (parameter_signs ps)
parameters_long [] = omega arith
parameters_long (p ∷ ps) = let h = commas_long ps in omega arith

-- a heading goes on, and has more signs than parameters
pub heading_long : (name : List ℕ) (ps : List (List ℕ)) (xs : List Lexeme) (at end : ℕ) → Leads (heading_signs name ps) (drop at xs) (drop end xs) → end ≤ length xs →
    (at < end) × (length ps ≤ length xs)
heading_long name ps xs at end h in' =
    let a : length (signs (drop at xs)) ≡ length (drop at xs) = length-map (drop at xs) (λ x. x.sign) in
    let b : length (signs (drop end xs)) ≡ length (drop end xs) = length-map (drop end xs) (λ x. x.sign) in
    let front : List Sign = s.Int ∷ (s.Name name ∷ (s.Open ∷ (parameter_signs ps ++ (s.Close ∷ (s.OpenBrace ∷ []))))) in
    let e : length (signs (drop at xs)) ≡ length (front ++ signs (drop end xs)) = ap length h in
    let f : length (front ++ signs (drop end xs)) ≡ length front + length (signs (drop end xs)) = length-append front (signs (drop end xs)) in
    let g : length (parameter_signs ps ++ (s.Close ∷ (s.OpenBrace ∷ []))) ≡ length (parameter_signs ps) + 2 = length-append (parameter_signs ps) (s.Close ∷ (s.OpenBrace ∷ [])) in
    let i : length (drop at xs) ≡ length xs - at = length-drop at xs in
    let j : length (drop end xs) ≡ length xs - end = length-drop end xs in
    let k = parameters_long ps in
    (omega arith, omega arith)

-- the heading and the body of a definition
pub record Parts (earlier : List Signature) (d : Definition) (xs left : List Lexeme) : Type 0 where
  pub head : List Lexeme
  pub middle : List Lexeme
  pub parts : xs ≡ head ++ middle
  pub heading : Leads (heading_signs d.name d.parameters) xs middle
  pub body : IsBody (scope_of earlier d) d.line d.value middle left
  pub distinct : AllDiffer d.parameters

pub parts_of : (earlier : List Signature) (d : Definition) (xs left : List Lexeme) → Starts earlier d xs left → Parts earlier d xs left
parts_of earlier d xs left h =
    let w = h.defined in
    let middle : List Lexeme = record { sign = s.Return; line = d.line } ∷ (w.value ++ (w.tail ++ left)) in
    let whole : xs ≡ w.head ++ middle =
    h.parts ∙ ap (λ v. v ++ left) w.parts ∙ append_assoc w.head (record { sign = s.Return; line = d.line } ∷ (w.value ++ w.tail)) left ∙
    ap (λ v. w.head ++ (record { sign = s.Return; line = d.line } ∷ v)) (append_assoc w.value w.tail left) in
    record {
      head = w.head;
      middle = middle;
      parts = whole;
      heading = ap (λ v. signs v) whole ∙ map-append (λ x. x.sign) w.head middle ∙ ap (λ v. v ++ signs middle) w.heading;
      body = record { range = w.value; tail = w.tail; parts = refl; valued = w.valued; ending = w.ending; small = w.small };
      distinct = w.distinct;
    }

-- a heading and a body make a definition
pub starts_with : (earlier : List Signature) (d : Definition) (xs : List Lexeme) (at end : ℕ) (left : List Lexeme) → at ≤ end → Leads (heading_signs d.name d.parameters) (drop at xs) (drop end xs) →
    AllDiffer d.parameters → IsBody (scope_of earlier d) d.line d.value (drop end xs) left → Starts earlier d (drop at xs) left
starts_with earlier d xs at end left low h differ b =
    let head : List Lexeme = take (end - at) (drop at xs) in
    let e : at + (end - at) ≡ end = omega arith in
    let split : drop at xs ≡ head ++ drop end xs =
    sym (take-append-drop (end - at) (drop at xs)) ∙ ap (λ v. head ++ v) (drop-drop (end - at) at xs ∙ ap (λ n. drop n xs) e) in
    let heading : signs head ≡ heading_signs d.name d.parameters =
    append_cancel_right (signs head) (heading_signs d.name d.parameters) (signs (drop end xs))
    (sym (map-append (λ x. x.sign) head (drop end xs)) ∙ ap (λ v. signs v) (sym split) ∙ h) in
    let part : List Lexeme = head ++ (record { sign = s.Return; line = d.line } ∷ (b.range ++ b.tail)) in
    let whole : drop at xs ≡ part ++ left =
    split ∙ ap (λ v. head ++ v) b.parts ∙ ap (λ v. head ++ (record { sign = s.Return; line = d.line } ∷ v)) (sym (append_assoc b.range b.tail left)) ∙
    sym (append_assoc head (record { sign = s.Return; line = d.line } ∷ (b.range ++ b.tail)) left) in
    record {
      part = part;
      parts = whole;
      defined = record { head = head; value = b.range; tail = b.tail; parts = refl; heading = heading; valued = b.valued; ending = b.ending; distinct = differ; small = b.small };
    }

two_long : (tail : List Lexeme) → signs tail ≡ s.Semicolon ∷ (s.CloseBrace ∷ []) → length tail ≡ 2
two_long tail e = sym (length-map tail (λ x. x.sign)) ∙ ap length e

abbrev first_line : List Lexeme → ℕ
first_line [] = 0
first_line (x ∷ xs) = x.line

pub body_same : (scope : Scope) (line other : ℕ) (x y : Expression) (xs left rest : List Lexeme) → NamesDiffer scope →
    IsBody scope line x xs left → IsBody scope other y xs rest → (line ≡ other) × (x ≡ y) × (left ≡ rest)
body_same scope line other x y xs left rest differ h g =
    let q : record { sign = s.Return; line = line } ∷ (h.range ++ (h.tail ++ left)) ≡ record { sign = s.Return; line = other } ∷ (g.range ++ (g.tail ++ rest)) = sym h.parts ∙ g.parts in
    let first : line ≡ other = ap first_line q in
    let behind : h.range ++ (h.tail ++ left) ≡ g.range ++ (g.tail ++ rest) = cc in
    let p = split_same IsOpen h.range g.range (h.tail ++ left) (g.tail ++ rest) (all_open h.valued.printed) (all_open g.valued.printed)
    (open_ends h.tail left h.ending) (open_ends g.tail rest g.ending) behind in
    let range : h.range ≡ g.range = p.0 in
    let v : IsExpression scope x h.range = h.valued in
    let l : length h.tail ≡ length g.tail = two_long h.tail h.ending ∙ sym (two_long g.tail g.ending) in
    let a : length (h.tail ++ left) ≡ length (g.tail ++ rest) = ap length p.1 in
    let n : length left ≡ length rest = omega (arith, length-append h.tail left, length-append g.tail rest, a, l) in
    (first, expression_same scope x y g.range differ (rw range at v) g.valued, suffix_same h.tail g.tail left rest p.1 n)

definition_same : (d e : Definition) → d.name ≡ e.name → d.parameters ≡ e.parameters → d.line ≡ e.line → d.value ≡ e.value → d ≡ e
definition_same d e n p l v =
    ap (λ a. record { name = a; parameters = d.parameters; line = d.line; value = d.value }) n ∙
    ap (λ a. record { name = e.name; parameters = a; line = d.line; value = d.value }) p ∙
    ap (λ a. record { name = e.name; parameters = e.parameters; line = a; value = d.value }) l ∙
    ap (λ a. record { name = e.name; parameters = e.parameters; line = e.line; value = a }) v

-- what is behind a heading doesn't depend on how the heading was found
middle_same : (xs : List Lexeme) (head middle behind : List Lexeme) (front : List Lexeme) → xs ≡ head ++ middle → xs ≡ front ++ behind → signs middle ≡ signs behind → middle ≡ behind
middle_same xs head middle behind front e f same =
    let l : length middle ≡ length behind =
    sym (length-map middle (λ x. x.sign)) ∙ ap length same ∙ length-map behind (λ x. x.sign) in
    suffix_same head front middle behind (sym e ∙ f) l

-- definitions of one name and the same parameters have one scope
scope_same : (earlier : List Signature) (d : Definition) (name : List ℕ) (ps : List (List ℕ)) → d.name ≡ name → d.parameters ≡ ps →
    scope_of earlier d ≡ record { parameters = ps; functions = earlier ++ record { name = name; count = length ps } ∷ [] }
scope_same earlier d name ps n p =
    ap (λ v. record { parameters = d.parameters; functions = earlier ++ record { name = v; count = length d.parameters } ∷ [] }) n ∙
    ap (λ v. record { parameters = v; functions = earlier ++ record { name = name; count = length v } ∷ [] }) p

pub starts_same : (earlier : List Signature) (d e : Definition) (xs left rest : List Lexeme) → AllDiffer (map (λ f. f.name) (known_with earlier d)) →
    Starts earlier d xs left → Starts earlier e xs rest → (d ≡ e) × (left ≡ rest)
starts_same earlier d e xs left rest differ h g =
    let p = parts_of earlier d xs left h in
    let q = parts_of earlier e xs rest g in
    let same = heading_same e.name d.name e.parameters d.parameters (signs q.middle) (signs p.middle) (sym q.heading ∙ p.heading) in
    let middle : q.middle ≡ p.middle = middle_same xs q.head q.middle p.middle p.head q.parts p.parts same.2 in
    let other : IsBody (scope_of earlier e) e.line e.value q.middle rest = q.body in
    let moved : IsBody (scope_of earlier d) e.line e.value p.middle rest =
    subst (λ v. IsBody v e.line e.value p.middle rest) (scope_same earlier e d.name d.parameters same.0 same.1) (subst (λ v. IsBody (scope_of earlier e) e.line e.value v rest) middle other) in
    let b = body_same (scope_of earlier d) d.line e.line d.value e.value p.middle left rest (record { parameters = p.distinct; functions = differ }) p.body moved in
    (definition_same d e (sym same.0) (sym same.1) b.0 b.1, b.2)

-- no definition: no heading
pub no_heading : (earlier : List Signature) (xs : List Lexeme) → ((name : List ℕ) (ps : List (List ℕ)) (left : List Sign) → AllDiffer ps → signs xs ≡ heading_signs name ps ++ left → ⊥) →
    (d : Definition) (left : List Lexeme) → Starts earlier d xs left → ⊥
no_heading earlier xs none d left h = let p = parts_of earlier d xs left h in none d.name d.parameters (signs p.middle) p.distinct p.heading

module _ (earlier : List Signature) (name : List ℕ) (ps : List (List ℕ)) (xs : List Lexeme) (at end : ℕ) (h : Leads (heading_signs name ps) (drop at xs) (drop end xs)) where
  -- a definition has the name of its heading
  pub named_so : (d : Definition) (left : List Lexeme) → Starts earlier d (drop at xs) left → d.name ≡ name
  named_so d left g =
      let p = parts_of earlier d (drop at xs) left g in
      (heading_same d.name name d.parameters ps (signs p.middle) (signs (drop end xs)) (sym p.heading ∙ h)).0

  -- no definition: no body behind its heading
  pub no_body : at ≤ end →
      ((line : ℕ) (value : Expression) (left : List Lexeme) →
      IsBody (record { parameters = ps; functions = earlier ++ record { name = name; count = length ps } ∷ [] }) line value (drop end xs) left → ⊥) →
      (d : Definition) (left : List Lexeme) → Starts earlier d (drop at xs) left → ⊥
  no_body low none d left g =
      let p = parts_of earlier d (drop at xs) left g in
      let same = heading_same d.name name d.parameters ps (signs p.middle) (signs (drop end xs)) (sym p.heading ∙ h) in
      let e : at + (end - at) ≡ end = omega arith in
      let split : drop at xs ≡ take (end - at) (drop at xs) ++ drop end xs =
      sym (take-append-drop (end - at) (drop at xs)) ∙ ap (λ v. take (end - at) (drop at xs) ++ v) (drop-drop (end - at) at xs ∙ ap (λ n. drop n xs) e) in
      let middle : p.middle ≡ drop end xs = middle_same (drop at xs) p.head p.middle (drop end xs) (take (end - at) (drop at xs)) p.parts split same.2 in
      let own : IsBody (scope_of earlier d) d.line d.value p.middle left = p.body in
      none d.line d.value left
      (subst (λ v. IsBody v d.line d.value (drop end xs) left) (scope_same earlier d name ps same.0 same.1) (subst (λ v. IsBody (scope_of earlier d) d.line d.value v left) middle own))
