-- Where the body of a definition stands, and where none does.
use Rattle.std.proofs.Common.{◌≡◌, ℕ, ◌+◌, ◌-◌, ◌<◌, ◌≤◌, ◌^◌, List, [], ◌∷◌, ◌++◌, length, get_or, drop, take, ap, sym, ◌∙◌, refl, arith}
use Rattle.std.specs.Prelude.{All}
use Rattle.std.proofs.lemmas.List.{take-append-drop, drop-drop}
use Rattle.po_straight.specs.declared.lexeme.Sign.TheVariants as s
use Rattle.po_straight.specs.declared.lexeme.Lexeme.{Lexeme}
use Rattle.po_straight.specs.declared.expression.Expression.{Expression}
use Rattle.po_straight.specs.Scopes.{Scope, NamesDiffer}
use Rattle.po_straight.specs.Expressions.{IsExpression}
use Rattle.po_straight.specs.Definitions.{signs, nodes_times_registers}
use Rattle.po_straight.specs.Outline.{Begins, IsOpen, IsBody}
use Rattle.po_straight.proofs.Listings.{drop_next, begins_not, second_not, two_signs}
use Rattle.po_straight.proofs.Bodies.{first_of, closed_by, split_at_stop, together}
use Rattle.po_straight.proofs.Single.{one_expression}

pub expression_same : (scope : Scope) (x y : Expression) (range : List Lexeme) → NamesDiffer scope → IsExpression scope x range → IsExpression scope y range → x ≡ y
expression_same scope x y range differ h g = (one_expression scope h.level g.level x y range differ h.printed g.printed).0

pub return_first : (xs : List Lexeme) (at : ℕ) (d : Lexeme) → Begins s.Return (drop at xs) →
    drop at xs ≡ record { sign = s.Return; line = (get_or xs at d).line } ∷ drop (at + 1) xs
return_first xs at d h = first (drop at xs) refl h
  where
    first : (ys : List Lexeme) → drop at xs ≡ ys → Begins s.Return ys → ys ≡ record { sign = s.Return; line = (get_or xs at d).line } ∷ drop (at + 1) xs
    first [] e b = elim b [ ]
    first (y ∷ ys) e b =
        let r = drop_next xs at y ys e in
        let g : get_or xs at d ≡ y = first_of xs at y d ys e in
        ap (λ v. y ∷ v) r.0 ∙ ap (λ v. record { sign = v; line = y.line } ∷ drop (at + 1) xs) b ∙
        ap (λ v. record { sign = s.Return; line = v.line } ∷ drop (at + 1) xs) (sym g)

module _ (scope : Scope) (xs : List Lexeme) (at stop : ℕ) (low : at + 1 ≤ stop) (opens : All IsOpen (take (stop - (at + 1)) (drop (at + 1) xs)))
    (here : stop < length xs → Begins s.Semicolon (drop stop xs)) where
  pub inner : (line : ℕ) (value : Expression) (left : List Lexeme) (b : IsBody scope line value (drop at xs) left) →
      (b.range ≡ take (stop - (at + 1)) (drop (at + 1) xs)) × (b.tail ++ left ≡ drop stop xs)
  inner line value left b =
      split_at_stop xs (at + 1) stop low opens here scope value b.range b.tail left b.valued b.ending (drop_next xs at _ _ b.parts).0

  behind : (line : ℕ) (value : Expression) (left : List Lexeme) → IsBody scope line value (drop at xs) left →
      signs (drop stop xs) ≡ s.Semicolon ∷ (s.CloseBrace ∷ signs left)
  behind line value left b = ap (λ v. signs v) (sym (inner line value left b).1) ∙ closed_by b.tail left b.ending

  pub no_semicolon : (Begins s.Semicolon (drop stop xs) → ⊥) → (line : ℕ) (value : Expression) (left : List Lexeme) → IsBody scope line value (drop at xs) left → ⊥
  no_semicolon none line value left b = begins_not s.Semicolon (drop stop xs) (s.CloseBrace ∷ signs left) none (behind line value left b)

  pub no_brace : Begins s.Semicolon (drop stop xs) → (Begins s.CloseBrace (drop (stop + 1) xs) → ⊥) →
      (line : ℕ) (value : Expression) (left : List Lexeme) → IsBody scope line value (drop at xs) left → ⊥
  no_brace h none line value left b = second_not s.Semicolon s.CloseBrace xs stop (signs left) h none (behind line value left b)

  pub no_value : ((x : Expression) → IsExpression scope x (take (stop - (at + 1)) (drop (at + 1) xs)) → ⊥) →
      (line : ℕ) (value : Expression) (left : List Lexeme) → IsBody scope line value (drop at xs) left → ⊥
  no_value none line value left b =
      none value (let e = (inner line value left b).0 in let w : IsExpression scope value b.range = b.valued in rw e at w)

  pub too_large : (own : Expression) → NamesDiffer scope → IsExpression scope own (take (stop - (at + 1)) (drop (at + 1) xs)) → 2 ^ 22 < nodes_times_registers (length scope.parameters) own →
      (line : ℕ) (value : Expression) (left : List Lexeme) → IsBody scope line value (drop at xs) left → ⊥
  too_large own differ w large line value left b =
      let e = (inner line value left b).0 in
      let v : IsExpression scope value b.range = b.valued in
      let same : value ≡ own = expression_same scope value own _ differ (rw e at v) w in
      let small : nodes_times_registers (length scope.parameters) value ≤ 2 ^ 22 = b.small in
      let z : nodes_times_registers (length scope.parameters) own ≤ 2 ^ 22 = rw same at small in omega arith

  pub body_whole : (d : Lexeme) (own : Expression) → Begins s.Return (drop at xs) → Begins s.Semicolon (drop stop xs) → Begins s.CloseBrace (drop (stop + 1) xs) →
      IsExpression scope own (take (stop - (at + 1)) (drop (at + 1) xs)) → nodes_times_registers (length scope.parameters) own ≤ 2 ^ 22 →
      IsBody scope (get_or xs at d).line own (drop at xs) (drop (stop + 2) xs)
  body_whole d own h semicolon brace w small =
      let two = two_signs s.Semicolon s.CloseBrace xs stop semicolon brace in
      let t : take 2 (drop stop xs) ++ drop (stop + 2) xs ≡ drop stop xs =
      ap (λ v. take 2 (drop stop xs) ++ v) (sym (drop-drop 2 stop xs)) ∙ take-append-drop 2 (drop stop xs) in
      let parts : drop at xs ≡ record { sign = s.Return; line = (get_or xs at d).line } ∷ (take (stop - (at + 1)) (drop (at + 1) xs) ++ (take 2 (drop stop xs) ++ drop (stop + 2) xs)) =
      return_first xs at d h ∙ ap (λ v. record { sign = s.Return; line = (get_or xs at d).line } ∷ v)
      (sym (together xs (at + 1) stop low opens here) ∙ ap (λ v. take (stop - (at + 1)) (drop (at + 1) xs) ++ v) (sym t)) in
      record {
        range = take (stop - (at + 1)) (drop (at + 1) xs);
        tail = take 2 (drop stop xs);
        parts = parts;
        valued = w;
        ending = ending_of (drop stop xs) two.0;
        small = small;
      }
    where
      ending_of : (ys : List Lexeme) → signs ys ≡ s.Semicolon ∷ (s.CloseBrace ∷ signs (drop (stop + 2) xs)) → signs (take 2 ys) ≡ s.Semicolon ∷ (s.CloseBrace ∷ [])
      ending_of [] e = absurd (cc)
      ending_of (x ∷ []) e = absurd (let q : signs [] ≡ s.CloseBrace ∷ signs (drop (stop + 2) xs) = cc in cc)
      ending_of (x ∷ (y ∷ ys)) e =
          let p : x.sign ≡ s.Semicolon = cc in
          let r : y.sign ≡ s.CloseBrace = let q : y.sign ∷ signs ys ≡ s.CloseBrace ∷ signs (drop (stop + 2) xs) = cc in cc in
          ap (λ v. v ∷ (y.sign ∷ [])) p ∙ ap (λ v. s.Semicolon ∷ (v ∷ [])) r
