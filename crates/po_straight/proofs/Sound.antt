-- What is read is an expression, and the signs that it prints are those that were read.
use Rattle.std.proofs.Common.{◌≡◌, ℕ, ◌≤◌, ◌<◌, List, [], ◌∷◌, ◌++◌, ap, sym, ◌∙◌, refl, subst, arith, append_assoc}
use Rattle.po_base.specs.declared.operators.Op.{Op}
use Rattle.po_straight.specs.declared.lexeme.Sign.{Sign}
use Rattle.po_straight.specs.declared.lexeme.Sign.TheVariants as s
use Rattle.po_straight.specs.declared.lexeme.Lexeme.{Lexeme}
use Rattle.po_straight.specs.declared.expression.Expression.{Expression}
use Rattle.po_straight.specs.declared.expression.Expression.TheVariants as e
use Rattle.po_straight.specs.Scopes.{Scope}
use Rattle.po_straight.specs.Expressions.{IsOperator, add, sub, mul, div, rem, Prints, parameter as prints_parameter, constant as prints_constant, paren as prints_paren, call as prints_call, binary as prints_binary, PrintsAll, empty, single, comma}
use Rattle.po_straight.specs.Reading.{Reads, begun, Operand, parameter, constant, paren, call, Climbs, stop, more, Arguments, without, with, Items, final, further}

pub operator_low : {o : Op} {sign : Sign} {k : ℕ} → IsOperator o sign k → k < 2
operator_low add = omega arith
operator_low sub = omega arith
operator_low mul = omega arith
operator_low div = omega arith
operator_low rem = omega arith

-- ts are the signs of x, which has the level l at least, and then us
pub record Printed (scope : Scope) (l : ℕ) (ts : List Lexeme) (x : Expression) (us : List Lexeme) : Type 0 where
  pub level : ℕ
  pub signs : List Lexeme
  pub high : l ≤ level
  pub printed : Prints scope level x signs
  pub split : ts ≡ signs ++ us

-- ts are the signs of the expressions xs with commas between them, a closing parenthesis, and then us
record AllPrinted (scope : Scope) (ts : List Lexeme) (xs : List Expression) (us : List Lexeme) : Type 0 where
  signs : List Lexeme
  last : Lexeme
  closes : last.sign ≡ s.Close
  printed : PrintsAll scope xs signs
  split : ts ≡ signs ++ (last ∷ us)

-- one more expression before expressions that aren't none
joined : {scope : Scope} {us vs : List Lexeme} {xs : List Expression} (level line : ℕ) (x : Expression) (front rest : List Lexeme) →
    Prints scope level x front → Items scope us xs vs → PrintsAll scope xs rest → PrintsAll scope (x ∷ xs) (front ++ record { sign = s.Comma; line = line } ∷ rest)
joined level line x front rest h (final y last ts us q r) all = comma level line x y [] front rest h all
joined level line x front rest h (further y ys mark ts us vs q r w) all = comma level line x y ys front rest h all

mutual
  pub reads_sound : {scope : Scope} {l : ℕ} {ts us : List Lexeme} {x : Expression} → l ≤ 2 → Reads scope l ts x us → Printed scope l ts x us
  reads_sound {scope = scope} h (begun l x y ts us vs w c) =
      let p = operand_sound w in
      subst (λ v. Printed scope l v y vs) (sym p.2) (climbs_sound p.1 h c)

  operand_sound : {scope : Scope} {ts us : List Lexeme} {x : Expression} → Operand scope ts x us → (xs : List Lexeme) × Prints scope 2 x xs × (ts ≡ xs ++ us)
  operand_sound {scope = scope} (parameter n name mark ts q r) =
      (mark ∷ [], subst (λ v. Prints scope 2 (e.Parameter n) (record { sign = v; line = mark.line } ∷ [])) (sym q) (prints_parameter n mark.line name r), refl)
  operand_sound {scope = scope} (constant value mark ts q) =
      (mark ∷ [], subst (λ v. Prints scope 2 (e.Constant value) (record { sign = v; line = mark.line } ∷ [])) (sym q) (prints_constant value mark.line), refl)
  operand_sound {scope = scope} (paren x first last ts us q r w) =
      let p = reads_sound (omega arith) w in
      let printed : Prints scope 2 (e.Paren x) (record { sign = s.Open; line = first.line } ∷ (p.signs ++ record { sign = s.Close; line = last.line } ∷ [])) =
      prints_paren p.level first.line last.line x p.signs p.printed in (
        first ∷ (p.signs ++ last ∷ []),
        subst (λ v. Prints scope 2 (e.Paren x) (record { sign = v; line = first.line } ∷ (p.signs ++ last ∷ []))) (sym q)
            (subst (λ v. Prints scope 2 (e.Paren x) (record { sign = s.Open; line = first.line } ∷ (p.signs ++ record { sign = v; line = last.line } ∷ []))) (sym r) printed),
        rw append_assoc (ap (λ v. first ∷ v) p.split),
      )
  operand_sound {scope = scope} (call f called arguments mark first ts us q o g free k w) =
      let p = arguments_sound w in
      let close : Lexeme = record { sign = s.Close; line = p.last.line } in
      let own : close ≡ p.last = ap (λ v. record { sign = v; line = p.last.line }) (sym p.closes) in
      let printed : Prints scope 2 (e.Call f first.line arguments) (record { sign = s.Name called.name; line = mark.line } ∷ (record { sign = s.Open; line = first.line } ∷ (p.signs ++ close ∷ []))) =
      prints_call f mark.line first.line p.last.line called arguments p.signs g free k p.printed in (
        mark ∷ (first ∷ (p.signs ++ p.last ∷ [])),
        subst (λ v. Prints scope 2 (e.Call f first.line arguments) (record { sign = v; line = mark.line } ∷ (first ∷ (p.signs ++ p.last ∷ [])))) (sym q)
            (subst (λ v. Prints scope 2 (e.Call f first.line arguments) (record { sign = s.Name called.name; line = mark.line } ∷ (record { sign = v; line = first.line } ∷ (p.signs ++ p.last ∷ [])))) (sym o)
            (subst (λ v. Prints scope 2 (e.Call f first.line arguments) (record { sign = s.Name called.name; line = mark.line } ∷ (record { sign = s.Open; line = first.line } ∷ (p.signs ++ v ∷ [])))) own printed)),
        rw append_assoc (ap (λ v. mark ∷ (first ∷ v)) p.split),
      )

  climbs_sound : {scope : Scope} {l m : ℕ} {ts xs us : List Lexeme} {x z : Expression} → Prints scope m x xs → l ≤ m → Climbs scope l m x ts z us → Printed scope l (xs ++ ts) z us
  climbs_sound {xs = xs} w h (stop l m x ts g) = record { level = m; signs = xs; high = h; printed = w; split = refl }
  climbs_sound {scope = scope} {xs = xs} w h (more l m k o x y z mark ts us vs v low high r c) =
      let under = operator_low v in
      let p = reads_sound (omega arith) r in
      let above : k < p.level = omega (arith, p.high) in
      let joined : Prints scope k (e.Binary o mark.line x y) (xs ++ mark ∷ p.signs) = prints_binary o mark.sign k mark.line m p.level x y xs p.signs v high above w p.printed in
      let same : (xs ++ mark ∷ p.signs) ++ us ≡ xs ++ mark ∷ ts = append_assoc xs (mark ∷ p.signs) us ∙ ap (λ v. xs ++ mark ∷ v) (sym p.split) in
      subst (λ v. Printed scope l v z vs) same (climbs_sound joined low c)

  arguments_sound : {scope : Scope} {ts us : List Lexeme} {xs : List Expression} → Arguments scope ts xs us → AllPrinted scope ts xs us
  arguments_sound (without last ts q) = record { signs = []; last = last; closes = q; printed = empty; split = refl }
  arguments_sound (with xs ts us w) = items_sound w

  items_sound : {scope : Scope} {ts us : List Lexeme} {xs : List Expression} → Items scope ts xs us → AllPrinted scope ts xs us
  items_sound (final x last ts us q r) =
      let p = reads_sound (omega arith) r in
      record { signs = p.signs; last = last; closes = q; printed = single p.level x p.signs p.printed; split = p.split }
  items_sound {scope = scope} (further x xs mark ts us vs q r w) =
      let p = reads_sound (omega arith) r in
      let a = items_sound w in
      let printed : PrintsAll scope (x ∷ xs) (p.signs ++ record { sign = s.Comma; line = mark.line } ∷ a.signs) = joined p.level mark.line x p.signs a.signs p.printed w a.printed in
      record {
        signs = p.signs ++ mark ∷ a.signs;
        last = a.last;
        closes = a.closes;
        printed = subst (λ v. PrintsAll scope (x ∷ xs) (p.signs ++ record { sign = v; line = mark.line } ∷ a.signs)) (sym q) printed;
        split = p.split ∙ ap (λ v. p.signs ++ (mark ∷ v)) a.split ∙ sym (append_assoc p.signs (mark ∷ a.signs) (a.last ∷ vs));
      }
