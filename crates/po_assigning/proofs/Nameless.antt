-- Any form of expression but a name and parentheses is no name.
use Rattle.std.proofs.Common.{◌≡◌, ℕ, List, Bool, Option, None, ap, sym, ◌∙◌, refl}
use Rattle.po_tree.specs.declared.expression.Exp.{Exp, out-Exp, roll-Exp, roll-out-Exp, fold-roll-Exp}
use Rattle.po_tree.specs.declared.expression.Exp.TheVariants as e
use Rattle.po_tree.specs.declared.expression.Exp.TheOpen.{Exp-F}
use Rattle.po_tree.specs.declared.expression.Specifier.{Specifier}
use Rattle.po_tree.specs.declared.expression.Suffix.{Suffix}
use Rattle.po_tree.specs.declared.expression.Declarator.{Declarator}
use Rattle.po_tree.specs.declared.expression.Member.{Member}
use Rattle.po_tree.specs.declared.expression.Param.{Param}
use Rattle.po_tree.specs.declared.expression.TypeName.{TypeName}
use Rattle.po_lowering.specs.Naming.{Use, assigned, assigning}

module _ (p : List ℕ → Bool) where
  nameless : (l : Exp-F Exp Specifier Suffix Declarator Member Param TypeName) → ((n : List ℕ) → roll-Exp l ≡ e.Var n → ⊥) →
      ((y : Exp) → roll-Exp l ≡ e.Paren y → ⊥) → (assigned p (roll-Exp l)).is ≡ None
  unfolding assigned
  nameless (Exp-F.Var n) h k = absurd (h n (e.rolls-Var n))
  nameless (Exp-F.Paren y) h k = absurd (k y (e.rolls-Paren y))
  nameless (Exp-F.Num a) h k = ap (λ (u : Use). u.is) (fold-roll-Exp _ _ _ _ _ _ _ (assigning p) _ _ _ _ _ _ (Exp-F.Num a))
  nameless (Exp-F.Chr a) h k = ap (λ (u : Use). u.is) (fold-roll-Exp _ _ _ _ _ _ _ (assigning p) _ _ _ _ _ _ (Exp-F.Chr a))
  nameless (Exp-F.Str a) h k = ap (λ (u : Use). u.is) (fold-roll-Exp _ _ _ _ _ _ _ (assigning p) _ _ _ _ _ _ (Exp-F.Str a))
  nameless (Exp-F.Index a b) h k = ap (λ (u : Use). u.is) (fold-roll-Exp _ _ _ _ _ _ _ (assigning p) _ _ _ _ _ _ (Exp-F.Index a b))
  nameless (Exp-F.Call a b) h k = ap (λ (u : Use). u.is) (fold-roll-Exp _ _ _ _ _ _ _ (assigning p) _ _ _ _ _ _ (Exp-F.Call a b))
  nameless (Exp-F.Dot a b) h k = ap (λ (u : Use). u.is) (fold-roll-Exp _ _ _ _ _ _ _ (assigning p) _ _ _ _ _ _ (Exp-F.Dot a b))
  nameless (Exp-F.Arrow a b) h k = ap (λ (u : Use). u.is) (fold-roll-Exp _ _ _ _ _ _ _ (assigning p) _ _ _ _ _ _ (Exp-F.Arrow a b))
  nameless (Exp-F.PostInc a) h k = ap (λ (u : Use). u.is) (fold-roll-Exp _ _ _ _ _ _ _ (assigning p) _ _ _ _ _ _ (Exp-F.PostInc a))
  nameless (Exp-F.PostDec a) h k = ap (λ (u : Use). u.is) (fold-roll-Exp _ _ _ _ _ _ _ (assigning p) _ _ _ _ _ _ (Exp-F.PostDec a))
  nameless (Exp-F.PreInc a) h k = ap (λ (u : Use). u.is) (fold-roll-Exp _ _ _ _ _ _ _ (assigning p) _ _ _ _ _ _ (Exp-F.PreInc a))
  nameless (Exp-F.PreDec a) h k = ap (λ (u : Use). u.is) (fold-roll-Exp _ _ _ _ _ _ _ (assigning p) _ _ _ _ _ _ (Exp-F.PreDec a))
  nameless (Exp-F.Addr a) h k = ap (λ (u : Use). u.is) (fold-roll-Exp _ _ _ _ _ _ _ (assigning p) _ _ _ _ _ _ (Exp-F.Addr a))
  nameless (Exp-F.Deref a) h k = ap (λ (u : Use). u.is) (fold-roll-Exp _ _ _ _ _ _ _ (assigning p) _ _ _ _ _ _ (Exp-F.Deref a))
  nameless (Exp-F.Plus a) h k = ap (λ (u : Use). u.is) (fold-roll-Exp _ _ _ _ _ _ _ (assigning p) _ _ _ _ _ _ (Exp-F.Plus a))
  nameless (Exp-F.Minus a) h k = ap (λ (u : Use). u.is) (fold-roll-Exp _ _ _ _ _ _ _ (assigning p) _ _ _ _ _ _ (Exp-F.Minus a))
  nameless (Exp-F.Compl a) h k = ap (λ (u : Use). u.is) (fold-roll-Exp _ _ _ _ _ _ _ (assigning p) _ _ _ _ _ _ (Exp-F.Compl a))
  nameless (Exp-F.Not a) h k = ap (λ (u : Use). u.is) (fold-roll-Exp _ _ _ _ _ _ _ (assigning p) _ _ _ _ _ _ (Exp-F.Not a))
  nameless (Exp-F.SizeExp a) h k = ap (λ (u : Use). u.is) (fold-roll-Exp _ _ _ _ _ _ _ (assigning p) _ _ _ _ _ _ (Exp-F.SizeExp a))
  nameless (Exp-F.SizeType a) h k = ap (λ (u : Use). u.is) (fold-roll-Exp _ _ _ _ _ _ _ (assigning p) _ _ _ _ _ _ (Exp-F.SizeType a))
  nameless (Exp-F.Cast a b) h k = ap (λ (u : Use). u.is) (fold-roll-Exp _ _ _ _ _ _ _ (assigning p) _ _ _ _ _ _ (Exp-F.Cast a b))
  nameless (Exp-F.Binary a b d) h k = ap (λ (u : Use). u.is) (fold-roll-Exp _ _ _ _ _ _ _ (assigning p) _ _ _ _ _ _ (Exp-F.Binary a b d))
  nameless (Exp-F.LogAnd a b) h k = ap (λ (u : Use). u.is) (fold-roll-Exp _ _ _ _ _ _ _ (assigning p) _ _ _ _ _ _ (Exp-F.LogAnd a b))
  nameless (Exp-F.LogOr a b) h k = ap (λ (u : Use). u.is) (fold-roll-Exp _ _ _ _ _ _ _ (assigning p) _ _ _ _ _ _ (Exp-F.LogOr a b))
  nameless (Exp-F.Cond a b d) h k = ap (λ (u : Use). u.is) (fold-roll-Exp _ _ _ _ _ _ _ (assigning p) _ _ _ _ _ _ (Exp-F.Cond a b d))
  nameless (Exp-F.Assign a b d) h k = ap (λ (u : Use). u.is) (fold-roll-Exp _ _ _ _ _ _ _ (assigning p) _ _ _ _ _ _ (Exp-F.Assign a b d))
  nameless (Exp-F.Comma a b) h k = ap (λ (u : Use). u.is) (fold-roll-Exp _ _ _ _ _ _ _ (assigning p) _ _ _ _ _ _ (Exp-F.Comma a b))

  pub is_no_name : (x : Exp) → ((n : List ℕ) → x ≡ e.Var n → ⊥) → ((y : Exp) → x ≡ e.Paren y → ⊥) → (assigned p x).is ≡ None
  is_no_name x h k = ap (λ y. (assigned p y).is) (sym (roll-out-Exp x)) ∙
      nameless (out-Exp x) (λ n q. h n (sym (roll-out-Exp x) ∙ q)) (λ y q. k y (sym (roll-out-Exp x) ∙ q))
