-- What each form of expression assigns: such a variable, whatever is asked of its name.
use Rattle.std.proofs.Common.{◌≡◌, ℕ, List, [], ◌∷◌, map, Option, Some, None, Bool, false, ◌||◌, ◌⊎◌, inl, inr, ap, sym, ◌∙◌, refl}
use Rattle.po_base.specs.declared.operators.Op.{Op}
use Rattle.po_tree.specs.declared.expression.Exp.{Exp, fold-roll-Exp}
use Rattle.po_tree.specs.declared.expression.Exp.TheVariants as e
use Rattle.po_tree.specs.declared.expression.Exp.TheOpen.{Exp-F}
use Rattle.po_tree.specs.declared.expression.TypeName.{TypeName}
use Rattle.po_lowering.specs.Naming.{Use, assigned, assigning, any_of, holds_of}

module _ (p : List ℕ → Bool) where
  abbrev pub does : Exp → Bool
  does x = (assigned p x).does

  abbrev pub does_name : Exp → Bool
  does_name x = holds_of p (assigned p x).is

  pub is_Var : (x : Exp) (n : List ℕ) → x ≡ e.Var n → (assigned p x).is ≡ Some n
  unfolding assigned
  is_Var x n q = ap (λ (u : Use). u.is) (ap (assigned p) (q ∙ sym (e.rolls-Var n)) ∙ fold-roll-Exp _ _ _ _ _ _ _ (assigning p) _ _ _ _ _ _ (Exp-F.Var n))

  pub is_Paren : (x y : Exp) → x ≡ e.Paren y → (assigned p x).is ≡ (assigned p y).is
  unfolding assigned
  is_Paren x y q = ap (λ (u : Use). u.is) (ap (assigned p) (q ∙ sym (e.rolls-Paren y)) ∙ fold-roll-Exp _ _ _ _ _ _ _ (assigning p) _ _ _ _ _ _ (Exp-F.Paren y))

  of_Var : (x : Exp) (n : List ℕ) → x ≡ e.Var n → does x ≡ false
  unfolding assigned
  of_Var x n q = ap (λ (u : Use). u.does) (ap (assigned p) (q ∙ sym (e.rolls-Var n)) ∙ fold-roll-Exp _ _ _ _ _ _ _ (assigning p) _ _ _ _ _ _ (Exp-F.Var n))

  of_Num : (x : Exp) (n : List ℕ) → x ≡ e.Num n → does x ≡ false
  unfolding assigned
  of_Num x n q = ap (λ (u : Use). u.does) (ap (assigned p) (q ∙ sym (e.rolls-Num n)) ∙ fold-roll-Exp _ _ _ _ _ _ _ (assigning p) _ _ _ _ _ _ (Exp-F.Num n))

  of_Chr : (x : Exp) (n : List ℕ) → x ≡ e.Chr n → does x ≡ false
  unfolding assigned
  of_Chr x n q = ap (λ (u : Use). u.does) (ap (assigned p) (q ∙ sym (e.rolls-Chr n)) ∙ fold-roll-Exp _ _ _ _ _ _ _ (assigning p) _ _ _ _ _ _ (Exp-F.Chr n))

  of_Str : (x : Exp) (texts : List (List ℕ)) → x ≡ e.Str texts → does x ≡ false
  unfolding assigned
  of_Str x texts q = ap (λ (u : Use). u.does) (ap (assigned p) (q ∙ sym (e.rolls-Str texts)) ∙ fold-roll-Exp _ _ _ _ _ _ _ (assigning p) _ _ _ _ _ _ (Exp-F.Str texts))

  of_Paren : (x : Exp) (y : Exp) → x ≡ e.Paren y → does x ≡ does y
  unfolding assigned
  of_Paren x y q = ap (λ (u : Use). u.does) (ap (assigned p) (q ∙ sym (e.rolls-Paren y)) ∙ fold-roll-Exp _ _ _ _ _ _ _ (assigning p) _ _ _ _ _ _ (Exp-F.Paren y))

  of_Index : (x : Exp) (y : Exp) (z : Exp) → x ≡ e.Index y z → does x ≡ (does y || does z)
  unfolding assigned
  of_Index x y z q = ap (λ (u : Use). u.does) (ap (assigned p) (q ∙ sym (e.rolls-Index y z)) ∙ fold-roll-Exp _ _ _ _ _ _ _ (assigning p) _ _ _ _ _ _ (Exp-F.Index y z))

  each_does : (ys : List Exp) → map (λ (u : Use). u.does) (map (assigned p) ys) ≡ map does ys
  each_does [] = refl
  each_does (y ∷ ys) = ap (λ bs. does y ∷ bs) (each_does ys)

  pub of_Call : (x : Exp) (y : Exp) (ys : List Exp) → x ≡ e.Call y ys → does x ≡ any_of (map does ys)
  unfolding assigned
  of_Call x y ys q = ap (λ (u : Use). u.does) (ap (assigned p) (q ∙ sym (e.rolls-Call y ys)) ∙ fold-roll-Exp _ _ _ _ _ _ _ (assigning p) _ _ _ _ _ _ (Exp-F.Call y ys)) ∙ ap any_of (each_does ys)

  of_Dot : (x : Exp) (y : Exp) (n : List ℕ) → x ≡ e.Dot y n → does x ≡ does y
  unfolding assigned
  of_Dot x y n q = ap (λ (u : Use). u.does) (ap (assigned p) (q ∙ sym (e.rolls-Dot y n)) ∙ fold-roll-Exp _ _ _ _ _ _ _ (assigning p) _ _ _ _ _ _ (Exp-F.Dot y n))

  of_Arrow : (x : Exp) (y : Exp) (n : List ℕ) → x ≡ e.Arrow y n → does x ≡ does y
  unfolding assigned
  of_Arrow x y n q = ap (λ (u : Use). u.does) (ap (assigned p) (q ∙ sym (e.rolls-Arrow y n)) ∙ fold-roll-Exp _ _ _ _ _ _ _ (assigning p) _ _ _ _ _ _ (Exp-F.Arrow y n))

  of_PostInc : (x : Exp) (y : Exp) → x ≡ e.PostInc y → does x ≡ (does_name y || does y)
  unfolding assigned
  of_PostInc x y q = ap (λ (u : Use). u.does) (ap (assigned p) (q ∙ sym (e.rolls-PostInc y)) ∙ fold-roll-Exp _ _ _ _ _ _ _ (assigning p) _ _ _ _ _ _ (Exp-F.PostInc y))

  of_PostDec : (x : Exp) (y : Exp) → x ≡ e.PostDec y → does x ≡ (does_name y || does y)
  unfolding assigned
  of_PostDec x y q = ap (λ (u : Use). u.does) (ap (assigned p) (q ∙ sym (e.rolls-PostDec y)) ∙ fold-roll-Exp _ _ _ _ _ _ _ (assigning p) _ _ _ _ _ _ (Exp-F.PostDec y))

  of_PreInc : (x : Exp) (y : Exp) → x ≡ e.PreInc y → does x ≡ (does_name y || does y)
  unfolding assigned
  of_PreInc x y q = ap (λ (u : Use). u.does) (ap (assigned p) (q ∙ sym (e.rolls-PreInc y)) ∙ fold-roll-Exp _ _ _ _ _ _ _ (assigning p) _ _ _ _ _ _ (Exp-F.PreInc y))

  of_PreDec : (x : Exp) (y : Exp) → x ≡ e.PreDec y → does x ≡ (does_name y || does y)
  unfolding assigned
  of_PreDec x y q = ap (λ (u : Use). u.does) (ap (assigned p) (q ∙ sym (e.rolls-PreDec y)) ∙ fold-roll-Exp _ _ _ _ _ _ _ (assigning p) _ _ _ _ _ _ (Exp-F.PreDec y))

  of_Addr : (x : Exp) (y : Exp) → x ≡ e.Addr y → does x ≡ does y
  unfolding assigned
  of_Addr x y q = ap (λ (u : Use). u.does) (ap (assigned p) (q ∙ sym (e.rolls-Addr y)) ∙ fold-roll-Exp _ _ _ _ _ _ _ (assigning p) _ _ _ _ _ _ (Exp-F.Addr y))

  of_Deref : (x : Exp) (y : Exp) → x ≡ e.Deref y → does x ≡ does y
  unfolding assigned
  of_Deref x y q = ap (λ (u : Use). u.does) (ap (assigned p) (q ∙ sym (e.rolls-Deref y)) ∙ fold-roll-Exp _ _ _ _ _ _ _ (assigning p) _ _ _ _ _ _ (Exp-F.Deref y))

  of_Plus : (x : Exp) (y : Exp) → x ≡ e.Plus y → does x ≡ does y
  unfolding assigned
  of_Plus x y q = ap (λ (u : Use). u.does) (ap (assigned p) (q ∙ sym (e.rolls-Plus y)) ∙ fold-roll-Exp _ _ _ _ _ _ _ (assigning p) _ _ _ _ _ _ (Exp-F.Plus y))

  of_Minus : (x : Exp) (y : Exp) → x ≡ e.Minus y → does x ≡ does y
  unfolding assigned
  of_Minus x y q = ap (λ (u : Use). u.does) (ap (assigned p) (q ∙ sym (e.rolls-Minus y)) ∙ fold-roll-Exp _ _ _ _ _ _ _ (assigning p) _ _ _ _ _ _ (Exp-F.Minus y))

  of_Compl : (x : Exp) (y : Exp) → x ≡ e.Compl y → does x ≡ does y
  unfolding assigned
  of_Compl x y q = ap (λ (u : Use). u.does) (ap (assigned p) (q ∙ sym (e.rolls-Compl y)) ∙ fold-roll-Exp _ _ _ _ _ _ _ (assigning p) _ _ _ _ _ _ (Exp-F.Compl y))

  of_Not : (x : Exp) (y : Exp) → x ≡ e.Not y → does x ≡ does y
  unfolding assigned
  of_Not x y q = ap (λ (u : Use). u.does) (ap (assigned p) (q ∙ sym (e.rolls-Not y)) ∙ fold-roll-Exp _ _ _ _ _ _ _ (assigning p) _ _ _ _ _ _ (Exp-F.Not y))

  of_SizeExp : (x : Exp) (y : Exp) → x ≡ e.SizeExp y → does x ≡ false
  unfolding assigned
  of_SizeExp x y q = ap (λ (u : Use). u.does) (ap (assigned p) (q ∙ sym (e.rolls-SizeExp y)) ∙ fold-roll-Exp _ _ _ _ _ _ _ (assigning p) _ _ _ _ _ _ (Exp-F.SizeExp y))

  of_SizeType : (x : Exp) (t : TypeName) → x ≡ e.SizeType t → does x ≡ false
  unfolding assigned
  of_SizeType x t q = ap (λ (u : Use). u.does) (ap (assigned p) (q ∙ sym (e.rolls-SizeType t)) ∙ fold-roll-Exp _ _ _ _ _ _ _ (assigning p) _ _ _ _ _ _ (Exp-F.SizeType t))

  of_Cast : (x : Exp) (t : TypeName) (y : Exp) → x ≡ e.Cast t y → does x ≡ does y
  unfolding assigned
  of_Cast x t y q = ap (λ (u : Use). u.does) (ap (assigned p) (q ∙ sym (e.rolls-Cast t y)) ∙ fold-roll-Exp _ _ _ _ _ _ _ (assigning p) _ _ _ _ _ _ (Exp-F.Cast t y))

  of_Binary : (x : Exp) (op : Op) (y : Exp) (z : Exp) → x ≡ e.Binary op y z → does x ≡ (does y || does z)
  unfolding assigned
  of_Binary x op y z q = ap (λ (u : Use). u.does) (ap (assigned p) (q ∙ sym (e.rolls-Binary op y z)) ∙ fold-roll-Exp _ _ _ _ _ _ _ (assigning p) _ _ _ _ _ _ (Exp-F.Binary op y z))

  of_LogAnd : (x : Exp) (y : Exp) (z : Exp) → x ≡ e.LogAnd y z → does x ≡ (does y || does z)
  unfolding assigned
  of_LogAnd x y z q = ap (λ (u : Use). u.does) (ap (assigned p) (q ∙ sym (e.rolls-LogAnd y z)) ∙ fold-roll-Exp _ _ _ _ _ _ _ (assigning p) _ _ _ _ _ _ (Exp-F.LogAnd y z))

  of_LogOr : (x : Exp) (y : Exp) (z : Exp) → x ≡ e.LogOr y z → does x ≡ (does y || does z)
  unfolding assigned
  of_LogOr x y z q = ap (λ (u : Use). u.does) (ap (assigned p) (q ∙ sym (e.rolls-LogOr y z)) ∙ fold-roll-Exp _ _ _ _ _ _ _ (assigning p) _ _ _ _ _ _ (Exp-F.LogOr y z))

  pub of_Cond : (x : Exp) (y : Exp) (z : Exp) (w : Exp) → x ≡ e.Cond y z w → does x ≡ (does y || (does z || does w))
  unfolding assigned
  of_Cond x y z w q = ap (λ (u : Use). u.does) (ap (assigned p) (q ∙ sym (e.rolls-Cond y z w)) ∙ fold-roll-Exp _ _ _ _ _ _ _ (assigning p) _ _ _ _ _ _ (Exp-F.Cond y z w))

  pub of_Assign : (x : Exp) (op : Option Op) (y : Exp) (z : Exp) → x ≡ e.Assign op y z → does x ≡ (does_name y || (does y || does z))
  unfolding assigned
  of_Assign x op y z q = ap (λ (u : Use). u.does) (ap (assigned p) (q ∙ sym (e.rolls-Assign op y z)) ∙ fold-roll-Exp _ _ _ _ _ _ _ (assigning p) _ _ _ _ _ _ (Exp-F.Assign op y z))

  of_Comma : (x : Exp) (y : Exp) (z : Exp) → x ≡ e.Comma y z → does x ≡ (does y || does z)
  unfolding assigned
  of_Comma x y z q = ap (λ (u : Use). u.does) (ap (assigned p) (q ∙ sym (e.rolls-Comma y z)) ∙ fold-roll-Exp _ _ _ _ _ _ _ (assigning p) _ _ _ _ _ _ (Exp-F.Comma y z))

  -- an expression without operands, and a size
  pub of_leaf : (x : Exp) → ((n : List ℕ) × (x ≡ e.Var n)) ⊎ (((n : List ℕ) × (x ≡ e.Num n)) ⊎ (((n : List ℕ) × (x ≡ e.Chr n)) ⊎ (((texts : List (List ℕ)) × (x ≡ e.Str texts)) ⊎ (((y : Exp) × (x ≡ e.SizeExp y)) ⊎ (((t : TypeName) × (x ≡ e.SizeType t))))))) → does x ≡ false
  of_leaf x (inl (n, q)) = of_Var x n q
  of_leaf x (inr (inl (n, q))) = of_Num x n q
  of_leaf x (inr (inr (inl (n, q)))) = of_Chr x n q
  of_leaf x (inr (inr (inr (inl (texts, q))))) = of_Str x texts q
  of_leaf x (inr (inr (inr (inr (inl (y, q)))))) = of_SizeExp x y q
  of_leaf x (inr (inr (inr (inr (inr (t, q)))))) = of_SizeType x t q

  -- an expression of one operand
  pub of_one : (x : Exp) (y : Exp) → (x ≡ e.Paren y) ⊎ (((n : List ℕ) × (x ≡ e.Dot y n)) ⊎ (((n : List ℕ) × (x ≡ e.Arrow y n)) ⊎ ((x ≡ e.Addr y) ⊎ ((x ≡ e.Deref y) ⊎ ((x ≡ e.Plus y) ⊎ ((x ≡ e.Minus y) ⊎ ((x ≡ e.Compl y) ⊎ ((x ≡ e.Not y) ⊎ (((t : TypeName) × (x ≡ e.Cast t y))))))))))) → does x ≡ does y
  of_one x y (inl q) = of_Paren x y q
  of_one x y (inr (inl (n, q))) = of_Dot x y n q
  of_one x y (inr (inr (inl (n, q)))) = of_Arrow x y n q
  of_one x y (inr (inr (inr (inl q)))) = of_Addr x y q
  of_one x y (inr (inr (inr (inr (inl q))))) = of_Deref x y q
  of_one x y (inr (inr (inr (inr (inr (inl q)))))) = of_Plus x y q
  of_one x y (inr (inr (inr (inr (inr (inr (inl q))))))) = of_Minus x y q
  of_one x y (inr (inr (inr (inr (inr (inr (inr (inl q)))))))) = of_Compl x y q
  of_one x y (inr (inr (inr (inr (inr (inr (inr (inr (inl q))))))))) = of_Not x y q
  of_one x y (inr (inr (inr (inr (inr (inr (inr (inr (inr (t, q)))))))))) = of_Cast x t y q

  -- `++` and `--`
  pub of_step : (x : Exp) (y : Exp) → (x ≡ e.PostInc y) ⊎ ((x ≡ e.PostDec y) ⊎ ((x ≡ e.PreInc y) ⊎ ((x ≡ e.PreDec y)))) → does x ≡ (does_name y || does y)
  of_step x y (inl q) = of_PostInc x y q
  of_step x y (inr (inl q)) = of_PostDec x y q
  of_step x y (inr (inr (inl q))) = of_PreInc x y q
  of_step x y (inr (inr (inr q))) = of_PreDec x y q

  -- an expression of two operands
  pub of_two : (x : Exp) (y : Exp) (z : Exp) → (x ≡ e.Index y z) ⊎ (((op : Op) × (x ≡ e.Binary op y z)) ⊎ ((x ≡ e.LogAnd y z) ⊎ ((x ≡ e.LogOr y z) ⊎ ((x ≡ e.Comma y z))))) → does x ≡ (does y || does z)
  of_two x y z (inl q) = of_Index x y z q
  of_two x y z (inr (inl (op, q))) = of_Binary x op y z q
  of_two x y z (inr (inr (inl q))) = of_LogAnd x y z q
  of_two x y z (inr (inr (inr (inl q)))) = of_LogOr x y z q
  of_two x y z (inr (inr (inr (inr q)))) = of_Comma x y z q
