-- An operand is no larger than the expression that it stands in.
use Rattle.std.proofs.Common.{◌≡◌, ◌≤◌, ap, arith}
use Rattle.po_base.specs.declared.operators.Op.{Op}
use Rattle.po_tree.specs.declared.expression.Exp.{Exp, size-Exp}
use Rattle.po_tree.specs.declared.expression.Exp.TheVariants as e
use Rattle.po_tree.specs.declared.expression.Exp.TheViews.{sized-Paren, sized-Plus, sized-Minus, sized-Compl, sized-Not, sized-Cast, sized-Binary, sized-LogAnd, sized-LogOr, sized-Cond}
use Rattle.po_tree.specs.declared.expression.TypeName.{TypeName}

-- n is the first operand of inner, which is no larger than x
module _ (x inner n : Exp) (within : size-Exp inner ≤ size-Exp x) where
  pub in_paren : (y : Exp) → inner ≡ e.Paren y → n ≡ y → size-Exp n ≤ size-Exp x
  in_paren y q r = let s = sized-Paren y in let here = ap size-Exp q in let there = ap size-Exp r in omega (arith, s, here, there, within)

  pub in_plus : (y : Exp) → inner ≡ e.Plus y → n ≡ y → size-Exp n ≤ size-Exp x
  in_plus y q r = let s = sized-Plus y in let here = ap size-Exp q in let there = ap size-Exp r in omega (arith, s, here, there, within)

  pub in_minus : (y : Exp) → inner ≡ e.Minus y → n ≡ y → size-Exp n ≤ size-Exp x
  in_minus y q r = let s = sized-Minus y in let here = ap size-Exp q in let there = ap size-Exp r in omega (arith, s, here, there, within)

  pub in_complement : (y : Exp) → inner ≡ e.Compl y → n ≡ y → size-Exp n ≤ size-Exp x
  in_complement y q r = let s = sized-Compl y in let here = ap size-Exp q in let there = ap size-Exp r in omega (arith, s, here, there, within)

  pub in_not : (y : Exp) → inner ≡ e.Not y → n ≡ y → size-Exp n ≤ size-Exp x
  in_not y q r = let s = sized-Not y in let here = ap size-Exp q in let there = ap size-Exp r in omega (arith, s, here, there, within)

  pub in_cast : (name : TypeName) (y : Exp) → inner ≡ e.Cast name y → n ≡ y → size-Exp n ≤ size-Exp x
  in_cast name y q r = let s = sized-Cast name y in let here = ap size-Exp q in let there = ap size-Exp r in omega (arith, s, here, there, within)

  pub in_binary : (o : Op) (y z : Exp) → inner ≡ e.Binary o y z → n ≡ y → size-Exp n ≤ size-Exp x
  in_binary o y z q r = let s = sized-Binary o y z in let here = ap size-Exp q in let there = ap size-Exp r in omega (arith, s, here, there, within)

  pub in_and : (y z : Exp) → inner ≡ e.LogAnd y z → n ≡ y → size-Exp n ≤ size-Exp x
  in_and y z q r = let s = sized-LogAnd y z in let here = ap size-Exp q in let there = ap size-Exp r in omega (arith, s, here, there, within)

  pub in_or : (y z : Exp) → inner ≡ e.LogOr y z → n ≡ y → size-Exp n ≤ size-Exp x
  in_or y z q r = let s = sized-LogOr y z in let here = ap size-Exp q in let there = ap size-Exp r in omega (arith, s, here, there, within)

  pub in_conditional : (y z w : Exp) → inner ≡ e.Cond y z w → n ≡ y → size-Exp n ≤ size-Exp x
  in_conditional y z w q r = let s = sized-Cond y z w in let here = ap size-Exp q in let there = ap size-Exp r in omega (arith, s, here, there, within)
