use Rattle.std.proofs.Common.{◌≡◌, ℕ, ◌<◌, ◌≤◌, ◌+◌, List, length, get_or, take, arith, refl, ap, sym, ◌∙◌, take_all}
use Rattle.std.specs.Prelude.{sum_by}
use Rattle.std.proofs.lemmas.List.Sums.{sum_by_more_le}
use Rattle.po_base.specs.declared.operators.Op.{Op}
use Rattle.po_straight.specs.declared.expression.Expression.{Expression}
use Rattle.po_straight.specs.declared.expression.Expression.TheVariants as e
use Rattle.po_straight.specs.Expressions.{height}
use Rattle.po_straight.specs.Definitions.{operations}
use Rattle.po_straight.specs.Heights.{height-Paren, height-Call, height-Binary, height_at}
use Rattle.po_straight.specs.Operations.{operations-Parameter, operations-Constant, operations-Paren, operations-Call, operations-Binary, sum_mapped}
use Rattle.po_straight.proofs.expression.Expression.+operations.Goals as goal

-- parentheses are higher than what they enclose, and have its operations
within : (x inner part : Expression) → x ≡ e.Paren inner → part ≡ inner → (height part < height x) × (operations part ≡ operations x)
within x inner part q r =
    (omega (arith, ap height q, ap height r, height-Paren inner), omega (arith, ap operations q, ap operations r, operations-Paren inner))

-- an operator's expression is higher than its operands, and has their operations and its own
parts : (x left right a b : Expression) (o : Op) (line : ℕ) → x ≡ e.Binary o line left right → a ≡ left → b ≡ right →
    (height a < height x) × (height b < height x) × (operations a + operations b + 1 ≡ operations x)
parts x left right a b o line q r s =
    let h = height-Binary o line left right in
    let g = operations-Binary o line left right in
    (omega (arith, ap height q, ap height r, h), omega (arith, ap height q, ap height s, h), omega (arith, ap operations q, ap operations r, ap operations s, g))

-- a call is higher than its arguments, and has their operations and its own
module _ (x : Expression) (f line : ℕ) (items xs : List Expression) (i : ℕ) (q : x ≡ e.Call f line xs) (r : items ≡ xs) where
  argument : (d : Expression) → i < length items → (height (get_or items i d) < height x) × (1 + sum_by operations (take i items) + operations (get_or items i d) ≤ operations x)
  argument d h =
      let k = ap (λ v. sum_by operations v) r in (
        omega (arith, ap height q, height-Call f line xs, height_at items i d h, ap (λ v. height (e.Call f line v)) r, height-Call f line items),
        omega (arith, ap operations q, operations-Call f line xs, sum_mapped xs, k, sum_by_more_le operations items i d h),
      )

  arguments : length items ≤ i → 1 + sum_by operations (take i items) ≡ operations x
  arguments h =
      let k = ap (λ v. sum_by operations v) r in
      omega (arith, ap operations q, operations-Call f line xs, sum_mapped xs, k, ap (λ v. sum_by operations v) (take_all i items h))

pub operations-requires : goal.operations-requires
operations-requires t c =
    let p = within c.args.self.now _ _ c.in-Paren.is c.get.ensures in
    (omega (arith, p.0, c.decreases), omega (arith, p.1, c.requires))

pub operations-requires-in-Binary : goal.operations-requires-in-Binary
operations-requires-in-Binary t c =
    let p = parts c.args.self.now _ _ c.get-in-Binary.result.now _ _ _ c.in-Binary.is c.get-in-Binary.ensures refl in
    (omega (arith, p.0, c.decreases), omega (arith, p.2, c.requires))

pub operations-requires-in-Binary-2 : goal.operations-requires-in-Binary-2
operations-requires-in-Binary-2 t c =
    let p = parts c.args.self.now _ _ _ c.get-in-Binary-2.result.now _ _ c.in-Binary.is refl c.get-in-Binary-2.ensures in
    (omega (arith, p.1, c.decreases), omega (arith, p.2, c.requires))

pub overflow_add-result : goal.overflow_add-result
overflow_add-result t c =
    let p = parts c.args.self.now _ _ _ _ _ _ c.in-Binary.is c.get-in-Binary.ensures c.get-in-Binary-2.ensures in
    omega (arith, p.2, c.operations-in-Binary.ensures, c.operations-in-Binary-2.ensures, c.requires)

pub overflow_add-result-in-Binary : goal.overflow_add-result-in-Binary
overflow_add-result-in-Binary t c =
    let p = parts c.args.self.now _ _ _ _ _ _ c.in-Binary.is c.get-in-Binary.ensures c.get-in-Binary-2.ensures in
    omega (arith, p.2, c.operations-in-Binary.ensures, c.operations-in-Binary-2.ensures, c.requires)

pub returns-in-Parameter : goal.returns-in-Parameter
returns-in-Parameter t c = sym (ap operations c.in-Parameter.is ∙ operations-Parameter c.in-Parameter.field-0)

pub returns-in-Constant : goal.returns-in-Constant
returns-in-Constant t c = sym (ap operations c.in-Constant.is ∙ operations-Constant c.in-Constant.field-0)

pub returns-in-Paren : goal.returns-in-Paren
returns-in-Paren t c = c.operations.ensures ∙ (within c.args.self.now _ _ c.in-Paren.is c.get.ensures).1

pub returns-in-Binary : goal.returns-in-Binary
returns-in-Binary t c =
    let p = parts c.args.self.now _ _ _ _ _ _ c.in-Binary.is c.get-in-Binary.ensures c.get-in-Binary-2.ensures in
    omega (arith, p.2, c.operations-in-Binary.ensures, c.operations-in-Binary-2.ensures)

pub operations-count-requires : goal.operations-count-requires
operations-count-requires t c =
    let p = argument c.args.self.now _ _ _ _ c.loop-argument.argument-index c.in-Call.is c.as_slice-argument-items.ensures c.argument-item.result c.loop-argument-test.true in
    (omega (arith, p.0, c.decreases, ap height c.argument-item.is), omega (arith, p.1, c.requires, ap operations c.argument-item.is))

pub overflow_add-count : goal.overflow_add-count
overflow_add-count t c =
    let p = argument c.args.self.now _ _ _ _ c.loop-argument.argument-index c.in-Call.is c.as_slice-argument-items.ensures c.argument-item.result c.loop-argument-test.true in
    omega (arith, p.1, c.requires, ap operations c.argument-item.is, c.operations-count.ensures, c.loop-argument.invariant)

pub returns-after-loop-argument : goal.returns-after-loop-argument
returns-after-loop-argument t c =
    c.loop-argument.invariant ∙ arguments c.args.self.now _ _ _ _ c.loop-argument.argument-index c.in-Call.is c.as_slice-argument-items.ensures c.loop-argument-test.false
