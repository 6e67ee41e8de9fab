use Rattle.std.proofs.Common.{subst, sym}
use Rattle.po_base.specs.declared.operators.Op.TheVariants as op
use Rattle.po_straight.specs.Expressions.{IsOperator, add, sub, mul, div, rem}
use Rattle.po_straight.proofs.read_expression.operator_of.Goals as goal

pub returns-in-Plus : goal.returns-in-Plus
returns-in-Plus c = subst (λ v. IsOperator op.Add v 0) (sym c.in-Plus.is) add

pub returns-in-Minus : goal.returns-in-Minus
returns-in-Minus c = subst (λ v. IsOperator op.Sub v 0) (sym c.in-Minus.is) sub

pub returns-in-Star : goal.returns-in-Star
returns-in-Star c = subst (λ v. IsOperator op.Mul v 1) (sym c.in-Star.is) mul

pub returns-in-Slash : goal.returns-in-Slash
returns-in-Slash c = subst (λ v. IsOperator op.Div v 1) (sym c.in-Slash.is) div

pub returns-in-Percent : goal.returns-in-Percent
returns-in-Percent c = subst (λ v. IsOperator op.Rem v 1) (sym c.in-Percent.is) rem
