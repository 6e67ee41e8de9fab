use Rattle.std.proofs.Common.{sym, ap, ◌∙◌, false}
use Rattle.po_lowering.specs.Naming.{assigned}
use Rattle.po_assigning.proofs.Assigned.{is_Var, is_Paren}
use Rattle.po_assigning.proofs.Nameless.{is_no_name}
use Rattle.po_assigning.proofs.naming.name_of.Goals as goal

pub loop-inner-preserved : goal.loop-inner-preserved
loop-inner-preserved c = λ p. ap (λ x. (assigned p x).is) c.get-inner.ensures ∙ sym (is_Paren p c.loop-inner.inner.now c.in-Paren.operand c.in-Paren.is) ∙ c.loop-inner.invariant p

pub returns-in-Var-clause-name : goal.returns-in-Var-clause-name
returns-in-Var-clause-name c = sym (is_Var (λ name. false) c.loop-inner.inner.now c.in-Var.name c.in-Var.is) ∙ c.loop-inner.invariant (λ name. false)

pub returns-in-Var-clause-same : goal.returns-in-Var-clause-same
returns-in-Var-clause-same c = λ p. sym (is_Var p c.loop-inner.inner.now c.in-Var.name c.in-Var.is) ∙ c.loop-inner.invariant p

pub returns-in_default : goal.returns-in_default
returns-in_default c = record {
  name = sym (is_no_name (λ name. false) c.loop-inner.inner.now c.in_default.not-Var c.in_default.not-Paren) ∙ c.loop-inner.invariant (λ name. false);
  same = λ p. sym (is_no_name p c.loop-inner.inner.now c.in_default.not-Var c.in_default.not-Paren) ∙ c.loop-inner.invariant p;
}
