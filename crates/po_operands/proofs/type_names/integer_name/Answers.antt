use Rattle.std.proofs.Common.{subst}
use Rattle.po_types.specs.declared.ctype.CType.TheVariants as t
use Rattle.po_constants.specs.Found.{Finds}
use Rattle.po_typed.specs.Expressions.{IsPlainName}
use Rattle.po_operands.proofs.StarredBases.{integer_said}
use Rattle.po_operands.proofs.type_names.integer_name.Goals as goal

pub returns-in-None : goal.returns-in-None
returns-in-None c = λ s h. subst (Finds (IsPlainName c.args.context.now c.args.name.now)) c.in-None.is c.in_ok-plain_name.ensures (t.Int s) h

pub returns-in-Some : goal.returns-in-Some
returns-in-Some c = integer_said c.args.context.now c.args.name.now c.in-Some.t (subst (Finds (IsPlainName c.args.context.now c.args.name.now)) c.in-Some.is c.in_ok-plain_name.ensures) c.integer.result c.integer.ensures
