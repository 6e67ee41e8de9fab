use Rattle.std.proofs.Common.{subst}
use Rattle.po_typed.specs.Expressions.{IsPlainName}
use Rattle.po_constants.specs.Found.{Finds}
use Rattle.po_choices.proofs.ZeroLeaves.{no_name, no_pointer_named, void_pointer}
use Rattle.po_choices.proofs.zeros.is_void_pointer_name.Goals as goal

pub returns-in-None : goal.returns-in-None
returns-in-None c = no_name c.args.context.now c.args.name.now (subst (Finds (IsPlainName c.args.context.now c.args.name.now)) c.in-None.is c.in_ok-plain_name.ensures)

pub returns-in-None-pointee : goal.returns-in-None-pointee
returns-in-None-pointee c =
    let said = subst (Finds (IsPlainName c.args.context.now c.args.name.now)) c.in-Some.is c.in_ok-plain_name.ensures in
    no_pointer_named c.args.context.now c.args.name.now c.in-Some.t said c.in-None-pointee.ensures

pub returns : goal.returns
returns c =
    let said = subst (Finds (IsPlainName c.args.context.now c.args.name.now)) c.in-Some.is c.in_ok-plain_name.ensures in
    void_pointer c.args.context.now c.args.name.now c.in-Some.t said c.in-Some-pointee.to.now c.in-Some-pointee.ensures c.is_void.result c.is_void.ensures
