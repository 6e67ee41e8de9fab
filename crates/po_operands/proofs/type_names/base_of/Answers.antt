use Rattle.std.proofs.Common.{sym, subst}
use Rattle.po_types.specs.declared.ctype.CType.{CType}
use Rattle.po_lists.proofs.Results.{if_ok-map}
use Rattle.po_typed.specs.BaseTypes.{IsWordType}
use Rattle.po_typed.specs.Expressions.{base_words}
use Rattle.po_operands.proofs.Told.{finds_as}
use Rattle.po_operands.proofs.TypeNames.{no_base, base_from, from_base}
use Rattle.po_operands.proofs.type_names.base_of.Goals as goal

pub returns-in-Some : goal.returns-in-Some
returns-in-Some c = base_words (subst (λ z. IsWordType z c.args.specs.now c.in-Some.t) c.target.ensures c.in-Some.ensures)

pub returns-in-None-the_other : goal.returns-in-None-the_other
returns-in-None-the_other c = no_base c.args.context.now c.args.specs.now (λ t h. c.in-None.ensures t (subst (λ z. IsWordType z c.args.specs.now t) (sym c.target.ensures) h)) c.in-None-the_other.ensures

pub returns-in-Some-the_other : goal.returns-in-Some-the_other
returns-in-Some-the_other c =
    let no_words : (t : CType) → IsWordType c.args.context.now.target c.args.specs.now t → ⊥ = λ t h. c.in-None.ensures t (subst (λ z. IsWordType z c.args.specs.now t) (sym c.target.ensures) h) in
    if_ok-map c.in_force.result (λ o. finds_as o (base_from c.args.context.now c.args.specs.now no_words c.in-Some-the_other.specifier.now c.in-Some-the_other.ensures) (from_base c.args.context.now c.args.specs.now no_words c.in-Some-the_other.specifier.now c.in-Some-the_other.ensures)) c.in_force.ensures
