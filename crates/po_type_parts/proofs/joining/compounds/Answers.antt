use Rattle.po_lists.proofs.Results.{if_ok-map}
use Rattle.po_choices.proofs.Whether.{found_as}
use Rattle.po_type_parts.proofs.JoinedTypes.{compounded, converted, compounds_alone}
use Rattle.po_type_parts.proofs.joining.compounds.Goals as goal

pub returns-then-not-is_compound : goal.returns-then-not-is_compound
returns-then-not-is_compound c = compounds_alone c.args.context.now c.args.op c.args.t.now c.args.v.now c.if-not-is_compound.ensures

pub returns-in-Int : goal.returns-in-Int
returns-in-Int c = if_ok-map c.converted.result (λ o. found_as o (compounded c.args.context.now c.args.op c.args.t.now c.args.v.now c.in-Int.field-0 c.in-Int.is c.if-not-is_compound.ensures) (converted c.args.context.now c.args.op c.args.t.now c.args.v.now)) c.converted.ensures
