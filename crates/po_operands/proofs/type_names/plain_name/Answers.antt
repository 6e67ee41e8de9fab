use Rattle.po_lists.proofs.Results.{if_ok-map}
use Rattle.po_operands.proofs.Told.{finds_as}
use Rattle.po_operands.proofs.type_names.plain_name.Goals as goal

pub returns : goal.returns
returns c = if_ok-map c.starred_base.result (λ o. finds_as o (λ t h. (h, c.if-not-is_plain.ensures)) (λ t h. h.0)) c.starred_base.ensures
