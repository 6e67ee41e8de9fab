use Rattle.std.proofs.Common.{◌∙◌, ap}
use Rattle.std.specs.Prelude.{Some}
use Rattle.po_tree.proofs.Sets.{adds_along, adds_none}
use Rattle.po_tree.proofs.Results.{if_ok-map}
use Rattle.po_tree.proofs.names.add_tag.Goals as goal

pub returns-in-Some : goal.returns-in-Some
returns-in-Some c = if_ok-map c.add.result (λ u. adds_along (λ x q. c.in-Some.is ∙ ap Some q) (λ x q. cc)) c.add.ensures.adds

pub returns-in-None : goal.returns-in-None
returns-in-None c = adds_none _ (λ x q. cc)
