use Rattle.std.proofs.Common.{ap, ◌∙◌, drop}
use Rattle.po_scopes.proofs.Blocks.{closed}
use Rattle.po_scopes.proofs.scopes.Scopes.close.Goals as goal

pub returns : goal.returns
returns c = closed c.last_taken.result c.self.inside.scopes.items c.last_taken.new.scopes.items c.last_taken.ensures ∙ ap (drop 1) c.self.view_is
