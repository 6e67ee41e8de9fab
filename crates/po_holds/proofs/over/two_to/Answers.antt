use Rattle.po_holds.proofs.Widths.{one_shifted}
use Rattle.po_holds.proofs.over.two_to.Goals as goal

pub returns : goal.returns
returns c = one_shifted c.args.n c.requires
