use Rattle.po_symbols.proofs.Named.{other_named}
use Rattle.po_symbols.proofs.names.take_under.Goals as goal

pub returns-in-Some-clause-others : goal.returns-in-Some-clause-others
returns-in-Some-clause-others g c = other_named c.args.map.now c.remove.new.self _ _ c.in-Some.ensures.updates
