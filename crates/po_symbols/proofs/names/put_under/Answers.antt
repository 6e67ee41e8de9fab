use Rattle.po_symbols.proofs.Named.{put_named}
use Rattle.po_symbols.proofs.names.put_under.Goals as goal

pub returns-in-Ok : goal.returns-in-Ok
returns-in-Ok g c = put_named c.args.map.now c.insert.new.self _ _ _ c.in_ok-share.ensures c.in-Ok.ensures.updates
