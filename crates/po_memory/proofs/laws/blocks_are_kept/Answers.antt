use Rattle.po_memory.proofs.Came.{stores_keep, copies_keep, fills_keep, kills_keep, new_keeps, fresh_keeps}
use Rattle.po_memory.proofs.laws.blocks_are_kept.Goals as goal

pub returns : goal.returns
returns c = record { stores = stores_keep; copies = copies_keep; fills = fills_keep; kills = kills_keep; new = new_keeps; fresh = fresh_keeps }
