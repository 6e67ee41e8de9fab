use Rattle.po_memory.proofs.Asked.{load_asks, store_asks}
use Rattle.po_memory.proofs.laws.accesses_ask_their_predicates.Goals as goal

pub returns : goal.returns
returns c = record { load = load_asks; store = store_asks }
