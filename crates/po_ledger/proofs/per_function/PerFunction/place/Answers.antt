use Rattle.std.proofs.Common.{subst}
use Rattle.po_ledger.specs.Made.{HasTable}
use Rattle.po_ledger.proofs.Tables.{found_at, none_found}
use Rattle.po_ledger.proofs.per_function.PerFunction.place.Goals as goal

pub returns-clause-found : goal.returns-clause-found
returns-clause-found g c = rw (← c.self.view_is) (found_at c.self.inside.values.entries c.args.f _ c.get_index_of.ensures.index c.get_index_of.ensures.within)

pub returns-clause-none : goal.returns-clause-none
returns-clause-none g c = rw (← c.self.view_is) (none_found c.self.inside.values.entries c.args.f _ c.get_index_of.ensures.index)
