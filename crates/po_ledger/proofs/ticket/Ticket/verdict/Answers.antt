use Rattle.po_ledger.proofs.Added.{adds_seen}
use Rattle.po_ledger.proofs.Items.{item_there, tables_of, ticket_tables}
use Rattle.po_ledger.proofs.ticket.Ticket.verdict.Goals as goal

pub table_place-requires-clause-there : goal.table_place-requires-clause-there
table_place-requires-clause-there g c = item_there g.J.Naming.book _ _ c.args.self.now c.args.k c.item.result.now c.requires.same_book c.self.view_is c.self.invariant c.item.ensures

pub table_place-requires-clause-right : goal.table_place-requires-clause-right
table_place-requires-clause-right g c = tables_of g.J.Naming.book _ _ c.requires.same_book c.self.invariant.tables_right

pub invariant_of-self : goal.invariant_of-self
invariant_of-self g c = ticket_tables g.J.Naming.book _ _ _ _ c.requires.same_book c.self.invariant c.table_place.ensures.right

pub invariant_of-self-2 : goal.invariant_of-self-2
invariant_of-self-2 g c = ticket_tables g.J.Naming.book _ _ _ _ c.requires.same_book c.self.invariant c.table_place.ensures.right

pub returns-clause-tables : goal.returns-clause-tables
returns-clause-tables g c = adds_seen _ c.args.self.now c.args.k c.item.result.now c.table_place.new.tables c.self.view_is c.item.ensures c.table_place.ensures.adds
