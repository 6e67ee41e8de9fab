use Rattle.po_worker.proofs.solving.solve_book_alone.Given as goal

abbrev pub ghosts-solve_named_alone : goal.ghosts-solve_named_alone
ghosts-solve_named_alone g a = record { book = g.R.Rulebook.meaning a.book.now }
