use Rattle.ledger_tests.proofs.solving.solve_book_by_lists.Given as goal

abbrev pub ghosts-solve_lists : goal.ghosts-solve_lists
ghosts-solve_lists g a = record { book = g.R.Rulebook.meaning a.book.now }
