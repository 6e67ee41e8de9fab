use Rattle.po_type_calls.proofs.calling.calls_printf.Goals as goal

pub returns-in-None : goal.returns-in-None
returns-in-None c = let none = rw c.in-None.is at c.in_ok-printed.ensures in λ p h. none p.conversions h.printed
