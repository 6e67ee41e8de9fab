use Rattle.po_marks.proofs.Marked.{no_verdict, verdict_tells}
use Rattle.po_marks.proofs.entries.has_verdict.Goals as goal

pub returns-in-Some : goal.returns-in-Some
returns-in-Some g c = verdict_tells _ c.requires _ c.in-Some.mark c.is_settled.result c.in-Some.ensures.some c.is_settled.ensures

pub returns-in-None : goal.returns-in-None
returns-in-None g c = no_verdict _ _ c.in-None.ensures.none
