use Rattle.std.proofs.Common.{[]}
use Rattle.po_lists.proofs.Results.{if_ok-map}
use Rattle.po_lowering.specs.Temporaries.{State}
use Rattle.po_draft.proofs.draft.Draft.take.Goals as goal

pub returns-clause-takes : goal.returns-clause-takes
returns-clause-takes c =
    let d = c.self.inside in
    let rest : State = record { regs = []; taken = []; texts = d.texts; declared = d.declared; labels = d.labels; cases = d.cases; default_case = d.default_case } in
    rw (← c.self.view_is) (if_ok-map c.take.result (λ r h. h rest) c.take.ensures)
