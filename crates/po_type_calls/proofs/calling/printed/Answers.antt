use Rattle.po_lists.proofs.Results.{if_ok-map}
use Rattle.po_type_calls.proofs.CalledFunctions.{nothing_printed, is_printed}
use Rattle.po_type_calls.proofs.calling.printed.Goals as goal

pub returns-in-None : goal.returns-in-None
returns-in-None c = nothing_printed c.args.context.now c.args.xs.now c.args.vs.now c.target.result c.target.ensures (rw c.in-None.is at c.in_ok-formats.ensures)

pub returns-in-Some : goal.returns-in-Some
returns-in-Some c =
    let reads = rw c.in-Some.is at c.in_ok-formats.ensures in
    if_ok-map c.prints.result (is_printed c.args.context.now c.args.xs.now c.args.vs.now c.target.result c.target.ensures c.format_is_one.ensures c.in-Some.specs c.as_slice.result.now reads c.as_slice.ensures c.target-in-Some.result c.target-in-Some.ensures) c.prints.ensures
