use Rattle.po_lists.proofs.Results.{if_ok-map}
use Rattle.po_type_calls.proofs.Formatted.{is_read}
use Rattle.po_type_calls.proofs.reading.reads.Goals as goal

pub returns-in-Some-2 : goal.returns-in-Some-2
returns-in-Some-2 c =
    let strings = rw c.in-Some-2.is at c.in_ok-strings-in-Some.ensures in
    if_ok-map c.format_of.result (is_read c.args.target c.args.x.now c.in-Some.texts.now c.in-Some.ensures c.in-Some-2.values c.as_slice.result.now strings c.as_slice.ensures) c.format_of.ensures
