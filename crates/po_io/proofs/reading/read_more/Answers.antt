use Rattle.std.proofs.Common.{rules, ◌≡◌, length}
use Rattle.po_io.proofs.Whole.{front_more}
use Rattle.po_io.proofs.reading.read_more.Goals as goal

pub returns-clause-front : goal.returns-clause-front
returns-clause-front g c =
    let items = c.in_ok-extend_from_slice.ensures.items in
    let held = c.in_ok-count.ensures.held c.args.name.now in
    let here : c.len.result ≡ length c.args.read.now.items = search rules in
    rw (held, items) (front_more _ c.args.read.now.items c.args.buffer.now c.read.new.into c.len.result c.in_ok-count.count here c.requires.front c.in_ok-count.ensures.bytes)
