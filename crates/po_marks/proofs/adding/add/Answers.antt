use Rattle.std.proofs.Common.{◌∙◌, arith, inr, sym}
use Rattle.po_marks.proofs.Added.{added, added_known, added_waits, new_apart, new_count, new_file, new_long, new_room}
use Rattle.po_marks.proofs.adding.add.Goals as goal

pub queue_at-requires-2 : goal.queue_at-requires-2
queue_at-requires-2 g c = new_file (g.R.Rulebook.meaning c.args.book.now) c.args.o _ _ c.marks.view_is c.requires.waiting c.file_of-file.result c.file_of-file.ensures c.queue_at.result.now c.queue_at.ensures c.push_fresh.new.queues.items c.in_ok-push_fresh.ensures.ok

pub line_up-requires : goal.line_up-requires
line_up-requires g c = λ was now. let room = new_room (g.R.Rulebook.meaning c.args.book.now) c.args.o _ _ c.marks.view_is c.requires.waiting c.file_of-file.result c.file_of-file.ensures c.queue_at.result.now c.queue_at.ensures (sym c.is_ready-before.ensures ∙ was) in omega (arith, room, c.marks.invariant.1)

pub counted-marks-inside-requires : goal.counted-marks-inside-requires
counted-marks-inside-requires g c =
    let all = added_known (g.R.Rulebook.meaning c.args.book.now) c.args.o _ _ c.marks.view_is c.requires.waiting c.file_of-file.result c.file_of-file.ensures c.queue_at.result.now c.queue_at.ensures c.push_fresh.new.queues.items c.in_ok-push_fresh.ensures.ok c.requires.there c.is_known.result c.is_known.ensures c.if-is_known.false c.insert_new.new.known.entries c.make_room.new.known.entries c.make_room.ensures.entries c.insert_new.ensures c.queue_at-2.result.now c.queue_at-2.ensures c.is_ready-before.result c.is_ready-now.result c.is_ready-before.ensures c.is_ready-now.ensures c.line_up.new.line.items c.line_up.ensures.items in
    let one = new_count (g.R.Rulebook.meaning c.args.book.now) c.args.o _ _ c.marks.view_is c.requires.waiting c.file_of-file.result c.file_of-file.ensures c.queue_at.result.now c.queue_at.ensures c.push_fresh.new.queues.items c.in_ok-push_fresh.ensures.ok in
    omega (arith, all, one, c.marks.invariant.0, c.len.ensures.len)

pub invariant_of-marks-2 : goal.invariant_of-marks-2
invariant_of-marks-2 g c =
    let one = new_count (g.R.Rulebook.meaning c.args.book.now) c.args.o _ _ c.marks.view_is c.requires.waiting c.file_of-file.result c.file_of-file.ensures c.queue_at.result.now c.queue_at.ensures c.push_fresh.new.queues.items c.in_ok-push_fresh.ensures.ok in
    let long = new_long (g.R.Rulebook.meaning c.args.book.now) c.args.o _ _ c.marks.view_is c.requires.waiting c.file_of-file.result c.file_of-file.ensures c.queue_at.result.now c.queue_at.ensures c.push_fresh.new.queues.items c.in_ok-push_fresh.ensures.ok in
    (omega (arith, one, c.marks.invariant.0, c.counted-marks-inside.ensures), omega (arith, long, c.marks.invariant.1, c.line_up.ensures.room))

pub returns-clause-ok : goal.returns-clause-ok
returns-clause-ok g c = inr (added (g.R.Rulebook.meaning c.args.book.now) c.args.o _ _ c.marks.view_is c.requires.waiting c.file_of-file.result c.file_of-file.ensures c.queue_at.result.now c.queue_at.ensures c.push_fresh.new.queues.items c.in_ok-push_fresh.ensures.ok c.requires.there c.is_known.result c.is_known.ensures c.if-is_known.false c.insert_new.new.known.entries c.make_room.new.known.entries c.make_room.ensures.entries c.insert_new.ensures c.queue_at-2.result.now c.queue_at-2.ensures c.is_ready-before.result c.is_ready-now.result c.is_ready-before.ensures c.is_ready-now.ensures c.line_up.new.line.items c.line_up.ensures.items)

pub returns-clause-waiting : goal.returns-clause-waiting
returns-clause-waiting g c = added_waits (g.R.Rulebook.meaning c.args.book.now) c.args.o _ _ c.marks.view_is c.requires.waiting c.file_of-file.result c.file_of-file.ensures c.queue_at.result.now c.queue_at.ensures c.push_fresh.new.queues.items c.in_ok-push_fresh.ensures.ok c.requires.there c.is_known.result c.is_known.ensures c.if-is_known.false c.insert_new.new.known.entries c.make_room.new.known.entries c.make_room.ensures.entries c.insert_new.ensures c.queue_at-2.result.now c.queue_at-2.ensures c.is_ready-before.result c.is_ready-now.result c.is_ready-before.ensures c.is_ready-now.ensures c.line_up.new.line.items c.line_up.ensures.items

pub returns-clause-apart : goal.returns-clause-apart
returns-clause-apart g c = new_apart (g.R.Rulebook.meaning c.args.book.now) c.args.o _ _ c.marks.view_is c.requires.waiting c.file_of-file.result c.file_of-file.ensures c.queue_at.result.now c.queue_at.ensures c.push_fresh.new.queues.items c.in_ok-push_fresh.ensures.ok c.requires.there c.is_known.result c.is_known.ensures c.if-is_known.false c.insert_new.new.known.entries c.make_room.new.known.entries c.make_room.ensures.entries c.insert_new.ensures c.requires.apart
