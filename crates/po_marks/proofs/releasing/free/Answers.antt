use Rattle.std.proofs.Common.{◌∙◌, arith, ap}
use Rattle.po_marks.specs.Waiting.{Marking}
use Rattle.po_marks.proofs.Released.{freed_count, freed_holds, freed_long, freed_waits, room_here, there_here}
use Rattle.po_marks.proofs.releasing.free.Goals as goal

pub free_queue-requires : goal.free_queue-requires
free_queue-requires g c = there_here (g.R.Rulebook.meaning c.args.book.now) _ _ c.marks.view_is c.requires.waiting c.args.file c.requires.there c.requires.held

pub queue_at-requires : goal.queue_at-requires
queue_at-requires g c = let there = there_here (g.R.Rulebook.meaning c.args.book.now) _ _ c.marks.view_is c.requires.waiting c.args.file c.requires.there c.requires.held in let long = freed_long (g.R.Rulebook.meaning c.args.book.now) _ _ c.marks.view_is c.requires.waiting c.args.file c.requires.there c.requires.held c.free_queue.new.queues.items c.free_queue.ensures in omega (arith, there, long)

pub line_up-requires : goal.line_up-requires
line_up-requires g c = λ was now. let room = room_here (g.R.Rulebook.meaning c.args.book.now) _ _ c.marks.view_is c.requires.waiting c.args.file c.requires.there c.requires.held in omega (arith, room, c.marks.invariant.1)

pub invariant_of-marks : goal.invariant_of-marks
invariant_of-marks g c =
    let same = freed_count (g.R.Rulebook.meaning c.args.book.now) _ _ c.marks.view_is c.requires.waiting c.args.file c.requires.there c.requires.held c.free_queue.new.queues.items c.free_queue.ensures in
    let long = freed_long (g.R.Rulebook.meaning c.args.book.now) _ _ c.marks.view_is c.requires.waiting c.args.file c.requires.there c.requires.held c.free_queue.new.queues.items c.free_queue.ensures in
    (omega (arith, same, c.marks.invariant.0), omega (arith, long, c.marks.invariant.1, c.line_up.ensures.room))

pub returns-clause-marks : goal.returns-clause-marks
returns-clause-marks g c = ap (λ (z : Marking _ _). z.items) c.marks.view_is

pub returns-clause-waiting : goal.returns-clause-waiting
returns-clause-waiting g c = freed_waits (g.R.Rulebook.meaning c.args.book.now) _ _ c.marks.view_is c.requires.waiting c.args.file c.requires.there c.requires.held c.free_queue.new.queues.items c.free_queue.ensures c.queue_at.result.now c.queue_at.ensures c.is_ready-now.result c.is_ready-now.ensures c.line_up.new.line.items c.line_up.ensures.items

pub returns-clause-holds : goal.returns-clause-holds
returns-clause-holds g c = freed_holds (g.R.Rulebook.meaning c.args.book.now) _ _ c.marks.view_is c.requires.waiting c.args.file c.requires.there c.requires.held c.free_queue.new.queues.items c.free_queue.ensures
