use Rattle.std.proofs.Common.{◌≡◌, ◌∙◌, map, arith, ap, subst, sym}
use Rattle.po_core.specs.Core.{AreApart}
use Rattle.po_marks.specs.Waiting.{Marking}
use Rattle.po_marks.proofs.Released.{back_count, back_holds, back_known, back_long, back_most, back_once, back_remarks, back_waits, room_here, there_here}
use Rattle.po_marks.proofs.releasing.put_back.Goals as goal

pub only_taken-taken-requires : goal.only_taken-taken-requires
only_taken-taken-requires g c = subst (λ (z : Marking _ _). AreApart (map (λ e. e.0) z.items)) (sym c.marks.view_is) c.requires.apart

pub set_each-requires-clause-there : goal.set_each-requires-clause-there
set_each-requires-clause-there g c = back_known (g.R.Rulebook.meaning c.args.book.now) _ _ c.marks.view_is c.requires.waiting c.args.file c.requires.there c.requires.held c.requires.apart c.args.items c.only_taken-taken.result c.requires.of_file c.requires.once c.only_taken-taken.ensures.all c.only_taken-taken.ensures.once c.as_slice.result.now c.as_slice.ensures

pub set_each-requires-clause-apart : goal.set_each-requires-clause-apart
set_each-requires-clause-apart g c = subst (λ (z : Marking _ _). AreApart (map (λ e. e.0) z.items)) (sym c.marks.view_is) c.requires.apart

pub set_each-requires-clause-once : goal.set_each-requires-clause-once
set_each-requires-clause-once g c = back_once (g.R.Rulebook.meaning c.args.book.now) _ _ c.marks.view_is c.requires.waiting c.args.file c.requires.there c.requires.held c.requires.apart c.args.items c.only_taken-taken.result c.requires.of_file c.requires.once c.only_taken-taken.ensures.all c.only_taken-taken.ensures.once c.as_slice.result.now c.as_slice.ensures

pub counted-marks-inside-requires : goal.counted-marks-inside-requires
counted-marks-inside-requires g c = let most = back_most (g.R.Rulebook.meaning c.args.book.now) _ _ c.marks.view_is c.requires.waiting c.args.file c.requires.there c.requires.held c.requires.apart c.args.items c.only_taken-taken.result c.requires.of_file c.requires.once c.only_taken-taken.ensures.all c.only_taken-taken.ensures.once c.as_slice.result.now c.as_slice.ensures c.set_each.new.known.entries c.set_each.ensures in omega (arith, most, c.marks.invariant.0, c.len.ensures, c.len-2.ensures.len)

pub put_to_back-requires : goal.put_to_back-requires
put_to_back-requires g c = there_here (g.R.Rulebook.meaning c.args.book.now) _ _ c.marks.view_is c.requires.waiting c.args.file c.requires.there c.requires.held

pub queue_at-requires : goal.queue_at-requires
queue_at-requires g c = let there = there_here (g.R.Rulebook.meaning c.args.book.now) _ _ c.marks.view_is c.requires.waiting c.args.file c.requires.there c.requires.held in let long = back_long (g.R.Rulebook.meaning c.args.book.now) _ _ c.marks.view_is c.requires.waiting c.args.file c.requires.there c.requires.held c.requires.apart c.args.items c.only_taken-taken.result c.requires.of_file c.requires.once c.only_taken-taken.ensures.all c.only_taken-taken.ensures.once c.as_slice.result.now c.as_slice.ensures c.set_each.new.known.entries c.set_each.ensures c.put_to_back.new.queues.items c.put_to_back.ensures in omega (arith, there, long)

pub line_up-requires : goal.line_up-requires
line_up-requires g c = λ was now. let room = room_here (g.R.Rulebook.meaning c.args.book.now) _ _ c.marks.view_is c.requires.waiting c.args.file c.requires.there c.requires.held in omega (arith, room, c.marks.invariant.1)

pub invariant_of-marks : goal.invariant_of-marks
invariant_of-marks g c =
    let more = back_count (g.R.Rulebook.meaning c.args.book.now) _ _ c.marks.view_is c.requires.waiting c.args.file c.requires.there c.requires.held c.requires.apart c.args.items c.only_taken-taken.result c.requires.of_file c.requires.once c.only_taken-taken.ensures.all c.only_taken-taken.ensures.once c.as_slice.result.now c.as_slice.ensures c.set_each.new.known.entries c.set_each.ensures c.put_to_back.new.queues.items c.put_to_back.ensures in
    let long = back_long (g.R.Rulebook.meaning c.args.book.now) _ _ c.marks.view_is c.requires.waiting c.args.file c.requires.there c.requires.held c.requires.apart c.args.items c.only_taken-taken.result c.requires.of_file c.requires.once c.only_taken-taken.ensures.all c.only_taken-taken.ensures.once c.as_slice.result.now c.as_slice.ensures c.set_each.new.known.entries c.set_each.ensures c.put_to_back.new.queues.items c.put_to_back.ensures in
    (omega (arith, more, c.marks.invariant.0, c.counted-marks-inside.ensures, c.len.ensures), omega (arith, long, c.marks.invariant.1, c.line_up.ensures.room))

pub returns-clause-marks : goal.returns-clause-marks
returns-clause-marks g c = back_remarks (g.R.Rulebook.meaning c.args.book.now) _ _ c.marks.view_is c.requires.waiting c.args.file c.requires.there c.requires.held c.requires.apart c.args.items c.only_taken-taken.result c.requires.of_file c.requires.once c.only_taken-taken.ensures.all c.only_taken-taken.ensures.once c.as_slice.result.now c.as_slice.ensures c.set_each.new.known.entries c.set_each.ensures

pub returns-clause-waiting : goal.returns-clause-waiting
returns-clause-waiting g c = back_waits (g.R.Rulebook.meaning c.args.book.now) _ _ c.marks.view_is c.requires.waiting c.args.file c.requires.there c.requires.held c.requires.apart c.args.items c.only_taken-taken.result c.requires.of_file c.requires.once c.only_taken-taken.ensures.all c.only_taken-taken.ensures.once c.as_slice.result.now c.as_slice.ensures c.set_each.new.known.entries c.set_each.ensures c.put_to_back.new.queues.items c.put_to_back.ensures c.queue_at.result.now c.queue_at.ensures c.is_ready-now.result c.is_ready-now.ensures c.line_up.new.line.items c.line_up.ensures.items

pub returns-clause-holds : goal.returns-clause-holds
returns-clause-holds g c = back_holds (g.R.Rulebook.meaning c.args.book.now) _ _ c.marks.view_is c.requires.waiting c.args.file c.requires.there c.requires.held c.requires.apart c.args.items c.only_taken-taken.result c.requires.of_file c.requires.once c.only_taken-taken.ensures.all c.only_taken-taken.ensures.once c.as_slice.result.now c.as_slice.ensures c.set_each.new.known.entries c.set_each.ensures c.put_to_back.new.queues.items c.put_to_back.ensures
