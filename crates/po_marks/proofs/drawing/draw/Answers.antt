use Rattle.std.proofs.Common.{◌≡◌, ◌∙◌, length, set, map, arith, ap, subst, sym, length-set}
use Rattle.std.specs.Prelude.{Some, slice_get}
use Rattle.po_core.specs.Core.{AreApart}
use Rattle.po_marks.specs.Waiting.{Marking, queue_len}
use Rattle.po_marks.specs.declared.queue.Queue.{Queue}
use Rattle.po_marks.proofs.Draws.{drawn_count, drawn_holds, drawn_known, drawn_less, drawn_once, drawn_remarks, drawn_takes, drawn_waits, queue_len-sum}
use Rattle.po_marks.proofs.Waits.{read_one}
use Rattle.po_marks.proofs.drawing.draw.Goals as goal

pub keep_each-requires-clause-items : goal.keep_each-requires-clause-items
keep_each-requires-clause-items g c = let room = c.requires.items c.swap_queue-queue.result (subst (λ (z : Marking _ _). slice_get z.queues c.args.file.0 ≡ Some c.swap_queue-queue.result) c.marks.view_is c.swap_queue-queue.ensures.before) in let sum = queue_len-sum c.swap_queue-queue.result in let back = ap length c.as_slice.ensures in omega (arith, room, sum, back)

pub keep_each-requires-clause-hand : goal.keep_each-requires-clause-hand
keep_each-requires-clause-hand g c = let room = c.requires.hand c.swap_queue-queue.result (subst (λ (z : Marking _ _). slice_get z.queues c.args.file.0 ≡ Some c.swap_queue-queue.result) c.marks.view_is c.swap_queue-queue.ensures.before) in let sum = queue_len-sum c.swap_queue-queue.result in let back = ap length c.as_slice.ensures in omega (arith, room, sum, back)

pub keep_each-requires-2-clause-items : goal.keep_each-requires-2-clause-items
keep_each-requires-2-clause-items g c = let room = c.requires.items c.swap_queue-queue.result (subst (λ (z : Marking _ _). slice_get z.queues c.args.file.0 ≡ Some c.swap_queue-queue.result) c.marks.view_is c.swap_queue-queue.ensures.before) in let sum = queue_len-sum c.swap_queue-queue.result in let back = ap length c.as_slice.ensures in let fresh = ap length c.as_slice-2.ensures in omega (arith, room, sum, back, fresh, c.keep_each.ensures.room)

pub keep_each-requires-2-clause-hand : goal.keep_each-requires-2-clause-hand
keep_each-requires-2-clause-hand g c = let room = c.requires.hand c.swap_queue-queue.result (subst (λ (z : Marking _ _). slice_get z.queues c.args.file.0 ≡ Some c.swap_queue-queue.result) c.marks.view_is c.swap_queue-queue.ensures.before) in let sum = queue_len-sum c.swap_queue-queue.result in let back = ap length c.as_slice.ensures in let fresh = ap length c.as_slice-2.ensures in omega (arith, room, sum, back, fresh, c.keep_each.ensures.hand_room)

pub set_each-requires-clause-there : goal.set_each-requires-clause-there
set_each-requires-clause-there g c = drawn_known (g.R.Rulebook.meaning c.args.book.now) _ _ c.marks.view_is c.requires.waiting c.args.file c.swap_queue-queue.result c.swap_queue-queue.ensures.before _ _ _ c.as_slice.result.now c.as_slice-2.result.now c.requires.none.0 c.as_slice.ensures c.as_slice-2.ensures c.keep_each.ensures.items c.keep_each-2.ensures.items c.as_slice-3.result.now c.as_slice-3.ensures

pub set_each-requires-clause-apart : goal.set_each-requires-clause-apart
set_each-requires-clause-apart g c = subst (λ (z : Marking _ _). AreApart (map (λ e. e.0) z.items)) (sym c.marks.view_is) c.requires.apart

pub set_each-requires-clause-once : goal.set_each-requires-clause-once
set_each-requires-clause-once g c = drawn_once (g.R.Rulebook.meaning c.args.book.now) _ _ c.marks.view_is c.requires.waiting c.args.file c.swap_queue-queue.result c.swap_queue-queue.ensures.before _ _ _ c.as_slice.result.now c.as_slice-2.result.now c.requires.none.0 c.as_slice.ensures c.as_slice-2.ensures c.keep_each.ensures.items c.keep_each-2.ensures.items c.as_slice-3.result.now c.as_slice-3.ensures

pub overflow_sub-marks : goal.overflow_sub-marks
overflow_sub-marks g c = let less = drawn_less (g.R.Rulebook.meaning c.args.book.now) _ _ c.marks.view_is c.requires.waiting c.args.file c.swap_queue-queue.result c.swap_queue-queue.ensures.before _ _ _ c.as_slice.result.now c.as_slice-2.result.now c.requires.none.0 c.as_slice.ensures c.as_slice-2.ensures c.keep_each.ensures.items c.keep_each-2.ensures.items c.as_slice-3.result.now c.as_slice-3.ensures c.requires.apart c.set_each.new.known.entries c.set_each.ensures c.swap_queue-queue.new.queues.items (c.swap_queue-queue.ensures.after ∙ ap (λ (z : Queue _). set c.marks.inside.queues.items c.args.file.0 z) c.empty_queue.ensures) in omega (arith, less, c.marks.invariant.0, c.len.ensures)

pub invariant_of-marks : goal.invariant_of-marks
invariant_of-marks g c =
    let less = drawn_less (g.R.Rulebook.meaning c.args.book.now) _ _ c.marks.view_is c.requires.waiting c.args.file c.swap_queue-queue.result c.swap_queue-queue.ensures.before _ _ _ c.as_slice.result.now c.as_slice-2.result.now c.requires.none.0 c.as_slice.ensures c.as_slice-2.ensures c.keep_each.ensures.items c.keep_each-2.ensures.items c.as_slice-3.result.now c.as_slice-3.ensures c.requires.apart c.set_each.new.known.entries c.set_each.ensures c.swap_queue-queue.new.queues.items (c.swap_queue-queue.ensures.after ∙ ap (λ (z : Queue _). set c.marks.inside.queues.items c.args.file.0 z) c.empty_queue.ensures) in
    let long = ap length c.swap_queue-queue.ensures.after ∙ length-set _ _ _ in
    (omega (arith, less, c.marks.invariant.0, c.len.ensures), omega (arith, long, c.marks.invariant.1, c.leave_front.ensures.room))

pub returns-clause-takes : goal.returns-clause-takes
returns-clause-takes g c = drawn_takes (g.R.Rulebook.meaning c.args.book.now) _ _ c.marks.view_is c.requires.waiting c.args.file c.swap_queue-queue.result c.swap_queue-queue.ensures.before _ _ _ c.as_slice.result.now c.as_slice-2.result.now c.requires.none.0 c.as_slice.ensures c.as_slice-2.ensures c.keep_each.ensures.items c.keep_each-2.ensures.items

pub returns-clause-count : goal.returns-clause-count
returns-clause-count g c = λ q at. drawn_count (g.R.Rulebook.meaning c.args.book.now) _ _ c.marks.view_is c.requires.waiting c.args.file c.swap_queue-queue.result c.swap_queue-queue.ensures.before _ _ _ c.as_slice.result.now c.as_slice-2.result.now c.requires.none.0 c.as_slice.ensures c.as_slice-2.ensures c.keep_each.ensures.items c.keep_each-2.ensures.items ∙ ap queue_len (read_one _ c.args.file.0 c.swap_queue-queue.result q (subst (λ (z : Marking _ _). slice_get z.queues c.args.file.0 ≡ Some c.swap_queue-queue.result) c.marks.view_is c.swap_queue-queue.ensures.before) at)

pub returns-clause-marks : goal.returns-clause-marks
returns-clause-marks g c = drawn_remarks (g.R.Rulebook.meaning c.args.book.now) _ _ c.marks.view_is c.requires.waiting c.args.file c.swap_queue-queue.result c.swap_queue-queue.ensures.before _ _ _ c.as_slice.result.now c.as_slice-2.result.now c.requires.none.0 c.as_slice.ensures c.as_slice-2.ensures c.keep_each.ensures.items c.keep_each-2.ensures.items c.as_slice-3.result.now c.as_slice-3.ensures c.requires.apart c.set_each.new.known.entries c.set_each.ensures

pub returns-clause-waiting : goal.returns-clause-waiting
returns-clause-waiting g c = drawn_waits (g.R.Rulebook.meaning c.args.book.now) _ _ c.marks.view_is c.requires.waiting c.args.file c.swap_queue-queue.result c.swap_queue-queue.ensures.before _ _ _ c.as_slice.result.now c.as_slice-2.result.now c.requires.none.0 c.as_slice.ensures c.as_slice-2.ensures c.keep_each.ensures.items c.keep_each-2.ensures.items c.as_slice-3.result.now c.as_slice-3.ensures c.requires.apart c.set_each.new.known.entries c.set_each.ensures c.swap_queue-queue.new.queues.items (c.swap_queue-queue.ensures.after ∙ ap (λ (z : Queue _). set c.marks.inside.queues.items c.args.file.0 z) c.empty_queue.ensures) c.leave_front.new.line.items c.leave_front.ensures.items c.requires.first

pub returns-clause-holds : goal.returns-clause-holds
returns-clause-holds g c = drawn_holds (g.R.Rulebook.meaning c.args.book.now) _ _ c.marks.view_is c.requires.waiting c.args.file c.swap_queue-queue.result c.swap_queue-queue.ensures.before _ _ _ c.as_slice.result.now c.as_slice-2.result.now c.requires.none.0 c.as_slice.ensures c.as_slice-2.ensures c.keep_each.ensures.items c.keep_each-2.ensures.items c.as_slice-3.result.now c.as_slice-3.ensures c.requires.apart c.set_each.new.known.entries c.set_each.ensures c.swap_queue-queue.new.queues.items (c.swap_queue-queue.ensures.after ∙ ap (λ (z : Queue _). set c.marks.inside.queues.items c.args.file.0 z) c.empty_queue.ensures)
