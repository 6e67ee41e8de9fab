use Rattle.std.proofs.Common.{◌∙◌, arith, ap, subst, sym}
use Rattle.std.specs.Prelude.{Bool}
use Rattle.po_marks.specs.Waiting.{AddsNew, Marking, is_ready, line_up}
use Rattle.po_marks.proofs.Undone.{left_file, popped_count, popped_file, popped_long, popped_there, some_known, undone}
use Rattle.po_marks.proofs.undoing.forget_last.Goals as goal

pub pop_last-o-requires : goal.pop_last-o-requires
pop_last-o-requires g c = some_known _ c.requires.0 _ c.requires.1 (subst (λ (z : Marking _ _). AddsNew (g.R.Rulebook.meaning c.args.book.now) c.requires.1 c.requires.0 z) (sym c.marks.view_is) c.requires.2)

pub file_of-file-requires : goal.file_of-file-requires
file_of-file-requires g c = popped_there _ c.requires.0 _ c.requires.1 (subst (λ (z : Marking _ _). AddsNew (g.R.Rulebook.meaning c.args.book.now) c.requires.1 c.requires.0 z) (sym c.marks.view_is) c.requires.2) c.pop_last-o.result c.pop_last-o.ensures.0 _ c.pop_last-o.ensures.1

pub queue_at-requires : goal.queue_at-requires
queue_at-requires g c = popped_file _ c.requires.0 _ c.requires.1 (subst (λ (z : Marking _ _). AddsNew (g.R.Rulebook.meaning c.args.book.now) c.requires.1 c.requires.0 z) (sym c.marks.view_is) c.requires.2) c.pop_last-o.result c.pop_last-o.ensures.0 _ c.pop_last-o.ensures.1 c.file_of-file.result c.file_of-file.ensures

pub pop_fresh-requires : goal.pop_fresh-requires
pop_fresh-requires g c = popped_file _ c.requires.0 _ c.requires.1 (subst (λ (z : Marking _ _). AddsNew (g.R.Rulebook.meaning c.args.book.now) c.requires.1 c.requires.0 z) (sym c.marks.view_is) c.requires.2) c.pop_last-o.result c.pop_last-o.ensures.0 _ c.pop_last-o.ensures.1 c.file_of-file.result c.file_of-file.ensures

pub queue_at-requires-2 : goal.queue_at-requires-2
queue_at-requires-2 g c = left_file _ c.requires.0 _ c.requires.1 (subst (λ (z : Marking _ _). AddsNew (g.R.Rulebook.meaning c.args.book.now) c.requires.1 c.requires.0 z) (sym c.marks.view_is) c.requires.2) c.pop_last-o.result c.pop_last-o.ensures.0 _ c.pop_last-o.ensures.1 c.file_of-file.result c.file_of-file.ensures c.pop_fresh.new.queues.items c.pop_fresh.ensures

pub overflow_sub-marks : goal.overflow_sub-marks
overflow_sub-marks g c =
    let less = popped_count _ c.requires.0 _ c.requires.1 (subst (λ (z : Marking _ _). AddsNew (g.R.Rulebook.meaning c.args.book.now) c.requires.1 c.requires.0 z) (sym c.marks.view_is) c.requires.2) c.pop_last-o.result c.pop_last-o.ensures.0 _ c.pop_last-o.ensures.1 c.file_of-file.result c.file_of-file.ensures c.pop_fresh.new.queues.items c.pop_fresh.ensures in
    omega (arith, less, c.marks.invariant.0)

pub invariant_of-marks : goal.invariant_of-marks
invariant_of-marks g c =
    let less = popped_count _ c.requires.0 _ c.requires.1 (subst (λ (z : Marking _ _). AddsNew (g.R.Rulebook.meaning c.args.book.now) c.requires.1 c.requires.0 z) (sym c.marks.view_is) c.requires.2) c.pop_last-o.result c.pop_last-o.ensures.0 _ c.pop_last-o.ensures.1 c.file_of-file.result c.file_of-file.ensures c.pop_fresh.new.queues.items c.pop_fresh.ensures in
    let long = popped_long _ c.requires.0 _ c.requires.1 (subst (λ (z : Marking _ _). AddsNew (g.R.Rulebook.meaning c.args.book.now) c.requires.1 c.requires.0 z) (sym c.marks.view_is) c.requires.2) c.pop_last-o.result c.pop_last-o.ensures.0 _ c.pop_last-o.ensures.1 c.file_of-file.result c.file_of-file.ensures c.pop_fresh.new.queues.items c.pop_fresh.ensures in
    (omega (arith, less, c.marks.invariant.0), omega (arith, long, c.marks.invariant.1, c.leave_line.ensures.room))

pub returns : goal.returns
returns g c = λ m o a. undone _ m _ o (subst (λ (z : Marking _ _). AddsNew (g.R.Rulebook.meaning c.args.book.now) o m z) (sym c.marks.view_is) a) c.pop_last-o.result c.pop_last-o.ensures.0 _ c.pop_last-o.ensures.1 c.file_of-file.result c.file_of-file.ensures c.pop_fresh.new.queues.items c.pop_fresh.ensures c.queue_at.result.now c.queue_at-2.result.now c.queue_at.ensures c.queue_at-2.ensures c.leave_line.new.line.items (λ f l h. c.leave_line.ensures.items f l (h ∙ (ap (λ (z : Bool). line_up z (is_ready c.queue_at.result.now) f l) (sym c.is_ready-before.ensures) ∙ ap (λ (z : Bool). line_up c.is_ready-before.result z f l) (sym c.is_ready-now.ensures))))
