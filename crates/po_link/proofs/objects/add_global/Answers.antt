use Rattle.std.proofs.Common.{sym, ap, ◌∙◌}
use Rattle.std.specs.Prelude.{option_copied}
use Rattle.po_lists.proofs.Results.{on_ok-map}
use Rattle.po_link.proofs.OneMore.{local_more, known_more, first_more}
use Rattle.po_link.proofs.objects.add_global.Goals as goal

pub returns-then-global : goal.returns-then-global
returns-then-global c = λ all place shared at h.
    on_ok-map c.add_local.result (λ a. local_more all place c.args.objects.now c.add_local.new.objects c.args.global.now at c.if-global.true a h) c.add_local.ensures

pub returns-in-Some : goal.returns-in-Some
returns-in-Some c = λ all place shared at h.
    on_ok-map c.add_known.result (λ a. known_more all place _ c.args.objects.now c.add_known.new.objects c.args.global.now at c.if-global.false (sym c.get.ensures.value ∙ ap option_copied c.in-Some.is) a h) c.add_known.ensures

pub returns : goal.returns
returns c = λ all place shared at h.
    on_ok-map c.add_first.result (λ a. first_more all place c.args.objects.now c.add_first.new.objects c.args.global.now c.under.result.now at c.if-global.false
    (sym c.get.ensures.value ∙ ap option_copied c.in_default.is) (c.under.ensures ∙ shared.each c.args.global.now.name) a h) c.add_first.ensures
