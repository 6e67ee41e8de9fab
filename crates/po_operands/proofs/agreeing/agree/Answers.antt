use Rattle.std.proofs.Common.{refl, sym, ◌∙◌}
use Rattle.po_operands.proofs.Told.{decided}
use Rattle.po_operands.proofs.Agreement.{equal_types, arrays_agree, one_element_type}
use Rattle.po_operands.proofs.agreeing.agree.Goals as goal

pub returns-then-same : goal.returns-then-same
returns-then-same c = equal_types c.args.t.now c.args.u.now (c.if-same.ensures.0 refl)

pub returns-else-not-lacks_a_size : goal.returns-else-not-lacks_a_size
returns-else-not-lacks_a_size c = decided c.same-in-Array-u.result c.same-in-Array-u.ensures
    (λ q. arrays_agree c.args.t.now c.args.u.now c.in-Array.element c.in-Array-u.other c.in-Array.m c.in-Array-u.n c.in-Array.is c.in-Array-u.is c.if-not-lacks_a_size.ensures (sym c.get.ensures ∙ q ∙ c.get-in-Array-u.ensures))
    (λ n. one_element_type c.args.t.now c.args.u.now c.in-Array.element c.in-Array-u.other c.in-Array.m c.in-Array-u.n c.in-Array.is c.in-Array-u.is (λ q. let f = c.if-same.ensures.1 q in absurd cc) (λ q. n (c.get.ensures ∙ q ∙ sym c.get-in-Array-u.ensures)))
