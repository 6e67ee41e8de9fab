use Rattle.std.proofs.Common.{sym, ◌∙◌}
use Rattle.po_lower_names.proofs.Index.{indexed_pop, read_kept, has_number, has_variable, popped}
use Rattle.po_lower_names.proofs.entries.forget.Goals as goal

pub returns-in-Some : goal.returns-in-Some
returns-in-Some c = λ entries v h.
    let there = sym c.in-Some.ensures in
    let read = read_kept _ c.in-Some.k.now _ (h.within _ _ there) c.index_mut.ensures.value in
    let last = popped _ _ _ c.pop.ensures (λ q. has_variable entries _ _ c.args.name.now v c.in-Some.k.now h there (sym read ∙ q)) in
    indexed_pop entries _ _ c.args.name.now v last.0 c.in-Some.k.now _ h there (sym read ∙ last.1)

pub returns-in_default : goal.returns-in_default
returns-in_default c = λ entries v h. absurd (has_number entries _ _ c.args.name.now v h (sym c.in_default.ensures))
