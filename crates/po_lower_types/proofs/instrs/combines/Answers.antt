use Rattle.std.proofs.Common.{ap, sym, ◌∙◌}
use Rattle.po_lowering.specs.Conversions as conversions
use Rattle.po_lower_types.proofs.Combined.{combines_Add, combines_Sub, combines_other}
use Rattle.po_lower_types.proofs.instrs.combines.Goals as goal

pub returns-in-Add : goal.returns-in-Add
returns-in-Add c = λ f m.
    let a = c.args in
    c.adds.ensures f m ∙ sym (combines_Add f a.t.now a.u.now a.v a.w a.r.0) ∙ ap (λ z. conversions.combines f z a.t.now a.u.now a.v a.w a.r.0) (sym c.in-Add.is)

pub returns-in-Sub : goal.returns-in-Sub
returns-in-Sub c = λ f m.
    let a = c.args in
    c.subtracts.ensures f m ∙ sym (combines_Sub f a.t.now a.u.now a.v a.w a.r.0) ∙ ap (λ z. conversions.combines f z a.t.now a.u.now a.v a.w a.r.0) (sym c.in-Sub.is)

pub returns-in_default : goal.returns-in_default
returns-in_default c = λ f m.
    let a = c.args in
    c.computes.ensures ∙ sym (combines_other f a.operator a.t.now a.u.now a.v a.w a.r.0 c.in_default.not-Add c.in_default.not-Sub)
