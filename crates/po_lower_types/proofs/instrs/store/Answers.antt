use Rattle.std.proofs.Common.{sym, ◌∙◌}
use Rattle.po_lower_types.proofs.Combined.{store_struct, store_value}
use Rattle.po_lower_types.proofs.instrs.store.Goals as goal

pub returns-then-is_struct : goal.returns-then-is_struct
returns-then-is_struct c = λ f m.
    let t = c.args.t.now in
    store_struct f t c.args.to c.args.v c.size.result c.align.result (sym c.is_struct.ensures ∙ c.if-is_struct.true) (c.size.ensures.size ∙ sym (m.size t)) (c.align.ensures ∙ sym (m.align t))

pub returns : goal.returns
returns c = λ f m. store_value f c.args.t.now c.args.to c.args.v c.access_of.result (sym c.is_struct.ensures ∙ c.if-is_struct.false) (c.access_of.ensures f m)
