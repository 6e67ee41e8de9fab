use Rattle.po_symbols.proofs.Indexed.{type_step}
use Rattle.po_symbols.proofs.types.note_types.Goals as goal

pub loop-one-preserved : goal.loop-one-preserved
loop-one-preserved c = λ q fresh. type_step q _ _ _ c.args.file c.args.declared.now _ _ c.loop-one-test.true c.one-item.is fresh (c.loop-one.invariant q fresh) (c.in_ok-note_type.ensures q)
