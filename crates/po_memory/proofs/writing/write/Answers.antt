use Rattle.std.proofs.Common.{arith}
use Rattle.po_memory.proofs.WrittenBytes.{written_more}
use Rattle.po_memory.proofs.writing.write.Goals as goal

pub loop-place-preserved : goal.loop-place-preserved
loop-place-preserved c = written_more c.args.bytes.now c.loop-place.bytes c.set.new.self c.args.start c.loop-place.place c.args.v.now c.word_of-word.result c.written_byte.result (omega arith) (omega arith) c.loop-place.invariant c.written_byte.ensures c.set.ensures
