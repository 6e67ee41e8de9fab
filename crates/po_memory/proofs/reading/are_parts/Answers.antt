use Rattle.std.proofs.Common.{rules, arith, refl}
use Rattle.po_memory.proofs.ReadBytes.{parts_from, not_parts, part_more}
use Rattle.po_memory.proofs.reading.are_parts.Goals as goal

pub returns-then-not-is_part : goal.returns-then-not-is_part
returns-then-not-is_part c = (λ h. absurd (cc), λ h. absurd (not_parts c.args.bytes.now c.args.block c.args.offset.now c.loop-i.i c.is_part.result (omega arith) c.is_part.ensures.1 (search rules) h))

pub loop-i-preserved : goal.loop-i-preserved
loop-i-preserved c = part_more c.args.bytes.now c.args.block c.args.offset.now c.loop-i.i (omega arith) (c.is_part.ensures.0 (search rules)) c.loop-i.invariant

pub returns : goal.returns
returns c = (λ h. parts_from c.args.bytes.now c.args.block c.args.offset.now (λ j less. c.loop-i.invariant j (omega arith)), λ h. refl)
