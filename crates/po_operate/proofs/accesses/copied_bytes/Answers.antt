use Rattle.std.proofs.Common.{arith, subst, sym}
use Rattle.std.proofs.lemmas.List.{take_all}
use Rattle.std.specs.Prelude.{◌+◌, ◌<◌, length, List, take}
use Rattle.po_memory.specs.declared.value.Byte.{Byte}
use Rattle.po_memory.specs.Bytes.{AreCopied}
use Rattle.po_operate.proofs.Bytes.{copied_more}
use Rattle.po_operate.proofs.accesses.copied_bytes.Goals as goal

pub returns : goal.returns
returns c =
    let size = c.requires in
    let end = c.loop-i-test.false in
    subst (λ (xs : List Byte). AreCopied xs c.args.old.now c.loop-i.bytes) (take_all c.loop-i.i c.args.source.now end)
    (subst (λ (ys : List Byte). AreCopied (take c.loop-i.i c.args.source.now) ys c.loop-i.bytes) (take_all c.loop-i.i c.args.old.now (omega (arith, size, end))) c.loop-i.invariant)

pub loop-i-preserved : goal.loop-i-preserved
loop-i-preserved c =
    let size = c.requires in
    let inside = c.loop-i-test.true in
    let within : c.loop-i.i < length c.args.old.now = omega (arith, size, inside) in
    subst (λ (list : List Byte). AreCopied (take (c.loop-i.i + 1) c.args.source.now) (take (c.loop-i.i + 1) c.args.old.now) list) (sym c.in_ok-push.ensures.ok)
    (copied_more c.args.source.now c.args.old.now c.loop-i.bytes c.loop-i.i c.copied.result _ _ inside within c.loop-i.invariant c.copied.ensures)
