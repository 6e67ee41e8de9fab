use Rattle.std.specs.Prelude.{ℕ, ◌≡◌, length}
use Rattle.std.proofs.Common.{◌∙◌, ap, subst, sym}
use Rattle.po_memory.specs.declared.value.Byte.{Byte}
use Rattle.std.specs.Prelude.{List}
use Rattle.po_operate.specs.Copying.{HasRoom}
use Rattle.po_operate.proofs.Bytes.{bytes_size}
use Rattle.po_operate.proofs.accesses.copy_between.Goals as goal
use Rattle.po_memory.proofs.Came.{copied_size}

pub overwrite-requires : goal.overwrite-requires
overwrite-requires c =
    let size : length c.as_slice.result.now ≡ c.args.size =
    ap (λ (xs : List Byte). length xs) c.as_slice.ensures
    ∙ (copied_size c.bytes_at.result.now c.bytes_at-2.result.now c.in_ok-bytes.bytes c.in_ok-bytes.ensures
    ∙ bytes_size c.args.m.now.blocks c.args.to.block c.args.to.start c.args.size c.bytes_at-2.result.now c.requires.to c.bytes_at-2.ensures) in
    subst (λ (n : ℕ). HasRoom c.args.m.now.blocks c.args.to.block c.args.to.start n) (sym size) c.requires.to
