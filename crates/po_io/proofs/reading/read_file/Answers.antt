use Rattle.std.proofs.Common.{refl, arith}
use Rattle.po_io.proofs.Whole.{front_nothing}
use Rattle.po_io.proofs.reading.read_file.Goals as goal

pub loop-files-init : goal.loop-files-init
loop-files-init g c = record {
  room = omega (arith, c.in_ok-buffer.ensures.room);
  front = rw c.new-read.ensures.items (front_nothing _);
  held = λ other. refl;
  counts = λ other. omega arith;
}
