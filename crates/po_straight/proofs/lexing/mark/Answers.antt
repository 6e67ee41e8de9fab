use Rattle.std.proofs.Common.{arith}
use Rattle.po_straight.proofs.Shapes.{shape}
use Rattle.po_straight.proofs.Written.{no_mark}
use Rattle.po_straight.proofs.lexing.mark.Goals as goal

pub returns-in_default : goal.returns-in_default
returns-in_default c = λ x text h.
    no_mark _ text c.requires (λ e. omega arith) (λ e. omega arith) (λ e. omega arith) (λ e. omega arith) (λ e. omega arith) (λ e. omega arith)
    (λ e. omega arith) (λ e. omega arith) (λ e. omega arith) (λ e. omega arith) (λ e. omega arith) x (shape x _ h) h
