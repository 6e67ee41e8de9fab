use Rattle.std.proofs.Common.{rules, subst, length, FitsSigned, to_z-of_z}
use Rattle.std.specs.Int.{w128}
use Rattle.po_memory.specs.Bytes.{IsTypeOfTarget, HasSize}
use Rattle.po_memory.proofs.ReadBytes.{may_be_read}
use Rattle.po_memory.proofs.reading.value.Goals as goal

pub returns-in-Int-clause-read : goal.returns-in-Int-clause-read
returns-in-Int-clause-read c =
    let fits : FitsSigned w128 c.number.result = search rules in
    rw c.in-Int.is (simp to_z-of_z (may_be_read c.in-Int.t c.args.bytes.now c.number.result (subst IsTypeOfTarget c.in-Int.is c.requires.typed) (subst (λ ty. HasSize ty (length c.args.bytes.now)) c.in-Int.is c.requires.whole) c.number.ensures))
