use Rattle.std.proofs.Common.{sym}
use Rattle.po_lists.proofs.Results.{if_ok-map}
use Rattle.po_ir.specs.declared.instr.Ty.TheVariants.{Int}
use Rattle.po_meaning.specs.Local.{IsDistance}
use Rattle.po_operate.specs.Finding.{Finds}
use Rattle.po_operate.proofs.Following.{typed_found}
use Rattle.po_operate.proofs.addresses.distance.Goals as goal

pub returns-in-Int : goal.returns-in-Int
returns-in-Int c =
    if_ok-map {P = λ found. Finds found (IsDistance c.args.size c.args.frame.now c.args.a.now c.args.b.now (Int c.in-Int.t))} c.distance_of.result
    (λ found finds. typed_found c.args.g.now c.args.to c.in-Some.register.now (Int c.in-Int.t) (IsDistance c.args.size c.args.frame.now c.args.a.now c.args.b.now) found (sym c.in-Some.ensures.value) c.in-Int.is finds)
    c.distance_of.ensures
