use Rattle.po_memory.specs.Values.{EachSecond}
use Rattle.po_memory.specs.Blocks.{StaysIn}
use Rattle.po_holds.proofs.Chosen as chosen
use Rattle.po_holds.proofs.Chosen.{through}
use Rattle.po_holds.proofs.over.no_over.Goals as goal

pub returns-in-Err-second_of : goal.returns-in-Err-second_of
returns-in-Err-second_of c =
    chosen.alike_numbers c.args.f.now c.args.a.now (λ v. EachSecond c.args.f.now c.args.b.now (λ w. StaysIn c.args.op c.args.bits v w)) c.in-Ok.v _ c.in-Ok.ensures (λ v. chosen.second_settled c.args.f.now (λ w. StaysIn c.args.op c.args.bits v w) c.args.b.now c.in-Err-second_of.answer c.in-Err-second_of.ensures)

pub stays_in-requires-clause-w : goal.stays_in-requires-clause-w
stays_in-requires-clause-w c =
    chosen.second_some c.args.f.now c.args.b.now c.in-Ok-second_of.w c.in-Ok-second_of.ensures

pub returns-in-Ok-second_of : goal.returns-in-Ok-second_of
returns-in-Ok-second_of c =
    through c.stays_in.ensures (chosen.two_numbers c.args.f.now c.args.a.now c.args.b.now (λ v w. StaysIn c.args.op c.args.bits v w) c.in-Ok.v c.in-Ok-second_of.w c.in-Ok.ensures c.in-Ok-second_of.ensures)
