use Rattle.std.proofs.Common.{rules, FitsSigned, to_z-of_z}
use Rattle.std.specs.Int.{w128}
use Rattle.po_memory.specs.Walking.{IsStretch}
use Rattle.po_memory.proofs.ReadBytes.{access_size}
use Rattle.po_memory.proofs.WrittenBytes.{stored_in}
use Rattle.po_memory.proofs.writing.store_in.Goals as goal

pub returns-in-Some-clause-stored : goal.returns-in-Some-clause-stored
returns-in-Some-clause-stored c =
    let fits : FitsSigned w128 c.args.offset = search rules in
    let size = access_size c.args.access c.requires in
    let there : IsStretch c.args.offset c.args.access.size c.args.c.now c.in-Some.s = simp to_z-of_z at c.in-Some.ensures.1 in
    λ done. stored_in c.args.access c.args.offset c.args.v.now c.in-Some.s c.args.c.now c.write.new.bytes size.0 size.1 there c.write.ensures
