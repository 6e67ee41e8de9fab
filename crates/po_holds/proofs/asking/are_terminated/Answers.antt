use Rattle.std.proofs.Common.{◌↔◌, subst, length}
use Rattle.std.specs.Prelude.{IsTrue}
use Rattle.po_holds.proofs.Chosen.{through}
use Rattle.po_holds.specs.Asking.{AllBefore, ArePlaces, EachFitsIn}
use Rattle.po_holds.proofs.Ended as ended
use Rattle.po_holds.proofs.asking.are_terminated.Goals as goal

pub returns-in-None : goal.returns-in-None
returns-in-None c = (λ h. absurd (cc), λ h. absurd (ended.not_terminated c.args.c.now c.args.at.now c.requires (subst (λ n. AllBefore c.args.at.now n → ⊥) c.len-size.ensures c.in-None.ensures) h))

pub returns-in-Some : goal.returns-in-Some
returns-in-Some c =
    let are = subst (λ n. ArePlaces c.args.at.now n c.in-Some.s) c.len-size.ensures c.in-Some.ensures in
    let fits : IsTrue c.fit.result ↔ EachFitsIn c.args.c.now.bytes (length c.args.c.now.bytes) c.in-Some.s.first c.in-Some.s.last = simp (c.as_slice.ensures, c.len-size.ensures) at c.fit.ensures in
    through fits (ended.all_terminated c.args.c.now c.args.at.now c.in-Some.s c.requires are)
