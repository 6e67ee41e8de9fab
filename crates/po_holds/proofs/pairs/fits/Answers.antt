use Rattle.std.proofs.Common.{◌-◌, ◌↔◌, subst, length}
use Rattle.std.specs.Prelude.{IsTrue}
use Rattle.po_holds.proofs.Chosen.{through}
use Rattle.po_holds.specs.Asking.{AllBefore, ArePlaces, EachFitsIn}
use Rattle.po_holds.proofs.Ended as ended
use Rattle.po_holds.proofs.pairs.fits.Goals as goal

pub returns-in-None : goal.returns-in-None
returns-in-None c = (λ h. absurd (cc), λ h. absurd (ended.no_room c.args.c.now c.args.d.now c.args.at.now c.args.from.now c.requires.at c.requires.from (subst (λ n. AllBefore c.args.at.now n → ⊥) c.len-size.ensures c.in-None.ensures) h))

pub returns-in-None-places_of : goal.returns-in-None-places_of
returns-in-None-places_of c = (λ h. absurd (cc), λ h. absurd (ended.no_strings c.args.c.now c.args.d.now c.args.at.now c.args.from.now c.requires.at c.requires.from (subst (λ n. AllBefore c.args.from.now n → ⊥) c.len.ensures c.in-None-places_of.ensures) h))

pub returns-in-Some-places_of : goal.returns-in-Some-places_of
returns-in-Some-places_of c =
    let are = subst (λ n. ArePlaces c.args.at.now n c.in-Some.target) c.len-size.ensures c.in-Some.ensures in
    let are_from = subst (λ n. ArePlaces c.args.from.now n c.in-Some-places_of.source) c.len.ensures c.in-Some-places_of.ensures in
    let fits : IsTrue c.fit.result ↔ EachFitsIn c.args.d.now.bytes (length c.args.c.now.bytes - c.in-Some.target.last) c.in-Some-places_of.source.first c.in-Some-places_of.source.last = simp (c.as_slice.ensures, c.len-size.ensures) at c.fit.ensures in
    through fits (ended.all_fit c.args.c.now c.args.d.now c.args.at.now c.args.from.now c.in-Some.target c.in-Some-places_of.source c.requires.at c.requires.from are are_from)
