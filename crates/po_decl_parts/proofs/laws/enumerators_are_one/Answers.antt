use Rattle.std.proofs.Common.{refl}
use Rattle.po_decl_parts.proofs.Printed.{enumerators_printed, enumerators_read}
use Rattle.po_decl_parts.proofs.Listed.{items_along}
use Rattle.po_decl_parts.proofs.laws.enumerators_are_one.Goals as goal

pub returns-clause-printed : goal.returns-clause-printed
returns-clause-printed c = λ types signs left items more behind. (enumerators_printed types signs left items more behind, enumerators_read types signs left items more behind)

pub returns-clause-one : goal.returns-clause-one
returns-clause-one c = λ types signs left rest items others more further behind after w v.
    let p = items_along refl refl w v in (p.items_same, p.more_same, p.types_same, p.left_same)
