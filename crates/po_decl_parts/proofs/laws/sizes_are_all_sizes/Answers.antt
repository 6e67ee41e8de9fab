use Rattle.po_decl_parts.proofs.Printed.{sizes_printed, sizes_read}
use Rattle.po_decl_parts.proofs.Bracketed.{sizes_same}
use Rattle.po_decl_parts.proofs.laws.sizes_are_all_sizes.Goals as goal

pub returns-clause-printed : goal.returns-clause-printed
returns-clause-printed c = λ types signs left sizes. (sizes_printed types signs left sizes, sizes_read types signs left sizes)

pub returns-clause-one : goal.returns-clause-one
returns-clause-one c = λ types signs left rest sizes others w v. sizes_same w v
