use Rattle.po_decl_parts.proofs.Printed.{stars_printed, stars_read}
use Rattle.po_exp_parts.proofs.Starred.{stars_same}
use Rattle.po_decl_parts.proofs.laws.stars_are_all_stars.Goals as goal

pub returns-clause-printed : goal.returns-clause-printed
returns-clause-printed c = λ signs left stars. (stars_printed signs left stars, stars_read signs left stars)

pub returns-clause-one : goal.returns-clause-one
returns-clause-one c = λ signs left rest stars others w v. stars_same w v
