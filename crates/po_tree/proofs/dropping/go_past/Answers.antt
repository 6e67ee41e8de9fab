use Rattle.std.proofs.Common.{refl}
use Rattle.po_tree.specs.declared.expression.Suffix.TheVariants as su
use Rattle.po_tree.proofs.Steps.{past_param, parts_plain, parts_arrays, parts_list, fits_plain, fits_itself}
use Rattle.po_tree.proofs.dropping.go_past.Goals as goal

pub returns-in-Plain : goal.returns-in-Plain
returns-in-Plain c p a none b = past_param _ _ _ p _ _ _ _ su.Plain refl c.from_vec.ensures a none b (parts_plain _ c.in-Plain.is) fits_plain

pub returns-in-Arrays : goal.returns-in-Arrays
returns-in-Arrays c p a none b = past_param _ _ _ p _ _ _ _ _ refl c.from_vec.ensures a none b (parts_arrays _ c.in-Arrays.sizes c.in-Arrays.is) (fits_itself _)

pub returns : goal.returns
returns c p a none b = past_param _ _ _ p _ _ _ _ su.Plain refl c.from_vec.ensures a none b (parts_list _ c.in-Params.waiting c.in-Params.field-1 c.in-Params.is) fits_plain
