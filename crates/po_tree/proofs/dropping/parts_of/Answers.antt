use Rattle.po_tree.proofs.Steps.{parts_plain, parts_arrays, parts_list}
use Rattle.po_tree.proofs.dropping.parts_of.Goals as goal

pub returns-in-Plain : goal.returns-in-Plain
returns-in-Plain c = parts_plain _ c.in-Plain.is

pub returns-in-Arrays : goal.returns-in-Arrays
returns-in-Arrays c = parts_arrays _ c.in-Arrays.sizes c.in-Arrays.is

pub returns-in-Params : goal.returns-in-Params
returns-in-Params c = parts_list _ c.in-Params.params c.in-Params.field-1 c.in-Params.is
