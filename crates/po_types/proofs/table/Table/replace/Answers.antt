use Rattle.std.proofs.Common.{◌∙◌, ap}
use Rattle.std.specs.Prelude.{nat_eq}
use Rattle.std.specs.Cmp.Lexicographic.{pointwise}
use Rattle.indexmap.specs.IndexMap.{insert_entry}
use Rattle.po_types.proofs.Replaced.{inserted_there}
use Rattle.po_types.proofs.table.Table.replace.Goals as goal

pub returns-clause-replaced : goal.returns-clause-replaced
returns-clause-replaced g c =
    c.in-Ok-Some.ensures.entries
    ∙ ap (λ es. insert_entry (pointwise nat_eq) es c.args.name c.args.value) c.self.view_is
    ∙ inserted_there (pointwise nat_eq) c.args.self.now c.args.name c.args.value c.requires
