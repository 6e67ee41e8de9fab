use Rattle.std.proofs.Common.{◌∙◌, ap, ◌++◌, ◌∷◌, []}
use Rattle.std.specs.Prelude.{nat_eq}
use Rattle.std.specs.Cmp.Lexicographic.{pointwise}
use Rattle.std.specs.Map.{lookup}
use Rattle.indexmap.proofs.CallerLemmas.{insert_entry-new}
use Rattle.po_types.proofs.table.Table.add.Goals as goal

pub returns-in-Ok-clause-ok : goal.returns-in-Ok-clause-ok
returns-in-Ok-clause-ok g c =
    c.in-Ok.ensures.entries
    ∙ insert_entry-new (pointwise nat_eq) c.self.inside.entries c.args.name c.args.value (ap (λ es. lookup (pointwise nat_eq c.args.name) es) c.self.view_is ∙ c.requires)
    ∙ ap (λ es. es ++ (c.args.name, c.args.value) ∷ []) c.self.view_is
