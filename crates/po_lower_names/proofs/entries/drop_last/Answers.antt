use Rattle.std.proofs.Common.{subst}
use Rattle.po_lower_names.specs.Indexed.{IsIndexed}
use Rattle.po_lower_names.proofs.entries.drop_last.Goals as goal

pub returns-in-Some-clause-index : goal.returns-in-Some-clause-index
returns-in-Some-clause-index c = c.forget.ensures _ c.in-Some.field-0-1 (subst (λ es. IsIndexed es c.args.numbers.now c.args.kept.now.items) c.in-Some.ensures c.requires)
