-- A flow has one least table.
use Rattle.std.proofs.Common.{◌≡◌, ◌<◌, List, sym, ◌∙◌, arith}
use Rattle.std.proofs.lemmas.List.{ext_get_or}
use Rattle.po_flow.specs.Flows.{Flows, IsLawful}
use Rattle.po_flow.specs.Least.{IsLeast}

pub one_least_table : {S : Type 0} (f : Flows S) (proper : S → Type 0) → IsLawful f proper → (t u : List S) → IsLeast f proper t → IsLeast f proper u → t ≡ u
one_least_table f proper law t u is also =
    ext_get_or f.least t u (is.is_table.long ∙ sym also.is_table.long) (λ n l.
    let lt : n < f.size = omega (arith, is.is_table.long) in
    law.same _ _ (is.is_table.proper_states n lt) (also.is_table.proper_states n lt) (is.least u also.is_table also.closed n lt) (also.least t is.is_table is.closed n lt))
