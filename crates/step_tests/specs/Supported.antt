-- Reports whose supporting obligations are predicates on the one parameter of a bare function.
use Rattle.std.specs.Prelude.{List, All}
use Rattle.po_core.specs.declared.obl.Cause.{Cause}
use Rattle.po_core.specs.declared.obl.Cause.TheVariants.{Primary, Support}
use Rattle.po_core.specs.declared.obl.Obl.{Obl}
use Rattle.po_core.specs.declared.obl.Verdict.{Verdict}
use Rattle.po_pred.specs.declared.pred.Pred.{Pred}
use Rattle.po_pred.specs.declared.pred.Rule.{Rule}
use Rattle.po_pred.specs.Finite.{IsOver}

abbrev pub Line : Type 0
Line = Obl Pred × Verdict Pred Rule

abbrev pub IsOnParameter : Cause Pred → Type 0
IsOnParameter (Primary k) = Unit {0}
IsOnParameter (Support q) = IsOver 1 q

abbrev pub AreOnParameter : List Line → Type 0
AreOnParameter lines = All (λ (line : Line). IsOnParameter line.0.cause) lines
