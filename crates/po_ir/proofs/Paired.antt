-- Marks of both kinds make the effects of a project.
use Rattle.std.proofs.Common.{List, Bool, true, ap, sym, ◌∙◌, arith}
use Rattle.std.specs.Prelude.{Some}
use Rattle.std.proofs.lemmas.Option.{slice_get_within, same_Some}
use Rattle.po_ir.specs.declared.project.Effects.{Effects}
use Rattle.po_ir.specs.declared.project.Project.{Project}
use Rattle.po_ir.specs.Reaching.{LibraryEffects, AreReaching, AreEffects, frees_here, writes_here}
use Rattle.po_ir.specs.Paired.{ArePaired}

pub paired : (library : LibraryEffects) (p : Project) (frees writes : List Bool) (effects : List Effects) → AreReaching p (frees_here library) frees → AreReaching p (writes_here library) writes →
    ArePaired frees writes effects → AreEffects library p effects
paired library p frees writes effects a b is = record {
  count = is.count ∙ a.count;
  frees = λ f e at.
      let marks = is.each f e at in
      let reach = a.each f (let w = slice_get_within effects f e at in let c = is.count in let n = a.count in omega arith) in
      (λ t. reach.0 (marks.0 ∙ ap Some t), λ r. same_Some e.frees true (sym marks.0 ∙ reach.1 r));
  writes = λ f e at.
      let marks = is.each f e at in
      let reach = b.each f (let w = slice_get_within effects f e at in let c = is.count in let n = a.count in omega arith) in
      (λ t. reach.0 (marks.1 ∙ ap Some t), λ r. same_Some e.writes true (sym marks.1 ∙ reach.1 r));
}
