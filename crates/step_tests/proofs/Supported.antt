-- A report of supporting obligations on the one parameter fits a project of bare functions.
use Rattle.std.specs.Prelude.{ℕ, ◌≡◌, ◌<◌, pos, [], ◌∷◌, ◌++◌, List, All, Option, Some, None, MatchOption, length, slice_get}
use Rattle.std.proofs.Common.{refl, sym, subst, arith}
use Rattle.std.proofs.lemmas.List.Elements.{All-nil, All-cons, All-push}
use Rattle.po_lists.proofs.Places.{all_at, all_head, all_tail, item_at}
use Rattle.po_base.specs.declared.numbers.FunNo.{FunNo}
use Rattle.po_base.specs.declared.numbers.NodeNo.{NodeNo}
use Rattle.po_core.specs.declared.obl.Cause.{Cause}
use Rattle.po_core.specs.declared.obl.Cause.TheVariants.{Primary, Support}
use Rattle.po_core.specs.declared.obl.Obl.{Obl}
use Rattle.po_ir.specs.declared.graph.Node.{Node}
use Rattle.po_ir.specs.declared.instr.Instr.{Instr}
use Rattle.po_ir.specs.declared.project.Function.{Function}
use Rattle.po_ir.specs.declared.project.Project.{Project}
use Rattle.po_ir.specs.Whole.{IsUnread}
use Rattle.po_pred.specs.declared.pred.Atom.TheVariants.{Param}
use Rattle.po_pred.specs.declared.pred.Place.{Place}
use Rattle.po_pred.specs.declared.pred.Pred.{Pred}
use Rattle.po_pred.specs.declared.pred.Pred.TheVariants.{Nonzero}
use Rattle.po_pred.specs.Finite.{IsOver, IsPlaceOver}
use Rattle.po_step.specs.Supporting.{CauseFits, SupportFits, SupportFitsAt, SupportFitsIn, SupportsFit}
use Rattle.step_tests.specs.Bare.{IsBare, IsBareFunction, IsBareProject}
use Rattle.step_tests.specs.Supported.{AreOnParameter, IsOnParameter, Line}
use Rattle.step_tests.proofs.Whole.{each_kind, instruction_at, not_unread}

module _ (p : Project) (whole : IsBareProject p) (q : Pred) (over : IsOver 1 q) where
  called_fits : (g : FunNo) → g.0 < length p.functions → MatchOption (slice_get p.functions g.0) ⊥ (λ (callee : Function). (IsUnread callee → ⊥) × IsOver callee.graph.params q)
  called_fits g inside =
      let callee = item_at p.functions g.0 inside in
      let bare = all_at (IsBareFunction (length p.functions)) p.functions g.0 callee.0 whole.functions callee.1 in
      subst (λ (o : Option Function). MatchOption o ⊥ (λ (c : Function). (IsUnread c → ⊥) × IsOver c.graph.params q)) (sym callee.1)
      (not_unread (length p.functions) callee.0 bare, subst (λ (k : ℕ). IsOver k q) (sym bare.params) over)

  support_fits : (nodes : ℕ) (i : Instr) → IsBare (length p.functions) nodes i → SupportFits p i q
  support_fits nodes = each_kind (λ i. SupportFits p i q) (length p.functions) nodes (λ to o ty a b is. tt) (λ o ty a b yes_side no_side is. tt) (λ next less. tt)
      (λ to g a into called is. called_fits g called) (λ a is. tt) tt tt tt tt (λ to into. tt) (λ value is. tt)

  fits_at : (f : Function) → IsBareFunction (length p.functions) f → (n : ℕ) (node : Option Node) → slice_get f.graph.nodes n ≡ node → SupportFitsAt p node q
  fits_at f bare n None is = tt
  fits_at f bare n (Some node) is = support_fits (length f.graph.nodes) node.instr (instruction_at (length p.functions) f n node.instr bare (node, is, refl))

  fits_in : (k : ℕ) (n : NodeNo) (f : Option Function) → slice_get p.functions k ≡ f → SupportFitsIn p f n q
  fits_in k n None is = tt
  fits_in k n (Some f) is = fits_at f (all_at (IsBareFunction (length p.functions)) p.functions k f whole.functions is) n.0 (slice_get f.graph.nodes n.0) refl

module _ (p : Project) (whole : IsBareProject p) where
  cause_fits : (o : Obl Pred) (cause : Cause Pred) → IsOnParameter cause → CauseFits p o cause
  cause_fits o (Primary k) is = tt
  cause_fits o (Support q) is = fits_in p whole q is o.fun.0 o.node (slice_get p.functions o.fun.0) refl

  pub supports_fit : (lines : List Line) → AreOnParameter lines → SupportsFit p lines
  supports_fit [] all = All-nil (λ (line : Line). CauseFits p line.0 line.0.cause)
  supports_fit (line ∷ lines) all =
      All-cons (λ (x : Line). CauseFits p x.0 x.0.cause) line lines (cause_fits line.0 line.0.cause (all_head (λ (x : Line). IsOnParameter x.0.cause) line lines all))
      (supports_fit lines (all_tail (λ (x : Line). IsOnParameter x.0.cause) line lines all))

-- a report of no lines fits
pub supports_none : (p : Project) (lines : List Line) → lines ≡ [] → SupportsFit p lines
supports_none p lines none = subst (SupportsFit p) (sym none) (All-nil (λ (line : Line). CauseFits p line.0 line.0.cause))

-- a line more
pub on_parameter_more : (before after : List Line) (line : Line) → after ≡ before ++ line ∷ [] → IsOnParameter line.0.cause → AreOnParameter before → AreOnParameter after
on_parameter_more before after line pushed is all = subst AreOnParameter (sym pushed) (All-push (λ (x : Line). IsOnParameter x.0.cause) before line all is)

pub on_parameter_none : (lines : List Line) → lines ≡ [] → AreOnParameter lines
on_parameter_none lines none = subst AreOnParameter (sym none) (All-nil (λ (line : Line). IsOnParameter line.0.cause))

abbrev argument : Place
argument = record { atom = Some (Param 0); lo = pos 0; hi = pos 0 }

pub nonzero_over : IsOver 1 (Nonzero argument)
nonzero_over = record {
  places = All-cons (IsPlaceOver 1) argument [] (omega arith, (omega arith, omega arith), (omega arith, omega arith)) (All-nil (IsPlaceOver 1));
  width = omega arith;
  factor = (omega arith, omega arith);
  low = (omega arith, omega arith);
  high = (omega arith, omega arith);
}
