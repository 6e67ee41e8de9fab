use Rattle.std.proofs.Common.{◌∙◌, ap, sym}
use Rattle.po_lower_names.specs.Indexed.{last_of}
use Rattle.po_lower_names.proofs.Index.{found_last, read_kept}
use Rattle.po_lowering.specs.Naming.{found}
use Rattle.po_lower_names.proofs.scope.Scope.found.Goals as goal

pub returns-in-Some : goal.returns-in-Some
returns-in-Some c =
    let there = sym c.in-Some.ensures in
    let read = read_kept _ c.in-Some.k.now _ (c.self.invariant.within _ _ there) c.index.ensures in
    c.last_of.ensures ∙ ap last_of (read ∙ c.self.invariant.here c.args.name.now c.in-Some.k.now there) ∙ sym (found_last c.args.name.now c.self.inside.entries) ∙ ap (found c.args.name.now) c.self.view_is

pub returns-in-None : goal.returns-in-None
returns-in-None c =
    sym (ap last_of (c.self.invariant.none c.args.name.now (sym c.in-None.ensures))) ∙ sym (found_last c.args.name.now c.self.inside.entries) ∙ ap (found c.args.name.now) c.self.view_is
