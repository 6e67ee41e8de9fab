use Rattle.std.proofs.Common.{sym, subst}
use Rattle.po_lists.proofs.Results.{if_ok-map}
use Rattle.po_tree.specs.NameSets.{AreSame}
use Rattle.po_decl_parts.proofs.Naming.{hides_same}
use Rattle.po_decl_steps.specs.Completing.{hidden}
use Rattle.po_decl_states.proofs.params.hide_word.Goals as goal

pub returns-in-Some-clause-same : goal.returns-in-Some-clause-same
returns-in-Some-clause-same c = λ types s. if_ok-map c.hide.result (λ u h. subst (λ w. AreSame (hidden w types) c.hide.new.self.typedefs) (sym c.in-Some.is) (hides_same _ types _ _ s h.0)) c.hide.ensures.ok

pub returns-in-Some-clause-kept : goal.returns-in-Some-clause-kept
returns-in-Some-clause-kept c = if_ok-map c.hide.result (λ u h. (h.1, h.2)) c.hide.ensures.ok

pub returns-in-None-clause-same : goal.returns-in-None-clause-same
returns-in-None-clause-same c = λ types s. subst (λ w. AreSame (hidden w types) c.args.names.now.typedefs) (sym c.in-None.is) s
