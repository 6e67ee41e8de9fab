use Rattle.std.proofs.Common.{sym, subst}
use Rattle.po_lists.proofs.Results.{if_ok-map}
use Rattle.po_tree.specs.NameSets.{AreSame}
use Rattle.po_decl_parts.proofs.Naming.{hides_same}
use Rattle.po_decl_steps.specs.Completing.{declares}
use Rattle.po_decl_states.proofs.BehindParts.{adds_same}
use Rattle.po_decl_states.proofs.parts.declare_word.Goals as goal

pub returns-then-typedef-clause-same : goal.returns-then-typedef-clause-same
returns-then-typedef-clause-same c = λ types s.
    if_ok-map c.declare_type.result (λ u h. subst (λ b. AreSame (declares b c.args.word.now types) c.declare_type.new.self.typedefs) (sym c.if-typedef.true) (adds_same _ types _ _ s h.0)) c.declare_type.ensures

pub returns-then-typedef-clause-kept : goal.returns-then-typedef-clause-kept
returns-then-typedef-clause-kept c = if_ok-map c.declare_type.result (λ u h. (h.1, h.2)) c.declare_type.ensures

pub returns-clause-same : goal.returns-clause-same
returns-clause-same c = λ types s.
    if_ok-map c.hide.result (λ u h. subst (λ b. AreSame (declares b c.args.word.now types) c.hide.new.self.typedefs) (sym c.if-typedef.false) (hides_same _ types _ _ s h.0)) c.hide.ensures.ok

pub returns-clause-kept : goal.returns-clause-kept
returns-clause-kept c = if_ok-map c.hide.result (λ u h. (h.1, h.2)) c.hide.ensures.ok
