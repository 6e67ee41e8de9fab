use Rattle.std.proofs.Common.{ap, map, ◌∙◌}
use Rattle.std.proofs.lemmas.List.{map_push}
use Rattle.po_tree.proofs.Waiting.{gathers_on, gathers_all, fewer_left}
use Rattle.po_tree.proofs.names.gather.Goals as goal

pub loop-spec-smaller : goal.loop-spec-smaller
loop-spec-smaller c =
    fewer_left _ _ _ _ _ _ (ap (map (λ s. s.now)) c.in-Some.ensures ∙ map_push (λ s. s.now) _ c.in-Some.spec) c.in_ok-gather_one.ensures

pub loop-spec-preserved : goal.loop-spec-preserved
loop-spec-preserved c =
    gathers_on _ _ _ _ _ _ _ _ (ap (map (λ s. s.now)) c.in-Some.ensures ∙ map_push (λ s. s.now) _ c.in-Some.spec) c.loop-spec.invariant c.in_ok-gather_one.ensures

pub returns : goal.returns
returns c = gathers_all _ _ _ (rw (c.in_default.ensures.0) at c.loop-spec.invariant)
