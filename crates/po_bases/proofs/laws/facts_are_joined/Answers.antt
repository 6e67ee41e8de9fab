use Rattle.po_bases.proofs.FilledLaws.{filled_join, facts_join, heaps_join}
use Rattle.po_bases.proofs.laws.facts_are_joined.Goals as goal

pub returns : goal.returns
returns c = record { bytes = filled_join; blocks = facts_join; nodes = heaps_join }
