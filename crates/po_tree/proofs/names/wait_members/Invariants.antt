use Rattle.std.proofs.Common.{◌≡◌, ◌++◌, map, take}
use Rattle.po_tree.specs.Gathering.{in_members}
use Rattle.po_tree.proofs.names.wait_members.Given as goal

abbrev pub invariant-loop-member : goal.invariant-loop-member
invariant-loop-member l = map (λ s. s.now) l.waiting ≡ map (λ s. s.now) l.initial.waiting ++ in_members (take l.member-index l.members)
