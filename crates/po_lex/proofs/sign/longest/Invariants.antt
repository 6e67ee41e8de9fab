use Rattle.std.proofs.Common.{◌≡◌, ◌≤◌, length, map, drop}
use Rattle.std.specs.Prelude.{max}
use Rattle.po_lex.specs.PartKinds.{longest}
use Rattle.po_lex.proofs.sign.longest.Given as goal

abbrev pub invariant-loop-text : goal.invariant-loop-text
invariant-loop-text l = record {
  value : max l.best (longest (map (λ t. t.now) (drop l.text-index l.texts)) l.bytes) ≡ longest (map (λ t. t.now) l.texts) l.bytes;
  within : l.best ≤ length l.bytes;
}
