use Rattle.po_ledger.proofs.Kept.{known_there}
use Rattle.ledger_tests.proofs.Plain.{find_some, find_none}
use Rattle.ledger_tests.proofs.ledger.ListLedger.find_file.Goals as goal

pub takeable-requires : goal.takeable-requires
takeable-requires g c = rw c.as_slice.ensures.value (known_there _ _ _ _ c.self.invariant c.legal_lists_are_orderly.ensures)

pub returns : goal.returns
returns g c = record {
  some = find_some _ _ c.self.invariant.same_book _ _ c.self.view_is c.as_slice.result.now c.as_slice.ensures.value c.as_slice-2.result.now c.as_slice-2.ensures.value c.takeable.result c.takeable.ensures.some;
  none = find_none _ _ c.self.invariant.same_book _ _ c.self.view_is c.as_slice.result.now c.as_slice.ensures.value c.as_slice-2.result.now c.as_slice-2.ensures.value c.takeable.result c.takeable.ensures.none;
}
