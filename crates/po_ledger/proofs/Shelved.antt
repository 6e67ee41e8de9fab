-- Tables that are handed out and given back.
use Rattle.std.proofs.Common.{◌≡◌, List, [], set, sym, ◌∙◌, ap}
use Rattle.std.specs.Prelude.{Some, slice_get}
use Rattle.po_base.specs.declared.numbers.FileNo.{FileNo}
use Rattle.po_base.specs.declared.numbers.FunNo.{FunNo}
use Rattle.po_ledger.specs.Shelves.{HandsTables}
use Rattle.po_ledger.specs.View.{LedgerView, TicketView}

module _ {P N T : Type 0} (shelves : List (List (FunNo × T))) (old : LedgerView P N T) (same : shelves ≡ old.tables) (t : TicketView P T) where
  pub tables_handed : (m : LedgerView P N T) (none : List (FunNo × T)) → slice_get shelves t.file.0 ≡ Some t.tables → none ≡ [] → m.tables ≡ set shelves t.file.0 none → HandsTables old m t
  tables_handed m none before empty after = record {
    handed = ap (λ (z : List (List (FunNo × T))). slice_get z t.file.0) (sym same) ∙ before;
    left = after ∙ (ap (λ (z : List (FunNo × T)). set shelves t.file.0 z) empty ∙ ap (λ (z : List (List (FunNo × T))). set z t.file.0 []) same);
  }

  pub tables_given : (later : List (List (FunNo × T))) (file : FileNo) (tables : List (FunNo × T)) → file ≡ t.file → tables ≡ t.tables → later ≡ set shelves file.0 tables → later ≡ set old.tables t.file.0 t.tables
  tables_given later file tables of_file of_tables is =
      is ∙ (ap (λ (z : List (List (FunNo × T))). set z file.0 tables) same ∙ (ap (λ (z : FileNo). set old.tables z.0 tables) of_file ∙ ap (λ (z : List (FunNo × T)). set old.tables t.file.0 z) of_tables))
