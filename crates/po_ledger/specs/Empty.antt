-- A book of nothing, for a type that names no book of its own.
use Rattle.std.specs.Prelude.{[], None}
use Rattle.po_core.specs.Book.{Book}
use Rattle.po_core.specs.declared.obl.Verdict.TheVariants.{Open}

abbrev pub no_book : {P N T : Type 0} → Book P N T
no_book = record {
  files = 0;
  functions = 0;
  file_of = λ f. record { 0 = 0 };
  primaries = λ f. [];
  call_sites = λ f. [];
  table_of = λ f. None;
  verdict_of = λ o. Open;
  assumable = [];
}
