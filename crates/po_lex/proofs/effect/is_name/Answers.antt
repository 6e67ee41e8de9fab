use Rattle.std.proofs.Common.{◌≡◌, ◌∙◌, sym, true}
use Rattle.std.specs.Prelude.{nat_le}
use Rattle.std.specs.List.{list_all}
use Rattle.po_lex.proofs.Directives.{utf8_told}
use Rattle.po_lex.proofs.effect.is_name.Goals as goal

pub returns-then-are_printed : goal.returns-then-are_printed
returns-then-are_printed c =
    let printed : list_all (λ c. nat_le 32 c) c.args.bytes.now ≡ true = sym c.are_printed.ensures ∙ c.if-are_printed.true in
    rw printed (c.is_ok.ensures.value ∙ utf8_told c.from_utf8.result _ _ c.args.bytes.now c.from_utf8.ensures.cases)
