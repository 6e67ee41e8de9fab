use Rattle.std.proofs.Common.{sym, ◌∙◌, subst}
use Rattle.po_symbols.specs.Linking.{NoCause, Fits, IsRefused}
use Rattle.po_link.proofs.OneOutcome.{refused}
use Rattle.po_link.proofs.linking.link.Goals as goal

pub returns-in_err-check_sizes : goal.returns-in_err-check_sizes
returns-in_err-check_sizes c =
    refused c.args.units c.args.target _ c.in_err-check_sizes.field-0.0 c.from_residual-in_err-check_sizes.ensures.1
    (subst (λ l. IsRefused l c.in_err-check_sizes.field-0.0) c.as_slice-2.ensures (c.in_err-check_sizes.ensures.err (subst NoCause (c.as_slice.ensures ∙ sym c.as_slice-2.ensures) c.in_ok-check_names.ensures.ok)))

pub returns : goal.returns
returns c = (subst NoCause c.as_slice.ensures c.in_ok-check_names.ensures.ok, subst Fits c.as_slice-2.ensures c.in_ok-check_sizes.ensures.ok, c.in_ok-join_files.ensures)
