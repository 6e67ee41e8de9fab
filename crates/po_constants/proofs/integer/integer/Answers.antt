use Rattle.std.proofs.Common.{rules, ap, ◌∙◌, sym}
use Rattle.std.specs.Prelude.{Some}
use Rattle.po_constants.proofs.Octal.{octal}
use Rattle.po_constants.proofs.integer.integer.Goals as goal

pub returns-then-text-eq48-clause-behind : goal.returns-then-text-eq48-clause-behind
returns-then-text-eq48-clause-behind c =
    let is = octal c.args.text.now (search rules) c.if-text-eq48.true c.if-is_hexadecimal.ensures in
    (c.digits-then-text-eq48.ensures.within, is.behind ∙ ap Some (sym c.digits-then-text-eq48.ensures.behind))

pub returns-then-text-eq48-clause-value : goal.returns-then-text-eq48-clause-value
returns-then-text-eq48-clause-value c =
    let is = octal c.args.text.now (search rules) c.if-text-eq48.true c.if-is_hexadecimal.ensures in
    (rw is.valued c.digits-then-text-eq48.ensures.value, is.decimal)
