use Rattle.std.proofs.Common.{◌≡◌, ◌∙◌, sym, false, ap, take, drop, ◌-◌, ℕ, List}
use Rattle.std.specs.Prelude.{◌==◌}
use Rattle.std.specs.List.{list_any}
use Rattle.std.proofs.lemmas.Result.{IfOk-weaker}
use Rattle.po_lex.specs.Directives.{plain}
use Rattle.po_lex.proofs.Directives.{unescaped}
use Rattle.po_lex.proofs.directive.plain_name.Goals as goal

pub returns : goal.returns
returns c =
    let written : List ℕ = take (c.args.to - c.args.from) (drop c.args.from c.args.line.now) in
    let none : list_any (λ c. c == 92) written ≡ false = sym (ap (list_any (λ c. c == 92)) c.text_at-written.ensures) ∙ sym c.has_backslash.ensures ∙ c.if-has_backslash.false in
    IfOk-weaker c.part.result (λ name. name ≡ written) (λ name. name ≡ plain false written) (λ name q. q ∙ sym (unescaped written none)) c.part.ensures
