use Rattle.std.proofs.Common.{◌≡◌, ◌∙◌, sym, false, drop, List, ℕ, ◌+◌, take, ◌-◌, subst}
use Rattle.std.specs.Prelude.{Some, None}
use Rattle.po_lex.specs.Directives.{plain, named}
use Rattle.po_lex.specs.declared.effect.Effect.TheVariants as e
use Rattle.po_lex.proofs.Directives.{unclosed, followed, named_so, unquoted_at, name_at, tail_at}
use Rattle.po_lex.proofs.directive.named.Goals as goal

pub returns-then-not-begins_quote-2 : goal.returns-then-not-begins_quote-2
returns-then-not-begins_quote-2 c =
    let line : List ℕ = c.bytes-bytes.result.now in
    let close : List ℕ = drop c.row_end-close.result line in
    subst (λ v. None ≡ named c.args.tail c.args.number (drop c.args.at v)) c.bytes-bytes.ensures
    (unclosed c.args.tail c.args.number (drop c.args.at line) close (sym c.begins_quote.ensures.value ∙ c.if-not-begins_quote.false)
    (unquoted_at line c.args.at close c.row_end-close.ensures.rest) (sym c.begins_quote-2.ensures.value ∙ c.if-not-begins_quote-2.true))

pub returns-then-not-is_end : goal.returns-then-not-is_end
returns-then-not-is_end c =
    let line : List ℕ = c.bytes-bytes.result.now in
    let close : List ℕ = drop c.row_end-close.result line in
    let last : List ℕ = drop c.row_end.result line in
    subst (λ v. None ≡ named c.args.tail c.args.number (drop c.args.at v)) c.bytes-bytes.ensures
    (followed c.args.tail c.args.number (drop c.args.at line) close (sym c.begins_quote.ensures.value ∙ c.if-not-begins_quote.false)
    (unquoted_at line c.args.at close c.row_end-close.ensures.rest) last (sym c.begins_quote-2.ensures.value ∙ c.if-not-begins_quote-2.false)
    (tail_at c.args.tail line c.row_end-close.result last c.row_end.ensures.rest) (sym c.is_end.ensures ∙ c.if-not-is_end.true))

pub returns : goal.returns
returns c =
    let line : List ℕ = c.bytes-bytes.result.now in
    let close : List ℕ = drop c.row_end-close.result line in
    let last : List ℕ = drop c.row_end.result line in
    let written : List ℕ = take (c.row_end-close.result - (c.args.at + 1)) (drop (c.args.at + 1) line) in
    let text : c.in_ok-name.name ≡ plain false written = cc (c.in_ok-name.ensures, c.bytes-bytes.ensures) in
    subst (λ v. Some (e.Named c.args.number c.in_ok-name.name) ≡ named c.args.tail c.args.number (drop c.args.at v)) c.bytes-bytes.ensures
    (named_so c.args.tail c.args.number (drop c.args.at line) close (sym c.begins_quote.ensures.value ∙ c.if-not-begins_quote.false)
    (unquoted_at line c.args.at close c.row_end-close.ensures.rest) last _ (sym c.begins_quote-2.ensures.value ∙ c.if-not-begins_quote-2.false)
    (tail_at c.args.tail line c.row_end-close.result last c.row_end.ensures.rest) (sym c.is_end.ensures ∙ c.if-not-is_end.false)
    (text ∙ name_at line c.args.at written c.row_end-close.ensures.front))
