use Rattle.std.proofs.Common.{◌∙◌, ap, take, drop}
use Rattle.po_lex.specs.Division.{Part, moved}
use Rattle.std.proofs.lemmas.Result.{on_ok_weaker}
use Rattle.po_lex.proofs.Fronts.{read_more}
use Rattle.po_lex.proofs.lexing.Lexer.read.Goals as goal

pub returns-clause-read : goal.returns-clause-read
returns-clause-read c =
    let x : Part = record { part_kind = c.args.part.part_kind; text = take c.args.part.end (drop c.args.at c.args.file.now); effect = c.args.part.effect } in
    let position = c.moved-self.ensures ∙ ap (λ v. moved c.args.self.now.position v c.args.part.effect) c.text_at-text.ensures in
    on_ok_weaker c.put_name.result
    (λ names. λ name front h. read_more name front c.args.self.now _ x position names (rw c.token_kind_of.ensures at c.in_ok-self.ensures) h)
    c.put_name.ensures
