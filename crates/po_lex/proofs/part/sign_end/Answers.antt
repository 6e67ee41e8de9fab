use Rattle.std.proofs.Common.{◌∙◌, sym, ap, drop}
use Rattle.po_lex.proofs.Lines.{skip_nothing}
use Rattle.po_lex.proofs.part.sign_end.Goals as goal

pub returns-clause-ended : goal.returns-clause-ended
returns-clause-ended c = skip_nothing _ ∙ ap (λ n. drop n c.args.bytes.now) (sym c.sign_length-end.ensures.value)
