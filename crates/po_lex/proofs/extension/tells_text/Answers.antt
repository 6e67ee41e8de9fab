use Rattle.std.proofs.Common.{◌∙◌, sym, refl, length, arith}
use Rattle.po_lex.specs.Keeping.{telling}
use Rattle.po_lex.proofs.Words.{among_of, tells_none}
use Rattle.po_lex.proofs.extension.tells_text.Goals as goal

pub returns-in-4 : goal.returns-in-4
returns-in-4 c = c.is_among.ensures ∙ sym (among_of 4 telling c.args.text.now c.in-4.is)

pub returns-in-6 : goal.returns-in-6
returns-in-6 c = c.is_among-in-6.ensures ∙ sym (among_of 6 telling c.args.text.now c.in-6.is)

pub returns-in-7 : goal.returns-in-7
returns-in-7 c = c.is_among-in-7.ensures ∙ sym (among_of 7 telling c.args.text.now c.in-7.is)

pub returns-in-8 : goal.returns-in-8
returns-in-8 c = c.is_among-in-8.ensures ∙ sym (among_of 8 telling c.args.text.now c.in-8.is)

pub returns-in-10 : goal.returns-in-10
returns-in-10 c = c.is_among-in-10.ensures ∙ sym (among_of 10 telling c.args.text.now c.in-10.is)

pub returns-in-11 : goal.returns-in-11
returns-in-11 c = c.is_among-in-11.ensures ∙ sym (among_of 11 telling c.args.text.now c.in-11.is)

pub returns-in-15 : goal.returns-in-15
returns-in-15 c = c.is_among-in-15.ensures ∙ sym (among_of 15 telling c.args.text.now c.in-15.is)

pub returns-in_default : goal.returns-in_default
returns-in_default c =
    tells_none (length c.args.text.now) c.args.text.now refl (λ e. omega (arith, e)) (λ e. omega (arith, e)) (λ e. omega (arith, e)) (λ e. omega (arith, e)) (λ e. omega (arith, e)) (λ e. omega (arith, e)) (λ e. omega (arith, e))
