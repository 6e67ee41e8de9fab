use Rattle.std.proofs.Common.{◌∙◌, sym, refl, length, arith}
use Rattle.po_lex.proofs.Words.{word_of_length, no_word}
use Rattle.po_lex.proofs.extension.extension_word.Goals as goal

pub returns-in-7 : goal.returns-in-7
returns-in-7 c = c.one_of_two.ensures ∙ sym (word_of_length 7 c.args.text.now c.in-7.is)

pub returns-in-8 : goal.returns-in-8
returns-in-8 c = c.one.ensures ∙ sym (word_of_length 8 c.args.text.now c.in-8.is)

pub returns-in-10 : goal.returns-in-10
returns-in-10 c = c.one_of_two-in-10.ensures ∙ sym (word_of_length 10 c.args.text.now c.in-10.is)

pub returns-in-12 : goal.returns-in-12
returns-in-12 c = c.one-in-12.ensures ∙ sym (word_of_length 12 c.args.text.now c.in-12.is)

pub returns-in-13 : goal.returns-in-13
returns-in-13 c = c.one_of_two-in-13.ensures ∙ sym (word_of_length 13 c.args.text.now c.in-13.is)

pub returns-in_default : goal.returns-in_default
returns-in_default c =
    no_word (length c.args.text.now) c.args.text.now refl (λ e. omega (arith, e)) (λ e. omega (arith, e)) (λ e. omega (arith, e)) (λ e. omega (arith, e)) (λ e. omega (arith, e))
