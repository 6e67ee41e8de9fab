use Rattle.std.proofs.Common.{subst, sym, Contains}
use Rattle.po_tree.specs.Words.{type_words}
use Rattle.po_specified.proofs.Apart.{plain, not_plain}
use Rattle.po_specified.proofs.words.is_plain_word.Goals as goal

pub returns-in-None : goal.returns-in-None
returns-in-None c = λ p. c.in-None.ensures (p.0, p.1)

pub returns-then-is_among : goal.returns-then-is_among
returns-then-is_among c = not_plain _ _ c.in-Some.ensures (subst (Contains type_words) c.bytes.ensures (c.is_among.ensures.0 c.if-is_among.true))

pub returns-else-is_among : goal.returns-else-is_among
returns-else-is_among c = plain _ _ c.in-Some.ensures (λ h. let e = c.is_among.ensures.1 (subst (Contains type_words) (sym c.bytes.ensures) h) in let f = c.if-is_among.false in absurd cc)
