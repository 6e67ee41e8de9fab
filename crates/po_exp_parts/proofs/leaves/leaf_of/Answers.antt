use Rattle.std.proofs.Common.{refl}
use Rattle.po_base.specs.declared.token.TokenKind.TheVariants as k
use Rattle.po_tree.specs.Signs.{sign_of}
use Rattle.po_tree.specs.Expressions.{variable, integer, one_character}
use Rattle.std.proofs.lemmas.Bool.{iff_false}
use Rattle.po_exp_parts.proofs.SingleTokens.{word_leaf, leaf_along}
use Rattle.po_exp_parts.proofs.leaves.leaf_of.Goals as goal

pub returns-then-not-is_variable : goal.returns-then-not-is_variable
returns-then-not-is_variable c = λ x w. iff_false c.if-not-is_variable.ensures refl (word_leaf w c.in-Word.is)

pub returns-in_ok-share-in-Word : goal.returns-in_ok-share-in-Word
returns-in_ok-share-in-Word c =
    let is = c.is_variable.ensures.0 c.if-not-is_variable.false in
    leaf_along (sign_of c.args.token.now) k.Word c.in-Word.is (rw c.in_ok-share-in-Word.ensures (variable _ is.0 is.1))

pub returns-in_ok-share-in-Number : goal.returns-in_ok-share-in-Number
returns-in_ok-share-in-Number c =
    leaf_along (sign_of c.args.token.now) k.Number c.in-Number.is (rw c.in_ok-share-in-Number.ensures (integer _ (rw c.bytes.ensures at (c.is_integer.ensures.0 c.if-not-is_integer.false))))

pub returns-in_ok-share-in-Char : goal.returns-in_ok-share-in-Char
returns-in_ok-share-in-Char c =
    leaf_along (sign_of c.args.token.now) k.Char c.in-Char.is (rw c.in_ok-share-in-Char.ensures (one_character _ (rw c.bytes-in-Char.ensures at (c.is_character.ensures.0 c.if-not-is_character.false))))
