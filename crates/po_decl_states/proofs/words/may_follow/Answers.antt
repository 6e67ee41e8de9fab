use Rattle.std.proofs.Common.{refl}
use Rattle.po_decl_states.proofs.Following.{sign_follows, word_follows}
use Rattle.po_decl_states.proofs.words.may_follow.Goals as goal

pub returns-then-is_punctuator : goal.returns-then-is_punctuator
returns-then-is_punctuator c = λ types s signs. sign_follows c.is_brace.result (c.if-is_punctuator.ensures.0 refl) c.is_brace.ensures

pub returns : goal.returns
returns c = λ types s signs. word_follows (c.if-not-is_word.ensures.0 refl) (c.is_declared.ensures types s)
