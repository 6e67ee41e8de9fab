use Rattle.std.proofs.Common.{refl, codes, [], ◌∷◌, ◌++◌}
use Rattle.std.proofs.lemmas.List.Elements.{Contains-append_left}
use Rattle.po_tree.specs.Words.{type_words, qualifiers}
use Rattle.po_exp_parts.proofs.Among.{behind}
use Rattle.po_exp_parts.proofs.words.is_type_keyword.Goals as goal

pub returns-then-is_type_word : goal.returns-then-is_type_word
returns-then-is_type_word c =
    behind (codes "struct" ∷ codes "enum" ∷ []) (type_words ++ qualifiers) _ _ (λ h. absurd (cc (c.if-is_tag_word.ensures.1 h)))
    ((λ _. Contains-append_left type_words qualifiers _ (c.if-is_type_word.ensures.0 refl)), (λ _. c.if-is_type_word.true))

pub returns-else-is_type_word : goal.returns-else-is_type_word
returns-else-is_type_word c =
    behind (codes "struct" ∷ codes "enum" ∷ []) (type_words ++ qualifiers) _ _ (λ h. absurd (cc (c.if-is_tag_word.ensures.1 h)))
    (behind type_words qualifiers _ _ (λ h. absurd (cc (c.if-is_type_word.ensures.1 h))) c.is_qualifier.ensures)
