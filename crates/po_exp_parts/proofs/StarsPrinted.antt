-- Stars that are read are those that are printed there.
use Rattle.std.proofs.Common.{◌≡◌, ◌∙◌, ℕ, List, [], ◌∷◌, ◌++◌, map, flat_map, refl, sym, ap, append_assoc}
use Rattle.std.specs.Prelude.{Contains, All}
use Rattle.std.proofs.lemmas.List.Elements.{All-nil, All-cons, All-head, All-tail}
use Rattle.po_base.specs.declared.token.TokenKind.TheVariants as k
use Rattle.po_tree.specs.Signs.{Sign, word, star}
use Rattle.po_tree.specs.Words.{qualifiers}
use Rattle.po_tree.specs.Printing.{prints_star}
use Rattle.po_exp_parts.specs.Places.{Begins, BeginsQualifier}
use Rattle.po_exp_parts.specs.Stars.{QualifiersRead, no_qualifier, one_qualifier, StarsRead, no_star, one_star}

pub words_sound : {ts us : List Sign} {words : List (List ℕ)} → QualifiersRead ts words us → All (Contains qualifiers) words × (ts ≡ map word words ++ us) × (BeginsQualifier us → ⊥)
words_sound (no_qualifier ts ends) = (All-nil (Contains qualifiers), refl, ends)
words_sound (one_qualifier text rest ts us is read) =
    let p = words_sound read in
    (All-cons (Contains qualifiers) text rest is p.0, ap (λ v. word text ∷ v) p.1, p.2)

pub words_complete : (words : List (List ℕ)) (rest : List Sign) → All (Contains qualifiers) words → (BeginsQualifier rest → ⊥) → QualifiersRead (map word words ++ rest) words rest
words_complete [] rest all ends = no_qualifier rest ends
words_complete (text ∷ words) rest all ends =
    one_qualifier text words _ rest (All-head (Contains qualifiers) text words all) (words_complete words rest (All-tail (Contains qualifiers) text words all) ends)

pub stars_sound : {ts us : List Sign} {stars : List (List (List ℕ))} → StarsRead ts stars us →
    All (All (Contains qualifiers)) stars × (ts ≡ flat_map prints_star stars ++ us) × (Begins star us → ⊥)
stars_sound (no_star ts ends) = (All-nil (All (Contains qualifiers)), refl, ends)
stars_sound (one_star words stars ts us vs read rest) =
    let p = words_sound read in
    let q = stars_sound rest in (
      All-cons (All (Contains qualifiers)) words stars p.0 q.0,
      ap (λ v. star ∷ v) (p.1 ∙ ap (λ v. map word words ++ v) q.1 ∙ sym (append_assoc (map word words) (flat_map prints_star stars) vs)),
      q.2,
    )

-- stars begin with no qualifier
pub stars_begin : (stars : List (List (List ℕ))) (rest : List Sign) → (BeginsQualifier rest → ⊥) → BeginsQualifier (flat_map prints_star stars ++ rest) → ⊥
stars_begin [] rest ends q = ends q
stars_begin (words ∷ stars) rest ends q = let kinds : k.Punct ≡ k.Word = q.0 in cc
