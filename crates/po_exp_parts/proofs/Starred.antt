-- Stars and the qualifiers behind them, one after the other.
use Rattle.std.proofs.Common.{◌≡◌, ◌∙◌, ℕ, List, [], ◌∷◌, ◌++◌, refl, sym, ap, subst}
use Rattle.std.specs.Prelude.{Contains}
use Rattle.po_tree.specs.Signs.{Sign, word, star}
use Rattle.po_tree.specs.Words.{qualifiers}
use Rattle.po_exp_parts.specs.Places.{Begins, BeginsWord, BeginsQualifier}
use Rattle.po_exp_parts.specs.Stars.{QualifiersRead, no_qualifier, one_qualifier, StarsRead, no_star, one_star}
use Rattle.po_exp_parts.proofs.SameSigns.{same_word}
use Rattle.po_exp_parts.proofs.Leading.{Leads}

pub qualifier_begins : {text : List ℕ} {ts us : List Sign} → ts ≡ word text ∷ us → Contains qualifiers text → BeginsQualifier ts
qualifier_begins q h = subst BeginsQualifier (sym q) (refl, h)

-- where no word stands there is no qualifier
pub not_qualifier : {text : List ℕ} {ts us : List Sign} → ts ≡ word text ∷ us → (Contains qualifiers text → ⊥) → BeginsQualifier ts → ⊥
not_qualifier q none b = none (subst BeginsQualifier q b).1

words_along : {ts ts' us vs : List Sign} {words others : List (List ℕ)} → ts ≡ ts' → QualifiersRead ts words us → QualifiersRead ts' others vs → (words ≡ others) × (us ≡ vs)
words_along q (no_qualifier ts none) (no_qualifier ts' none') = (refl, q)
words_along q (no_qualifier ts none) (one_qualifier text rest ts' us' h w) = absurd (none (subst BeginsQualifier (sym q) (refl, h)))
words_along q (one_qualifier text rest ts us h w) (no_qualifier ts' none) = absurd (none (subst BeginsQualifier q (refl, h)))
words_along q (one_qualifier text rest ts us h w) (one_qualifier text' rest' ts' us' h' w') =
    let p = same_word q in
    let r = words_along p.1 w w' in
    (ap (λ v. v ∷ rest) p.0 ∙ ap (λ v. text' ∷ v) r.0, r.1)

stars_along : {ts ts' us vs : List Sign} {stars others : List (List (List ℕ))} → ts ≡ ts' → StarsRead ts stars us → StarsRead ts' others vs → (stars ≡ others) × (us ≡ vs)
stars_along q (no_star ts none) (no_star ts' none') = (refl, q)
stars_along q (no_star ts none) (one_star words stars ts' us' vs' w v) = absurd (none (subst (Begins star) (sym q) refl))
stars_along q (one_star words stars ts us vs w v) (no_star ts' none) = absurd (none (subst (Begins star) q refl))
stars_along q (one_star words stars ts us vs w v) (one_star words' stars' ts' us' vs' w' v') =
    let rests : ts ≡ ts' = cc in
    let p = words_along rests w w' in
    let r = stars_along p.1 v v' in
    (ap (λ z. z ∷ stars) p.0 ∙ ap (λ z. words' ∷ z) r.0, r.1)

-- from the same signs the same stars are read
pub stars_same : {ts us vs : List Sign} {stars others : List (List (List ℕ))} → StarsRead ts stars us → StarsRead ts others vs → (stars ≡ others) × (us ≡ vs)
stars_same w v = stars_along refl w v

words_behind : {text : List ℕ} {signs ts us : List Sign} {words : List (List ℕ)} → QualifiersRead signs words us → signs ≡ word text ∷ ts → Contains qualifiers text →
    (rest : List (List ℕ)) × (words ≡ (text ∷ []) ++ rest) × QualifiersRead ts rest us
words_behind (no_qualifier signs none) q h = absurd (none (qualifier_begins q h))
words_behind (one_qualifier own rest left us g w) q h =
    let p = same_word q in
    (rest, ap (λ v. v ∷ rest) p.0, subst (λ v. QualifiersRead v rest us) p.1 w)

-- one qualifier is read
pub word_leads : {text : List ℕ} {signs ts : List Sign} → signs ≡ word text ∷ ts → Contains qualifiers text → Leads (QualifiersRead signs) (text ∷ []) (QualifiersRead ts)
word_leads {text = text} {ts = ts} q h = record {
  forth = λ ys us w. subst (λ v. QualifiersRead v (text ∷ ys) us) (sym q) (one_qualifier text ys ts us h w);
  back = λ zs us w. words_behind w q h;
}

stars_behind : {words : List (List ℕ)} {signs ts us vs : List Sign} {stars : List (List (List ℕ))} → StarsRead signs stars vs → signs ≡ star ∷ ts → QualifiersRead ts words us →
    (rest : List (List (List ℕ))) × (stars ≡ (words ∷ []) ++ rest) × StarsRead us rest vs
stars_behind (no_star signs none) q w = absurd (none (subst (Begins star) (sym q) refl))
stars_behind {ts = ts} (one_star own stars left us vs u v) q w =
    let p : left ≡ ts = cc in
    let r = words_along p u w in
    (stars, ap (λ z. z ∷ stars) r.0, subst (λ z. StarsRead z stars vs) r.1 v)

-- one star is read with the qualifiers behind it
pub star_leads : {words : List (List ℕ)} {signs ts us : List Sign} → signs ≡ star ∷ ts → QualifiersRead ts words us → Leads (StarsRead signs) (words ∷ []) (StarsRead us)
star_leads {words = words} {ts = ts} {us = us} q w = record {
  forth = λ ys vs v. subst (λ u. StarsRead u (words ∷ ys) vs) (sym q) (one_star words ys ts us vs w v);
  back = λ zs vs v. stars_behind v q w;
}

-- a qualifier is a word
pub qualifier_word : (ts : List Sign) → BeginsQualifier ts → BeginsWord ts
qualifier_word [] b = b
qualifier_word (t ∷ ts) b = b.0
