-- The one specifier that is no plain word.
use Rattle.std.proofs.Common.{◌≡◌, ℕ, ◌+◌, ◌<◌, List, [], ◌∷◌, ◌++◌, length, get_or, take, drop, sym, ap, ◌∙◌, subst, All, Contains}
use Rattle.std.proofs.lemmas.List.{drop_more, take-append-drop}
use Rattle.std.proofs.lemmas.List.Elements.{All-head, All-tail}
use Rattle.po_tree.specs.declared.expression.Specifier.{Specifier}
use Rattle.po_tree.specs.declared.expression.Specifier.TheVariants as sp
use Rattle.po_tree.specs.Words.{type_words}
use Rattle.po_typed.specs.BaseTypes.{IsPlainWord}
use Rattle.po_typed.proofs.OneWordType.{same_text}
use Rattle.po_typed.proofs.OneBase.{first_or, rest_of, none_apart}
use Rattle.po_specified.specs.Words.{IsTheOther}

pub plain : (s : Specifier) (text : List ℕ) → s ≡ sp.Word text → (Contains type_words text → ⊥) → IsPlainWord s
plain s text q n = (text, q, n)

pub not_plain : (s : Specifier) (text : List ℕ) → s ≡ sp.Word text → Contains type_words text → IsPlainWord s → ⊥
not_plain s text q h p = p.2 (subst (Contains type_words) (same_text (sym q ∙ p.1)) h)

-- what stands behind the first one that is none
behind : (s t : Specifier) (after rest before front : List Specifier) → before ++ (s ∷ after) ≡ front ++ (t ∷ rest) →
    All IsPlainWord before → All IsPlainWord front → (IsPlainWord s → ⊥) → (IsPlainWord t → ⊥) → after ≡ rest
behind s t after rest [] [] q h j n m = ap rest_of q
behind s t after rest [] (b ∷ front) q h j n m = absurd (n (subst IsPlainWord (sym (ap (first_or s) q)) (All-head IsPlainWord b front j)))
behind s t after rest (b ∷ before) [] q h j n m = absurd (m (subst IsPlainWord (ap (first_or s) q) (All-head IsPlainWord b before h)))
behind s t after rest (b ∷ before) (d ∷ front) q h j n m =
    behind s t after rest before front (ap rest_of q) (All-tail IsPlainWord b before h) (All-tail IsPlainWord d front j) n m

module _ (specs : List Specifier) where
  pub all_plain : All IsPlainWord specs → (t : Specifier) → IsTheOther specs t → ⊥
  all_plain all t h = none_apart IsPlainWord t h.after h.before (subst (All IsPlainWord) h.split all) h.other

  module _ (i : ℕ) (s : Specifier) (within : i < length specs) (is : s ≡ get_or specs i s) where
    split_here : specs ≡ take i specs ++ (s ∷ drop (i + 1) specs)
    split_here = sym (take-append-drop i specs) ∙ ap (λ z. take i specs ++ z) (drop_more specs i s within ∙ ap (λ z. z ∷ drop (i + 1) specs) (sym is))

    pub the_other : All IsPlainWord (take i specs) → (IsPlainWord s → ⊥) → All IsPlainWord (drop (i + 1) specs) → IsTheOther specs s
    the_other before n after = record { before = take i specs; after = drop (i + 1) specs; split = split_here; plain_before = before; plain_after = after; other = n }

    pub one_more_other : All IsPlainWord (take i specs) → (IsPlainWord s → ⊥) → (All IsPlainWord (drop (i + 1) specs) → ⊥) → (t : Specifier) → IsTheOther specs t → ⊥
    one_more_other before n m t h =
        m (subst (All IsPlainWord) (behind t s h.after (drop (i + 1) specs) h.before (take i specs) (sym h.split ∙ split_here) h.plain_before before h.other n) h.plain_after)
