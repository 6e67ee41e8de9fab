-- Specifiers that are words: their type words, and how many there are of each.
use Rattle.std.proofs.Common.{◌≡◌, ℕ, suc, ◌+◌, List, [], ◌∷◌, Bool, true, false, cond, map, refl, sym, ap, ◌∙◌, subst, inl, inr, arith, All, Contains}
use Rattle.std.specs.Prelude.{nat_eq, count_by}
use Rattle.std.specs.List.{AllByRecursion}
use Rattle.std.specs.Cmp.Lexicographic.{pointwise}
use Rattle.std.proofs.lemmas.Slice.Eq.{bytes_eq-Decides}
use Rattle.std.proofs.lemmas.List.Recursion.{is_sum_by}
use Rattle.std.proofs.lemmas.List.Elements.{All-nil, All-cons, All-head, All-tail, All-contains_itself, recursion_from_All}
use Rattle.po_arith.specs.declared.target.Target.{Target}
use Rattle.po_tree.specs.declared.expression.Specifier.{Specifier}
use Rattle.po_tree.specs.declared.expression.Specifier.TheVariants as sp
use Rattle.po_tree.specs.Words.{type_words}
use Rattle.po_types.specs.declared.ctype.CType.{CType}
use Rattle.po_typed.specs.BaseTypes.{TypeWords, no_more_words, word_of_type, other_word, IsWordType}
use Rattle.po_typed.proofs.OneWordType.{out_word}
use Rattle.po_specified.specs.declared.word_types.RowType.{RowType}
use Rattle.po_specified.specs.Words.{says, says_layer, IsSomeWord}
use Rattle.po_specified.specs.WordTypes.{row_type}
use Rattle.po_specified.proofs.Reordered.{times, tally, One_of, one_of, of_row, reordered, tally_kept}
use Rattle.po_specified.proofs.WordRows.{rows, listed, counted}
use Rattle.po_tree.proofs.Sets.{decide_in}

pub worded : (specs : List Specifier) → All IsSomeWord specs → (words : List (List ℕ)) × TypeWords specs words
worded [] all = ([], no_more_words)
worded (s ∷ specs) all =
    let word = All-head IsSomeWord s specs all in
    let rest = worded specs (All-tail IsSomeWord s specs all) in
    elim (decide_in type_words word.0) [
      | inl h ↦ (word.0 ∷ rest.0, subst (λ z. TypeWords (z ∷ specs) (word.0 ∷ rest.0)) (sym word.1) (word_of_type word.0 specs rest.0 h rest.1))
      | inr n ↦ (rest.0, subst (λ z. TypeWords (z ∷ specs) rest.0) (sym word.1) (other_word word.0 specs rest.0 n rest.1))
    ]

pub are_words : {specs : List Specifier} {words : List (List ℕ)} → TypeWords specs words → All IsSomeWord specs
are_words no_more_words = All-nil IsSomeWord
are_words (word_of_type text specs words h d) = All-cons IsSomeWord (sp.Word text) specs (text, refl) (are_words d)
are_words (other_word text specs words h d) = All-cons IsSomeWord (sp.Word text) specs (text, refl) (are_words d)

of_type : {specs : List Specifier} {words : List (List ℕ)} → TypeWords specs words → AllByRecursion (One_of type_words) words
of_type no_more_words = tt
of_type (word_of_type text specs words h d) = (one_of text h, of_type d)
of_type (other_word text specs words h d) = of_type d

-- how many times a word stands among specifiers
abbrev times_in : List ℕ → List Specifier → ℕ
times_in word [] = 0
times_in word (s ∷ specs) = cond (says word s) 1 0 + times_in word specs

times_counted : (word : List ℕ) (specs : List Specifier) → times_in word specs ≡ count_by (says word) specs
times_counted word = is_sum_by (times_in word) (λ s. cond (says word s) 1 0) refl (λ s specs. refl)

said : (word text : List ℕ) → says word (sp.Word text) ≡ pointwise nat_eq text word
said word text = ap (says_layer word) (out_word text)

step : (b : Bool) (n : ℕ) → cond b 1 0 + n ≡ cond b (suc n) n
step true n = omega arith
step false n = omega arith

each_counted : {specs : List Specifier} {words : List (List ℕ)} (name : List ℕ) → Contains type_words name → TypeWords specs words → times_in name specs ≡ times name words
each_counted name is no_more_words = refl
each_counted name is (word_of_type text specs words h d) =
    ap (λ b. cond b 1 0 + times_in name specs) (said name text) ∙ ap (λ n. cond (pointwise nat_eq text name) 1 0 + n) (each_counted name is d) ∙ step (pointwise nat_eq text name) (times name words)
each_counted name is (other_word text specs words h d) =
    let other : pointwise nat_eq text name ≡ false = differ (pointwise nat_eq text name) (λ q. h (subst (Contains type_words) (sym ((bytes_eq-Decides text name).0 q)) is)) in
    ap (λ b. cond b 1 0 + times_in name specs) (said name text ∙ other) ∙ step false (times_in name specs) ∙ each_counted name is d
  where
    differ : (b : Bool) → (b ≡ true → ⊥) → b ≡ false
    differ true n = absurd (n refl)
    differ false n = refl

all_counted : {specs : List Specifier} {words : List (List ℕ)} (names : List (List ℕ)) → AllByRecursion (Contains type_words) names → TypeWords specs words →
    map (λ word. count_by (says word) specs) names ≡ tally names words
all_counted [] all d = refl
all_counted {specs = specs} {words = words} (name ∷ names) all d =
    ap (λ n. n ∷ map (λ word. count_by (says word) specs) names) (sym (times_counted name specs) ∙ each_counted name all.0 d)
    ∙ ap (λ ns. times name words ∷ ns) (all_counted names all.1 d)

tallied : {specs : List Specifier} {words : List (List ℕ)} → TypeWords specs words → map (λ word. count_by (says word) specs) type_words ≡ tally type_words words
tallied d = all_counted type_words (recursion_from_All (Contains type_words) type_words (All-contains_itself type_words)) d

-- the type of the row with the counts of the specifiers
pub typed : (target : Target) (specs : List Specifier) (counts : List ℕ) (row : RowType) → All IsSomeWord specs → counts ≡ map (λ word. count_by (says word) specs) type_words →
    Contains {X = List ℕ × RowType} rows (counts, row) → IsWordType target specs (row_type target row)
typed target specs counts row all q h =
    let (words, d) = worded specs all in
    let (own, there, same) = listed target counts row h in
    let equal : tally type_words words ≡ tally type_words own = sym (tallied d) ∙ sym q ∙ sym same in
    record { words = words; row = own; among = d; reordered = reordered type_words words own (of_type d) (of_row target own (row_type target row) there) equal; listed = there }

-- where no row has the counts the words have no type
pub untyped : (target : Target) (specs : List Specifier) (counts : List ℕ) → counts ≡ map (λ word. count_by (says word) specs) type_words →
    (Contains (map (λ r. r.0) rows) counts → ⊥) → (t : CType) → IsWordType target specs t → ⊥
untyped target specs counts q none t h =
    let same : tally type_words h.row ≡ counts = tally_kept type_words h.words h.row h.reordered ∙ sym (tallied h.among) ∙ sym q in
    none (subst (Contains (map (λ r. r.0) rows)) same (counted target h.row t h.listed))

pub not_words : (target : Target) (specs : List Specifier) → (All IsSomeWord specs → ⊥) → (t : CType) → IsWordType target specs t → ⊥
not_words target specs none t h = none (are_words h.among)
