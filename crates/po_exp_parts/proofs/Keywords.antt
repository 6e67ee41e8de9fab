-- Words in lists of words that are written out.
use Rattle.std.proofs.Common.{◌≡◌, ℕ, zero, suc, ◌<◌, List, [], ◌∷◌, length, ap, sym, ◌∙◌, refl, arith, Bool, true, false, not, bytes_eq, true≢false}
use Rattle.std.specs.Prelude.{Contains, codes, slice_index_or}
use Rattle.std.specs.List.{list_any, list_all}
use Rattle.std.proofs.lemmas.Bool.{and_parts}
use Rattle.std.proofs.lemmas.Cmp.{nat_list_eq_equiv}
use Rattle.std.proofs.lemmas.Slice.Eq.{bytes_eq-Decides}
use Rattle.std.proofs.lemmas.Map.Views.{Contains-from_any, list_any-from_Contains}
use Rattle.po_lists.proofs.Booleans.{false_unless_true}
use Rattle.po_tree.specs.Words.{keywords, IsName, type_words, qualifiers}
use Rattle.po_exp_parts.specs.TypeWords.{type_keywords}

-- whether a word is one of these
abbrev pub is_among : List (List ℕ) → List ℕ → Bool
is_among words text = list_any (bytes_eq text) words

-- what is tested of all words of a list holds of a word in it
pub each_tested : (test : List ℕ → Bool) (words : List (List ℕ)) (text : List ℕ) (n : ℕ) →
    list_all test words ≡ true → n < length words → slice_index_or words n text ≡ text → test text ≡ true
each_tested test [] text n h l w = absurd (omega arith)
each_tested test (x ∷ xs) text zero h l w = sym (ap test w) ∙ (and_parts (test x) (list_all test xs) h).0
each_tested test (x ∷ xs) text (suc n) h l w = each_tested test xs text n (and_parts (test x) (list_all test xs) h).1 (omega arith) w

-- what is found among words is one of them, and the other way round
pub found_among : (words : List (List ℕ)) (text : List ℕ) → is_among words text ≡ true → Contains words text
found_among words text h = Contains-from_any (λ x y w. (bytes_eq-Decides x y).0 w) text words h

pub among_found : (words : List (List ℕ)) (text : List ℕ) → Contains words text → is_among words text ≡ true
among_found words text h = list_any-from_Contains nat_list_eq_equiv text words h

-- what is none of them is not found among them
pub among_none : (words : List (List ℕ)) (text : List ℕ) → (Contains words text → ⊥) → is_among words text ≡ false
among_none words text none = false_unless_true (is_among words text) (λ h. none (found_among words text h))

-- a word of the first list is in the second
pub within : (xs ys : List (List ℕ)) (text : List ℕ) → list_all (is_among ys) xs ≡ true → Contains xs text → Contains ys text
within xs ys text all h = found_among ys text (each_tested (is_among ys) xs text h.0 all h.1 h.2)

-- a word of the first list is not in the second
apart : (xs ys : List (List ℕ)) (text : List ℕ) → list_all (λ x. not (is_among ys x)) xs ≡ true → Contains xs text → Contains ys text → ⊥
apart xs ys text all h g =
    let there = among_found ys text g in
    let not_there : not (is_among ys text) ≡ true = each_tested (λ x. not (is_among ys x)) xs text h.0 all h.1 h.2 in
    true≢false (sym not_there ∙ ap not there)

-- no keyword with which a type name begins is a name
pub type_keyword_name : (text : List ℕ) → Contains type_keywords text → IsName text → ⊥
type_keyword_name text h name = name (within type_keywords keywords text refl h)

-- no word of types is a name
pub type_word_name : (text : List ℕ) → Contains type_words text → IsName text → ⊥
type_word_name text h name = name (within type_words keywords text refl h)

-- no qualifier is a name
pub qualifier_name : (text : List ℕ) → Contains qualifiers text → IsName text → ⊥
qualifier_name text h name = name (within qualifiers keywords text refl h)

-- no word of types is a qualifier
pub type_word_qualifier : (text : List ℕ) → Contains type_words text → Contains qualifiers text → ⊥
type_word_qualifier text h g = apart type_words qualifiers text refl h g

-- a type name may begin with a word of types, a qualifier, `struct` or `enum`
pub type_word_begins : (text : List ℕ) → Contains type_words text → Contains type_keywords text
type_word_begins text h = within type_words type_keywords text refl h

pub qualifier_begins : (text : List ℕ) → Contains qualifiers text → Contains type_keywords text
qualifier_begins text h = within qualifiers type_keywords text refl h

pub struct_begins : Contains type_keywords (codes "struct")
struct_begins = found_among type_keywords (codes "struct") refl

pub enum_begins : Contains type_keywords (codes "enum")
enum_begins = found_among type_keywords (codes "enum") refl

-- no type name begins with `sizeof`, and it is no name
pub sizeof_type : Contains type_keywords (codes "sizeof") → ⊥
sizeof_type h = true≢false (sym (among_found type_keywords (codes "sizeof") h))

pub sizeof_name : IsName (codes "sizeof") → ⊥
sizeof_name name = name (found_among keywords (codes "sizeof") refl)
