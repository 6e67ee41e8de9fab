-- What a word is among specifiers.
use Rattle.std.proofs.Common.{◌≡◌, ℕ, List, [], ◌∷◌, ap, refl, true, bytes_eq, cond, codes}
use Rattle.std.specs.Prelude.{Contains}
use Rattle.std.specs.List.{list_all}
use Rattle.std.proofs.lemmas.Slice.Eq.{bytes_eq-Decides}
use Rattle.po_tree.specs.Words.{keywords, IsName, storage_classes, type_words, qualifiers}
use Rattle.po_exp_parts.proofs.Keywords.{is_among, among_none, within, each_tested}

-- its class: 1 for a qualifier, 2 for a word of types, 3 for `struct`, 4 for `enum`, 5 for a storage class, 6 for `inline`, 7 for another
abbrev pub class_word : List ℕ → ℕ
class_word text =
    cond (is_among qualifiers text) 1 (cond (is_among type_words text) 2
    (cond (is_among (codes "struct" ∷ []) text) 3 (cond (is_among (codes "enum" ∷ []) text) 4
    (cond (is_among storage_classes text) 5 (cond (is_among (codes "inline" ∷ []) text) 6 7)))))

abbrev first_of_all : List ℕ → ℕ
first_of_all [] = 0
first_of_all (n ∷ ns) = n

-- the words of a list have the class that each of them has
told : (n : ℕ) (words : List (List ℕ)) (text : List ℕ) → list_all (λ w. bytes_eq (class_word w ∷ []) (n ∷ [])) words ≡ true → Contains words text → class_word text ≡ n
told n words text all h =
    let each = each_tested (λ w. bytes_eq (class_word w ∷ []) (n ∷ [])) words text h.0 all h.1 h.2 in
    ap first_of_all ((bytes_eq-Decides (class_word text ∷ []) (n ∷ [])).0 each)

pub class_qualifier : (text : List ℕ) → Contains qualifiers text → class_word text ≡ 1
class_qualifier text h = told 1 qualifiers text refl h

pub class_type_word : (text : List ℕ) → Contains type_words text → class_word text ≡ 2
class_type_word text h = told 2 type_words text refl h

pub class_struct : (text : List ℕ) → text ≡ codes "struct" → class_word text ≡ 3
class_struct text q = ap class_word q

pub class_enum : (text : List ℕ) → text ≡ codes "enum" → class_word text ≡ 4
class_enum text q = ap class_word q

pub class_storage : (text : List ℕ) → Contains storage_classes text → class_word text ≡ 5
class_storage text h = told 5 storage_classes text refl h

pub class_inline : (text : List ℕ) → text ≡ codes "inline" → class_word text ≡ 6
class_inline text q = ap class_word q

pub class_name : (text : List ℕ) → IsName text → class_word text ≡ 7
class_name text h =
    rw (
      among_none qualifiers text (λ g. h (within qualifiers keywords text refl g)),
      among_none type_words text (λ g. h (within type_words keywords text refl g)),
      among_none (codes "struct" ∷ []) text (λ g. h (within (codes "struct" ∷ []) keywords text refl g)),
      among_none (codes "enum" ∷ []) text (λ g. h (within (codes "enum" ∷ []) keywords text refl g)),
      among_none storage_classes text (λ g. h (within storage_classes keywords text refl g)),
      among_none (codes "inline" ∷ []) text (λ g. h (within (codes "inline" ∷ []) keywords text refl g)),
    ) refl
