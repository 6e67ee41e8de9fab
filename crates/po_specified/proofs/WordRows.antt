-- The table of counts is that of 6.7.2p2.
use Rattle.std.proofs.Common.{◌≡◌, ℕ, ◌<◌, List, [], ◌∷◌, length, map, get_or, refl, sym, ap, ◌∙◌}
use Rattle.std.specs.Prelude.{Contains}
use Rattle.std.proofs.lemmas.List.{get_or-map, get_or_default}
use Rattle.po_arith.specs.declared.target.Target.{Target}
use Rattle.po_tree.specs.Words.{type_words}
use Rattle.po_types.specs.declared.ctype.CType.{CType}
use Rattle.po_types.specs.Integers.{signed_type, unsigned_type, bool_type, char_type, int_type}
use Rattle.po_typed.specs.BaseTypes.{word_types}
use Rattle.po_specified.specs.declared.word_types.RowType.{RowType}
use Rattle.po_specified.specs.declared.word_types.RowType.TheVariants as r
use Rattle.po_specified.specs.WordTypes.{row_type}
use Rattle.po_specified.proofs.Reordered.{tally}

-- the table of the code
abbrev pub rows : List (List ℕ × RowType)
rows =
    (1 ∷ 0 ∷ 0 ∷ 0 ∷ 0 ∷ 0 ∷ 0 ∷ 0 ∷ [], r.Void) ∷
    (0 ∷ 1 ∷ 0 ∷ 0 ∷ 0 ∷ 0 ∷ 0 ∷ 0 ∷ [], r.Int char_type) ∷
    (0 ∷ 1 ∷ 0 ∷ 0 ∷ 0 ∷ 1 ∷ 0 ∷ 0 ∷ [], r.Int char_type) ∷
    (0 ∷ 1 ∷ 0 ∷ 0 ∷ 0 ∷ 0 ∷ 1 ∷ 0 ∷ [], r.Int (unsigned_type 8)) ∷
    (0 ∷ 0 ∷ 1 ∷ 0 ∷ 0 ∷ 0 ∷ 0 ∷ 0 ∷ [], r.Int (signed_type 16)) ∷
    (0 ∷ 0 ∷ 1 ∷ 0 ∷ 0 ∷ 1 ∷ 0 ∷ 0 ∷ [], r.Int (signed_type 16)) ∷
    (0 ∷ 0 ∷ 1 ∷ 1 ∷ 0 ∷ 0 ∷ 0 ∷ 0 ∷ [], r.Int (signed_type 16)) ∷
    (0 ∷ 0 ∷ 1 ∷ 1 ∷ 0 ∷ 1 ∷ 0 ∷ 0 ∷ [], r.Int (signed_type 16)) ∷
    (0 ∷ 0 ∷ 1 ∷ 0 ∷ 0 ∷ 0 ∷ 1 ∷ 0 ∷ [], r.Int (unsigned_type 16)) ∷
    (0 ∷ 0 ∷ 1 ∷ 1 ∷ 0 ∷ 0 ∷ 1 ∷ 0 ∷ [], r.Int (unsigned_type 16)) ∷
    (0 ∷ 0 ∷ 0 ∷ 1 ∷ 0 ∷ 0 ∷ 0 ∷ 0 ∷ [], r.Int int_type) ∷
    (0 ∷ 0 ∷ 0 ∷ 0 ∷ 0 ∷ 1 ∷ 0 ∷ 0 ∷ [], r.Int int_type) ∷
    (0 ∷ 0 ∷ 0 ∷ 1 ∷ 0 ∷ 1 ∷ 0 ∷ 0 ∷ [], r.Int int_type) ∷
    (0 ∷ 0 ∷ 0 ∷ 0 ∷ 0 ∷ 0 ∷ 1 ∷ 0 ∷ [], r.Int (unsigned_type 32)) ∷
    (0 ∷ 0 ∷ 0 ∷ 1 ∷ 0 ∷ 0 ∷ 1 ∷ 0 ∷ [], r.Int (unsigned_type 32)) ∷
    (0 ∷ 0 ∷ 0 ∷ 0 ∷ 1 ∷ 0 ∷ 0 ∷ 0 ∷ [], r.Long) ∷
    (0 ∷ 0 ∷ 0 ∷ 0 ∷ 1 ∷ 1 ∷ 0 ∷ 0 ∷ [], r.Long) ∷
    (0 ∷ 0 ∷ 0 ∷ 1 ∷ 1 ∷ 0 ∷ 0 ∷ 0 ∷ [], r.Long) ∷
    (0 ∷ 0 ∷ 0 ∷ 1 ∷ 1 ∷ 1 ∷ 0 ∷ 0 ∷ [], r.Long) ∷
    (0 ∷ 0 ∷ 0 ∷ 0 ∷ 1 ∷ 0 ∷ 1 ∷ 0 ∷ [], r.UnsignedLong) ∷
    (0 ∷ 0 ∷ 0 ∷ 1 ∷ 1 ∷ 0 ∷ 1 ∷ 0 ∷ [], r.UnsignedLong) ∷
    (0 ∷ 0 ∷ 0 ∷ 0 ∷ 2 ∷ 0 ∷ 0 ∷ 0 ∷ [], r.Int (signed_type 64)) ∷
    (0 ∷ 0 ∷ 0 ∷ 0 ∷ 2 ∷ 1 ∷ 0 ∷ 0 ∷ [], r.Int (signed_type 64)) ∷
    (0 ∷ 0 ∷ 0 ∷ 1 ∷ 2 ∷ 0 ∷ 0 ∷ 0 ∷ [], r.Int (signed_type 64)) ∷
    (0 ∷ 0 ∷ 0 ∷ 1 ∷ 2 ∷ 1 ∷ 0 ∷ 0 ∷ [], r.Int (signed_type 64)) ∷
    (0 ∷ 0 ∷ 0 ∷ 0 ∷ 2 ∷ 0 ∷ 1 ∷ 0 ∷ [], r.Int (unsigned_type 64)) ∷
    (0 ∷ 0 ∷ 0 ∷ 1 ∷ 2 ∷ 0 ∷ 1 ∷ 0 ∷ [], r.Int (unsigned_type 64)) ∷
    (0 ∷ 0 ∷ 0 ∷ 0 ∷ 0 ∷ 0 ∷ 0 ∷ 1 ∷ [], r.Int bool_type) ∷
    []

same_counts : (target : Target) → map (λ r. tally type_words r.0) (word_types target) ≡ map (λ r. r.0) rows
same_counts target = refl

same_types : (target : Target) → map (λ r. r.1) (word_types target) ≡ map (λ r. row_type target r.1) rows
same_types target = refl

-- a row of one table is a row of the other
pub listed : (target : Target) (counts : List ℕ) (row : RowType) → Contains {X = List ℕ × RowType} rows (counts, row) →
    (words : List (List ℕ)) × Contains {X = List (List ℕ) × CType} (word_types target) (words, row_type target row) × (tally type_words words ≡ counts)
listed target counts row (k, in', is) =
    let d : List (List ℕ) × CType = ([], row_type target row) in
    let here : k < length (word_types target) = in' in
    let own = get_or (word_types target) k d in
    let counted : tally type_words own.0 ≡ counts =
    sym (get_or-map (λ r. tally type_words r.0) (word_types target) k d [] here) ∙ ap (λ l. get_or l k []) (same_counts target) ∙ get_or-map (λ r. r.0) rows k (counts, row) [] in' ∙ ap (λ r. r.0) is in
    let typed : own.1 ≡ row_type target row =
    sym (get_or-map (λ r. r.1) (word_types target) k d (row_type target row) here) ∙ ap (λ l. get_or l k (row_type target row)) (same_types target)
    ∙ get_or-map (λ r. row_type target r.1) rows k (counts, row) (row_type target row) in' ∙ ap (λ r. row_type target r.1) is in
    let pair : own ≡ (own.0, row_type target row) = ap (λ t. (own.0, t)) typed in
    (own.0, (k, here, get_or_default (word_types target) k (own.0, row_type target row) d here ∙ pair), counted)

pub counted : (target : Target) (words : List (List ℕ)) (t : CType) → Contains {X = List (List ℕ) × CType} (word_types target) (words, t) → Contains (map (λ r. r.0) rows) (tally type_words words)
counted target words t (k, in', is) =
    let here : k < length (map (λ r. r.0) rows) = in' in
    (k, here, ap (λ l. get_or l k (tally type_words words)) (sym (same_counts target)) ∙ get_or-map (λ r. tally type_words r.0) (word_types target) k (words, t) (tally type_words words) in' ∙ ap (λ r. tally type_words r.0) is)
