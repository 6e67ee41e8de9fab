-- `struct` and `enum` among the words of a type name.
use Rattle.std.proofs.Common.{◌≡◌, ◌∙◌, List, ℕ, sym, true≢false, true, refl}
use Rattle.std.specs.Prelude.{codes, Contains}
use Rattle.po_tree.specs.Words.{IsName, keywords, type_words, qualifiers}
use Rattle.po_exp_parts.proofs.Keywords.{is_among, among_found, found_among}

-- `struct` is no `enum`
pub struct_enum : {text : List ℕ} → text ≡ codes "struct" → text ≡ codes "enum" → ⊥
struct_enum h g = let q : codes "struct" ≡ codes "enum" = sym h ∙ g in cc

-- and none of the words of other kinds
pub struct_qualifier : {text : List ℕ} → text ≡ codes "struct" → Contains qualifiers text → ⊥
struct_qualifier h g = let q : is_among qualifiers (codes "struct") ≡ true = among_found qualifiers (codes "struct") (rw h at g) in true≢false (sym q)

pub struct_type_word : {text : List ℕ} → text ≡ codes "struct" → Contains type_words text → ⊥
struct_type_word h g = let q : is_among type_words (codes "struct") ≡ true = among_found type_words (codes "struct") (rw h at g) in true≢false (sym q)

pub struct_name : {text : List ℕ} → text ≡ codes "struct" → IsName text → ⊥
struct_name h name = name (rw h (found_among keywords (codes "struct") refl))

-- nor is `enum`
pub enum_qualifier : {text : List ℕ} → text ≡ codes "enum" → Contains qualifiers text → ⊥
enum_qualifier h g = let q : is_among qualifiers (codes "enum") ≡ true = among_found qualifiers (codes "enum") (rw h at g) in true≢false (sym q)

pub enum_type_word : {text : List ℕ} → text ≡ codes "enum" → Contains type_words text → ⊥
enum_type_word h g = let q : is_among type_words (codes "enum") ≡ true = among_found type_words (codes "enum") (rw h at g) in true≢false (sym q)

pub enum_name : {text : List ℕ} → text ≡ codes "enum" → IsName text → ⊥
enum_name h name = name (rw h (found_among keywords (codes "enum") refl))
