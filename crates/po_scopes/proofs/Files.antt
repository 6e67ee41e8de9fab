-- What the file's scope says of words and tags.
use Rattle.std.proofs.Common.{◌≡◌, ℕ, get_or, List, [], ◌∷◌, ◌++◌, map, Option, Some, None, Bool, sym, ap, ◌∙◌, ℤ}
use Rattle.std.specs.Prelude.{nat_eq, slice_get}
use Rattle.std.specs.Option.{unwrap_or}
use Rattle.std.proofs.lemmas.Option.{get_or_from_slice_get, unwrap_or-slice_get}
use Rattle.std.specs.Cmp.Lexicographic.{pointwise}
use Rattle.std.specs.Option.{option_map}
use Rattle.std.proofs.lemmas.Map.Made.{lookup-map_values}
use Rattle.po_base.specs.declared.numbers.GlobalNo.{GlobalNo}
use Rattle.po_types.specs.declared.ctype.CType.{CType}
use Rattle.po_types.specs.declared.env.Env.{Env}
use Rattle.po_types.specs.Tables.{found}
use Rattle.po_typed.specs.Scopes.{Block, Meaning, type_name, constant, Tag, struct_tag, enum_tag, first_of, word_in, tag_in}
use Rattle.po_scopes.specs.Standing.{global_meaning, file_words, file_tags, file_block}
use Rattle.po_scopes.proofs.Blocks.{found_append, first_none, word_append, tag_append}

module _ (env : Env) (name : List ℕ) where
  -- the three kinds of words, one after the other
  abbrev pub of_kinds : Option (CType × Option GlobalNo) → Option (CType × Bool) → Option ℤ → Option Meaning
  of_kinds globals typedefs constants = first_of (option_map global_meaning globals) (first_of (option_map (λ t. type_name t.0 t.1) typedefs) (option_map constant constants))

  pub words_by_kind : found (file_words env) name ≡ of_kinds (found env.globals name) (found env.typedefs name) (found env.constants name)
  words_by_kind =
      found_append (map (λ w. (w.0, global_meaning w.1)) env.globals) (map (λ w. (w.0, type_name w.1.0 w.1.1)) env.typedefs ++ map (λ w. (w.0, constant w.1)) env.constants) name
      ∙ ap (λ o. first_of o (found (map (λ w. (w.0, type_name w.1.0 w.1.1)) env.typedefs ++ map (λ w. (w.0, constant w.1)) env.constants) name)) (lookup-map_values global_meaning (pointwise nat_eq name) env.globals)
      ∙ ap (first_of (option_map global_meaning (found env.globals name)))
      (found_append (map (λ w. (w.0, type_name w.1.0 w.1.1)) env.typedefs) (map (λ w. (w.0, constant w.1)) env.constants) name
      ∙ ap (λ o. first_of o (found (map (λ w. (w.0, constant w.1)) env.constants) name)) (lookup-map_values (λ t. type_name t.0 t.1) (pointwise nat_eq name) env.typedefs)
      ∙ ap (first_of (option_map (λ t. type_name t.0 t.1) (found env.typedefs name))) (lookup-map_values constant (pointwise nat_eq name) env.constants))

  -- what is in force where scopes are open inside the file's
  pub word_over : (blocks : List Block) → word_in (blocks ++ file_block env ∷ []) name ≡ first_of (word_in blocks name) (found (file_words env) name)
  word_over blocks = word_append blocks (file_block env ∷ []) name ∙ ap (first_of (word_in blocks name)) (first_none (found (file_words env) name))

  pub tag_over : (blocks : List Block) → tag_in (blocks ++ file_block env ∷ []) name ≡ first_of (tag_in blocks name) (found (file_tags env) name)
  tag_over blocks = tag_append blocks (file_block env ∷ []) name ∙ ap (first_of (tag_in blocks name)) (first_none (found (file_tags env) name))

  -- tags of structs, and then those of enumerations
  pub tags_by_kind : found (file_tags env) name ≡ first_of (option_map struct_tag (found env.tags name)) (found (map (λ tag. (tag, enum_tag)) env.enums) name)
  tags_by_kind =
      found_append (map (λ w. (w.0, struct_tag w.1)) env.tags) (map (λ tag. (tag, enum_tag)) env.enums) name
      ∙ ap (λ o. first_of o (found (map (λ tag. (tag, enum_tag)) env.enums) name)) (lookup-map_values struct_tag (pointwise nat_eq name) env.tags)

  pub struct_first : (n : ℕ) → Some n ≡ found env.tags name → Some (struct_tag n) ≡ found (file_tags env) name
  struct_first n q = sym (tags_by_kind ∙ ap (λ o. first_of (option_map struct_tag o) (found (map (λ tag. (tag, enum_tag)) env.enums) name)) (sym q))

  pub enum_behind : (o : Option Tag) → None ≡ found env.tags name → o ≡ found (map (λ tag. (tag, enum_tag)) env.enums) name → o ≡ found (file_tags env) name
  enum_behind o q h = h ∙ sym (tags_by_kind ∙ ap (λ z. first_of (option_map struct_tag z) (found (map (λ tag. (tag, enum_tag)) env.enums) name)) (sym q))

  -- the kinds of words, one after the other
  pub global_first : (m : CType × Option GlobalNo) → Some m ≡ found env.globals name → Some (global_meaning m) ≡ found (file_words env) name
  global_first m q = sym (words_by_kind ∙ ap (λ o. of_kinds o (found env.typedefs name) (found env.constants name)) (sym q))

  pub typedef_second : (t : CType × Bool) → None ≡ found env.globals name → Some t ≡ found env.typedefs name → Some (type_name t.0 t.1) ≡ found (file_words env) name
  typedef_second t q r = sym (words_by_kind ∙ ap (λ o. of_kinds o (found env.typedefs name) (found env.constants name)) (sym q) ∙ ap (λ o. of_kinds None o (found env.constants name)) (sym r))

  pub constant_third : (o : Option ℤ) → None ≡ found env.globals name → None ≡ found env.typedefs name → o ≡ found env.constants name → option_map constant o ≡ found (file_words env) name
  constant_third o q r s =
      sym (words_by_kind ∙ ap (λ z. of_kinds z (found env.typedefs name) (found env.constants name)) (sym q) ∙ ap (λ z. of_kinds None z (found env.constants name)) (sym r) ∙ ap (of_kinds None None) (sym s))

  -- a scope inside comes first, and then the file's
  pub local_first : (blocks : List Block) (m : Meaning) → Some m ≡ word_in blocks name → Some m ≡ word_in (blocks ++ file_block env ∷ []) name
  local_first blocks m q = sym (word_over blocks ∙ ap (λ o. first_of o (found (file_words env) name)) (sym q))

  pub file_behind : (blocks : List Block) → None ≡ word_in blocks name → found (file_words env) name ≡ word_in (blocks ++ file_block env ∷ []) name
  file_behind blocks q = sym (word_over blocks ∙ ap (λ o. first_of o (found (file_words env) name)) (sym q))

  pub tag_first : (blocks : List Block) (t : Tag) → Some t ≡ tag_in blocks name → Some t ≡ tag_in (blocks ++ file_block env ∷ []) name
  tag_first blocks t q = sym (tag_over blocks ∙ ap (λ o. first_of o (found (file_tags env) name)) (sym q))

  pub tags_behind : (blocks : List Block) → None ≡ tag_in blocks name → found (file_tags env) name ≡ tag_in (blocks ++ file_block env ∷ []) name
  tags_behind blocks q = sym (tag_over blocks ∙ ap (λ o. first_of o (found (file_tags env) name)) (sym q))

-- members of a struct by its number
pub no_member : {V : Type 0} (members : List (List (List ℕ × V))) (n : ℕ) (name : List ℕ) → None ≡ slice_get members n → None ≡ found (get_or members n []) name
no_member members n name q = ap (λ m. found m name) (ap (λ o. unwrap_or o []) q ∙ unwrap_or-slice_get members n [])

pub some_member : {V : Type 0} (members : List (List (List ℕ × V))) (n : ℕ) (m : List (List ℕ × V)) → Some m ≡ slice_get members n → m ≡ get_or members n []
some_member members n m q = sym (get_or_from_slice_get members n m [] (sym q))
