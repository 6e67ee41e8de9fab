-- What specifiers say, by the form of each, and what type names say.
use Rattle.std.proofs.Common.{◌≡◌, ℕ, List, Bool, true, false, Option, Some, None, sym, ◌∙◌, subst, refl}
use Rattle.po_tree.specs.declared.expression.Exp.TheOpen.{Specifier-F}
use Rattle.po_tree.specs.declared.expression.Specifier.{Specifier, out-Specifier}
use Rattle.po_tree.specs.declared.expression.Specifier.TheVariants as sp
use Rattle.po_tree.specs.declared.expression.Member.{Member}
use Rattle.po_tree.specs.declared.expression.Exp.{Exp}
use Rattle.po_types.specs.declared.ctype.CType.{CType}
use Rattle.po_types.specs.declared.ctype.CType.TheVariants as c
use Rattle.po_typed.specs.Forms.{SpecifierLayer}
use Rattle.po_typed.specs.Scopes.{Context, type_name, struct_tag, enum_tag, meaning, tag_meaning}
use Rattle.po_typed.specs.BaseTypes.{IsPlainWord, IsWordType}
use Rattle.po_typed.specs.Expressions.{int, IsInForce, typedef_in_force, struct_in_force, enum_in_force, IsBase, base_words, base_of_one}
use Rattle.po_typed.proofs.OneBase.{one_apart}
use Rattle.po_specified.specs.Words.{IsTheOther}
use Rattle.po_operands.proofs.Layers.{has_specifier_form, of_specifier_form}

module _ (ctx : Context) where
  -- what is in force, by the form of the specifier
  abbrev pub InForce : SpecifierLayer → CType → Type 0
  InForce (Specifier-F.Named name) t = (is_const : Bool) × (meaning ctx name ≡ Some (type_name t is_const))
  InForce (Specifier-F.Struct (Some tag) None) t = (n : ℕ) × ((tag_meaning ctx tag ≡ Some (struct_tag n)) × (c.Struct n ≡ t))
  InForce (Specifier-F.Enum (Some tag) None false) t = tag_meaning ctx tag ≡ Some enum_tag
  InForce _ t = ⊥

  struct_listed : (t : CType) (tag : Option (List ℕ)) (ms : List Member) → InForce (Specifier-F.Struct tag (Some ms)) t → ⊥
  struct_listed t None ms h = h
  struct_listed t (Some x) ms h = h

  struct_untagged : (t : CType) (ms : Option (List Member)) → InForce (Specifier-F.Struct None ms) t → ⊥
  struct_untagged t ms h = h

  enum_closed : (t : CType) (tag : Option (List ℕ)) (items : Option (List (List ℕ × Option Exp))) → InForce (Specifier-F.Enum tag items true) t → ⊥
  enum_closed t None items h = h
  enum_closed t (Some x) None h = h
  enum_closed t (Some x) (Some xs) h = h

  enum_listed : (t : CType) (tag : Option (List ℕ)) (xs : List (List ℕ × Option Exp)) (comma : Bool) → InForce (Specifier-F.Enum tag (Some xs) comma) t → ⊥
  enum_listed t None xs comma h = h
  enum_listed t (Some x) xs comma h = h

  enum_untagged : (t : CType) (items : Option (List (List ℕ × Option Exp))) (comma : Bool) → InForce (Specifier-F.Enum None items comma) t → ⊥
  enum_untagged t items comma h = h

  in_force : {l : SpecifierLayer} {t : CType} → IsInForce ctx l t → InForce l t
  in_force (typedef_in_force h) = (_, h)
  in_force (struct_in_force h) = (_, (h, refl))
  in_force (enum_in_force h) = h

  module _ (s : Specifier) (t : CType) where
    pub no_word : (text : List ℕ) → s ≡ sp.Word text → IsInForce ctx (out-Specifier s) t → ⊥
    no_word text q h = in_force (of_specifier_form (λ l. IsInForce ctx l t) q (sp.rolls-Word text) h)

    pub named : (name : List ℕ) → s ≡ sp.Named name → (is_const : Bool) × (meaning ctx name ≡ Some (type_name t is_const)) → IsInForce ctx (out-Specifier s) t
    named name q h = has_specifier_form (λ l. IsInForce ctx l t) q (sp.rolls-Named name) (typedef_in_force h.1)

    pub by_name : (name : List ℕ) → s ≡ sp.Named name → IsInForce ctx (out-Specifier s) t → (is_const : Bool) × (meaning ctx name ≡ Some (type_name t is_const))
    by_name name q h = in_force (of_specifier_form (λ l. IsInForce ctx l t) q (sp.rolls-Named name) h)

    -- a struct
    module _ (tag : Option (List ℕ)) (members : Option (List Member)) (q : s ≡ sp.Struct tag members) where
      at_struct : IsInForce ctx (out-Specifier s) t → InForce (Specifier-F.Struct tag members) t
      at_struct h = in_force (of_specifier_form (λ l. IsInForce ctx l t) q (sp.rolls-Struct tag members) h)

      pub no_members : (ms : List Member) → members ≡ Some ms → IsInForce ctx (out-Specifier s) t → ⊥
      no_members ms m h = struct_listed t tag ms (subst (λ z. InForce (Specifier-F.Struct tag z) t) m (at_struct h))

      pub tagged : tag ≡ None → IsInForce ctx (out-Specifier s) t → ⊥
      tagged n h = struct_untagged t members (subst (λ z. InForce (Specifier-F.Struct z members) t) n (at_struct h))

      pub struct_said : (name : List ℕ) → tag ≡ Some name → members ≡ None → IsInForce ctx (out-Specifier s) t → (n : ℕ) × ((tag_meaning ctx name ≡ Some (struct_tag n)) × (c.Struct n ≡ t))
      struct_said name e m h = subst (λ z. InForce (Specifier-F.Struct (Some name) z) t) m (subst (λ z. InForce (Specifier-F.Struct z members) t) e (at_struct h))

      pub struct_named : (name : List ℕ) (n : ℕ) → tag ≡ Some name → members ≡ None → tag_meaning ctx name ≡ Some (struct_tag n) → c.Struct n ≡ t → IsInForce ctx (out-Specifier s) t
      struct_named name n e m h f = has_specifier_form (λ l. IsInForce ctx l t) q (sp.rolls-Struct tag members) (rw (e, m, ← f) (struct_in_force h))

    -- an enumeration
    module _ (tag : Option (List ℕ)) (items : Option (List (List ℕ × Option Exp))) (comma : Bool) (q : s ≡ sp.Enum tag items comma) where
      at_enum : IsInForce ctx (out-Specifier s) t → InForce (Specifier-F.Enum tag items comma) t
      at_enum h = in_force (of_specifier_form (λ l. IsInForce ctx l t) q (sp.rolls-Enum tag items comma) h)

      pub no_comma : comma ≡ true → IsInForce ctx (out-Specifier s) t → ⊥
      no_comma e h = enum_closed t tag items (subst (λ z. InForce (Specifier-F.Enum tag items z) t) e (at_enum h))

      pub no_items : (xs : List (List ℕ × Option Exp)) → items ≡ Some xs → IsInForce ctx (out-Specifier s) t → ⊥
      no_items xs e h = enum_listed t tag xs comma (subst (λ z. InForce (Specifier-F.Enum tag z comma) t) e (at_enum h))

      pub tagged_enum : tag ≡ None → IsInForce ctx (out-Specifier s) t → ⊥
      tagged_enum e h = enum_untagged t items comma (subst (λ z. InForce (Specifier-F.Enum z items comma) t) e (at_enum h))

      pub enum_said : (name : List ℕ) → tag ≡ Some name → items ≡ None → comma ≡ false → IsInForce ctx (out-Specifier s) t → tag_meaning ctx name ≡ Some enum_tag
      enum_said name e m f h = subst (λ z. InForce (Specifier-F.Enum (Some name) None z) t) f (subst (λ z. InForce (Specifier-F.Enum (Some name) z comma) t) m (subst (λ z. InForce (Specifier-F.Enum z items comma) t) e (at_enum h)))

      pub enum_named : (name : List ℕ) → tag ≡ Some name → items ≡ None → comma ≡ false → tag_meaning ctx name ≡ Some enum_tag → int ≡ t → IsInForce ctx (out-Specifier s) t
      enum_named name e m f h g = has_specifier_form (λ l. IsInForce ctx l t) q (sp.rolls-Enum tag items comma) (rw (e, m, f, ← g) (enum_in_force h))

  -- what is in force is no plain word
  no_plain_word : (s : Specifier) (t : CType) → IsInForce ctx (out-Specifier s) t → IsPlainWord s → ⊥
  no_plain_word s t h p = no_word s t p.0 p.1 h

  module _ (specs : List Specifier) (no_words : (t : CType) → IsWordType ctx.target specs t → ⊥) where
    pub no_base : ((s : Specifier) → IsTheOther specs s → ⊥) → (t : CType) → IsBase ctx specs t → ⊥
    no_base n t (base_words h) = no_words t h
    no_base n t (base_of_one before after s q b a h) = n s (record { before = before; after = after; split = q; plain_before = b; plain_after = a; other = no_plain_word s t h })

    pub base_from : (s : Specifier) → IsTheOther specs s → (t : CType) → IsInForce ctx (out-Specifier s) t → IsBase ctx specs t
    base_from s o t h = base_of_one o.before o.after s o.split o.plain_before o.plain_after h

    pub from_base : (s : Specifier) → IsTheOther specs s → (t : CType) → IsBase ctx specs t → IsInForce ctx (out-Specifier s) t
    from_base s o t (base_words h) = absurd (no_words t h)
    from_base s o t (base_of_one before after r q b a h) =
        let same : r ≡ s = one_apart IsPlainWord r s after o.after before o.before (sym q ∙ o.split) b o.plain_before (no_plain_word r t h) o.other in
        subst (λ z. IsInForce ctx (out-Specifier z) t) same h
