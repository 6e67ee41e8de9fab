-- Specifiers that declare nothing say one type, and so do type names without arrays.
use Rattle.std.proofs.Common.{◌≡◌, ℕ, List, [], ◌∷◌, ◌++◌, Option, Some, None, Bool, true, false, refl, sym, ap, ◌∙◌, subst, All, Contains}
use Rattle.std.proofs.lemmas.List.Elements.{All-nil, All-cons, All-head, All-tail, All-weaker}
use Rattle.po_arith.specs.declared.target.Target.{Target}
use Rattle.po_tree.specs.declared.expression.Specifier.{Specifier, out-Specifier}
use Rattle.po_tree.specs.declared.expression.Specifier.TheVariants as sp
use Rattle.po_tree.specs.declared.expression.Exp.TheOpen.{Specifier-F}
use Rattle.po_tree.specs.declared.expression.TypeName.{TypeName}
use Rattle.po_types.specs.declared.ctype.CType.{CType}
use Rattle.po_types.specs.declared.ctype.CType.TheVariants as c
use Rattle.po_typed.specs.Forms.{SpecifierLayer}
use Rattle.po_typed.specs.Scopes.{Context, Meaning, Tag, global, function, local, type_name, constant, struct_tag, enum_tag}
use Rattle.po_typed.specs.BaseTypes.{IsPlainWord, TypeWords, no_more_words, word_of_type, other_word, IsWordType, starred}
use Rattle.po_typed.specs.Expressions.{IsInForce, typedef_in_force, struct_in_force, enum_in_force, IsBase, base_words, base_of_one, IsStarredBase}
use Rattle.po_typed.proofs.OneWordType.{out_word, word_type_is_one}

abbrev pub IsWord : SpecifierLayer → Type 0
IsWord (Specifier-F.Word text) = Unit {0}
IsWord _ = ⊥

is_word : (text : List ℕ) → IsWord (out-Specifier (sp.Word text))
is_word text = rw (out_word text) tt

plain_is_word : (s : Specifier) → IsPlainWord s → IsWord (out-Specifier s)
plain_is_word s p = rw p.1 (is_word p.0)

abbrev pub IsWordSpecifier : Specifier → Type 0
IsWordSpecifier s = IsWord (out-Specifier s)

-- each of the specifiers is a word
abbrev pub AreWords : List Specifier → Type 0
AreWords specs = All IsWordSpecifier specs

pub plain_are_words : (specs : List Specifier) → All IsPlainWord specs → AreWords specs
plain_are_words = All-weaker IsPlainWord IsWordSpecifier plain_is_word

type_words_are_words : {specs : List Specifier} {words : List (List ℕ)} → TypeWords specs words → AreWords specs
type_words_are_words no_more_words = All-nil IsWordSpecifier
type_words_are_words (word_of_type text specs words h d) = All-cons IsWordSpecifier (sp.Word text) specs (is_word text) (type_words_are_words d)
type_words_are_words (other_word text specs words h d) = All-cons IsWordSpecifier (sp.Word text) specs (is_word text) (type_words_are_words d)

abbrev pub first_or : Specifier → List Specifier → Specifier
first_or d [] = d
first_or d (s ∷ specs) = s

abbrev pub rest_of : List Specifier → List Specifier
rest_of [] = []
rest_of (s ∷ specs) = specs

-- the one specifier that isn't as the others are
pub one_apart : (P : Specifier → Type 0) (s s' : Specifier) (after after' before before' : List Specifier) → before ++ (s ∷ after) ≡ before' ++ (s' ∷ after') →
    All P before → All P before' → (P s → ⊥) → (P s' → ⊥) → s ≡ s'
one_apart P s s' after after' [] [] q h h' n n' = ap (first_or s) q
one_apart P s s' after after' [] (b ∷ before') q h h' n n' = absurd (n (subst P (sym (ap (first_or s) q)) (All-head P b before' h')))
one_apart P s s' after after' (b ∷ before) [] q h h' n n' = absurd (n' (subst P (ap (first_or s) q) (All-head P b before h)))
one_apart P s s' after after' (b ∷ before) (b' ∷ before') q h h' n n' =
    one_apart P s s' after after' before before' (ap rest_of q) (All-tail P b before h) (All-tail P b' before' h') n n'

-- there is none where all are alike
pub none_apart : {A : Type 0} (P : Specifier → Type 0) (s : Specifier) (after before : List Specifier) → All P (before ++ (s ∷ after)) → (P s → ⊥) → A
none_apart P s after [] h n = absurd (n (All-head P s after h))
none_apart P s after (b ∷ before) h n = none_apart P s after before (All-tail P b (before ++ (s ∷ after)) h) n

pub words_are_words : {target : Target} {specs : List Specifier} {t : CType} → IsWordType target specs t → AreWords specs
words_are_words d = type_words_are_words d.among

abbrev pub type_named : CType → Option Meaning → CType
type_named d (Some (type_name t const)) = t
type_named d _ = d

abbrev pub struct_numbered : ℕ → Option Tag → ℕ
struct_numbered d (Some (struct_tag n)) = n
struct_numbered d _ = d

in_force_is_no_word : {ctx : Context} {s : SpecifierLayer} {t : CType} → IsInForce ctx s t → IsWord s → ⊥
in_force_is_no_word (typedef_in_force h) w = w
in_force_is_no_word (struct_in_force h) w = w
in_force_is_no_word (enum_in_force h) w = w

module _ {ctx : Context} where
  one_in_force : {s : SpecifierLayer} {t u : CType} → IsInForce ctx s t → IsInForce ctx s u → t ≡ u
  one_in_force (typedef_in_force {t = t} h) (typedef_in_force h') = ap (type_named t) (sym h ∙ h')
  one_in_force (struct_in_force {n = n} h) (struct_in_force h') = ap (λ z. c.Struct (struct_numbered n z)) (sym h ∙ h')
  one_in_force (enum_in_force h) (enum_in_force h') = refl

  pub one_base : {specs : List Specifier} {t u : CType} → IsBase ctx specs t → IsBase ctx specs u → t ≡ u
  one_base (base_words d) (base_words d') = word_type_is_one d d'
  one_base (base_words d) (base_of_one before after s q b a d') = none_apart IsWordSpecifier s after before (subst AreWords q (words_are_words d)) (in_force_is_no_word d')
  one_base (base_of_one before after s q b a d) (base_words d') = none_apart IsWordSpecifier s after before (subst AreWords q (words_are_words d')) (in_force_is_no_word d)
  one_base {u = u} (base_of_one before after s q b a d) (base_of_one before' after' s' q' b' a' d') =
      let e : s ≡ s' = one_apart IsWordSpecifier s s' after after' before before' (sym q ∙ q') (plain_are_words before b) (plain_are_words before' b') (in_force_is_no_word d) (in_force_is_no_word d') in
      one_in_force d (subst (λ z. IsInForce ctx (out-Specifier z) u) (sym e) d')

  pub one_starred : {name : TypeName} {t u : CType} → IsStarredBase ctx name t → IsStarredBase ctx name u → t ≡ u
  one_starred {name = name} d d' = d.type ∙ ap (λ z. starred z name.declarator.stars) (one_base d.said d'.said) ∙ sym d'.type
