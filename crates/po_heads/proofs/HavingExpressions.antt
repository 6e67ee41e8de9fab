-- Each expression inside a well-formed expression or type name has a head.
use Rattle.std.proofs.Common.{◌≡◌, ℕ, true, List, [], ◌∷◌, ◌++◌, map, flat_map, Option, Some, None, refl, sym, ap, subst, ◌∙◌, false}
use Rattle.std.proofs.lemmas.List.Elements.{All-nil, All-cons, All-append}
use Rattle.po_tree.specs.declared.operator.Infix.{Infix}
use Rattle.po_tree.specs.declared.operator.Infix.TheVariants as i
use Rattle.po_tree.specs.declared.operator.Prefix.{Prefix}
use Rattle.po_tree.specs.declared.operator.Prefix.TheVariants as p
use Rattle.po_tree.specs.declared.operator.Postfix.{Postfix}
use Rattle.po_tree.specs.declared.operator.Postfix.TheVariants as q
use Rattle.po_tree.specs.declared.operator.Selector.{Selector}
use Rattle.po_tree.specs.declared.operator.Selector.TheVariants as s
use Rattle.po_tree.specs.declared.expression.Exp.{Exp, fold-roll-Exp, roll-Exp, out-Exp, out-roll-Exp}
use Rattle.po_tree.specs.declared.expression.Exp.TheVariants as e
use Rattle.po_tree.specs.declared.expression.Exp.TheOpen.{Exp-F, Specifier-F, Suffix-F}
use Rattle.po_tree.specs.declared.expression.Specifier.{Specifier, fold-roll-Specifier, roll-Specifier}
use Rattle.po_tree.specs.declared.expression.Specifier.TheVariants as sp
use Rattle.po_tree.specs.declared.expression.Suffix.{Suffix, fold-roll-Suffix, roll-Suffix}
use Rattle.po_tree.specs.declared.expression.Suffix.TheVariants as su
use Rattle.po_tree.specs.declared.expression.Declarator.{Declarator, fold-roll-Declarator}
use Rattle.po_tree.specs.declared.expression.Member.{Member}
use Rattle.po_tree.specs.declared.expression.Param.{Param}
use Rattle.po_tree.specs.declared.expression.TypeName.{TypeName, fold-roll-TypeName}
use Rattle.po_tree.specs.Operators.{joined, prefixed, postfixed, selected}
use Rattle.po_tree.specs.Expressions.{IsLeaf, variable, integer, one_character, Typed, TypeSpecs, no_more_specs, qualifier, type_word, typedef_name, struct_tag, enum_tag, Formed, leaf, strings, paren, index, call, member, stepped, unary, size_of_type, cast, binary, conditional, AllFormed, no_more, one_more, TypeFormed, type_name, SuffixFormed, plain, arrays, SizesFormed, no_more_sizes, no_size, one_size}
use Rattle.po_tree.specs.Order.{Ordered, all_within, within, expressions, orders_exp, orders_specifier, orders_suffix, orders_declarator, orders_member, orders_param, orders_type}
use Rattle.po_heads.specs.Heads.{Layer, prints_in, prints_head, HasHeads}
use Rattle.po_heads.proofs.Expressions.{orderExp, orderSpecifier, orderSuffix, orderDeclarator, orderTypeName}

-- each of these expressions has a head
pub record Having (xs : List Exp) : Type 0 where
  pub all : HasHeads xs

-- the expressions of each kind of tree have heads

abbrev pub Has : Exp → Type 0
Has x = Having (orderExp x).1

abbrev pub SpecifierHas : Specifier → Type 0
SpecifierHas x = Having (orderSpecifier x).1

abbrev pub SuffixHas : Suffix → Type 0
SuffixHas x = Having (orderSuffix x).1

abbrev pub DeclaratorHas : Declarator → Type 0
DeclaratorHas x = Having (orderDeclarator x).1

pub none : Having []
none = record { all = All-nil (λ x. prints_head x ≡ true) }

pub both : {xs ys : List Exp} → Having xs → Having ys → Having (xs ++ ys)
both {xs} {ys} h k = record { all = All-append (λ x. prints_head x ≡ true) xs ys h.all k.all }

with_head : {x : Exp} {xs : List Exp} → prints_head x ≡ true → Having xs → Having (x ∷ xs)
with_head {x} {xs} h k = record { all = All-cons (λ x. prints_head x ≡ true) x xs h k.all }

prints : (z : Layer) {x : Exp} → roll-Exp z ≡ x → prints_in z ≡ true → prints_head x ≡ true
unfolding prints_head
prints z rolls is = ap (λ v. prints_in (out-Exp v)) (sym rolls) ∙ (ap prints_in (out-roll-Exp z) ∙ is)

-- a tree's expressions are those of its layer
by_form : {o : Layer → Ordered Exp} → ((z : Layer) → orderExp (roll-Exp z) ≡ o z) → (z : Layer) {x : Exp} → roll-Exp z ≡ x → Having (o z).1 → Has x
by_form layer z rolls h = subst Having (ap (λ (v : Ordered Exp). v.1) (sym (layer z)) ∙ ap (λ v. (orderExp v).1) rolls) h

abbrev pub SpecifierForm : Type 0
SpecifierForm = Specifier-F Exp Specifier Suffix Declarator Member Param TypeName

pub by_specifier_form : {o : SpecifierForm → Ordered Specifier} → ((z : SpecifierForm) → orderSpecifier (roll-Specifier z) ≡ o z) → (z : SpecifierForm) {x : Specifier} →
    roll-Specifier z ≡ x → Having (o z).1 → SpecifierHas x
by_specifier_form layer z rolls h = subst Having (ap (λ (v : Ordered Specifier). v.1) (sym (layer z)) ∙ ap (λ v. (orderSpecifier v).1) rolls) h

abbrev pub SuffixForm : Type 0
SuffixForm = Suffix-F Exp Specifier Suffix Declarator Member Param TypeName

pub by_suffix_form : {o : SuffixForm → Ordered Suffix} → ((z : SuffixForm) → orderSuffix (roll-Suffix z) ≡ o z) → (z : SuffixForm) {x : Suffix} →
    roll-Suffix z ≡ x → Having (o z).1 → SuffixHas x
by_suffix_form layer z rolls h = subst Having (ap (λ (v : Ordered Suffix). v.1) (sym (layer z)) ∙ ap (λ v. (orderSuffix v).1) rolls) h

-- specifiers without a body

pub word_has : (text : List ℕ) → SpecifierHas (sp.Word text)
word_has text = by_specifier_form (fold-roll-Specifier _ _ _ _ _ _ _ orders_exp orders_specifier orders_suffix orders_declarator orders_member orders_param orders_type) (Specifier-F.Word text) (sp.rolls-Word text) none

pub name_has : (name : List ℕ) → SpecifierHas (sp.Named name)
name_has name = by_specifier_form (fold-roll-Specifier _ _ _ _ _ _ _ orders_exp orders_specifier orders_suffix orders_declarator orders_member orders_param orders_type) (Specifier-F.Named name) (sp.rolls-Named name) none

pub struct_has : (tag : List ℕ) → SpecifierHas (sp.Struct (Some tag) None)
struct_has tag = by_specifier_form (fold-roll-Specifier _ _ _ _ _ _ _ orders_exp orders_specifier orders_suffix orders_declarator orders_member orders_param orders_type) (Specifier-F.Struct (Some tag) None) (sp.rolls-Struct (Some tag) None) none

pub enum_has : (tag : List ℕ) → SpecifierHas (sp.Enum (Some tag) None false)
enum_has tag = by_specifier_form (fold-roll-Specifier _ _ _ _ _ _ _ orders_exp orders_specifier orders_suffix orders_declarator orders_member orders_param orders_type) (Specifier-F.Enum (Some tag) None false) (sp.rolls-Enum (Some tag) None false) none

pub declarator_of : (stars : List (List (List ℕ))) (name : Option (List ℕ)) (suffix : Suffix) → SuffixHas suffix → DeclaratorHas (record { stars = stars; name = name; suffix = suffix })
declarator_of stars name suffix h = subst Having (ap (λ (v : Ordered Declarator). v.1) (sym (fold-roll-Declarator _ _ _ _ _ _ _ orders_exp orders_specifier orders_suffix orders_declarator orders_member orders_param orders_type (record { stars = stars; name = name; suffix = suffix })))) h

-- sizes, through whatever function passes over what may be missing
arrays_of : (sizes : List (Option Exp)) → ((g : Option Exp → Option (Ordered Exp)) → g None ≡ None → ((x : Exp) → g (Some x) ≡ Some (orderExp x)) → Having (flat_map within (map g sizes))) →
    SuffixHas (su.Arrays sizes)
arrays_of sizes h = by_suffix_form (fold-roll-Suffix _ _ _ _ _ _ _ orders_exp orders_specifier orders_suffix orders_declarator orders_member orders_param orders_type) (Suffix-F.Arrays sizes) (su.rolls-Arrays sizes) (h _ refl (λ x. refl))

-- expressions, by their parts

leaf_has : {types : List (List ℕ)} {x : Exp} {sign : _} → IsLeaf types x sign → Has x
leaf_has (variable name n o) = by_form (fold-roll-Exp _ _ _ _ _ _ _ orders_exp orders_specifier orders_suffix orders_declarator orders_member orders_param orders_type) (Exp-F.Var name) (e.rolls-Var name) (with_head (prints (Exp-F.Var _) (e.rolls-Var _) refl) none)
leaf_has (integer text n) = by_form (fold-roll-Exp _ _ _ _ _ _ _ orders_exp orders_specifier orders_suffix orders_declarator orders_member orders_param orders_type) (Exp-F.Num text) (e.rolls-Num text) (with_head (prints (Exp-F.Num _) (e.rolls-Num _) refl) none)
leaf_has (one_character text n) = by_form (fold-roll-Exp _ _ _ _ _ _ _ orders_exp orders_specifier orders_suffix orders_declarator orders_member orders_param orders_type) (Exp-F.Chr text) (e.rolls-Chr text) (with_head (prints (Exp-F.Chr _) (e.rolls-Chr _) refl) none)

prefixed_has : (o : Prefix) (x : Exp) → Has x → Has (prefixed o x)
prefixed_has p.Increment x h = by_form (fold-roll-Exp _ _ _ _ _ _ _ orders_exp orders_specifier orders_suffix orders_declarator orders_member orders_param orders_type) (Exp-F.PreInc x) (e.rolls-PreInc x) (with_head (prints (Exp-F.PreInc _) (e.rolls-PreInc _) refl) h)
prefixed_has p.Decrement x h = by_form (fold-roll-Exp _ _ _ _ _ _ _ orders_exp orders_specifier orders_suffix orders_declarator orders_member orders_param orders_type) (Exp-F.PreDec x) (e.rolls-PreDec x) (with_head (prints (Exp-F.PreDec _) (e.rolls-PreDec _) refl) h)
prefixed_has p.Address x h = by_form (fold-roll-Exp _ _ _ _ _ _ _ orders_exp orders_specifier orders_suffix orders_declarator orders_member orders_param orders_type) (Exp-F.Addr x) (e.rolls-Addr x) (with_head (prints (Exp-F.Addr _) (e.rolls-Addr _) refl) h)
prefixed_has p.Indirection x h = by_form (fold-roll-Exp _ _ _ _ _ _ _ orders_exp orders_specifier orders_suffix orders_declarator orders_member orders_param orders_type) (Exp-F.Deref x) (e.rolls-Deref x) (with_head (prints (Exp-F.Deref _) (e.rolls-Deref _) refl) h)
prefixed_has p.Plus x h = by_form (fold-roll-Exp _ _ _ _ _ _ _ orders_exp orders_specifier orders_suffix orders_declarator orders_member orders_param orders_type) (Exp-F.Plus x) (e.rolls-Plus x) (with_head (prints (Exp-F.Plus _) (e.rolls-Plus _) refl) h)
prefixed_has p.Minus x h = by_form (fold-roll-Exp _ _ _ _ _ _ _ orders_exp orders_specifier orders_suffix orders_declarator orders_member orders_param orders_type) (Exp-F.Minus x) (e.rolls-Minus x) (with_head (prints (Exp-F.Minus _) (e.rolls-Minus _) refl) h)
prefixed_has p.Complement x h = by_form (fold-roll-Exp _ _ _ _ _ _ _ orders_exp orders_specifier orders_suffix orders_declarator orders_member orders_param orders_type) (Exp-F.Compl x) (e.rolls-Compl x) (with_head (prints (Exp-F.Compl _) (e.rolls-Compl _) refl) h)
prefixed_has p.Not x h = by_form (fold-roll-Exp _ _ _ _ _ _ _ orders_exp orders_specifier orders_suffix orders_declarator orders_member orders_param orders_type) (Exp-F.Not x) (e.rolls-Not x) (with_head (prints (Exp-F.Not _) (e.rolls-Not _) refl) h)
prefixed_has p.Size x h = by_form (fold-roll-Exp _ _ _ _ _ _ _ orders_exp orders_specifier orders_suffix orders_declarator orders_member orders_param orders_type) (Exp-F.SizeExp x) (e.rolls-SizeExp x) (with_head (prints (Exp-F.SizeExp _) (e.rolls-SizeExp _) refl) h)

postfixed_has : (o : Postfix) (x : Exp) → Has x → Has (postfixed o x)
postfixed_has q.Increment x h = by_form (fold-roll-Exp _ _ _ _ _ _ _ orders_exp orders_specifier orders_suffix orders_declarator orders_member orders_param orders_type) (Exp-F.PostInc x) (e.rolls-PostInc x) (both h (with_head (prints (Exp-F.PostInc _) (e.rolls-PostInc _) refl) none))
postfixed_has q.Decrement x h = by_form (fold-roll-Exp _ _ _ _ _ _ _ orders_exp orders_specifier orders_suffix orders_declarator orders_member orders_param orders_type) (Exp-F.PostDec x) (e.rolls-PostDec x) (both h (with_head (prints (Exp-F.PostDec _) (e.rolls-PostDec _) refl) none))

selected_has : (o : Selector) (x : Exp) (name : List ℕ) → Has x → Has (selected o x name)
selected_has s.Dot x name h = by_form (fold-roll-Exp _ _ _ _ _ _ _ orders_exp orders_specifier orders_suffix orders_declarator orders_member orders_param orders_type) (Exp-F.Dot x name) (e.rolls-Dot x name) (both h (with_head (prints (Exp-F.Dot _ _) (e.rolls-Dot _ _) refl) none))
selected_has s.Arrow x name h = by_form (fold-roll-Exp _ _ _ _ _ _ _ orders_exp orders_specifier orders_suffix orders_declarator orders_member orders_param orders_type) (Exp-F.Arrow x name) (e.rolls-Arrow x name) (both h (with_head (prints (Exp-F.Arrow _ _) (e.rolls-Arrow _ _) refl) none))

joined_has : (o : Infix) (x y : Exp) → Has x → Has y → Has (joined o x y)
joined_has (i.Plain o) x y h k = by_form (fold-roll-Exp _ _ _ _ _ _ _ orders_exp orders_specifier orders_suffix orders_declarator orders_member orders_param orders_type) (Exp-F.Binary o x y) (e.rolls-Binary o x y) (both h (with_head (prints (Exp-F.Binary _ _ _) (e.rolls-Binary _ _ _) refl) k))
joined_has i.And x y h k = by_form (fold-roll-Exp _ _ _ _ _ _ _ orders_exp orders_specifier orders_suffix orders_declarator orders_member orders_param orders_type) (Exp-F.LogAnd x y) (e.rolls-LogAnd x y) (both h (with_head (prints (Exp-F.LogAnd _ _) (e.rolls-LogAnd _ _) refl) k))
joined_has i.Or x y h k = by_form (fold-roll-Exp _ _ _ _ _ _ _ orders_exp orders_specifier orders_suffix orders_declarator orders_member orders_param orders_type) (Exp-F.LogOr x y) (e.rolls-LogOr x y) (both h (with_head (prints (Exp-F.LogOr _ _) (e.rolls-LogOr _ _) refl) k))
joined_has (i.Set o) x y h k = by_form (fold-roll-Exp _ _ _ _ _ _ _ orders_exp orders_specifier orders_suffix orders_declarator orders_member orders_param orders_type) (Exp-F.Assign o x y) (e.rolls-Assign o x y) (both h (with_head (prints (Exp-F.Assign _ _ _) (e.rolls-Assign _ _ _) refl) k))
joined_has i.Comma x y h k = by_form (fold-roll-Exp _ _ _ _ _ _ _ orders_exp orders_specifier orders_suffix orders_declarator orders_member orders_param orders_type) (Exp-F.Comma x y) (e.rolls-Comma x y) (both h (with_head (prints (Exp-F.Comma _ _) (e.rolls-Comma _ _) refl) k))

pub type_specs_have : {types : List (List ℕ)} {seen : Typed} {specs : List Specifier} → TypeSpecs types seen specs → Having (all_within (map orderSpecifier specs))
type_specs_have (no_more_specs seen) = none
type_specs_have (qualifier seen text rest w t) = both (word_has text) (type_specs_have t)
type_specs_have (type_word seen text rest w h t) = both (word_has text) (type_specs_have t)
type_specs_have (typedef_name name rest n h t) = both (name_has name) (type_specs_have t)
type_specs_have (struct_tag tag rest n t) = both (struct_has tag) (type_specs_have t)
type_specs_have (enum_tag tag rest n t) = both (enum_has tag) (type_specs_have t)

mutual
  pub formed_has : {types : List (List ℕ)} {m : ℕ} {x : Exp} → Formed types m x → Has x
  formed_has (leaf x sign l) = leaf_has l
  formed_has (strings text texts all) = by_form (fold-roll-Exp _ _ _ _ _ _ _ orders_exp orders_specifier orders_suffix orders_declarator orders_member orders_param orders_type) (Exp-F.Str (text ∷ texts)) (e.rolls-Str (text ∷ texts)) (with_head (prints (Exp-F.Str (text ∷ texts)) (e.rolls-Str (text ∷ texts)) refl) none)
  formed_has (paren m x f) = by_form (fold-roll-Exp _ _ _ _ _ _ _ orders_exp orders_specifier orders_suffix orders_declarator orders_member orders_param orders_type) (Exp-F.Paren x) (e.rolls-Paren x) (with_head (prints (Exp-F.Paren _) (e.rolls-Paren _) refl) (formed_has f))
  formed_has (index m x y f g) = by_form (fold-roll-Exp _ _ _ _ _ _ _ orders_exp orders_specifier orders_suffix orders_declarator orders_member orders_param orders_type) (Exp-F.Index x y) (e.rolls-Index x y) (both (formed_has f) (with_head (prints (Exp-F.Index _ _) (e.rolls-Index _ _) refl) (formed_has g)))
  formed_has (call x xs f g) = by_form (fold-roll-Exp _ _ _ _ _ _ _ orders_exp orders_specifier orders_suffix orders_declarator orders_member orders_param orders_type) (Exp-F.Call x xs) (e.rolls-Call x xs) (both (formed_has f) (with_head (prints (Exp-F.Call _ _) (e.rolls-Call _ _) refl) (all_formed_have g)))
  formed_has (member o x name n f) = selected_has o x name (formed_has f)
  formed_has (stepped o x f) = postfixed_has o x (formed_has f)
  formed_has (unary o m x l f) = prefixed_has o x (formed_has f)
  formed_has (size_of_type t f) = by_form (fold-roll-Exp _ _ _ _ _ _ _ orders_exp orders_specifier orders_suffix orders_declarator orders_member orders_param orders_type) (Exp-F.SizeType t) (e.rolls-SizeType t) (with_head (prints (Exp-F.SizeType _) (e.rolls-SizeType _) refl) (type_has f))
  formed_has (cast m t x l f g) = by_form (fold-roll-Exp _ _ _ _ _ _ _ orders_exp orders_specifier orders_suffix orders_declarator orders_member orders_param orders_type) (Exp-F.Cast t x) (e.rolls-Cast t x) (with_head (prints (Exp-F.Cast _ _) (e.rolls-Cast _ _) refl) (both (type_has f) (formed_has g)))
  formed_has (binary o m k x y w l r f g) = joined_has o x y (formed_has f) (formed_has g)
  formed_has (conditional m n k x y z l r f g h) = by_form (fold-roll-Exp _ _ _ _ _ _ _ orders_exp orders_specifier orders_suffix orders_declarator orders_member orders_param orders_type) (Exp-F.Cond x y z) (e.rolls-Cond x y z) (both (formed_has f) (with_head (prints (Exp-F.Cond _ _ _) (e.rolls-Cond _ _ _) refl) (both (formed_has g) (formed_has h))))

  all_formed_have : {types : List (List ℕ)} {xs : List Exp} → AllFormed types xs → Having (all_within (map orderExp xs))
  all_formed_have no_more = none
  all_formed_have (one_more m x xs l f g) = both (formed_has f) (all_formed_have g)

  type_has : {types : List (List ℕ)} {t : TypeName} → TypeFormed types t → Having (orderTypeName t).1
  type_has (type_name spec specs stars suffix t q f) =
      subst Having (ap (λ (v : Ordered TypeName). v.1) (sym (fold-roll-TypeName _ _ _ _ _ _ _ orders_exp orders_specifier orders_suffix orders_declarator orders_member orders_param orders_type (record { specs = spec ∷ specs; declarator = record { stars = stars; name = None; suffix = suffix } }))))
      (both (type_specs_have t) (declarator_of stars None suffix (suffix_has f)))

  pub suffix_has : {types : List (List ℕ)} {suffix : Suffix} → SuffixFormed types suffix → SuffixHas suffix
  suffix_has plain = by_suffix_form (fold-roll-Suffix _ _ _ _ _ _ _ orders_exp orders_specifier orders_suffix orders_declarator orders_member orders_param orders_type) Suffix-F.Plain su.rolls-Plain none
  suffix_has (arrays size sizes f) = arrays_of (size ∷ sizes) (λ g q r. sizes_have g q r f)

  sizes_have : (g : Option Exp → Option (Ordered Exp)) → g None ≡ None → ((x : Exp) → g (Some x) ≡ Some (orderExp x)) → {types : List (List ℕ)} {sizes : List (Option Exp)} →
      SizesFormed types sizes → Having (flat_map within (map g sizes))
  sizes_have g q r no_more_sizes = none
  sizes_have g q r (no_size sizes f) = rw q (sizes_have g q r f)
  sizes_have g q r (one_size m x sizes l f h) = rw (r x) (both (formed_has f) (sizes_have g q r h))

pub expression_has : {types : List (List ℕ)} {m : ℕ} {x : Exp} → Formed types m x → Having (expressions x)
unfolding expressions
expression_has f = formed_has f
