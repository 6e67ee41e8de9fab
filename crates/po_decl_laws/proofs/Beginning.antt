-- How a list of specifiers begins: with the body of a struct, or with a specifier that is read; and with a word in both.
use Rattle.std.proofs.Common.{◌≡◌, ℕ, ◌≤◌, List, [], ◌∷◌, ◌++◌, flat_map, Bool, false, refl, sym, ap, subst, arith, codes, ◌⊎◌, inl, inr}
use Rattle.std.specs.Prelude.{Option, Some, None}
use Rattle.po_base.specs.declared.token.TokenKind.TheVariants as k
use Rattle.po_tree.specs.declared.expression.Exp.{Exp}
use Rattle.po_tree.specs.declared.expression.Member.{Member}
use Rattle.po_tree.specs.declared.expression.Specifier.{Specifier}
use Rattle.po_tree.specs.declared.expression.Specifier.TheVariants as sp
use Rattle.po_tree.specs.Signs.{Sign, word, brace}
use Rattle.po_tree.specs.Heights.{specifier_height}
use Rattle.po_tree.specs.Printing.{flat_specifier}
use Rattle.po_tree.specs.Layers.{flat_specifier-Word, flat_specifier-Named, flat_specifier-struct, flat_specifier-enum}
use Rattle.po_tree.specs.Expressions.{Typed, untyped, by_name}
use Rattle.po_tree.specs.Declarations.{Specs, no_more_specs, storage_class, inline_word, qualifier, type_word, typedef_name, struct_tag, struct_body, enum_tag, enum_body, IsTag, Members}
use Rattle.po_exp_parts.specs.Places.{Begins, BeginsWord}
use Rattle.po_decl_parts.specs.Printed.{BeginsSpecifiers, HasMembers}
use Rattle.po_decl_parts.proofs.PrintedSpecifiers.{flat_specifier-body, specifier_complete}
use Rattle.po_decl_laws.specs.Fronts.{EndsSpecifiers}
use Rattle.po_decl_laws.proofs.Layers.{flat_specifier-members}
use Rattle.po_decl_laws.proofs.Fronts.{ends_no_brace}

-- a specifier begins with a word
pub record FirstWord (spec : Specifier) : Type 0 where
  pub text : List ℕ
  pub behind : List Sign
  pub first : flat_specifier spec ≡ word text ∷ behind

pub data Begun (outer free : Bool) (types : List (List ℕ)) (seen : Typed) : List Specifier → List (List ℕ) → Typed → Type 0 where
  nothing : Begun outer free types seen [] types seen
  a_body : (inner final : List (List ℕ)) (sort : Typed) (tag : Option (List ℕ)) (m : Member) (ms : List Member) (rest : List Specifier) → seen ≡ untyped → IsTag tag →
      Members types (m ∷ ms) inner → Specs outer free inner by_name rest final sort → Begun outer free types seen (sp.Struct tag (Some (m ∷ ms)) ∷ rest) final sort
  a_specifier : (still : Bool) (behind final : List (List ℕ)) (now sort : Typed) (spec : Specifier) (rest : List Specifier) → FirstWord spec → (HasMembers spec → ⊥) →
      Specs outer still behind now rest final sort → Begun outer free types seen (spec ∷ rest) final sort

word_bare : {text : List ℕ} → HasMembers (sp.Word text) → ⊥
word_bare (tag, ms, q) = cc

named_bare : {text : List ℕ} → HasMembers (sp.Named text) → ⊥
named_bare (tag, ms, q) = cc

tag_bare : {own : Option (List ℕ)} → HasMembers (sp.Struct own None) → ⊥
tag_bare (tag, ms, q) = cc

enum_bare : (own : Option (List ℕ)) (items : Option (List (List ℕ × Option Exp))) (more : Bool) → HasMembers (sp.Enum own items more) → ⊥
enum_bare own items more (tag, ms, q) = cc

by_word : {outer free still : Bool} {types behind final : List (List ℕ)} {seen now sort : Typed} (text : List ℕ) (rest : List Specifier) → Specs outer still behind now rest final sort →
    Begun outer free types seen (sp.Word text ∷ rest) final sort
by_word text rest w = a_specifier _ _ _ _ _ (sp.Word text) rest (record { text = text; behind = []; first = flat_specifier-Word text }) word_bare w

pub begun : {outer free : Bool} {types final : List (List ℕ)} {seen sort : Typed} {specs : List Specifier} → Specs outer free types seen specs final sort → Begun outer free types seen specs final sort
begun (no_more_specs outer free types seen) = nothing
begun (storage_class outer types types' seen seen' text rest h w) = by_word text rest w
begun (inline_word outer free types types' seen seen' rest is w) = by_word (codes "inline") rest w
begun (qualifier outer free types types' seen seen' text rest h w) = by_word text rest w
begun (type_word outer free types types' seen seen' text rest h t w) = by_word text rest w
begun (typedef_name outer free types types' seen' name rest is c w) = a_specifier _ _ _ _ _ (sp.Named name) rest (record { text = name; behind = []; first = flat_specifier-Named name }) named_bare w
begun (struct_tag outer free types types' seen' tag rest is w) =
    a_specifier _ _ _ _ _ (sp.Struct (Some tag) None) rest (record { text = codes "struct"; behind = word tag ∷ []; first = flat_specifier-struct tag }) tag_bare w
begun (struct_body outer free types inner types' seen' tag m ms rest is v w) = a_body inner types' seen' tag m ms rest refl is v w
begun (enum_tag outer free types types' seen' tag rest is w) =
    a_specifier _ _ _ _ _ (sp.Enum (Some tag) None false) rest (record { text = codes "enum"; behind = word tag ∷ []; first = flat_specifier-enum tag }) (enum_bare (Some tag) None false) w
begun (enum_body outer free more types inner types' seen' tag item items rest is v w) =
    a_specifier _ _ _ _ _ (sp.Enum tag (Some (item ∷ items)) more) rest (record { text = codes "enum"; behind = _; first = flat_specifier-body tag (item ∷ items) more }) (enum_bare tag (Some (item ∷ items)) more) w

-- what specifiers and what ends them print begins with no brace
begun_no_brace : {outer free : Bool} {types final : List (List ℕ)} {seen sort : Typed} {specs : List Specifier} (us : List Sign) → Begun outer free types seen specs final sort → EndsSpecifiers final sort us →
    Begins brace (flat_map flat_specifier specs ++ us) → ⊥
begun_no_brace us nothing e q = ends_no_brace e q
begun_no_brace us (a_body inner final sort tag m ms rest r is v w) e q =
    let kinds : k.Word ≡ k.Punct = ap (λ v. v.kind) (subst (Begins brace) (ap (λ v. (v ++ flat_map flat_specifier rest) ++ us) (flat_specifier-members tag (m ∷ ms))) q) in cc
begun_no_brace us (a_specifier still behind final now sort spec rest f bare w) e q =
    let kinds : k.Word ≡ k.Punct = ap (λ v. v.kind) (subst (Begins brace) (ap (λ v. (v ++ flat_map flat_specifier rest) ++ us) f.first) q) in cc

pub specs_no_brace : {outer free : Bool} {types final : List (List ℕ)} {seen sort : Typed} {specs : List Specifier} (us : List Sign) → Specs outer free types seen specs final sort → EndsSpecifiers final sort us →
    Begins brace (flat_map flat_specifier specs ++ us) → ⊥
specs_no_brace us w e = begun_no_brace us (begun w) e

-- some specifiers begin with a word
begun_word : {outer free : Bool} {types final : List (List ℕ)} {seen sort : Typed} {spec : Specifier} {specs : List Specifier} (us : List Sign) → Begun outer free types seen (spec ∷ specs) final sort →
    BeginsWord (flat_specifier spec ++ us)
begun_word us (a_body inner final sort tag m ms rest r is v w) = subst BeginsWord (sym (ap (λ v. v ++ us) (flat_specifier-members tag (m ∷ ms)))) refl
begun_word us (a_specifier still behind final now sort spec rest f bare w) = subst BeginsWord (sym (ap (λ v. v ++ us) f.first)) refl

pub specs_word : {outer free : Bool} {types final : List (List ℕ)} {seen sort : Typed} {spec : Specifier} {specs : List Specifier} (us : List Sign) → Specs outer free types seen (spec ∷ specs) final sort →
    BeginsWord (flat_specifier spec ++ us)
specs_word us w = begun_word us (begun w)

first_in : {outer free : Bool} {types final : List (List ℕ)} {seen sort : Typed} {spec : Specifier} {rest : List Specifier} (us : List Sign) →
    Specs outer free types seen (spec ∷ rest) final sort → Begun outer free types seen (spec ∷ rest) final sort → specifier_height spec ≤ 256 → EndsSpecifiers final sort us →
    BeginsSpecifiers outer free types seen (flat_specifier spec ++ (flat_map flat_specifier rest ++ us)) spec (flat_map flat_specifier rest ++ us) rest final sort ⊎ HasMembers spec
first_in us w (a_body inner final sort tag m ms rest r is v u) low e = inr (tag, m ∷ ms, refl)
first_in us w (a_specifier still behind final now sort spec rest f bare v) low e =
    inl (specifier_complete (flat_map flat_specifier rest ++ us) w low refl (specs_no_brace us v e) bare)

-- the first of a declaration's specifiers is read, or it has members
pub first_specifier : {outer free : Bool} {types final : List (List ℕ)} {seen sort : Typed} {spec : Specifier} {rest : List Specifier} (us : List Sign) →
    Specs outer free types seen (spec ∷ rest) final sort → specifier_height spec ≤ 256 → EndsSpecifiers final sort us →
    BeginsSpecifiers outer free types seen (flat_specifier spec ++ (flat_map flat_specifier rest ++ us)) spec (flat_map flat_specifier rest ++ us) rest final sort ⊎ HasMembers spec
first_specifier us w low e = first_in us w (begun w) low e
