-- From the same signs the same words of a type name are read.
use Rattle.std.proofs.Common.{◌≡◌, ℕ, List, [], ◌∷◌, ap, sym, ◌∙◌, refl, inl, inr, Some, None, false, arith}
use Rattle.po_base.specs.declared.token.TokenKind.{TokenKind}
use Rattle.po_base.specs.declared.token.TokenKind.TheVariants as k
use Rattle.po_tree.specs.declared.expression.Specifier.{Specifier}
use Rattle.po_tree.specs.declared.expression.Specifier.TheVariants as sp
use Rattle.po_tree.specs.Signs.{Sign}
use Rattle.po_tree.specs.Expressions.{Typed, untyped}
use Rattle.po_exp_parts.specs.Places.{BeginsWord}
use Rattle.po_exp_parts.specs.TypeWords.{SpecsRead, specs_end, qualifier, type_word, typedef_name, struct_tag, enum_tag, StartsType}
use Rattle.po_exp_parts.proofs.SameSigns.{same_word}
use Rattle.po_exp_parts.proofs.Keywords.{type_word_begins, qualifier_begins, struct_begins, enum_begins}
use Rattle.po_exp_parts.proofs.Classes.{class_word, class_qualifier, class_type_word, class_name}

-- what the first sign is among specifiers
abbrev class_kind : TokenKind → List ℕ → ℕ
class_kind k.Word text = class_word text
class_kind _ text = 0

abbrev class_signs : List Sign → ℕ
class_signs [] = 0
class_signs (sign ∷ ts) = class_kind sign.kind sign.text

abbrev class_specs : {types : List (List ℕ)} {seen : Typed} {ts us : List Sign} {specs : List Specifier} → SpecsRead types seen ts specs us → ℕ
class_specs (specs_end seen ts none) = 0
class_specs (qualifier seen text rest ts us h w) = 1
class_specs (type_word seen text rest ts us h g w) = 2
class_specs (struct_tag tag rest ts us h w) = 3
class_specs (enum_tag tag rest ts us h w) = 4
class_specs (typedef_name name rest ts us h g w) = 7

class_other : (kind : TokenKind) (text : List ℕ) → (kind ≡ k.Word → ⊥) → class_kind kind text ≡ 0
class_other k.Word text h = absurd (h refl)
class_other _ text h = refl

class_end : (ts : List Sign) → (BeginsWord ts → ⊥) → class_signs ts ≡ 0
class_end [] h = refl
class_end (sign ∷ ts) h = class_other sign.kind sign.text h

-- the first sign tells how the specifiers begin
class_told : {types : List (List ℕ)} {seen : Typed} {ts us : List Sign} {specs : List Specifier} → (w : SpecsRead types seen ts specs us) → class_signs ts ≡ class_specs w
class_told (specs_end seen ts none) = class_end ts none
class_told (qualifier seen text rest ts us h w) = class_qualifier text h
class_told (type_word seen text rest ts us h g w) = class_type_word text h
class_told (struct_tag tag rest ts us h w) = refl
class_told (enum_tag tag rest ts us h w) = refl
class_told (typedef_name name rest ts us h g w) = class_name name h

class_same : {types : List (List ℕ)} {seen : Typed} {ts ts' us vs : List Sign} {specs others : List Specifier} → ts ≡ ts' →
    (w : SpecsRead types seen ts specs us) → (v : SpecsRead types seen ts' others vs) → class_specs w ≡ class_specs v
class_same q w v = sym (class_told w) ∙ (ap class_signs q ∙ class_told v)

specs_along : {types : List (List ℕ)} {seen : Typed} {ts ts' us vs : List Sign} {specs others : List Specifier} → ts ≡ ts' →
    SpecsRead types seen ts specs us → SpecsRead types seen ts' others vs → (specs ≡ others) × (us ≡ vs)
specs_along q (specs_end seen ts none) (specs_end seen' ts' none') = (refl, q)
specs_along q (qualifier seen text rest ts us h w) (qualifier seen' text' rest' ts' us' h' w') =
    let p = same_word q in
    let r = specs_along p.1 w w' in
    (ap (λ v. sp.Word v ∷ rest) p.0 ∙ ap (λ v. sp.Word text' ∷ v) r.0, r.1)
specs_along q (type_word seen text rest ts us h g w) (type_word seen' text' rest' ts' us' h' g' w') =
    let p = same_word q in
    let r = specs_along p.1 w w' in
    (ap (λ v. sp.Word v ∷ rest) p.0 ∙ ap (λ v. sp.Word text' ∷ v) r.0, r.1)
specs_along q (typedef_name name rest ts us h g w) (typedef_name name' rest' ts' us' h' g' w') =
    let p = same_word q in
    let r = specs_along p.1 w w' in
    (ap (λ v. sp.Named v ∷ rest) p.0 ∙ ap (λ v. sp.Named name' ∷ v) r.0, r.1)
specs_along q (struct_tag tag rest ts us h w) (struct_tag tag' rest' ts' us' h' w') =
    let p = same_word (same_word q).1 in
    let r = specs_along p.1 w w' in
    (ap (λ v. sp.Struct (Some v) None ∷ rest) p.0 ∙ ap (λ v. sp.Struct (Some tag') None ∷ v) r.0, r.1)
specs_along q (enum_tag tag rest ts us h w) (enum_tag tag' rest' ts' us' h' w') =
    let p = same_word (same_word q).1 in
    let r = specs_along p.1 w w' in
    (ap (λ v. sp.Enum (Some v) None false ∷ rest) p.0 ∙ ap (λ v. sp.Enum (Some tag') None false ∷ v) r.0, r.1)
specs_along q w v = absurd (omega (arith, class_same q w v))

-- from the same signs the same specifiers are read
pub specs_same : {types : List (List ℕ)} {seen : Typed} {ts us vs : List Sign} {specs others : List Specifier} →
    SpecsRead types seen ts specs us → SpecsRead types seen ts others vs → (specs ≡ others) × (us ≡ vs)
specs_same w v = specs_along refl w v

-- a type name begins with a word of types
pub specs_start : {types : List (List ℕ)} {ts us : List Sign} {spec : Specifier} {specs : List Specifier} →
    SpecsRead types untyped ts (spec ∷ specs) us → StartsType types ts
specs_start (qualifier seen text rest ts us h w) = (refl, inl (qualifier_begins text h))
specs_start (type_word seen text rest ts us h g w) = (refl, inl (type_word_begins text h))
specs_start (typedef_name name rest ts us h g w) = (refl, inr (h, g))
specs_start (struct_tag tag rest ts us h w) = (refl, inl struct_begins)
specs_start (enum_tag tag rest ts us h w) = (refl, inl enum_begins)
