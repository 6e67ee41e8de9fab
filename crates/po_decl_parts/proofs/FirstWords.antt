-- One specifier at the front of signs.
use Rattle.std.proofs.Common.{◌≡◌, ◌∙◌, ℕ, List, ◌∷◌, Bool, false, true≢false, refl, sym, ap, subst, codes, arith}
use Rattle.std.specs.Prelude.{Contains, Option, Some, None}
use Rattle.po_base.specs.declared.token.TokenKind.TheVariants as k
use Rattle.po_tree.specs.declared.expression.Exp.{Exp}
use Rattle.po_tree.specs.declared.expression.Specifier.{Specifier}
use Rattle.po_tree.specs.declared.expression.Specifier.TheVariants as sp
use Rattle.po_tree.specs.Signs.{Sign, word, brace}
use Rattle.po_tree.specs.Words.{IsName, storage_classes, type_words, qualifiers}
use Rattle.po_tree.specs.Expressions.{Typed, untyped, TakesWord}
use Rattle.po_exp_parts.specs.Places.{BeginsName, Begins, BeginsWord}
use Rattle.po_decl_parts.specs.Enumerators.{EnumeratorsRead}
use Rattle.po_decl_parts.specs.Specifiers.{TagRead, no_tag, tagged, NoTag, Opens, SpecifierRead, storage_class, inline_word, qualifier, type_word, typedef_name, struct_tag, enum_tag, enum_body, SpecifierStands, IsSpecifierWord, by_storage_class, by_inline, by_qualifier, by_type}
use Rattle.po_exp_parts.proofs.Classes.{class_word, class_qualifier, class_type_word, class_struct, class_enum, class_storage, class_inline, class_name}
use Rattle.po_exp_parts.proofs.SameSigns.{same_word}
use Rattle.po_decl_parts.proofs.Listed.{items_along}

-- a brace is no word
pub brace_word : {text : List ℕ} {ts us : List Sign} → brace ∷ ts ≡ word text ∷ us → ⊥
brace_word {text = text} w = let heads : brace ≡ word text = cc in let kinds : k.Punct ≡ k.Word = ap (λ v. v.kind) heads in cc

-- from the same signs the same tag is read
pub tag_same : {ts us vs : List Sign} {a b : Option (List ℕ)} → TagRead ts a us → TagRead ts b vs → (a ≡ b) × (us ≡ vs)
tag_same (no_tag us q) (no_tag vs r) = let p = sym q ∙ r in (refl, cc)
tag_same (no_tag us q) (tagged tag vs is r) = absurd (brace_word (sym q ∙ r))
tag_same (tagged tag us is q) (no_tag vs r) = absurd (brace_word (sym r ∙ q))
tag_same (tagged tag us is q) (tagged tag' vs is' r) = let p = same_word (sym q ∙ r) in let rests = p.1 in (ap Some p.0, cc)

-- a body opens, or it doesn't
tag_closed : {ts us vs : List Sign} {tag : List ℕ} {a : Option (List ℕ)} → ts ≡ word tag ∷ us → (Begins brace us → ⊥) → TagRead ts a vs → ⊥
tag_closed q none (no_tag vs r) = brace_word (sym r ∙ q)
tag_closed q none (tagged tag vs is r) = let p = same_word (sym q ∙ r) in none (subst (Begins brace) (sym p.1) refl)

abbrev class_reads : {outer free free' : Bool} {text : List ℕ} {ts us : List Sign} {types types' : List (List ℕ)} {seen seen' : Typed} {spec : Specifier} →
    SpecifierRead outer text ts free types seen spec free' types' seen' us → ℕ
class_reads (storage_class types seen h) = 5
class_reads (inline_word free types seen q is) = 6
class_reads (qualifier free types seen h) = 1
class_reads (type_word free types seen h t) = 2
class_reads (typedef_name free types is c) = 7
class_reads (struct_tag free types tag us q is r none) = 3
class_reads (enum_tag free types tag us q is r none) = 4
class_reads (enum_body free more types types' tag items us vs q w v) = 4

-- the word tells the class
class_told : {outer free free' : Bool} {text : List ℕ} {ts us : List Sign} {types types' : List (List ℕ)} {seen seen' : Typed} {spec : Specifier} →
    (w : SpecifierRead outer text ts free types seen spec free' types' seen' us) → class_word text ≡ class_reads w
class_told {text = text} (storage_class types seen h) = class_storage text h
class_told {text = text} (inline_word free types seen q is) = class_inline text q
class_told {text = text} (qualifier free types seen h) = class_qualifier text h
class_told {text = text} (type_word free types seen h t) = class_type_word text h
class_told {text = text} (typedef_name free types is c) = class_name text is
class_told {text = text} (struct_tag free types tag us q is r none) = class_struct text q
class_told {text = text} (enum_tag free types tag us q is r none) = class_enum text q
class_told {text = text} (enum_body free more types types' tag items us vs q w v) = class_enum text q

-- Where a specifier may not stand.

pub no_storage : {outer free free' : Bool} {text : List ℕ} {ts us : List Sign} {types types' : List (List ℕ)} {seen seen' : Typed} {spec : Specifier} →
    Contains storage_classes text → free ≡ false → SpecifierRead outer text ts free types seen spec free' types' seen' us → ⊥
no_storage h q (storage_class types seen c) = true≢false q
no_storage {text = text} h q w = omega (arith, class_told w, class_storage text h)

pub no_inline : {outer free free' : Bool} {text : List ℕ} {ts us : List Sign} {types types' : List (List ℕ)} {seen seen' : Typed} {spec : Specifier} →
    text ≡ codes "inline" → outer ≡ false → SpecifierRead outer text ts free types seen spec free' types' seen' us → ⊥
no_inline h q (inline_word free types seen r is) = true≢false (sym is ∙ q)
no_inline {text = text} h q w = omega (arith, class_told w, class_inline text h)

pub no_type_word : {outer free free' : Bool} {text : List ℕ} {ts us : List Sign} {types types' : List (List ℕ)} {seen seen' : Typed} {spec : Specifier} →
    Contains type_words text → (TakesWord seen → ⊥) → SpecifierRead outer text ts free types seen spec free' types' seen' us → ⊥
no_type_word h none (type_word free types seen c t) = none t
no_type_word {text = text} h none w = omega (arith, class_told w, class_type_word text h)

pub no_typed : {outer free free' : Bool} {text : List ℕ} {ts us : List Sign} {types types' : List (List ℕ)} {seen seen' : Typed} {spec : Specifier} →
    (IsSpecifierWord text → ⊥) → (seen ≡ untyped → ⊥) → SpecifierRead outer text ts free types seen spec free' types' seen' us → ⊥
no_typed none late (storage_class types seen h) = none (by_storage_class h)
no_typed none late (inline_word free types seen q is) = none (by_inline q)
no_typed none late (qualifier free types seen h) = none (by_qualifier h)
no_typed none late (type_word free types seen h t) = none (by_type h)
no_typed none late (typedef_name free types is c) = late refl
no_typed none late (struct_tag free types tag us q is r wrong) = late refl
no_typed none late (enum_tag free types tag us q is r wrong) = late refl
no_typed none late (enum_body free more types types' tag items us vs q w v) = late refl

pub no_name : {outer free free' : Bool} {text : List ℕ} {ts us : List Sign} {types types' : List (List ℕ)} {seen seen' : Typed} {spec : Specifier} →
    (IsSpecifierWord text → ⊥) → (text ≡ codes "enum" → ⊥) → (text ≡ codes "struct" → ⊥) → (IsName text × Contains types text → ⊥) →
    SpecifierRead outer text ts free types seen spec free' types' seen' us → ⊥
no_name none no_enum no_struct no_type (storage_class types seen h) = none (by_storage_class h)
no_name none no_enum no_struct no_type (inline_word free types seen q is) = none (by_inline q)
no_name none no_enum no_struct no_type (qualifier free types seen h) = none (by_qualifier h)
no_name none no_enum no_struct no_type (type_word free types seen h t) = none (by_type h)
no_name none no_enum no_struct no_type (typedef_name free types is c) = no_type (is, c)
no_name none no_enum no_struct no_type (struct_tag free types tag us q is r wrong) = no_struct q
no_name none no_enum no_struct no_type (enum_tag free types tag us q is r wrong) = no_enum q
no_name none no_enum no_struct no_type (enum_body free more types types' tag items us vs q w v) = no_enum q

pub no_struct : {outer free free' : Bool} {text : List ℕ} {ts us : List Sign} {types types' : List (List ℕ)} {seen seen' : Typed} {spec : Specifier} →
    text ≡ codes "struct" → NoTag ts → SpecifierRead outer text ts free types seen spec free' types' seen' us → ⊥
no_struct h none (struct_tag free types tag us q is r wrong) = none tag us is r wrong
no_struct {text = text} h none w = omega (arith, class_told w, class_struct text h)

-- no enumeration: no tag alone, and no enumerators
pub no_enumeration : {outer free free' : Bool} {text : List ℕ} {ts us : List Sign} {types types' : List (List ℕ)} {seen seen' : Typed} {spec : Specifier} →
    text ≡ codes "enum" → NoTag ts →
    ((tag : Option (List ℕ)) (vs : List Sign) → TagRead ts tag vs → (items : List (List ℕ × Option Exp)) (more : Bool) (behind : List (List ℕ)) (left : List Sign) → EnumeratorsRead types vs items more behind left → ⊥) →
    SpecifierRead outer text ts free types seen spec free' types' seen' us → ⊥
no_enumeration h none wrong (enum_tag free types tag us q is r closed) = none tag us is r closed
no_enumeration h none wrong (enum_body free more types types' tag items us vs q w v) = wrong tag us w items more types' vs v
no_enumeration {text = text} h none wrong w = omega (arith, class_told w, class_enum text h)

-- what one specifier comes to
pub record Same (spec spec' : Specifier) (free free' : Bool) (types types' : List (List ℕ)) (seen seen' : Typed) (us vs : List Sign) : Type 0 where
  pub spec_same : spec ≡ spec'
  pub free_same : free ≡ free'
  pub types_same : types ≡ types'
  pub seen_same : seen ≡ seen'
  pub left_same : us ≡ vs

-- from the same signs the same specifier is read
pub specifier_same : {outer free f g : Bool} {text : List ℕ} {ts us vs : List Sign} {types a b : List (List ℕ)} {seen s t : Typed} {spec other : Specifier} →
    SpecifierRead outer text ts free types seen spec f a s us → SpecifierRead outer text ts free types seen other g b t vs → Same spec other f g a b s t us vs
specifier_same (storage_class types seen h) (storage_class types' seen' h') = record { spec_same = refl; free_same = refl; types_same = refl; seen_same = refl; left_same = refl }
specifier_same (inline_word free types seen q is) (inline_word free' types' seen' q' is') = record { spec_same = refl; free_same = refl; types_same = refl; seen_same = refl; left_same = refl }
specifier_same (qualifier free types seen h) (qualifier free' types' seen' h') = record { spec_same = refl; free_same = refl; types_same = refl; seen_same = refl; left_same = refl }
specifier_same (type_word free types seen h t) (type_word free' types' seen' h' t') = record { spec_same = refl; free_same = refl; types_same = refl; seen_same = refl; left_same = refl }
specifier_same (typedef_name free types is c) (typedef_name free' types' is' c') = record { spec_same = refl; free_same = refl; types_same = refl; seen_same = refl; left_same = refl }
specifier_same (struct_tag free types tag us q is r none) (struct_tag free' types' tag' us' q' is' r' none') =
    let p = same_word (sym r ∙ r') in
    record { spec_same = ap (λ v. sp.Struct (Some v) None) p.0; free_same = refl; types_same = refl; seen_same = refl; left_same = p.1 }
specifier_same (enum_tag free types tag us q is r none) (enum_tag free' types' tag' us' q' is' r' none') =
    let p = same_word (sym r ∙ r') in
    record { spec_same = ap (λ v. sp.Enum (Some v) None false) p.0; free_same = refl; types_same = refl; seen_same = refl; left_same = p.1 }
specifier_same (enum_tag free types tag us q is r none) (enum_body free' more' types' types'' tag' items' us' vs' q' w' v') = absurd (tag_closed r none w')
specifier_same (enum_body free more types types'' tag items us vs q w v) (enum_tag free' types' tag' us' q' is' r' none') = absurd (tag_closed r' none' w)
specifier_same (enum_body free more types final tag items us vs q w v) (enum_body free' more' types' final' tag' items' us' vs' q' w' v') =
    let p = tag_same w w' in
    let r = items_along refl p.1 v v' in
    record {
      spec_same = ap (λ z. sp.Enum z (Some items) more) p.0 ∙ ap (λ z. sp.Enum tag' (Some z) more) r.items_same ∙ ap (λ z. sp.Enum tag' (Some items') z) r.more_same;
      free_same = refl;
      types_same = r.types_same;
      seen_same = refl;
      left_same = r.left_same;
    }
specifier_same w v = absurd (omega (arith, class_told w, class_told v))

pub stands_one : {outer free f g : Bool} {types a b : List (List ℕ)} {seen s t : Typed} {signs us vs : List Sign} {spec other : Specifier} →
    SpecifierStands outer free types seen signs spec f a s us → SpecifierStands outer free types seen signs other g b t vs → Same spec other f g a b s t us vs
stands_one {outer = outer} {free = free} {g = g} {types = types} {b = b} {seen = seen} {t = t} {vs = vs} {other = other} w v =
    let p = same_word (sym v.first ∙ w.first) in
    specifier_same w.reads (subst (λ z. SpecifierRead outer z w.behind free types seen other g b t vs) p.0 (subst (λ z. SpecifierRead outer v.text z free types seen other g b t vs) p.1 v.reads))

-- a word that is none of these is no specifier by itself
pub specifier_word : {text : List ℕ} → (Contains qualifiers text → ⊥) → (Contains storage_classes text → ⊥) → (text ≡ codes "inline" → ⊥) → (Contains type_words text → ⊥) → IsSpecifierWord text → ⊥
specifier_word a b c d (by_storage_class h) = b h
specifier_word a b c d (by_inline q) = c q
specifier_word a b c d (by_qualifier h) = a h
specifier_word a b c d (by_type h) = d h

-- no body opens where neither a brace nor a name stands, or no brace behind the name
pub tag_none : {ts : List Sign} → (Begins brace ts → ⊥) → ((name : List ℕ) → BeginsName name ts → ⊥) → (tag : Option (List ℕ)) (us : List Sign) → TagRead ts tag us → ⊥
tag_none none wrong tag us (no_tag us' q) = none (subst (Begins brace) (sym q) refl)
tag_none none wrong tag us (tagged name us' is q) = wrong name (is, subst (Begins (word name)) (sym q) refl)

pub tag_open : {ts vs : List Sign} {name : List ℕ} → ts ≡ word name ∷ vs → (Begins brace vs → ⊥) → (tag : Option (List ℕ)) (us : List Sign) → TagRead ts tag us → ⊥
tag_open q none tag us w = tag_closed q none w

pub opens_word : {signs us : List Sign} {tag : Option (List ℕ)} → Opens signs tag us → BeginsWord signs
opens_word w = subst BeginsWord (sym w.first) refl

pub opens_struct : {signs ts us : List Sign} {text : List ℕ} {tag : Option (List ℕ)} → signs ≡ word text ∷ ts → Opens signs tag us → (text ≡ codes "struct") × TagRead ts tag us
opens_struct {us = us} {tag = tag} q w = let p = same_word (sym q ∙ w.first) in (p.0, subst (λ v. TagRead v tag us) (sym p.1) w.named)

pub stands_word : {outer free free' : Bool} {types types' : List (List ℕ)} {seen seen' : Typed} {signs us : List Sign} {spec : Specifier} →
    SpecifierStands outer free types seen signs spec free' types' seen' us → BeginsWord signs
stands_word w = subst BeginsWord (sym w.first) refl

-- what stands behind the word at the front
pub stands_reads : {outer free free' : Bool} {types types' : List (List ℕ)} {seen seen' : Typed} {signs ts us : List Sign} {text : List ℕ} {spec : Specifier} →
    signs ≡ word text ∷ ts → SpecifierStands outer free types seen signs spec free' types' seen' us → SpecifierRead outer text ts free types seen spec free' types' seen' us
stands_reads {outer = outer} {free = free} {free' = free'} {types = types} {types' = types'} {seen = seen} {seen' = seen'} {us = us} {text = text} {spec = spec} q w =
    let p = same_word (sym w.first ∙ q) in
    subst (λ z. SpecifierRead outer text z free types seen spec free' types' seen' us) p.1
    (subst (λ z. SpecifierRead outer z w.behind free types seen spec free' types' seen' us) p.0 w.reads)

pub tag_by : {ts vs us : List Sign} {name : List ℕ} → IsName name × (ts ≡ word name ∷ vs) → vs ≡ brace ∷ us → TagRead ts (Some name) us
tag_by {us = us} {name = name} h q = tagged name us h.0 (h.1 ∙ ap (λ v. word name ∷ v) q)

pub opens_by : {signs ts us : List Sign} {text : List ℕ} {tag : Option (List ℕ)} → signs ≡ word text ∷ ts → text ≡ codes "struct" → TagRead ts tag us → Opens signs tag us
opens_by {ts = ts} q is w = record { behind = ts; first = q ∙ ap (λ v. word v ∷ ts) is; named = w }

pub no_lone_tag : {ts : List Sign} → ((name : List ℕ) → BeginsName name ts → ⊥) → NoTag ts
no_lone_tag none tag us is q closed = none tag (is, subst (Begins (word tag)) (sym q) refl)

pub closed_tag : {ts vs : List Sign} {name : List ℕ} → ts ≡ word name ∷ vs → Begins brace vs → NoTag ts
closed_tag q b tag us is r none = let p = same_word (sym q ∙ r) in none (subst (Begins brace) p.1 b)

pub no_enumerators : {types : List (List ℕ)} {ts us : List Sign} {a : Option (List ℕ)} → TagRead ts a us →
    ((items : List (List ℕ × Option Exp)) (more : Bool) (behind : List (List ℕ)) (left : List Sign) → EnumeratorsRead types us items more behind left → ⊥) →
    (tag : Option (List ℕ)) (vs : List Sign) → TagRead ts tag vs → (items : List (List ℕ × Option Exp)) (more : Bool) (behind : List (List ℕ)) (left : List Sign) → EnumeratorsRead types vs items more behind left → ⊥
no_enumerators {types = types} t none tag vs w items more behind left v =
    let p = tag_same w t in none items more behind left (subst (λ z. EnumeratorsRead types z items more behind left) p.1 v)

pub stands_at_word : {outer free free' : Bool} {types types' : List (List ℕ)} {seen seen' : Typed} {signs ts us : List Sign} {text : List ℕ} {spec : Specifier} →
    signs ≡ word text ∷ ts → SpecifierRead outer text ts free types seen spec free' types' seen' us → SpecifierStands outer free types seen signs spec free' types' seen' us
stands_at_word {ts = ts} {text = text} q w = record { text = text; behind = ts; first = q; reads = w }
