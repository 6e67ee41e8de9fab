-- One specifier of a type name after the other.
use Rattle.std.proofs.Common.{◌≡◌, ◌∙◌, ℕ, List, [], ◌∷◌, ◌++◌, refl, sym, ap, subst}
use Rattle.std.specs.Prelude.{Bool, IsTrue, ◌↔◌, Contains, Some, None, false}
use Rattle.po_tree.specs.declared.expression.Specifier.{Specifier}
use Rattle.po_tree.specs.declared.expression.Specifier.TheVariants as sp
use Rattle.po_tree.specs.Signs.{Sign, word}
use Rattle.po_tree.specs.Words.{IsName, type_words, qualifiers}
use Rattle.po_tree.specs.Expressions.{Typed, untyped, by_words, by_name}
use Rattle.po_exp_parts.specs.Places.{BeginsName}
use Rattle.po_exp_parts.specs.TypeWords.{IsTypeStart, StartsType, SpecsRead, specs_end}
use Rattle.po_exp_parts.specs.TypeWords as words
use Rattle.po_exp_parts.specs.OneSpecifier.{TagRead, struct_tag, enum_tag, SpecRead, qualifier, type_word, typedef_name, tag}
use Rattle.po_exp_parts.proofs.Keywords.{type_word_qualifier, type_word_name, qualifier_name}
use Rattle.po_exp_parts.proofs.TypeWordsKinds.{struct_enum, struct_qualifier, struct_type_word, struct_name, enum_qualifier, enum_type_word, enum_name}
use Rattle.po_exp_parts.proofs.Standing.{word_begins}
use Rattle.po_exp_parts.proofs.SameSigns.{same_word}
use Rattle.po_exp_parts.proofs.Leading.{Leads}

-- a word and a tag are one specifier at most
tag_same : {text : List ℕ} {ts us vs : List Sign} {a b : Specifier} → TagRead text ts a us → TagRead text ts b vs → (a ≡ b) × (us ≡ vs)
tag_same (struct_tag own us e n q) (struct_tag other vs f m r) =
    let p = same_word (sym q ∙ r) in (ap (λ v. sp.Struct (Some v) None) p.0, p.1)
tag_same (struct_tag own us e n q) (enum_tag other vs f m r) = absurd (struct_enum e f)
tag_same (enum_tag own us e n q) (struct_tag other vs f m r) = absurd (struct_enum f e)
tag_same (enum_tag own us e n q) (enum_tag other vs f m r) =
    let p = same_word (sym q ∙ r) in (ap (λ v. sp.Enum (Some v) None false) p.0, p.1)

-- the word of a tag is a keyword, but none of the others
tag_no_qualifier : {text : List ℕ} {ts us : List Sign} {a : Specifier} → TagRead text ts a us → Contains qualifiers text → ⊥
tag_no_qualifier (struct_tag own us e n q) h = struct_qualifier e h
tag_no_qualifier (enum_tag own us e n q) h = enum_qualifier e h

tag_no_type : {text : List ℕ} {ts us : List Sign} {a : Specifier} → TagRead text ts a us → Contains type_words text → ⊥
tag_no_type (struct_tag own us e n q) h = struct_type_word e h
tag_no_type (enum_tag own us e n q) h = enum_type_word e h

tag_no_name : {text : List ℕ} {ts us : List Sign} {a : Specifier} → TagRead text ts a us → IsName text → ⊥
tag_no_name (struct_tag own us e n q) h = struct_name e h
tag_no_name (enum_tag own us e n q) h = enum_name e h

-- a word begins one specifier at most
pub spec_same : {types : List (List ℕ)} {text : List ℕ} {ts us vs : List Sign} {before now later : Typed} {a b : Specifier} →
    SpecRead types text ts before a now us → SpecRead types text ts before b later vs → (a ≡ b) × (now ≡ later) × (us ≡ vs)
spec_same (qualifier x q) (qualifier y r) = (refl, refl, refl)
spec_same (qualifier x q) (type_word y r k) = absurd (type_word_qualifier _ r q)
spec_same (qualifier x q) (typedef_name n k) = absurd (qualifier_name _ q n)
spec_same (qualifier x q) (tag a us w) = absurd (tag_no_qualifier w q)
spec_same (type_word x q h) (qualifier y r) = absurd (type_word_qualifier _ q r)
spec_same (type_word x q h) (type_word y r k) = (refl, refl, refl)
spec_same (type_word x q h) (typedef_name n k) = absurd (type_word_name _ q n)
spec_same (type_word x q h) (tag a us w) = absurd (tag_no_type w q)
spec_same (typedef_name n k) (qualifier y r) = absurd (qualifier_name _ r n)
spec_same (typedef_name n k) (type_word y r h) = absurd (type_word_name _ r n)
spec_same (typedef_name n k) (typedef_name m h) = (refl, refl, refl)
spec_same (typedef_name n k) (tag a us w) = absurd (tag_no_name w n)
spec_same (tag a us w) (qualifier y r) = absurd (tag_no_qualifier w r)
spec_same (tag a us w) (type_word y r h) = absurd (tag_no_type w r)
spec_same (tag a us w) (typedef_name n k) = absurd (tag_no_name w n)
spec_same (tag a us w) (tag b vs v) = let p = tag_same w v in (p.0, refl, p.1)

-- the first of some specifiers that begin with a word, and those behind it
record First (types : List (List ℕ)) (before : Typed) (text : List ℕ) (ts : List Sign) (specs : List Specifier) (us : List Sign) : Type 0 where
  spec : Specifier
  now : Typed
  behind : List Sign
  rest : List Specifier
  parts : specs ≡ spec ∷ rest
  reads : SpecRead types text ts before spec now behind
  goes : SpecsRead types now behind rest us

first : {types : List (List ℕ)} {before : Typed} {text : List ℕ} {signs ts us : List Sign} {specs : List Specifier} →
    SpecsRead types before signs specs us → signs ≡ word text ∷ ts → First types before text ts specs us
first (specs_end before signs none) q = absurd (none (word_begins q))
first {types = types} {text = text} (words.qualifier before own rest left us h w) q =
    let p = same_word q in
    record {
      spec = sp.Word text;
      now = before;
      behind = left;
      rest = rest;
      parts = ap (λ v. sp.Word v ∷ rest) p.0;
      reads = rw (← p.1) (qualifier before (rw p.0 at h));
      goes = w;
    }
first {types = types} {text = text} (words.type_word before own rest left us h k w) q =
    let p = same_word q in
    record {
      spec = sp.Word text;
      now = by_words;
      behind = left;
      rest = rest;
      parts = ap (λ v. sp.Word v ∷ rest) p.0;
      reads = rw (← p.1) (type_word before (rw p.0 at h) k);
      goes = w;
    }
first {types = types} {text = text} (words.typedef_name own rest left us n k w) q =
    let p = same_word q in
    record {
      spec = sp.Named text;
      now = by_name;
      behind = left;
      rest = rest;
      parts = ap (λ v. sp.Named v ∷ rest) p.0;
      reads = rw (← p.1) (typedef_name (rw p.0 at n) (rw p.0 at k));
      goes = w;
    }
first (words.struct_tag own rest left us n w) q =
    let p = same_word q in
    record {
      spec = sp.Struct (Some own) None;
      now = by_name;
      behind = left;
      rest = rest;
      parts = refl;
      reads = tag _ left (struct_tag own left (sym p.0) n (sym p.1));
      goes = w;
    }
first (words.enum_tag own rest left us n w) q =
    let p = same_word q in
    record {
      spec = sp.Enum (Some own) None false;
      now = by_name;
      behind = left;
      rest = rest;
      parts = refl;
      reads = tag _ left (enum_tag own left (sym p.0) n (sym p.1));
      goes = w;
    }

-- a specifier, and specifiers behind it
onward : {types : List (List ℕ)} {before now : Typed} {text : List ℕ} {ts us vs : List Sign} {spec : Specifier} {specs : List Specifier} →
    SpecRead types text ts before spec now us → SpecsRead types now us specs vs → SpecsRead types before (word text ∷ ts) (spec ∷ specs) vs
onward {text = text} {ts = ts} {vs = vs} {specs = specs} (qualifier before h) w = words.qualifier before text specs ts vs h w
onward {text = text} {ts = ts} {vs = vs} {specs = specs} (type_word before h k) w = words.type_word before text specs ts vs h k w
onward {text = text} {ts = ts} {vs = vs} {specs = specs} (typedef_name n k) w = words.typedef_name text specs ts vs n k w
onward {vs = vs} {specs = specs} (tag spec us (struct_tag own left q n r)) w = rw (q, r) (words.struct_tag own specs left vs n w)
onward {vs = vs} {specs = specs} (tag spec us (enum_tag own left q n r)) w = rw (q, r) (words.enum_tag own specs left vs n w)

inward : {types : List (List ℕ)} {before now : Typed} {text : List ℕ} {ts us vs : List Sign} {spec : Specifier} {specs : List Specifier} →
    SpecRead types text ts before spec now us → SpecsRead types before (word text ∷ ts) specs vs →
    (rest : List Specifier) × (specs ≡ (spec ∷ []) ++ rest) × SpecsRead types now us rest vs
inward {types = types} {us = us} {vs = vs} spec w =
    let f = first w refl in
    let p = spec_same f.reads spec in
    (f.rest, f.parts ∙ ap (λ v. v ∷ f.rest) p.0, subst (λ v. SpecsRead types v us f.rest vs) p.1 (subst (λ v. SpecsRead types f.now v f.rest vs) p.2 f.goes))

-- one specifier is read
pub spec_leads : {types : List (List ℕ)} {before now : Typed} {text : List ℕ} {signs ts us : List Sign} {spec : Specifier} →
    signs ≡ word text ∷ ts → SpecRead types text ts before spec now us → Leads (SpecsRead types before signs) (spec ∷ []) (SpecsRead types now us)
spec_leads {types = types} {before = before} {spec = spec} q read = record {
  forth = λ ys vs w. subst (λ v. SpecsRead types before v (spec ∷ ys) vs) (sym q) (onward read w);
  back = λ zs vs w. inward read (subst (λ v. SpecsRead types before v zs vs) q w);
}

-- no specifier begins with this word
pub no_spec : {types : List (List ℕ)} {before : Typed} {text : List ℕ} {signs ts : List Sign} → signs ≡ word text ∷ ts →
    ((spec : Specifier) (now : Typed) (left : List Sign) → SpecRead types text ts before spec now left → ⊥) →
    (specs : List Specifier) (us : List Sign) → SpecsRead types before signs specs us → ⊥
no_spec q none specs us w = let f = first w q in none f.spec f.now f.behind f.reads

-- behind a type specifier there is no other but words
pub other_refused : {types : List (List ℕ)} {before now : Typed} {text : List ℕ} {ts us : List Sign} {spec : Specifier} →
    (Contains qualifiers text → ⊥) → (Contains type_words text → ⊥) → (before ≡ untyped → ⊥) → SpecRead types text ts before spec now us → ⊥
other_refused no_qualifier no_type none (qualifier before g) = no_qualifier g
other_refused no_qualifier no_type none (type_word before g k) = no_type g
other_refused no_qualifier no_type none (typedef_name n k) = none refl
other_refused no_qualifier no_type none (tag spec us w) = none refl

-- a word of no kind begins no specifier
pub unknown_refused : {types : List (List ℕ)} {before now : Typed} {text : List ℕ} {ts us : List Sign} {spec : Specifier} →
    (Contains qualifiers text → ⊥) → (Contains type_words text → ⊥) → (IsName text × Contains types text → ⊥) →
    ((spec : Specifier) (left : List Sign) → TagRead text ts spec left → ⊥) → SpecRead types text ts before spec now us → ⊥
unknown_refused no_qualifier no_type no_name no_tag (qualifier before g) = no_qualifier g
unknown_refused no_qualifier no_type no_name no_tag (type_word before g k) = no_type g
unknown_refused no_qualifier no_type no_name no_tag (typedef_name n k) = no_name (n, k)
unknown_refused no_qualifier no_type no_name no_tag (tag spec us w) = no_tag spec us w

-- no tag stands where no name does
pub no_tag_behind : {text : List ℕ} {ts us : List Sign} {spec : Specifier} →
    ((name : List ℕ) → BeginsName name ts → ⊥) → TagRead text ts spec us → ⊥
no_tag_behind none (struct_tag own us q n r) = none own (n, rw r refl)
no_tag_behind none (enum_tag own us q n r) = none own (n, rw r refl)

-- where a word stands at the front, it tells whether a type name begins
pub starts_by : (types : List (List ℕ)) {text : List ℕ} {signs ts : List Sign} {told : Bool} → signs ≡ word text ∷ ts →
    IsTrue told ↔ IsTypeStart types text → IsTrue told ↔ StartsType types signs
starts_by types q h = rw q ((λ b. (refl, h.0 b)), (λ w. h.1 w.1))
