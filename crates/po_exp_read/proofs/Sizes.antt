-- Sizes of arrays, read one after the other, and the type names that they end.
use Rattle.std.proofs.Common.{◌≡◌, ℕ, ◌≤◌, List, [], ◌∷◌, ◌++◌, length, ap, sym, ◌∙◌, refl, subst, arith}
use Rattle.std.specs.Prelude.{max, Option, Some, None, ◌≢◌}
use Rattle.po_tree.specs.declared.expression.Exp.{Exp}
use Rattle.po_tree.specs.declared.expression.Specifier.{Specifier}
use Rattle.po_tree.specs.declared.expression.Suffix.{Suffix}
use Rattle.po_tree.specs.declared.expression.TypeName.{TypeName}
use Rattle.po_tree.specs.Signs.{Sign, bracket, bracket_end, closing}
use Rattle.po_tree.specs.Heights.{height, type_height, suffix_height, or_none}
use Rattle.po_tree.specs.Expressions.{untyped}
use Rattle.po_tree.specs.Layers.{suffix_height-Plain, suffix_height-Arrays}
use Rattle.po_exp_parts.specs.Places.{Begins}
use Rattle.po_exp_parts.specs.Stars.{StarsRead}
use Rattle.po_exp_parts.specs.TypeWords.{SpecsRead}
use Rattle.po_exp_parts.specs.Reading.{TypeRead, type_read, SuffixRead, plain, arrays, SizesRead, sizes_end, no_size, one_size}
use Rattle.po_exp_parts.specs.Finding.{IsBest, IsNone, suffix_of, type_of}
use Rattle.po_exp_read.specs.Enclosed.{sizes_height, StandsClosed, StandsEnclosed}
use Rattle.po_exp_read.proofs.Comparing.{goes_on-bracket_end}
use Rattle.po_exp_parts.proofs.Fronts.{reads_no_bracket_end}
use Rattle.po_exp_read.proofs.Closed.{closed_same}
use Rattle.po_exp_read.proofs.Heights.{type_height-suffix}
use Rattle.po_exp_read.proofs.Specifiers.{specs_sound}
use Rattle.po_exp_read.proofs.Compared.{sizes_same}
use Rattle.po_exp_parts.proofs.TypeWordsSame.{specs_same}
use Rattle.po_exp_parts.proofs.Starred.{stars_same}
use Rattle.po_exp_parts.proofs.Leading.{Leads, leads_end}

-- sizes of at most this height
abbrev pub SizesHere : List (List ℕ) → ℕ → List Sign → List (Option Exp) → List Sign → Type 0
SizesHere types depth ts xs us = SizesRead types ts xs us × (sizes_height xs ≤ depth)

empty_back : {types : List (List ℕ)} {depth : ℕ} {ts us : List Sign} {xs : List (Option Exp)} (rest : List Sign) → ts ≡ bracket ∷ (bracket_end ∷ rest) → SizesRead types ts xs us → sizes_height xs ≤ depth →
    (ys : List (Option Exp)) × (xs ≡ None ∷ ys) × SizesHere types depth rest ys us
empty_back rest q (sizes_end ts none) h = absurd (none (subst (Begins bracket) (sym q) refl))
empty_back {types = types} rest q (no_size sizes ts us w) h = let rests : ts ≡ rest = cc in (sizes, refl, (subst (λ v. SizesRead types v sizes us) rests w, omega arith))
empty_back rest q (one_size x sizes ts us vs w v) h = let rests : ts ≡ bracket_end ∷ rest = cc in absurd (reads_no_bracket_end rest rests w)

-- brackets with nothing between them
pub empty_leads : {types : List (List ℕ)} {depth : ℕ} {ts : List Sign} (rest : List Sign) → ts ≡ bracket ∷ (bracket_end ∷ rest) →
    Leads (SizesHere types depth ts) (None ∷ []) (SizesHere types depth rest)
empty_leads {types = types} rest q = record {
  forth = λ ys us w. (subst (λ v. SizesRead types v (None ∷ ys) us) (sym q) (no_size ys rest us w.0), omega (arith, w.1));
  back = λ zs us w. empty_back rest q w.0 w.1;
}

size_back : {types : List (List ℕ)} {depth : ℕ} {ts us : List Sign} {xs : List (Option Exp)} (inside : List Sign) → ts ≡ bracket ∷ inside → (Begins bracket_end inside → ⊥) → SizesRead types ts xs us → sizes_height xs ≤ depth →
    (x : Exp) × (ys : List (Option Exp)) × (mid : List Sign) × (xs ≡ Some x ∷ ys) × StandsClosed types 2 bracket_end inside x mid × SizesHere types depth mid ys us × (height x ≤ depth)
size_back inside q full (sizes_end ts none) h = absurd (none (subst (Begins bracket) (sym q) refl))
size_back inside q full (no_size sizes ts us w) h = let rests : bracket_end ∷ ts ≡ inside = cc in absurd (full (subst (Begins bracket_end) rests refl))
size_back {types = types} inside q full (one_size x sizes ts us vs w v) h =
    let rests : ts ≡ inside = cc in
    (x, sizes, us, refl, subst (λ b. StandsClosed types 2 bracket_end b x us) rests w, (v, omega arith), omega arith)

-- a size in brackets
pub size_leads : {types : List (List ℕ)} {depth : ℕ} {ts : List Sign} {x : Exp} (inside rest : List Sign) → ts ≡ bracket ∷ inside → (Begins bracket_end inside → ⊥) →
    IsBest height (StandsClosed types 2 bracket_end inside) depth x rest → Leads (SizesHere types depth ts) (Some x ∷ []) (SizesHere types depth rest)
size_leads {types = types} {depth = depth} {x = x} inside rest q full b = record {
  forth = λ ys us w. (subst (λ v. SizesRead types v (Some x ∷ ys) us) (sym q) (one_size x ys inside rest us b.stands w.0), omega (arith, b.shallow, w.1));
  back = λ zs us w.
      let p = size_back inside q full w.0 w.1 in
      let s = closed_same (goes_on-bracket_end 2) b.stands p.4 in
      (p.1, p.3 ∙ ap (λ v. Some v ∷ p.1) (sym s.0), subst (λ v. SizesHere types depth v p.1 us) (sym s.1) p.5);
}

-- a bracket with no size behind it
pub size_nowhere : {types : List (List ℕ)} {depth : ℕ} {ts : List Sign} (inside : List Sign) → ts ≡ bracket ∷ inside → (Begins bracket_end inside → ⊥) →
    IsNone height (StandsClosed types 2 bracket_end inside) depth → (xs : List (Option Exp)) (us : List Sign) → SizesHere types depth ts xs us → ⊥
size_nowhere inside q full none xs us w = let p = size_back inside q full w.0 w.1 in none p.0 p.2 p.4 p.6

ends_back : {types : List (List ℕ)} {ts us : List Sign} {xs : List (Option Exp)} → (Begins bracket ts → ⊥) → SizesRead types ts xs us → us ≡ ts
ends_back none (sizes_end ts own) = refl
ends_back none (no_size sizes ts us w) = absurd (none refl)
ends_back none (one_size x sizes ts us vs w v) = absurd (none refl)

-- no further bracket
pub sizes_best : {types : List (List ℕ)} {depth : ℕ} {start ts : List Sign} {xs : List (Option Exp)} → Leads (SizesHere types depth start) xs (SizesHere types depth ts) → (Begins bracket ts → ⊥) →
    IsBest sizes_height (SizesRead types start) depth xs ts
sizes_best {types = types} {depth = depth} {start = start} {ts = ts} {xs = xs} leads none =
    let whole : SizesHere types depth start xs ts = leads_end leads (sizes_end ts none, omega arith) in
    record {
      stands = whole.0;
      shallow = whole.1;
      best = λ zs vs w h. let p = leads.back zs vs (w, h) in omega (arith, ap length (ends_back none p.2.0));
    }

pub sizes_height_push : (xs : List (Option Exp)) (x : Option Exp) → sizes_height (xs ++ x ∷ []) ≡ max (sizes_height xs) (or_none height x)
sizes_height_push [] x = omega arith
sizes_height_push (y ∷ ys) x = omega (arith, sizes_height_push ys x)

suffix_sizes : (sizes : List (Option Exp)) → suffix_height (suffix_of sizes) ≡ sizes_height sizes
suffix_sizes [] = suffix_height-Plain
suffix_sizes (size ∷ sizes) = suffix_height-Arrays (size ∷ sizes)

suffix_read : {types : List (List ℕ)} {ts us : List Sign} {sizes : List (Option Exp)} → SizesRead types ts sizes us → SuffixRead types ts (suffix_of sizes) us
suffix_read (sizes_end ts none) = plain ts none
suffix_read (no_size sizes ts us w) = arrays None sizes _ us (no_size sizes ts us w)
suffix_read (one_size x sizes ts us vs w v) = arrays (Some x) sizes _ vs (one_size x sizes ts us vs w v)

suffix_back : {types : List (List ℕ)} {ts us : List Sign} {suffix : Suffix} → SuffixRead types ts suffix us → (sizes : List (Option Exp)) × (suffix ≡ suffix_of sizes) × SizesRead types ts sizes us
suffix_back (plain ts none) = ([], refl, sizes_end ts none)
suffix_back (arrays size sizes ts us w) = (size ∷ sizes, refl, w)

record Parts (types : List (List ℕ)) (ts : List Sign) (name : TypeName) (us : List Sign) : Type 0 where
  spec : Specifier
  specs : List Specifier
  stars : List (List (List ℕ))
  sizes : List (Option Exp)
  behind_specs : List Sign
  behind_stars : List Sign
  is : name ≡ type_of (spec ∷ specs) stars sizes
  specs_read : SpecsRead types untyped ts (spec ∷ specs) behind_specs
  stars_read : StarsRead behind_specs stars behind_stars
  sizes_read : SizesRead types behind_stars sizes us

parts_of : {types : List (List ℕ)} {ts us : List Sign} {name : TypeName} → TypeRead types ts name us → Parts types ts name us
parts_of (type_read spec specs stars suffix ts us vs ws w v u) =
    let b = suffix_back u in
    record {
      spec = spec;
      specs = specs;
      stars = stars;
      sizes = b.0;
      behind_specs = us;
      behind_stars = vs;
      is = ap (λ s. record { specs = spec ∷ specs; declarator = record { stars = stars; name = None; suffix = s } }) b.1;
      specs_read = w;
      stars_read = v;
      sizes_read = b.2;
    }

-- a type name is as high as its sizes
pub type_sizes : {types : List (List ℕ)} {ts us : List Sign} {specs : List Specifier} (stars : List (List (List ℕ))) (sizes : List (Option Exp)) → SpecsRead types untyped ts specs us →
    type_height (type_of specs stars sizes) ≡ sizes_height sizes
type_sizes stars sizes w = type_height-suffix stars (suffix_of sizes) (specs_sound w).0 ∙ suffix_sizes sizes

-- no specifiers, no type name
pub specs_nowhere : {types : List (List ℕ)} (depth : ℕ) {ts : List Sign} → ((specs : List Specifier) (us : List Sign) → SpecsRead types untyped ts specs us → ⊥) →
    IsNone type_height (StandsEnclosed types ts) depth
specs_nowhere depth none name us w h = let p = parts_of w in none (p.spec ∷ p.specs) p.behind_specs p.specs_read

-- nor without one
pub specs_empty : {types : List (List ℕ)} (depth : ℕ) {ts us : List Sign} → SpecsRead types untyped ts [] us → IsNone type_height (StandsEnclosed types ts) depth
specs_empty depth r name us w h = let p = parts_of w in let s = specs_same r p.specs_read in absurd cc

type_found : {types : List (List ℕ)} {ts us vs : List Sign} {stars : List (List (List ℕ))} (specs : List Specifier) → specs ≢ [] → SpecsRead types untyped ts specs us → StarsRead us stars vs →
    (depth : ℕ) (sizes : List (Option Exp)) (ws rest : List Sign) → IsBest sizes_height (SizesRead types vs) depth sizes ws → ws ≡ closing ∷ rest →
    ((name : TypeName) (xs : List Sign) → TypeRead types ts name xs → (own : List (Option Exp)) × (name ≡ type_of specs stars own) × SizesRead types vs own xs × (type_height name ≡ sizes_height own)) →
    IsBest type_height (StandsEnclosed types ts) depth (type_of specs stars sizes) rest
type_found [] some r v depth sizes ws rest b q back = absurd (some refl)
type_found {types = types} {ts = ts} {us = us} {vs = vs} {stars = stars} (spec ∷ specs) some r v depth sizes ws rest b q back = record {
  stands = type_read spec specs stars (suffix_of sizes) ts us vs (closing ∷ rest) r v (suffix_read (subst (λ x. SizesRead types vs sizes x) q b.stands));
  shallow = omega (arith, b.shallow, type_sizes stars sizes r);
  best = λ name xs w h.
      let p = back name (closing ∷ xs) w in
      let k = b.best p.0 (closing ∷ xs) p.2 (omega (arith, p.3)) in
      omega (arith, ap length q);
}

module _ {types : List (List ℕ)} {ts us : List Sign} (specs : List Specifier) (r : SpecsRead types untyped ts specs us) where
  module _ {vs : List Sign} (stars : List (List (List ℕ))) (v : StarsRead us stars vs) where
    sizes_of : {name : TypeName} {ws : List Sign} → TypeRead types ts name ws → (sizes : List (Option Exp)) × (name ≡ type_of specs stars sizes) × SizesRead types vs sizes ws × (type_height name ≡ sizes_height sizes)
    sizes_of {ws = ws} w =
        let p = parts_of w in
        let s = specs_same r p.specs_read in
        let stars_read : StarsRead us p.stars p.behind_stars = subst (λ b. StarsRead b p.stars p.behind_stars) (sym s.1) p.stars_read in
        let q = stars_same v stars_read in (
          p.sizes,
          p.is ∙ ap (λ b. type_of b p.stars p.sizes) (sym s.0) ∙ ap (λ b. type_of specs b p.sizes) (sym q.0),
          subst (λ b. SizesRead types b p.sizes ws) (sym q.1) p.sizes_read,
          ap type_height p.is ∙ type_sizes p.stars p.sizes p.specs_read,
        )

    -- no sizes behind the stars
    pub sizes_nowhere : (depth : ℕ) → IsNone sizes_height (SizesRead types vs) depth → IsNone type_height (StandsEnclosed types ts) depth
    sizes_nowhere depth none name ws w h = let p = sizes_of w in none p.0 (closing ∷ ws) p.2 (omega (arith, p.3))

    -- the best sizes end the best type name, where the parenthesis stands behind them
    pub type_best : (depth : ℕ) (sizes : List (Option Exp)) (ws rest : List Sign) → IsBest sizes_height (SizesRead types vs) depth sizes ws → ws ≡ closing ∷ rest → specs ≢ [] →
        IsBest type_height (StandsEnclosed types ts) depth (type_of specs stars sizes) rest
    type_best depth sizes ws rest b q some = type_found specs some r v depth sizes ws rest b q (λ name xs w. sizes_of w)

    -- it doesn't
    pub type_open : (depth : ℕ) (sizes : List (Option Exp)) (ws : List Sign) → SizesRead types vs sizes ws → (Begins closing ws → ⊥) → IsNone type_height (StandsEnclosed types ts) depth
    type_open depth sizes ws u none name xs w h =
        let p = sizes_of w in
        let s = sizes_same u p.2 in
        none (subst (Begins closing) (sym s.1) refl)
