-- A declarator: its stars, its word, its sizes.
use Rattle.std.proofs.Common.{◌≡◌, ◌∙◌, ℕ, ◌≤◌, List, [], ◌∷◌, ◌++◌, flat_map, Bool, true, false, refl, sym, ap, subst, arith, IsTrue}
use Rattle.std.specs.Prelude.{Option, Some, None}
use Rattle.po_tree.specs.declared.expression.Exp.{Exp}
use Rattle.po_tree.specs.declared.expression.Suffix.{Suffix}
use Rattle.po_tree.specs.declared.expression.Suffix.TheVariants as su
use Rattle.po_tree.specs.declared.expression.Declarator.{Declarator}
use Rattle.po_tree.specs.Signs.{Sign, word, opening}
use Rattle.po_tree.specs.Printing.{flat_suffix, prints_star, optional}
use Rattle.po_tree.specs.Heights.{suffix_height}
use Rattle.po_tree.specs.Layers.{flat_suffix-Plain, flat_suffix-Arrays, suffix_height-Plain, suffix_height-Arrays}
use Rattle.po_tree.specs.Expressions.{Typed, SuffixFormed, plain, arrays}
use Rattle.po_tree.specs.Declarations.{IsDeclared, IsSuffix, no_parameters, parameters, more_parameters}
use Rattle.po_exp_parts.specs.Places.{BeginsName, Begins, BeginsWord}
use Rattle.po_exp_parts.specs.Finding.{suffix_of}
use Rattle.po_decl_parts.specs.Sizes.{SizesRead, sizes_end}
use Rattle.po_exp_parts.specs.Stars.{StarsRead}
use Rattle.po_decl_parts.proofs.Bracketed.{sizes_same}
use Rattle.po_decl_parts.proofs.Printed.{stars_printed, sizes_printed}
use Rattle.po_exp_parts.proofs.SameSigns.{same_word}
use Rattle.po_exp_parts.proofs.Starred.{stars_same}
use Rattle.po_decl_laws.specs.Fronts.{EndsDeclarator}
use Rattle.po_decl_laws.proofs.Layers.{declarator_height-all}
use Rattle.po_decl_laws.proofs.Fronts.{MayBeNamed, stars_stand, suffix_no_word, sizes_before_end, end_no_bracket, flat_declarator-before, flat_params-before}
use Rattle.po_decl_steps.specs.Completing.{WordFits, DeclaratorFits, DeclaratorThen}
use Rattle.po_decl_steps.specs.Steps.{WordThen, SuffixThen}

-- what goes on behind a declarator begins with what may stand there
abbrev pub EndsBehind : (Declarator → List Sign → Type 0) → Type 0
EndsBehind Then = (item : Declarator) (us : List Sign) → Then item us → EndsDeclarator us

may_be_named : (types : List (List ℕ)) (seen : Typed) (parameter : Bool) (name : Option (List ℕ)) → WordFits parameter types seen name → MayBeNamed name
may_be_named types seen parameter None h = tt
may_be_named types seen parameter (Some name) h = h.0

-- stars

pub stars_forth : {Then : Declarator → List Sign → Type 0} {parameter : Bool} {types : List (List ℕ)} {seen : Typed} {ts us : List Sign} {stars : List (List (List ℕ))} → EndsBehind Then → StarsRead ts stars us →
    DeclaratorThen (DeclaratorFits parameter types seen) Then ts → WordThen parameter types seen stars Then us
stars_forth {Then = Then} {parameter = parameter} {stars = stars} ends read d =
    let f = d.fits in
    let item = d.item in
    let stand = stars_stand item.stars item.name d.us f.stars_fit (may_be_named _ _ parameter item.name f.word_fits) f.suffix_fits (ends item d.us d.goes_on) in
    let same = stars_same (subst (λ v. StarsRead v item.stars (optional (λ text. word text ∷ []) item.name ++ (flat_suffix item.suffix ++ d.us))) (sym (d.printed ∙ flat_declarator-before item d.us)) stand) read in
    record {
      name = item.name;
      suffix = item.suffix;
      inner = f.inner;
      us = d.us;
      word_fits = f.word_fits;
      suffix_fits = f.suffix_fits;
      low = let e = declarator_height-all item.stars item.name item.suffix in let h = d.low in omega (arith, e, h);
      printed = sym same.1;
      goes_on = subst (λ v. Then (record { stars = v; name = item.name; suffix = item.suffix }) d.us) same.0 d.goes_on;
    }

pub stars_back : {Then : Declarator → List Sign → Type 0} {parameter : Bool} {types : List (List ℕ)} {seen : Typed} {ts us : List Sign} {stars : List (List (List ℕ))} → StarsRead ts stars us →
    WordThen parameter types seen stars Then us → DeclaratorThen (DeclaratorFits parameter types seen) Then ts
stars_back {ts = ts} {us = us} {stars = stars} read w =
    let p = stars_printed ts us stars read in
    let item : Declarator = record { stars = stars; name = w.name; suffix = w.suffix } in
    record {
      item = item;
      us = w.us;
      fits = record { word_fits = w.word_fits; stars_fit = p.formed; inner = w.inner; suffix_fits = w.suffix_fits };
      low = let e = declarator_height-all stars w.name w.suffix in let h = w.low in omega (arith, e, h);
      printed = p.printed ∙ ap (λ v. flat_map prints_star stars ++ v) w.printed ∙ sym (flat_declarator-before item w.us);
      goes_on = w.goes_on;
    }

-- the word

word_from : {Then : Declarator → List Sign → Type 0} (parameter : Bool) {types inner : List (List ℕ)} {seen : Typed} {stars : List (List (List ℕ))} {text : List ℕ} {ts : List Sign} (name : Option (List ℕ)) (suffix : Suffix) (us : List Sign) → EndsBehind Then → WordFits parameter types seen name → IsSuffix types suffix inner → suffix_height suffix ≤ 256 →
    word text ∷ ts ≡ optional (λ t. word t ∷ []) name ++ (flat_suffix suffix ++ us) → Then (record { stars = stars; name = name; suffix = suffix }) us →
    IsDeclared types seen text × SuffixThen types stars (Some text) Then ts
word_from parameter None suffix us ends h w low q goes = absurd (suffix_no_word us w (ends _ us goes) (subst BeginsWord q refl))
word_from {Then = Then} parameter {types = types} {inner = inner} {seen = seen} {stars = stars} (Some name) suffix us ends h w low q goes =
    let same = same_word q in (
      subst (IsDeclared types seen) (sym same.0) h,
      record {
        suffix = suffix;
        inner = inner;
        us = us;
        suffix_fits = w;
        low = low;
        printed = same.1;
        goes_on = subst (λ v. Then (record { stars = stars; name = Some v; suffix = suffix }) us) (sym same.0) goes;
      },
    )

pub word_forth : {Then : Declarator → List Sign → Type 0} {parameter : Bool} {types : List (List ℕ)} {seen : Typed} {stars : List (List (List ℕ))} {text : List ℕ} {ts us : List Sign} → EndsBehind Then →
    ts ≡ word text ∷ us → WordThen parameter types seen stars Then ts → IsDeclared types seen text × SuffixThen types stars (Some text) Then us
word_forth ends q w = word_from _ w.name w.suffix w.us ends w.word_fits w.suffix_fits w.low (sym q ∙ w.printed) w.goes_on

pub word_back : {Then : Declarator → List Sign → Type 0} {parameter : Bool} {types : List (List ℕ)} {seen : Typed} {stars : List (List (List ℕ))} {text : List ℕ} {ts us : List Sign} →
    ts ≡ word text ∷ us → IsDeclared types seen text → SuffixThen types stars (Some text) Then us → WordThen parameter types seen stars Then ts
word_back {text = text} q is s = record {
  name = Some text;
  suffix = s.suffix;
  inner = s.inner;
  us = s.us;
  word_fits = is;
  suffix_fits = s.suffix_fits;
  low = s.low;
  printed = q ∙ ap (λ v. word text ∷ v) s.printed;
  goes_on = s.goes_on;
}

missing_from : {Then : Declarator → List Sign → Type 0} {parameter : Bool} {types inner : List (List ℕ)} (seen : Typed) {stars : List (List (List ℕ))} {ts : List Sign} (name : Option (List ℕ)) (suffix : Suffix) (us : List Sign) → ((text : List ℕ) → BeginsName text ts → ⊥) → WordFits parameter types seen name → IsSuffix types suffix inner → suffix_height suffix ≤ 256 →
    ts ≡ optional (λ t. word t ∷ []) name ++ (flat_suffix suffix ++ us) → Then (record { stars = stars; name = name; suffix = suffix }) us →
    IsTrue parameter × SuffixThen types stars None Then ts
missing_from {inner = inner} seen None suffix us none h w low q goes = (h, record { suffix = suffix; inner = inner; us = us; suffix_fits = w; low = low; printed = q; goes_on = goes })
missing_from seen (Some name) suffix us none h w low q goes = absurd (none name (h.0, subst (Begins (word name)) (sym q) refl))

pub missing_forth : {Then : Declarator → List Sign → Type 0} {parameter : Bool} {types : List (List ℕ)} {seen : Typed} {stars : List (List (List ℕ))} {ts : List Sign} →
    ((text : List ℕ) → BeginsName text ts → ⊥) → WordThen parameter types seen stars Then ts → IsTrue parameter × SuffixThen types stars None Then ts
missing_forth none w = missing_from _ w.name w.suffix w.us none w.word_fits w.suffix_fits w.low w.printed w.goes_on

pub missing_back : {Then : Declarator → List Sign → Type 0} {parameter : Bool} {types : List (List ℕ)} {seen : Typed} {stars : List (List (List ℕ))} {ts : List Sign} →
    IsTrue parameter → SuffixThen types stars None Then ts → WordThen parameter types seen stars Then ts
missing_back h s = record { name = None; suffix = s.suffix; inner = s.inner; us = s.us; word_fits = h; suffix_fits = s.suffix_fits; low = s.low; printed = s.printed; goes_on = s.goes_on }

-- sizes

record SizesHere (types : List (List ℕ)) (ts : List Sign) (suffix : Suffix) (us : List Sign) : Type 0 where
  pub sizes : List (Option Exp)
  pub reads : SizesRead types ts sizes us
  pub is : suffix ≡ suffix_of sizes

formed_sizes : {types : List (List ℕ)} {suffix : Suffix} (us : List Sign) → SuffixFormed types suffix → suffix_height suffix ≤ 256 → EndsDeclarator us → SizesHere types (flat_suffix suffix ++ us) suffix us
formed_sizes {types = types} us plain low e = record {
  sizes = [];
  reads = subst (λ v. SizesRead types v [] us) (sym (ap (λ v. v ++ us) flat_suffix-Plain)) (sizes_end us (end_no_bracket us e));
  is = refl;
}
formed_sizes us (arrays size sizes w) low e = record { sizes = size ∷ sizes; reads = sizes_before_end us w low e; is = refl }

sizes_here : {types inner : List (List ℕ)} {ts : List Sign} {suffix : Suffix} (us : List Sign) → (Begins opening ts → ⊥) → IsSuffix types suffix inner → suffix_height suffix ≤ 256 → EndsDeclarator us →
    ts ≡ flat_suffix suffix ++ us → SizesHere types ts suffix us
sizes_here us none (no_parameters types suffix w) low e q = subst (λ v. SizesHere types v suffix us) (sym q) (formed_sizes us w low e)
sizes_here us none (parameters types xs inner w) low e q = absurd (none (subst (Begins opening) (sym (q ∙ flat_params-before xs false us)) refl))
sizes_here us none (more_parameters types x xs inner w) low e q = absurd (none (subst (Begins opening) (sym (q ∙ flat_params-before (x ∷ xs) true us)) refl))

pub sizes_forth : {Then : Declarator → List Sign → Type 0} {types : List (List ℕ)} {stars : List (List (List ℕ))} {name : Option (List ℕ)} {ts us : List Sign} {sizes : List (Option Exp)} → EndsBehind Then →
    (Begins opening ts → ⊥) → SizesRead types ts sizes us → SuffixThen types stars name Then ts → Then (record { stars = stars; name = name; suffix = suffix_of sizes }) us
sizes_forth {Then = Then} {stars = stars} {name = name} {us = us} ends none read s =
    let h = sizes_here s.us none s.suffix_fits s.low (ends _ s.us s.goes_on) s.printed in
    let same = sizes_same h.reads read in
    subst (λ v. Then (record { stars = stars; name = name; suffix = v }) us) (h.is ∙ ap suffix_of same.0)
    (subst (λ v. Then (record { stars = stars; name = name; suffix = s.suffix }) v) same.1 s.goes_on)

sizes_fit : {types : List (List ℕ)} {ts us : List Sign} (sizes : List (Option Exp)) → SizesRead types ts sizes us → IsSuffix types (suffix_of sizes) types × (suffix_height (suffix_of sizes) ≤ 256) × (ts ≡ flat_suffix (suffix_of sizes) ++ us)
sizes_fit {types = types} {ts = ts} {us = us} [] read =
    let p = sizes_printed types ts us [] read in
    (no_parameters types su.Plain plain, let e = suffix_height-Plain in omega (arith, e), p.printed ∙ ap (λ v. v ++ us) (sym flat_suffix-Plain))
sizes_fit {types = types} {ts = ts} {us = us} (size ∷ sizes) read =
    let p = sizes_printed types ts us (size ∷ sizes) read in (
      no_parameters types (su.Arrays (size ∷ sizes)) (arrays size sizes p.formed),
      let e = suffix_height-Arrays (size ∷ sizes) in let h = p.nested in omega (arith, e, h),
      p.printed ∙ ap (λ v. v ++ us) (sym (flat_suffix-Arrays (size ∷ sizes))),
    )

pub sizes_back : {Then : Declarator → List Sign → Type 0} {types : List (List ℕ)} {stars : List (List (List ℕ))} {name : Option (List ℕ)} {ts us : List Sign} (sizes : List (Option Exp)) →
    SizesRead types ts sizes us → Then (record { stars = stars; name = name; suffix = suffix_of sizes }) us → SuffixThen types stars name Then ts
sizes_back {types = types} {us = us} sizes read goes =
    let p = sizes_fit sizes read in
    record { suffix = suffix_of sizes; inner = types; us = us; suffix_fits = p.0; low = p.1; printed = p.2; goes_on = goes }

pub no_sizes : {Then : Declarator → List Sign → Type 0} {types : List (List ℕ)} {stars : List (List (List ℕ))} {name : Option (List ℕ)} {ts : List Sign} → EndsBehind Then →
    (Begins opening ts → ⊥) → ((sizes : List (Option Exp)) (left : List Sign) → SizesRead types ts sizes left → ⊥) → SuffixThen types stars name Then ts → ⊥
no_sizes ends none wrong s = let h = sizes_here s.us none s.suffix_fits s.low (ends _ s.us s.goes_on) s.printed in wrong h.sizes s.us h.reads
