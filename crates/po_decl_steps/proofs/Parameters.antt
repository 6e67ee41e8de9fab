-- Parameters: a list opens, one begins, and the list closes.
use Rattle.std.proofs.Common.{◌≡◌, ◌∙◌, ◌≢◌, ℕ, ◌≤◌, List, [], ◌∷◌, ◌++◌, map, flat_map, Bool, true, false, cond, refl, sym, ap, subst, arith, drop, get_or, append_assoc, append-nil, codes}
use Rattle.std.specs.Prelude.{Option}
use Rattle.po_base.specs.declared.token.TokenKind.TheVariants as k
use Rattle.po_tree.specs.declared.expression.Param.{Param, out-Param, roll-Param, out-roll-Param, roll-out-Param}
use Rattle.po_tree.specs.declared.expression.Specifier.{Specifier}
use Rattle.po_tree.specs.declared.expression.Suffix.{Suffix}
use Rattle.po_tree.specs.declared.expression.Suffix.TheVariants as su
use Rattle.po_tree.specs.declared.expression.Declarator.{Declarator}
use Rattle.po_tree.specs.declared.declaration.Decl.{Decl}
use Rattle.po_tree.specs.Signs.{Sign, opening, closing, bracket, comma, dots, punct}
use Rattle.po_tree.specs.Printing.{flat_specifier, flat_declarator, flat_suffix, after_commas, with_commas}
use Rattle.po_tree.specs.Heights.{declarator_height, suffix_height, greatest}
use Rattle.po_tree.specs.Layers.{flat_suffix-Plain}
use Rattle.po_tree.specs.Expressions.{untyped, SuffixFormed, plain, arrays}
use Rattle.po_tree.specs.Declarations.{Specs, Params, no_more_params, one_more_param, IsParameter, IsSuffix, no_parameters, parameters, more_parameters}
use Rattle.po_exp_parts.specs.Places.{Begins, BeginsWord}
use Rattle.po_decl_laws.specs.Parts.{specs_height, flat_param, param_height}
use Rattle.po_decl_laws.specs.Fronts.{EndsDeclarator}
use Rattle.po_decl_laws.proofs.Layers.{flat_suffix-Params, suffix_height-Params}
use Rattle.po_decl_laws.proofs.Fronts.{end_no_opening, flat_arrays-before}
use Rattle.po_decl_steps.specs.declared.levels.Owner.TheVariants as owner
use Rattle.po_decl_steps.specs.Completing.{SpecsThen, ParamsThen, hidden, Inner, list, BehindSpecifiers}
use Rattle.po_decl_steps.specs.Steps.{SuffixThen}
use Rattle.po_decl_steps.proofs.Fitting.{parameter_of, fits_parameter}
use Rattle.po_decl_steps.proofs.Members.{word_first}
use Rattle.po_decl_steps.proofs.Declarators.{EndsBehind}

tails : {a b : Sign} {us vs : List Sign} → a ∷ us ≡ b ∷ vs → us ≡ vs
tails q = ap (drop 1) q

-- the end of a list of parameters
abbrev pub list_end : Bool → List Sign → List Sign
list_end more us = cond more (comma ∷ dots ∷ []) [] ++ (closing ∷ us)

-- a parameter at the front, the further ones, and the end of their list
pub record FirstParam (Then : List Param → Bool → List Sign → Type 0) (types : List (List ℕ)) (before : List Param) (ts : List Sign) : Type 0 where
  pub item : Param
  pub rest : List Param
  pub inner : List (List ℕ)
  pub more : Bool
  pub us : List Sign
  pub formed : Params types (item ∷ rest) inner
  pub low : greatest (map param_height (item ∷ rest)) ≤ 256
  pub printed : ts ≡ flat_param item ++ (after_commas (map flat_param rest) ++ list_end more us)
  pub goes_on : Then (before ++ item ∷ rest) more us

regrouped : (before rest : List Param) (x : Param) (specs : List Specifier) (d : Declarator) → (out-Param x).specs ≡ specs → (out-Param x).declarator ≡ d →
    before ++ x ∷ rest ≡ (before ++ roll-Param (record { specs = specs; declarator = d }) ∷ []) ++ rest
regrouped before rest x specs d q r =
    ap (λ v. before ++ v ∷ rest) (sym (roll-out-Param x) ∙ ap (λ v. roll-Param (record { specs = v; declarator = (out-Param x).declarator })) q ∙ ap (λ v. roll-Param (record { specs = specs; declarator = v })) r) ∙
    sym (append_assoc before (roll-Param (record { specs = specs; declarator = d }) ∷ []) rest)

param_from : (Out : Inner → List Sign → Type 0) (y : Decl) (left : List Sign) {types inner : List (List ℕ)} {stars : List (List (List ℕ))} {name : Option (List ℕ)} (before : List Param) {ts : List Sign} {x : Param} {rest : List Param} (more : Bool) (us : List Sign) → Params types (x ∷ rest) inner → greatest (map param_height (x ∷ rest)) ≤ 256 →
    ts ≡ flat_param x ++ (after_commas (map flat_param rest) ++ list_end more us) → Out (list stars name (before ++ x ∷ rest) more) us →
    SpecsThen (BehindSpecifiers Out y left (owner.Param stars name before)) true true types untyped [] ts
param_from Out y left {stars = stars} {name = name} before more us (one_more_param types own inner types' seen x rest some specs is others) low q goes =
    let f = fits_parameter is in
    record {
      rest = (out-Param x).specs;
      inner = own;
      sort = seen;
      us = flat_declarator (out-Param x).declarator ++ (after_commas (map flat_param rest) ++ list_end more us);
      formed = specs;
      low = omega (arith, low);
      printed = q ∙ append_assoc (flat_map flat_specifier (out-Param x).specs) (flat_declarator (out-Param x).declarator) (after_commas (map flat_param rest) ++ list_end more us);
      goes_on = (
        some,
        record {
          item = (out-Param x).declarator;
          us = after_commas (map flat_param rest) ++ list_end more us;
          fits = f.0;
          low = omega (arith, low);
          printed = refl;
          goes_on = record {
            rest = rest;
            inner = types';
            more = more;
            us = us;
            formed = subst (λ v. Params v rest types') f.1 others;
            low = omega (arith, low);
            printed = refl;
            goes_on = subst (λ v. Out (list stars name v more) us) (regrouped before rest x (out-Param x).specs (out-Param x).declarator refl refl) goes;
          };
        },
      );
    }

-- a parameter begins
pub param_forth : (Out : Inner → List Sign → Type 0) (y : Decl) (left : List Sign) {types : List (List ℕ)} {stars : List (List (List ℕ))} {name : Option (List ℕ)} {before : List Param} {ts : List Sign} →
    FirstParam (λ all more us. Out (list stars name all more) us) types before ts → SpecsThen (BehindSpecifiers Out y left (owner.Param stars name before)) true true types untyped [] ts
param_forth Out y left {stars = stars} {name = name} {before = before} p = param_from Out y left {stars = stars} {name = name} before p.more p.us p.formed p.low p.printed p.goes_on

pub param_back : (Out : Inner → List Sign → Type 0) (y : Decl) (left : List Sign) {types : List (List ℕ)} {stars : List (List (List ℕ))} {name : Option (List ℕ)} {before : List Param} {ts : List Sign} →
    SpecsThen (BehindSpecifiers Out y left (owner.Param stars name before)) true true types untyped [] ts → FirstParam (λ all more us. Out (list stars name all more) us) types before ts
param_back Out y left {types = types} {stars = stars} {name = name} {before = before} s =
    let d = s.goes_on.1 in
    let ps = d.goes_on in
    let x = roll-Param (record { specs = s.rest; declarator = d.item }) in
    let layer : out-Param x ≡ record { specs = s.rest; declarator = d.item } = out-roll-Param _ in
    let r : (out-Param x).specs ≡ s.rest = ap (λ v. v.specs) layer in
    let p : (out-Param x).declarator ≡ d.item = ap (λ v. v.declarator) layer in
    record {
      item = x;
      rest = ps.rest;
      inner = ps.inner;
      more = ps.more;
      us = ps.us;
      formed = one_more_param types s.inner (hidden d.item.name s.inner) ps.inner s.sort x ps.rest
          (subst (λ (v : List Specifier). v ≢ []) (sym r) s.goes_on.0)
          (subst (λ v. Specs true true types untyped v s.inner s.sort) (sym r) s.formed)
          (subst (λ v. IsParameter s.inner s.sort v (hidden d.item.name s.inner)) (sym p) (parameter_of d.item d.fits))
          ps.formed;
      low = let a = ap specs_height r in let b = ap declarator_height p in let c = s.low in let e = d.low in let f = ps.low in omega (arith, a, b, c, e, f);
      printed = s.printed ∙ ap (λ v. flat_map flat_specifier s.rest ++ v) (d.printed ∙ ap (λ v. flat_declarator d.item ++ v) ps.printed) ∙
          sym (append_assoc (flat_map flat_specifier s.rest) (flat_declarator d.item) (after_commas (map flat_param ps.rest) ++ list_end ps.more ps.us)) ∙
          ap (λ v. (flat_map flat_specifier s.rest ++ flat_declarator v) ++ (after_commas (map flat_param ps.rest) ++ list_end ps.more ps.us)) (sym p) ∙
          ap (λ v. (flat_map flat_specifier v ++ flat_declarator (out-Param x).declarator) ++ (after_commas (map flat_param ps.rest) ++ list_end ps.more ps.us)) (sym r);
      goes_on = subst (λ v. Out (list stars name v ps.more) ps.us) (sym (regrouped before ps.rest x s.rest d.item r p)) ps.goes_on;
    }

-- it begins with a word
pub param_word : (Out : Inner → List Sign → Type 0) (y : Decl) (left : List Sign) {types : List (List ℕ)} {stars : List (List (List ℕ))} {name : Option (List ℕ)} (before : List Param) {ts : List Sign} →
    SpecsThen (BehindSpecifiers Out y left (owner.Param stars name before)) true true types untyped [] ts → BeginsWord ts
param_word Out y left before s = word_first s.rest s.us s.goes_on.0 s.formed s.printed

formed_word : {types inner : List (List ℕ)} {x : Param} {rest : List Param} (us : List Sign) → Params types (x ∷ rest) inner → BeginsWord (flat_param x ++ us)
formed_word us (one_more_param types own inner types' seen x rest some specs is others) =
    word_first (out-Param x).specs (flat_declarator (out-Param x).declarator ++ us) some specs (append_assoc (flat_map flat_specifier (out-Param x).specs) (flat_declarator (out-Param x).declarator) us)

-- what is a punctuator is no word
pub sign_no_word : (text : List ℕ) (ts : List Sign) → BeginsWord (punct text ∷ ts) → ⊥
sign_no_word text ts w = let kinds : k.Punct ≡ k.Word = w in cc

-- behind a comma

comma_closing : {us vs : List Sign} → comma ∷ us ≡ closing ∷ vs → ⊥
comma_closing q = let bytes = ap (λ signs. get_or (get_or signs 0 comma).text 0 0) q in omega arith

opening_bracket : {us vs : List Sign} → opening ∷ us ≡ bracket ∷ vs → ⊥
opening_bracket q = let bytes = ap (λ signs. get_or (get_or signs 0 comma).text 0 0) q in omega arith

closing_end : (more : Bool) {ts us : List Sign} → closing ∷ ts ≡ list_end more us → (more ≡ false) × (ts ≡ us)
closing_end true q = absurd (comma_closing (sym q))
closing_end false q = (refl, tails q)

comma_end : (more : Bool) {ts us : List Sign} → comma ∷ ts ≡ list_end more us → (more ≡ true) × (ts ≡ dots ∷ (closing ∷ us))
comma_end true q = (refl, tails q)
comma_end false q = absurd (comma_closing q)

next_from : {Then : List Param → Bool → List Sign → Type 0} {types inner : List (List ℕ)} {before rest : List Param} {ts : List Sign} (more : Bool) (us : List Sign) → (Begins dots ts → ⊥) →
    Params types rest inner → greatest (map param_height rest) ≤ 256 → comma ∷ ts ≡ after_commas (map flat_param rest) ++ list_end more us → Then (before ++ rest) more us → FirstParam Then types before ts
next_from more us none (no_more_params types) low q goes = absurd (none (subst (Begins dots) (sym (comma_end more q).1) refl))
next_from more us none (one_more_param types own inner types' seen x rest some specs is others) low q goes = record {
  item = x;
  rest = rest;
  inner = types';
  more = more;
  us = us;
  formed = one_more_param types own inner types' seen x rest some specs is others;
  low = low;
  printed = tails q ∙ append_assoc (flat_param x) (after_commas (map flat_param rest)) (list_end more us);
  goes_on = goes;
}

-- a further parameter stands behind a comma
pub next_forth : {Then : List Param → Bool → List Sign → Type 0} {types : List (List ℕ)} {before : List Param} {ts us : List Sign} → ts ≡ comma ∷ us → (Begins dots us → ⊥) →
    ParamsThen Then types before ts → FirstParam Then types before us
next_forth q none s = next_from s.more s.us none s.formed s.low (sym q ∙ s.printed) s.goes_on

pub next_back : {Then : List Param → Bool → List Sign → Type 0} {types : List (List ℕ)} {before : List Param} {ts us : List Sign} → ts ≡ comma ∷ us →
    FirstParam Then types before us → ParamsThen Then types before ts
next_back q p = record {
  rest = p.item ∷ p.rest;
  inner = p.inner;
  more = p.more;
  us = p.us;
  formed = p.formed;
  low = p.low;
  printed = q ∙ ap (λ v. comma ∷ v) (p.printed ∙ sym (append_assoc (flat_param p.item) (after_commas (map flat_param p.rest)) (list_end p.more p.us)));
  goes_on = p.goes_on;
}

-- the list closes

closing_from : (Then : List Param → Bool → List Sign → Type 0) {types inner : List (List ℕ)} {before rest : List Param} {ts : List Sign} (more : Bool) (us : List Sign) →
    Params types rest inner → closing ∷ ts ≡ after_commas (map flat_param rest) ++ list_end more us → Then (before ++ rest) more us → Then before false ts
closing_from Then {before = before} more us (no_more_params types) q goes =
    let e = closing_end more q in
    subst (λ v. Then before false v) (sym e.1) (subst (λ v. Then before v us) e.0 (subst (λ v. Then v more us) (append-nil before) goes))
closing_from Then more us (one_more_param types own inner types' seen x rest some specs is others) q goes = absurd (comma_closing (sym q))

pub closing_forth : {Then : List Param → Bool → List Sign → Type 0} {types : List (List ℕ)} {before : List Param} {ts us : List Sign} → ts ≡ closing ∷ us →
    ParamsThen Then types before ts → Then before false us
closing_forth {Then = Then} q s = closing_from Then s.more s.us s.formed (sym q ∙ s.printed) s.goes_on

pub closing_back : {Then : List Param → Bool → List Sign → Type 0} {types : List (List ℕ)} {before : List Param} {ts us : List Sign} → ts ≡ closing ∷ us →
    Then before false us → ParamsThen Then types before ts
closing_back {Then = Then} {types = types} {before = before} {us = us} q goes = record {
  rest = [];
  inner = types;
  more = false;
  us = us;
  formed = no_more_params types;
  low = omega arith;
  printed = q;
  goes_on = subst (λ v. Then v false us) (sym (append-nil before)) goes;
}

dots_from : (Then : List Param → Bool → List Sign → Type 0) {types inner : List (List ℕ)} {before rest : List Param} {ts : List Sign} (more : Bool) (us : List Sign) →
    Params types rest inner → comma ∷ (dots ∷ ts) ≡ after_commas (map flat_param rest) ++ list_end more us → Then (before ++ rest) more us → (ts ≡ closing ∷ us) × Then before true us
dots_from Then {before = before} more us (no_more_params types) q goes =
    let e = comma_end more q in (tails e.1, subst (λ v. Then before v us) e.0 (subst (λ v. Then v more us) (append-nil before) goes))
dots_from Then {ts = ts} more us (one_more_param types own inner types' seen x rest some specs is others) q goes =
    absurd (sign_no_word (codes "...") ts (subst BeginsWord (sym (tails q ∙ append_assoc (flat_param x) (after_commas (map flat_param rest)) (list_end more us)))
    (formed_word (after_commas (map flat_param rest) ++ list_end more us) (one_more_param types own inner types' seen x rest some specs is others))))

-- behind dots it closes
pub dots_forth : {Then : List Param → Bool → List Sign → Type 0} {types : List (List ℕ)} {before : List Param} {ts us : List Sign} → ts ≡ comma ∷ (dots ∷ us) →
    ParamsThen Then types before ts → (vs : List Sign) × (us ≡ closing ∷ vs) × Then before true vs
dots_forth {Then = Then} q s = let p = dots_from Then s.more s.us s.formed (sym q ∙ s.printed) s.goes_on in (s.us, p.0, p.1)

pub dots_back : {Then : List Param → Bool → List Sign → Type 0} {types : List (List ℕ)} {before : List Param} {ts us : List Sign} → ts ≡ comma ∷ (dots ∷ (closing ∷ us)) →
    Then before true us → ParamsThen Then types before ts
dots_back {Then = Then} {types = types} {before = before} {us = us} q goes = record {
  rest = [];
  inner = types;
  more = true;
  us = us;
  formed = no_more_params types;
  low = omega arith;
  printed = q;
  goes_on = subst (λ v. Then v true us) (sym (append-nil before)) goes;
}

end_here : (more : Bool) {ts : List Sign} (us : List Sign) → (Begins comma ts → ⊥) → (Begins closing ts → ⊥) → ts ≡ list_end more us → ⊥
end_here true us a b q = a (subst (Begins comma) (sym q) refl)
end_here false us a b q = b (subst (Begins closing) (sym q) refl)

neither_here : {ts : List Sign} (us : List Sign) (rest : List Param) (more : Bool) → (Begins comma ts → ⊥) → (Begins closing ts → ⊥) → ts ≡ after_commas (map flat_param rest) ++ list_end more us → ⊥
neither_here us [] more a b q = end_here more us a b q
neither_here us (x ∷ xs) more a b q = a (subst (Begins comma) (sym q) refl)

pub no_param_end : {Then : List Param → Bool → List Sign → Type 0} {types : List (List ℕ)} {before : List Param} {ts : List Sign} →
    (Begins comma ts → ⊥) → (Begins closing ts → ⊥) → ParamsThen Then types before ts → ⊥
no_param_end a b s = neither_here s.us s.rest s.more a b s.printed

-- a list opens

-- a list with its parenthesis
list_printed : (xs : List Param) (more : Bool) (us : List Sign) → flat_suffix (su.Params xs more) ++ us ≡ opening ∷ (with_commas (map flat_param xs) ++ list_end more us)
list_printed xs more us =
    let inside = with_commas (map flat_param xs) in
    let tail : List Sign = cond more (comma ∷ dots ∷ []) [] in
    ap (λ v. v ++ us) (flat_suffix-Params xs more) ∙ ap (λ v. opening ∷ v) (append_assoc (inside ++ tail) (closing ∷ []) us ∙ append_assoc inside tail (closing ∷ us))

no_suffix : {types : List (List ℕ)} {ts : List Sign} {suffix : Suffix} (us : List Sign) → SuffixFormed types suffix → EndsDeclarator us → opening ∷ ts ≡ flat_suffix suffix ++ us → ⊥
no_suffix us plain e q = end_no_opening us e (subst (Begins opening) (q ∙ ap (λ v. v ++ us) flat_suffix-Plain) refl)
no_suffix us (arrays size sizes w) e q = opening_bracket (q ∙ flat_arrays-before size sizes us)

-- the declarator that a list ends
abbrev pub with_list : List (List (List ℕ)) → Option (List ℕ) → List Param → Bool → Declarator
with_list stars name params more = record { stars = stars; name = name; suffix = su.Params params more }

closed_from : {Then : Declarator → List Sign → Type 0} {types inner : List (List ℕ)} {stars : List (List (List ℕ))} {name : Option (List ℕ)} {ts : List Sign} (suffix : Suffix) (us : List Sign) → EndsBehind Then →
    IsSuffix types suffix inner → opening ∷ (closing ∷ ts) ≡ flat_suffix suffix ++ us → Then (record { stars = stars; name = name; suffix = suffix }) us → Then (with_list stars name [] false) ts
closed_from suffix us ends (no_parameters types suffix0 w) q goes = absurd (no_suffix us w (ends _ us goes) q)
closed_from {Then = Then} {stars = stars} {name = name} suffix us ends (parameters types params inner (no_more_params types0)) q goes =
    subst (λ v. Then (with_list stars name [] false) v) (sym (tails (tails (q ∙ list_printed [] false us)))) goes
closed_from {ts = ts} suffix us ends (parameters types params inner (one_more_param types0 own inner0 types' seen x rest some specs is others)) q goes =
    absurd (sign_no_word (codes ")") ts (subst BeginsWord (sym (tails (q ∙ list_printed (x ∷ rest) false us) ∙ append_assoc (flat_param x) (after_commas (map flat_param rest)) (list_end false us)))
    (formed_word _ (one_more_param types0 own inner0 types' seen x rest some specs is others))))
closed_from {ts = ts} suffix us ends (more_parameters types x xs inner w) q goes =
    absurd (sign_no_word (codes ")") ts (subst BeginsWord (sym (tails (q ∙ list_printed (x ∷ xs) true us) ∙ append_assoc (flat_param x) (after_commas (map flat_param xs)) (list_end true us))) (formed_word _ w)))

-- an empty list
pub empty_forth : {Then : Declarator → List Sign → Type 0} {types : List (List ℕ)} {stars : List (List (List ℕ))} {name : Option (List ℕ)} {ts us : List Sign} → EndsBehind Then → ts ≡ closing ∷ us →
    SuffixThen types stars name Then (opening ∷ ts) → Then (with_list stars name [] false) us
empty_forth ends q s = closed_from s.suffix s.us ends s.suffix_fits (ap (λ v. opening ∷ v) (sym q) ∙ s.printed) s.goes_on

pub empty_back : {Then : Declarator → List Sign → Type 0} {types : List (List ℕ)} {stars : List (List (List ℕ))} {name : Option (List ℕ)} {ts us : List Sign} → ts ≡ closing ∷ us →
    Then (with_list stars name [] false) us → SuffixThen types stars name Then (opening ∷ ts)
empty_back {types = types} {us = us} q goes = record {
  suffix = su.Params [] false;
  inner = types;
  us = us;
  suffix_fits = parameters types [] types (no_more_params types);
  low = let e = suffix_height-Params [] false in omega (arith, e);
  printed = ap (λ v. opening ∷ v) q ∙ sym (list_printed [] false us);
  goes_on = goes;
}

begun_from : {Then : Declarator → List Sign → Type 0} {types inner : List (List ℕ)} {stars : List (List (List ℕ))} {name : Option (List ℕ)} {ts : List Sign} (suffix : Suffix) (us : List Sign) → EndsBehind Then → (Begins closing ts → ⊥) →
    IsSuffix types suffix inner → suffix_height suffix ≤ 256 → opening ∷ ts ≡ flat_suffix suffix ++ us → Then (record { stars = stars; name = name; suffix = suffix }) us →
    FirstParam (λ all more vs. Then (with_list stars name all more) vs) types [] ts
begun_from suffix us ends none (no_parameters types suffix0 w) low q goes = absurd (no_suffix us w (ends _ us goes) q)
begun_from suffix us ends none (parameters types params inner (no_more_params types0)) low q goes = absurd (none (subst (Begins closing) (sym (tails (q ∙ list_printed [] false us))) refl))
begun_from suffix us ends none (parameters types params inner (one_more_param types0 own inner0 types' seen x rest some specs is others)) low q goes = record {
  item = x;
  rest = rest;
  inner = types';
  more = false;
  us = us;
  formed = one_more_param types0 own inner0 types' seen x rest some specs is others;
  low = let e = suffix_height-Params (x ∷ rest) false in omega (arith, low, e);
  printed = tails (q ∙ list_printed (x ∷ rest) false us) ∙ append_assoc (flat_param x) (after_commas (map flat_param rest)) (list_end false us);
  goes_on = goes;
}
begun_from suffix us ends none (more_parameters types x xs inner w) low q goes = record {
  item = x;
  rest = xs;
  inner = inner;
  more = true;
  us = us;
  formed = w;
  low = let e = suffix_height-Params (x ∷ xs) true in omega (arith, low, e);
  printed = tails (q ∙ list_printed (x ∷ xs) true us) ∙ append_assoc (flat_param x) (after_commas (map flat_param xs)) (list_end true us);
  goes_on = goes;
}

pub list_forth : {Then : Declarator → List Sign → Type 0} {types : List (List ℕ)} {stars : List (List (List ℕ))} {name : Option (List ℕ)} {ts : List Sign} → EndsBehind Then → (Begins closing ts → ⊥) →
    SuffixThen types stars name Then (opening ∷ ts) → FirstParam (λ all more us. Then (with_list stars name all more) us) types [] ts
list_forth ends none s = begun_from s.suffix s.us ends none s.suffix_fits s.low s.printed s.goes_on

list_is : {types inner : List (List ℕ)} (x : Param) (rest : List Param) (more : Bool) → Params types (x ∷ rest) inner → IsSuffix types (su.Params (x ∷ rest) more) inner
list_is {types = types} {inner = inner} x rest true w = more_parameters types x rest inner w
list_is {types = types} {inner = inner} x rest false w = parameters types (x ∷ rest) inner w

pub list_back : {Then : Declarator → List Sign → Type 0} {types : List (List ℕ)} {stars : List (List (List ℕ))} {name : Option (List ℕ)} {ts : List Sign} →
    FirstParam (λ all more us. Then (with_list stars name all more) us) types [] ts → SuffixThen types stars name Then (opening ∷ ts)
list_back p = record {
  suffix = su.Params (p.item ∷ p.rest) p.more;
  inner = p.inner;
  us = p.us;
  suffix_fits = list_is p.item p.rest p.more p.formed;
  low = let e = suffix_height-Params (p.item ∷ p.rest) p.more in let h = p.low in omega (arith, e, h);
  printed = ap (λ v. opening ∷ v) (p.printed ∙ sym (append_assoc (flat_param p.item) (after_commas (map flat_param p.rest)) (list_end p.more p.us))) ∙ sym (list_printed (p.item ∷ p.rest) p.more p.us);
  goes_on = p.goes_on;
}
