-- The parts of a declaration, and the whole of one.
use Rattle.std.proofs.Common.{◌≡◌, ◌∙◌, ◌≢◌, ℕ, ◌≤◌, List, [], ◌∷◌, ◌++◌, map, flat_map, Bool, true, false, refl, sym, ap, subst, arith, drop, get_or, append_assoc, append-nil, inl, inr, ◌↔◌, IsTrue, true≢false}
use Rattle.std.specs.Prelude.{Option, Some, None}
use Rattle.po_lists.proofs.Options.{one_value}
use Rattle.po_tree.specs.declared.expression.Specifier.{Specifier}
use Rattle.po_tree.specs.declared.expression.Declarator.{Declarator}
use Rattle.po_tree.specs.declared.declaration.Init.{Init}
use Rattle.po_tree.specs.declared.declaration.Decl.{Decl}
use Rattle.po_tree.specs.Signs.{Sign, word, comma, semicolon, equals}
use Rattle.po_tree.specs.Printing.{prints_star, flat_specifier, flat_declarator, flat_suffix, flat_init, flat_part, flat_decl, after_commas, with_commas, optional}
use Rattle.po_tree.specs.Heights.{init_height, part_height, decl_height, greatest, or_none}
use Rattle.po_tree.specs.Expressions.{Typed, untyped}
use Rattle.po_tree.specs.Declarations.{Specs, IsDeclarator, declarator, IsTypedef, Declares, new_type, other, Parts, no_more_parts, part, initialised, Declared, declared}
use Rattle.po_exp_parts.specs.Places.{Begins, at_comma, at_semicolon, at_bracket, at_brace, at_colon, at_parenthesis, BeginsEnd}
use Rattle.po_init_read.specs.Initialisers.{StandsEnded}
use Rattle.po_decl_laws.specs.Parts.{specs_height}
use Rattle.po_decl_laws.proofs.Fronts.{punct_word, flat_declarator-before}
use Rattle.po_decl_steps.specs.declared.levels.Owner.TheVariants as owner
use Rattle.po_decl_steps.specs.Standing.{DeclarationStands}
use Rattle.po_decl_steps.specs.Completing.{SpecsThen, DeclaratorThen, DeclaratorFits, PartsThen, ValueThen, PartThen, InitFits, declares, Inner, BehindSpecifiers, BehindDeclarator}
use Rattle.po_decl_steps.proofs.Fitting.{declarator_of, fits_declarator}

tails : {a b : Sign} {us vs : List Sign} → a ∷ us ≡ b ∷ vs → us ≡ vs
tails q = ap (drop 1) q

-- two tests of one thing are one
pub one_test : {P : Type 0} (a b : Bool) → IsTrue a ↔ P → IsTrue b ↔ P → a ≡ b
one_test true b h g = sym (g.1 (h.0 refl))
one_test false true h g = h.1 (g.0 refl)
one_test false false h g = refl

-- whether a declaration's words are typedef names, and what is in force behind one
declares_by : {specs : List Specifier} {name : List ℕ} {types inner : List (List ℕ)} → Declares specs name types inner → (sort : Bool) × (IsTrue sort ↔ IsTypedef specs) × (inner ≡ declares sort name types)
declares_by (new_type h) = (true, ((λ _. h), (λ _. refl)), refl)
declares_by (other none) = (false, ((λ t. absurd (true≢false (sym t))), (λ h. absurd (none h))), refl)

declares_of : {specs : List Specifier} (sort : Bool) (name : List ℕ) (types : List (List ℕ)) → IsTrue sort ↔ IsTypedef specs → Declares specs name types (declares sort name types)
declares_of true name types kind = new_type (kind.0 refl)
declares_of false name types kind = other (λ h. true≢false (sym (kind.1 h)))

-- the first part of some, and what follows it
pub record FirstPart (specs : List Specifier) (seen : Typed) (types : List (List ℕ)) (before : List (Declarator × Option Init)) (ts : List Sign) (y : Decl) (left : List Sign) : Type 0 where
  pub sort : Bool
  pub part_stands : DeclaratorThen (DeclaratorFits false types seen) (λ item us. PartThen sort specs seen types before item us y left) ts

part_printed : (item : Declarator) (value : Option Init) (rest : List (Declarator × Option Init)) (us : List Sign) →
    (flat_part (item, value) ++ after_commas (map flat_part rest)) ++ us ≡ flat_declarator item ++ (optional (λ x. equals ∷ flat_init x) value ++ (after_commas (map flat_part rest) ++ us))
part_printed item value rest us =
    let init : List Sign = optional (λ x. equals ∷ flat_init x) value in
    append_assoc (flat_part (item, value)) (after_commas (map flat_part rest)) us ∙ append_assoc (flat_declarator item) init (after_commas (map flat_part rest) ++ us)

first_of : {specs : List Specifier} {seen : Typed} {types params inner last : List (List ℕ)} {name : List ℕ} {before : List (Declarator × Option Init)} {ts left : List Sign} {y : Decl}
    (item : Declarator) (value : Option Init) (rest : List (Declarator × Option Init)) → IsDeclarator types seen name item params → Declares specs name types inner → InitFits inner value → Parts specs seen inner rest last →
    greatest (map part_height ((item, value) ∷ rest)) ≤ 256 → ts ≡ flat_declarator item ++ (optional (λ x. equals ∷ flat_init x) value ++ (after_commas (map flat_part rest) ++ (semicolon ∷ left))) →
    y ≡ record { specs = specs; parts = before ++ (item, value) ∷ rest } → FirstPart specs seen types before ts y left
first_of {specs = specs} {seen = seen} {last = last} {name = name} {before = before} {left = left} item value rest is ds fits others low q whole =
    let k = declares_by ds in
    let f = fits_declarator is in
    record {
      sort = k.0;
      part_stands = record {
        item = item;
        us = optional (λ x. equals ∷ flat_init x) value ++ (after_commas (map flat_part rest) ++ (semicolon ∷ left));
        fits = f.0;
        low = omega (arith, low);
        printed = q;
        goes_on = record {
          kind = k.1;
          name = name;
          named = f.1;
          goes_on = record {
            value = value;
            us = after_commas (map flat_part rest) ++ (semicolon ∷ left);
            fits = subst (λ v. InitFits v value) k.2 fits;
            low = omega (arith, low);
            printed = refl;
            others = record {
              rest = rest;
              last = last;
              formed = subst (λ v. Parts specs seen v rest last) k.2 others;
              low = omega (arith, low);
              printed = refl;
              whole = whole ∙ ap (λ v. record { specs = specs; parts = v }) (sym (append_assoc before ((item, value) ∷ []) rest));
            };
          };
        };
      };
    }

comma_semicolon : {us vs : List Sign} → comma ∷ us ≡ semicolon ∷ vs → ⊥
comma_semicolon q = let bytes = ap (λ signs. get_or (get_or signs 0 comma).text 0 0) q in omega arith

further_from : {specs : List Specifier} {seen : Typed} {types last : List (List ℕ)} {before parts : List (Declarator × Option Init)} {ts left : List Sign} {y : Decl} → Parts specs seen types parts last →
    greatest (map part_height parts) ≤ 256 → comma ∷ ts ≡ after_commas (map flat_part parts) ++ (semicolon ∷ left) → y ≡ record { specs = specs; parts = before ++ parts } →
    FirstPart specs seen types before ts y left
further_from (no_more_parts types) low q whole = absurd (comma_semicolon q)
further_from {left = left} (part types params inner types' name d rest is ds others) low q whole =
    first_of d None rest is ds tt others low (tails q ∙ part_printed d None rest (semicolon ∷ left)) whole
further_from {left = left} (initialised types params inner types' name d x rest is ds fits others) low q whole =
    first_of d (Some x) rest is ds fits others low (tails q ∙ part_printed d (Some x) rest (semicolon ∷ left)) whole

-- a further part stands behind a comma
pub further_forth : {specs : List Specifier} {seen : Typed} {types : List (List ℕ)} {before : List (Declarator × Option Init)} {ts us left : List Sign} {y : Decl} → ts ≡ comma ∷ us →
    PartsThen specs seen types before ts y left → FirstPart specs seen types before us y left
further_forth q p = further_from p.formed p.low (sym q ∙ p.printed) p.whole

parts_cons : {specs : List Specifier} {seen : Typed} {types params inner last : List (List ℕ)} {name : List ℕ} {rest : List (Declarator × Option Init)} (item : Declarator) (value : Option Init) →
    IsDeclarator types seen name item params → Declares specs name types inner → InitFits inner value → Parts specs seen inner rest last → Parts specs seen types ((item, value) ∷ rest) last
parts_cons {types = types} {params = params} {inner = inner} {last = last} {name = name} {rest = rest} item None is ds fits others = part types params inner last name item rest is ds others
parts_cons {types = types} {params = params} {inner = inner} {last = last} {name = name} {rest = rest} item (Some x) is ds fits others = initialised types params inner last name item x rest is ds fits others

-- some parts, the first of them at the front
pub record Listed (specs : List Specifier) (seen : Typed) (types : List (List ℕ)) (before : List (Declarator × Option Init)) (ts : List Sign) (y : Decl) (left : List Sign) : Type 0 where
  pub first : Declarator × Option Init
  pub rest : List (Declarator × Option Init)
  pub last : List (List ℕ)
  pub formed : Parts specs seen types (first ∷ rest) last
  pub low : greatest (map part_height (first ∷ rest)) ≤ 256
  pub printed : ts ≡ with_commas (map flat_part (first ∷ rest)) ++ (semicolon ∷ left)
  pub whole : y ≡ record { specs = specs; parts = before ++ first ∷ rest }

pub listed : {specs : List Specifier} {seen : Typed} {types : List (List ℕ)} {before : List (Declarator × Option Init)} {ts left : List Sign} {y : Decl} (sort : Bool) →
    DeclaratorThen (DeclaratorFits false types seen) (λ item us. PartThen sort specs seen types before item us y left) ts → Listed specs seen types before ts y left
listed {specs = specs} {seen = seen} {types = types} {before = before} {left = left} sort d =
    let n = declarator_of d.item d.fits in
    let p = d.goes_on in
    let v = p.goes_on in
    let o = v.others in
    let same = one_value d.item.name p.name n.name p.named n.has in
    record {
      first = (d.item, v.value);
      rest = o.rest;
      last = o.last;
      formed = parts_cons d.item v.value (subst (λ w. IsDeclarator types seen w d.item n.inner) (sym same) n.is) (declares_of sort p.name types p.kind) v.fits o.formed;
      low = let a = d.low in let b = v.low in let c = o.low in omega (arith, a, b, c);
      printed = d.printed ∙ ap (λ w. flat_declarator d.item ++ w) (v.printed ∙ ap (λ w. optional (λ x. equals ∷ flat_init x) v.value ++ w) o.printed) ∙ sym (part_printed d.item v.value o.rest (semicolon ∷ left));
      whole = o.whole ∙ ap (λ w. record { specs = specs; parts = w }) (append_assoc before ((d.item, v.value) ∷ []) o.rest);
    }

pub further_back : {specs : List Specifier} {seen : Typed} {types : List (List ℕ)} {before : List (Declarator × Option Init)} {ts us left : List Sign} {y : Decl} (sort : Bool) → ts ≡ comma ∷ us →
    DeclaratorThen (DeclaratorFits false types seen) (λ item vs. PartThen sort specs seen types before item vs y left) us → PartsThen specs seen types before ts y left
further_back sort q d =
    let l = listed sort d in
    record { rest = l.first ∷ l.rest; last = l.last; formed = l.formed; low = l.low; printed = q ∙ ap (λ v. comma ∷ v) l.printed; whole = l.whole }

-- where the flag is known, the part is one by it
pub by_flag : {specs : List Specifier} {seen : Typed} {types : List (List ℕ)} {before : List (Declarator × Option Init)} {ts left : List Sign} {y : Decl} {flag : Bool} → IsTrue flag ↔ IsTypedef specs → (sort : Bool) →
    DeclaratorThen (DeclaratorFits false types seen) (λ item us. PartThen sort specs seen types before item us y left) ts →
    DeclaratorThen (DeclaratorFits false types seen) (λ item us. PartThen flag specs seen types before item us y left) ts
by_flag {specs = specs} {seen = seen} {types = types} {before = before} {ts = ts} {left = left} {y = y} {flag = flag} h sort d =
    subst (λ v. DeclaratorThen (DeclaratorFits false types seen) (λ item us. PartThen v specs seen types before item us y left) ts) (one_test sort flag d.goes_on.kind h) d

-- a semicolon ends the declaration
pub semicolon_whole : {specs : List Specifier} {seen : Typed} {types : List (List ℕ)} {before : List (Declarator × Option Init)} {ts us : List Sign} → ts ≡ semicolon ∷ us →
    PartsThen specs seen types before ts (record { specs = specs; parts = before }) us
semicolon_whole {specs = specs} {seen = seen} {types = types} {before = before} q = record {
  rest = [];
  last = types;
  formed = no_more_parts types;
  low = omega arith;
  printed = q;
  whole = ap (λ v. record { specs = specs; parts = v }) (sym (append-nil before));
}

neither_here : {ts : List Sign} (left : List Sign) (parts : List (Declarator × Option Init)) → (Begins comma ts → ⊥) → (Begins semicolon ts → ⊥) → ts ≡ after_commas (map flat_part parts) ++ (semicolon ∷ left) → ⊥
neither_here left [] a b q = b (subst (Begins semicolon) (sym q) refl)
neither_here left (x ∷ xs) a b q = a (subst (Begins comma) (sym q) refl)

pub no_part_end : {specs : List Specifier} {seen : Typed} {types : List (List ℕ)} {before : List (Declarator × Option Init)} {ts left : List Sign} {y : Decl} →
    (Begins comma ts → ⊥) → (Begins semicolon ts → ⊥) → PartsThen specs seen types before ts y left → ⊥
no_part_end {left = left} a b p = neither_here left p.rest a b p.printed

-- initialisers

commas_end : (xs : List (Declarator × Option Init)) (left : List Sign) → BeginsEnd (after_commas (map flat_part xs) ++ (semicolon ∷ left))
commas_end [] left = at_semicolon
commas_end (x ∷ xs) left = at_comma

pub parts_end : {specs : List Specifier} {seen : Typed} {types : List (List ℕ)} {before : List (Declarator × Option Init)} {ts left : List Sign} {y : Decl} → PartsThen specs seen types before ts y left → BeginsEnd ts
parts_end {left = left} p = subst BeginsEnd (sym p.printed) (commas_end p.rest left)

end_no_equals : (ts : List Sign) → BeginsEnd ts → Begins equals ts → ⊥
end_no_equals [] e q = e
end_no_equals (t ∷ ts) at_comma q = let bytes = ap (λ v. get_or v.text 0 0) q in omega arith
end_no_equals (t ∷ ts) at_semicolon q = let bytes = ap (λ v. get_or v.text 0 0) q in omega arith
end_no_equals (t ∷ ts) at_bracket q = let bytes = ap (λ v. get_or v.text 0 0) q in omega arith
end_no_equals (t ∷ ts) at_brace q = let bytes = ap (λ v. get_or v.text 0 0) q in omega arith
end_no_equals (t ∷ ts) at_colon q = let bytes = ap (λ v. get_or v.text 0 0) q in omega arith
end_no_equals (t ∷ ts) at_parenthesis q = let bytes = ap (λ v. get_or v.text 0 0) q in omega arith

bare_from : {specs : List Specifier} {seen : Typed} {types : List (List ℕ)} (before : List (Declarator × Option Init)) (item : Declarator) {ts left : List Sign} {y : Decl} (value : Option Init) (us : List Sign) → (Begins equals ts → ⊥) →
    ts ≡ optional (λ x. equals ∷ flat_init x) value ++ us → PartsThen specs seen types (before ++ (item, value) ∷ []) us y left → PartsThen specs seen types (before ++ (item, None) ∷ []) ts y left
bare_from {specs = specs} {seen = seen} {types = types} before item {left = left} {y = y} None us none q p =
    subst (λ v. PartsThen specs seen types (before ++ (item, None) ∷ []) v y left) (sym q) p
bare_from before item (Some x) us none q p = absurd (none (subst (Begins equals) (sym q) refl))

-- no initialiser stands behind the declarator
pub bare_forth : {specs : List Specifier} {seen : Typed} {types : List (List ℕ)} {before : List (Declarator × Option Init)} {item : Declarator} {ts left : List Sign} {y : Decl} → (Begins equals ts → ⊥) →
    ValueThen specs seen types before item ts y left → PartsThen specs seen types (before ++ (item, None) ∷ []) ts y left
bare_forth none v = bare_from _ _ v.value v.us none v.printed v.others

pub bare_back : {specs : List Specifier} {seen : Typed} {types : List (List ℕ)} {before : List (Declarator × Option Init)} {item : Declarator} {ts left : List Sign} {y : Decl} →
    PartsThen specs seen types (before ++ (item, None) ∷ []) ts y left → ValueThen specs seen types before item ts y left
bare_back {ts = ts} p = record { value = None; us = ts; fits = tt; low = omega arith; printed = refl; others = p }

-- the law of the reader of initialisers
abbrev pub OneInit : Type 0
OneInit = (types : List (List ℕ)) (signs us vs : List Sign) (x y : Init) → StandsEnded types signs x us → StandsEnded types signs y vs → (x ≡ y) × (us ≡ vs)

value_from : {specs : List Specifier} {seen : Typed} {types : List (List ℕ)} (before : List (Declarator × Option Init)) (item : Declarator) {ts left : List Sign} {y : Decl} (value : Option Init) (us : List Sign) →
    InitFits types value → or_none init_height value ≤ 256 → equals ∷ ts ≡ optional (λ x. equals ∷ flat_init x) value ++ us → PartsThen specs seen types (before ++ (item, value) ∷ []) us y left →
    (x : Init) × (vs : List Sign) × StandsEnded types ts x vs × PartsThen specs seen types (before ++ (item, Some x) ∷ []) vs y left
value_from before item None us fits low q p = absurd (end_no_equals us (parts_end p) (subst (Begins equals) q refl))
value_from before item (Some x) us fits low q p = (x, us, record { formed = fits; nested = low; printed = tails q; ended = parts_end p }, p)

-- one does
pub value_forth : OneInit → {specs : List Specifier} {seen : Typed} {types : List (List ℕ)} {before : List (Declarator × Option Init)} {item : Declarator} {ts us vs left : List Sign} {y : Decl} {x : Init} →
    ts ≡ equals ∷ us → StandsEnded types us x vs → ValueThen specs seen types before item ts y left → PartsThen specs seen types (before ++ (item, Some x) ∷ []) vs y left
value_forth law {specs = specs} {seen = seen} {types = types} {before = before} {item = item} {us = us} {vs = vs} {left = left} {y = y} {x = x} q stands v =
    let f = value_from before item v.value v.us v.fits v.low (sym q ∙ v.printed) v.others in
    let same = law types us f.1 vs f.0 x f.2 stands in
    subst (λ w. PartsThen specs seen types (before ++ (item, Some x) ∷ []) w y left) same.1
    (subst (λ w. PartsThen specs seen types (before ++ (item, Some w) ∷ []) f.1 y left) same.0 f.3)

pub value_back : {specs : List Specifier} {seen : Typed} {types : List (List ℕ)} {before : List (Declarator × Option Init)} {item : Declarator} {ts us vs left : List Sign} {y : Decl} {x : Init} →
    ts ≡ equals ∷ us → StandsEnded types us x vs → PartsThen specs seen types (before ++ (item, Some x) ∷ []) vs y left → ValueThen specs seen types before item ts y left
value_back {vs = vs} {x = x} q stands p = record { value = Some x; us = vs; fits = stands.formed; low = stands.nested; printed = q ∙ ap (λ v. equals ∷ v) stands.printed; others = p }

pub no_value : {specs : List Specifier} {seen : Typed} {types : List (List ℕ)} {before : List (Declarator × Option Init)} {item : Declarator} {ts us left : List Sign} {y : Decl} → ts ≡ equals ∷ us →
    ((x : Init) (vs : List Sign) → StandsEnded types us x vs → ⊥) → ValueThen specs seen types before item ts y left → ⊥
no_value {before = before} {item = item} q none v = let f = value_from before item v.value v.us v.fits v.low (sym q ∙ v.printed) v.others in none f.0 f.1 f.2

-- behind the specifiers of a declaration

pub want_forth : (Out : Inner → List Sign → Type 0) {y : Decl} {left : List Sign} (typedef : Bool) {flag : Bool} {parts : List (Declarator × Option Init)} {specs : List Specifier} {seen : Typed} {types : List (List ℕ)} {ts : List Sign} →
    (Begins semicolon ts → ⊥) → IsTrue flag ↔ IsTypedef specs → BehindSpecifiers Out y left (owner.Declaration typedef parts) specs seen types ts →
    DeclaratorThen (DeclaratorFits false types seen) (BehindDeclarator Out y left (owner.Declaration flag parts) specs seen types) ts
want_forth Out typedef none h g = elim g.1 [ inl q ↦ absurd (none (subst (Begins semicolon) (sym q.0) refl)) | inr d ↦ by_flag h d.0 d.1 ]

pub want_back : (Out : Inner → List Sign → Type 0) {y : Decl} {left : List Sign} (typedef : Bool) {flag : Bool} {parts : List (Declarator × Option Init)} {specs : List Specifier} {seen : Typed} {types : List (List ℕ)} {ts : List Sign} →
    specs ≢ [] → DeclaratorThen (DeclaratorFits false types seen) (BehindDeclarator Out y left (owner.Declaration flag parts) specs seen types) ts → BehindSpecifiers Out y left (owner.Declaration typedef parts) specs seen types ts
want_back Out typedef {flag = flag} some d = (some, inr (flag, d))

-- the whole declaration

parts_go : (Out : Inner → List Sign → Type 0) {left : List Sign} {specs : List Specifier} {seen : Typed} {types last : List (List ℕ)} {ts : List Sign} {parts : List (Declarator × Option Init)} → specs ≢ [] →
    Parts specs seen types parts last → greatest (map part_height parts) ≤ 256 → ts ≡ with_commas (map flat_part parts) ++ (semicolon ∷ left) →
    BehindSpecifiers Out (record { specs = specs; parts = parts }) left (owner.Declaration false []) specs seen types ts
parts_go Out some (no_more_parts types) low q = (some, inl (q, refl))
parts_go Out {left = left} some (part types params inner types' name d rest is ds others) low q =
    let f = first_of {before = []} d None rest is ds tt others low (q ∙ part_printed d None rest (semicolon ∷ left)) refl in (some, inr (f.sort, f.part_stands))
parts_go Out {left = left} some (initialised types params inner types' name d x rest is ds fits others) low q =
    let f = first_of {before = []} d (Some x) rest is ds fits others low (q ∙ part_printed d (Some x) rest (semicolon ∷ left)) refl in (some, inr (f.sort, f.part_stands))

decl_printed : (specs : List Specifier) (parts : List (Declarator × Option Init)) (left : List Sign) →
    flat_decl (record { specs = specs; parts = parts }) ++ left ≡ flat_map flat_specifier specs ++ (with_commas (map flat_part parts) ++ (semicolon ∷ left))
decl_printed specs parts left =
    append_assoc (flat_map flat_specifier specs) (with_commas (map flat_part parts) ++ semicolon ∷ []) left ∙
    ap (λ v. flat_map flat_specifier specs ++ v) (append_assoc (with_commas (map flat_part parts)) (semicolon ∷ []) left)

begun_from : (Out : Inner → List Sign → Type 0) {types behind : List (List ℕ)} {ts left : List Sign} {y : Decl} → Declared types y behind → decl_height y ≤ 256 → ts ≡ flat_decl y ++ left →
    SpecsThen (BehindSpecifiers Out y left (owner.Declaration false [])) true true types untyped [] ts
begun_from Out {left = left} (declared types inner types' seen spec specs parts w p) low q = record {
  rest = spec ∷ specs;
  inner = inner;
  sort = seen;
  us = with_commas (map flat_part parts) ++ (semicolon ∷ left);
  formed = w;
  low = omega (arith, low);
  printed = q ∙ decl_printed (spec ∷ specs) parts left;
  goes_on = parts_go Out (λ e. cc) p (omega (arith, low)) refl;
}

-- what stands is what completes nothing read
pub begin_forth : (Out : Inner → List Sign → Type 0) {types : List (List ℕ)} {ts left : List Sign} {y : Decl} → DeclarationStands types ts y left →
    SpecsThen (BehindSpecifiers Out y left (owner.Declaration false [])) true true types untyped [] ts
begin_forth Out d = begun_from Out d.formed d.nested d.printed

whole_from : {types inner last : List (List ℕ)} {seen : Typed} {ts left : List Sign} (specs : List Specifier) (parts : List (Declarator × Option Init)) → specs ≢ [] → Specs true true types untyped specs inner seen → specs_height specs ≤ 256 →
    Parts specs seen inner parts last → greatest (map part_height parts) ≤ 256 → ts ≡ flat_map flat_specifier specs ++ (with_commas (map flat_part parts) ++ (semicolon ∷ left)) →
    DeclarationStands types ts (record { specs = specs; parts = parts }) left
whole_from [] parts some w low p lows q = absurd (some refl)
whole_from {types = types} {inner = inner} {last = last} {seen = seen} {left = left} (spec ∷ specs) parts some w low p lows q = record {
  behind = last;
  formed = declared types inner last seen spec specs parts w p;
  nested = omega (arith, low, lows);
  printed = q ∙ sym (decl_printed (spec ∷ specs) parts left);
}

pub begin_back : (Out : Inner → List Sign → Type 0) {types : List (List ℕ)} {ts left : List Sign} {y : Decl} →
    SpecsThen (BehindSpecifiers Out y left (owner.Declaration false [])) true true types untyped [] ts → DeclarationStands types ts y left
begin_back Out {types = types} {ts = ts} {left = left} s =
    elim s.goes_on.1 [
      | inl h ↦ subst (λ v. DeclarationStands types ts v left) (sym h.1)
          (whole_from s.rest [] s.goes_on.0 s.formed s.low (no_more_parts s.inner) (omega arith) (s.printed ∙ ap (λ v. flat_map flat_specifier s.rest ++ v) h.0))
      | inr d ↦ (let l = listed d.0 d.1 in subst (λ v. DeclarationStands types ts v left) (sym l.whole)
          (whole_from s.rest (l.first ∷ l.rest) s.goes_on.0 s.formed s.low l.formed l.low (s.printed ∙ ap (λ v. flat_map flat_specifier s.rest ++ v) l.printed)))
    ]

-- there is one whole declaration

semicolon_from : {specs : List Specifier} {seen : Typed} {types last : List (List ℕ)} {before parts : List (Declarator × Option Init)} {us left : List Sign} {y : Decl} → Parts specs seen types parts last →
    semicolon ∷ us ≡ after_commas (map flat_part parts) ++ (semicolon ∷ left) → y ≡ record { specs = specs; parts = before ++ parts } → (y ≡ record { specs = specs; parts = before }) × (left ≡ us)
semicolon_from {specs = specs} {before = before} (no_more_parts types) q whole = (whole ∙ ap (λ v. record { specs = specs; parts = v }) (append-nil before), sym (tails q))
semicolon_from (part types params inner types' name d rest is ds others) q whole = absurd (comma_semicolon (sym q))
semicolon_from (initialised types params inner types' name d x rest is ds fits others) q whole = absurd (comma_semicolon (sym q))

pub semicolon_one : {specs : List Specifier} {seen : Typed} {types : List (List ℕ)} {before : List (Declarator × Option Init)} {ts us left : List Sign} {y : Decl} → ts ≡ semicolon ∷ us →
    PartsThen specs seen types before ts y left → (y ≡ record { specs = specs; parts = before }) × (left ≡ us)
semicolon_one q p = semicolon_from p.formed (sym q ∙ p.printed) p.whole

no_semicolon_from : (stars : List (List (List ℕ))) (name : List ℕ) (us vs : List Sign) → semicolon ∷ vs ≡ flat_map prints_star stars ++ (word name ∷ us) → ⊥
no_semicolon_from [] name us vs q = punct_word q
no_semicolon_from (words ∷ stars) name us vs q = let bytes = ap (λ signs. get_or (get_or signs 0 comma).text 0 0) q in omega arith

declarator_no_semicolon : {types inner : List (List ℕ)} {seen : Typed} {name : List ℕ} {item : Declarator} (us vs : List Sign) → IsDeclarator types seen name item inner → semicolon ∷ vs ≡ flat_declarator item ++ us → ⊥
declarator_no_semicolon us vs (declarator types seen name stars suffix inner h are w) q =
    no_semicolon_from stars name (flat_suffix suffix ++ us) vs (q ∙ flat_declarator-before (record { stars = stars; name = Some name; suffix = suffix }) us)

pub whole_one : (Out : Inner → List Sign → Type 0) {y : Decl} {left : List Sign} (typedef : Bool) {parts : List (Declarator × Option Init)} {specs : List Specifier} {seen : Typed} {types : List (List ℕ)} {ts us : List Sign} →
    ts ≡ semicolon ∷ us → BehindSpecifiers Out y left (owner.Declaration typedef parts) specs seen types ts → (y ≡ record { specs = specs; parts = parts }) × (left ≡ us)
whole_one Out typedef {us = us} r g = elim g.1 [ inl q ↦ (q.1, sym (tails (sym r ∙ q.0))) | inr d ↦ absurd (declarator_no_semicolon d.1.us us (declarator_of d.1.item d.1.fits).is (sym r ∙ d.1.printed)) ]
