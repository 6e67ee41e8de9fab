-- The members of a struct: one begins, its declarators follow one another, and the body closes.
use Rattle.std.proofs.Common.{◌≡◌, ◌∙◌, ◌≢◌, ℕ, ◌≤◌, List, [], ◌∷◌, ◌++◌, map, flat_map, Bool, false, refl, sym, ap, subst, arith, drop, get_or, append_assoc, append-nil, codes, inl, inr}
use Rattle.std.specs.Prelude.{Option, Some}
use Rattle.po_base.specs.declared.token.TokenKind.TheVariants as k
use Rattle.po_tree.specs.declared.expression.Member.{Member, out-Member, roll-Member, out-roll-Member, roll-out-Member}
use Rattle.po_tree.specs.declared.expression.Specifier.{Specifier}
use Rattle.po_tree.specs.declared.expression.Specifier.TheVariants as sp
use Rattle.po_tree.specs.declared.expression.Declarator.{Declarator}
use Rattle.po_tree.specs.declared.declaration.Decl.{Decl}
use Rattle.po_tree.specs.Signs.{Sign, word, brace, brace_end, comma, semicolon}
use Rattle.po_tree.specs.Printing.{flat_specifier, flat_declarator, after_commas, with_commas, optional}
use Rattle.po_tree.specs.Heights.{declarator_height, greatest}
use Rattle.po_tree.specs.Expressions.{Typed, untyped, by_name}
use Rattle.po_tree.specs.Declarations.{Specs, struct_body, Members, no_more_members, members, AllDeclarators, no_more_declarators, one_more_declarator}
use Rattle.po_exp_parts.specs.Places.{Begins, BeginsWord}
use Rattle.po_decl_parts.specs.Specifiers.{Opens}
use Rattle.po_decl_laws.specs.Parts.{specs_height, flat_member, member_height}
use Rattle.po_decl_laws.proofs.Layers.{specifier_height-members}
use Rattle.po_decl_laws.proofs.Beginning.{Begun, nothing, a_body, a_specifier, begun, specs_word, first_specifier}
use Rattle.po_decl_laws.proofs.Fronts.{ends_no_opens}
use Rattle.po_decl_steps.specs.declared.levels.Owner.TheVariants as owner
use Rattle.po_decl_steps.specs.Completing.{SpecsThen, DeclaratorThen, DeclaratorsThen, MembersThen, DeclaratorFits, Inner, body, BehindSpecifiers}
use Rattle.po_decl_steps.proofs.Fitting.{declarator_of, fits_declarator}
use Rattle.po_decl_steps.proofs.Specifiers.{Ends, body_printed, body_opens, opens_same, opens_no_specifier, tag_is, lower, higher}

tails : {a b : Sign} {us vs : List Sign} → a ∷ us ≡ b ∷ vs → us ≡ vs
tails q = ap (drop 1) q

comma_semicolon : {us vs : List Sign} → comma ∷ us ≡ semicolon ∷ vs → ⊥
comma_semicolon q = let bytes = ap (λ signs. get_or (get_or signs 0 comma).text 0 0) q in omega arith

-- declarators behind commas

declarator_forth : {Then : List Declarator → List Sign → Type 0} {types : List (List ℕ)} {seen : Typed} (before : List Declarator) {rest : List Declarator} {ts : List Sign} (us : List Sign) →
    AllDeclarators types seen rest → greatest (map declarator_height rest) ≤ 256 → comma ∷ ts ≡ after_commas (map flat_declarator rest) ++ (semicolon ∷ us) → Then (before ++ rest) us →
    DeclaratorThen (DeclaratorFits false types seen) (λ item vs. DeclaratorsThen Then types seen (before ++ item ∷ []) vs) ts
declarator_forth before us (no_more_declarators types seen) low q goes = absurd (comma_semicolon q)
declarator_forth {Then = Then} before us (one_more_declarator types seen name inner item rest is all) low q goes = record {
  item = item;
  us = after_commas (map flat_declarator rest) ++ (semicolon ∷ us);
  fits = (fits_declarator is).0;
  low = omega (arith, low);
  printed = tails q ∙ append_assoc (flat_declarator item) (after_commas (map flat_declarator rest)) (semicolon ∷ us);
  goes_on = record {
    rest = rest;
    us = us;
    formed = all;
    low = omega (arith, low);
    printed = refl;
    goes_on = subst (λ v. Then v us) (sym (append_assoc before (item ∷ []) rest)) goes;
  };
}

-- a comma stands behind a declarator
pub comma_forth : {Then : List Declarator → List Sign → Type 0} {types : List (List ℕ)} {seen : Typed} {before : List Declarator} {ts us : List Sign} → ts ≡ comma ∷ us →
    DeclaratorsThen Then types seen before ts → DeclaratorThen (DeclaratorFits false types seen) (λ item vs. DeclaratorsThen Then types seen (before ++ item ∷ []) vs) us
comma_forth q s = declarator_forth _ s.us s.formed s.low (sym q ∙ s.printed) s.goes_on

pub comma_back : {Then : List Declarator → List Sign → Type 0} {types : List (List ℕ)} {seen : Typed} {before : List Declarator} {ts us : List Sign} → ts ≡ comma ∷ us →
    DeclaratorThen (DeclaratorFits false types seen) (λ item vs. DeclaratorsThen Then types seen (before ++ item ∷ []) vs) us → DeclaratorsThen Then types seen before ts
comma_back {Then = Then} {types = types} {seen = seen} {before = before} q d =
    let n = declarator_of d.item d.fits in
    let s = d.goes_on in
    record {
      rest = d.item ∷ s.rest;
      us = s.us;
      formed = one_more_declarator types seen n.name n.inner d.item s.rest n.is s.formed;
      low = let a = d.low in let b = s.low in omega (arith, a, b);
      printed = q ∙ ap (λ v. comma ∷ v) (d.printed ∙ ap (λ v. flat_declarator d.item ++ v) s.printed ∙ sym (append_assoc (flat_declarator d.item) (after_commas (map flat_declarator s.rest)) (semicolon ∷ s.us)));
      goes_on = subst (λ v. Then v s.us) (append_assoc before (d.item ∷ []) s.rest) s.goes_on;
    }

semicolon_from : (Then : List Declarator → List Sign → Type 0) {before : List Declarator} {ts : List Sign} (rest : List Declarator) (us : List Sign) →
    semicolon ∷ ts ≡ after_commas (map flat_declarator rest) ++ (semicolon ∷ us) → Then (before ++ rest) us → Then before ts
semicolon_from Then {before = before} [] us q goes = subst (λ v. Then before v) (sym (tails q)) (subst (λ v. Then v us) (append-nil before) goes)
semicolon_from Then (item ∷ rest) us q goes = absurd (comma_semicolon (sym q))

-- a semicolon stands behind a declarator
pub semicolon_forth : {Then : List Declarator → List Sign → Type 0} {types : List (List ℕ)} {seen : Typed} {before : List Declarator} {ts us : List Sign} → ts ≡ semicolon ∷ us →
    DeclaratorsThen Then types seen before ts → Then before us
semicolon_forth {Then = Then} q s = semicolon_from Then s.rest s.us (sym q ∙ s.printed) s.goes_on

pub semicolon_back : {Then : List Declarator → List Sign → Type 0} {types : List (List ℕ)} {seen : Typed} {before : List Declarator} {ts us : List Sign} → ts ≡ semicolon ∷ us →
    Then before us → DeclaratorsThen Then types seen before ts
semicolon_back {Then = Then} {types = types} {seen = seen} {before = before} {us = us} q goes = record {
  rest = [];
  us = us;
  formed = no_more_declarators types seen;
  low = omega arith;
  printed = q;
  goes_on = subst (λ v. Then v us) (sym (append-nil before)) goes;
}

neither_here : {ts : List Sign} (rest : List Declarator) (us : List Sign) →
    (Begins comma ts → ⊥) → (Begins semicolon ts → ⊥) → ts ≡ after_commas (map flat_declarator rest) ++ (semicolon ∷ us) → ⊥
neither_here [] us a b q = b (subst (Begins semicolon) (sym q) refl)
neither_here (item ∷ rest) us a b q = a (subst (Begins comma) (sym q) refl)

pub no_declarator_end : {Then : List Declarator → List Sign → Type 0} {types : List (List ℕ)} {seen : Typed} {before : List Declarator} {ts : List Sign} →
    (Begins comma ts → ⊥) → (Begins semicolon ts → ⊥) → DeclaratorsThen Then types seen before ts → ⊥
no_declarator_end a b s = neither_here s.rest s.us a b s.printed

-- a member begins

-- what a member that begins here prints
member_printed : (m : Member) (ms : List Member) (d : Declarator) (ds : List Declarator) (us : List Sign) → (out-Member m).declarators ≡ d ∷ ds →
    flat_map flat_member (m ∷ ms) ++ us ≡
    flat_map flat_specifier (out-Member m).specs ++ (flat_declarator d ++ (after_commas (map flat_declarator ds) ++ (semicolon ∷ (flat_map flat_member ms ++ us))))
member_printed m ms d ds us q =
    let specs = flat_map flat_specifier (out-Member m).specs in
    let others = after_commas (map flat_declarator ds) in
    append_assoc (flat_member m) (flat_map flat_member ms) us ∙
    append_assoc specs (with_commas (map flat_declarator (out-Member m).declarators) ++ semicolon ∷ []) (flat_map flat_member ms ++ us) ∙
    ap (λ v. specs ++ v) (
    append_assoc (with_commas (map flat_declarator (out-Member m).declarators)) (semicolon ∷ []) (flat_map flat_member ms ++ us) ∙
    ap (λ v. with_commas (map flat_declarator v) ++ (semicolon ∷ (flat_map flat_member ms ++ us))) q ∙
    append_assoc (flat_declarator d) others (semicolon ∷ (flat_map flat_member ms ++ us)))

-- members so far, a member, and others
regrouped : (before ms : List Member) (m : Member) (specs : List Specifier) (d : Declarator) (ds : List Declarator) → (out-Member m).specs ≡ specs → (out-Member m).declarators ≡ d ∷ ds →
    before ++ m ∷ ms ≡ (before ++ roll-Member (record { specs = specs; declarators = d ∷ ds }) ∷ []) ++ ms
regrouped before ms m specs d ds q r =
    ap (λ v. before ++ v ∷ ms) (sym (roll-out-Member m) ∙ ap (λ v. roll-Member (record { specs = v; declarators = (out-Member m).declarators })) q ∙ ap (λ v. roll-Member (record { specs = specs; declarators = v })) r) ∙
    sym (append_assoc before (roll-Member (record { specs = specs; declarators = d ∷ ds }) ∷ []) ms)

member_from : (Out : Inner → List Sign → Type 0) (y : Decl) (left : List Sign) {types inner final : List (List ℕ)} {seen : Typed} {tag : Option (List ℕ)} (before : List Member) {ts : List Sign} {ds : List Declarator} (m : Member) (ms : List Member) (us : List Sign) → (out-Member m).declarators ≡ ds →
    (out-Member m).specs ≢ [] → Specs false false types untyped (out-Member m).specs inner seen → ds ≢ [] → AllDeclarators inner seen ds → Members inner ms final →
    greatest (map member_height (m ∷ ms)) ≤ 256 → ts ≡ flat_map flat_member (m ∷ ms) ++ (brace_end ∷ us) → Out (body tag (before ++ m ∷ ms) final) us →
    SpecsThen (BehindSpecifiers Out y left (owner.Member tag before [])) false false types untyped [] ts
member_from Out y left before m ms us r some specs some_d (no_more_declarators types0 seen0) others low q goes = absurd (some_d refl)
member_from Out y left {inner = inner} {final = final} {seen = seen} {tag = tag} before m ms us r some specs some_d (one_more_declarator types0 seen0 name inner0 d ds is all) others low q goes =
    let high : greatest (map declarator_height (d ∷ ds)) ≤ 256 = let e = ap (λ v. greatest (map declarator_height v)) r in omega (arith, low, e) in
    record {
      rest = (out-Member m).specs;
      inner = inner;
      sort = seen;
      us = flat_declarator d ++ (after_commas (map flat_declarator ds) ++ (semicolon ∷ (flat_map flat_member ms ++ (brace_end ∷ us))));
      formed = specs;
      low = omega (arith, low);
      printed = q ∙ member_printed m ms d ds (brace_end ∷ us) r;
      goes_on = (
        some,
        record {
          item = d;
          us = after_commas (map flat_declarator ds) ++ (semicolon ∷ (flat_map flat_member ms ++ (brace_end ∷ us)));
          fits = (fits_declarator is).0;
          low = omega (arith, high);
          printed = refl;
          goes_on = record {
            rest = ds;
            us = flat_map flat_member ms ++ (brace_end ∷ us);
            formed = all;
            low = omega (arith, high);
            printed = refl;
            goes_on = record {
              rest = ms;
              inner = final;
              us = us;
              formed = others;
              low = omega (arith, low);
              printed = refl;
              goes_on = subst (λ v. Out (body tag v final) us) (regrouped before ms m (out-Member m).specs d ds refl r) goes;
            };
          };
        },
      );
    }

members_from : (Out : Inner → List Sign → Type 0) (y : Decl) (left : List Sign) {types final : List (List ℕ)} {tag : Option (List ℕ)} (before : List Member) {rest : List Member} {ts : List Sign} (us : List Sign) →
    (Begins brace_end ts → ⊥) → Members types rest final → greatest (map member_height rest) ≤ 256 → ts ≡ flat_map flat_member rest ++ (brace_end ∷ us) → Out (body tag (before ++ rest) final) us →
    SpecsThen (BehindSpecifiers Out y left (owner.Member tag before [])) false false types untyped [] ts
members_from Out y left before us none (no_more_members types) low q goes = absurd (none (subst (Begins brace_end) (sym q) refl))
members_from Out y left before us none (members types inner final seen m ms some specs some_d all others) low q goes =
    member_from Out y left before m ms us refl some specs some_d all others low q goes

pub member_forth : (Out : Inner → List Sign → Type 0) (y : Decl) (left : List Sign) {types : List (List ℕ)} {tag : Option (List ℕ)} {before : List Member} {ts : List Sign} →
    (Begins brace_end ts → ⊥) → MembersThen (λ inside behind vs. Out (body tag inside behind) vs) types before ts →
    SpecsThen (BehindSpecifiers Out y left (owner.Member tag before [])) false false types untyped [] ts
member_forth Out y left {before = before} none s = members_from Out y left before s.us none s.formed s.low s.printed s.goes_on

pub member_back : (Out : Inner → List Sign → Type 0) (y : Decl) (left : List Sign) {types : List (List ℕ)} {tag : Option (List ℕ)} {before : List Member} {ts : List Sign} →
    SpecsThen (BehindSpecifiers Out y left (owner.Member tag before [])) false false types untyped [] ts →
    MembersThen (λ inside behind vs. Out (body tag inside behind) vs) types before ts
member_back Out y left {types = types} {tag = tag} {before = before} s =
    let d = s.goes_on.1 in
    let n = declarator_of d.item d.fits in
    let ds = d.goes_on in
    let ms = ds.goes_on in
    let m = roll-Member (record { specs = s.rest; declarators = d.item ∷ ds.rest }) in
    let layer : out-Member m ≡ record { specs = s.rest; declarators = d.item ∷ ds.rest } = out-roll-Member _ in
    let r : (out-Member m).specs ≡ s.rest = ap (λ v. v.specs) layer in
    let p : (out-Member m).declarators ≡ d.item ∷ ds.rest = ap (λ v. v.declarators) layer in
    record {
      rest = m ∷ ms.rest;
      inner = ms.inner;
      us = ms.us;
      formed = members types s.inner ms.inner s.sort m ms.rest
          (subst (λ (v : List Specifier). v ≢ []) (sym r) s.goes_on.0)
          (subst (λ v. Specs false false types untyped v s.inner s.sort) (sym r) s.formed)
          (subst (λ (v : List Declarator). v ≢ []) (sym p) (λ e. cc))
          (subst (AllDeclarators s.inner s.sort) (sym p) (one_more_declarator s.inner s.sort n.name n.inner d.item ds.rest n.is ds.formed))
          ms.formed;
      low = let a = ap specs_height r in let b = ap (λ v. greatest (map declarator_height v)) p in let c = s.low in let e = d.low in let f = ds.low in let g = ms.low in omega (arith, a, b, c, e, f, g);
      printed = s.printed ∙ ap (λ v. flat_map flat_specifier s.rest ++ v) (d.printed ∙ ap (λ v. flat_declarator d.item ++ v) (ds.printed ∙ ap (λ v. after_commas (map flat_declarator ds.rest) ++ (semicolon ∷ v)) ms.printed)) ∙
          sym (member_printed m ms.rest d.item ds.rest (brace_end ∷ ms.us) p ∙ ap (λ v. flat_map flat_specifier v ++ (flat_declarator d.item ++ (after_commas (map flat_declarator ds.rest) ++ (semicolon ∷ (flat_map flat_member ms.rest ++ (brace_end ∷ ms.us)))))) r);
      goes_on = subst (λ v. Out (body tag v ms.inner) ms.us) (sym (regrouped before ms.rest m s.rest d.item ds.rest r p)) ms.goes_on;
    }

pub word_first : {outer free : Bool} {types inner : List (List ℕ)} {seen sort : Typed} {ts : List Sign} (rest : List Specifier) (us : List Sign) → rest ≢ [] →
    Specs outer free types seen rest inner sort → ts ≡ flat_map flat_specifier rest ++ us → BeginsWord ts
word_first [] us some w q = absurd (some refl)
word_first (spec ∷ rest) us some w q = subst BeginsWord (sym (q ∙ append_assoc (flat_specifier spec) (flat_map flat_specifier rest) us)) (specs_word (flat_map flat_specifier rest ++ us) w)

-- it begins with a word
pub member_word : (Out : Inner → List Sign → Type 0) (y : Decl) (left : List Sign) {types : List (List ℕ)} {tag : Option (List ℕ)} (before : List Member) {ts : List Sign} →
    SpecsThen (BehindSpecifiers Out y left (owner.Member tag before [])) false false types untyped [] ts → BeginsWord ts
member_word Out y left before s = word_first s.rest s.us s.goes_on.0 s.formed s.printed

pub word_no_brace : (ts : List Sign) → BeginsWord ts → Begins brace_end ts → ⊥
word_no_brace [] w b = w
word_no_brace (t ∷ ts) w b = let kinds : k.Word ≡ k.Punct = sym w ∙ ap (λ v. v.kind) b in cc

-- members begin with a word
members_word : {types final : List (List ℕ)} {m : Member} {ms : List Member} (us : List Sign) → Members types (m ∷ ms) final → BeginsWord (flat_map flat_member (m ∷ ms) ++ us)
members_word us (members types inner final seen m ms some specs some_d all others) =
    word_first (out-Member m).specs _ some specs
    (append_assoc (flat_member m) (flat_map flat_member ms) us ∙
    append_assoc (flat_map flat_specifier (out-Member m).specs) (with_commas (map flat_declarator (out-Member m).declarators) ++ semicolon ∷ []) (flat_map flat_member ms ++ us))

-- the body closes

closed_from : (Then : List Member → List (List ℕ) → List Sign → Type 0) {types final : List (List ℕ)} {before rest : List Member} {ts : List Sign} (us : List Sign) → Members types rest final →
    brace_end ∷ ts ≡ flat_map flat_member rest ++ (brace_end ∷ us) → Then (before ++ rest) final us → Then before types ts
closed_from Then {before = before} us (no_more_members types) q goes = subst (λ v. Then before types v) (sym (tails q)) (subst (λ v. Then v types us) (append-nil before) goes)
closed_from Then {ts = ts} us (members types inner final seen m ms some specs some_d all others) q goes =
    absurd (word_no_brace (brace_end ∷ ts) (subst BeginsWord (sym q) (members_word (brace_end ∷ us) (members types inner final seen m ms some specs some_d all others))) refl)

pub close_forth : {Then : List Member → List (List ℕ) → List Sign → Type 0} {types : List (List ℕ)} {before : List Member} {ts us : List Sign} → ts ≡ brace_end ∷ us →
    MembersThen Then types before ts → Then before types us
close_forth {Then = Then} q s = closed_from Then s.us s.formed (sym q ∙ s.printed) s.goes_on

pub close_back : {Then : List Member → List (List ℕ) → List Sign → Type 0} {types : List (List ℕ)} {before : List Member} {ts us : List Sign} → ts ≡ brace_end ∷ us →
    Then before types us → MembersThen Then types before ts
close_back {Then = Then} {types = types} {before = before} {us = us} q goes = record {
  rest = [];
  inner = types;
  us = us;
  formed = no_more_members types;
  low = omega arith;
  printed = q;
  goes_on = subst (λ v. Then v types us) (sym (append-nil before)) goes;
}

-- a body opens

opened_from : {Then : List Specifier → Typed → List (List ℕ) → List Sign → Type 0} {outer free : Bool} {types inner : List (List ℕ)} {sort : Typed} {ts us : List Sign} {tag : Option (List ℕ)} (before : List Specifier) {rest : List Specifier} (vs : List Sign) → Ends Then → Opens ts tag us →
    Begun outer free types untyped rest inner sort → Specs outer free types untyped rest inner sort → specs_height rest ≤ 256 → ts ≡ flat_map flat_specifier rest ++ vs →
    Then (before ++ rest) sort inner vs → MembersThen (λ inside behind ws. SpecsThen Then outer free behind by_name (before ++ sp.Struct tag (Some inside) ∷ []) ws) types [] us × BeginsWord us
opened_from {us = us} {tag = tag} before vs ends opens nothing formed low q goes = absurd (ends_no_opens (ends _ _ _ _ goes) (subst (λ v. Opens v tag us) q opens))
opened_from {Then = Then} {outer = outer} {free = free} {ts = ts} {us = us} {tag = tag} before vs ends opens (a_body inner final sort own m ms others r is v w) formed low q goes =
    let first = sp.Struct own (Some (m ∷ ms)) in
    let same = opens_same opens (subst (λ s. Opens s own (flat_map flat_member (m ∷ ms) ++ (brace_end ∷ (flat_map flat_specifier others ++ vs)))) (sym (q ∙ append_assoc (flat_specifier first) (flat_map flat_specifier others) vs)) (body_opens (m ∷ ms) (flat_map flat_specifier others ++ vs) is)) in (
      record {
        rest = m ∷ ms;
        inner = inner;
        us = flat_map flat_specifier others ++ vs;
        formed = v;
        low = let h = lower first others low in let e = specifier_height-members own (m ∷ ms) in omega (arith, h.0, e);
        printed = same.1;
        goes_on = record {
          rest = others;
          inner = final;
          sort = sort;
          us = vs;
          formed = w;
          low = (lower first others low).1;
          printed = refl;
          goes_on = subst (λ s. Then s sort final vs) (sym (ap (λ t. (before ++ sp.Struct t (Some (m ∷ ms)) ∷ []) ++ others) same.0 ∙ append_assoc before (first ∷ []) others)) goes;
        };
      },
      subst BeginsWord (sym same.1) (members_word (brace_end ∷ (flat_map flat_specifier others ++ vs)) v),
    )
opened_from {us = us} {tag = tag} before vs ends opens (a_specifier still behind final now sort0 first others f bare w) formed low q goes =
    elim (first_specifier vs formed (lower first others low).0 (ends _ _ _ _ goes)) [
      | inl b ↦ absurd (opens_no_specifier (subst (λ s. Opens s tag us) (q ∙ append_assoc (flat_specifier first) (flat_map flat_specifier others) vs) opens) first b.free' b.types' b.seen' _ b.stands)
      | inr h ↦ absurd (bare h)
    ]

pub open_forth : {Then : List Specifier → Typed → List (List ℕ) → List Sign → Type 0} {outer free : Bool} {types : List (List ℕ)} {seen : Typed} {ts us : List Sign} {tag : Option (List ℕ)}
    {before : List Specifier} → Ends Then → seen ≡ untyped → Opens ts tag us → SpecsThen Then outer free types seen before ts →
    MembersThen (λ inside behind ws. SpecsThen Then outer free behind by_name (before ++ sp.Struct tag (Some inside) ∷ []) ws) types [] us × BeginsWord us
open_forth {Then = Then} {outer = outer} {free = free} {types = types} {ts = ts} {before = before} ends r opens s =
    let t = subst (λ v. SpecsThen Then outer free types v before ts) r s in opened_from before t.us ends opens (begun t.formed) t.formed t.low t.printed t.goes_on

body_from : {Then : List Specifier → Typed → List (List ℕ) → List Sign → Type 0} {outer free : Bool} {types final last : List (List ℕ)} {sort : Typed} {ts us : List Sign} {tag : Option (List ℕ)}
    {before : List Specifier} {inside : List Member} (vs ws : List Sign) (rest : List Specifier) → Opens ts tag us → (Begins brace_end us → ⊥) → Members types inside final → greatest (map member_height inside) ≤ 256 →
    us ≡ flat_map flat_member inside ++ (brace_end ∷ vs) → Specs outer free final by_name rest last sort → specs_height rest ≤ 256 → vs ≡ flat_map flat_specifier rest ++ ws →
    Then ((before ++ sp.Struct tag (Some inside) ∷ []) ++ rest) sort last ws → SpecsThen Then outer free types untyped before ts
body_from vs ws rest opens none (no_more_members types) low q w lows r goes = absurd (none (subst (Begins brace_end) (sym q) refl))
body_from {Then = Then} {outer = outer} {free = free} {last = last} {sort = sort} {tag = tag} {before = before} vs ws rest opens none (members types inner final seen m ms some specs some_d all others) low q w lows r goes =
    let t = tag_is opens.named in
    record {
      rest = sp.Struct tag (Some (m ∷ ms)) ∷ rest;
      inner = last;
      sort = sort;
      us = ws;
      formed = struct_body outer free types final last sort tag m ms rest t.0 (members types inner final seen m ms some specs some_d all others) w;
      low = higher (sp.Struct tag (Some (m ∷ ms))) rest (let e = specifier_height-members tag (m ∷ ms) in omega (arith, low, e)) lows;
      printed = opens.first ∙ ap (λ v. word (codes "struct") ∷ v) (t.1 ∙ ap (λ v. optional (λ text. word text ∷ []) tag ++ (brace ∷ v)) q) ∙
          sym (body_printed tag (m ∷ ms) vs) ∙ ap (λ v. flat_specifier (sp.Struct tag (Some (m ∷ ms))) ++ v) r ∙ sym (append_assoc (flat_specifier (sp.Struct tag (Some (m ∷ ms)))) (flat_map flat_specifier rest) ws);
      goes_on = subst (λ v. Then v sort last ws) (append_assoc before (sp.Struct tag (Some (m ∷ ms)) ∷ []) rest) goes;
    }

pub open_back : {Then : List Specifier → Typed → List (List ℕ) → List Sign → Type 0} {outer free : Bool} {types : List (List ℕ)} {seen : Typed} {ts us : List Sign} {tag : Option (List ℕ)}
    {before : List Specifier} → seen ≡ untyped → Opens ts tag us → (Begins brace_end us → ⊥) →
    MembersThen (λ inside behind ws. SpecsThen Then outer free behind by_name (before ++ sp.Struct tag (Some inside) ∷ []) ws) types [] us → SpecsThen Then outer free types seen before ts
open_back {Then = Then} {outer = outer} {free = free} {types = types} {ts = ts} {before = before} r opens none m =
    let s = m.goes_on in
    subst (λ v. SpecsThen Then outer free types v before ts) (sym r) (body_from m.us s.us s.rest opens none m.formed m.low m.printed s.formed s.low s.printed s.goes_on)
