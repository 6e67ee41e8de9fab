-- Among specifiers one more is read, or they end.
use Rattle.std.proofs.Common.{◌≡◌, ◌∙◌, ℕ, ◌≤◌, List, [], ◌∷◌, ◌++◌, flat_map, Bool, refl, sym, ap, subst, arith, append_assoc, append-nil, codes, inl, inr}
use Rattle.std.specs.Prelude.{Option, Some}
use Rattle.po_tree.specs.declared.expression.Member.{Member}
use Rattle.po_tree.specs.declared.expression.Specifier.{Specifier}
use Rattle.po_tree.specs.declared.expression.Specifier.TheVariants as sp
use Rattle.po_tree.specs.Signs.{Sign, word, brace, brace_end}
use Rattle.po_tree.specs.Printing.{flat_specifier, optional, in_braces}
use Rattle.po_tree.specs.Heights.{specifier_height}
use Rattle.po_tree.specs.Expressions.{Typed}
use Rattle.po_tree.specs.Declarations.{Specs, no_more_specs, IsTag, no_tag as without_tag, tagged as with_tag}
use Rattle.po_decl_parts.specs.Specifiers.{TagRead, no_tag, tagged, NoTag, Opens, SpecifierStands, NoSpecifier}
use Rattle.po_decl_parts.proofs.FirstWords.{brace_word, tag_same, no_struct, closed_tag, stands_one, stands_reads}
use Rattle.po_decl_parts.proofs.PrintedSpecifiers.{specifier_printed}
use Rattle.po_exp_parts.proofs.SameSigns.{same_word}
use Rattle.po_decl_laws.specs.Parts.{specs_height, flat_member}
use Rattle.po_decl_laws.specs.Fronts.{EndsSpecifiers}
use Rattle.po_decl_laws.proofs.Layers.{flat_specifier-members}
use Rattle.po_decl_laws.proofs.Fronts.{ends_no_specifier, ends_no_opens}
use Rattle.po_decl_laws.proofs.Beginning.{Begun, nothing, a_body, a_specifier, begun, first_specifier}
use Rattle.po_decl_steps.specs.Completing.{SpecsThen}
use Rattle.po_decl_steps.specs.Steps.{NoBody}

-- what goes on begins with what ends specifiers
abbrev pub Ends : (List Specifier → Typed → List (List ℕ) → List Sign → Type 0) → Type 0
Ends Then = (specs : List Specifier) (seen : Typed) (types : List (List ℕ)) (us : List Sign) → Then specs seen types us → EndsSpecifiers types seen us

-- bodies

pub body_printed : (tag : Option (List ℕ)) (ms : List Member) (us : List Sign) →
    flat_specifier (sp.Struct tag (Some ms)) ++ us ≡ word (codes "struct") ∷ (optional (λ name. word name ∷ []) tag ++ (brace ∷ (flat_map flat_member ms ++ (brace_end ∷ us))))
body_printed tag ms us =
    let name : List Sign = optional (λ text. word text ∷ []) tag in
    ap (λ v. v ++ us) (flat_specifier-members tag ms) ∙
    ap (λ v. word (codes "struct") ∷ v) (append_assoc name (in_braces (flat_map flat_member ms)) us ∙ ap (λ v. name ++ (brace ∷ v)) (append_assoc (flat_map flat_member ms) (brace_end ∷ []) us))

pub tag_reads : {tag : Option (List ℕ)} (us : List Sign) → IsTag tag → TagRead (optional (λ text. word text ∷ []) tag ++ (brace ∷ us)) tag us
tag_reads us without_tag = no_tag us refl
tag_reads us (with_tag tag is) = tagged tag us is refl

pub tag_is : {ts us : List Sign} {tag : Option (List ℕ)} → TagRead ts tag us → IsTag tag × (ts ≡ optional (λ text. word text ∷ []) tag ++ (brace ∷ us))
tag_is (no_tag us q) = (without_tag, q)
tag_is (tagged tag us is q) = (with_tag tag is, q)

-- a body that is printed opens
pub body_opens : {tag : Option (List ℕ)} (ms : List Member) (us : List Sign) → IsTag tag → Opens (flat_specifier (sp.Struct tag (Some ms)) ++ us) tag (flat_map flat_member ms ++ (brace_end ∷ us))
body_opens {tag = tag} ms us is = record {
  behind = optional (λ text. word text ∷ []) tag ++ (brace ∷ (flat_map flat_member ms ++ (brace_end ∷ us)));
  first = body_printed tag ms us;
  named = tag_reads (flat_map flat_member ms ++ (brace_end ∷ us)) is;
}

pub opens_same : {signs us vs : List Sign} {a b : Option (List ℕ)} → Opens signs a us → Opens signs b vs → (a ≡ b) × (us ≡ vs)
opens_same {vs = vs} {b = b} v w = let p = same_word (sym v.first ∙ w.first) in tag_same v.named (subst (λ ts. TagRead ts b vs) (sym p.1) w.named)

no_tag_opens : {ts us : List Sign} {tag : Option (List ℕ)} → TagRead ts tag us → NoTag ts
no_tag_opens (no_tag us q) = λ tag vs is r none. brace_word (sym q ∙ r)
no_tag_opens (tagged name us is q) = closed_tag q refl

-- where a body opens no specifier stands that has none
pub opens_no_specifier : {outer free : Bool} {types : List (List ℕ)} {seen : Typed} {signs us : List Sign} {tag : Option (List ℕ)} → Opens signs tag us → NoSpecifier outer free types seen signs
opens_no_specifier v = λ spec free' types' seen' us w. no_struct refl (no_tag_opens v.named) (stands_reads v.first w)

-- one more specifier

printed_on : (spec : Specifier) (rest : List Specifier) (us : List Sign) → flat_map flat_specifier (spec ∷ rest) ++ us ≡ flat_specifier spec ++ (flat_map flat_specifier rest ++ us)
printed_on spec rest us = append_assoc (flat_specifier spec) (flat_map flat_specifier rest) us

pub lower : (spec : Specifier) (rest : List Specifier) → specs_height (spec ∷ rest) ≤ 256 → (specifier_height spec ≤ 256) × (specs_height rest ≤ 256)
lower spec rest low = (omega (arith, low), omega (arith, low))

pub higher : (spec : Specifier) (rest : List Specifier) → specifier_height spec ≤ 256 → specs_height rest ≤ 256 → specs_height (spec ∷ rest) ≤ 256
higher spec rest low lows = omega (arith, low, lows)

taken : {Then : List Specifier → Typed → List (List ℕ) → List Sign → Type 0} {outer free free' : Bool} {types types' inner : List (List ℕ)} {seen seen' sort : Typed} {ts us : List Sign} {spec : Specifier} (before : List Specifier) {rest : List Specifier} (vs : List Sign) → Ends Then → SpecifierStands outer free types seen ts spec free' types' seen' us →
    Begun outer free types seen rest inner sort → Specs outer free types seen rest inner sort → specs_height rest ≤ 256 → ts ≡ flat_map flat_specifier rest ++ vs →
    Then (before ++ rest) sort inner vs → SpecsThen Then outer free' types' seen' (before ++ spec ∷ []) us
taken {outer = outer} {free = free} {free' = free'} {types = types} {types' = types'} {seen = seen} {seen' = seen'} {us = us} {spec = spec} before vs ends stands nothing formed low q goes =
    absurd (ends_no_specifier outer free (ends _ _ _ _ goes) spec free' types' seen' us (subst (λ v. SpecifierStands outer free types seen v spec free' types' seen' us) q stands))
taken {outer = outer} {free = free} {free' = free'} {types = types} {types' = types'} {seen = seen} {seen' = seen'} {us = us} {spec = spec} before
    vs ends stands (a_body inner final sort tag m ms others r is v w) formed low q goes =
    absurd (opens_no_specifier (body_opens (m ∷ ms) (flat_map flat_specifier others ++ vs) is) spec free' types' seen' us
    (subst (λ v. SpecifierStands outer free types seen v spec free' types' seen' us) (q ∙ printed_on (sp.Struct tag (Some (m ∷ ms))) others vs) stands))
taken {Then = Then} {outer = outer} {free = free} {free' = free'} {types = types} {types' = types'} {inner = inner} {seen = seen} {seen' = seen'} {sort = sort} {us = us} {spec = spec} before
    vs ends stands (a_specifier still behind final now sort0 first others f bare w) formed low q goes =
    elim (first_specifier vs formed (lower first others low).0 (ends _ _ _ _ goes)) [
      | inl b ↦ (
          let same = stands_one stands (subst (λ v. SpecifierStands outer free types seen v first b.free' b.types' b.seen' (flat_map flat_specifier others ++ vs)) (sym (q ∙ printed_on first others vs)) b.stands) in
          record {
            rest = others;
            inner = inner;
            sort = sort;
            us = vs;
            formed = rw (same.free_same, same.types_same, same.seen_same) b.others;
            low = (lower first others low).1;
            printed = same.left_same;
            goes_on = subst (λ v. Then v sort inner vs) (ap (λ v. before ++ v ∷ others) (sym same.spec_same) ∙ sym (append_assoc before (spec ∷ []) others)) goes;
          })
      | inr h ↦ absurd (bare h)
    ]

pub specifier_forth : {Then : List Specifier → Typed → List (List ℕ) → List Sign → Type 0} {outer free free' : Bool} {types types' : List (List ℕ)} {seen seen' : Typed} {ts us : List Sign}
    {spec : Specifier} (before : List Specifier) → Ends Then → SpecifierStands outer free types seen ts spec free' types' seen' us →
    SpecsThen Then outer free types seen before ts → SpecsThen Then outer free' types' seen' (before ++ spec ∷ []) us
specifier_forth before ends stands s = taken _ s.us ends stands (begun s.formed) s.formed s.low s.printed s.goes_on

pub specifier_back : {Then : List Specifier → Typed → List (List ℕ) → List Sign → Type 0} {outer free free' : Bool} {types types' : List (List ℕ)} {seen seen' : Typed} {ts us : List Sign}
    {spec : Specifier} (before : List Specifier) → SpecifierStands outer free types seen ts spec free' types' seen' us →
    SpecsThen Then outer free' types' seen' (before ++ spec ∷ []) us → SpecsThen Then outer free types seen before ts
specifier_back {Then = Then} {spec = spec} before stands s =
    let p = specifier_printed _ _ _ _ _ _ _ _ _ _ stands in
    record {
      rest = spec ∷ s.rest;
      inner = s.inner;
      sort = s.sort;
      us = s.us;
      formed = p.before s.rest s.inner s.sort s.formed;
      low = higher spec s.rest p.nested s.low;
      printed = p.printed ∙ ap (λ v. flat_specifier spec ++ v) s.printed ∙ sym (printed_on spec s.rest s.us);
      goes_on = subst (λ v. Then v s.sort s.inner s.us) (append_assoc before (spec ∷ []) s.rest) s.goes_on;
    }

-- they end

ended : {Then : List Specifier → Typed → List (List ℕ) → List Sign → Type 0} {outer free : Bool} {types inner : List (List ℕ)} {seen sort : Typed} {ts : List Sign}
    {before rest : List Specifier} (vs : List Sign) → Ends Then → EndsSpecifiers types seen ts →
    Begun outer free types seen rest inner sort → Specs outer free types seen rest inner sort → specs_height rest ≤ 256 → ts ≡ flat_map flat_specifier rest ++ vs →
    Then (before ++ rest) sort inner vs → Then before seen types ts
ended {Then = Then} {types = types} {seen = seen} {before = before} vs ends here nothing formed low q goes =
    subst (λ v. Then before seen types v) (sym q) (subst (λ v. Then v seen types vs) (append-nil before) goes)
ended {types = types} {seen = seen} vs ends here (a_body inner final sort tag m ms others r is v w) formed low q goes =
    absurd (ends_no_opens (subst (EndsSpecifiers types seen) (q ∙ printed_on (sp.Struct tag (Some (m ∷ ms))) others vs) here) (body_opens (m ∷ ms) (flat_map flat_specifier others ++ vs) is))
ended {outer = outer} {free = free} {types = types} {seen = seen} vs ends here (a_specifier still behind final now sort0 first others f bare w) formed low q goes =
    elim (first_specifier vs formed (lower first others low).0 (ends _ _ _ _ goes)) [
      | inl b ↦ absurd (ends_no_specifier outer free (subst (EndsSpecifiers types seen) (q ∙ printed_on first others vs) here) first b.free' b.types' b.seen' _ b.stands)
      | inr h ↦ absurd (bare h)
    ]

pub end_forth : {Then : List Specifier → Typed → List (List ℕ) → List Sign → Type 0} {outer free : Bool} {types : List (List ℕ)} {seen : Typed} {ts : List Sign} (before : List Specifier) → Ends Then →
    EndsSpecifiers types seen ts → SpecsThen Then outer free types seen before ts → Then before seen types ts
end_forth before ends here s = ended s.us ends here (begun s.formed) s.formed s.low s.printed s.goes_on

pub end_back : {Then : List Specifier → Typed → List (List ℕ) → List Sign → Type 0} {outer free : Bool} {types : List (List ℕ)} {seen : Typed} {ts : List Sign} (before : List Specifier) →
    Then before seen types ts → SpecsThen Then outer free types seen before ts
end_back {Then = Then} {outer = outer} {free = free} {types = types} {seen = seen} {ts = ts} before goes = record {
  rest = [];
  inner = types;
  sort = seen;
  us = ts;
  formed = no_more_specs outer free types seen;
  low = omega arith;
  printed = refl;
  goes_on = subst (λ v. Then v seen types ts) (sym (append-nil before)) goes;
}

-- where they don't end, no specifier stands and no body opens, nothing goes on

nowhere : {Then : List Specifier → Typed → List (List ℕ) → List Sign → Type 0} {outer free : Bool} {types inner : List (List ℕ)} {seen sort : Typed} {ts : List Sign} (before : List Specifier) {rest : List Specifier} (vs : List Sign) → Ends Then → (EndsSpecifiers types seen ts → ⊥) → NoSpecifier outer free types seen ts → NoBody seen ts →
    Begun outer free types seen rest inner sort → Specs outer free types seen rest inner sort → specs_height rest ≤ 256 → ts ≡ flat_map flat_specifier rest ++ vs →
    Then (before ++ rest) sort inner vs → ⊥
nowhere {types = types} {seen = seen} before vs ends here none shut nothing formed low q goes = here (subst (EndsSpecifiers types seen) (sym q) (ends _ _ _ _ goes))
nowhere before vs ends here none shut (a_body inner final sort tag m ms others r is v w) formed low q goes =
    shut tag (flat_map flat_member (m ∷ ms) ++ (brace_end ∷ (flat_map flat_specifier others ++ vs))) r (subst (λ v. Opens v tag (flat_map flat_member (m ∷ ms) ++ (brace_end ∷ (flat_map flat_specifier others ++ vs)))) (sym (q ∙ printed_on (sp.Struct tag (Some (m ∷ ms))) others vs)) (body_opens (m ∷ ms) (flat_map flat_specifier others ++ vs) is))
nowhere {outer = outer} {free = free} {types = types} {seen = seen} before vs ends here none shut (a_specifier still behind final now sort0 first others f bare w) formed low q goes =
    elim (first_specifier vs formed (lower first others low).0 (ends _ _ _ _ goes)) [
      | inl b ↦ none first b.free' b.types' b.seen' _ (subst (λ v. SpecifierStands outer free types seen v first b.free' b.types' b.seen' (flat_map flat_specifier others ++ vs)) (sym (q ∙ printed_on first others vs)) b.stands)
      | inr h ↦ bare h
    ]

pub no_specifier : {Then : List Specifier → Typed → List (List ℕ) → List Sign → Type 0} {outer free : Bool} {types : List (List ℕ)} {seen : Typed} {ts : List Sign} (before : List Specifier) → Ends Then →
    (EndsSpecifiers types seen ts → ⊥) → NoSpecifier outer free types seen ts → NoBody seen ts → SpecsThen Then outer free types seen before ts → ⊥
no_specifier before ends here none shut s = nowhere before s.us ends here none shut (begun s.formed) s.formed s.low s.printed s.goes_on
