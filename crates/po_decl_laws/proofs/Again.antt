-- What one specifier is, in any other list of specifiers that the same signs print.
use Rattle.std.proofs.Common.{◌≡◌, ◌∙◌, ℕ, ◌≤◌, List, [], ◌∷◌, ◌++◌, map, flat_map, Bool, refl, sym, ap, subst, arith, append_assoc, codes}
use Rattle.std.specs.Prelude.{Option, Some}
use Rattle.po_tree.specs.declared.expression.Member.{Member}
use Rattle.po_tree.specs.declared.expression.Specifier.{Specifier}
use Rattle.po_tree.specs.declared.expression.Specifier.TheVariants as sp
use Rattle.po_tree.specs.Signs.{Sign, word, brace, brace_end}
use Rattle.po_tree.specs.Heights.{greatest}
use Rattle.po_tree.specs.Printing.{flat_specifier, optional}
use Rattle.po_tree.specs.Expressions.{Typed, by_name}
use Rattle.po_tree.specs.Declarations as de
use Rattle.po_tree.specs.Declarations.{Specs, IsTag, Members}
use Rattle.po_decl_parts.specs.Printed.{BeginsSpecifiers}
use Rattle.po_decl_parts.specs.Specifiers.{SpecifierStands, TagRead, no_tag, tagged, NoTag, Opens}
use Rattle.po_decl_parts.proofs.FirstWords.{stands_one, stands_reads, no_struct, tag_open, tag_same}
use Rattle.po_decl_parts.proofs.Printed.{enclosed}
use Rattle.po_decl_parts.proofs.PrintedSpecifiers.{specifier_complete}
use Rattle.po_exp_parts.proofs.SameSigns.{same_word}
use Rattle.po_decl_laws.specs.Parts.{flat_member, member_height, specs_height}
use Rattle.po_decl_laws.specs.Fronts.{EndsSpecifiers}
use Rattle.po_decl_laws.proofs.Layers.{flat_specifier-members, specifier_height-members}
use Rattle.po_decl_laws.proofs.Fronts.{ends_no_specifier, ends_no_opens}
use Rattle.po_decl_laws.proofs.Beginning.{Begun, nothing, a_body, a_specifier, begun, specs_no_brace}

-- where a body opens stands no specifier without members
lone_tag : {ts us : List Sign} {tag : Option (List ℕ)} → TagRead ts tag us → NoTag ts
lone_tag {us = us} {tag = tag} w name vs is q none = tag_open q none tag us w

pub opens_no_specifier : {outer free free' : Bool} {types types' : List (List ℕ)} {seen seen' : Typed} {signs inside us : List Sign} {tag : Option (List ℕ)} {spec : Specifier} →
    Opens signs tag inside → SpecifierStands outer free types seen signs spec free' types' seen' us → ⊥
opens_no_specifier w v = no_struct refl (lone_tag w.named) (stands_reads w.first v)

-- a tag is read before a brace
pub tag_stands : {tag : Option (List ℕ)} (us : List Sign) → IsTag tag → TagRead (optional (λ name. word name ∷ []) tag ++ (brace ∷ us)) tag us
tag_stands us de.no_tag = no_tag us refl
tag_stands us (de.tagged tag is) = tagged tag us is refl

-- members between their braces, with what stands behind
pub flat_body-before : (tag : Option (List ℕ)) (ms : List Member) (rest : List Specifier) (us : List Sign) →
    flat_map flat_specifier (sp.Struct tag (Some ms) ∷ rest) ++ us ≡
    word (codes "struct") ∷ (optional (λ name. word name ∷ []) tag ++ (brace ∷ (flat_map flat_member ms ++ (brace_end ∷ (flat_map flat_specifier rest ++ us)))))
flat_body-before tag ms rest us =
    let behind : List Sign = flat_map flat_specifier rest ++ us in
    append_assoc (flat_specifier (sp.Struct tag (Some ms))) (flat_map flat_specifier rest) us ∙ ap (λ v. v ++ behind) (flat_specifier-members tag ms) ∙
    ap (λ v. word (codes "struct") ∷ v) (sym (enclosed (optional (λ name. word name ∷ []) tag) (flat_map flat_member ms) behind brace brace_end))

-- the body of a struct opens where it is printed
pub opens_first : {signs : List Sign} (tag : Option (List ℕ)) (ms : List Member) (rest : List Specifier) (us : List Sign) → IsTag tag →
    signs ≡ flat_map flat_specifier (sp.Struct tag (Some ms) ∷ rest) ++ us → Opens signs tag (flat_map flat_member ms ++ (brace_end ∷ (flat_map flat_specifier rest ++ us)))
opens_first tag ms rest us is q = record { behind = _; first = q ∙ flat_body-before tag ms rest us; named = tag_stands _ is }

-- the others begin with this specifier
pub record Continued (outer : Bool) (spec : Specifier) (free : Bool) (types : List (List ℕ)) (seen : Typed) (us : List Sign)
    (others : List Specifier) (final : List (List ℕ)) (sort : Typed) (vs : List Sign) : Type 0 where
  pub rest : List Specifier
  pub parts : others ≡ spec ∷ rest
  pub nested : specs_height rest ≤ 256
  pub formed : Specs outer free types seen rest final sort
  pub printed : us ≡ flat_map flat_specifier rest ++ vs

moved : {outer f g : Bool} {a b : List (List ℕ)} {s t : Typed} {rest : List Specifier} {final : List (List ℕ)} {sort : Typed} → f ≡ g → a ≡ b → s ≡ t →
    Specs outer g b t rest final sort → Specs outer f a s rest final sort
moved {outer = outer} {f = f} {b = b} {s = s} {t = t} {rest = rest} {final = final} {sort = sort} p q r w =
    subst (λ z. Specs outer f z s rest final sort) (sym q) (subst (λ z. Specs outer f b z rest final sort) (sym r) (subst (λ z. Specs outer z b t rest final sort) (sym p) w))

continued : {outer free free' : Bool} {types types' final : List (List ℕ)} {seen seen' sort : Typed} {signs us : List Sign} {spec other : Specifier} {rest : List Specifier} (vs : List Sign) →
    SpecifierStands outer free types seen signs spec free' types' seen' us → BeginsSpecifiers outer free types seen signs other (flat_map flat_specifier rest ++ vs) rest final sort →
    specs_height rest ≤ 256 → Continued outer spec free' types' seen' us (other ∷ rest) final sort vs
continued {rest = rest} vs stands b low =
    let s = stands_one stands b.stands in
    record { rest = rest; parts = ap (λ z. z ∷ rest) (sym s.spec_same); nested = low; formed = moved s.free_same s.types_same s.seen_same b.others; printed = s.left_same }

again_in : {outer free free' : Bool} {types types' final : List (List ℕ)} {seen seen' sort : Typed} {signs us : List Sign} {spec : Specifier} {others : List Specifier} (vs : List Sign) →
    SpecifierStands outer free types seen signs spec free' types' seen' us → Specs outer free types seen others final sort → Begun outer free types seen others final sort →
    specs_height others ≤ 256 → signs ≡ flat_map flat_specifier others ++ vs → EndsSpecifiers final sort vs → Continued outer spec free' types' seen' us others final sort vs
again_in {outer = outer} {free = free} {free' = free'} {types = types} {types' = types'} {seen = seen} {seen' = seen'} {us = us} {spec = spec} vs stands d nothing low q e =
    absurd (ends_no_specifier outer free e spec free' types' seen' us (subst (λ v. SpecifierStands outer free types seen v spec free' types' seen' us) q stands))
again_in vs stands d (a_body inner final sort tag m ms rest r is v w) low q e = absurd (opens_no_specifier (opens_first tag (m ∷ ms) rest vs is q) stands)
again_in vs stands d (a_specifier still behind final now sort other rest f bare w) low q e =
    continued vs stands
    (specifier_complete (flat_map flat_specifier rest ++ vs) d (omega (arith, low)) (q ∙ append_assoc (flat_specifier other) (flat_map flat_specifier rest) vs) (specs_no_brace vs w e) bare)
    (omega (arith, low))

-- a specifier without members that is read is the first of any others that the signs print
pub specifier_again : {outer free free' : Bool} {types types' final : List (List ℕ)} {seen seen' sort : Typed} {signs us : List Sign} {spec : Specifier} {others : List Specifier} (vs : List Sign) →
    SpecifierStands outer free types seen signs spec free' types' seen' us → Specs outer free types seen others final sort →
    specs_height others ≤ 256 → signs ≡ flat_map flat_specifier others ++ vs → EndsSpecifiers final sort vs → Continued outer spec free' types' seen' us others final sort vs
specifier_again vs stands d low q e = again_in vs stands d (begun d) low q e

-- the others begin with a struct of this tag, whose members stand inside
pub record BodyContinued (outer free : Bool) (types : List (List ℕ)) (tag : Option (List ℕ)) (inside : List Sign)
    (others : List Specifier) (final : List (List ℕ)) (sort : Typed) (vs : List Sign) : Type 0 where
  pub members : List Member
  pub inner : List (List ℕ)
  pub rest : List Specifier
  pub parts : others ≡ sp.Struct tag (Some members) ∷ rest
  pub nested_inside : greatest (map member_height members) ≤ 256
  pub nested : specs_height rest ≤ 256
  pub formed_inside : Members types members inner
  pub formed : Specs outer free inner by_name rest final sort
  pub printed : inside ≡ flat_map flat_member members ++ (brace_end ∷ (flat_map flat_specifier rest ++ vs))

body_in : {outer free : Bool} {types final : List (List ℕ)} {seen sort : Typed} {signs inside : List Sign} {tag : Option (List ℕ)} {others : List Specifier} (vs : List Sign) →
    Opens signs tag inside → Specs outer free types seen others final sort → Begun outer free types seen others final sort →
    specs_height others ≤ 256 → signs ≡ flat_map flat_specifier others ++ vs → EndsSpecifiers final sort vs → BodyContinued outer free types tag inside others final sort vs
body_in {inside = inside} {tag = tag} vs opens d nothing low q e = absurd (ends_no_opens e (subst (λ v. Opens v tag inside) q opens))
body_in {inside = inside} {tag = tag} vs opens d (a_body inner final sort own m ms rest r is v w) low q e =
    let behind = flat_map flat_member (m ∷ ms) ++ (brace_end ∷ (flat_map flat_specifier rest ++ vs)) in
    let signs_same = same_word (sym opens.first ∙ q ∙ flat_body-before own (m ∷ ms) rest vs) in
    let s = tag_same opens.named (subst (λ v. TagRead v own behind) (sym signs_same.1) (tag_stands behind is)) in
    let h = specifier_height-members own (m ∷ ms) in record {
      members = m ∷ ms;
      inner = inner;
      rest = rest;
      parts = ap (λ z. sp.Struct z (Some (m ∷ ms)) ∷ rest) (sym s.0);
      nested_inside = omega (arith, h, low);
      nested = omega (arith, low);
      formed_inside = v;
      formed = w;
      printed = s.1;
    }
body_in vs opens d (a_specifier still behind final now sort other rest f bare w) low q e =
    let b = specifier_complete (flat_map flat_specifier rest ++ vs) d (omega (arith, low)) (q ∙ append_assoc (flat_specifier other) (flat_map flat_specifier rest) vs) (specs_no_brace vs w e) bare in
    absurd (opens_no_specifier opens b.stands)

pub body_again : {outer free : Bool} {types final : List (List ℕ)} {seen sort : Typed} {signs inside : List Sign} {tag : Option (List ℕ)} {others : List Specifier} (vs : List Sign) →
    Opens signs tag inside → Specs outer free types seen others final sort → specs_height others ≤ 256 → signs ≡ flat_map flat_specifier others ++ vs → EndsSpecifiers final sort vs →
    BodyContinued outer free types tag inside others final sort vs
body_again vs opens d low q e = body_in vs opens d (begun d) low q e
