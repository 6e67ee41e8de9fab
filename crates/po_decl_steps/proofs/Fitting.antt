-- Declarators that fit are well formed, and what goes on behind a declarator begins with what may stand there.
use Rattle.std.proofs.Common.{◌≡◌, ℕ, List, [], ◌∷◌, ◌++◌, map, Bool, true, false, cond, true≢false, refl, sym, ap, subst, arith, get_or, codes, inl, inr}
use Rattle.std.specs.Prelude.{Option, Some, None}
use Rattle.po_tree.specs.declared.expression.Specifier.{Specifier}
use Rattle.po_tree.specs.declared.expression.Suffix.{Suffix}
use Rattle.po_tree.specs.declared.expression.Declarator.{Declarator}
use Rattle.po_tree.specs.declared.declaration.Init.{Init}
use Rattle.po_tree.specs.declared.declaration.Decl.{Decl}
use Rattle.po_tree.specs.Signs.{Sign, comma, semicolon, closing, equals, dots}
use Rattle.po_tree.specs.Printing.{after_commas, flat_part, flat_declarator, flat_init, optional}
use Rattle.po_tree.specs.Expressions.{Typed}
use Rattle.po_tree.specs.Declarations.{AreStars, IsDeclarator, declarator, IsSuffix, IsParameter, named, unnamed}
use Rattle.po_decl_laws.specs.Parts.{flat_param}
use Rattle.po_decl_laws.specs.Fronts.{EndsSpecifiers, at_sign, EndsDeclarator, at_comma, at_semicolon, at_closing, at_equals, EndsParameter, before_another, behind_last}
use Rattle.po_decl_laws.proofs.Fronts.{declarator_ends, parameter_ends}
use Rattle.po_decl_steps.specs.declared.levels.Owner.{Owner}
use Rattle.po_decl_steps.specs.declared.levels.Owner.TheVariants as owner
use Rattle.po_decl_steps.specs.Completing.{WordFits, DeclaratorFits, hidden, Inner, BehindDeclarator, BehindSpecifiers, PartsThen}

-- what fits is well formed

pub record Named (types : List (List ℕ)) (seen : Typed) (item : Declarator) : Type 0 where
  pub name : List ℕ
  pub inner : List (List ℕ)
  pub has : item.name ≡ Some name
  pub is : IsDeclarator types seen name item inner

of_parts : {types inner : List (List ℕ)} {seen : Typed} (stars : List (List (List ℕ))) (name : Option (List ℕ)) (suffix : Suffix) → WordFits false types seen name → AreStars stars →
    IsSuffix types suffix inner → Named types seen (record { stars = stars; name = name; suffix = suffix })
of_parts stars None suffix h are w = absurd (true≢false (sym h))
of_parts {types = types} {inner = inner} {seen = seen} stars (Some name) suffix h are w = record { name = name; inner = inner; has = refl; is = declarator types seen name stars suffix inner h are w }

pub declarator_of : {types : List (List ℕ)} {seen : Typed} (item : Declarator) → DeclaratorFits false types seen item → Named types seen item
declarator_of item f = of_parts item.stars item.name item.suffix f.word_fits f.stars_fit f.suffix_fits

of_param : {types inner : List (List ℕ)} {seen : Typed} (stars : List (List (List ℕ))) (name : Option (List ℕ)) (suffix : Suffix) → WordFits true types seen name → AreStars stars →
    IsSuffix types suffix inner → IsParameter types seen (record { stars = stars; name = name; suffix = suffix }) (hidden name types)
of_param {types = types} {inner = inner} {seen = seen} stars None suffix h are w = unnamed types seen stars suffix inner are w
of_param {types = types} {inner = inner} {seen = seen} stars (Some name) suffix h are w =
    named types seen name (record { stars = stars; name = Some name; suffix = suffix }) inner (declarator types seen name stars suffix inner h are w)

pub parameter_of : {types : List (List ℕ)} {seen : Typed} (item : Declarator) → DeclaratorFits true types seen item → IsParameter types seen item (hidden item.name types)
parameter_of item f = of_param item.stars item.name item.suffix f.word_fits f.stars_fit f.suffix_fits

-- and what is well formed fits

pub fits_declarator : {types inner : List (List ℕ)} {seen : Typed} {name : List ℕ} {item : Declarator} → IsDeclarator types seen name item inner →
    DeclaratorFits false types seen item × (item.name ≡ Some name)
fits_declarator (declarator types seen name stars suffix inner h are w) = (record { word_fits = h; stars_fit = are; inner = inner; suffix_fits = w }, refl)

pub fits_parameter : {types inner : List (List ℕ)} {seen : Typed} {item : Declarator} → IsParameter types seen item inner → DeclaratorFits true types seen item × (inner ≡ hidden item.name types)
fits_parameter (named types seen name0 d inner0 (declarator types0 seen0 name stars suffix inner h are w)) = (record { word_fits = h; stars_fit = are; inner = inner; suffix_fits = w }, refl)
fits_parameter (unnamed types seen stars suffix inner are w) = (record { word_fits = refl; stars_fit = are; inner = inner; suffix_fits = w }, refl)

-- what goes on behind a declarator begins with what may stand there

commas_end : (xs : List (List Sign)) (us : List Sign) → EndsDeclarator us → EndsDeclarator (after_commas xs ++ us)
commas_end [] us e = e
commas_end (x ∷ xs) us e = at_comma

params_end : (xs : List (List Sign)) (more : Bool) (us : List Sign) → EndsParameter (after_commas xs ++ (cond more (comma ∷ dots ∷ []) [] ++ (closing ∷ us)))
params_end [] true us = before_another
params_end [] false us = behind_last
params_end (x ∷ xs) more us = before_another

params_end_declarator : (xs : List (List Sign)) (more : Bool) (us : List Sign) → EndsDeclarator (after_commas xs ++ (cond more (comma ∷ dots ∷ []) [] ++ (closing ∷ us)))
params_end_declarator [] true us = at_comma
params_end_declarator [] false us = at_closing
params_end_declarator (x ∷ xs) more us = at_comma

parts_end : {specs : List Specifier} {seen : Typed} {types : List (List ℕ)} {before : List (Declarator × Option Init)} {ts left : List Sign} {y : Decl} →
    PartsThen specs seen types before ts y left → EndsDeclarator ts
parts_end {left = left} p = subst EndsDeclarator (sym p.printed) (commas_end (map flat_part p.rest) (semicolon ∷ left) at_semicolon)

value_end : (value : Option Init) (us : List Sign) → EndsDeclarator us → EndsDeclarator (optional (λ x. equals ∷ flat_init x) value ++ us)
value_end None us e = e
value_end (Some x) us e = at_equals

pub behind_ends : (Out : Inner → List Sign → Type 0) (y : Decl) (left : List Sign) (specs : List Specifier) (seen : Typed) (types : List (List ℕ)) (item : Declarator) (ts : List Sign) (w : Owner) →
    BehindDeclarator Out y left w specs seen types item ts → EndsDeclarator ts
behind_ends Out y left specs seen types item ts (owner.Declaration typedef parts) p =
    let v = p.goes_on in subst EndsDeclarator (sym v.printed) (value_end v.value v.us (parts_end v.others))
behind_ends Out y left specs seen types item ts (owner.Member tag members declarators) p = subst EndsDeclarator (sym p.printed) (commas_end (map flat_declarator p.rest) (semicolon ∷ p.us) at_semicolon)
behind_ends Out y left specs seen types item ts (owner.Param stars word params) p = subst EndsDeclarator (sym p.printed) (params_end_declarator (map flat_param p.rest) p.more p.us)

-- what goes on behind specifiers begins with what ends them
pub goes_on_ends : (Out : Inner → List Sign → Type 0) (y : Decl) (left : List Sign) (specs : List Specifier) {seen : Typed} {types : List (List ℕ)} {ts : List Sign} (w : Owner) →
    BehindSpecifiers Out y left w specs seen types ts → EndsSpecifiers types seen ts
goes_on_ends Out y left specs {seen = seen} {types = types} (owner.Declaration typedef parts) p =
    elim p.1 [
      | inl q ↦ subst (EndsSpecifiers types seen) (sym q.0) (at_sign (codes ";") left (λ r. let bytes = ap (λ v. get_or v 0 0) r in omega arith))
      | inr d ↦ subst (EndsSpecifiers types seen) (sym d.1.printed) (declarator_ends (declarator_of d.1.item d.1.fits).is d.1.us)
    ]
goes_on_ends Out y left specs {seen = seen} {types = types} (owner.Member tag members declarators) p =
    let d = p.1 in subst (EndsSpecifiers types seen) (sym d.printed) (declarator_ends (declarator_of d.item d.fits).is d.us)
goes_on_ends Out y left specs {seen = seen} {types = types} (owner.Param stars word params) p =
    let d = p.1 in
    subst (EndsSpecifiers types seen) (sym d.printed)
    (parameter_ends (parameter_of d.item d.fits) d.us (subst EndsParameter (sym d.goes_on.printed) (params_end (map flat_param d.goes_on.rest) d.goes_on.more d.goes_on.us)))
