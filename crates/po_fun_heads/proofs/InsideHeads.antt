-- The typedef names that a well-formed head leaves in force in the body are those that nothing in it hides.
use Rattle.std.proofs.Common.{◌≡◌, ◌∙◌, ℕ, Bool, List, [], ◌∷◌, ◌++◌, sym, subst, ap, refl, ◌⊎◌, inl, inr, Some}
use Rattle.po_tree.specs.declared.expression.Specifier.{Specifier}
use Rattle.po_tree.specs.declared.expression.Suffix.{Suffix, out-Suffix, out-roll-Suffix}
use Rattle.po_tree.specs.declared.expression.Suffix.TheVariants as su
use Rattle.po_tree.specs.declared.expression.Declarator.{Declarator}
use Rattle.po_tree.specs.declared.expression.Param.{Param, out-Param}
use Rattle.po_tree.specs.declared.expression.Member.{Member}
use Rattle.po_tree.specs.declared.expression.TypeName.{TypeName}
use Rattle.po_tree.specs.declared.expression.Exp.{Exp}
use Rattle.po_tree.specs.declared.expression.Exp.TheOpen.{Suffix-F}
use Rattle.po_tree.specs.Signs.{Sign, semicolon}
use Rattle.po_tree.specs.Expressions.{Typed, SuffixFormed, plain, arrays}
use Rattle.po_tree.specs.Declarations.{without, IsDeclarator, declarator, IsSuffix, no_parameters, parameters, more_parameters, Params, no_more_params, one_more_param, IsParameter, named, unnamed}
use Rattle.po_tree.specs.NameSets.{Hides, AreSame}
use Rattle.po_tree.specs.InForce.{InForce, OpensScope}
use Rattle.po_tree.proofs.Sets.{none_contained, first_or_later, is_first, is_later}
use Rattle.po_tree.proofs.Threaded.{without_to, without_from}
use Rattle.po_decl_laws.proofs.One.{declarator_named}
use Rattle.po_decl_steps.specs.Standing.{DeclarationStands}
use Rattle.po_fun_heads.specs.Braces.{OpensBody}
use Rattle.po_fun_heads.specs.Heads.{function_declarator, as_declaration, IsHead, head, Enters}
use Rattle.po_fun_heads.specs.Inside.{IsOfParameter, IsOfParameters, IsOfHead, HidesNames}
use Rattle.po_fun_heads.proofs.Hiding.{hides_both, hides_such, specs_hidden}
use Rattle.po_fun_heads.proofs.AsDeclarations.{head_of_declaration}

hides_name : (name : List ℕ) (types : List (List ℕ)) → Hides (λ x. name ≡ x) types (without name types)
hides_name name types = record { each = λ x. (λ c. without_to name types x c, λ h. without_from name types x h.0 h.1) }

hides_nothing : {P : List ℕ → Type 0} (types : List (List ℕ)) → ((x : List ℕ) → P x → ⊥) → Hides P types types
hides_nothing types none = record { each = λ x. (λ c. (c, none x), λ h. h.0) }

-- the word of a parameter
word_hides : {types inner : List (List ℕ)} {seen : Typed} {d : Declarator} → IsParameter types seen d inner → Hides (λ x. d.name ≡ Some x) types inner
word_hides (named types seen name d inner is) =
    let q = declarator_named is in hides_such (λ x e. q ∙ ap Some e) (λ x e. let same : Some name ≡ Some x = sym q ∙ e in cc) (hides_name name types)
word_hides (unnamed types seen stars suffix inner are is) = hides_nothing types (λ x e. cc)

of_first : (x : Param) (rest : List Param) (y : List ℕ) → IsOfParameter x y ⊎ IsOfParameters rest y → IsOfParameters (x ∷ rest) y
of_first x rest y (inl h) = (x, is_first x rest, h)
of_first x rest y (inr h) = (h.0, is_later x rest h.0 h.1, h.2)

by_first : (x : Param) (rest : List Param) (y : List ℕ) → IsOfParameters (x ∷ rest) y → IsOfParameter x y ⊎ IsOfParameters rest y
by_first x rest y h = elim (first_or_later x rest h.0 h.1) [ inl e ↦ inl (subst (λ v. IsOfParameter v y) (sym e) h.2) | inr c ↦ inr (h.0, c, h.2) ]

params_hide : {types inner : List (List ℕ)} {params : List Param} → Params types params inner → Hides (IsOfParameters params) types inner
params_hide (no_more_params types) = hides_nothing types (λ x h. none_contained h.0 h.1)
params_hide (one_more_param types own inner types' seen x rest some specs is w) =
    hides_such (of_first x rest) (by_first x rest) (hides_both (hides_both (specs_hidden (out-Param x).specs some specs) (word_hides is)) (params_hide w))

no_list : {types : List (List ℕ)} {suffix : Suffix} (params : List Param) (more : Bool) → SuffixFormed types suffix → suffix ≡ su.Params params more → ⊥
no_list params more plain q = cc
no_list params more (arrays size sizes w) q = cc

abbrev params_in : Suffix-F Exp Specifier Suffix Declarator Member Param TypeName → List Param
params_in (Suffix-F.Params params more) = params
params_in _ = []

opened : (params : List Param) (more : Bool) → out-Suffix (su.Params params more) ≡ Suffix-F.Params params more
opened params more = ap out-Suffix (sym (su.rolls-Params params more)) ∙ out-roll-Suffix (Suffix-F.Params params more)

same_list : {params others : List Param} {more other : Bool} → su.Params params more ≡ su.Params others other → params ≡ others
same_list {params} {others} {more} {other} q = ap params_in (sym (opened params more) ∙ ap out-Suffix q ∙ opened others other)

suffix_hides : {types inner : List (List ℕ)} {suffix : Suffix} (params : List Param) (more : Bool) → IsSuffix types suffix inner → suffix ≡ su.Params params more → Hides (IsOfParameters params) types inner
suffix_hides params more (no_parameters types suffix formed) q = absurd (no_list params more formed q)
suffix_hides params more (parameters types others inner w) q = subst (λ v. Hides (IsOfParameters v) types inner) (same_list q) (params_hide w)
suffix_hides params more (more_parameters types x xs inner w) q = subst (λ v. Hides (IsOfParameters v) types inner) (same_list q) (params_hide w)

declarator_hides : {types inner : List (List ℕ)} {seen : Typed} {name : List ℕ} {d : Declarator} (params : List Param) (more : Bool) → IsDeclarator types seen name d inner → d.suffix ≡ su.Params params more →
    Hides (IsOfParameters params) types inner
declarator_hides params more (declarator types seen name stars suffix inner is are w) q = suffix_hides params more w q

head_hides : {types inside : List (List ℕ)} {specs : List Specifier} {d : Declarator} (stars : List (List (List ℕ))) (name : List ℕ) (params : List Param) (more : Bool) → IsHead types specs d inside →
    d ≡ function_declarator stars name params more → Hides (IsOfHead specs name params) types inside
head_hides stars name params more (head own inner seen spec specs name' stars' params' more' w is) q =
    let named : Some name' ≡ Some name = ap (λ (v : Declarator). v.name) q in
    let same : name' ≡ name = cc in
    hides_both (specs_hidden (spec ∷ specs) (λ r. cc) w)
    (hides_both (declarator_hides params more is (ap (λ (v : Declarator). v.suffix) q)) (subst (λ v. Hides (λ x. v ≡ x) inner (without name' inner)) same (hides_name name' inner)))

same_hidden : {P : List ℕ → Type 0} {types a b : List (List ℕ)} → Hides P types a → Hides P types b → AreSame a b
same_hidden p q x = (λ c. (q.each x).1 ((p.each x).0 c), λ c. (p.each x).1 ((q.each x).0 c))

pub head_enters : {signs hs left : List Sign} {specs : List Specifier} (stars : List (List (List ℕ))) (name : List ℕ) (params : List Param) (more : Bool) {before opened behind : InForce} → OpensBody signs hs left →
    DeclarationStands before.typedefs (hs ++ semicolon ∷ []) (as_declaration specs (function_declarator stars name params more)) [] → OpensScope before opened →
    HidesNames (IsOfHead specs name params) opened behind → Enters before signs specs (function_declarator stars name params more) left behind
head_enters {specs = specs} stars name params more {before} {opened} {behind} o w scope h =
    let k = head_of_declaration stars name params more o w refl in
    record {
      inside = k.0;
      stands = k.1;
      same = same_hidden (head_hides stars name params more k.1.formed refl) (subst (λ (v : InForce). Hides (IsOfHead specs name params) v.typedefs behind.typedefs) scope h.types);
      scope = h.outer ∙ ap (λ (v : InForce). v.outer) scope;
    }

-- from what was given back
pub entered : {signs hs left : List Sign} {specs given : List Specifier} {params list : List Param} (stars : List (List (List ℕ))) (name : List ℕ) (more : Bool) {before kept opened behind : InForce} → OpensBody signs hs left →
    DeclarationStands before.typedefs (hs ++ semicolon ∷ []) (as_declaration specs (function_declarator stars name params more)) [] → kept ≡ before → OpensScope kept opened →
    HidesNames (IsOfHead specs name params) opened behind → given ≡ specs → list ≡ params → Enters before signs given (function_declarator stars name list more) left behind
entered {signs} {left = left} {specs} {given} {params} {list} stars name more {before} {kept} {opened} {behind} o w same scope h q r =
    subst (λ v. Enters before signs v (function_declarator stars name list more) left behind) (sym q)
    (subst (λ v. Enters before signs specs (function_declarator stars name v more) left behind) (sym r)
    (head_enters stars name params more o w (subst (λ v. OpensScope v opened) same scope) h))
