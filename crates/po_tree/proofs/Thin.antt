-- What hangs on parts, but for the nesting of bodies and parameter lists, is not too deep.
use Rattle.std.proofs.Common.{◌≡◌, ℕ, ◌+◌, ◌≤◌, List, [], ◌∷◌, ◌++◌, ap, sym, ◌∙◌, subst, arith, inl, inr}
use Rattle.std.specs.Prelude.{Contains, Option, Some, None, Bool, max}
use Rattle.std.proofs.lemmas.List.Elements.{Contains-append_left, Contains-push_cases, Contains-push}
use denote.Param.Weighed.{most, at_most}
use Rattle.po_tree.specs.declared.expression.Exp.{Exp}
use Rattle.po_tree.specs.declared.expression.Exp.TheViews.{sized-Struct, sized-Params, sized-Plain}
use Rattle.po_tree.specs.declared.expression.Exp.TheOpen.{Suffix-F}
use Rattle.po_tree.specs.declared.expression.Specifier.{Specifier, size-Specifier}
use Rattle.po_tree.specs.declared.expression.Specifier.TheVariants as sp
use Rattle.po_tree.specs.declared.expression.Suffix.{Suffix, size-Suffix, out-Suffix, out-roll-Suffix}
use Rattle.po_tree.specs.declared.expression.Suffix.TheVariants as su
use Rattle.po_tree.specs.declared.expression.Declarator.{Declarator, size-Declarator, size_is-Declarator}
use Rattle.po_tree.specs.declared.expression.Member.{Member, out-Member, size-Member, size_is-Member}
use Rattle.po_tree.specs.declared.expression.Param.{Param, out-Param, size-Param, size_is-Param}
use Rattle.po_tree.specs.Dropping.{Each, EachOf, IsThin, Thin, a_body, as_deep, ThinSuffix, a_list, as_deep_suffix, ThinMember, a_member, ThinParam, a_param, kept_suffix}
use Rattle.po_tree.proofs.Gathered.{same_members}
use Rattle.po_tree.proofs.Sets.{none_contained}

size-body : (tag : Option (List ℕ)) (ms : List Member) → size-Specifier (sp.Struct tag (Some ms)) ≡ most size-Member ms + 1
size-body tag ms = let q = sized-Struct tag (Some ms) in omega (arith, q)

size-tag : (tag : Option (List ℕ)) → size-Specifier (sp.Struct tag None) ≡ 1
size-tag tag = let q = sized-Struct tag None in omega (arith, q)

pub size-list : (ps : List Param) (more : Bool) → size-Suffix (su.Params ps more) ≡ most size-Param ps + 1
size-list ps more = let q = sized-Params ps more in omega (arith, q)

pub size-plain : size-Suffix su.Plain ≡ 1
size-plain = let q = sized-Plain in omega (arith, q)

pub size-declarator : (d : Declarator) → size-Declarator d ≡ size-Suffix d.suffix + 1
size-declarator d = let q = size_is-Declarator d in omega (arith, q)

pub size-member : (m : Member) → size-Member m ≡ max (most size-Specifier (out-Member m).specs) (most size-Declarator (out-Member m).declarators) + 1
size-member m = let q = size_is-Member m in omega (arith, q)

pub size-param : (p : Param) → size-Param p ≡ max (most size-Specifier (out-Param p).specs) (size-Declarator (out-Param p).declarator) + 1
size-param p = let q = size_is-Param p in omega (arith, q)

contained_most : {A : Type 0} (f : A → ℕ) (xs : List A) (x : A) → Contains xs x → f x ≤ most f xs
contained_most f xs x (i, in', same) = subst (λ v. f v ≤ most f xs) same (at_most f xs i x in')

-- what all items are, and the items but the last, and the last

pub each_none : {A : Type 0} (P : A → Type 0) → Each P []
each_none P x c = absurd (none_contained x c)

pub each_last : {A : Type 0} (P : A → Type 0) (xs rest : List A) (x : A) → xs ≡ rest ++ x ∷ [] → Each P xs → P x
each_last P xs rest x q all = all x (subst (λ v. Contains v x) (sym q) (Contains-push rest x))

pub each_rest : {A : Type 0} (P : A → Type 0) (xs rest : List A) (x : A) → xs ≡ rest ++ x ∷ [] → Each P xs → Each P rest
each_rest P xs rest x q all y c = all y (subst (λ v. Contains v y) (sym q) (Contains-append_left rest (x ∷ []) y c))

pub each_push : {A : Type 0} (P : A → Type 0) (xs rest : List A) (x : A) → xs ≡ rest ++ x ∷ [] → Each P rest → P x → Each P xs
each_push P xs rest x q all last y c = elim (Contains-push_cases rest x y (subst (λ v. Contains v y) q c)) [ inl r ↦ all y r | inr e ↦ subst P e last ]

-- what is no deeper is thin

deep_member : (n : ℕ) (m : Member) → size-Member m ≤ n → ThinMember n m
deep_member n m h =
    let parts = size-member m in
    a_member m
    (λ s c. as_deep s (let inside = contained_most size-Specifier (out-Member m).specs s c in omega (arith, parts, inside, h)))
    (λ d c. as_deep_suffix d.suffix (let inside = contained_most size-Declarator (out-Member m).declarators d c in let size = size-declarator d in omega (arith, parts, inside, size, h)))

deep_param : (n : ℕ) (p : Param) → size-Param p ≤ n → ThinParam n p
deep_param n p h =
    let parts = size-param p in
    let size = size-declarator (out-Param p).declarator in
    a_param p (omega (arith, parts, h))
    (λ s c. as_deep s (let inside = contained_most size-Specifier (out-Param p).specs s c in omega (arith, parts, inside, h)))
    (as_deep_suffix (out-Param p).declarator.suffix (omega (arith, parts, size, h)))

pub deep_members : (n : ℕ) (ms : List Member) → most size-Member ms ≤ n → Each (ThinMember n) ms
deep_members n ms h m c = deep_member n m (let inside = contained_most size-Member ms m c in omega (arith, inside, h))

pub deep_params : (n : ℕ) (ps : List Param) → most size-Param ps ≤ n → Each (ThinParam n) ps
deep_params n ps h p c = deep_param n p (let inside = contained_most size-Param ps p c in omega (arith, inside, h))

pub thin_members : (members : List Member) → IsThin (most size-Member members) (record { here = Some members; way = None; coming = None; waiting = None })
thin_members members = ((deep_members _ members (omega arith), tt), (tt, tt))

pub thin_params : (params : List Param) → IsThin (most size-Param params) (record { here = None; way = None; coming = Some params; waiting = None })
thin_params params = ((tt, tt), (deep_params _ params (omega arith), tt))

-- specifiers

pub thin_body : (n : ℕ) (s : Specifier) (tag : Option (List ℕ)) (ms : List Member) → s ≡ sp.Struct tag (Some ms) → Thin n s → (1 ≤ n) × Each (ThinMember n) ms
thin_body n s tag0 ms0 q (a_body tag ms some thin) = (some, subst (Each (ThinMember n)) (same_members tag tag0 ms ms0 q) thin)
thin_body n s tag0 ms0 q (as_deep s' h) =
    let size = ap size-Specifier q ∙ size-body tag0 ms0 in
    (omega (arith, size, h), deep_members n ms0 (omega (arith, size, h)))

pub thin_bare : (n : ℕ) (s : Specifier) → ((tag : Option (List ℕ)) (ms : List Member) → s ≡ sp.Struct tag (Some ms) → ⊥) → Thin n s → size-Specifier s ≤ n
thin_bare n s bare (a_body tag ms some thin) = absurd (bare tag ms cc)
thin_bare n s bare (as_deep s' h) = h

pub thin_struct : (n : ℕ) (tag : Option (List ℕ)) (ms : Option (List Member)) → 1 ≤ n → EachOf (ThinMember n) ms → Thin n (sp.Struct tag ms)
thin_struct n tag None some thin = as_deep (sp.Struct tag None) (let size = size-tag tag in omega (arith, size, some))
thin_struct n tag (Some ms) some thin = a_body tag ms some thin

-- suffixes

out_params : (ps : List Param) (more : Bool) → out-Suffix (su.Params ps more) ≡ Suffix-F.Params ps more
out_params ps more = ap out-Suffix (sym (su.rolls-Params ps more)) ∙ out-roll-Suffix (Suffix-F.Params ps more)

same_params : (ps ps' : List Param) (more more' : Bool) → su.Params ps more ≡ su.Params ps' more' → ps ≡ ps'
same_params ps ps' more more' q = let r : Suffix-F.Params ps more ≡ Suffix-F.Params ps' more' = sym (out_params ps more) ∙ ap out-Suffix q ∙ out_params ps' more' in cc

out_arrays : (sizes : List (Option Exp)) → out-Suffix (su.Arrays sizes) ≡ Suffix-F.Arrays sizes
out_arrays sizes = ap out-Suffix (sym (su.rolls-Arrays sizes)) ∙ out-roll-Suffix (Suffix-F.Arrays sizes)

pub arrays_no_params : (sizes : List (Option Exp)) (ps : List Param) (more : Bool) → su.Arrays sizes ≡ su.Params ps more → ⊥
arrays_no_params sizes ps more q = let r : Suffix-F.Arrays sizes ≡ Suffix-F.Params ps more = sym (out_arrays sizes) ∙ ap out-Suffix q ∙ out_params ps more in cc

pub thin_list : (n : ℕ) (s : Suffix) (ps : List Param) (more : Bool) → s ≡ su.Params ps more → ThinSuffix n s → (1 ≤ n) × Each (ThinParam n) ps
thin_list n s ps0 more0 q (a_list ps more some thin) = (some, subst (Each (ThinParam n)) (same_params ps ps0 more more0 q) thin)
thin_list n s ps0 more0 q (as_deep_suffix s' h) =
    let size = ap size-Suffix q ∙ size-list ps0 more0 in
    (omega (arith, size, h), deep_params n ps0 (omega (arith, size, h)))

pub thin_kept : (n : ℕ) (ps : Option (List Param)) → 1 ≤ n → EachOf (ThinParam n) ps → ThinSuffix n (kept_suffix ps)
thin_kept n None some thin = as_deep_suffix su.Plain (let size = size-plain in omega (arith, size, some))
thin_kept n (Some ps) some thin = a_list ps _ some thin

-- a suffix with no parameters
pub thin_leaf : (n : ℕ) (s : Suffix) → ((ps : List Param) (more : Bool) → s ≡ su.Params ps more → ⊥) → ThinSuffix n s → size-Suffix s ≤ n
thin_leaf n s bare (a_list ps more some thin) = absurd (bare ps more cc)
thin_leaf n s bare (as_deep_suffix s' h) = h

-- members

pub member_specs : (n : ℕ) (m : Member) → ThinMember n m → Each (Thin n) (out-Member m).specs
member_specs n m (a_member m' specs ds) = specs

pub member_declarators : (n : ℕ) (m : Member) → ThinMember n m → Each (λ d. ThinSuffix n d.suffix) (out-Member m).declarators
member_declarators n m (a_member m' specs ds) = ds

pub make_member : (n : ℕ) (m : Member) (specs : List Specifier) (ds : List Declarator) → (out-Member m).specs ≡ specs → (out-Member m).declarators ≡ ds →
    Each (Thin n) specs → Each (λ d. ThinSuffix n d.suffix) ds → ThinMember n m
make_member n m specs ds p q a b = a_member m (subst (Each (Thin n)) (sym p) a) (subst (Each (λ (d : Declarator). ThinSuffix n d.suffix)) (sym q) b)

-- parameters

pub param_some : (n : ℕ) (p : Param) → ThinParam n p → 1 ≤ n
param_some n p (a_param p' some specs suffix) = some

pub param_specs : (n : ℕ) (p : Param) → ThinParam n p → Each (Thin n) (out-Param p).specs
param_specs n p (a_param p' some specs suffix) = specs

pub param_suffix : (n : ℕ) (p : Param) → ThinParam n p → ThinSuffix n (out-Param p).declarator.suffix
param_suffix n p (a_param p' some specs suffix) = suffix

pub make_param : (n : ℕ) (p : Param) (specs : List Specifier) (d : Declarator) → (out-Param p).specs ≡ specs → (out-Param p).declarator ≡ d → 1 ≤ n →
    Each (Thin n) specs → ThinSuffix n d.suffix → ThinParam n p
make_param n p specs d a b some c e = a_param p some (subst (Each (Thin n)) (sym a) c) (subst (λ (v : Declarator). ThinSuffix n v.suffix) (sym b) e)

-- the members of the last body, and the parameters, are less deep
pub body_size : (specs rest : List Specifier) (s : Specifier) (tag : Option (List ℕ)) (ms : List Member) → specs ≡ rest ++ s ∷ [] → s ≡ sp.Struct tag (Some ms) →
    most size-Member ms + 1 ≤ most size-Specifier specs
body_size specs rest s tag ms q is =
    let inside = contained_most size-Specifier specs s (subst (λ v. Contains v s) (sym q) (Contains-push rest s)) in
    let size = ap size-Specifier is ∙ size-body tag ms in
    omega (arith, inside, size)
