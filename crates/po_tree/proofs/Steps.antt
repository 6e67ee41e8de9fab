-- The steps of the loop that drops what is nested.
use Rattle.std.proofs.Common.{◌≡◌, ℕ, ◌<◌, ◌≤◌, List, [], ◌∷◌, ◌++◌, map, ap, sym, ◌∙◌, subst, arith, refl}
use Rattle.std.specs.Prelude.{Option, Some, None, Bool}
use Rattle.po_tree.specs.declared.expression.Specifier.{Specifier}
use Rattle.po_tree.specs.declared.expression.Specifier.TheVariants as sp
use Rattle.po_tree.specs.declared.expression.Exp.{Exp}
use Rattle.po_tree.specs.declared.expression.Suffix.{Suffix, size-Suffix}
use Rattle.po_tree.specs.declared.expression.Suffix.TheVariants as su
use Rattle.po_tree.specs.declared.expression.Declarator.{Declarator}
use Rattle.po_tree.specs.declared.expression.Member.{Member, out-Member}
use Rattle.po_tree.specs.declared.expression.Param.{Param, out-Param}
use Rattle.po_tree.specs.declared.dropping.Left.{Left}
use Rattle.po_tree.specs.declared.dropping.Leaf.{Leaf}
use Rattle.po_tree.specs.declared.dropping.Leaf.TheVariants as leaf
use Rattle.po_tree.specs.declared.dropping.Step.{Step}
use Rattle.po_tree.specs.declared.dropping.Step.TheVariants as step
use Rattle.po_tree.specs.Gathering.{total}
use Rattle.po_tree.specs.Dropping.{weight, suffix_weight, declarator_weight, member_weight, param_weight, whole, front, Goes, Passes, Advances, IsThin, Parts, ThinMember, ThinParam, ThinSuffix, Each, Fits, kept_suffix}
use Rattle.po_tree.proofs.Squares.{squares_less, squares_same}
use Rattle.po_tree.proofs.Weights.{total_push, weight-body, weight-some, kept_weight, suffix_weight-plain, suffix_weight-arrays, suffix_weight-params, declarator_weight-parts, heavy_member, light_member, weight_of_params}
use Rattle.po_tree.proofs.Thin.{each_last, each_rest, each_push, thin_body, thin_bare, thin_struct, thin_kept, thin_list, thin_leaf, arrays_no_params, size-plain, member_specs, member_declarators, make_member, param_some, param_specs, param_suffix, make_param}

-- why the loop ends

lighter : (l next : Left) (gone : Leaf) → whole next < whole l → ((n : ℕ) → IsThin n l → IsThin n next × Fits n gone) → Advances l next gone
lighter l next gone less thin = record { less = squares_less (whole l) (whole next) (front l) (front next) less (omega arith); thin = thin }

nearer : (l next : Left) (gone : Leaf) → whole next ≤ whole l → front next < front l → ((n : ℕ) → IsThin n l → IsThin n next × Fits n gone) → Advances l next gone
nearer l next gone as_light less thin = record { less = squares_same (whole l) (whole next) (front l) (front next) as_light less; thin = thin }

-- members

pub past_none : (ms empty : List Member) (way : Option (List Member)) (waiting : Option (List Param)) → ms ≡ [] → empty ≡ [] →
    Goes (record { here = Some ms; way = way; coming = None; waiting = waiting }) (step.Next (record { here = None; way = way; coming = None; waiting = waiting }) (leaf.Members empty))
past_none ms empty way waiting q none = lighter _ _ _ (omega arith) (λ n thin. (((tt, thin.0.1), thin.1), none))

pub past_specifier : (ms ms' rest : List Member) (m m' : Member) (specs : List Specifier) (ds : List Declarator) (s t : Specifier) (way : Option (List Member)) (waiting : Option (List Param)) →
    ms ≡ rest ++ m ∷ [] → (out-Member m).specs ≡ specs ++ s ∷ [] → (out-Member m).declarators ≡ ds → ms' ≡ rest ++ m' ∷ [] → (out-Member m').specs ≡ specs → (out-Member m').declarators ≡ ds →
    t ≡ s → ((tag : Option (List ℕ)) (inner : List Member) → s ≡ sp.Struct tag (Some inner) → ⊥) →
    Goes (record { here = Some ms; way = way; coming = None; waiting = waiting }) (step.Next (record { here = Some ms'; way = way; coming = None; waiting = waiting }) (leaf.Specifier t))
past_specifier ms ms' rest m m' specs ds s t way waiting q p d q' p' d' same bare =
    let before = heavy_member ms rest m specs s q p in
    let behind = light_member ms' rest m' specs q' p' in
    let a = ap (λ v. total (map declarator_weight v)) d in
    let b = ap (λ v. total (map declarator_weight v)) d' in
    let some = weight-some s in lighter _ _ _ (omega (arith, before, behind, a, b, some)) (
    λ n thin.
    let last = each_last (ThinMember n) ms rest m q thin.0.0 in
    let deep = thin_bare n s bare (each_last _ _ specs s p (member_specs n m last)) in (
      (
        (
          each_push (ThinMember n) ms' rest m' q' (each_rest (ThinMember n) ms rest m q thin.0.0)
              (make_member n m' specs ds p' d' (each_rest _ _ specs s p (member_specs n m last)) (rw (sym d) (member_declarators n m last))),
          thin.0.1,
        ),
        thin.1,
      ),
      rw same deep,
    ))

pub into_body : (ms way' rest body : List Member) (m m' : Member) (specs specs' : List Specifier) (ds : List Declarator) (s : Specifier) (tag : Option (List ℕ)) (way : Option (List Member)) (waiting : Option (List Param)) →
    ms ≡ rest ++ m ∷ [] → (out-Member m).specs ≡ specs ++ s ∷ [] → (out-Member m).declarators ≡ ds → way' ≡ rest ++ m' ∷ [] → (out-Member m').specs ≡ specs' → specs' ≡ specs ++ sp.Struct tag way ∷ [] →
    (out-Member m').declarators ≡ ds → s ≡ sp.Struct tag (Some body) →
    Goes (record { here = Some ms; way = way; coming = None; waiting = waiting }) (step.Next (record { here = Some body; way = Some way'; coming = None; waiting = waiting }) leaf.Nothing)
into_body ms way' rest body m m' specs specs' ds s tag way waiting q p d q' p' r d' is =
    let before = heavy_member ms rest m specs s q p in
    let behind = heavy_member way' rest m' specs (sp.Struct tag way) q' (p' ∙ r) in
    let a = ap (λ v. total (map declarator_weight v)) d in
    let b = ap (λ v. total (map declarator_weight v)) d' in
    let inner = ap weight is ∙ weight-body tag (Some body) in
    let other = weight-body tag way in nearer _ _ _ (omega (arith, before, behind, a, b, inner, other)) (omega (arith, before, inner)) (
    λ n thin.
    let last = each_last (ThinMember n) ms rest m q thin.0.0 in
    let both = thin_body n s tag body is (each_last _ _ specs s p (member_specs n m last)) in (
      (
        (
          both.1,
          each_push (ThinMember n) way' rest m' q' (each_rest (ThinMember n) ms rest m q thin.0.0)
              (make_member n m' (specs ++ sp.Struct tag way ∷ []) ds (p' ∙ r) d'
              (each_push _ _ specs (sp.Struct tag way) refl (each_rest _ _ specs s p (member_specs n m last)) (thin_struct n tag way both.0 thin.0.1))
              (rw (sym d) (member_declarators n m last))),
        ),
        thin.1,
      ),
      tt,
    ))

pub past_member : (ms rest ms' : List Member) (m : Member) (specs : List Specifier) (ds : List Declarator) (way : Option (List Member)) (waiting : Option (List Param)) →
    ms ≡ rest ++ m ∷ [] → ms' ≡ rest → (out-Member m).specs ≡ specs → specs ≡ [] → ds ≡ [] →
    Passes (record { here = Some ms; way = way; coming = None; waiting = waiting }) (step.Next (record { here = Some ms'; way = way; coming = None; waiting = waiting }) (leaf.Member specs ds))
past_member ms rest ms' m specs ds way waiting q q' p none none' = record {
  less = let before = light_member ms rest m specs q p in let same = ap (λ v. total (map member_weight v)) q' in omega (arith, before, same);
  thin = λ n thin. (((subst (Each (ThinMember n)) (sym q') (each_rest (ThinMember n) ms rest m q thin.0.0), thin.0.1), thin.1), (none, none'));
}

pub past_declarator : (ms ms' rest : List Member) (m m' : Member) (specs : List Specifier) (ds ds' ds'' : List Declarator) (d : Declarator) (coming : Option (List Param)) (gone : Leaf) (way : Option (List Member)) (waiting : Option (List Param)) →
    ms ≡ rest ++ m ∷ [] → (out-Member m).specs ≡ specs → (out-Member m).declarators ≡ ds → ds ≡ ds' ++ d ∷ [] → ms' ≡ rest ++ m' ∷ [] → (out-Member m').specs ≡ specs → (out-Member m').declarators ≡ ds'' → ds'' ≡ ds' →
    Parts d.suffix (coming, gone) →
    Passes (record { here = Some ms; way = way; coming = None; waiting = waiting }) (step.Next (record { here = Some ms'; way = way; coming = coming; waiting = waiting }) gone)
past_declarator ms ms' rest m m' specs ds ds' ds'' d coming gone way waiting q p e r q' p' e' r' parts = record {
  less = let before = light_member ms rest m specs q p in
      let behind = light_member ms' rest m' specs q' p' in
      let a = ap (λ v. total (map declarator_weight v)) (e ∙ r) ∙ total_push declarator_weight ds' d in
      let b = ap (λ v. total (map declarator_weight v)) (e' ∙ r') in
      let w = declarator_weight-parts d in
      let less = parts.lighter in
      (omega (arith, before, behind, a, b, w, less));
  thin = λ n thin.
      let last = each_last (ThinMember n) ms rest m q thin.0.0 in
      let hang = parts.thin n (each_last (λ (v : Declarator). ThinSuffix n v.suffix) _ ds' d (e ∙ r) (member_declarators n m last)) in (
        (
          (
            each_push (ThinMember n) ms' rest m' q' (each_rest (ThinMember n) ms rest m q thin.0.0)
                (make_member n m' specs ds' p' (e' ∙ r') (rw (sym p) (member_specs n m last)) (each_rest (λ (v : Declarator). ThinSuffix n v.suffix) _ ds' d (e ∙ r) (member_declarators n m last))),
            thin.0.1,
          ),
          (hang.0, thin.1.1),
        ),
        hang.1,
      );
}

-- the way back

pub no_way : (way empty : List Member) (waiting : Option (List Param)) → way ≡ [] → empty ≡ [] →
    Goes (record { here = None; way = Some way; coming = None; waiting = waiting }) (step.Next (record { here = None; way = None; coming = None; waiting = waiting }) (leaf.Members empty))
no_way way empty waiting q none = lighter _ _ _ (omega arith) (λ n thin. (((tt, tt), thin.1), none))

pub passes : (l : Left) (s : Step) → Passes l s → Goes l s
passes l step.Done h = absurd h
passes l (step.Next next gone) h = lighter l next gone h.less h.thin

-- what is left, by its parts
pub goes_along : (l l' : Left) (s : Step) → l.here ≡ l'.here → l.way ≡ l'.way → l.coming ≡ l'.coming → l.waiting ≡ l'.waiting → Goes l' s → Goes l s
goes_along l l' s a b c d h =
    let q : l ≡ l' = (λ i. record { here = a i; way = b i; coming = c i; waiting = d i }) in subst (λ v. Goes v s) (sym q) h

-- as at the members here, so at those on the way back
pub passes_back : (ms : List Member) (waiting : Option (List Param)) (s : Step) →
    Passes (record { here = Some ms; way = None; coming = None; waiting = waiting }) s → Goes (record { here = None; way = Some ms; coming = None; waiting = waiting }) s
passes_back ms waiting step.Done h = absurd h
passes_back ms waiting (step.Next next gone) h =
    let less = h.less in lighter (record { here = None; way = Some ms; coming = None; waiting = waiting }) next gone (omega (arith, less)) (λ n thin. h.thin n ((thin.0.1, tt), thin.1))

pub back_to : (way ms rest next : List Member) (m m' : Member) (specs : List Specifier) (ds : List Declarator) (s : Specifier) (tag : Option (List ℕ)) (waiting : Option (List Param)) →
    way ≡ rest ++ m ∷ [] → (out-Member m).specs ≡ specs ++ s ∷ [] → (out-Member m).declarators ≡ ds → ms ≡ rest ++ m' ∷ [] → (out-Member m').specs ≡ specs → (out-Member m').declarators ≡ ds →
    s ≡ sp.Struct tag (Some next) →
    Goes (record { here = None; way = Some way; coming = None; waiting = waiting }) (step.Next (record { here = Some ms; way = Some next; coming = None; waiting = waiting }) leaf.Nothing)
back_to way ms rest next m m' specs ds s tag waiting q p d q' p' d' is =
    let before = heavy_member way rest m specs s q p in
    let behind = light_member ms rest m' specs q' p' in
    let a = ap (λ v. total (map declarator_weight v)) d in
    let b = ap (λ v. total (map declarator_weight v)) d' in
    let inner = ap weight is ∙ weight-body tag (Some next) in lighter _ _ _ (omega (arith, before, behind, a, b, inner)) (
    λ n thin.
    let last = each_last (ThinMember n) way rest m q thin.0.1 in
    let both = thin_body n s tag next is (each_last _ _ specs s p (member_specs n m last)) in (
      (
        (
          each_push (ThinMember n) ms rest m' q' (each_rest (ThinMember n) way rest m q thin.0.1)
              (make_member n m' specs ds p' d' (each_rest _ _ specs s p (member_specs n m last)) (rw (sym d) (member_declarators n m last))),
          both.1,
        ),
        thin.1,
      ),
      tt,
    ))

pub back_past : (way ms rest : List Member) (m m' : Member) (specs : List Specifier) (ds : List Declarator) (s t : Specifier) (waiting : Option (List Param)) →
    way ≡ rest ++ m ∷ [] → (out-Member m).specs ≡ specs ++ s ∷ [] → (out-Member m).declarators ≡ ds → ms ≡ rest ++ m' ∷ [] → (out-Member m').specs ≡ specs → (out-Member m').declarators ≡ ds →
    t ≡ s → ((tag : Option (List ℕ)) (inner : List Member) → s ≡ sp.Struct tag (Some inner) → ⊥) →
    Goes (record { here = None; way = Some way; coming = None; waiting = waiting }) (step.Next (record { here = Some ms; way = None; coming = None; waiting = waiting }) (leaf.Specifier t))
back_past way ms rest m m' specs ds s t waiting q p d q' p' d' same bare =
    let before = heavy_member way rest m specs s q p in
    let behind = light_member ms rest m' specs q' p' in
    let a = ap (λ v. total (map declarator_weight v)) d in
    let b = ap (λ v. total (map declarator_weight v)) d' in
    let some = weight-some s in lighter _ _ _ (omega (arith, before, behind, a, b, some)) (
    λ n thin.
    let last = each_last (ThinMember n) way rest m q thin.0.1 in
    let deep = thin_bare n s bare (each_last _ _ specs s p (member_specs n m last)) in (
      (
        (
          each_push (ThinMember n) ms rest m' q' (each_rest (ThinMember n) way rest m q thin.0.1)
              (make_member n m' specs ds p' d' (each_rest _ _ specs s p (member_specs n m last)) (rw (sym d) (member_declarators n m last))),
          tt,
        ),
        thin.1,
      ),
      rw same deep,
    ))

-- parameters

pub no_params : (ps empty : List Param) (here way : Option (List Member)) (waiting : Option (List Param)) → ps ≡ [] → empty ≡ [] →
    Goes (record { here = here; way = way; coming = Some ps; waiting = waiting }) (step.Next (record { here = here; way = way; coming = None; waiting = waiting }) (leaf.Params empty))
no_params ps empty here way waiting q none = lighter _ _ _ (omega arith) (λ n thin. ((thin.0, (tt, thin.1.1)), none))

pub none_waits : (ps empty : List Param) → ps ≡ [] → empty ≡ [] →
    Goes (record { here = None; way = None; coming = None; waiting = Some ps }) (step.Next (record { here = None; way = None; coming = None; waiting = None }) (leaf.Params empty))
none_waits ps empty q none = lighter _ _ _ (omega arith) (λ n thin. ((thin.0, (tt, tt)), none))

pub lets_wait : (ps ps' rest : List Param) (p p' : Param) (specs : List Specifier) (d d' : Declarator) (here way : Option (List Member)) (coming waiting : Option (List Param)) (gone : Leaf) →
    ps ≡ rest ++ p ∷ [] → (out-Param p).specs ≡ specs → (out-Param p).declarator ≡ d → ps' ≡ rest ++ p' ∷ [] → (out-Param p').specs ≡ specs → (out-Param p').declarator ≡ d' →
    d'.suffix ≡ kept_suffix waiting → Parts d.suffix (coming, gone) →
    Goes (record { here = here; way = way; coming = Some ps; waiting = waiting }) (step.Next (record { here = here; way = way; coming = coming; waiting = Some ps' }) gone)
lets_wait ps ps' rest p p' specs d d' here way coming waiting gone q a b q' a' b' kept parts =
    let before = weight_of_params ps rest p specs d q a b in
    let behind = weight_of_params ps' rest p' specs d' q' a' b' in
    let w = ap suffix_weight kept ∙ kept_weight waiting in
    let less = parts.lighter in nearer _ _ _ (omega (arith, before, behind, w, less)) (omega (arith, before, less)) (
    λ n thin.
    let last = each_last (ThinParam n) ps rest p q thin.1.0 in
    let hang = parts.thin n (subst (λ (v : Declarator). ThinSuffix n v.suffix) b (param_suffix n p last)) in
    let some = param_some n p last in (
      (
        thin.0,
        (
          hang.0,
          each_push (ThinParam n) ps' rest p' q' (each_rest (ThinParam n) ps rest p q thin.1.0)
              (make_param n p' specs d' a' b' some (rw (sym a) (param_specs n p last)) (rw kept (thin_kept n waiting some thin.1.1))),
        ),
      ),
      hang.1,
    ))

pub past_param_specifier : (ps ps' rest : List Param) (p p' : Param) (all specs : List Specifier) (d : Declarator) (s t : Specifier) →
    ps ≡ rest ++ p ∷ [] → (out-Param p).specs ≡ all → all ≡ specs ++ s ∷ [] → (out-Param p).declarator ≡ d → ps' ≡ rest ++ p' ∷ [] → (out-Param p').specs ≡ specs → (out-Param p').declarator ≡ d →
    t ≡ s → ((tag : Option (List ℕ)) (inner : List Member) → s ≡ sp.Struct tag (Some inner) → ⊥) →
    Goes (record { here = None; way = None; coming = None; waiting = Some ps }) (step.Next (record { here = None; way = None; coming = None; waiting = Some ps' }) (leaf.Specifier t))
past_param_specifier ps ps' rest p p' all specs d s t q a r b q' a' b' same bare =
    let before = weight_of_params ps rest p all d q a b in
    let behind = weight_of_params ps' rest p' specs d q' a' b' in
    let w = ap (λ v. total (map weight v)) r ∙ total_push weight specs s in
    let some = weight-some s in lighter _ _ _ (omega (arith, before, behind, w, some)) (
    λ n thin.
    let last = each_last (ThinParam n) ps rest p q thin.1.1 in
    let deep = thin_bare n s bare (each_last _ _ specs s (a ∙ r) (param_specs n p last)) in (
      (
        thin.0,
        (
          tt,
          each_push (ThinParam n) ps' rest p' q' (each_rest (ThinParam n) ps rest p q thin.1.1)
              (make_param n p' specs d a' b' (param_some n p last) (each_rest _ _ specs s (a ∙ r) (param_specs n p last)) (subst (λ (v : Declarator). ThinSuffix n v.suffix) b (param_suffix n p last))),
        ),
      ),
      rw same deep,
    ))

pub into_param_body : (ps ps' rest : List Param) (p p' : Param) (all specs : List Specifier) (d : Declarator) (s : Specifier) (tag : Option (List ℕ)) (body : List Member) →
    ps ≡ rest ++ p ∷ [] → (out-Param p).specs ≡ all → all ≡ specs ++ s ∷ [] → (out-Param p).declarator ≡ d → ps' ≡ rest ++ p' ∷ [] → (out-Param p').specs ≡ specs → (out-Param p').declarator ≡ d →
    s ≡ sp.Struct tag (Some body) →
    Goes (record { here = None; way = None; coming = None; waiting = Some ps }) (step.Next (record { here = Some body; way = None; coming = None; waiting = Some ps' }) leaf.Nothing)
into_param_body ps ps' rest p p' all specs d s tag body q a r b q' a' b' is =
    let before = weight_of_params ps rest p all d q a b in
    let behind = weight_of_params ps' rest p' specs d q' a' b' in
    let w = ap (λ v. total (map weight v)) r ∙ total_push weight specs s in
    let inner = ap weight is ∙ weight-body tag (Some body) in lighter _ _ _ (omega (arith, before, behind, w, inner)) (
    λ n thin.
    let last = each_last (ThinParam n) ps rest p q thin.1.1 in
    let both = thin_body n s tag body is (each_last _ _ specs s (a ∙ r) (param_specs n p last)) in (
      (
        (both.1, tt),
        (
          tt,
          each_push (ThinParam n) ps' rest p' q' (each_rest (ThinParam n) ps rest p q thin.1.1)
              (make_param n p' specs d a' b' (param_some n p last) (each_rest _ _ specs s (a ∙ r) (param_specs n p last)) (subst (λ (v : Declarator). ThinSuffix n v.suffix) b (param_suffix n p last))),
        ),
      ),
      tt,
    ))

pub past_param : (ps rest before_it : List Param) (p : Param) (specs : List Specifier) (d : Declarator) (next : Option (List Param)) (part : Leaf) (gone : Suffix) →
    ps ≡ rest ++ p ∷ [] → before_it ≡ rest → (out-Param p).specs ≡ specs → specs ≡ [] → (out-Param p).declarator ≡ d → Parts d.suffix (next, part) →
    ((n : ℕ) → 1 ≤ n → Fits n part → size-Suffix gone ≤ n) →
    Goes (record { here = None; way = None; coming = None; waiting = Some ps }) (step.Next (record { here = None; way = None; coming = Some before_it; waiting = next }) (leaf.Param specs gone))
past_param ps rest before_it p specs d next part gone q same a none b parts fits =
    let before = weight_of_params ps rest p specs d q a b in
    let w = ap (λ v. total (map param_weight v)) same in
    let less = parts.lighter in lighter _ _ _ (omega (arith, before, w, less)) (
    λ n thin.
    let last = each_last (ThinParam n) ps rest p q thin.1.1 in
    let hang = parts.thin n (subst (λ (v : Declarator). ThinSuffix n v.suffix) b (param_suffix n p last)) in (
      (thin.0, (subst (Each (ThinParam n)) (sym same) (each_rest (ThinParam n) ps rest p q thin.1.1), hang.0)),
      (none, fits n (param_some n p last) hang.1),
    ))

-- suffixes

pub parts_plain : (s : Suffix) → s ≡ su.Plain → Parts s (None, leaf.Nothing)
parts_plain s q = record {
  lighter = let w = ap suffix_weight q ∙ suffix_weight-plain in omega (arith, w);
  thin = λ n thin. (tt, tt);
}

pub parts_arrays : (s : Suffix) (sizes : List (Option Exp)) → s ≡ su.Arrays sizes → Parts s (None, leaf.Suffix (su.Arrays sizes))
parts_arrays s sizes q = record {
  lighter = let w = ap suffix_weight q ∙ suffix_weight-arrays sizes in omega (arith, w);
  thin = λ n thin. (tt, subst (λ v. size-Suffix v ≤ n) q (thin_leaf n s (λ ps more r. arrays_no_params sizes ps more (sym q ∙ r)) thin));
}

pub parts_list : (s : Suffix) (ps : List Param) (more : Bool) → s ≡ su.Params ps more → Parts s (Some ps, leaf.Nothing)
parts_list s ps more q = record {
  lighter = let w = ap suffix_weight q ∙ suffix_weight-params ps more in omega (arith, w);
  thin = λ n thin. ((thin_list n s ps more q thin).1, tt);
}

pub fits_plain : (n : ℕ) → 1 ≤ n → Fits n leaf.Nothing → size-Suffix su.Plain ≤ n
fits_plain n some h = let size = size-plain in omega (arith, size, some)

pub fits_itself : (s : Suffix) (n : ℕ) → 1 ≤ n → Fits n (leaf.Suffix s) → size-Suffix s ≤ n
fits_itself s n some h = h

pub fits_along : (n : ℕ) (gone gone' : Leaf) → gone ≡ gone' → Fits n gone → Fits n gone'
fits_along n gone gone' q h = subst (Fits n) q h
