-- Enumerators, one after the other.
use Rattle.std.proofs.Common.{◌≡◌, ◌∙◌, ℕ, List, [], ◌∷◌, ◌++◌, Bool, true, false, refl, sym, ap, subst, codes}
use Rattle.std.specs.Prelude.{Option, Some, None}
use Rattle.po_base.specs.declared.token.TokenKind.TheVariants as k
use Rattle.po_tree.specs.declared.expression.Exp.{Exp}
use Rattle.po_tree.specs.Signs.{Sign, word, comma, equals, brace_end}
use Rattle.po_tree.specs.Declarations.{without}
use Rattle.po_tree.specs.Words.{IsName}
use Rattle.po_exp_parts.specs.Places.{BeginsName, Begins}
use Rattle.po_decl_parts.specs.Constants.{ConstantStands}
use Rattle.po_decl_parts.specs.Enumerators.{EnumeratorRead, plain, valued, EnumeratorsRead, last, last_comma, further}
use Rattle.po_exp_parts.proofs.SameSigns.{same_word}
use Rattle.po_decl_parts.proofs.Endings.{constant_same}
use Rattle.po_exp_parts.proofs.Leading.{Leads}

-- what is known behind the brace that closes enumerators
pub record Closed : Type 0 where
  pub more : Bool
  pub types : List (List ℕ)
  pub left : List Sign

abbrev pub Items : List (List ℕ) → List Sign → List (List ℕ × Option Exp) → Closed → Type 0
Items types ts items end = EnumeratorsRead types ts items end.more end.types end.left

comma_brace : {ts us : List Sign} → comma ∷ ts ≡ brace_end ∷ us → ⊥
comma_brace w = let heads : comma ≡ brace_end = cc in let texts : codes "," ≡ codes "}" = ap (λ v. v.text) heads in cc

constant_along : {types : List (List ℕ)} {signs other us : List Sign} {x : Exp} → signs ≡ other → ConstantStands types signs x us → ConstantStands types other x us
constant_along {types = types} {us = us} {x = x} q w = subst (λ v. ConstantStands types v x us) q w

item_along : {types : List (List ℕ)} {ts ts' us vs : List Sign} {a b : List ℕ × Option Exp} → ts ≡ ts' → EnumeratorRead types ts a us → EnumeratorRead types ts' b vs → (a ≡ b) × (us ≡ vs)
item_along q (plain name ts is none) (plain name' ts' is' none') = let p = same_word q in (ap (λ n. (n, None)) p.0, p.1)
item_along q (plain name ts is none) (valued name' x ts' us' is' w) = let p = same_word q in absurd (none (subst (Begins equals) (sym p.1) refl))
item_along q (valued name x ts us is w) (plain name' ts' is' none) = let p = same_word q in absurd (none (subst (Begins equals) p.1 refl))
item_along q (valued name x ts us is w) (valued name' x' ts' us' is' w') =
    let p = same_word q in
    let behind = p.1 in
    let rests : ts ≡ ts' = cc in
    let r = constant_same (constant_along rests w) w' in
    (ap (λ n. (n, Some x)) p.0 ∙ ap (λ v. (name', Some v)) r.0, r.1)

-- of two enumerators one is the other
pub item_same : {types : List (List ℕ)} {ts us vs : List Sign} {a b : List ℕ × Option Exp} → EnumeratorRead types ts a us → EnumeratorRead types ts b vs → (a ≡ b) × (us ≡ vs)
item_same w v = item_along refl w v

pub items_behind : {types : List (List ℕ)} {ts us rest vs : List Sign} {item : List ℕ × Option Exp} {zs : List (List ℕ × Option Exp)} {more : Bool} {types' : List (List ℕ)} →
    EnumeratorsRead types ts zs more types' vs → EnumeratorRead types ts item us → us ≡ comma ∷ rest → (Begins brace_end rest → ⊥) →
    (ys : List (List ℕ × Option Exp)) × (zs ≡ (item ∷ []) ++ ys) × EnumeratorsRead (without item.0 types) rest ys more types' vs
items_behind (last types own ts left v) w q none = let p = item_same v w in absurd (comma_brace (sym q ∙ sym p.1))
items_behind {rest = rest} (last_comma types own ts left v) w q none =
    let p = item_same v w in
    let both = sym q ∙ sym p.1 in
    let rests : rest ≡ brace_end ∷ left = cc in
    absurd (none (subst (Begins brace_end) (sym rests) refl))
items_behind {rest = rest} {vs = vs} (further types types' own items more ts left vs' v u) w q none =
    let p = item_same v w in
    let both = sym q ∙ sym p.1 in
    let rests : left ≡ rest = cc in
    (items, ap (λ i. i ∷ items) p.0, subst (λ i. EnumeratorsRead (without i.0 types) rest items more types' vs) p.0 (subst (λ z. EnumeratorsRead (without own.0 types) z items more types' vs) rests u))

-- an enumerator is read, and another follows
pub item_leads : {types : List (List ℕ)} {ts us : List Sign} {item : List ℕ × Option Exp} (rest : List Sign) → EnumeratorRead types ts item us → us ≡ comma ∷ rest → (Begins brace_end rest → ⊥) →
    Leads (Items types ts) (item ∷ []) (Items (without item.0 types) rest)
item_leads {types = types} {ts = ts} {item = item} rest w q none = record {
  forth = λ ys end u. further types end.types item ys end.more ts rest end.left (subst (EnumeratorRead types ts item) q w) u;
  back = λ zs end v. items_behind v w q none;
}

-- no enumerators where none stands
pub no_items : {types : List (List ℕ)} {ts : List Sign} → ((item : List ℕ × Option Exp) (us : List Sign) → EnumeratorRead types ts item us → ⊥) →
    (zs : List (List ℕ × Option Exp)) (end : Closed) → Items types ts zs end → ⊥
no_items none zs end (last types item ts us v) = none item (brace_end ∷ us) v
no_items none zs end (last_comma types item ts us v) = none item (comma ∷ (brace_end ∷ us)) v
no_items none zs end (further types types' item items more ts us vs v u) = none item (comma ∷ us) v

-- nor where neither a comma nor a brace follows one
pub open_items : {types : List (List ℕ)} {ts us : List Sign} {item : List ℕ × Option Exp} → EnumeratorRead types ts item us → (Begins brace_end us → ⊥) → (Begins comma us → ⊥) →
    (zs : List (List ℕ × Option Exp)) (end : Closed) → Items types ts zs end → ⊥
open_items w none wrong zs end (last types item ts us v) = let p = item_same v w in none (subst (Begins brace_end) p.1 refl)
open_items w none wrong zs end (last_comma types item ts us v) = let p = item_same v w in wrong (subst (Begins comma) p.1 refl)
open_items w none wrong zs end (further types types' item items more ts us vs v u) = let p = item_same v w in wrong (subst (Begins comma) p.1 refl)

-- the last enumerator
pub closed_by_brace : {types : List (List ℕ)} {ts us : List Sign} {item : List ℕ × Option Exp} (left : List Sign) → EnumeratorRead types ts item us → us ≡ brace_end ∷ left →
    EnumeratorsRead types ts (item ∷ []) false (without item.0 types) left
closed_by_brace {types = types} {ts = ts} {item = item} left w q = last types item ts left (subst (EnumeratorRead types ts item) q w)

pub closed_by_comma : {types : List (List ℕ)} {ts us : List Sign} {item : List ℕ × Option Exp} (behind left : List Sign) → EnumeratorRead types ts item us → us ≡ comma ∷ behind → behind ≡ brace_end ∷ left →
    EnumeratorsRead types ts (item ∷ []) true (without item.0 types) left
closed_by_comma {types = types} {ts = ts} {item = item} behind left w q r = last_comma types item ts left (subst (EnumeratorRead types ts item) (q ∙ ap (λ v. comma ∷ v) r) w)

-- one enumerator at a place

pub enumerator_name : {types : List (List ℕ)} {ts us : List Sign} {item : List ℕ × Option Exp} → EnumeratorRead types ts item us → BeginsName item.0 ts
enumerator_name (plain name ts is none) = (is, refl)
enumerator_name (valued name x ts us is w) = (is, refl)

pub plain_by : {types : List (List ℕ)} {ts us : List Sign} {name : List ℕ} → IsName name × (ts ≡ word name ∷ us) → (Begins equals us → ⊥) → EnumeratorRead types ts (name, None) us
plain_by {types = types} {us = us} {name = name} h none = subst (λ v. EnumeratorRead types v (name, None) us) (sym h.1) (plain name us h.0 none)

pub valued_by : {types : List (List ℕ)} {ts vs left : List Sign} {name : List ℕ} {x : Exp} (us : List Sign) → IsName name × (ts ≡ word name ∷ us) → us ≡ equals ∷ vs → ConstantStands types vs x left → EnumeratorRead types ts (name, Some x) left
valued_by {types = types} {vs = vs} {left = left} {name = name} {x = x} us h q w =
    subst (λ v. EnumeratorRead types v (name, Some x) left) (sym (h.1 ∙ ap (λ v. word name ∷ v) q)) (valued name x vs left h.0 w)

pub no_value : {types : List (List ℕ)} {ts vs : List Sign} {name : List ℕ} (us : List Sign) → ts ≡ word name ∷ us → us ≡ equals ∷ vs → ((x : Exp) (left : List Sign) → ConstantStands types vs x left → ⊥) →
    (item : List ℕ × Option Exp) (left : List Sign) → EnumeratorRead types ts item left → ⊥
no_value us q r none item left (plain own ts is wrong) = let p = same_word q in wrong (subst (Begins equals) (sym (p.1 ∙ r)) refl)
no_value {vs = vs} us q r none item left (valued own x ts left' is w) =
    let p = same_word q in
    let both = p.1 ∙ r in
    let rests : ts ≡ vs = cc in
    none x left' (constant_along rests w)

-- what all enumerators come to
pub record Same (items others : List (List ℕ × Option Exp)) (more more' : Bool) (types types' : List (List ℕ)) (us vs : List Sign) : Type 0 where
  pub items_same : items ≡ others
  pub more_same : more ≡ more'
  pub types_same : types ≡ types'
  pub left_same : us ≡ vs

brace_comma_rest : {rest left : List Sign} → comma ∷ rest ≡ comma ∷ (brace_end ∷ left) → rest ≡ brace_end ∷ left
brace_comma_rest w = cc

item_at_brace : {types : List (List ℕ)} {ts us left : List Sign} {item : List ℕ × Option Exp} → ts ≡ brace_end ∷ left → EnumeratorRead types ts item us → ⊥
item_at_brace q (plain name ts is none) = let heads : word name ≡ brace_end = cc in let kinds : k.Word ≡ k.Punct = ap (λ v. v.kind) heads in cc
item_at_brace q (valued name x ts us is w) = let heads : word name ≡ brace_end = cc in let kinds : k.Word ≡ k.Punct = ap (λ v. v.kind) heads in cc

at_brace : {types types' : List (List ℕ)} {ts vs left : List Sign} {zs : List (List ℕ × Option Exp)} {more : Bool} → ts ≡ brace_end ∷ left → EnumeratorsRead types ts zs more types' vs → ⊥
at_brace q (last types item ts us v) = item_at_brace q v
at_brace q (last_comma types item ts us v) = item_at_brace q v
at_brace q (further types types' item items more ts us vs v u) = item_at_brace q v

-- from the same signs the same enumerators are read
pub items_along : {types types' final final' : List (List ℕ)} {ts ts' us vs : List Sign} {items others : List (List ℕ × Option Exp)} {more more' : Bool} → types ≡ types' → ts ≡ ts' →
    EnumeratorsRead types ts items more final us → EnumeratorsRead types' ts' others more' final' vs → Same items others more more' final final' us vs
items_along e q (last types item ts us v) (last types' item' ts' us' v') =
    let p = item_same (subst (λ z. EnumeratorRead z ts' item (brace_end ∷ us)) e (subst (λ z. EnumeratorRead types z item (brace_end ∷ us)) q v)) v' in
    let ends = p.1 in
    record { items_same = ap (λ i. i ∷ []) p.0; more_same = refl; types_same = ap (λ i. without i.0 types) p.0 ∙ ap (without item'.0) e; left_same = cc }
items_along e q (last types item ts us v) (last_comma types' item' ts' us' v') =
    let p = item_same (subst (λ z. EnumeratorRead z ts' item (brace_end ∷ us)) e (subst (λ z. EnumeratorRead types z item (brace_end ∷ us)) q v)) v' in
    absurd (comma_brace (sym p.1))
items_along e q (last types item ts us v) (further types' final' item' items more ts' us' vs v' w') =
    let p = item_same (subst (λ z. EnumeratorRead z ts' item (brace_end ∷ us)) e (subst (λ z. EnumeratorRead types z item (brace_end ∷ us)) q v)) v' in
    absurd (comma_brace (sym p.1))
items_along e q (last_comma types item ts us v) (last types' item' ts' us' v') =
    let p = item_same (subst (λ z. EnumeratorRead z ts' item (comma ∷ (brace_end ∷ us))) e (subst (λ z. EnumeratorRead types z item (comma ∷ (brace_end ∷ us))) q v)) v' in
    absurd (comma_brace p.1)
items_along e q (last_comma types item ts us v) (last_comma types' item' ts' us' v') =
    let p = item_same (subst (λ z. EnumeratorRead z ts' item (comma ∷ (brace_end ∷ us))) e (subst (λ z. EnumeratorRead types z item (comma ∷ (brace_end ∷ us))) q v)) v' in
    let ends = p.1 in
    record { items_same = ap (λ i. i ∷ []) p.0; more_same = refl; types_same = ap (λ i. without i.0 types) p.0 ∙ ap (without item'.0) e; left_same = cc }
items_along e q (last_comma types item ts us v) (further types' final' item' items more ts' us' vs v' w') =
    let p = item_same (subst (λ z. EnumeratorRead z ts' item (comma ∷ (brace_end ∷ us))) e (subst (λ z. EnumeratorRead types z item (comma ∷ (brace_end ∷ us))) q v)) v' in
    absurd (at_brace (brace_comma_rest (sym p.1)) w')
items_along e q (further types final item items more ts us vs v w) (last types' item' ts' us' v') =
    let p = item_same (subst (λ z. EnumeratorRead z ts' item (comma ∷ us)) e (subst (λ z. EnumeratorRead types z item (comma ∷ us)) q v)) v' in
    absurd (comma_brace p.1)
items_along e q (further types final item items more ts us vs v w) (last_comma types' item' ts' us' v') =
    let p = item_same (subst (λ z. EnumeratorRead z ts' item (comma ∷ us)) e (subst (λ z. EnumeratorRead types z item (comma ∷ us)) q v)) v' in
    absurd (at_brace (brace_comma_rest p.1) w)
items_along e q (further types final item items more ts us vs v w) (further types' final' item' items' more' ts' us' vs' v' w') =
    let p = item_same (subst (λ z. EnumeratorRead z ts' item (comma ∷ us)) e (subst (λ z. EnumeratorRead types z item (comma ∷ us)) q v)) v' in
    let ends = p.1 in
    let rests : us ≡ us' = cc in
    let r = items_along (ap (λ i. without i.0 types) p.0 ∙ ap (without item'.0) e) rests w w' in
    record { items_same = ap (λ i. i ∷ items) p.0 ∙ ap (λ i. item' ∷ i) r.items_same; more_same = r.more_same; types_same = r.types_same; left_same = r.left_same }
