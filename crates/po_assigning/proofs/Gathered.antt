-- Names behind names, part by part.
use Rattle.std.proofs.Common.{◌≡◌, ℕ, ◌+◌, ◌<◌, List, [], ◌∷◌, ◌++◌, map, take, length, get_or, Option, Some, None, Bool, false, true, ◌||◌, ap, sym, ◌∙◌, refl, subst}
use Rattle.std.proofs.Math.Bool.{or-false, or_assoc}
use Rattle.std.proofs.lemmas.List.{map_more, map-append}
use Rattle.po_tree.specs.declared.expression.Exp.{Exp}
use Rattle.po_lowering.specs.Naming.{assigned, any_of, holds_of}
use Rattle.po_assigning.specs.Gathering.{AddsNames, Gathers, GathersMore, some_assigns, assigns_name}

abbrev pub Asked : Type 0
Asked = List ℕ → Bool

pub adds_none : (tells : Asked → Bool) (ns : List (List ℕ)) → ((p : Asked) → tells p ≡ false) → AddsNames tells ns ns
adds_none tells ns h = record { adds = λ p. sym (ap (λ b. any_of (map p ns) || b) (h p) ∙ or-false (any_of (map p ns))) }

pub adds_along : {first second : Asked → Bool} {before after : List (List ℕ)} → ((p : Asked) → first p ≡ second p) → AddsNames first before after → AddsNames second before after
adds_along {before = before} h a = record { adds = λ p. a.adds p ∙ ap (λ b. any_of (map p before) || b) (h p) }

pub adds_then : {first second : Asked → Bool} {before middle after : List (List ℕ)} → AddsNames first before middle → AddsNames second middle after →
    AddsNames (λ p. first p || second p) before after
adds_then {first} {second} {before} a b = record { adds = λ p. b.adds p ∙ ap (λ z. z || second p) (a.adds p) ∙ or_assoc (any_of (map p before)) (first p) (second p) }

any_of-last : (bs : List Bool) (b : Bool) → any_of (bs ++ b ∷ []) ≡ (any_of bs || b)
any_of-last [] b = or-false b
any_of-last (true ∷ bs) b = refl
any_of-last (false ∷ bs) b = any_of-last bs b

-- one name more
pub adds_name : (name : List ℕ) (ns : List (List ℕ)) → AddsNames (λ p. p name) ns (ns ++ name ∷ [])
adds_name name ns = record { adds = λ p. ap any_of (map-append p ns (name ∷ [])) ∙ any_of-last (map p ns) (p name) }

-- the name that an expression is
pub adds_named : (x : Exp) (name text : List ℕ) (ns after : List (List ℕ)) → ((p : Asked) → Some name ≡ (assigned p x).is) → text ≡ name → after ≡ ns ++ text ∷ [] →
    AddsNames (λ p. assigns_name p x) ns after
adds_named x name text ns after h q w = subst (AddsNames (λ p. assigns_name p x) ns) (sym w) (adds_along (λ p. ap p q ∙ ap (holds_of p) (h p)) (adds_name text ns))

-- one expression is a list of one
pub some_one : (p : Asked) (x : Exp) → some_assigns p (x ∷ []) ≡ (assigned p x).does
some_one p x = or-false (assigned p x).does

-- one expression more
pub some_more : (p : Asked) (xs : List Exp) (i : ℕ) (x : Exp) → i < length xs → x ≡ get_or xs i x →
    some_assigns p (take (i + 1) xs) ≡ (some_assigns p (take i xs) || some_assigns p (x ∷ []))
some_more p xs i x h q = ap any_of (map_more (λ y. (assigned p y).does) xs i x h) ∙ any_of-last (map (λ y. (assigned p y).does) (take i xs)) ((assigned p (get_or xs i x)).does) ∙
    ap (λ y. some_assigns p (take i xs) || (assigned p y).does) (sym q) ∙ ap (λ b. some_assigns p (take i xs) || b) (sym (some_one p x))

-- behind no names, all of them are those of the expressions
pub gathered : (xs : List Exp) (names : List (List ℕ)) → GathersMore xs [] names → Gathers xs names
gathered xs names a p = a.adds p

abbrev does : Asked → Exp → Bool
does p x = (assigned p x).does

pub whole_one : (x y : Exp) {a b : List (List ℕ)} → ((p : Asked) → does p x ≡ does p y) → GathersMore (y ∷ []) a b → GathersMore (x ∷ []) a b
whole_one x y h f = adds_along (λ p. some_one p y ∙ sym (h p) ∙ sym (some_one p x)) f

pub whole_list : (x : Exp) (ys : List Exp) {a b : List (List ℕ)} → ((p : Asked) → does p x ≡ some_assigns p ys) → GathersMore ys a b → GathersMore (x ∷ []) a b
whole_list x ys h f = adds_along (λ p. sym (h p) ∙ sym (some_one p x)) f

pub whole_named : (x y : Exp) {a b d : List (List ℕ)} → ((p : Asked) → does p x ≡ (assigns_name p y || does p y)) →
    AddsNames (λ p. assigns_name p y) a b → GathersMore (y ∷ []) b d → GathersMore (x ∷ []) a d
whole_named x y h f g = adds_along (λ p. ap (λ z. assigns_name p y || z) (some_one p y) ∙ sym (h p) ∙ sym (some_one p x)) (adds_then f g)

pub whole_two : (x y z : Exp) {a b d : List (List ℕ)} → ((p : Asked) → does p x ≡ (does p y || does p z)) →
    GathersMore (y ∷ []) a b → GathersMore (z ∷ []) b d → GathersMore (x ∷ []) a d
whole_two x y z h f g = adds_along (λ p. ap (λ u. u || some_assigns p (z ∷ [])) (some_one p y) ∙ ap (λ u. does p y || u) (some_one p z) ∙ sym (h p) ∙ sym (some_one p x)) (adds_then f g)

pub whole_assigning : (x y z : Exp) {a b d k : List (List ℕ)} → ((p : Asked) → does p x ≡ (assigns_name p y || (does p y || does p z))) →
    AddsNames (λ p. assigns_name p y) a b → GathersMore (y ∷ []) b d → GathersMore (z ∷ []) d k → GathersMore (x ∷ []) a k
whole_assigning x y z h f g k = adds_along (λ p. ap (λ u. assigns_name p y || u) (ap (λ u. u || some_assigns p (z ∷ [])) (some_one p y) ∙ ap (λ u. does p y || u) (some_one p z)) ∙ sym (h p) ∙ sym (some_one p x))
    (adds_then f (adds_then g k))

pub whole_three : (x y z w : Exp) {a b d k : List (List ℕ)} → ((p : Asked) → does p x ≡ (does p y || (does p z || does p w))) →
    GathersMore (y ∷ []) a b → GathersMore (z ∷ []) b d → GathersMore (w ∷ []) d k → GathersMore (x ∷ []) a k
whole_three x y z w h f g k = adds_along (λ p. ap (λ u. u || (some_assigns p (z ∷ []) || some_assigns p (w ∷ []))) (some_one p y) ∙ ap (λ u. does p y || (u || some_assigns p (w ∷ []))) (some_one p z) ∙
    ap (λ u. does p y || (does p z || u)) (some_one p w) ∙ sym (h p) ∙ sym (some_one p x))
    (adds_then f (adds_then g k))
