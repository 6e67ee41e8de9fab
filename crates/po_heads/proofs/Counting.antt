-- A row of expressions has just those that are inside a tree, by what is inside its parts.
use Rattle.std.proofs.Common.{◌≡◌, ◌⊎◌, inl, inr, ℕ, List, [], ◌∷◌, ◌++◌, map, flat_map, Option, Some, None, refl, sym, ap, subst, ◌∙◌}
use Rattle.std.specs.Prelude.{Contains, ◌↔◌}
use Rattle.po_lists.proofs.Members.{Has, has, contains}
use Rattle.po_tree.specs.declared.expression.Exp.{Exp}
use Rattle.po_tree.specs.Order.{Ordered, within, tree_of, some_expressions}
use Rattle.po_heads.specs.Inside.{Tree, expression, any, parts, IsInside, itself, in_part}

-- these expressions are just those inside this tree
pub record Counts (xs : List Exp) (t : Tree) : Type 0 where
  pub told : (y : Exp) → Has xs y → IsInside y t
  pub kept : (y : Exp) → IsInside y t → Has xs y

-- one of these trees has it inside
abbrev Among : Exp → List Tree → Type 0
Among y [] = ⊥
Among y (t ∷ ts) = IsInside y t ⊎ Among y ts

-- these expressions are some of one's own and just those inside these trees
pub record Made (xs own : List Exp) (ts : List Tree) : Type 0 where
  pub told : (y : Exp) → Has xs y → Has own y ⊎ Among y ts
  pub kept : (y : Exp) → Has own y ⊎ Among y ts → Has xs y

has_left : (xs ys : List Exp) (y : Exp) → Has xs y → Has (xs ++ ys) y
has_left [] ys y h = absurd h
has_left (x ∷ xs) ys y (inl q) = inl q
has_left (x ∷ xs) ys y (inr h) = inr (has_left xs ys y h)

has_right : (xs ys : List Exp) (y : Exp) → Has ys y → Has (xs ++ ys) y
has_right [] ys y h = h
has_right (x ∷ xs) ys y h = inr (has_right xs ys y h)

has_either : (xs ys : List Exp) (y : Exp) → Has (xs ++ ys) y → Has xs y ⊎ Has ys y
has_either [] ys y h = inr h
has_either (x ∷ xs) ys y (inl q) = inl (inl q)
has_either (x ∷ xs) ys y (inr h) = elim (has_either xs ys y h) [ inl k ↦ inl (inr k) | inr k ↦ inr k ]

among_left : (ts us : List Tree) (y : Exp) → Among y ts → Among y (ts ++ us)
among_left [] us y h = absurd h
among_left (t ∷ ts) us y (inl h) = inl h
among_left (t ∷ ts) us y (inr h) = inr (among_left ts us y h)

among_right : (ts us : List Tree) (y : Exp) → Among y us → Among y (ts ++ us)
among_right [] us y h = h
among_right (t ∷ ts) us y h = inr (among_right ts us y h)

among_either : (ts us : List Tree) (y : Exp) → Among y (ts ++ us) → Among y ts ⊎ Among y us
among_either [] us y h = inr h
among_either (t ∷ ts) us y (inl h) = inl (inl h)
among_either (t ∷ ts) us y (inr h) = elim (among_either ts us y h) [ inl k ↦ inl (inr k) | inr k ↦ inr k ]

one_among : (y : Exp) (t : Tree) (ts : List Tree) → Has ts t → IsInside y t → Among y ts
one_among y t [] h k = absurd h
one_among y t (u ∷ ts) (inl q) k = inl (subst (IsInside y) (sym q) k)
one_among y t (u ∷ ts) (inr h) k = inr (one_among y t ts h k)

found_among : (y : Exp) (ts : List Tree) → Among y ts → (t : Tree) × Has ts t × IsInside y t
found_among y [] h = absurd h
found_among y (t ∷ ts) (inl h) = (t, inl refl, h)
found_among y (t ∷ ts) (inr h) = let r = found_among y ts h in (r.0, inr r.1, r.2)

-- rows of expressions, by their parts

pub nothing : Made [] [] []
nothing = record { told = λ y h. absurd h; kept = λ y. elim [ inl h ↦ h | inr h ↦ absurd h ] }

pub part : {xs : List Exp} {t : Tree} → Counts xs t → Made xs [] (t ∷ [])
part c = record { told = λ y h. inr (inl (c.told y h)); kept = λ y. elim [ inl h ↦ absurd h | inr (inl h) ↦ c.kept y h | inr (inr h) ↦ absurd h ] }

joins_told : {xs ys own other : List Exp} {ts us : List Tree} → Made xs own ts → Made ys other us → (y : Exp) → Has xs y ⊎ Has ys y → Has (own ++ other) y ⊎ Among y (ts ++ us)
joins_told {own = own} {other = other} {ts = ts} {us = us} a b y (inl h) = elim (a.told y h) [ inl k ↦ inl (has_left own other y k) | inr k ↦ inr (among_left ts us y k) ]
joins_told {own = own} {other = other} {ts = ts} {us = us} a b y (inr h) = elim (b.told y h) [ inl k ↦ inl (has_right own other y k) | inr k ↦ inr (among_right ts us y k) ]

joins_kept : {xs ys own other : List Exp} {ts us : List Tree} → Made xs own ts → Made ys other us → (y : Exp) → Has (own ++ other) y ⊎ Among y (ts ++ us) → Has (xs ++ ys) y
joins_kept {xs} {ys} {own} {other} a b y (inl h) = elim (has_either own other y h) [ inl k ↦ has_left xs ys y (a.kept y (inl k)) | inr k ↦ has_right xs ys y (b.kept y (inl k)) ]
joins_kept {xs} {ys} {ts = ts} {us = us} a b y (inr h) = elim (among_either ts us y h) [ inl k ↦ has_left xs ys y (a.kept y (inr k)) | inr k ↦ has_right xs ys y (b.kept y (inr k)) ]

pub joins : {xs ys own other : List Exp} {ts us : List Tree} → Made xs own ts → Made ys other us → Made (xs ++ ys) (own ++ other) (ts ++ us)
joins {xs} {ys} a b = record { told = λ y h. joins_told a b y (has_either xs ys y h); kept = joins_kept a b }

pub headed : {x : Exp} {xs : List Exp} {ts : List Tree} → Made xs [] ts → Made (x ∷ xs) (x ∷ []) ts
headed m = record {
  told = λ y. elim [ inl q ↦ inl (inl q) | inr h ↦ elim (m.told y h) [ inl k ↦ absurd k | inr k ↦ inr k ] ];
  kept = λ y. elim [ inl (inl q) ↦ inl q | inl (inr h) ↦ absurd h | inr h ↦ inr (m.kept y (inr h)) ];
}

-- a whole tree, by its parts

abbrev pub as_expression : Tree → Option Exp
as_expression (expression x) = Some x
as_expression _ = None

opened : {y : Exp} {t : Tree} → IsInside y t → (Some y ≡ as_expression t) ⊎ Among y (parts t)
opened itself = inl refl
opened {y = y} (in_part p t c h) = inr (one_among y p (parts t) (has (parts t) p c) h)

closed : (y : Exp) (t : Tree) → Among y (parts t) → IsInside y t
closed y t h = let r = found_among y (parts t) h in in_part r.0 t (contains (parts t) r.0 r.1) r.2

same_item : (x y : Exp) → Some y ≡ Some x → x ≡ y
same_item x y q = cc

pub whole_expression : {xs : List Exp} (x : Exp) → Made xs (x ∷ []) (parts (expression x)) → Counts xs (expression x)
whole_expression x m = record {
  told = λ y h. elim (m.told y h) [ inl (inl q) ↦ subst (λ v. IsInside y (expression v)) (sym q) itself | inl (inr k) ↦ absurd k | inr k ↦ closed y (expression x) k ];
  kept = λ y h. m.kept y (elim (opened h) [ inl q ↦ inl (inl (same_item x y q)) | inr k ↦ inr k ]);
}

none_other : (y : Exp) → Some y ≡ None → ⊥
none_other y q = absurd (cc)

pub whole : {xs : List Exp} (t : Tree) → as_expression t ≡ None → Made xs [] (parts t) → Counts xs t
whole t other m = record {
  told = λ y h. elim (m.told y h) [ inl k ↦ absurd k | inr k ↦ closed y t k ];
  kept = λ y h. m.kept y (elim (opened h) [ inl q ↦ absurd (none_other y (q ∙ other)) | inr k ↦ inr k ]);
}

pub just_inside : {xs : List Exp} {t : Tree} → Counts xs t → (y : Exp) → Contains xs y ↔ IsInside y t
just_inside {xs} c y = ((λ h. c.told y (has xs y h)), (λ h. contains xs y (c.kept y h)))

-- parts in a row, where each is counted
module _ {T : Type 0} (x : T → List Exp) (f : T → Tree) (a : (t : T) → Counts (x t) (f t)) where
  pub rows : (ts : List T) → Made (flat_map x ts) [] (map f ts)
  rows [] = nothing
  rows (t ∷ ts) = joins (part (a t)) (rows ts)

  pub any_of : (t : Option T) → Made (some_expressions x t) [] (any f t)
  any_of None = nothing
  any_of (Some t) = part (a t)

-- parts in a row, each with what is known of it
module _ {T B : Type 0} (P : T → Type 0) (o : T → B) (h : B → List Exp) (f : T → Tree) (a : (t : T) → P t → Counts (h (o t)) (f t)) where
  pub row : (ts : List ((t : T) × P t)) → Made (flat_map h (map o (map (λ t. t.0) ts))) [] (map f (map (λ t. t.0) ts))
  row [] = nothing
  row (t ∷ ts) = joins (part (a t.0 t.1)) (row ts)

pub same_row : {T : Type 0} (P : T → Type 0) (o : T → Ordered T) → ((t : T) → P t → (o t).0 ≡ t) → (ts : List ((t : T) × P t)) →
    map (λ (x : Ordered T). x.0) (map o (map (λ t. t.0) ts)) ≡ map (λ t. t.0) ts
same_row P o a [] = refl
same_row P o a (t ∷ ts) = λ i. a t.0 t.1 i ∷ same_row P o a ts i

-- sizes and enumerators, through whatever functions pass over what may be missing
module _ {T : Type 0} (P : T → Type 0) (o : T → Ordered T) (f : T → Tree) (a : (t : T) → P t → Counts (o t).1 (f t)) (same : (t : T) → P t → (o t).0 ≡ t) where
  module _ (g : Option ((t : T) × P t) → Option T) (go : Option T → Option (Ordered T)) (g-None : g None ≡ None) (o-None : go None ≡ None)
      (g-Some : (t : (t : T) × P t) → g (Some t) ≡ Some t.0) (o-Some : (t : T) → go (Some t) ≡ Some (o t)) where
    pub sizes : (ts : List (Option ((t : T) × P t))) → Made (flat_map within (map go (map g ts))) [] (flat_map (any f) (map g ts))
    sizes [] = nothing
    sizes (None ∷ ts) = rw (g-None, o-None) (sizes ts)
    sizes (Some t ∷ ts) = rw (g-Some t, o-Some t.0) (joins (part (a t.0 t.1)) (sizes ts))

    pub same_sizes : (ts : List (Option ((t : T) × P t))) → map tree_of (map go (map g ts)) ≡ map g ts
    same_sizes [] = refl
    same_sizes (None ∷ ts) = rw (g-None, o-None) (ap (λ l. None ∷ l) (same_sizes ts))
    same_sizes (Some t ∷ ts) = rw (g-Some t, o-Some t.0) (λ i. Some (same t.0 t.1 i) ∷ same_sizes ts i)

  module _ (g : (List ℕ × Option ((t : T) × P t)) → (List ℕ × Option T)) (go : (List ℕ × Option T) → (List ℕ × Option (Ordered T)))
      (g-None : (n : List ℕ) → g (n, None) ≡ (n, None)) (o-None : (n : List ℕ) → go (n, None) ≡ (n, None))
      (g-Some : (n : List ℕ) (t : (t : T) × P t) → g (n, Some t) ≡ (n, Some t.0)) (o-Some : (n : List ℕ) (t : T) → go (n, Some t) ≡ (n, Some (o t))) where
    item : (x : List ℕ × Option ((t : T) × P t)) → Made (within (go (g x)).1) [] (any f (g x).1)
    item (n, None) = rw (g-None n, o-None n) nothing
    item (n, Some t) = rw (g-Some n t, o-Some n t.0) (part (a t.0 t.1))

    same_item_of : (x : List ℕ × Option ((t : T) × P t)) → ((go (g x)).0, tree_of (go (g x)).1) ≡ g x
    same_item_of (n, None) = rw (g-None n, o-None n) refl
    same_item_of (n, Some t) = rw (g-Some n t, o-Some n t.0) (λ i. (n, Some (same t.0 t.1 i)))

    pub items : (ts : List (List ℕ × Option ((t : T) × P t))) → Made (flat_map (λ item. within item.1) (map go (map g ts))) [] (flat_map (λ item. any f item.1) (map g ts))
    items [] = nothing
    items (t ∷ ts) = joins (item t) (items ts)

    pub same_items : (ts : List (List ℕ × Option ((t : T) × P t))) → map (λ item. (item.0, tree_of item.1)) (map go (map g ts)) ≡ map g ts
    same_items [] = refl
    same_items (t ∷ ts) = λ i. same_item_of t i ∷ same_items ts i
