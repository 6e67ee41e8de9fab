-- The first name in order that has a pair of files is the least.
use Rattle.std.proofs.Common.{◌≡◌, ◌≢◌, ℕ, List, [], ◌∷◌, ◌++◌, length, refl, ap, sym, ◌∙◌, inl, inr, subst, append_assoc, append-nil}
use Rattle.std.specs.Prelude.{Option, Some, None, Contains, slice_get, unwrap_or}
use Rattle.std.specs.Ordering.{nat_cmp, ordering_reverse}
use Rattle.std.specs.Cmp.Lexicographic.{slice_cmp}
use Rattle.std.specs.declared.cmp.Ordering.{Ordering}
use Rattle.std.specs.declared.cmp.Ordering.TheVariants.{Less, Equal, Greater}
use Rattle.std.specs.List.Sorted.{IsStrictlySortedBy}
use Rattle.std.specs.Map.{keys_of}
use Rattle.std.specs.BTreeMap.{BTreeMap, IsOrdered, is_at}
use Rattle.std.proofs.lemmas.Cmp.{nat_list_cmp_total}
use Rattle.std.proofs.lemmas.List.Elements.{All-from_recursion, All-contains, Contains-append_cases}
use Rattle.std.proofs.lemmas.Map.Keys.{sorted_head, sorted_tail}
use Rattle.std.proofs.lemmas.Map.Entries.{place_from_lookup, btree_map_get_place}
use Rattle.std.proofs.lemmas.Map.Lookups.{exact_bytes}
use Rattle.po_lists.proofs.Members.{contains_none, contains_cases, contains_item, contains_map}
use Rattle.po_lists.proofs.Places.{behind_at}
use Rattle.po_lists.proofs.Orders.{equal_where_tested}
use Rattle.po_lists.proofs.Options.{option_cases}
use Rattle.po_symbols.specs.Names.{named, listed}
use Rattle.po_symbols.specs.Causes.{IsPairOf, IsFound}
use Rattle.po_symbols.specs.declared.causes.Cause.{Cause}

abbrev pub Name : Type 0
Name = List ℕ

-- keys behind another are above it
sorted_behind : {X : Type 0} (c : Name → Name → Ordering) (before : List (Name × X)) (e : Name × X) (rest : List (Name × X)) (x : Name × X) → IsStrictlySortedBy c (keys_of (before ++ e ∷ rest)) → Contains rest x → c e.0 x.0 ≡ Less
sorted_behind c [] e rest x s k = All-contains (λ y. c e.0 y ≡ Less) (keys_of rest) x.0 (All-from_recursion _ (keys_of rest) (sorted_head c e.0 (keys_of rest) s)) (contains_map (λ z. z.0) rest x k)
sorted_behind c (y ∷ ys) e rest x s k = sorted_behind c ys e rest x (sorted_tail c y.0 (keys_of (ys ++ e ∷ rest)) s) k

self_equal : (r : Ordering) → r ≡ ordering_reverse r → r ≡ Equal
self_equal Less h = absurd (cc)
self_equal Equal h = refl
self_equal Greater h = absurd (cc)

-- the entries so far have no pair
pub record Searched {X : Type 0} (pick : List X → Option (ℕ × ℕ)) (all rest : List (Name × List X)) : Type 0 where
  pub before : List (Name × List X)
  pub split : before ++ rest ≡ all
  pub none : (e : Name × List X) → Contains before e → pick e.1 ≡ None

pub searched_none : {X : Type 0} (pick : List X → Option (ℕ × ℕ)) (all rest : List (Name × List X)) → rest ≡ all → Searched pick all rest
searched_none pick all rest h = record { before = []; split = h; none = λ e c. absurd (contains_none e c) }

pub searched_more : {X : Type 0} (pick : List X → Option (ℕ × ℕ)) (all rest next : List (Name × List X)) (e : Name × List X) → Searched pick all rest → rest ≡ e ∷ next → pick e.1 ≡ None → Searched pick all next
searched_more {X = X} pick all rest next e s h none = record {
  before = s.before ++ e ∷ [];
  split = append_assoc s.before (e ∷ []) next ∙ ap (λ z. s.before ++ z) (sym h) ∙ s.split;
  none = λ x c. elim (Contains-append_cases s.before (e ∷ []) x c) [
    | inl a ↦ s.none x a
    | inr b ↦ elim (contains_cases e [] x b) [ inl same ↦ subst (λ (z : Name × List X). pick z.1 ≡ None) same none | inr n ↦ absurd (contains_none x n) ]
  ];
}

module _ {X : Type 0} (pick : List X → Option (ℕ × ℕ)) (P : Name → ℕ → ℕ → Type 0) (m : BTreeMap Name (List X)) (nothing : pick [] ≡ None) (is : (q : Name) → IsPairOf (P q) (pick (listed m q))) where
  -- a name that has a pair has an entry
  entry_of : (q : Name) (a b : ℕ) → P q a b → (v : List X) × Contains m.entries (q, v) × (pick v ≢ None)
  entry_of q a b p = elim (option_cases (named m q)) [
    | inl none ↦
        let empty : pick (listed m q) ≡ None = ap (λ o. pick (unwrap_or o [])) none ∙ nothing in
        absurd (subst (IsPairOf (P q)) empty (is q) a b p)
    | inr s ↦
        let place = place_from_lookup (is_at (slice_cmp nat_cmp q)) m.entries s.0 s.1 in
        let key : q ≡ place.1 = exact_bytes q place.1 (equal_where_tested _ place.3) in (
          s.0,
          subst (λ k. Contains m.entries (k, s.0)) (sym key) (contains_item m.entries place.0 (place.1, s.0) place.2),
          λ none. let empty : pick (listed m q) ≡ None = ap (λ o. pick (unwrap_or o [])) s.1 ∙ none in subst (IsPairOf (P q)) empty (is q) a b p,
        )
  ]

  pub nothing_found : (rest : List (Name × List X)) → Searched pick m.entries rest → rest ≡ [] → IsFound P None
  nothing_found rest s h q a b p =
      let e = entry_of q a b p in
      let all : s.before ≡ m.entries = sym (append-nil s.before) ∙ ap (λ z. s.before ++ z) (sym h) ∙ s.split in
      e.2 (s.none (q, e.0) (subst (λ l. Contains l (q, e.0)) (sym all) e.1))

  pub first_found : IsOrdered (slice_cmp nat_cmp) m → (rest next : List (Name × List X)) (name : Name) (files : List X) (pair : ℕ × ℕ) (cause : Cause) → Searched pick m.entries rest → rest ≡ (name, files) ∷ next → pick files ≡ Some pair →
      (cause.name ≡ name) × (cause.a.0 ≡ pair.0) × (cause.b.0 ≡ pair.1) → IsFound P (Some cause)
  first_found order rest next name files pair cause s h some made =
      let split : s.before ++ (name, files) ∷ next ≡ m.entries = ap (λ z. s.before ++ z) (sym h) ∙ s.split in
      let at : slice_get m.entries (length s.before) ≡ Some (name, files) = subst (λ l. slice_get l (length s.before) ≡ Some (name, files)) split (behind_at s.before next (name, files)) in
      let there : named m name ≡ Some files = btree_map_get_place nat_list_cmp_total m (length s.before) name files order at in
      let picked : pick (listed m name) ≡ Some pair = ap (λ o. pick (unwrap_or o [])) there ∙ some in
      let least : IsPairOf (P name) (Some pair) = subst (IsPairOf (P name)) picked (is name) in
      let sorted = subst (λ l. IsStrictlySortedBy (slice_cmp nat_cmp) (keys_of l)) (sym split) order in
      record {
        least = rw (made.0, made.1, made.2) least;
        least_name = λ other a b p greater.
            let e = entry_of other a b p in
            let above : slice_cmp nat_cmp name other ≡ Greater = subst (λ z. slice_cmp nat_cmp z other ≡ Greater) made.0 greater in
            elim (Contains-append_cases s.before ((name, files) ∷ next) (other, e.0) (subst (λ l. Contains l (other, e.0)) (sym split) e.1)) [
              | inl before ↦ e.2 (s.none (other, e.0) before)
              | inr behind ↦ elim (contains_cases (name, files) next (other, e.0) behind) [
                | inl same ↦
                    let key : name ≡ other = ap (λ (z : Name × List X). z.0) same in
                    let equal : slice_cmp nat_cmp name other ≡ Equal = subst (λ z. slice_cmp nat_cmp name z ≡ Equal) key (self_equal (slice_cmp nat_cmp name name) (nat_list_cmp_total.antisymm name name)) in
                    absurd (cc)
                | inr later ↦ let less : slice_cmp nat_cmp name other ≡ Less = sorted_behind (slice_cmp nat_cmp) s.before (name, files) next (other, e.0) sorted later in absurd (cc)
              ]
            ];
      }
