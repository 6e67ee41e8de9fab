-- One more name among names that have their places.
use Rattle.std.proofs.Common.{◌≡◌, ℕ, suc, zero, List, [], ◌∷◌, ◌++◌, length, ap, sym, ◌∙◌, refl, true, false, cond, inl, inr, arith}
use Rattle.std.specs.Prelude.{Option, Some, None, MatchOption, Contains, slice_get}
use Rattle.std.specs.Str.{bytes_eq}
use Rattle.std.specs.Ordering.{nat_cmp, is_eq}
use Rattle.std.specs.Cmp.Lexicographic.{slice_cmp}
use Rattle.std.proofs.lemmas.Map.Text.{is_eq-slice_cmp}
use Rattle.std.proofs.lemmas.Slice.Eq.{bytes_eq-Decides}
use Rattle.std.proofs.lemmas.List.Elements.{Contains-push_cases, Contains-append_left, Contains-append_right}
use Rattle.std.proofs.lemmas.List.{same_from_push}
use Rattle.po_straight.specs.Distinct.{AllDiffer}
use Rattle.po_straight.specs.Named.{ArePlaced}

pub get-last : {X : Type 0} (xs : List X) (x : X) → slice_get (xs ++ x ∷ []) (length xs) ≡ Some x
get-last [] x = refl
get-last (y ∷ ys) x = get-last ys x

pub get-front : {X : Type 0} (xs ys : List X) (n : ℕ) (x : X) → slice_get xs n ≡ Some x → slice_get (xs ++ ys) n ≡ Some x
get-front [] ys n x e = absurd (cc)
get-front (y ∷ xs) ys zero x e = e
get-front (y ∷ xs) ys (suc n) x e = get-front xs ys n x e

pub differ_push : (xs : List (List ℕ)) (x : List ℕ) → AllDiffer xs → (Contains xs x → ⊥) → AllDiffer (xs ++ x ∷ [])
differ_push [] x d new = ((λ h. omega (arith, h.1)), tt)
differ_push (y ∷ ys) x d new = (
  (λ h. elim (Contains-push_cases ys x y h) as (λ _. ⊥) [ inl k ↦ d.0 k | inr e ↦ new (0, omega arith, sym e) ]),
  differ_push ys x d.1 (λ h. new (suc h.0, omega (arith, h.1), h.2)),
)

-- the names at the front differ
pub differ_front : (xs ys : List (List ℕ)) → AllDiffer (xs ++ ys) → AllDiffer xs
differ_front [] ys d = tt
differ_front (x ∷ xs) ys d = ((λ h. d.0 (Contains-append_left xs ys x h)), differ_front xs ys d.1)

-- a name that stands before can't stand again
pub differ_twice : (xs ys : List (List ℕ)) (x : List ℕ) → Contains xs x → AllDiffer (xs ++ (x ∷ ys)) → ⊥
differ_twice [] ys x h d = omega (arith, h.1)
differ_twice (y ∷ xs) ys x (zero, in', e) d = d.0 (Contains-append_right xs (x ∷ ys) y (0, omega arith, sym e))
differ_twice (y ∷ xs) ys x (suc k, in', e) d = differ_twice xs ys x (k, omega arith, e) d.1

module _ (names grown : List (List ℕ)) (name : List ℕ) (longer : grown ≡ names ++ name ∷ []) where
  still : (q : List ℕ) → (name ≡ q → ⊥) → (o : Option ℕ) → MatchOption o (Contains names q → ⊥) (λ n. slice_get names n ≡ Some q) →
      MatchOption o (Contains grown q → ⊥) (λ n. slice_get grown n ≡ Some q)
  still q other None h = λ k. elim (Contains-push_cases names name q (rw longer at k)) as (λ _. ⊥) [ inl v ↦ h v | inr e ↦ other e ]
  still q other (Some n) h = rw longer (get-front names (name ∷ []) n q h)

  here : (q : List ℕ) (at : ℕ) → at ≡ length names → name ≡ q → slice_get grown at ≡ Some q
  here q at e same = rw (longer, e) (get-last names name ∙ ap Some same)

  pub placed_push : (old new : List ℕ → Option ℕ) (at : ℕ) → at ≡ length names → (Contains names name → ⊥) →
      ((q : List ℕ) → new q ≡ cond (is_eq (slice_cmp nat_cmp name q)) (Some at) (old q)) → ArePlaced names old → ArePlaced grown new
  placed_push old new at e fresh updated h = record {
    differ = rw longer (differ_push names name h.differ fresh);
    placed = λ q.
        let u : new q ≡ cond (bytes_eq name q) (Some at) (old q) = updated q ∙ ap (λ b. cond b (Some at) (old q)) (is_eq-slice_cmp name q) in
        rw u (elim (bytes_eq name q) as (λ b. bytes_eq name q ≡ b → MatchOption (cond b (Some at) (old q)) (Contains grown q → ⊥) (λ n. slice_get grown n ≡ Some q)) [
          | true ↦ (λ t. here q at e ((bytes_eq-Decides name q).0 t))
          | false ↦ (λ t. still q (λ same. absurd {A = ⊥} (cc ((bytes_eq-Decides name q).1 same))) (old q) (h.placed q))
        ] refl);
  }

-- a list is as it was when the item that was pushed last is taken away
pub popped : {X : Type 0} (names grown now : List X) (name : X) (last : Option X) → grown ≡ names ++ name ∷ [] →
    MatchOption last ((grown ≡ []) × (now ≡ [])) (λ l. grown ≡ now ++ l ∷ []) → now ≡ names
popped [] grown now name None e h = h.1
popped (x ∷ xs) grown now name None e h = absurd (let q : x ∷ (xs ++ name ∷ []) ≡ [] = sym e ∙ h.0 in cc)
popped names grown now name (Some l) e h = (same_from_push now names l name (sym h ∙ e)).0

pub placed_same : (names now : List (List ℕ)) (old new : List ℕ → Option ℕ) → now ≡ names → ((q : List ℕ) → new q ≡ old q) → ArePlaced names old → ArePlaced now new
placed_same names now old new e same h = record {
  differ = rw e h.differ;
  placed = λ q. rw (same q, e) (h.placed q);
}
