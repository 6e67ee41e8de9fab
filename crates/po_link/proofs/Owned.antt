-- A loop that takes the items of a list one after the other.
use Rattle.std.proofs.Common.{◌≡◌, ℕ, ◌+◌, List, [], ◌∷◌, ◌++◌, length, refl, ap, sym, ◌∙◌, append_assoc, append-nil, arith}

nothing_left : {X : Type 0} (l : List X) → length l ≡ 0 → l ≡ []
nothing_left [] h = refl
nothing_left (x ∷ xs) h = absurd (omega arith)

pub taken_more : {X : Type 0} (taken : List X) (x : X) (left rest all : List X) → taken ++ left ≡ all → left ≡ x ∷ rest → (taken ++ x ∷ []) ++ rest ≡ all
taken_more taken x left rest all h step = append_assoc taken (x ∷ []) rest ∙ ap (λ l. taken ++ l) (sym step) ∙ h

pub shorter : {X : Type 0} (x : X) (left rest : List X) (n m : ℕ) → n ≡ length left → left ≡ x ∷ rest → n ≡ m + 1 → m ≡ length rest
shorter x left rest n m long step next = let e = ap length step in omega arith

pub taken_all : {X : Type 0} (taken left all : List X) (n : ℕ) → taken ++ left ≡ all → n ≡ length left → n ≡ 0 → taken ≡ all
taken_all taken left all n h long none = sym (append-nil taken) ∙ ap (λ l. taken ++ l) (sym (nothing_left left (sym long ∙ none))) ∙ h
