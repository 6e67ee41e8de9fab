-- Signs of parameters and headings, and how they are read from the front.
use Rattle.std.proofs.Common.{◌≡◌, ℕ, suc, zero, ◌+◌, ◌<◌, ◌≤◌, List, [], ◌∷◌, ◌++◌, length, drop, ap, sym, ◌∙◌, refl, arith}
use Rattle.std.specs.Prelude.{Contains}
use Rattle.std.specs.List.{flat_map}
use Rattle.po_straight.specs.declared.lexeme.Sign.{Sign}
use Rattle.po_straight.specs.declared.lexeme.Sign.TheVariants as s
use Rattle.po_straight.specs.declared.lexeme.Lexeme.{Lexeme}
use Rattle.po_straight.specs.Distinct.{AllDiffer}
use Rattle.po_straight.specs.Definitions.{signs, parameter_signs}
use Rattle.po_straight.specs.Outline.{Begins, Leads, with_commas}
use Rattle.po_straight.proofs.Placing.{differ_twice}

pub drop_next : {X : Type 0} (xs : List X) (at : ℕ) (y : X) (ys : List X) → drop at xs ≡ y ∷ ys → (ys ≡ drop (at + 1) xs) × (at < length xs)
drop_next [] zero y ys e = absurd (cc)
drop_next [] (suc at) y ys e = absurd (cc)
drop_next {X} (x ∷ xs) zero y ys e =
    let q : xs ≡ ys = cc in (sym q, omega arith)
drop_next {X} (x ∷ xs) (suc at) y ys e =
    let r = drop_next xs at y ys e in
    let q : suc at + 1 ≡ suc (at + 1) = omega arith in
    (rw q r.0, omega arith)

-- a sign that stands at a place
pub begins : (x : Sign) (xs : List Lexeme) (at : ℕ) → Begins x (drop at xs) → Leads (x ∷ []) (drop at xs) (drop (at + 1) xs) × (at < length xs)
begins x xs at h = first (drop at xs) refl h
  where
    first : (ys : List Lexeme) → drop at xs ≡ ys → Begins x ys → Leads (x ∷ []) ys (drop (at + 1) xs) × (at < length xs)
    first [] e b = elim b [ ]
    first (y ∷ ys) e b =
        let r = drop_next xs at y ys e in
        (ap (λ v. v ∷ signs ys) b ∙ ap (λ v. x ∷ signs v) r.0, r.1)

-- and one that doesn't
pub begins_not : (x : Sign) (ys : List Lexeme) (left : List Sign) → (Begins x ys → ⊥) → signs ys ≡ x ∷ left → ⊥
begins_not x [] left h e = cc
begins_not x (y ∷ ys) left h e = let q : y.sign ≡ x = cc in h q

-- a comma and a parameter, for each
abbrev pub commas : List (List ℕ) → List Sign
commas ps = flat_map (λ q. s.Comma ∷ (s.Int ∷ (s.Name q ∷ []))) ps

commas_last : (ps : List (List ℕ)) (q : List ℕ) (l : List Sign) → s.Comma ∷ (with_commas ps ++ (s.Int ∷ (s.Name q ∷ l))) ≡ commas (ps ++ q ∷ []) ++ l
commas_last [] q l = refl
commas_last (p ∷ ps) q l = ap (λ v. s.Comma ∷ (s.Int ∷ (s.Name p ∷ v))) (commas_last ps q l)

-- the parameters with a comma behind each, and one more without
pub last_parameter : (ps : List (List ℕ)) (q : List ℕ) (l : List Sign) → with_commas ps ++ (s.Int ∷ (s.Name q ∷ l)) ≡ parameter_signs (ps ++ q ∷ []) ++ l
last_parameter [] q l = refl
last_parameter (p ∷ ps) q l = ap (λ v. s.Int ∷ (s.Name p ∷ v)) (commas_last ps q l)

-- and one more with its comma
pub next_parameter : (ps : List (List ℕ)) (q : List ℕ) (l : List Sign) → with_commas ps ++ (s.Int ∷ (s.Name q ∷ (s.Comma ∷ l))) ≡ with_commas (ps ++ q ∷ []) ++ l
next_parameter [] q l = refl
next_parameter (p ∷ ps) q l = ap (λ v. s.Int ∷ (s.Name p ∷ (s.Comma ∷ v))) (next_parameter ps q l)

-- what is still to be read of parameters, behind those that were read with their commas
pub record Goes (ps qs : List (List ℕ)) (rest m : List Sign) : Type 0 where
  pub next : List ℕ
  pub others : List (List ℕ)
  pub here : rest ≡ s.Int ∷ (s.Name next ∷ (commas others ++ (s.Close ∷ m)))
  pub all : qs ≡ ps ++ (next ∷ others)

goes : (ps : List (List ℕ)) (q : List ℕ) (qs : List (List ℕ)) (rest m : List Sign) →
    s.Int ∷ (s.Name q ∷ (commas qs ++ (s.Close ∷ m))) ≡ with_commas ps ++ rest → Goes ps (q ∷ qs) rest m
goes [] q qs rest m e = record { next = q; others = qs; here = sym e; all = refl }
goes (p ∷ ps) q [] rest m e =
    let r : s.Close ∷ m ≡ s.Comma ∷ (with_commas ps ++ rest) = cc in absurd (cc)
goes (p ∷ ps) q (r ∷ qs) rest m e =
    let same : q ≡ p = cc in
    let tail : s.Int ∷ (s.Name r ∷ (commas qs ++ (s.Close ∷ m))) ≡ with_commas ps ++ rest = cc in
    let g = goes ps r qs rest m tail in
    record { next = g.next; others = g.others; here = g.here; all = ap (λ v. v ∷ (r ∷ qs)) same ∙ ap (λ v. p ∷ v) g.all }

pub goes_on : (ps qs : List (List ℕ)) (ts rest m : List Sign) → ((left : List Sign) → ts ≡ s.Void ∷ left → ⊥) → ts ≡ with_commas ps ++ rest →
    ts ≡ parameter_signs qs ++ (s.Close ∷ m) → Goes ps qs rest m
goes_on ps [] ts rest m not_void e h = absurd (not_void (s.Close ∷ m) h)
goes_on ps (q ∷ qs) ts rest m not_void e h = goes ps q qs rest m (sym h ∙ e)

-- no parameters: the next one isn't there
pub no_parameter : (ps qs : List (List ℕ)) (ts rest m : List Sign) → ((left : List Sign) → ts ≡ s.Void ∷ left → ⊥) → ts ≡ with_commas ps ++ rest →
    ((name : List ℕ) (left : List Sign) → rest ≡ s.Int ∷ (s.Name name ∷ left) → ⊥) → ts ≡ parameter_signs qs ++ (s.Close ∷ m) → ⊥
no_parameter ps qs ts rest m not_void e none h =
    let g = goes_on ps qs ts rest m not_void e h in none g.next (commas g.others ++ (s.Close ∷ m)) g.here

-- no parameters: the next one was there before
pub parameter_twice : (ps qs : List (List ℕ)) (name : List ℕ) (ts rest m : List Sign) → ((left : List Sign) → ts ≡ s.Void ∷ left → ⊥) →
    ts ≡ with_commas ps ++ (s.Int ∷ (s.Name name ∷ rest)) → Contains ps name → AllDiffer qs → ts ≡ parameter_signs qs ++ (s.Close ∷ m) → ⊥
parameter_twice ps qs name ts rest m not_void e there differ h =
    let g = goes_on ps qs ts (s.Int ∷ (s.Name name ∷ rest)) m not_void e h in
    let same : name ≡ g.next = let q = g.here in cc in
    differ_twice ps g.others g.next (rw same at there) (rw g.all at differ)

pub at_two : (xs : List Lexeme) (at : ℕ) → drop (at + 1 + 1) xs ≡ drop (at + 2) xs
at_two xs at = let e : at + 1 + 1 ≡ at + 2 = omega arith in ap (λ n. drop n xs) e

pub two_signs : (x y : Sign) (xs : List Lexeme) (at : ℕ) → Begins x (drop at xs) → Begins y (drop (at + 1) xs) →
    Leads (x ∷ (y ∷ [])) (drop at xs) (drop (at + 2) xs) × (at + 2 ≤ length xs)
two_signs x y xs at h g =
    let a = begins x xs at h in
    let b = begins y xs (at + 1) g in
    (a.0 ∙ ap (λ v. x ∷ v) b.0 ∙ ap (λ v. x ∷ (y ∷ signs v)) (at_two xs at), omega (arith, b.1))

pub second_not : (x y : Sign) (xs : List Lexeme) (at : ℕ) (left : List Sign) → Begins x (drop at xs) → (Begins y (drop (at + 1) xs) → ⊥) →
    signs (drop at xs) ≡ x ∷ (y ∷ left) → ⊥
second_not x y xs at left h none e =
    let a = begins x xs at h in
    let q : x ∷ signs (drop (at + 1) xs) ≡ x ∷ (y ∷ left) = sym a.0 ∙ e in
    let r : signs (drop (at + 1) xs) ≡ y ∷ left = cc in
    begins_not y (drop (at + 1) xs) left none r

-- `void` with a comma behind it begins no parameters
pub void_comma : (xs : List Lexeme) (at : ℕ) (ps : List (List ℕ)) (left : List Sign) → Begins s.Void (drop at xs) → Begins s.Comma (drop (at + 1) xs) →
    signs (drop at xs) ≡ parameter_signs ps ++ (s.Close ∷ left) → ⊥
void_comma xs at [] left h g e =
    let a = two_signs s.Void s.Comma xs at h g in
    let q : s.Void ∷ (s.Comma ∷ signs (drop (at + 2) xs)) ≡ s.Void ∷ (s.Close ∷ left) = sym a.0 ∙ e in cc
void_comma xs at (p ∷ ps) left h g e =
    let a = two_signs s.Void s.Comma xs at h g in
    let q = sym a.0 ∙ e in cc

-- one more parameter, with a comma behind it or without
pub grown_by : (ps grown : List (List ℕ)) (q : List ℕ) (ts us vs : List Lexeme) → grown ≡ ps ++ q ∷ [] →
    Leads (with_commas ps) ts us → Leads (s.Int ∷ (s.Name q ∷ [])) us vs → Leads (parameter_signs grown) ts vs
grown_by ps grown q ts us vs e h g = rw e (h ∙ ap (λ v. with_commas ps ++ v) g ∙ last_parameter ps q (signs vs))

pub grown_more : (ps grown : List (List ℕ)) (q : List ℕ) (ts us vs ws : List Lexeme) → grown ≡ ps ++ q ∷ [] →
    Leads (with_commas ps) ts us → Leads (s.Int ∷ (s.Name q ∷ [])) us vs → Leads (s.Comma ∷ []) vs ws → Leads (with_commas grown) ts ws
grown_more ps grown q ts us vs ws e h g k =
    rw e (h ∙ ap (λ v. with_commas ps ++ v) (g ∙ ap (λ v. s.Int ∷ (s.Name q ∷ v)) k) ∙ next_parameter ps q (signs ws))

abbrev pub NoVoid : List Lexeme → Type 0
NoVoid xs = (left : List Sign) → signs xs ≡ s.Void ∷ left → ⊥

pub no_void : (xs : List Lexeme) → (Begins s.Void xs → ⊥) → NoVoid xs
no_void xs h left e = begins_not s.Void xs left h e
