-- Marks that are changed one after the other.
use Rattle.std.proofs.Common.{◌≡◌, ◌⊎◌, ℕ, suc, ◌+◌, ◌<◌, ◌≤◌, List, [], ◌∷◌, ◌++◌, length, map, take, drop, get_or, set, refl, sym, ◌∙◌, ap, subst, inl, inr, arith, get_or-set_same, get_or-set_other}
use Rattle.std.specs.Prelude.{◌↔◌}
use Rattle.std.specs.List.{Contains}
use Rattle.std.proofs.lemmas.Bool.{cases_eq}
use Rattle.std.proofs.lemmas.List.{get_or_default, length-map, take_at}
use Rattle.std.proofs.lemmas.List.Elements.{Contains-get_or}
use Rattle.po_core.specs.declared.event.Mark.{Mark}
use Rattle.po_core.specs.declared.obl.Obl.{Obl}
use Rattle.po_ledger.specs.Parts.{AreRemarked}
use Rattle.po_ledger.proofs.Lists.{both_along}
use Rattle.ledger_tests.specs.Walks.{IsMarkAfter}

-- the keys of lists that agree in them at each place
keys_same : {P N : Type 0} (xs ys : List (Obl P × Mark P N)) → length ys ≡ length xs → ((k : ℕ) (d : Obl P × Mark P N) → k < length xs → (get_or ys k d).0 ≡ (get_or xs k d).0) → map (λ e. e.0) ys ≡ map (λ e. e.0) xs
keys_same [] [] l h = refl
keys_same [] (y ∷ ys) l h = absurd (omega arith)
keys_same (x ∷ xs) [] l h = absurd (omega arith)
keys_same {P} (x ∷ xs) (y ∷ ys) l h =
    let first : y.0 ≡ x.0 = h 0 x (omega arith) in
    let rest = keys_same xs ys (omega arith) (λ k d lt. h (suc k) d (omega arith)) in
    ap (λ (z : Obl P). z ∷ map (λ e. e.0) ys) first ∙ ap (λ (z : List (Obl P)). x.0 ∷ z) rest

module _ {P N : Type 0} (W : Obl P → Type 0) (from to : Mark P N) where
  abbrev pub Becomes : (Obl P × Mark P N) → (Obl P × Mark P N) → Type 0
  Becomes x y = (y.0 ≡ x.0) × IsMarkAfter W from to x.0 x.1 y.1

  -- the marks below i are changed, and the others are as they were
  pub record IsChangedTo (old now : List (Obl P × Mark P N)) (i : ℕ) : Type 0 where
    pub done : (k : ℕ) (d : Obl P × Mark P N) → k < i → Becomes (get_or old k d) (get_or now k d)
    pub left : (k : ℕ) (d : Obl P × Mark P N) → i ≤ k → get_or now k d ≡ get_or old k d

  pub changed_more : (old now : List (Obl P × Mark P N)) (i : ℕ) (e : Obl P × Mark P N) (m : Mark P N) → i < length old → length now ≡ length old → IsChangedTo old now i → e ≡ get_or now i e → IsMarkAfter W from to e.0 e.1 m → IsChangedTo old (set now i (e.0, m)) (i + 1)
  changed_more old now i e m l same h is after =
      let v : Obl P × Mark P N = (e.0, m) in
      let within : i < length now = omega (arith, same) in
      record {
        done = λ k d lt. elim (cases_eq k i) [
          | inl q ↦ (
              let x : e ≡ get_or old k d = is ∙ (get_or_default now i e d within ∙ (h.left i d (omega arith) ∙ ap (λ (j : ℕ). get_or old j d) (sym q))) in
              let y : v ≡ get_or (set now i v) k d = sym (get_or-set_same now i v d within) ∙ ap (λ (j : ℕ). get_or (set now i v) j d) (sym q) in
              both_along Becomes x y (refl, after)
              )
          | inr ne ↦ (
              let y : get_or now k d ≡ get_or (set now i v) k d = sym (get_or-set_other now i k v d ne) in
              let below : k < i = (let other : k ≡ i → ⊥ = ne in omega arith) in
              both_along Becomes refl y (h.done k d below)
              )
        ];
        left = λ k d le. get_or-set_other now i k v d (λ q. let is : k ≡ i = q in omega arith) ∙ h.left k d (omega arith);
      }

  module _ (xs ys : List (Obl P × Mark P N)) (same : length ys ≡ length xs) (each : (k : ℕ) (d : Obl P × Mark P N) → k < length xs → Becomes (get_or xs k d) (get_or ys k d)) where
    changed_back : (o : Obl P) (m : Mark P N) → Contains ys (o, m) → ((m ≡ to) × Contains xs (o, from) × W o) ⊎ (Contains xs (o, m) × ¬ ((m ≡ from) × W o))
    changed_back o m k =
        let d : Obl P × Mark P N = (o, m) in
        let x : Obl P × Mark P N = get_or xs k.0 d in
        let within : k.0 < length xs = (let l = k.1 in let s = same in omega arith) in
        let e : Becomes x (get_or ys k.0 d) = each k.0 d within in
        let there : Contains xs x = Contains-get_or xs k.0 d within in
        let first : x.0 ≡ o = sym e.0 ∙ ap (λ (z : Obl P × Mark P N). z.0) k.2 in
        let second : (get_or ys k.0 d).1 ≡ m = ap (λ (z : Obl P × Mark P N). z.1) k.2 in
        elim e.1 [
          | inl c ↦ inl (
            sym second ∙ c.1,
            subst (λ (z : Obl P). Contains xs (z, from)) first (subst (λ (z : Mark P N). Contains xs (x.0, z)) c.0.0 there),
            subst (λ (z : Obl P). W z) first c.0.1,
          )
          | inr c ↦ (
              let stays : x.1 ≡ m = sym c.1 ∙ second in
              inr (
                subst (λ (z : Obl P). Contains xs (z, m)) first (subst (λ (z : Mark P N). Contains xs (x.0, z)) stays there),
                λ w. c.0 (stays ∙ w.0, subst (λ (z : Obl P). W z) (sym first) w.1),
              )
              )
        ]

    -- the entry that one becomes
    changed_forth : (o : Obl P) (n : Mark P N) → Contains xs (o, n) → (m : Mark P N) × Contains ys (o, m) × IsMarkAfter W from to o n m
    changed_forth o n k =
        let d : Obl P × Mark P N = (o, n) in
        let y : Obl P × Mark P N = get_or ys k.0 d in
        let e : Becomes d y = subst (λ (z : Obl P × Mark P N). Becomes z y) k.2 (each k.0 d k.1) in
        let within : k.0 < length ys = (let l = k.1 in let s = same in omega arith) in
        (y.1, subst (λ (z : Obl P). Contains ys (z, y.1)) e.0 (Contains-get_or ys k.0 d within), e.1)

    pub changed_is : AreRemarked W from to xs ys
    changed_is = record {
      keys = keys_same xs ys same (λ k d lt. (each k d lt).0);
      marks = λ o m. (
        changed_back o m,
        λ c. elim c [
          | inl k ↦ (let f = changed_forth o from k.1 in elim f.2 [
            | inl x ↦ subst (λ (z : Mark P N). Contains ys (o, z)) (x.1 ∙ sym k.0) f.1
            | inr x ↦ absurd (x.0 (refl, k.2))
          ])
          | inr k ↦ (let f = changed_forth o m k.0 in elim f.2 [
            | inl x ↦ absurd (k.1 x.0)
            | inr x ↦ subst (λ (z : Mark P N). Contains ys (o, z)) x.1 f.1
          ])
        ],
      );
    }

  pub changed_all : (old now : List (Obl P × Mark P N)) (i : ℕ) → length old ≤ i → length now ≡ length old → IsChangedTo old now i → AreRemarked W from to old now
  changed_all old now i l same h = changed_is old now same (λ k d lt. h.done k d (omega arith))

-- what is meant can be said in another way
pub remarked_as : {P N : Type 0} (W V : Obl P → Type 0) (from to : Mark P N) (old new : List (Obl P × Mark P N)) → ((o : Obl P) → Contains old (o, from) → W o ↔ V o) → AreRemarked W from to old new → AreRemarked V from to old new
remarked_as {P} {N} W V from to old new alike r = record {
  keys = r.keys;
  marks = λ o m. (
    λ h. elim ((r.marks o m).0 h) [
      | inl x ↦ inl (x.0, x.1, (alike o x.1).0 x.2)
      | inr x ↦ inr (x.0, λ w. x.1 (w.0, (alike o (subst (λ (z : Mark P N). Contains old (o, z)) w.0 x.0)).1 w.1))
    ],
    λ h. (r.marks o m).1 (elim h [
      | inl x ↦ inl (x.0, x.1, (alike o x.1).1 x.2)
      | inr x ↦ inr (x.0, λ w. x.1 (w.0, (alike o (subst (λ (z : Mark P N). Contains old (o, z)) w.0 x.0)).0 w.1))
    ]),
  );
}

-- marks that were lent as a slice, as they are written back
pub written : {P N : Type 0} (W : Obl P → Type 0) (from to : Mark P N) (old slice new : List (Obl P × Mark P N)) (n : ℕ) → slice ≡ old → length slice ≡ n → AreRemarked W from to slice new → AreRemarked W from to old (take n (new ++ drop (length new) old))
written {P} {N} W from to old slice new n same many r =
    let key : (Obl P × Mark P N) → Obl P = λ e. e.0 in
    let long : length new ≡ length slice = sym (length-map new key) ∙ (ap length r.keys ∙ length-map slice key) in
    let back : take n (new ++ drop (length new) old) ≡ new = take_at new (drop (length new) old) n (long ∙ many) in
    subst (λ (z : List (Obl P × Mark P N)). AreRemarked W from to old z) (sym back) (subst (λ (z : List (Obl P × Mark P N)). AreRemarked W from to z new) same r)
