-- Arguments and the conversions of a format that read them, one by one.
use Rattle.std.proofs.Common.{◌≡◌, ℕ, suc, ◌+◌, ◌<◌, ◌≤◌, List, [], ◌∷◌, ◌++◌, length, drop, get_or, append_assoc, refl, ap, subst, arith}
use Rattle.std.proofs.lemmas.List.{drop_all, drop_more, append-nil}
use Rattle.po_arith.specs.declared.target.Target.{Target}
use Rattle.po_types.specs.declared.ctype.CType.{CType}
use Rattle.po_types.specs.declared.format.Spec.{Spec}
use Rattle.po_type_parts.specs.Converting.{PrintsAs}
use Rattle.po_type_calls.specs.Calling.{PrintsAll, prints_none, prints_one}
use Rattle.po_type_calls.proofs.Passed.{at_place}

module _ (target : Target) where
  -- what reads the first value and the others
  record First (g : Spec) (fs : List Spec) (v : CType) (vs : List CType) : Type 0 where
    conversion : CType
    others : List CType
    prints : PrintsAs target g v conversion
    behind : PrintsAll target fs vs others

  first : {g : Spec} {fs : List Spec} {v : CType} {vs bs : List CType} → PrintsAll target (g ∷ fs) (v ∷ vs) bs → First g fs v vs
  first (prints_one {a = a} {bs = bs} h r) = record { conversion = a; others = bs; prints = h; behind = r }

  as_many : {fs : List Spec} {vs bs : List CType} → PrintsAll target fs vs bs → length vs ≡ length fs
  as_many prints_none = refl
  as_many (prints_one h r) = ap suc (as_many r)

  module _ (fs : List Spec) (vs : List CType) where
    -- the values from a place on are printed
    abbrev From : ℕ → List CType → Type 0
    From i bs = PrintsAll target (drop i fs) (drop i vs) bs

    -- those before a place are converted to these
    pub record IsDone (i : ℕ) (done : List CType) : Type 0 where
      pub sound : (rest : List CType) → From i rest → PrintsAll target fs vs (done ++ rest)
      pub complete : (bs : List CType) → PrintsAll target fs vs bs → (rest : List CType) × From i rest

    pub begins : (none : List CType) → none ≡ [] → IsDone 0 none
    begins none q = record { sound = λ rest h. rw q h; complete = λ bs h. (bs, h) }

    pub other_count : (length vs ≡ length fs → ⊥) → (bs : List CType) → PrintsAll target fs vs bs → ⊥
    other_count n bs h = n (as_many h)

    pub ended : length vs ≡ length fs → (i : ℕ) → length fs ≤ i → (done : List CType) → IsDone i done → PrintsAll target fs vs done
    ended q i h done k = subst (PrintsAll target fs vs) (append-nil done) (k.sound [] (rw (drop_all i fs h, drop_all i vs (omega (arith, q, h))) prints_none))

    module _ (i : ℕ) (d : Spec) (v : CType) (a : i < length fs) (b : i < length vs) (q : v ≡ get_or vs i v) where
      to : (conversion : CType) (rest : List CType) → PrintsAs target (get_or fs i d) v conversion → From (i + 1) rest → From i (conversion ∷ rest)
      to conversion rest h k = rw (drop_more fs i d a, at_place vs i v b q) (prints_one h k)

      of : (bs : List CType) → From i bs → First (get_or fs i d) (drop (i + 1) fs) v (drop (i + 1) vs)
      of bs h =
          let h1 = subst (λ z. PrintsAll target z (drop i vs) bs) (drop_more fs i d a) h in
          first (subst (λ z. PrintsAll target (get_or fs i d ∷ drop (i + 1) fs) z bs) (at_place vs i v b q) h1)

      pub printed_on : (conversion : CType) (done more : List CType) → PrintsAs target (get_or fs i d) v conversion → more ≡ done ++ conversion ∷ [] → IsDone i done → IsDone (i + 1) more
      printed_on conversion done more h e k = record {
        sound = λ rest r. rw (e, append_assoc) (k.sound (conversion ∷ rest) (to conversion rest h r));
        complete = λ bs r. let w = k.complete bs r in let f = of w.0 w.1 in (f.others, f.behind);
      }

      pub stopped : ((conversion : CType) → PrintsAs target (get_or fs i d) v conversion → ⊥) → (done : List CType) → IsDone i done → (bs : List CType) → PrintsAll target fs vs bs → ⊥
      stopped n done k bs h = let w = k.complete bs h in let f = of w.0 w.1 in n f.conversion f.prints
