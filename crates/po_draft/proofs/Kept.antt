-- Temporaries stay kept by their types.
use Rattle.std.proofs.Common.{◌≡◌, ◌≢◌, ℕ, zero, suc, ◌+◌, ◌<◌, ◌≤◌, List, [], ◌∷◌, ◌++◌, length, length-append, get_or, length-set, refl, sym, ap, ◌∙◌, subst, arith, inl, inr}
use Rattle.std.specs.Prelude.{Some, Contains, slice_get, slice_set}
use Rattle.std.proofs.lemmas.Bool.{cases_lt, cases_eq}
use Rattle.std.proofs.lemmas.Option.{slice_get_within, get_or_from_slice_get}
use Rattle.std.proofs.lemmas.List.Elements.{Contains-append_left, Contains-push, Contains-push_cases}
use Rattle.po_lists.proofs.Places.{kept_at, behind_at, pushed_cases, set_here, set_elsewhere}
use Rattle.po_lists.proofs.Members.{contains_none}
use Rattle.po_lists.proofs.Options.{one_some}
use Rattle.po_ir.specs.declared.instr.Ty.{Ty}
use Rattle.po_ir.specs.declared.graph.Reg.{Reg as Register}
use Rattle.po_lowering.specs.Temporaries.{temporary}
use Rattle.po_draft.specs.declared.registers.Kind.{Kind}
use Rattle.po_draft.specs.Kinds.{IsKept, IsKindAt, AreKept, IsMissing, IsUsed, IsFreedAt}

abbrev pub one_type : (t u : Ty) → temporary t ≡ temporary u → t ≡ u
one_type t u q = ap (λ (x : Register). x.ty) q

-- ---- a register more

kept_more : (regs : List Register) (taken : List ℕ) (x : Kind) (reg : Register) → reg ≢ temporary x.ty → IsKept regs taken x → IsKept (regs ++ reg ∷ []) taken x
kept_more regs taken x reg n h =
    record {
      within = h.within;
      rises = h.rises;
      there = λ i r e. kept_at regs (reg ∷ []) r (temporary x.ty) (h.there i r e);
      all = λ r e. elim (pushed_cases regs reg r (temporary x.ty) e) [ inl a ↦ h.all r a | inr b ↦ absurd (n b.1) ];
      used_taken = h.used_taken;
      taken_used = h.taken_used;
    }

-- a register that is no temporary
pub kept_plain : (regs : List Register) (taken : List ℕ) (kinds : List Kind) (reg : Register) → (reg ≡ temporary reg.ty → ⊥) → AreKept regs taken kinds → AreKept (regs ++ reg ∷ []) taken kinds
kept_plain regs taken kinds reg n h =
    record {
      each = λ k x e. kept_more regs taken x reg (λ q. n (q ∙ ap temporary (sym (ap (λ (r : Register). r.ty) q)))) (h.each k x e);
      apart = h.apart;
      all = λ r ty e. elim (pushed_cases regs reg r (temporary ty) e) [ inl a ↦ h.all r ty a | inr b ↦ absurd (n (b.1 ∙ ap temporary (sym (ap (λ (r : Register). r.ty) b.1)))) ];
      taken_there = λ r c. omega (arith, h.taken_there r c, length-append regs (reg ∷ []));
    }

-- the number of a new temporary stands at the end of its kind
pub record IsNotedAt (k number : ℕ) (kinds kinds' : List Kind) : Type 0 where
  pub kind : Kind
  pub stands : slice_get kinds k ≡ Some kind
  pub here : slice_get kinds' k ≡ Some (record kind { numbers = kind.numbers ++ number ∷ [] })
  pub others : (j : ℕ) → j ≢ k → slice_get kinds' j ≡ slice_get kinds j

-- what is read at a place stands there
pub is_read : {X : Type 0} (xs : List X) (k : ℕ) (x y : X) → slice_get xs k ≡ Some y → x ≡ get_or xs k x → x ≡ y
is_read xs k x y e q = q ∙ get_or_from_slice_get xs k y x e

pub noted_set : (kinds : List Kind) (k number : ℕ) (x y : Kind) (numbers : List ℕ) → slice_get kinds k ≡ Some y → x ≡ get_or kinds k x → numbers ≡ x.numbers ++ number ∷ [] →
    IsNotedAt k number kinds (slice_set kinds k (record { ty = x.ty; numbers = numbers; used = x.used }))
noted_set kinds k number x y numbers e read q =
    let stands : slice_get kinds k ≡ Some x = e ∙ ap Some (sym (is_read kinds k x y e read)) in
    let new : Kind = record { ty = x.ty; numbers = numbers; used = x.used } in
    let same : new ≡ record x { numbers = x.numbers ++ number ∷ [] } = rw q refl in
    record { kind = x; stands = stands; here = set_here kinds k new (slice_get_within kinds k x stands) ∙ ap Some same; others = λ j d. set_elsewhere kinds k j new d }

noted_here : (regs : List Register) (taken : List ℕ) (x : Kind) (number : ℕ) → number ≡ length regs → ((r : ℕ) → Contains taken r → r < length regs) → IsKept regs taken x →
    IsKept (regs ++ temporary x.ty ∷ []) taken (record x { numbers = x.numbers ++ number ∷ [] })
noted_here regs taken x number size among h =
    record {
      within = omega (arith, h.within, length-append x.numbers (number ∷ []));
      rises = λ i j q r lt ei ej. elim (pushed_cases x.numbers number i q ei) [
        | inl a ↦ elim (pushed_cases x.numbers number j r ej) [
          | inl b ↦ h.rises i j q r lt a b
          | inr b ↦ omega (arith, size, b.1, slice_get_within regs q (temporary x.ty) (h.there i q a))
        ]
        | inr a ↦ elim (pushed_cases x.numbers number j r ej) [
          | inl b ↦ absurd (omega (arith, a.0, lt, slice_get_within x.numbers j r b))
          | inr b ↦ absurd (omega (arith, a.0, b.0, lt))
        ]
      ];
      there = λ i r e. elim (pushed_cases x.numbers number i r e) [
        | inl a ↦ kept_at regs (temporary x.ty ∷ []) r (temporary x.ty) (h.there i r a)
        | inr b ↦ subst (λ n. slice_get (regs ++ temporary x.ty ∷ []) n ≡ Some (temporary x.ty)) (sym size ∙ b.1) (behind_at regs [] (temporary x.ty))
      ];
      all = λ r e. elim (pushed_cases regs (temporary x.ty) r (temporary x.ty) e) [
        | inl a ↦ let found = h.all r a in (found.0, kept_at x.numbers (number ∷ []) found.0 r found.1)
        | inr b ↦ (length x.numbers, behind_at x.numbers [] number ∙ ap Some (size ∙ sym b.0))
      ];
      used_taken = λ i r e lt. elim (pushed_cases x.numbers number i r e) [ inl a ↦ h.used_taken i r a lt | inr b ↦ absurd (omega (arith, b.0, lt, h.within)) ];
      taken_used = λ i r e c. elim (pushed_cases x.numbers number i r e) [ inl a ↦ h.taken_used i r a c | inr b ↦ absurd (omega (arith, size, b.1, among r c)) ];
    }

-- a kind and the one that stands at its place afterwards have one type
before_noted : (k number j : ℕ) (kinds kinds' : List Kind) (x : Kind) → IsNotedAt k number kinds kinds' → slice_get kinds' j ≡ Some x → (y : Kind) × (slice_get kinds j ≡ Some y) × (y.ty ≡ x.ty)
before_noted k number j kinds kinds' x n e = elim (cases_eq j k) [
  | inl q ↦ (n.kind, ap (slice_get kinds) q ∙ n.stands, ap (λ (z : Kind). z.ty) (one_some n.here (ap (slice_get kinds') (sym q) ∙ e)))
  | inr d ↦ (x, sym (n.others j d) ∙ e, refl)
]

pub kept_noted : (regs : List Register) (taken : List ℕ) (kinds kinds' : List Kind) (k number : ℕ) (ty : Ty) → IsNotedAt k number kinds kinds' → IsKindAt kinds k ty → number ≡ length regs → AreKept regs taken kinds →
    AreKept (regs ++ temporary ty ∷ []) taken kinds'
kept_noted regs taken kinds kinds' k number ty n at size h =
    let same : n.kind ≡ at.0 = one_some n.stands at.1 in
    let of_type : n.kind.ty ≡ ty = ap (λ (z : Kind). z.ty) same ∙ at.2 in
    record {
      each = λ j x e. elim (cases_eq j k) [
        | inl q ↦
            let here = one_some n.here (ap (slice_get kinds') (sym q) ∙ e) in
            subst (λ z. IsKept (regs ++ temporary ty ∷ []) taken z) here
            (subst (λ z. IsKept (regs ++ temporary z ∷ []) taken (record n.kind { numbers = n.kind.numbers ++ number ∷ [] })) of_type
            (noted_here regs taken n.kind number size h.taken_there (h.each k n.kind n.stands)))
        | inr d ↦
            let old = sym (n.others j d) ∙ e in
            kept_more regs taken x (temporary ty) (λ q. d (h.apart j k x n.kind old n.stands (sym (one_type ty x.ty q) ∙ sym of_type))) (h.each j x old)
      ];
      apart = λ i j x y ex ey q.
          let a = before_noted k number i kinds kinds' x n ex in
          let b = before_noted k number j kinds kinds' y n ey in
          h.apart i j a.0 b.0 a.1 b.1 (a.2 ∙ q ∙ sym b.2);
      all = λ r u e. elim (pushed_cases regs (temporary ty) r (temporary u) e) [
        | inl a ↦
            let found = h.all r u a in
            elim (cases_eq found.0 k) [
              | inl q ↦
                  let here = one_some (ap (slice_get kinds) (sym q) ∙ found.1.1) n.stands in
                  (k, (record n.kind { numbers = n.kind.numbers ++ number ∷ [] }, n.here, ap (λ (z : Kind). z.ty) (sym here) ∙ found.1.2))
              | inr d ↦ (found.0, (found.1.0, n.others found.0 d ∙ found.1.1, found.1.2))
            ]
        | inr b ↦ (k, (record n.kind { numbers = n.kind.numbers ++ number ∷ [] }, n.here, of_type ∙ one_type ty u b.1))
      ];
      taken_there = λ r c. omega (arith, h.taken_there r c, length-append regs (temporary ty ∷ []));
    }

-- ---- a kind more

abbrev pub empty_kind : Ty → Kind
empty_kind ty = record { ty = ty; numbers = []; used = 0 }

pub kept_kind : (regs : List Register) (taken : List ℕ) (kinds : List Kind) (ty : Ty) → IsMissing kinds ty → AreKept regs taken kinds → AreKept regs taken (kinds ++ empty_kind ty ∷ [])
kept_kind regs taken kinds ty missing h =
    record {
      each = λ k x e. elim (pushed_cases kinds (empty_kind ty) k x e) [
        | inl a ↦ h.each k x a
        | inr b ↦ subst (IsKept regs taken) b.1 (record {
          within = omega arith;
          rises = λ i j q r lt ei ej. absurd (cc);
          there = λ i r ei. absurd (cc);
          all = λ r er. let found = h.all r ty er in absurd (missing found.0 found.1.0 found.1.1 found.1.2);
          used_taken = λ i r ei lt. absurd (cc);
          taken_used = λ i r ei c. absurd (cc);
        })
      ];
      apart = λ i j x y ex ey q. elim (pushed_cases kinds (empty_kind ty) i x ex) [
        | inl a ↦ elim (pushed_cases kinds (empty_kind ty) j y ey) [
          | inl b ↦ h.apart i j x y a b q
          | inr b ↦ absurd (missing i x a (q ∙ sym (ap (λ (z : Kind). z.ty) b.1)))
        ]
        | inr a ↦ elim (pushed_cases kinds (empty_kind ty) j y ey) [
          | inl b ↦ absurd (missing j y b (sym q ∙ sym (ap (λ (z : Kind). z.ty) a.1)))
          | inr b ↦ a.0 ∙ sym b.0
        ]
      ];
      all = λ r u e. let found = h.all r u e in (found.0, (found.1.0, kept_at kinds (empty_kind ty ∷ []) found.0 found.1.0 found.1.1, found.1.2));
      taken_there = h.taken_there;
    }

-- a new kind with its first number
noted_last : (number : ℕ) (kinds : List Kind) (ty : Ty) → IsNotedAt (length kinds) number (kinds ++ empty_kind ty ∷ []) (kinds ++ (record { ty = ty; numbers = number ∷ []; used = 0 }) ∷ [])
noted_last number kinds ty =
    let new : Kind = record { ty = ty; numbers = number ∷ []; used = 0 } in
    record {
      kind = empty_kind ty;
      stands = behind_at kinds [] (empty_kind ty);
      here = behind_at kinds [] new;
      others = λ j d. last_only kinds (empty_kind ty) new j d;
    }
  where
    last_only : (xs : List Kind) (x y : Kind) (j : ℕ) → j ≢ length xs → slice_get (xs ++ y ∷ []) j ≡ slice_get (xs ++ x ∷ []) j
    last_only [] x y zero d = absurd (d refl)
    last_only [] x y (suc j) d = refl
    last_only (z ∷ xs) x y zero d = refl
    last_only (z ∷ xs) x y (suc j) d = last_only xs x y j (λ q. d (ap suc q))

pub kept_new : (regs : List Register) (taken : List ℕ) (kinds : List Kind) (number : ℕ) (ty : Ty) → IsMissing kinds ty → number ≡ length regs → AreKept regs taken kinds →
    AreKept (regs ++ temporary ty ∷ []) taken (kinds ++ (record { ty = ty; numbers = number ∷ []; used = 0 }) ∷ [])
kept_new regs taken kinds number ty missing size h =
    kept_noted regs taken (kinds ++ empty_kind ty ∷ []) _ (length kinds) number ty (noted_last number kinds ty) (empty_kind ty, behind_at kinds [] (empty_kind ty), refl) size (kept_kind regs taken kinds ty missing h)

pub kept_pushed : (regs : List Register) (taken : List ℕ) (kinds kinds' : List Kind) (numbers : List ℕ) (number : ℕ) (ty : Ty) → IsMissing kinds ty → numbers ≡ number ∷ [] →
    kinds' ≡ kinds ++ (record { ty = ty; numbers = numbers; used = 0 }) ∷ [] → number ≡ length regs → AreKept regs taken kinds → AreKept (regs ++ temporary ty ∷ []) taken kinds'
kept_pushed regs taken kinds kinds' numbers number ty missing one more size h =
    subst (AreKept (regs ++ temporary ty ∷ []) taken) (sym (more ∙ ap (λ ns. kinds ++ (record { ty = ty; numbers = ns; used = 0 }) ∷ []) one)) (kept_new regs taken kinds number ty missing size h)

-- ---- a temporary is taken

pub used_set : (kinds : List Kind) (k : ℕ) (x a b c : Kind) (taken taken' : List ℕ) (r : ℕ) → slice_get kinds k ≡ Some x → a ≡ get_or kinds k a → b ≡ get_or kinds k b → c ≡ get_or kinds k c →
    slice_get b.numbers a.used ≡ Some r → taken' ≡ taken ++ r ∷ [] → IsUsed k r taken kinds taken' (slice_set kinds k (record { ty = c.ty; numbers = c.numbers; used = a.used + 1 }))
used_set kinds k x a b c taken taken' r e ra rb rc at more =
    let qa = is_read kinds k a x e ra in
    let qb = is_read kinds k b x e rb in
    let qc = is_read kinds k c x e rc in
    let new : Kind = record { ty = c.ty; numbers = c.numbers; used = a.used + 1 } in
    let same : new ≡ record x { used = x.used + 1 } = rw (qc, qa) refl in
    record {
      kind = x;
      stands = e;
      next = ap (λ (z : Kind). slice_get z.numbers x.used) (sym qb) ∙ ap (λ (z : Kind). slice_get b.numbers z.used) (sym qa) ∙ at;
      takes = more;
      same_length = length-set kinds k new;
      here = set_here kinds k new (slice_get_within kinds k x e) ∙ ap Some same;
      others = λ j d. set_elsewhere kinds k j new d;
    }

used_here : (regs : List Register) (taken : List ℕ) (x : Kind) (r : ℕ) → slice_get x.numbers x.used ≡ Some r → IsKept regs taken x → IsKept regs (taken ++ r ∷ []) (record x { used = x.used + 1 })
used_here regs taken x r next h =
    record {
      within = omega (arith, slice_get_within x.numbers x.used r next);
      rises = h.rises;
      there = h.there;
      all = h.all;
      used_taken = λ i q e lt. elim (cases_lt i x.used) [
        | inl less ↦ Contains-append_left taken (r ∷ []) q (h.used_taken i q e less)
        | inr more ↦
            let same : i ≡ x.used = omega (arith, lt, more) in
            subst (λ z. Contains (taken ++ r ∷ []) z) (one_some next (ap (slice_get x.numbers) (sym same) ∙ e)) (Contains-push taken r)
      ];
      taken_used = λ i q e c. elim (Contains-push_cases taken r q c) [
        | inl old ↦ omega (arith, h.taken_used i q e old)
        | inr new ↦ elim (cases_lt x.used i) [
          | inl more ↦ absurd (omega (arith, new, h.rises x.used i r q more next e))
          | inr less ↦ omega (arith, less)
        ]
      ];
    }

used_elsewhere : (regs : List Register) (taken : List ℕ) (x : Kind) (r : ℕ) (ty : Ty) → slice_get regs r ≡ Some (temporary ty) → (x.ty ≡ ty → ⊥) → IsKept regs taken x → IsKept regs (taken ++ r ∷ []) x
used_elsewhere regs taken x r ty there d h =
    record {
      within = h.within;
      rises = h.rises;
      there = h.there;
      all = h.all;
      used_taken = λ i q e lt. Contains-append_left taken (r ∷ []) q (h.used_taken i q e lt);
      taken_used = λ i q e c. elim (Contains-push_cases taken r q c) [
        | inl old ↦ h.taken_used i q e old
        | inr new ↦ absurd (d (one_type x.ty ty (one_some (ap (slice_get regs) new ∙ h.there i q e) there)))
      ];
    }

before_used : (k r j : ℕ) (taken taken' : List ℕ) (kinds kinds' : List Kind) (x : Kind) → IsUsed k r taken kinds taken' kinds' → slice_get kinds' j ≡ Some x → (y : Kind) × (slice_get kinds j ≡ Some y) × (y.ty ≡ x.ty)
before_used k r j taken taken' kinds kinds' x u e = elim (cases_eq j k) [
  | inl q ↦ (u.kind, ap (slice_get kinds) q ∙ u.stands, ap (λ (z : Kind). z.ty) (one_some u.here (ap (slice_get kinds') (sym q) ∙ e)))
  | inr d ↦ (x, sym (u.others j d) ∙ e, refl)
]

pub kept_used : (regs : List Register) (taken taken' : List ℕ) (kinds kinds' : List Kind) (k r : ℕ) → IsUsed k r taken kinds taken' kinds' → AreKept regs taken kinds → AreKept regs taken' kinds'
kept_used regs taken taken' kinds kinds' k r u h =
    let own = h.each k u.kind u.stands in
    let there = own.there u.kind.used r u.next in
    subst (λ z. AreKept regs z kinds') (sym u.takes) (record {
      each = λ j x e. elim (cases_eq j k) [
        | inl q ↦ subst (IsKept regs (taken ++ r ∷ [])) (one_some u.here (ap (slice_get kinds') (sym q) ∙ e)) (used_here regs taken u.kind r u.next own)
        | inr d ↦
            let old = sym (u.others j d) ∙ e in
            used_elsewhere regs taken x r u.kind.ty there (λ q. d (h.apart j k x u.kind old u.stands q)) (h.each j x old)
      ];
      apart = λ i j x y ex ey q.
          let a = before_used k r i taken taken' kinds kinds' x u ex in
          let b = before_used k r j taken taken' kinds kinds' y u ey in
          h.apart i j a.0 b.0 a.1 b.1 (a.2 ∙ q ∙ sym b.2);
      all = λ q ty e.
          let found = h.all q ty e in
          elim (cases_eq found.0 k) [
            | inl same ↦ (k, (record u.kind { used = u.kind.used + 1 }, u.here, ap (λ (z : Kind). z.ty) (one_some u.stands (ap (slice_get kinds) (sym same) ∙ found.1.1)) ∙ found.1.2))
            | inr d ↦ (found.0, (found.1.0, u.others found.0 d ∙ found.1.1, found.1.2))
          ];
      taken_there = λ q c. elim (Contains-push_cases taken r q c) [
        | inl old ↦ h.taken_there q old
        | inr new ↦ omega (arith, new, slice_get_within regs r (temporary u.kind.ty) there)
      ];
    })

-- ---- all are free

-- the kinds before a place are freed
pub record IsFreedTo (k : ℕ) (kinds kinds' : List Kind) : Type 0 where
  pub same_length : length kinds' ≡ length kinds
  pub before : (j : ℕ) (x : Kind) → j < k → slice_get kinds j ≡ Some x → slice_get kinds' j ≡ Some (record x { used = 0 })
  pub behind : (j : ℕ) → k ≤ j → slice_get kinds' j ≡ slice_get kinds j

pub freed_none : (kinds : List Kind) → IsFreedTo 0 kinds kinds
freed_none kinds = record { same_length = refl; before = λ j x lt e. absurd (omega (arith, lt)); behind = λ j h. refl }

pub freed_more : (k : ℕ) (a b c : List Kind) → IsFreedTo k a b → IsFreedAt k b c → IsFreedTo (k + 1) a c
freed_more k a b c f g =
    record {
      same_length = g.same_length ∙ f.same_length;
      before = λ j x lt e. elim (cases_eq j k) [
        | inl q ↦ ap (slice_get c) q ∙ g.here x (f.behind k (omega arith) ∙ ap (slice_get a) (sym q) ∙ e)
        | inr d ↦ g.others j d ∙ f.before j x (omega (arith, lt, d)) e
      ];
      behind = λ j h. g.others j (λ q. omega (arith, q, h)) ∙ f.behind j (omega (arith, h));
    }

before_freed : (kinds kinds' : List Kind) (k j : ℕ) (y : Kind) → IsFreedTo k kinds kinds' → length kinds ≤ k → slice_get kinds' j ≡ Some y → (x : Kind) × (slice_get kinds j ≡ Some x) × (record x { used = 0 } ≡ y)
before_freed kinds kinds' k j y f all e =
    let within = slice_get_within kinds' j y e in
    let old = there kinds j (omega (arith, within, f.same_length)) in
    (old.0, old.1, one_some (f.before j old.0 (omega (arith, within, f.same_length, all)) old.1) e)
  where
    there : (xs : List Kind) (i : ℕ) → i < length xs → (x : Kind) × (slice_get xs i ≡ Some x)
    there [] i h = absurd (omega arith)
    there (x ∷ xs) zero h = (x, refl)
    there (x ∷ xs) (suc i) h = there xs i (omega (arith, h))

pub kept_freed : (regs : List Register) (taken : List ℕ) (kinds kinds' : List Kind) (k : ℕ) → IsFreedTo k kinds kinds' → length kinds ≤ k → AreKept regs taken kinds → AreKept regs [] kinds'
kept_freed regs taken kinds kinds' k f all h =
    record {
      each = λ j y e.
          let old = before_freed kinds kinds' k j y f all e in
          let kept = h.each j old.0 old.1 in
          subst (IsKept regs []) old.2 (record {
            within = omega arith;
            rises = kept.rises;
            there = kept.there;
            all = kept.all;
            used_taken = λ i r ei lt. absurd (omega (arith, lt));
            taken_used = λ i r ei c. absurd (contains_none r c);
          });
      apart = λ i j x y ex ey q.
          let a = before_freed kinds kinds' k i x f all ex in
          let b = before_freed kinds kinds' k j y f all ey in
          h.apart i j a.0 b.0 a.1 b.1 (ap (λ (z : Kind). z.ty) a.2 ∙ q ∙ sym (ap (λ (z : Kind). z.ty) b.2));
      all = λ r ty e.
          let found = h.all r ty e in
          (found.0, (record found.1.0 { used = 0 }, f.before found.0 found.1.0 (omega (arith, slice_get_within kinds found.0 found.1.0 found.1.1, all)) found.1.1, found.1.2));
      taken_there = λ r c. absurd (contains_none r c);
    }

pub kept_none : AreKept [] [] []
kept_none = record { each = λ k x e. absurd (cc); apart = λ i j x y ex ey q. absurd (cc); all = λ r ty e. absurd (cc); taken_there = λ r c. absurd (contains_none r c) }
