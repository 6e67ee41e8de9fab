-- The temporary that is found is the one that a value takes.
use Rattle.std.proofs.Common.{◌≡◌, ℕ, ◌+◌, ◌<◌, ◌≤◌, List, [], ◌∷◌, ◌++◌, length, length-append, get_or, sym, ap, ◌∙◌, subst, arith, inl, inr}
use Rattle.std.specs.Prelude.{Some, Contains, slice_get}
use Rattle.std.proofs.lemmas.Bool.{cases_lt, cases_eq}
use Rattle.std.proofs.lemmas.Option.{slice_get_within, get_or_from_slice_get}
use Rattle.po_lists.proofs.Places.{pushed_cases, behind_at}
use Rattle.po_lists.proofs.Options.{one_some}
use Rattle.po_ir.specs.declared.instr.Ty.{Ty}
use Rattle.po_ir.specs.declared.graph.Reg.{Reg as Register}
use Rattle.po_lowering.specs.Temporaries.{State, temporary, IsFree, Takes, old, new}
use Rattle.po_draft.specs.declared.registers.Kind.{Kind}
use Rattle.po_draft.specs.Held.{TakesHeld, with_held}
use Rattle.po_draft.specs.Kinds.{IsKindAt, AreKept, IsUsed, HasNone}

-- the temporary is free, and no lesser one of its type is
record IsLeast (regs : List Register) (taken : List ℕ) (ty : Ty) (r : ℕ) : Type 0 where
  there : slice_get regs r ≡ Some (temporary ty)
  untaken : Contains taken r → ⊥
  least : (q : ℕ) → q < r → slice_get regs q ≡ Some (temporary ty) → (Contains taken q → ⊥) → ⊥

used_least : (regs : List Register) (taken taken' : List ℕ) (kinds kinds' : List Kind) (k r : ℕ) (u : IsUsed k r taken kinds taken' kinds') → AreKept regs taken kinds → IsLeast regs taken u.kind.ty r
used_least regs taken taken' kinds kinds' k r u h =
    let own = h.each k u.kind u.stands in
    record {
      there = own.there u.kind.used r u.next;
      untaken = λ c. omega (arith, own.taken_used u.kind.used r u.next c);
      least = λ q lt there free.
          let at = own.all q there in
          elim (cases_lt at.0 u.kind.used) [
            | inl less ↦ free (own.used_taken at.0 q at.1 less)
            | inr more ↦ elim (cases_eq at.0 u.kind.used) [
              | inl same ↦ omega (arith, lt, one_some u.next (ap (slice_get u.kind.numbers) (sym same) ∙ at.1))
              | inr d ↦ omega (arith, lt, own.rises u.kind.used at.0 r q (omega (arith, more, d)) u.next at.1)
            ]
          ];
    }

pub none_free : (regs : List Register) (taken : List ℕ) (kinds : List Kind) (ty : Ty) → HasNone kinds ty → AreKept regs taken kinds → (q : ℕ) → slice_get regs q ≡ Some (temporary ty) → (Contains taken q → ⊥) → ⊥
none_free regs taken kinds ty (inl missing) h q there free = let found = h.all q ty there in missing found.0 found.1.0 found.1.1 found.1.2
none_free regs taken kinds ty (inr full) h q there free =
    let kind = full.1.0 in
    let own = h.each full.0 kind full.1.1 in
    let at = own.all q (there ∙ ap (λ t. Some (temporary t)) (sym full.1.2)) in
    free (own.used_taken at.0 q at.1 (omega (arith, slice_get_within kind.numbers at.0 q at.1, full.2)))

-- all temporaries at a place are taken
pub none_at : (kinds : List Kind) (k : ℕ) (ty : Ty) (x y : Kind) → IsKindAt kinds k ty → length (get_or kinds k y).numbers ≤ (get_or kinds k x).used → HasNone kinds ty
none_at kinds k ty x y at h =
    let qx = get_or_from_slice_get kinds k at.0 x at.1 in
    let qy = get_or_from_slice_get kinds k at.0 y at.1 in
    inr (k, at, omega (arith, h, ap (λ (z : Kind). z.used) qx, ap (λ (z : Kind). length z.numbers) qy))

-- a new temporary is free
pub new_free : (regs regs' : List Register) (taken : List ℕ) (kinds kinds' : List Kind) (ty : Ty) → AreKept regs taken kinds → regs' ≡ regs ++ temporary ty ∷ [] → AreKept regs' taken kinds' → HasNone kinds' ty → ⊥
new_free regs regs' taken kinds kinds' ty h more h' none =
    none_free regs' taken kinds' ty none h' (length regs) (ap (λ z. slice_get z (length regs)) more ∙ behind_at regs [] (temporary ty)) (λ c. omega (arith, h.taken_there (length regs) c))

kind_of : (k r : ℕ) (taken taken' : List ℕ) (kinds kinds' : List Kind) (ty : Ty) (u : IsUsed k r taken kinds taken' kinds') → IsKindAt kinds k ty → u.kind.ty ≡ ty
kind_of k r taken taken' kinds kinds' ty u at = ap (λ (z : Kind). z.ty) (one_some u.stands at.1) ∙ at.2

pub takes_old : (regs : List Register) (taken taken' : List ℕ) (kinds kinds' : List Kind) (k r : ℕ) (ty : Ty) → IsUsed k r taken kinds taken' kinds' → IsKindAt kinds k ty → AreKept regs taken kinds →
    TakesHeld ty (record { regs = regs; taken = taken }) r (record { regs = regs; taken = taken' })
takes_old regs taken taken' kinds kinds' k r ty u at h =
    let l : IsLeast regs taken ty r = subst (λ t. IsLeast regs taken t r) (kind_of k r taken taken' kinds kinds' ty u at) (used_least regs taken taken' kinds kinds' k r u h) in
    λ (s : State).
    let before : State = with_held (record { regs = regs; taken = taken }) s in
    let free : IsFree ty before r = record { is_temporary = l.there; untaken = l.untaken } in
    subst (λ z. Takes ty before r (record s { regs = regs; taken = z })) (sym u.takes) (old ty before r free (λ q lt f. l.least q lt f.is_temporary f.untaken))

pub takes_new : (regs regs' : List Register) (taken taken' : List ℕ) (kinds kinds' kinds'' : List Kind) (k r : ℕ) (ty : Ty) → HasNone kinds ty → AreKept regs taken kinds → regs' ≡ regs ++ temporary ty ∷ [] → AreKept regs' taken kinds' →
    IsUsed k r taken kinds' taken' kinds'' → IsKindAt kinds' k ty → TakesHeld ty (record { regs = regs; taken = taken }) r (record { regs = regs'; taken = taken' })
takes_new regs regs' taken taken' kinds kinds' kinds'' k r ty none h more h' u at =
    let l : IsLeast regs' taken ty r = subst (λ t. IsLeast regs' taken t r) (kind_of k r taken taken' kinds' kinds'' ty u at) (used_least regs' taken taken' kinds' kinds'' k r u h') in
    let longer : length regs' ≡ length regs + 1 = ap length more ∙ length-append regs (temporary ty ∷ []) in
    let within = slice_get_within regs' r (temporary ty) l.there in
    let last : r ≡ length regs = elim (cases_lt r (length regs)) [
      | inl less ↦ absurd (none_free regs taken kinds ty none h r (earlier r less (sym (ap (λ z. slice_get z r) more) ∙ l.there)) l.untaken)
      | inr rest ↦ omega (arith, within, longer, rest)
    ] in
    λ (s : State).
    let before : State = with_held (record { regs = regs; taken = taken }) s in
    subst (λ z. Takes ty before z (record s { regs = regs'; taken = taken' })) (sym last)
    (subst (λ z. Takes ty before (length regs) (record s { regs = regs'; taken = z })) (sym (u.takes ∙ ap (λ z. taken ++ z ∷ []) last))
    (subst (λ z. Takes ty before (length regs) (record s { regs = z; taken = taken ++ length regs ∷ [] })) (sym more)
    (new ty before (λ q f. none_free regs taken kinds ty none h q f.is_temporary f.untaken))))
  where
    earlier : (q : ℕ) → q < length regs → slice_get (regs ++ temporary ty ∷ []) q ≡ Some (temporary ty) → slice_get regs q ≡ Some (temporary ty)
    earlier q less e = elim (pushed_cases regs (temporary ty) q (temporary ty) e) [ inl a ↦ a | inr b ↦ absurd (omega (arith, b.0, less)) ]
