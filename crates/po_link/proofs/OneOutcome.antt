-- The same files have one outcome.
use Rattle.std.proofs.Common.{◌≡◌, ℕ, List, refl, ap, sym, ◌∙◌, ◌⊎◌, inl, inr, subst, arith}
use Rattle.std.specs.Prelude.{Result, Ok, Err}
use Rattle.std.specs.Result.{IsErrAnd}
use Rattle.po_base.specs.declared.numbers.FileNo.{FileNo}
use Rattle.po_arith.specs.declared.target.Target.{Target}
use Rattle.po_ir.specs.declared.project.Project.{Project}
use Rattle.po_ir.specs.declared.unit.Unit.{Unit as FileUnit}
use Rattle.po_symbols.specs.declared.link_fail.LinkFail.{LinkFail}
use Rattle.po_symbols.specs.declared.link_fail.LinkFail.TheVariants.{TwoBodies, Clash, TooLarge, Memory}
use Rattle.po_symbols.specs.Linking.{NoCause, Fits, IsTooLarge, IsRefused}
use Rattle.po_symbols.proofs.Refused.{one_refusal}
use Rattle.po_link.specs.Outcome.{IsOutcome, OneOutcome}
use Rattle.po_link.proofs.OneLinked.{one_project}

-- what can be joined is refused for want of memory alone
not_refused : (units : List FileUnit) (fail : LinkFail) → NoCause units → Fits units → IsRefused units fail → fail ≡ Memory
not_refused units (TwoBodies name a b) none fits h = absurd (none name (a.0, b.0, inl h.least.0))
not_refused units (Clash name a b) none fits h = absurd (none name (a.0, b.0, inr h.least.0))
not_refused units (TooLarge count) none fits h = absurd (fits count h.1)
not_refused units Memory none fits h = refl

one_count : (units : List FileUnit) (m n : ℕ) → IsTooLarge units m → IsTooLarge units n → m ≡ n
one_count units m n h k =
    elim h [
      | inl a ↦ elim k [ inl b ↦ a.1 ∙ sym b.1 | inr b ↦ let l = a.0 in let u = b.0 in absurd (omega arith) ]
      | inr a ↦ elim k [ inl b ↦ let l = b.0 in let u = a.0 in absurd (omega arith) | inr b ↦ a.2 ∙ sym b.2 ]
    ]

abbrev file_no : ℕ → FileNo
file_no n = record { 0 = n }

same_file : (a b : FileNo) → a.0 ≡ b.0 → a ≡ b
same_file a b h = ap file_no h

one_cause : (units : List FileUnit) (f g : LinkFail) → IsRefused units f → IsRefused units g → (f ≡ Memory) ⊎ ((g ≡ Memory) ⊎ (f ≡ g))
one_cause units Memory g h k = inl refl
one_cause units (TwoBodies name a b) Memory h k = inr (inl refl)
one_cause units (TwoBodies name a b) (TwoBodies other c d) h k =
    let same = one_refusal.bodies units name other a.0 b.0 c.0 d.0 h k in
    let first = same_file a c same.1 in
    let second = same_file b d same.2 in
    let names = same.0 in
    inr (inr (cc))
one_cause units (TwoBodies name a b) (Clash other c d) h k = absurd (one_refusal.bodies_first units name other a.0 b.0 c.0 d.0 h k)
one_cause units (TwoBodies name a b) (TooLarge count) h k = absurd (k.0 name (a.0, b.0, inl h.least.0))
one_cause units (Clash name a b) Memory h k = inr (inl refl)
one_cause units (Clash name a b) (TwoBodies other c d) h k = absurd (one_refusal.bodies_first units other name c.0 d.0 a.0 b.0 k h)
one_cause units (Clash name a b) (Clash other c d) h k =
    let same = one_refusal.clashes units name other a.0 b.0 c.0 d.0 h k in
    let first = same_file a c same.1 in
    let second = same_file b d same.2 in
    let names = same.0 in
    inr (inr (cc))
one_cause units (Clash name a b) (TooLarge count) h k = absurd (k.0 name (a.0, b.0, inr h.least.0))
one_cause units (TooLarge count) Memory h k = inr (inl refl)
one_cause units (TooLarge count) (TwoBodies name a b) h k = absurd (h.0 name (a.0, b.0, inl k.least.0))
one_cause units (TooLarge count) (Clash name a b) h k = absurd (h.0 name (a.0, b.0, inr k.least.0))
one_cause units (TooLarge count) (TooLarge other) h k = inr (inr (ap TooLarge (one_count units count other h.1 k.1)))

pub one_outcome : OneOutcome
one_outcome units target (Ok p) (Ok q) h k = inr (inr (ap Ok (one_project units target p q h.2 k.2)))
one_outcome units target (Ok p) (Err g) h k = inr (inl (ap Err (not_refused units g h.0 h.1 k)))
one_outcome units target (Err f) (Ok q) h k = inl (ap Err (not_refused units f k.0 k.1 h))
one_outcome units target (Err f) (Err g) h k = elim (one_cause units f g h k) [
  | inl m ↦ inl (ap Err m)
  | inr n ↦ elim n [ inl m ↦ inr (inl (ap Err m)) | inr same ↦ inr (inr (ap Err same)) ]
]

-- what is refused is answered so
pub refused : (units : List FileUnit) (target : Target) (r : Result Project LinkFail) (fail : LinkFail) → IsErrAnd r (λ e. e ≡ fail) → IsRefused units fail → IsOutcome units target r
refused units target (Ok p) fail h k = absurd (h)
refused units target (Err e) fail h k = subst (IsRefused units) (sym h) k
