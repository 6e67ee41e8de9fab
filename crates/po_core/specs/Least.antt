-- The least report of a book: no worker, no order and no queue is in it.
use Rattle.std.specs.Prelude.{◌≡◌, ◌↔◌, Bool, IsTrue}
use Rattle.std.specs.List.{Contains, AllPairs}
use Rattle.std.specs.declared.cmp.Ordering.{Ordering}
use Rattle.std.specs.declared.cmp.Ordering.TheVariants.{Less}
use Rattle.po_base.specs.declared.numbers.FunNo.{FunNo}
use Rattle.po_core.specs.Book.{Book, IsPrimary, IsSupport}
use Rattle.po_core.specs.Order.{obl_cmp, assumption_cmp}
use Rattle.po_core.specs.declared.obl.Obl.{Obl}
use Rattle.po_core.specs.declared.obl.Verdict.{Verdict}
use Rattle.po_core.specs.declared.obl.Verdict.TheVariants.{Delegated}
use Rattle.po_core.specs.declared.report.Report.{Report}

-- A set R of obligations and a set A of assumptions are closed: R has what the functions ask by themselves, what is
-- delegated from R is assumed in A, and what is assumed in A is asked in R at each call.
pub record IsClosed {P N T : Type 0} (b : Book P N T) (R : Obl P → Type 0) (A : FunNo → P → Type 0) : Type 0 where
  pub asks : (o : Obl P) → IsPrimary b o → R o
  pub assumes : (o : Obl P) (q : P) → R o → b.verdict_of o ≡ Delegated q → A o.fun q
  pub supports : (f : FunNo) (q : P) (o : Obl P) → A f q → IsSupport b f q o → R o

-- two tests, as the sets of what they pass, are closed
abbrev pub AreClosed : {P N T : Type 0} → Book P N T → (Obl P → Bool) → (FunNo → P → Bool) → Type 0
AreClosed b R A = IsClosed b (λ o. IsTrue (R o)) (λ f q. IsTrue (A f q))

-- the least report's obligations: those in every closed pair
abbrev pub IsReported : {P N T : Type 0} → Book P N T → Obl P → Type 0
IsReported {P} b o = (R : Obl P → Bool) (A : FunNo → P → Bool) → AreClosed b R A → IsTrue (R o)

-- the least report's assumptions: those in every closed pair
abbrev pub IsNeeded : {P N T : Type 0} → Book P N T → FunNo → P → Type 0
IsNeeded {P} b f q = (R : Obl P → Bool) (A : FunNo → P → Bool) → AreClosed b R A → IsTrue (A f q)

-- The lists of the least report, each obligation with its verdict. Each line is before each later one by the order of
-- obligations, and each assumption before each later one; `by` compares predicates.
pub record IsLeastReport {P N T : Type 0} (by : P → P → Ordering) (b : Book P N T) (r : Report P N) : Type 0 where
  pub lines : (o : Obl P) (v : Verdict P N) → Contains r.lines (o, v) ↔ (IsReported b o × (v ≡ b.verdict_of o))
  pub assumptions : (f : FunNo) (q : P) → Contains r.assumptions (f, q) ↔ IsNeeded b f q
  pub lines_ascend : AllPairs (λ x y. obl_cmp by x.0 y.0 ≡ Less) r.lines
  pub assumptions_ascend : AllPairs (λ x y. assumption_cmp by x y ≡ Less) r.assumptions
