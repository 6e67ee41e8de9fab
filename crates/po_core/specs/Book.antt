-- What a rulebook means.
use Rattle.std.specs.Prelude.{ℕ, ◌≡◌, ◌<◌, ◌↔◌, List, Option, Bool, IsTrue}
use Rattle.std.specs.List.{Contains}
use Rattle.po_base.specs.declared.numbers.FileNo.{FileNo}
use Rattle.po_base.specs.declared.numbers.FunNo.{FunNo}
use Rattle.po_base.specs.declared.numbers.NodeNo.{NodeNo}
use Rattle.po_core.specs.declared.obl.Cause.TheVariants.{Primary, Support}
use Rattle.po_core.specs.declared.obl.Obl.{Obl}
use Rattle.po_core.specs.declared.obl.Verdict.{Verdict}
use Rattle.po_core.specs.declared.obl.Verdict.TheVariants.{Delegated}

-- The program's parts by number, what each function asks by itself (a node and a place), where it is called (a
-- function and a node), the table that its verdicts are read from (none where there is no such function), each
-- obligation's verdict, and a list with every predicate that a verdict may delegate.
pub record Book (P N T : Type 0) : Type 0 where
  pub files : ℕ
  pub functions : ℕ
  pub file_of : FunNo → FileNo
  pub primaries : FunNo → List (NodeNo × ℕ)
  pub call_sites : FunNo → List (FunNo × NodeNo)
  pub table_of : FunNo → Option T
  pub verdict_of : Obl P → Verdict P N
  pub assumable : List P

-- What every rulebook keeps; `eq` is the comparison of its predicates.
pub record IsBook {P N T : Type 0} (eq : P → P → Bool) (b : Book P N T) : Type 0 where
  pub files_there : (f : FunNo) → f.0 < b.functions → (b.file_of f).0 < b.files
  pub callers_there : (f g : FunNo) (n : NodeNo) → f.0 < b.functions → Contains (b.call_sites f) (g, n) → g.0 < b.functions
  pub delegates_assumable : (o : Obl P) (q : P) → b.verdict_of o ≡ Delegated q → Contains b.assumable q
  pub equal_are_same : (p q : P) → IsTrue (eq p q) ↔ (p ≡ q)

-- the file of an obligation is that of its function
abbrev pub file_of_obl : {P N T : Type 0} → Book P N T → Obl P → FileNo
file_of_obl b o = b.file_of o.fun

-- an obligation that its function asks by itself
abbrev pub IsPrimary : {P N T : Type 0} → Book P N T → Obl P → Type 0
IsPrimary b o = (i : ℕ) × (o.fun.0 < b.functions) × (o.cause ≡ Primary i) × Contains (b.primaries o.fun) (o.node, i)

-- an obligation by which a call of f supports that f is entered with q
abbrev pub IsSupport : {P N T : Type 0} → Book P N T → FunNo → P → Obl P → Type 0
IsSupport b f q o = (o.cause ≡ Support q) × Contains (b.call_sites f) (o.fun, o.node)
