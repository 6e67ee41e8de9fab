-- Nodes in a row.
use Rattle.std.proofs.Common.{◌≡◌, ℕ, suc, ◌+◌, List, [], ◌∷◌, ◌++◌, length, refl, sym, ap, subst, arith}
use Rattle.std.specs.Prelude.{ℤ, Some, slice_get}
use Rattle.po_base.specs.declared.spot.Spot.{Spot}
use Rattle.po_base.specs.declared.operand.Opnd.{Opnd}
use Rattle.po_base.specs.declared.operand.Opnd.TheVariants as o
use Rattle.po_base.specs.declared.operators.Op.TheVariants as op
use Rattle.po_ir.specs.declared.instr.Ty.{Ty}
use Rattle.po_ir.specs.declared.instr.Instr.TheVariants as ins
use Rattle.po_ir.specs.declared.graph.Node.{Node}
use Rattle.po_lowering.specs.Temporaries.{Row, ends, follows, node, to}
use Rattle.po_lowering.specs.Blocks.{case_tests}

pub row_append : {ns : List Node} {a b c : ℕ} {xs ys : List Node} → Row ns a xs b → Row ns b ys c → Row ns a (xs ++ ys) c
row_append (ends a) k = k
row_append (follows a b x xs e h) k = follows a _ x _ e (row_append h k)

pub row_length : {ns : List Node} {a b : ℕ} {xs : List Node} → Row ns a xs b → b ≡ a + length xs
row_length (ends a) = omega arith
row_length (follows a b x xs e h) = let rest = row_length h in omega (arith, rest)

pub row_one : (ns : List Node) (a b : ℕ) (x : Node) → slice_get ns a ≡ Some x → b ≡ a + 1 → Row ns a (x ∷ []) b
row_one ns a b x e q = subst (Row ns a (x ∷ [])) (sym q) (follows a (a + 1) x [] e (ends (a + 1)))

pub tests_length : (a : ℕ) (ty : Ty) (v : Opnd) (spot : Spot) (cases : List (ℤ × ℕ)) → length (case_tests a ty v spot cases) ≡ length cases
tests_length a ty v spot [] = refl
tests_length a ty v spot ((n, target) ∷ rest) = ap suc (tests_length (a + 1) ty v spot rest)

-- the tests of some cases, and of those behind them
pub tests_append : (a b : ℕ) (ty : Ty) (v : Opnd) (spot : Spot) (xs ys : List (ℤ × ℕ)) → b ≡ a + length xs → case_tests a ty v spot xs ++ case_tests b ty v spot ys ≡ case_tests a ty v spot (xs ++ ys)
tests_append a b ty v spot [] ys q = let same : b ≡ a = omega (arith, q) in ap (λ z. case_tests z ty v spot ys) same
tests_append a b ty v spot ((n, target) ∷ rest) ys q =
    ap (λ z. node (ins.If op.Eq ty v (o.Num n) (to target) (to (a + 1))) spot ∷ z) (tests_append (a + 1) b ty v spot rest ys (omega (arith, q)))
