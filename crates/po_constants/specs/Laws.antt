-- What follows from the definitions: each relation on constants has one result at most.
use Rattle.std.specs.Prelude.{ℕ, ◌≡◌, List, ℤ}
use Rattle.po_arith.specs.declared.int_type.IntType.{IntType}
use Rattle.po_arith.specs.declared.target.Target.{Target}
use Rattle.po_base.specs.declared.operators.Op.{Op}
use Rattle.po_tree.specs.declared.expression.Specifier.{Specifier}
use Rattle.po_types.specs.declared.ctype.CType.{CType}
use Rattle.po_typed.specs.Constants.{IsNumber, IsCharacterOf, AreStrings, Becomes, Kept, Computes, Shifts, Compares}
use Rattle.po_typed.specs.BaseTypes.{IsWordType}

pub record ConstantsHaveOneValue : Type 0 where
  pub number : (target : Target) (text : List ℕ) (s t : IntType) (m n : ℕ) → IsNumber target text s m → IsNumber target text t n → (s ≡ t) × (m ≡ n)
  pub character : (text : List ℕ) (v w : ℤ) → IsCharacterOf text v → IsCharacterOf text w → v ≡ w
  pub strings : (texts : List (List ℕ)) (vs ws : List ℕ) → AreStrings texts vs → AreStrings texts ws → vs ≡ ws

pub record OperatorsHaveOneResult : Type 0 where
  pub becomes : (t : IntType) (v w u : ℤ) → Becomes t v w → Becomes t v u → w ≡ u
  pub kept : (t : IntType) (v w u : ℤ) → Kept t v w → Kept t v u → w ≡ u
  pub computes : (o : Op) (t : IntType) (v w r s : ℤ) → Computes o t v w r → Computes o t v w s → r ≡ s
  pub shifts : (o : Op) (t : IntType) (v r s : ℤ) (n : ℕ) → Shifts o t v n r → Shifts o t v n s → r ≡ s
  pub compares : (o : Op) (v w r s : ℤ) → Compares o v w r → Compares o v w s → r ≡ s

abbrev pub WordsHaveOneType : Type 0
WordsHaveOneType = (target : Target) (specs : List Specifier) (t u : CType) → IsWordType target specs t → IsWordType target specs u → t ≡ u
