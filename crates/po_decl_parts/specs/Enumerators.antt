-- Enumerators (C99 6.7.2.2), and the typedef names in force behind each.
use Rattle.std.specs.Prelude.{ℕ, Bool, true, false, cond, List, [], ◌∷◌, ◌++◌, map, Option, Some, None}
use Rattle.po_tree.specs.declared.expression.Exp.{Exp}
use Rattle.po_tree.specs.Signs.{Sign, word, comma, equals, brace_end}
use Rattle.po_tree.specs.Words.{IsName}
use Rattle.po_tree.specs.Printing.{flat, optional, with_commas}
use Rattle.po_tree.specs.Heights.{height, greatest, or_none}
use Rattle.po_tree.specs.Declarations.{without}
use Rattle.po_exp_parts.specs.Places.{Begins}
use Rattle.po_decl_parts.specs.Constants.{ConstantStands}

-- one enumerator, with its value where one is written: it hides a typedef name from its own end on
pub data EnumeratorRead (types : List (List ℕ)) : List Sign → (List ℕ × Option Exp) → List Sign → Type 0 where
  plain : (name : List ℕ) (ts : List Sign) → IsName name → (Begins equals ts → ⊥) → EnumeratorRead types (word name ∷ ts) (name, None) ts
  valued : (name : List ℕ) (x : Exp) (ts us : List Sign) → IsName name → ConstantStands types ts x us →
      EnumeratorRead types (word name ∷ (equals ∷ ts)) (name, Some x) us

-- EnumeratorsRead types ts items more types' us: these enumerators stand at the front of ts with the brace that closes them, and `more`
-- says whether a comma stands before it; us are left. `types` are the typedef names in force before them, types' those behind them.
pub data EnumeratorsRead : List (List ℕ) → List Sign → List (List ℕ × Option Exp) → Bool → List (List ℕ) → List Sign → Type 0 where
  last : (types : List (List ℕ)) (item : List ℕ × Option Exp) (ts us : List Sign) → EnumeratorRead types ts item (brace_end ∷ us) →
      EnumeratorsRead types ts (item ∷ []) false (without item.0 types) us
  last_comma : (types : List (List ℕ)) (item : List ℕ × Option Exp) (ts us : List Sign) → EnumeratorRead types ts item (comma ∷ (brace_end ∷ us)) →
      EnumeratorsRead types ts (item ∷ []) true (without item.0 types) us
  further : (types types' : List (List ℕ)) (item : List ℕ × Option Exp) (items : List (List ℕ × Option Exp)) (more : Bool) (ts us vs : List Sign) →
      EnumeratorRead types ts item (comma ∷ us) → EnumeratorsRead (without item.0 types) us items more types' vs →
      EnumeratorsRead types ts (item ∷ items) more types' vs

-- what an enumerator prints: `A`, `A = x`
abbrev pub flat_enumerator : (List ℕ × Option Exp) → List Sign
flat_enumerator (name, value) = word name ∷ optional (λ x. equals ∷ flat x) value

-- what enumerators print, with the comma behind the last where one is written
abbrev pub flat_enumerators : List (List ℕ × Option Exp) → Bool → List Sign
flat_enumerators items more = with_commas (map flat_enumerator items) ++ cond more (comma ∷ []) []

-- the most expressions on a path of their values
abbrev pub enumerators_height : List (List ℕ × Option Exp) → ℕ
enumerators_height items = greatest (map (λ item. or_none height item.1) items)
