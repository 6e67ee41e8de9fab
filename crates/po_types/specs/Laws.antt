-- What follows from the definitions.
use Rattle.std.specs.Prelude.{ℕ, ◌≡◌, List, ℤ}
use Rattle.po_arith.specs.declared.int_type.IntType.{IntType}
use Rattle.po_arith.specs.declared.target.Target.{Target}
use Rattle.po_arith.specs.Types.{IsIntType, IsOfType}
use Rattle.po_types.specs.declared.ctype.CType.{CType}
use Rattle.po_types.specs.declared.env.Env.{Env}
use Rattle.po_types.specs.declared.format.Spec.{Spec}
use Rattle.po_types.specs.declared.layout.Extent.{Extent}
use Rattle.po_types.specs.declared.layout.Layout.{Layout}
use Rattle.po_types.specs.Integers.{promoted, common}
use Rattle.po_types.specs.Layouts.{IsLayout}
use Rattle.po_types.specs.Spelling.{Spelled}
use Rattle.po_types.specs.Formats.{IsFormat}

-- a type has one spelling at most
abbrev pub OneSpelling : Type 0
OneSpelling = (env : Env) (t : CType) (a b : List ℕ) → Spelled env t a → Spelled env t b → a ≡ b

-- members lie in one way at most
abbrev pub OneLayout : Type 0
OneLayout = (members : List Extent) (a b : Layout) → IsLayout members a → IsLayout members b → a ≡ b

-- a format reads one list of things at most
abbrev pub OneFormat : Type 0
OneFormat = (target : Target) (format : List ℕ) (a b : List Spec) → IsFormat target format a → IsFormat target format b → a ≡ b

-- each number of a type is one of the promoted type
abbrev pub PromotionKeeps : Type 0
PromotionKeeps = (t : IntType) (v : ℤ) → IsIntType t → IsOfType t v → IsOfType (promoted t) v

-- the order of the operands says nothing
abbrev pub CommonIsSymmetric : Type 0
CommonIsSymmetric = (s t : IntType) → common s t ≡ common t s
