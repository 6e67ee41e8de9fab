-- Words on types by the form of the type.
use Rattle.std.specs.Prelude.{◌≡◌}
use Rattle.std.proofs.Common.{refl, ap, ◌∙◌}
use Rattle.po_arith.specs.declared.int_type.IntType.{IntType}
use Rattle.po_ir.specs.declared.instr.Ty.TheVariants.{Int}
use Rattle.po_types.specs.declared.ctype.CType.TheVariants as c
use Rattle.po_types.specs.Integers.{promoted}
use Rattle.po_types.proofs.TypesLaws.{out_Int}
use Rattle.po_types.specs.declared.ctype.CType.{CType, out-CType}
use Rattle.po_lowering.specs.Types.{register_type, held}
use Rattle.po_lowering.specs.Conversions.{tested, tested_in}

pub register_by_form : (t : CType) → register_type t ≡ held (out-CType t)
unfolding register_type
register_by_form t = refl

pub tested_by_form : (t : CType) → tested t ≡ tested_in (out-CType t)
unfolding tested
tested_by_form t = refl

pub register_Int : (t : CType) (n : IntType) → t ≡ c.Int n → register_type t ≡ Int n
register_Int t n q = register_by_form t ∙ ap held (ap out-CType q ∙ out_Int n)

pub tested_Int : (t : CType) (n : IntType) → t ≡ c.Int n → tested t ≡ Int (promoted n)
tested_Int t n q = tested_by_form t ∙ ap tested_in (ap out-CType q ∙ out_Int n)
