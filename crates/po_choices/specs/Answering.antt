-- What tests answer, and what a type name says.
use Rattle.std.specs.Prelude.{Bool, MatchBool}
use Rattle.po_arith.specs.declared.int_type.IntType.{IntType}
use Rattle.po_tree.specs.declared.expression.TypeName.{TypeName}
use Rattle.po_types.specs.declared.ctype.CType.TheVariants as c
use Rattle.po_typed.specs.Scopes.{Context}
use Rattle.po_typed.specs.Expressions.{IsPlainName}

-- true where it holds, and false where it doesn't
abbrev pub IsWhether : Type 0 → Bool → Type 0
IsWhether P answer = MatchBool answer P (P → ⊥)

-- a type name without arrays that says an integer type
abbrev pub IsIntegerName : Context → TypeName → Type 0
IsIntegerName ctx name = (t : IntType) × IsPlainName ctx name (c.Int t)
