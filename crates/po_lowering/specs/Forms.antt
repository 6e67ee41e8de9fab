-- What the rules of expressions ask of a form.
use Rattle.std.specs.Prelude.{ℕ, List, [], ◌∷◌, Option, Some, None, Bool, true, false, cond}
use Rattle.po_ir.specs.Types.{is_comparison}
use Rattle.po_tree.specs.declared.expression.Exp.{Exp}
use Rattle.po_tree.specs.declared.expression.Exp.TheOpen.{Exp-F}
use Rattle.po_tree.specs.declared.expression.Specifier.{Specifier}
use Rattle.po_tree.specs.declared.expression.Declarator.{Declarator}
use Rattle.po_tree.specs.declared.expression.Suffix.{Suffix}
use Rattle.po_tree.specs.declared.expression.Member.{Member}
use Rattle.po_tree.specs.declared.expression.Param.{Param}
use Rattle.po_tree.specs.declared.expression.TypeName.{TypeName}
use Rattle.po_types.specs.declared.ctype.CType.{CType}
use Rattle.po_lowering.specs.Typed.{Typed, Part}
use Rattle.po_types.specs.Types.{structure}
use Rattle.po_lowering.specs.Naming.{is_same}

abbrev pub Layer : Type 0
Layer = Exp-F Exp Specifier Suffix Declarator Member Param TypeName

-- a form that may designate an object in memory; parentheses have rules of their own
abbrev pub IsObject : Layer → Type 0
IsObject (Exp-F.Var name) = Unit {0}
IsObject (Exp-F.Str texts) = Unit {0}
IsObject (Exp-F.Index x y) = Unit {0}
IsObject (Exp-F.Deref x) = Unit {0}
IsObject (Exp-F.Dot x name) = Unit {0}
IsObject (Exp-F.Arrow x name) = Unit {0}
IsObject _ = ⊥

-- a form whose nodes are the same where its value isn't used
abbrev pub IsSameUnused : Layer → Type 0
IsSameUnused (Exp-F.PostInc x) = ⊥
IsSameUnused (Exp-F.PostDec x) = ⊥
IsSameUnused (Exp-F.Paren x) = ⊥
IsSameUnused (Exp-F.Comma x y) = ⊥
IsSameUnused _ = Unit {0}

abbrev pub IsNotComparison : Bool → Type 0
IsNotComparison true = ⊥
IsNotComparison false = Unit {0}

-- a form whose condition is its value, which is compared with 0
abbrev pub IsPlain : Layer → Type 0
IsPlain (Exp-F.LogAnd x y) = ⊥
IsPlain (Exp-F.LogOr x y) = ⊥
IsPlain (Exp-F.Not x) = ⊥
IsPlain (Exp-F.Paren x) = ⊥
IsPlain (Exp-F.Binary operator x y) = IsNotComparison (is_comparison operator)
IsPlain _ = Unit {0}

abbrev pub offset_among : List ℕ → List Part → ℕ
offset_among name [] = 0
offset_among name (x ∷ xs) = cond (is_same name x.name) x.offset (offset_among name xs)

abbrev pub offset_in : Typed → Option ℕ → List ℕ → ℕ
offset_in f None name = 0
offset_in f (Some n) name = offset_among name (f.parts n)

-- the offset of a struct's member
abbrev pub offset_of : Typed → CType → List ℕ → ℕ
offset_of f t name = offset_in f (structure t) name
