-- The form of a constant, by the outermost form of an expression.
use Rattle.std.proofs.Common.{◌≡◌, ℕ, List}
use Rattle.std.specs.Prelude.{ℤ, Some}
use Rattle.po_base.specs.declared.operators.Op.{Op}
use Rattle.po_tree.specs.declared.expression.Exp.{Exp, out-Exp}
use Rattle.po_tree.specs.declared.expression.Exp.TheVariants as e
use Rattle.po_tree.specs.declared.expression.Exp.TheOpen.{Exp-F}
use Rattle.po_tree.specs.declared.expression.TypeName.{TypeName}
use Rattle.po_typed.specs.Forms.{Layer}
use Rattle.po_typed.specs.Scopes.{Context, meaning, constant}
use Rattle.po_typed.specs.Expressions.{IsForm, form_number, form_character, form_enumerator, form_paren, form_plus, form_minus, form_complement, form_not, form_size_of_expression, form_size_of_type, form_cast, form_binary, form_and, form_or, form_conditional}
use Rattle.po_choices.specs.Answering.{IsIntegerName}
use Rattle.po_choices.proofs.Layers.{rolled}

-- what the form asks of the parts
abbrev pub Parts : Context → Layer → Type 0
Parts ctx (Exp-F.Var name) = (v : ℤ) × (meaning ctx name ≡ Some (constant v))
Parts ctx (Exp-F.Paren x) = IsForm ctx (out-Exp x)
Parts ctx (Exp-F.Plus x) = IsForm ctx (out-Exp x)
Parts ctx (Exp-F.Minus x) = IsForm ctx (out-Exp x)
Parts ctx (Exp-F.Compl x) = IsForm ctx (out-Exp x)
Parts ctx (Exp-F.Not x) = IsForm ctx (out-Exp x)
Parts ctx (Exp-F.Cast name x) = IsIntegerName ctx name × IsForm ctx (out-Exp x)
Parts ctx (Exp-F.Binary o x y) = IsForm ctx (out-Exp x) × IsForm ctx (out-Exp y)
Parts ctx (Exp-F.LogAnd x y) = IsForm ctx (out-Exp x) × IsForm ctx (out-Exp y)
Parts ctx (Exp-F.LogOr x y) = IsForm ctx (out-Exp x) × IsForm ctx (out-Exp y)
Parts ctx (Exp-F.Cond x y z) = IsForm ctx (out-Exp x) × (IsForm ctx (out-Exp y) × IsForm ctx (out-Exp z))
Parts ctx _ = Unit {0}

-- none of the forms of constants
pub record IsElse (x : Exp) : Type 0 where
  pub no_number : (text : List ℕ) → x ≡ e.Num text → ⊥
  pub no_character : (text : List ℕ) → x ≡ e.Chr text → ⊥
  pub no_size_of_expression : (y : Exp) → x ≡ e.SizeExp y → ⊥
  pub no_size_of_type : (name : TypeName) → x ≡ e.SizeType name → ⊥
  pub no_name : (name : List ℕ) → x ≡ e.Var name → ⊥
  pub no_paren : (y : Exp) → x ≡ e.Paren y → ⊥
  pub no_plus : (y : Exp) → x ≡ e.Plus y → ⊥
  pub no_minus : (y : Exp) → x ≡ e.Minus y → ⊥
  pub no_complement : (y : Exp) → x ≡ e.Compl y → ⊥
  pub no_not : (y : Exp) → x ≡ e.Not y → ⊥
  pub no_cast : (name : TypeName) (y : Exp) → x ≡ e.Cast name y → ⊥
  pub no_binary : (o : Op) (y z : Exp) → x ≡ e.Binary o y z → ⊥
  pub no_and : (y z : Exp) → x ≡ e.LogAnd y z → ⊥
  pub no_or : (y z : Exp) → x ≡ e.LogOr y z → ⊥
  pub no_conditional : (w y z : Exp) → x ≡ e.Cond w y z → ⊥

module _ (ctx : Context) where
  pub parts_of : {l : Layer} → IsForm ctx l → Parts ctx l
  parts_of form_number = tt
  parts_of form_character = tt
  parts_of (form_enumerator h) = (_, h)
  parts_of (form_paren h) = h
  parts_of (form_plus h) = h
  parts_of (form_minus h) = h
  parts_of (form_complement h) = h
  parts_of (form_not h) = h
  parts_of form_size_of_expression = tt
  parts_of form_size_of_type = tt
  parts_of (form_cast t q h) = ((t, q), h)
  parts_of (form_binary h k) = (h, k)
  parts_of (form_and h k) = (h, k)
  parts_of (form_or h k) = (h, k)
  parts_of (form_conditional h k l) = (h, (k, l))

  pub no_form : {l : Layer} (x : Exp) → l ≡ out-Exp x → IsElse x → IsForm ctx l → ⊥
  no_form x q n (form_number {text = text}) = n.no_number text (rolled q (e.rolls-Num text))
  no_form x q n (form_character {text = text}) = n.no_character text (rolled q (e.rolls-Chr text))
  no_form x q n (form_enumerator {name = name} h) = n.no_name name (rolled q (e.rolls-Var name))
  no_form x q n (form_paren {x = y} h) = n.no_paren y (rolled q (e.rolls-Paren y))
  no_form x q n (form_plus {x = y} h) = n.no_plus y (rolled q (e.rolls-Plus y))
  no_form x q n (form_minus {x = y} h) = n.no_minus y (rolled q (e.rolls-Minus y))
  no_form x q n (form_complement {x = y} h) = n.no_complement y (rolled q (e.rolls-Compl y))
  no_form x q n (form_not {x = y} h) = n.no_not y (rolled q (e.rolls-Not y))
  no_form x q n (form_size_of_expression {x = y}) = n.no_size_of_expression y (rolled q (e.rolls-SizeExp y))
  no_form x q n (form_size_of_type {name = name}) = n.no_size_of_type name (rolled q (e.rolls-SizeType name))
  no_form x q n (form_cast {name = name} t {x = y} k h) = n.no_cast name y (rolled q (e.rolls-Cast name y))
  no_form x q n (form_binary {o = o} {x = y} {y = z} h k) = n.no_binary o y z (rolled q (e.rolls-Binary o y z))
  no_form x q n (form_and {x = y} {y = z} h k) = n.no_and y z (rolled q (e.rolls-LogAnd y z))
  no_form x q n (form_or {x = y} {y = z} h k) = n.no_or y z (rolled q (e.rolls-LogOr y z))
  no_form x q n (form_conditional {x = w} {y = y} {z = z} h k l) = n.no_conditional w y z (rolled q (e.rolls-Cond w y z))
