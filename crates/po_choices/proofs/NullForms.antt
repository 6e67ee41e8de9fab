-- Constants 0 and null pointers, by their outermost form.
use Rattle.std.proofs.Common.{◌≡◌, ℕ, List, Bool, sym, subst}
use Rattle.po_tree.specs.declared.expression.Exp.{Exp, out-Exp}
use Rattle.po_tree.specs.declared.expression.Exp.TheVariants as e
use Rattle.po_tree.specs.declared.expression.Exp.TheOpen.{Exp-F}
use Rattle.po_tree.specs.declared.expression.TypeName.{TypeName}
use Rattle.po_types.specs.declared.ctype.CType.TheVariants as c
use Rattle.po_typed.specs.Forms.{Layer}
use Rattle.po_typed.specs.Scopes.{Context}
use Rattle.po_typed.specs.Expressions.{IsPlainName, IsNull, null_number, null_character, null_enumerator, null_paren, null_plus, null_cast, IsNullPointer, null_pointer, null_pointer_paren}
use Rattle.po_choices.specs.Answering.{IsIntegerName, IsWhether}
use Rattle.po_choices.proofs.Layers.{rolled, has_form, of_form, handed_on}
use Rattle.po_choices.proofs.Whether.{whether_as}

-- none of the forms that a constant 0 has
pub record IsElse (x : Exp) : Type 0 where
  pub no_number : (text : List ℕ) → x ≡ e.Num text → ⊥
  pub no_character : (text : List ℕ) → x ≡ e.Chr text → ⊥
  pub no_name : (name : List ℕ) → x ≡ e.Var name → ⊥
  pub no_paren : (y : Exp) → x ≡ e.Paren y → ⊥
  pub no_plus : (y : Exp) → x ≡ e.Plus y → ⊥
  pub no_cast : (name : TypeName) (y : Exp) → x ≡ e.Cast name y → ⊥

module _ (ctx : Context) where
  pub null_in_paren : {y : Exp} → IsNull ctx (Exp-F.Paren y) → IsNull ctx (out-Exp y)
  null_in_paren (null_paren h) = h

  pub null_in_plus : {y : Exp} → IsNull ctx (Exp-F.Plus y) → IsNull ctx (out-Exp y)
  null_in_plus (null_plus h) = h

  pub null_in_cast : {name : TypeName} {y : Exp} → IsNull ctx (Exp-F.Cast name y) → IsIntegerName ctx name × IsNull ctx (out-Exp y)
  null_in_cast (null_cast t q h) = ((t, q), h)

  pub null_pointer_in_paren : {y : Exp} → IsNullPointer ctx (Exp-F.Paren y) → IsNullPointer ctx (out-Exp y)
  null_pointer_in_paren (null_pointer_paren h) = h

  pub null_pointer_in_cast : {name : TypeName} {y : Exp} → IsNullPointer ctx (Exp-F.Cast name y) → IsPlainName ctx name (c.Ptr c.Void) × IsNull ctx (out-Exp y)
  null_pointer_in_cast (null_pointer q h) = (q, h)

  pub no_null : {l : Layer} (x : Exp) → l ≡ out-Exp x → IsElse x → IsNull ctx l → ⊥
  no_null x q n (null_number {text = text} h) = n.no_number text (rolled q (e.rolls-Num text))
  no_null x q n (null_character {text = text} h) = n.no_character text (rolled q (e.rolls-Chr text))
  no_null x q n (null_enumerator {name = name} h) = n.no_name name (rolled q (e.rolls-Var name))
  no_null x q n (null_paren {x = y} h) = n.no_paren y (rolled q (e.rolls-Paren y))
  no_null x q n (null_plus {x = y} h) = n.no_plus y (rolled q (e.rolls-Plus y))
  no_null x q n (null_cast {name = name} t {x = y} k h) = n.no_cast name y (rolled q (e.rolls-Cast name y))

  pub no_null_pointer : {l : Layer} (x : Exp) → l ≡ out-Exp x → ((name : TypeName) (y : Exp) → x ≡ e.Cast name y → ⊥) → ((y : Exp) → x ≡ e.Paren y → ⊥) → IsNullPointer ctx l → ⊥
  no_null_pointer x q no_cast no_paren (null_pointer {name = name} {x = y} k h) = no_cast name y (rolled q (e.rolls-Cast name y))
  no_null_pointer x q no_cast no_paren (null_pointer_paren {x = y} h) = no_paren y (rolled q (e.rolls-Paren y))

  -- a cast, where what is known of the whole expression is what is known of this one
  module _ (G : Type 0) (x : Exp) (name n : TypeName) (y z : Exp) (is : x ≡ e.Cast name y) (same_name : n ≡ name) (same_operand : z ≡ y) where
    pub null_under_cast : IsIntegerName ctx n → ((IsNull ctx (out-Exp x) → G) × (G → IsNull ctx (out-Exp x))) → (IsNull ctx (out-Exp z) → G) × (G → IsNull ctx (out-Exp z))
    null_under_cast said known =
        let t = subst (IsIntegerName ctx) same_name said in
        handed_on (IsNull ctx) G is (e.rolls-Cast name y) same_operand (λ h. null_cast t.0 t.1 h) (λ h. (null_in_cast h).1) known

    pub null_pointer_is_cast : IsPlainName ctx n (c.Ptr c.Void) → ((IsNullPointer ctx (out-Exp x) → G) × (G → IsNullPointer ctx (out-Exp x))) →
        (b : Bool) → IsWhether (IsNull ctx (out-Exp z)) b → IsWhether G b
    null_pointer_is_cast said known b h = whether_as b
        (λ k. known.0 (has_form (IsNullPointer ctx) is (e.rolls-Cast name y) (null_pointer (subst (λ v. IsPlainName ctx v (c.Ptr c.Void)) same_name said) (subst (λ v. IsNull ctx (out-Exp v)) same_operand k))))
        (λ g. subst (λ v. IsNull ctx (out-Exp v)) (sym same_operand) (null_pointer_in_cast (of_form (IsNullPointer ctx) is (e.rolls-Cast name y) (known.1 g))).1)
        h

  module _ (G : Type 0) (x : Exp) (name n : TypeName) (y : Exp) (is : x ≡ e.Cast name y) (same_name : n ≡ name) where
    pub null_pointer_is_to_void : (IsPlainName ctx n (c.Ptr c.Void) → ⊥) → (G → IsNullPointer ctx (out-Exp x)) → G → ⊥
    null_pointer_is_to_void other known g =
        other (subst (λ v. IsPlainName ctx v (c.Ptr c.Void)) (sym same_name) (null_pointer_in_cast (of_form (IsNullPointer ctx) is (e.rolls-Cast name y) (known g))).0)
