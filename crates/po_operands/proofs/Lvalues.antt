-- Lvalues, and what `&` takes, by their outermost form.
use Rattle.std.proofs.Common.{◌≡◌, ℕ, List}
use Rattle.po_tree.specs.declared.expression.Exp.{Exp, out-Exp}
use Rattle.po_tree.specs.declared.expression.Exp.TheVariants as e
use Rattle.po_tree.specs.declared.expression.Exp.TheOpen.{Exp-F}
use Rattle.po_types.specs.declared.ctype.CType.{CType}
use Rattle.po_typed.specs.Forms.{Layer}
use Rattle.po_typed.specs.Scopes.{Context}
use Rattle.po_typed.specs.Expressions.{IsObject, IsLvalue, lvalue_object, lvalue_string, lvalue_paren, lvalue_index, lvalue_member, lvalue_arrow, lvalue_deref, HasAddress, address_global, address_local, address_string, address_paren, address_index, address_member, address_arrow, address_deref}
use Rattle.po_operands.proofs.Layers.{rolled}

-- none of the forms that lvalues have
pub record IsElse (x : Exp) : Type 0 where
  pub no_name : (name : List ℕ) → x ≡ e.Var name → ⊥
  pub no_string : (texts : List (List ℕ)) → x ≡ e.Str texts → ⊥
  pub no_index : (y z : Exp) → x ≡ e.Index y z → ⊥
  pub no_arrow : (y : Exp) (name : List ℕ) → x ≡ e.Arrow y name → ⊥
  pub no_deref : (y : Exp) → x ≡ e.Deref y → ⊥
  pub no_paren : (y : Exp) → x ≡ e.Paren y → ⊥
  pub no_member : (y : Exp) (name : List ℕ) → x ≡ e.Dot y name → ⊥

module _ (ctx : Context) where
  pub object_of_name : {name : List ℕ} → IsLvalue ctx (Exp-F.Var name) → (t : CType) × IsObject ctx name t
  object_of_name (lvalue_object h) = (_, h)

  pub lvalue_in_paren : {y : Exp} → IsLvalue ctx (Exp-F.Paren y) → IsLvalue ctx (out-Exp y)
  lvalue_in_paren (lvalue_paren h) = h

  pub lvalue_of_member : {y : Exp} {name : List ℕ} → IsLvalue ctx (Exp-F.Dot y name) → IsLvalue ctx (out-Exp y)
  lvalue_of_member (lvalue_member h) = h

  pub no_lvalue : {l : Layer} (x : Exp) → l ≡ out-Exp x → IsElse x → IsLvalue ctx l → ⊥
  no_lvalue x q n (lvalue_object {name = name} h) = n.no_name name (rolled q (e.rolls-Var name))
  no_lvalue x q n (lvalue_string {texts = texts}) = n.no_string texts (rolled q (e.rolls-Str texts))
  no_lvalue x q n (lvalue_paren {x = y} h) = n.no_paren y (rolled q (e.rolls-Paren y))
  no_lvalue x q n (lvalue_index {x = y} {y = z}) = n.no_index y z (rolled q (e.rolls-Index y z))
  no_lvalue x q n (lvalue_member {x = y} {name = name} h) = n.no_member y name (rolled q (e.rolls-Dot y name))
  no_lvalue x q n (lvalue_arrow {x = y} {name = name}) = n.no_arrow y name (rolled q (e.rolls-Arrow y name))
  no_lvalue x q n (lvalue_deref {x = y}) = n.no_deref y (rolled q (e.rolls-Deref y))

  pub address_in_paren : {y : Exp} → HasAddress ctx (Exp-F.Paren y) → HasAddress ctx (out-Exp y)
  address_in_paren (address_paren h) = h

  pub address_of_member : {y : Exp} {name : List ℕ} → HasAddress ctx (Exp-F.Dot y name) → HasAddress ctx (out-Exp y)
  address_of_member (address_member h) = h

  pub no_address : {l : Layer} (x : Exp) → l ≡ out-Exp x → IsElse x → HasAddress ctx l → ⊥
  no_address x q n (address_global {name = name} h k) = n.no_name name (rolled q (e.rolls-Var name))
  no_address x q n (address_local {name = name} h k) = n.no_name name (rolled q (e.rolls-Var name))
  no_address x q n (address_string {texts = texts}) = n.no_string texts (rolled q (e.rolls-Str texts))
  no_address x q n (address_paren {x = y} h) = n.no_paren y (rolled q (e.rolls-Paren y))
  no_address x q n (address_index {x = y} {y = z}) = n.no_index y z (rolled q (e.rolls-Index y z))
  no_address x q n (address_member {x = y} {name = name} h) = n.no_member y name (rolled q (e.rolls-Dot y name))
  no_address x q n (address_arrow {x = y} {name = name}) = n.no_arrow y name (rolled q (e.rolls-Arrow y name))
  no_address x q n (address_deref {x = y}) = n.no_deref y (rolled q (e.rolls-Deref y))
