-- What a value is converted to where it is assigned, cast, promoted or printed (C99 6.5.3.3, 6.5.4, 6.5.16.1, 7.19.6.1).
use Rattle.std.specs.Prelude.{ℕ, ◌≡◌, ◌⊎◌, [], ◌∷◌, Contains}
use Rattle.po_arith.specs.declared.int_type.IntType.{IntType}
use Rattle.po_arith.specs.declared.target.Target.{Target}
use Rattle.po_tree.specs.declared.expression.Exp.{Exp, out-Exp}
use Rattle.po_types.specs.declared.ctype.CType.{CType}
use Rattle.po_types.specs.declared.ctype.CType.TheVariants as c
use Rattle.po_types.specs.declared.format.Spec.{Spec}
use Rattle.po_types.specs.declared.format.Spec.TheVariants as f
use Rattle.po_types.specs.Integers.{promoted, int_type, bool_type, size_type, long_type, unsigned_type}
use Rattle.po_typed.specs.Scopes.{Context}
use Rattle.po_typed.specs.Expressions.{IsNull, char}

-- Assigns ctx x v t: the operand x, a value of type v, may be assigned to an object of the type t, and is converted to t (6.5.16.1p1)
pub data Assigns (ctx : Context) : Exp → CType → CType → Type 0 where
  assigns_number : {x : Exp} (s t : IntType) → Assigns ctx x (c.Int s) (c.Int t)
  assigns_struct : {x : Exp} (n : ℕ) → Assigns ctx x (c.Struct n) (c.Struct n)
  assigns_pointer : {x : Exp} (t u : CType) → Assigns ctx x (c.Ptr u) (c.Ptr t)
  assigns_null : {x : Exp} (s : IntType) (t : CType) → IsNull ctx (out-Exp x) → Assigns ctx x (c.Int s) (c.Ptr t)
  assigns_bool : {x : Exp} (u : CType) → Assigns ctx x (c.Ptr u) (c.Int bool_type)

-- Casts ctx x v t a: the operand x, a value of type v, may be cast to the type t, and is converted to a before (6.5.4p2, p3, 6.3.2.2)
pub data Casts (ctx : Context) : Exp → CType → CType → CType → Type 0 where
  casts_to_void : {x : Exp} (v : CType) → Casts ctx x v c.Void c.Void
  casts_number : {x : Exp} (s t : IntType) → Casts ctx x (c.Int s) (c.Int t) (c.Int s)
  casts_pointer : {x : Exp} (t u : CType) → Casts ctx x (c.Ptr u) (c.Ptr t) (c.Ptr u)
  casts_null : {x : Exp} (s : IntType) (t : CType) → IsNull ctx (out-Exp x) → Casts ctx x (c.Int s) (c.Ptr t) (c.Int s)
  casts_to_bool : {x : Exp} (u : CType) → Casts ctx x (c.Ptr u) (c.Int bool_type) (c.Ptr u)

-- a value that may be assigned is cast as it is
abbrev pub CastsAsAssigned : Context → Exp → CType → CType → CType → Type 0
CastsAsAssigned ctx x v t a = Assigns ctx x v t × (a ≡ v)

-- Promotes v t: the operand of `+`, `-` or `~`, a value of type v, is converted to t (6.5.3.3p2 to p4)
pub data Promotes : CType → CType → Type 0 where
  promotes : (s : IntType) → Promotes (c.Int s) (c.Int (promoted s))

-- the same, where what the number is promoted to is one of two types
pub record PromotesTo (first second : IntType) (v a : CType) : Type 0 where
  pub number : IntType
  pub value : v ≡ c.Int number
  pub fits : (first ≡ promoted number) ⊎ (second ≡ promoted number)
  pub conversion : a ≡ c.Int (promoted number)

-- PrintsAs target spec v a: what reads the argument of this kind takes a value of type v, which is converted to a (7.19.6.1p7, p8, 6.5.2.2p6)
pub data PrintsAs (target : Target) : Spec → CType → CType → Type 0 where
  prints_int : (s : IntType) → Contains (int_type ∷ unsigned_type 32 ∷ []) (promoted s) → PrintsAs target f.Int (c.Int s) (c.Int (promoted s))
  prints_long : (s : IntType) → Contains (long_type target ∷ size_type target ∷ []) (promoted s) → PrintsAs target f.Long (c.Int s) (c.Int (promoted s))
  prints_size : (s : IntType) → Contains (long_type target ∷ size_type target ∷ []) (promoted s) → PrintsAs target f.Size (c.Int s) (c.Int (promoted s))
  prints_text : PrintsAs target f.Text (c.Ptr char) (c.Ptr char)
