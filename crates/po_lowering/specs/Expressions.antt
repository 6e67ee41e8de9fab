-- The nodes of expressions (C99 6.5): operands first, from left to right.
use Rattle.std.specs.Prelude.{ℕ, ◌+◌, ◌≡◌, ◌≢◌, ℤ, pos, List, [], ◌∷◌, ◌++◌, length, Option, Some, None, Bool, true, false}
use Rattle.po_base.specs.declared.operators.Op.{Op}
use Rattle.po_base.specs.declared.operators.Op.TheVariants as op
use Rattle.po_base.specs.declared.numbers.RegNo.{RegNo}
use Rattle.po_base.specs.declared.numbers.SlotNo.{SlotNo}
use Rattle.po_base.specs.declared.numbers.GlobalNo.{GlobalNo}
use Rattle.po_base.specs.declared.operators.UnOp.TheVariants as un
use Rattle.po_base.specs.declared.operand.Opnd.{Opnd}
use Rattle.po_base.specs.declared.operand.Opnd.TheVariants as o
use Rattle.po_base.specs.declared.spot.Spot.{Spot}
use Rattle.po_arith.specs.declared.int_type.IntType.{IntType}
use Rattle.po_ir.specs.declared.instr.Ty.TheVariants as ty
use Rattle.po_ir.specs.declared.instr.Callee.TheVariants.{Extern}
use Rattle.po_ir.specs.declared.instr.Instr.TheVariants as ins
use Rattle.po_ir.specs.declared.graph.Node.{Node}
use Rattle.po_ir.specs.Types.{is_comparison}
use Rattle.po_tree.specs.declared.expression.Exp.{Exp, out-Exp}
use Rattle.po_tree.specs.declared.expression.Exp.TheOpen.{Exp-F}
use Rattle.po_tree.specs.declared.expression.TypeName.{TypeName}
use Rattle.po_types.specs.declared.ctype.CType.{CType}
use Rattle.po_lowering.specs.declared.var.Var.TheVariants as var
use Rattle.po_lowering.specs.Places.{Place, skip, next, behind, head_of, head_in, operand_of_cast}
use Rattle.po_lowering.specs.Typed.{Typed, type_at, type_of, conversion_of, spot_at}
use Rattle.po_lowering.specs.Types.{register_type, is_scalar, is_void, referenced, access_of}
use Rattle.po_lowering.specs.Temporaries.{State, At, Takes, Holds, Saves, saved_or, Row, node, to, reg, register, put}
use Rattle.po_lowering.specs.Conversions.{Converts, tested, combines, steps, store}
use Rattle.po_lowering.specs.Naming.{Scope, variable, enumerator, named, changes, register_of}
use Rattle.po_lowering.specs.Spelling.{Spells}
use Rattle.po_lowering.specs.Forms.{Layer, IsObject, IsSameUnused, IsPlain, offset_of}
use Rattle.po_types.specs.Types.{integer}

-- what is read of an object at an address: a scalar by a Load; the value of anything else is its address
pub data Reads (f : Typed) (ns : List Node) : State → ℕ → Spot → CType → Opnd → Opnd → ℕ → State → Type 0 where
  by_address : (s : State) (a : ℕ) (spot : Spot) (t : CType) (v : Opnd) → is_scalar t ≡ false → Reads f ns s a spot t v v a s
  loaded : (s u : State) (a : ℕ) (spot : Spot) (t : CType) (v : Opnd) (r : ℕ) → is_scalar t ≡ true → Takes (register_type t) s r u →
      At ns a (ins.Load (reg r) v (access_of f t)) spot → Reads f ns s a spot t v (register r) (a + 1) u

-- a member's address: a PtrAdd with its offset, and none for offset 0
pub data Moves (ns : List Node) : State → ℕ → Spot → ℕ → Opnd → Opnd → ℕ → State → Type 0 where
  at_start : (s : State) (a : ℕ) (spot : Spot) (v : Opnd) → Moves ns s a spot 0 v v a s
  moved : (s t : State) (a : ℕ) (spot : Spot) (offset : ℕ) (v : Opnd) (r : ℕ) → offset ≢ 0 → Takes ty.Ptr s r t →
      At ns a (ins.PtrAdd (reg r) v (o.Num (pos offset)) (pos 1)) spot → Moves ns s a spot offset v (register r) (a + 1) t

-- Const 1, a Jump behind the next node, and Const 0
abbrev pub one_or_zero : ℕ → ℕ → Spot → List Node
one_or_zero a r spot = node (put r (o.Num (pos 1))) spot ∷ node (ins.Jump (to (a + 3))) spot ∷ node (put r (o.Num (pos 0))) spot ∷ []

-- the place of the last operand of `?:`
abbrev pub third : Exp → Exp → Place → Place
third x y p = skip 1 (behind y (next (behind x p)))

-- the operand of an expression without a value
abbrev pub nothing : Opnd
nothing = o.Num (pos 0)

mutual
  -- Value f c ns s a x p v b t: the nodes of an expression whose outermost form is x, and which begins at the place p of the definition, are
  -- those from a to b, and v holds its value before any conversion; s and t are what is passed on, before them and behind them
  pub data Value (f : Typed) (c : Scope) (ns : List Node) : State → ℕ → Layer → Place → Opnd → ℕ → State → Type 0 where
    -- a constant and a sizeof: no nodes, a number
    number : {s : State} {a : ℕ} {p : Place} {text : List ℕ} {n : ℤ} → f.constants p.number ≡ Some n → Value f c ns s a (Exp-F.Num text) p (o.Num n) a s
    character : {s : State} {a : ℕ} {p : Place} {text : List ℕ} {n : ℤ} → f.constants p.number ≡ Some n → Value f c ns s a (Exp-F.Chr text) p (o.Num n) a s
    size_of_expression : {s : State} {a : ℕ} {p : Place} {x : Exp} {n : ℤ} → f.constants p.number ≡ Some n → Value f c ns s a (Exp-F.SizeExp x) p (o.Num n) a s
    size_of_type : {s : State} {a : ℕ} {p : Place} {t : TypeName} {n : ℤ} → f.constants p.number ≡ Some n → Value f c ns s a (Exp-F.SizeType t) p (o.Num n) a s
    -- an enumerator is a number, and a parameter or register variable stands for itself
    constant_name : {s : State} {a : ℕ} {p : Place} {name : List ℕ} {n : ℤ} → named f c name p ≡ enumerator n → Value f c ns s a (Exp-F.Var name) p (o.Num n) a s
    register_name : {s : State} {a : ℕ} {p : Place} {name : List ℕ} {r : RegNo} → named f c name p ≡ variable (var.Reg r) → Value f c ns s a (Exp-F.Var name) p (o.Reg r) a s
    -- an object in memory: its address, then a Load
    object : {s s1 t : State} {a i b : ℕ} {p : Place} {x : Layer} {v w : Opnd} → IsObject x → Address f c ns s a x p v i s1 →
        Reads f ns s1 i (spot_at f (head_in x p)) (type_at f (head_in x p)) v w b t → Value f c ns s a x p w b t
    paren : {s t : State} {a b : ℕ} {p : Place} {x : Exp} {v : Opnd} → Value f c ns s a (out-Exp x) (next p) v b t → Value f c ns s a (Exp-F.Paren x) p v b t
    -- a call: its arguments, then a Call into a temporary, and into none where the result is void
    call : {s s1 t : State} {a i r : ℕ} {p : Place} {x : Exp} {name : List ℕ} {xs : List Exp} {vs : List Opnd} → out-Exp x ≡ Exp-F.Var name →
        Arguments f c ns s a xs (next (behind x p)) vs i s1 → is_void (type_at f (behind x p)) ≡ false → Takes (register_type (type_at f (behind x p))) s1 r t →
        At ns i (ins.Call (Some (reg r)) (Extern name) vs (f.strings (behind x p).number)) (spot_at f (behind x p)) → Value f c ns s a (Exp-F.Call x xs) p (register r) (i + 1) t
    void_call : {s t : State} {a i : ℕ} {p : Place} {x : Exp} {name : List ℕ} {xs : List Exp} {vs : List Opnd} → out-Exp x ≡ Exp-F.Var name →
        Arguments f c ns s a xs (next (behind x p)) vs i t → is_void (type_at f (behind x p)) ≡ true →
        At ns i (ins.Call None (Extern name) vs (f.strings (behind x p).number)) (spot_at f (behind x p)) → Value f c ns s a (Exp-F.Call x xs) p nothing (i + 1) t
    -- `+` has no node, `-` and `~` have a Un, and `!` has a comparison with 0
    plus : {s t : State} {a b : ℕ} {p : Place} {x : Exp} {v : Opnd} → Operand f c ns s a x (next p) v b t → Value f c ns s a (Exp-F.Plus x) p v b t
    minus : {s s1 t : State} {a i r : ℕ} {p : Place} {x : Exp} {v : Opnd} {ty : IntType} → Operand f c ns s a x (next p) v i s1 → integer (type_at f p) ≡ Some ty →
        Takes (register_type (type_at f p)) s1 r t → At ns i (ins.Un (reg r) un.Neg ty v) (spot_at f p) → Value f c ns s a (Exp-F.Minus x) p (register r) (i + 1) t
    complement : {s s1 t : State} {a i r : ℕ} {p : Place} {x : Exp} {v : Opnd} {ty : IntType} → Operand f c ns s a x (next p) v i s1 → integer (type_at f p) ≡ Some ty →
        Takes (register_type (type_at f p)) s1 r t → At ns i (ins.Un (reg r) un.Not ty v) (spot_at f p) → Value f c ns s a (Exp-F.Compl x) p (register r) (i + 1) t
    not_value : {s s1 t : State} {a i r : ℕ} {p : Place} {x : Exp} {v : Opnd} → Value f c ns s a (out-Exp x) (next p) v i s1 → Takes (register_type (type_at f p)) s1 r t →
        At ns i (ins.Bin (reg r) op.Eq (tested (type_of f x (next p))) v (o.Num (pos 0))) (spot_at f p) → Value f c ns s a (Exp-F.Not x) p (register r) (i + 1) t
    -- `&lv`: lv's address
    address_of : {s t : State} {a b : ℕ} {p : Place} {x : Exp} {v : Opnd} → Address f c ns s a (out-Exp x) (next p) v b t → Value f c ns s a (Exp-F.Addr x) p v b t
    -- a cast: the conversion, whose node has the cast's `(`; under a cast to void the value isn't used
    cast : {s s1 t : State} {a i b : ℕ} {p : Place} {y : TypeName} {x : Exp} {v w : Opnd} → is_void (type_at f p) ≡ false → Value f c ns s a (out-Exp x) (operand_of_cast y p) v i s1 →
        Converts f ns s1 i (spot_at f p) (type_of f x (operand_of_cast y p)) (type_at f p) v w b t → Value f c ns s a (Exp-F.Cast y x) p w b t
    void_cast : {s t : State} {a b : ℕ} {p : Place} {y : TypeName} {x : Exp} → is_void (type_at f p) ≡ true → Unused f c ns s a (out-Exp x) (operand_of_cast y p) b t →
        Value f c ns s a (Exp-F.Cast y x) p nothing b t
    -- arithmetic, comparison, `p+i`, `p-i`, `p-q`
    binary : {s s1 t : State} {a i r : ℕ} {p : Place} {operator : Op} {x y : Exp} {v w : Opnd} → Both f c ns s a x y p v w i s1 →
        Takes (register_type (type_at f (behind x p))) s1 r t →
        At ns i (combines f operator (conversion_of f x p) (conversion_of f y (next (behind x p))) v w r) (spot_at f (behind x p)) →
        Value f c ns s a (Exp-F.Binary operator x y) p (register r) (i + 1) t
    -- `&&` and `||` as a value: condition, Const 1, Jump, Const 0, into one temporary
    and_value : {s s1 t : State} {a i r : ℕ} {p : Place} {y : Exp} {x : Exp} → Condition f c ns s a (Exp-F.LogAnd x y) p i (i + 2) i s1 → Takes (register_type (type_at f (behind x p))) s1 r t →
        Row ns i (one_or_zero i r (spot_at f (behind x p))) (i + 3) → Value f c ns s a (Exp-F.LogAnd x y) p (register r) (i + 3) t
    or_value : {s s1 t : State} {a i r : ℕ} {p : Place} {y : Exp} {x : Exp} → Condition f c ns s a (Exp-F.LogOr x y) p i (i + 2) i s1 → Takes (register_type (type_at f (behind x p))) s1 r t →
        Row ns i (one_or_zero i r (spot_at f (behind x p))) (i + 3) → Value f c ns s a (Exp-F.LogOr x y) p (register r) (i + 3) t
    -- `?:`: condition, value and Const or Copy, Jump, value and Const or Copy; where it is void no value is used
    choice : {s s1 s2 s3 t : State} {a i j k r : ℕ} {p : Place} {x y z : Exp} {v w : Opnd} → is_void (type_at f (behind x p)) ≡ false → Condition f c ns s a (out-Exp x) p i (j + 2) i s1 →
        Operand f c ns s1 i y (next (behind x p)) v j s2 → Takes (register_type (type_at f (behind x p))) s2 r s3 → At ns j (put r v) (spot_at f (behind x p)) →
        At ns (j + 1) (ins.Jump (to (k + 1))) (spot_at f (behind x p)) → Operand f c ns s3 (j + 2) z (third x y p) w k t → At ns k (put r w) (spot_at f (behind x p)) →
        Value f c ns s a (Exp-F.Cond x y z) p (register r) (k + 1) t
    void_choice : {s s1 s2 t : State} {a i j k : ℕ} {p : Place} {x y z : Exp} → is_void (type_at f (behind x p)) ≡ true → Condition f c ns s a (out-Exp x) p i (j + 1) i s1 →
        Unused f c ns s1 i (out-Exp y) (next (behind x p)) j s2 → At ns j (ins.Jump (to k)) (spot_at f (behind x p)) → Unused f c ns s2 (j + 1) (out-Exp z) (third x y p) k t →
        Value f c ns s a (Exp-F.Cond x y z) p nothing k t
    -- `v = e`: e, then Const or Copy; the value is v
    set_register : {s t : State} {a i r : ℕ} {p : Place} {y : Exp} {x : Exp} {v : Opnd} → register_of c x ≡ Some r → Operand f c ns s a y (next (behind x p)) v i t →
        At ns i (put r v) (spot_at f (behind x p)) → Value f c ns s a (Exp-F.Assign None x y) p (register r) (i + 1) t
    -- `lv = e`: address, e, Store; the value is e's operand
    set_object : {s s1 s2 t : State} {a i j k : ℕ} {p : Place} {x y : Exp} {v w z : Opnd} → register_of c x ≡ None → Address f c ns s a (out-Exp x) p v i s1 →
        Holds ns s1 i (spot_at f (head_of x p)) v (changes c v (y ∷ [])) w j s2 → Operand f c ns s2 j y (next (behind x p)) z k t →
        At ns k (store f (type_of f x p) w z) (spot_at f (behind x p)) → Value f c ns s a (Exp-F.Assign None x y) p z (k + 1) t
    -- `v op= e`: v's conversion, e, Bin or PtrAdd, conversion, Copy; the value is v
    update_register : {s s1 s2 s3 s4 t : State} {a i j k l r m : ℕ} {p : Place} {operator : Op} {y : Exp} {x : Exp} {v w z u : Opnd} → register_of c x ≡ Some r →
        Converts f ns s a (spot_at f (head_of x p)) (type_of f x p) (conversion_of f x p) (register r) v i s1 →
        Holds ns s1 i (spot_at f (head_of x p)) v (changes c v (y ∷ [])) w j s2 → Operand f c ns s2 j y (next (behind x p)) z k s3 →
        Takes (register_type (conversion_of f x p)) s3 m s4 →
        At ns k (combines f operator (conversion_of f x p) (conversion_of f y (next (behind x p))) w z m) (spot_at f (behind x p)) →
        Converts f ns s4 (k + 1) (spot_at f (behind x p)) (conversion_of f x p) (type_of f x p) (register m) u l t → At ns l (put r u) (spot_at f (behind x p)) →
        Value f c ns s a (Exp-F.Assign (Some operator) x y) p (register r) (l + 1) t
    -- `lv op= e`: address, Load, its conversion, e, Bin or PtrAdd, conversion, Store; the value is the Store's operand
    update_object : {s s1 s2 s3 s4 s5 s6 t : State} {a i j k l m n q : ℕ} {p : Place} {operator : Op} {x y : Exp} {d h v z u : Opnd} → register_of c x ≡ None →
        Address f c ns s a (out-Exp x) p d i s1 → Holds ns s1 i (spot_at f (head_of x p)) d (changes c d (y ∷ [])) h j s2 → Takes (register_type (type_of f x p)) s2 q s3 →
        At ns j (ins.Load (reg q) h (access_of f (type_of f x p))) (spot_at f (behind x p)) →
        Converts f ns s3 (j + 1) (spot_at f (head_of x p)) (type_of f x p) (conversion_of f x p) (register q) v k s4 →
        Operand f c ns s4 k y (next (behind x p)) z l s5 → Takes (register_type (conversion_of f x p)) s5 m s6 →
        At ns l (combines f operator (conversion_of f x p) (conversion_of f y (next (behind x p))) v z m) (spot_at f (behind x p)) →
        Converts f ns s6 (l + 1) (spot_at f (behind x p)) (conversion_of f x p) (type_of f x p) (register m) u n t →
        At ns n (ins.Store h u (access_of f (type_of f x p))) (spot_at f (behind x p)) → Value f c ns s a (Exp-F.Assign (Some operator) x y) p u (n + 1) t
    -- `++lv`, `--lv`, and `lv++`, `lv--` where the value is used
    pre_increment : {s t : State} {a b : ℕ} {p : Place} {x : Exp} {v : Opnd} → Steps f c ns s a x (next p) p op.Add false v b t → Value f c ns s a (Exp-F.PreInc x) p v b t
    pre_decrement : {s t : State} {a b : ℕ} {p : Place} {x : Exp} {v : Opnd} → Steps f c ns s a x (next p) p op.Sub false v b t → Value f c ns s a (Exp-F.PreDec x) p v b t
    post_increment : {s t : State} {a b : ℕ} {p : Place} {x : Exp} {v : Opnd} → Steps f c ns s a x p (behind x p) op.Add true v b t → Value f c ns s a (Exp-F.PostInc x) p v b t
    post_decrement : {s t : State} {a b : ℕ} {p : Place} {x : Exp} {v : Opnd} → Steps f c ns s a x p (behind x p) op.Sub true v b t → Value f c ns s a (Exp-F.PostDec x) p v b t
    -- `,`: the left value isn't used
    comma : {s s1 t : State} {a i b : ℕ} {p : Place} {x y : Exp} {v : Opnd} → Unused f c ns s a (out-Exp x) p i s1 → Operand f c ns s1 i y (next (behind x p)) v b t →
        Value f c ns s a (Exp-F.Comma x y) p v b t

  -- the value, converted to the type that typing gives; the conversion's node has the head of what is converted
  pub data Operand (f : Typed) (c : Scope) (ns : List Node) : State → ℕ → Exp → Place → Opnd → ℕ → State → Type 0 where
    operand : {s s1 t : State} {a i b : ℕ} {p : Place} {x : Exp} {v w : Opnd} → Value f c ns s a (out-Exp x) p v i s1 →
        Converts f ns s1 i (spot_at f (head_of x p)) (type_of f x p) (conversion_of f x p) v w b t → Operand f c ns s a x p w b t

  -- Both f c ns s a x y p v w b t: the operands x and y with one token between them, the second directly behind a Copy of the first where it assigns it
  pub data Both (f : Typed) (c : Scope) (ns : List Node) : State → ℕ → Exp → Exp → Place → Opnd → Opnd → ℕ → State → Type 0 where
    both : {s s1 s2 t : State} {a i j b : ℕ} {p : Place} {x y : Exp} {v w z : Opnd} → Operand f c ns s a x p v i s1 →
        Holds ns s1 i (spot_at f (head_of x p)) v (changes c v (y ∷ [])) w j s2 → Operand f c ns s2 j y (next (behind x p)) z b t →
        Both f c ns s a x y p w z b t

  -- a call's arguments, the first one at the place
  pub data Arguments (f : Typed) (c : Scope) (ns : List Node) : State → ℕ → List Exp → Place → List Opnd → ℕ → State → Type 0 where
    no_more : {s : State} {a : ℕ} {p : Place} → Arguments f c ns s a [] p [] a s
    one_more : {s s1 s2 t : State} {a i j b : ℕ} {p : Place} {x : Exp} {xs : List Exp} {v w : Opnd} {ws : List Opnd} → Operand f c ns s a x p v i s1 →
        Holds ns s1 i (spot_at f (head_of x p)) v (changes c v xs) w j s2 → Arguments f c ns s2 j xs (skip 1 (behind x p)) ws b t →
        Arguments f c ns s a (x ∷ xs) p (w ∷ ws) b t

  -- the address of what an expression designates
  pub data Address (f : Typed) (c : Scope) (ns : List Node) : State → ℕ → Layer → Place → Opnd → ℕ → State → Type 0 where
    slot_address : {s t : State} {a r : ℕ} {p : Place} {name : List ℕ} {k : SlotNo} → named f c name p ≡ variable (var.Slot k) → Takes ty.Ptr s r t →
        At ns a (ins.AddrSlot (reg r) k) (spot_at f p) → Address f c ns s a (Exp-F.Var name) p (register r) (a + 1) t
    global_address : {s t : State} {a r : ℕ} {p : Place} {name : List ℕ} {g : GlobalNo} → named f c name p ≡ variable (var.Global g) → Takes ty.Ptr s r t →
        At ns a (ins.AddrGlobal (reg r) g) (spot_at f p) → Address f c ns s a (Exp-F.Var name) p (register r) (a + 1) t
    -- each AddrStr has a literal of its own
    literal_address : {s t : State} {a r : ℕ} {p : Place} {texts : List (List ℕ)} {bytes : List ℕ} → Spells texts bytes → Takes ty.Ptr s r t →
        At ns a (ins.AddrStr (reg r) (record { 0 = f.texts + length s.texts })) (spot_at f p) →
        Address f c ns s a (Exp-F.Str texts) p (register r) (a + 1) (record t { texts = s.texts ++ bytes ∷ [] })
    paren_address : {s t : State} {a b : ℕ} {p : Place} {x : Exp} {v : Opnd} → Address f c ns s a (out-Exp x) (next p) v b t → Address f c ns s a (Exp-F.Paren x) p v b t
    -- `a[i]`: PtrAdd with the element size, also for index 0
    element_address : {s s1 t : State} {a i r : ℕ} {p : Place} {x y : Exp} {v w : Opnd} → Both f c ns s a x y p v w i s1 → Takes ty.Ptr s1 r t →
        At ns i (combines f op.Add (conversion_of f x p) (conversion_of f y (next (behind x p))) v w r) (spot_at f (behind x p)) →
        Address f c ns s a (Exp-F.Index x y) p (register r) (i + 1) t
    -- `*p`: the value of p
    pointed_address : {s t : State} {a b : ℕ} {p : Place} {x : Exp} {v : Opnd} → Operand f c ns s a x (next p) v b t → Address f c ns s a (Exp-F.Deref x) p v b t
    -- `.m` and `->m`: PtrAdd with the offset, none for offset 0
    member_address : {s s1 t : State} {a i b : ℕ} {p : Place} {x : Exp} {name : List ℕ} {v w : Opnd} → Value f c ns s a (out-Exp x) p v i s1 →
        Moves ns s1 i (spot_at f (behind x p)) (offset_of f (type_of f x p) name) v w b t → Address f c ns s a (Exp-F.Dot x name) p w b t
    pointed_member_address : {s s1 t : State} {a i b : ℕ} {p : Place} {x : Exp} {name : List ℕ} {v w : Opnd} → Operand f c ns s a x p v i s1 →
        Moves ns s1 i (spot_at f (behind x p)) (offset_of f (referenced (conversion_of f x p)) name) v w b t → Address f c ns s a (Exp-F.Arrow x name) p w b t

  -- Steps f c ns s a x p h operator old v b t: x, at the place p, is moved by 1 by an operator whose token stands at h; old says that the value is the old one
  pub data Steps (f : Typed) (c : Scope) (ns : List Node) : State → ℕ → Exp → Place → Place → Op → Bool → Opnd → ℕ → State → Type 0 where
    step_register : {s s1 s2 t : State} {a i j r m : ℕ} {p h : Place} {operator : Op} {old : Bool} {x : Exp} {v : Option Opnd} {u : Opnd} → register_of c x ≡ Some r →
        Saves ns s a (spot_at f h) (register_type (type_of f x p)) old (reg r) v i s1 → Takes (register_type (conversion_of f x p)) s1 m s2 →
        At ns i (steps f operator (conversion_of f x p) (register r) m) (spot_at f h) →
        Converts f ns s2 (i + 1) (spot_at f h) (conversion_of f x p) (type_of f x p) (register m) u j t → At ns j (put r u) (spot_at f h) →
        Steps f c ns s a x p h operator old (saved_or v (register r)) (j + 1) t
    step_object : {s s1 s2 s3 s4 t : State} {a i j k q m : ℕ} {p h : Place} {operator : Op} {old : Bool} {x : Exp} {d u : Opnd} {v : Option Opnd} → register_of c x ≡ None →
        Address f c ns s a (out-Exp x) p d i s1 → Takes (register_type (type_of f x p)) s1 q s2 → At ns i (ins.Load (reg q) d (access_of f (type_of f x p))) (spot_at f h) →
        Saves ns s2 (i + 1) (spot_at f h) (register_type (type_of f x p)) old (reg q) v j s3 → Takes (register_type (conversion_of f x p)) s3 m s4 →
        At ns j (steps f operator (conversion_of f x p) (register q) m) (spot_at f h) →
        Converts f ns s4 (j + 1) (spot_at f h) (conversion_of f x p) (type_of f x p) (register m) u k t →
        At ns k (ins.Store d u (access_of f (type_of f x p))) (spot_at f h) → Steps f c ns s a x p h operator old (saved_or v u) (k + 1) t

  -- the value isn't used: `lv++` is as `++lv`; so it is in parentheses and as the right operand of `,`, and any other form has its nodes all the same
  pub data Unused (f : Typed) (c : Scope) (ns : List Node) : State → ℕ → Layer → Place → ℕ → State → Type 0 where
    unused_increment : {s t : State} {a b : ℕ} {p : Place} {x : Exp} {v : Opnd} → Steps f c ns s a x p (behind x p) op.Add false v b t → Unused f c ns s a (Exp-F.PostInc x) p b t
    unused_decrement : {s t : State} {a b : ℕ} {p : Place} {x : Exp} {v : Opnd} → Steps f c ns s a x p (behind x p) op.Sub false v b t → Unused f c ns s a (Exp-F.PostDec x) p b t
    unused_paren : {s t : State} {a b : ℕ} {p : Place} {x : Exp} → Unused f c ns s a (out-Exp x) (next p) b t → Unused f c ns s a (Exp-F.Paren x) p b t
    unused_comma : {s s1 t : State} {a i b : ℕ} {p : Place} {x y : Exp} → Unused f c ns s a (out-Exp x) p i s1 → Unused f c ns s1 i (out-Exp y) (next (behind x p)) b t →
        Unused f c ns s a (Exp-F.Comma x y) p b t
    unused_value : {s t : State} {a b : ℕ} {p : Place} {x : Layer} {v : Opnd} → IsSameUnused x → Value f c ns s a x p v b t → Unused f c ns s a x p b t

  -- Condition f c ns s a x p hit miss b t: the nodes from a to b go to hit where x isn't 0, and to miss where it is
  pub data Condition (f : Typed) (c : Scope) (ns : List Node) : State → ℕ → Layer → Place → ℕ → ℕ → ℕ → State → Type 0 where
    and_then : {s s1 t : State} {a i b hit miss : ℕ} {p : Place} {x y : Exp} → Condition f c ns s a (out-Exp x) p i miss i s1 →
        Condition f c ns s1 i (out-Exp y) (next (behind x p)) hit miss b t → Condition f c ns s a (Exp-F.LogAnd x y) p hit miss b t
    or_else : {s s1 t : State} {a i b hit miss : ℕ} {p : Place} {x y : Exp} → Condition f c ns s a (out-Exp x) p hit i i s1 →
        Condition f c ns s1 i (out-Exp y) (next (behind x p)) hit miss b t → Condition f c ns s a (Exp-F.LogOr x y) p hit miss b t
    -- `!` swaps the sides and changes no operator
    swapped : {s t : State} {a b hit miss : ℕ} {p : Place} {x : Exp} → Condition f c ns s a (out-Exp x) (next p) miss hit b t → Condition f c ns s a (Exp-F.Not x) p hit miss b t
    in_parens : {s t : State} {a b hit miss : ℕ} {p : Place} {x : Exp} → Condition f c ns s a (out-Exp x) (next p) hit miss b t → Condition f c ns s a (Exp-F.Paren x) p hit miss b t
    -- a comparison gives an If with its operator
    comparison : {s t : State} {a i hit miss : ℕ} {p : Place} {operator : Op} {x y : Exp} {v w : Opnd} → is_comparison operator ≡ true → Both f c ns s a x y p v w i t →
        At ns i (ins.If operator (register_type (conversion_of f x p)) v w (to hit) (to miss)) (spot_at f (behind x p)) →
        Condition f c ns s a (Exp-F.Binary operator x y) p hit miss (i + 1) t
    -- any other e gives `If Ne e 0`
    test : {s t : State} {a i hit miss : ℕ} {p : Place} {x : Layer} {v : Opnd} → IsPlain x → Value f c ns s a x p v i t →
        At ns i (ins.If op.Ne (tested (type_at f (head_in x p))) v (o.Num (pos 0)) (to hit) (to miss)) (spot_at f (head_in x p)) → Condition f c ns s a x p hit miss (i + 1) t
