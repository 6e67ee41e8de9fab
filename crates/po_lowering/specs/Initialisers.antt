-- The nodes of initialisers (C99 6.7.8). All of them but those of its expressions have the declarator's Word.
use Rattle.std.specs.Prelude.{ℕ, ◌+◌, ◌≡◌, ◌==◌, ℤ, pos, List, [], ◌∷◌, ◌++◌, Option, Some, None, Bool, true, false, cond}
use Rattle.po_base.specs.declared.numbers.SlotNo.{SlotNo}
use Rattle.po_base.specs.declared.numbers.RegNo.{RegNo}
use Rattle.po_base.specs.declared.numbers.GlobalNo.{GlobalNo}
use Rattle.po_base.specs.declared.operand.Opnd.{Opnd}
use Rattle.po_base.specs.declared.operand.Opnd.TheVariants as o
use Rattle.po_base.specs.declared.spot.Spot.{Spot}
use Rattle.po_ir.specs.declared.instr.Ty.TheVariants as ty
use Rattle.po_ir.specs.declared.instr.Instr.TheVariants as ins
use Rattle.po_ir.specs.declared.graph.Node.{Node}
use Rattle.po_tree.specs.declared.expression.Exp.{Exp, out-Exp}
use Rattle.po_tree.specs.declared.expression.Exp.TheOpen.{Exp-F}
use Rattle.po_tree.specs.declared.declaration.Init.{Init, out-Init}
use Rattle.po_tree.specs.declared.declaration.Init.TheOpen.{Init-F}
use Rattle.po_types.specs.declared.ctype.CType.{CType, out-CType}
use Rattle.po_types.specs.declared.ctype.CType.TheVariants as c
use Rattle.po_types.specs.declared.ctype.CType.TheOpen.{CType-F}
use Rattle.po_lowering.specs.declared.var.Var.{Var}
use Rattle.po_lowering.specs.declared.var.Var.TheVariants as var
use Rattle.po_lowering.specs.Places.{Place, skip, behind_init}
use Rattle.po_lowering.specs.Typed.{Typed, Part}
use Rattle.po_types.specs.Integers.{int_type}
use Rattle.po_lowering.specs.Temporaries.{State, At, Takes, reg, register, put}
use Rattle.po_lowering.specs.Conversions.{Converts, store}
use Rattle.po_lowering.specs.Naming.{Scope}
use Rattle.po_lowering.specs.Spelling.{Spells, characters_given}
use Rattle.po_lowering.specs.Forms.{Layer}
use Rattle.po_lowering.specs.Expressions.{Operand, Moves}

-- what an initialiser gives an object: one value, whose expression stands behind so many braces; a text, with the number of elements; its
-- elements; or its members
pub data Given : Type 0 where
  value : Exp → ℕ → Given
  text : CType → Option ℕ → List (List ℕ) → Given
  elements : CType → List Init → Given
  members : List Part → List Init → Given

abbrev pub has_bytes_in : CType-F CType → Bool
has_bytes_in (CType-F.Int t) = t.bits == 8
has_bytes_in _ = false

-- an array that a string literal may initialise has elements of 8 bits
abbrev pub has_bytes : CType → Bool
has_bytes t = has_bytes_in (out-CType t)

abbrev pub string_in : Layer → Option (List (List ℕ))
string_in (Exp-F.Str texts) = Some texts
string_in _ = None

abbrev pub string_alone : Init-F Init → Option (List (List ℕ))
string_alone (Init-F.One x) = string_in (out-Exp x)
string_alone (Init-F.Many xs more) = None

abbrev pub string_among : List Init → Option (List (List ℕ))
string_among [] = None
string_among (x ∷ []) = string_alone (out-Init x)
string_among (x ∷ y ∷ rest) = None

abbrev pub as_text : Bool → CType → Option ℕ → Option (List (List ℕ)) → Option Given → Option Given
as_text true element count (Some texts) other = Some (text element count texts)
as_text true element count None other = other
as_text false element count texts other = other

abbrev pub value_alone : Init-F Init → Option Given
value_alone (Init-F.One x) = Some (value x 1)
value_alone (Init-F.Many xs more) = None

abbrev pub value_among : List Init → Option Given
value_among [] = None
value_among (x ∷ []) = value_alone (out-Init x)
value_among (x ∷ y ∷ rest) = None

-- An array has a text or a list, a struct an expression of its type or a list, and a scalar an expression, in one pair of braces or in none.
abbrev pub given_in : Typed → CType-F CType → Init-F Init → Option Given
given_in f (CType-F.Array element count) (Init-F.One x) = as_text (has_bytes element) element count (string_in (out-Exp x)) None
given_in f (CType-F.Array element count) (Init-F.Many xs more) = as_text (has_bytes element) element count (string_among xs) (Some (elements element xs))
given_in f (CType-F.Struct n) (Init-F.One x) = Some (value x 0)
given_in f (CType-F.Struct n) (Init-F.Many xs more) = Some (members (f.parts n) xs)
given_in f _ (Init-F.One x) = Some (value x 0)
given_in f _ (Init-F.Many xs more) = value_among xs

abbrev pub given : Typed → CType → Init → Option Given
given f t x = given_in f (out-CType t) (out-Init x)

-- a way into an object: to an element by its index and size, to a member by its offset
pub data Step : Type 0 where
  element : ℕ → ℕ → Step
  member : ℕ → Step

-- one PtrAdd for each element step, also for index 0, and for each member step, but for offset 0; from the outside in
pub data Goes (ns : List Node) : State → ℕ → Spot → List Step → Opnd → Opnd → ℕ → State → Type 0 where
  arrived : {s : State} {a : ℕ} {spot : Spot} {v : Opnd} → Goes ns s a spot [] v v a s
  to_element : {s s1 t : State} {a b r k size : ℕ} {spot : Spot} {rest : List Step} {v w : Opnd} → Takes ty.Ptr s r s1 →
      At ns a (ins.PtrAdd (reg r) v (o.Num (pos k)) (pos size)) spot → Goes ns s1 (a + 1) spot rest (register r) w b t →
      Goes ns s a spot (element k size ∷ rest) v w b t
  to_member : {s s1 t : State} {a i b offset : ℕ} {spot : Spot} {rest : List Step} {v w z : Opnd} → Moves ns s a spot offset v w i s1 →
      Goes ns s1 i spot rest w z b t → Goes ns s a spot (member offset ∷ rest) v z b t

-- the address of a part of a slot: an AddrSlot, and then the way
pub data Reaches (ns : List Node) : State → ℕ → Spot → SlotNo → List Step → Opnd → ℕ → State → Type 0 where
  reached : {s s1 t : State} {a b r : ℕ} {spot : Spot} {k : SlotNo} {way : List Step} {v : Opnd} → Takes ty.Ptr s r s1 →
      At ns a (ins.AddrSlot (reg r) k) spot → Goes ns s1 (a + 1) spot way (register r) v b t → Reaches ns s a spot k way v b t

-- the characters of a text, each an int_type that is converted to the element's type, from the n-th element on
pub data Letters (f : Typed) (ns : List Node) : State → ℕ → Spot → SlotNo → List Step → CType → ℕ → List ℤ → ℕ → State → Type 0 where
  no_more_letters : {s : State} {a n : ℕ} {spot : Spot} {k : SlotNo} {way : List Step} {t : CType} → Letters f ns s a spot k way t n [] a s
  one_more_letter : {s s1 s2 u : State} {a i j b n : ℕ} {spot : Spot} {k : SlotNo} {way : List Step} {t : CType} {z : ℤ} {rest : List ℤ} {v w : Opnd} →
      Reaches ns s a spot k (way ++ element n (f.size t) ∷ []) v i s1 → Converts f ns s1 i spot (c.Int int_type) t (o.Num z) w j s2 →
      At ns j (store f t v w) spot → Letters f ns s2 (j + 1) spot k way t (n + 1) rest b u → Letters f ns s a spot k way t n (z ∷ rest) b u

-- Gives f sc ns s a spot k way t g p b u: the nodes from a to b give the part of the slot k, which has type t, what the initialiser at the place
-- p gives it: address and Store for each scalar, CopyBytes for a struct's expression
mutual
  pub data Gives (f : Typed) (sc : Scope) (ns : List Node) : State → ℕ → Spot → SlotNo → List Step → CType → Given → Place → ℕ → State → Type 0 where
    one_value : {s s1 u : State} {a i j n : ℕ} {spot : Spot} {k : SlotNo} {way : List Step} {t : CType} {p : Place} {y : Exp} {v w : Opnd} →
        Reaches ns s a spot k way v i s1 → Operand f sc ns s1 i y (skip n p) w j u → At ns j (store f t v w) spot →
        Gives f sc ns s a spot k way t (value y n) p (j + 1) u
    a_text : {s u : State} {a b : ℕ} {spot : Spot} {k : SlotNo} {way : List Step} {t e : CType} {p : Place} {count : Option ℕ}
        {texts : List (List ℕ)} {bytes : List ℕ} → Spells texts bytes → Letters f ns s a spot k way e 0 (characters_given count bytes) b u →
        Gives f sc ns s a spot k way t (text e count texts) p b u
    all_elements : {s u : State} {a b : ℕ} {spot : Spot} {k : SlotNo} {way : List Step} {t e : CType} {p : Place} {xs : List Init} →
        Elements f sc ns s a spot k way e 0 xs (skip 1 p) b u → Gives f sc ns s a spot k way t (elements e xs) p b u
    all_members : {s u : State} {a b : ℕ} {spot : Spot} {k : SlotNo} {way : List Step} {t : CType} {p : Place} {parts : List Part} {xs : List Init} →
        Members f sc ns s a spot k way parts xs (skip 1 p) b u → Gives f sc ns s a spot k way t (members parts xs) p b u

  -- the elements from the n-th on
  pub data Elements (f : Typed) (sc : Scope) (ns : List Node) : State → ℕ → Spot → SlotNo → List Step → CType → ℕ → List Init → Place → ℕ → State → Type 0 where
    no_more_elements : {s : State} {a n : ℕ} {spot : Spot} {k : SlotNo} {way : List Step} {t : CType} {p : Place} → Elements f sc ns s a spot k way t n [] p a s
    one_more_element : {s s1 u : State} {a i b n : ℕ} {spot : Spot} {k : SlotNo} {way : List Step} {t : CType} {g : Given} {x : Init} {xs : List Init} {p : Place} →
        given f t x ≡ Some g → Gives f sc ns s a spot k (way ++ element n (f.size t) ∷ []) t g p i s1 →
        Elements f sc ns s1 i spot k way t (n + 1) xs (skip 1 (behind_init x p)) b u → Elements f sc ns s a spot k way t n (x ∷ xs) p b u

  -- the members that are given; further ones may follow
  pub data Members (f : Typed) (sc : Scope) (ns : List Node) : State → ℕ → Spot → SlotNo → List Step → List Part → List Init → Place → ℕ → State → Type 0 where
    no_more_members : {s : State} {a : ℕ} {spot : Spot} {k : SlotNo} {way : List Step} {parts : List Part} {p : Place} → Members f sc ns s a spot k way parts [] p a s
    one_more_member : {s s1 u : State} {a i b : ℕ} {spot : Spot} {k : SlotNo} {way : List Step} {part : Part} {parts : List Part} {g : Given} {x : Init} {xs : List Init} {p : Place} →
        given f part.type x ≡ Some g → Gives f sc ns s a spot k (way ++ member part.offset ∷ []) part.type g p i s1 →
        Members f sc ns s1 i spot k way parts xs (skip 1 (behind_init x p)) b u → Members f sc ns s a spot k way (part ∷ parts) (x ∷ xs) p b u

abbrev pub is_list_in : Init-F Init → Bool
is_list_in (Init-F.One x) = false
is_list_in (Init-F.Many xs more) = true

abbrev pub is_text : Option Given → Bool
is_text (Some (text t count texts)) = true
is_text _ = false

-- a list, and a text for an array, first fill the whole slot with zeros
abbrev pub fills : Typed → CType → Init → Bool
fills f t x = cond (is_list_in (out-Init x)) true (is_text (given f t x))

pub data Fills (ns : List Node) : ℕ → Spot → SlotNo → ℕ → Bool → ℕ → Type 0 where
  filled : {a size : ℕ} {spot : Spot} {k : SlotNo} → At ns a (ins.Fill k size) spot → Fills ns a spot k size true (a + 1)
  not_filled : {a size : ℕ} {spot : Spot} {k : SlotNo} → Fills ns a spot k size false a

-- Initialises f sc ns s a spot v t x p b u: the nodes from a to b give the variable that is kept as v its initialiser, where it has one
pub data Initialises (f : Typed) (sc : Scope) (ns : List Node) : State → ℕ → Spot → Var → CType → Option Init → Place → ℕ → State → Type 0 where
  not_initialised : {s : State} {a : ℕ} {spot : Spot} {v : Var} {t : CType} {p : Place} → Initialises f sc ns s a spot v t None p a s
  -- a static's initialiser has no nodes
  static_initialised : {s : State} {a : ℕ} {spot : Spot} {g : GlobalNo} {t : CType} {x : Init} {p : Place} → Initialises f sc ns s a spot (var.Global g) t (Some x) p a s
  -- an initialiser is an assignment
  register_initialised : {s u : State} {a i n : ℕ} {spot : Spot} {r : RegNo} {t : CType} {x : Init} {p : Place} {y : Exp} {v : Opnd} → given f t x ≡ Some (value y n) →
      Operand f sc ns s a y (skip n p) v i u → At ns i (put r.0 v) spot → Initialises f sc ns s a spot (var.Reg r) t (Some x) p (i + 1) u
  slot_initialised : {s u : State} {a i b : ℕ} {spot : Spot} {k : SlotNo} {t : CType} {g : Given} {x : Init} {p : Place} → Fills ns a spot k (f.size t) (fills f t x) i →
      given f t x ≡ Some g → Gives f sc ns s i spot k [] t g p b u → Initialises f sc ns s a spot (var.Slot k) t (Some x) p b u
