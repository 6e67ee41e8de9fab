-- The operands of an instruction have values where all obligations at its node hold.
use Rattle.std.specs.Prelude.{ℕ, suc, ◌≡◌, ◌⊎◌, ◌==◌, ◌&&◌, true, false, not, cond, Bool, ℤ, List, [], ◌∷◌, ◌++◌, Contains, Option, Some, None, MatchOption, map, slice_get}
use Rattle.std.specs.List.{filter, flat_map}
use Rattle.std.proofs.Common.{refl, sym, ap, ◌∙◌, subst, arith, inl, inr}
use Rattle.std.proofs.lemmas.Bool.{eqb-true}
use Rattle.po_base.specs.declared.numbers.RegNo.{RegNo}
use Rattle.po_base.specs.declared.operand.Opnd.{Opnd}
use Rattle.po_base.specs.declared.operand.Opnd.TheVariants as operand
use Rattle.po_arith.specs.declared.int_type.IntType.{IntType}
use Rattle.po_arith.specs.Types.{IsOfType}
use Rattle.po_ir.specs.declared.graph.Reg.{Reg as Register}
use Rattle.po_ir.specs.declared.graph.Graph.{Graph}
use Rattle.po_ir.specs.declared.instr.Ty.{Ty}
use Rattle.po_ir.specs.declared.instr.Ty.TheVariants.{Int, Ptr}
use Rattle.po_ir.specs.declared.instr.Instr.{Instr}
use Rattle.po_ir.specs.declared.project.Function.{Function}
use Rattle.po_ir.specs.declared.project.Project.{Project}
use Rattle.po_ir.specs.Instructions.{operands}
use Rattle.po_ir.specs.Types.{Lies, LiesAmongIntegers, IsKept, IsInteger}
use Rattle.po_core.specs.declared.report.Report.{Report}
use Rattle.po_pred.specs.declared.pred.Pred.{Pred}
use Rattle.po_pred.specs.declared.pred.Pred.TheVariants.{RegSet}
use Rattle.po_pred.specs.declared.pred.Rule.{Rule}
use Rattle.po_gen.specs.Reads.{has_name, is_variable, variable_in, is_other, firsts, variables_read, reads}
use Rattle.po_gen.specs.Asks.{Required, asks}
use Rattle.po_memory.specs.declared.value.Value.{Value}
use Rattle.po_memory.specs.declared.value.Value.TheVariants.{Number, Null, Pointer, Wild}
use Rattle.po_memory.specs.Bytes.{LiesIn}
use Rattle.po_memory.specs.Holding.{Holds}
use Rattle.po_memory.specs.Values.{register_value}
use Rattle.po_meaning.specs.Operands.{pointer_value, value_at, Is}
use Rattle.po_meaning.specs.States.{State, StandsAt}
use Rattle.po_meaning.specs.Checks.{AllHold}
use Rattle.po_meaning.specs.Belongs.{HasSome, Belongs}
use Rattle.po_meaning.proofs.Calls.{value_lies}
use Rattle.po_meaning.proofs.Held.{Each, each_first, gen_hold}
use Rattle.po_meaning.proofs.Plain.{typed_as, fits_before, register_lies}

-- ---- items of lists

abbrev pub In : {X : Type 0} → List X → X → Type 0
In [] x = ⊥
In (y ∷ ys) x = (y ≡ x) ⊎ In ys x

contains_of : {X : Type 0} (xs : List X) (x : X) → In xs x → Contains xs x
contains_of [] x among = absurd among
contains_of (y ∷ xs) x (inl same) = (0, omega arith, same)
contains_of (y ∷ xs) x (inr among) = let rest = contains_of xs x among in let inside = rest.1 in (suc rest.0, omega (arith, inside), rest.2)

in_first : {X : Type 0} (xs ys : List X) (x : X) → In xs x → In (xs ++ ys) x
in_first [] ys x among = absurd among
in_first (y ∷ xs) ys x (inl same) = inl same
in_first (y ∷ xs) ys x (inr among) = inr (in_first xs ys x among)

in_last : {X : Type 0} (xs ys : List X) (x : X) → In ys x → In (xs ++ ys) x
in_last [] ys x among = among
in_last (y ∷ xs) ys x among = inr (in_last xs ys x among)

in_kept : {X : Type 0} (test : X → Bool) (y : X) (ys : List X) (x : X) (b : Bool) → In ys x → In (cond b (y ∷ ys) ys) x
in_kept test y ys x true among = inr among
in_kept test y ys x false among = among

in_here : {X : Type 0} (y : X) (ys : List X) (x : X) (b : Bool) → b ≡ true → y ≡ x → In (cond b (y ∷ ys) ys) x
in_here y ys x true is same = inl same
in_here y ys x false is same = absurd (cc)

in_filter : {X : Type 0} (test : X → Bool) (xs : List X) (x : X) → In xs x → test x ≡ true → In (filter test xs) x
in_filter test [] x among passes = absurd among
in_filter test (y ∷ xs) x (inl same) passes = in_here y (filter test xs) x (test y) (ap test same ∙ passes) same
in_filter test (y ∷ xs) x (inr among) passes = in_kept test y (filter test xs) x (test y) (in_filter test xs x among passes)

in_firsts : (xs : List RegNo) (r : RegNo) → In xs r → In (firsts xs) r
in_firsts [] r among = absurd among
in_firsts (x ∷ xs) r (inl same) = inl same
in_firsts (x ∷ xs) r (inr among) = by (r.0 == x.0) (in_firsts xs r among) refl
  where
    by : (b : Bool) → In (firsts xs) r → (r.0 == x.0) ≡ b → In (firsts (x ∷ xs)) r
    by true rest same = inl (ap (λ (n : ℕ). record { 0 = n }) (sym (eqb-true r.0 x.0 same)))
    by false rest other = inr (in_filter (is_other x) (firsts xs) r rest (ap not other))

in_variables : (g : Graph) (list : List Opnd) (r : RegNo) → In list (operand.Reg r) → is_variable (slice_get g.regs r.0) ≡ true → In (flat_map (variable_in g) list) r
in_variables g [] r among is = absurd among
in_variables g (a ∷ list) r (inl same) is = in_first (variable_in g a) (flat_map (variable_in g) list) r (subst (λ (o : Opnd). In (variable_in g o) r) (sym same) (in_here r [] r (is_variable (slice_get g.regs r.0)) is refl))
in_variables g (a ∷ list) r (inr among) is = in_last (variable_in g a) (flat_map (variable_in g) list) r (in_variables g list r among is)

each_in : (P : Pred → Type 0) (xs : List RegNo) (r : RegNo) → Each P (map RegSet xs) → In xs r → P (RegSet r)
each_in P [] r all among = absurd among
each_in P (x ∷ xs) r all (inl same) = subst (λ (y : RegNo). P (RegSet y)) same all.0
each_in P (x ∷ xs) r all (inr among) = each_in P xs r all.1 among

-- ---- numbers and pointers

pub number_in : (t : IntType) (v : Value) → LiesIn (Int t) v → (n : ℤ) × (v ≡ Number n) × IsOfType t n
number_in t (Number n) lies = (n, refl, lies)
number_in t Null lies = absurd lies
number_in t (Pointer block offset) lies = absurd lies
number_in t Wild lies = absurd lies

integer_in : (t : Ty) (v : Value) → IsInteger t → LiesIn t v → (n : ℤ) × (v ≡ Number n)
integer_in (Int t) v is lies = let found = number_in t v lies in (found.0, found.1)
integer_in Ptr v is lies = absurd is

-- ---- operands

module _ (required : Required) (p : Project) (r : Report Pred Rule) (f : Function) (i : Instr) (s : State) (stands : StandsAt p s.top f i) (held : AllHold required p r s) (before : Belongs p s) where
  named_set : (n : RegNo) → In (operands i) (operand.Reg n) → is_variable (slice_get f.graph.regs n.0) ≡ true → HasSome (register_value s.top n.0)
  named_set n among is =
      each_in (Holds s.top s.memory) (variables_read f.graph (operands i)) n
      (each_first (Holds s.top s.memory) (reads f.graph i) (asks required f.graph i) (gen_hold required p r s f i stands held))
      (in_firsts (flat_map (variable_in f.graph) (operands i)) n (in_variables f.graph (operands i) n among is))

  pub register_set : (n : RegNo) (x : Register) → slice_get f.graph.regs n.0 ≡ Some x → In (operands i) (operand.Reg n) → HasSome (register_value s.top n.0)
  register_set n x there among = by_kind x.param refl
    where
      by_name : (o : Option (List ℕ)) → x.name ≡ o → x.param ≡ false → HasSome (register_value s.top n.0)
      by_name None named other =
          (fits_before p f s stands.of before).values.temporaries n
          (subst (λ (o : Option Register). MatchOption o ⊥ (λ (y : Register). (y.param ≡ false) × (y.name ≡ None))) (sym there) (other, named))
          (0, (i, stands.node, contains_of (operands i) (operand.Reg n) among))
      by_name (Some name) named other = named_set n among (ap is_variable there ∙ (ap (λ (b : Bool). not b && has_name x.name) other ∙ ap has_name named))

      by_kind : (b : Bool) → x.param ≡ b → HasSome (register_value s.top n.0)
      by_kind true is = (fits_before p f s stands.of before).values.parameters n.0 x there is
      by_kind false is = by_name x.name refl is

  pub operand_value : (t : Ty) (a : Opnd) → In (operands i) a → Lies f.graph t a → HasSome (value_at s.top t a)
  operand_value (Int t) (operand.Reg n) among lies = let reg = typed_as f.graph n (λ k. IsKept k (Int t)) lies in register_set n reg.register reg.there among
  operand_value (Int t) (operand.Num n) among lies = (Number n, refl)
  operand_value Ptr (operand.Reg n) among lies = let reg = typed_as f.graph n (λ k. IsKept k Ptr) lies in register_set n reg.register reg.there among
  operand_value Ptr (operand.Num n) among lies = (Null, refl)

  pub operand_number : (t : IntType) (a : Opnd) → In (operands i) a → Lies f.graph (Int t) a → (n : ℤ) × Is s.top a n × IsOfType t n
  operand_number t a among lies =
      let some = operand_value (Int t) a among lies in
      let found = number_in t some.0 (value_lies p f s stands.of before (Int t) a some.0 lies some.1) in
      (found.0, subst (λ (v : Value). value_at s.top (Int t) a ≡ Some v) found.1 some.1, found.2)

  pub operand_integer : (a : Opnd) → In (operands i) a → LiesAmongIntegers f.graph a → (n : ℤ) × Is s.top a n
  operand_integer (operand.Reg n) among lies =
      let reg = typed_as f.graph n IsInteger lies in
      let some = register_set n reg.register reg.there among in
      let found = integer_in reg.register.ty some.0 reg.typed (register_lies p f s stands.of before n reg.register some.0 reg.there some.1) in
      (found.0, subst (λ (v : Value). register_value s.top n.0 ≡ Some v) found.1 some.1)
  operand_integer (operand.Num n) among lies = (n, refl)

  pub operand_pointer : (a : Opnd) → In (operands i) a → Lies f.graph Ptr a → (v : Value) × (pointer_value s.top a ≡ Some v) × LiesIn Ptr v
  operand_pointer a among lies = let some = operand_value Ptr a among lies in (some.0, some.1, value_lies p f s stands.of before Ptr a some.0 lies some.1)
