-- What holds of a frame still holds of it at the node after a step: where a register gets a value, where one loses it, and where none
-- changes.
use Rattle.std.specs.Prelude.{ℕ, suc, ◌+◌, ◌≡◌, ◌≢◌, ◌<◌, ◌⊎◌, true, false, ◌∷◌, Option, Some, None, MatchOption, Contains, length, slice_get}
use Rattle.std.proofs.Common.{sym, ap, ◌∙◌, subst, arith, inl, inr}
use Rattle.std.proofs.lemmas.List.{length-set}
use Rattle.std.proofs.lemmas.Option.{slice_get_within}
use Rattle.po_lists.proofs.Options.{one_value, none_or_some}
use Rattle.po_lists.proofs.Places.{set_here, set_elsewhere}
use Rattle.po_base.specs.declared.numbers.NodeNo.{NodeNo}
use Rattle.po_base.specs.declared.numbers.RegNo.{RegNo}
use Rattle.po_base.specs.declared.numbers.SlotNo.{SlotNo}
use Rattle.po_ir.specs.declared.graph.Reg.{Reg as Register}
use Rattle.po_ir.specs.declared.graph.Graph.{Graph}
use Rattle.po_ir.specs.declared.instr.Instr.{Instr}
use Rattle.po_ir.specs.declared.project.Function.{Function}
use Rattle.po_ir.specs.declared.project.Project.{Project}
use Rattle.po_ir.specs.Instructions.{written, entered, followers}
use Rattle.po_ir.specs.Paths.{NodeAt, step, Reachable}
use Rattle.po_ir.specs.Whole.{IsTemporary, IsVariable}
use Rattle.po_memory.specs.declared.frame.Frame.{Frame}
use Rattle.po_memory.specs.declared.value.Value.{Value}
use Rattle.po_memory.specs.Bytes.{LiesIn}
use Rattle.po_memory.specs.Values.{held, register_value}
use Rattle.po_meaning.specs.Operands.{at_node, put, without_value}
use Rattle.po_meaning.specs.States.{IsOf}
use Rattle.po_meaning.specs.Needs.{NeedsRegister, NeedsSlot}
use Rattle.po_meaning.specs.Belongs.{HasPlace, HasTypes, HasSome, HasValues, HasSlots, FrameBelongs}
use Rattle.po_meaning.proofs.Places.{same_or_not}

-- ---- ways on

pub reach_more : (g : Graph) (n m : ℕ) (i : Instr) → NodeAt g n i → Contains (followers n i) m → Reachable g n → Reachable g m
reach_more g n m i at to way = (i ∷ way.0, step way.0 n m i way.1 at to)

pub register_before : (g : Graph) (r : RegNo) (n m : ℕ) (i : Instr) → NodeAt g n i → Contains (followers n i) m → (written i ≡ Some r → ⊥) → NeedsRegister g r m → NeedsRegister g r n
register_before g r n m i at to other needs = (suc needs.0, (i, m, at, other, to, needs.1))

pub slot_before : (g : Graph) (s : SlotNo) (n m : ℕ) (i : Instr) → NodeAt g n i → Contains (followers n i) m → (entered i ≡ Some s → ⊥) → NeedsSlot g s m → NeedsSlot g s n
slot_before g s n m i at to other needs = (suc needs.0, (i, m, at, other, to, needs.1))

-- ---- registers

pub put_value : (fr : Frame) (to : RegNo) (v : Value) → to.0 < length fr.regs → register_value (put to v fr) to.0 ≡ Some v
put_value fr to v within = ap held (set_here fr.regs to.0 (Some v) within)

pub put_others : (fr : Frame) (to : RegNo) (v : Value) (r : ℕ) → r ≢ to.0 → register_value (put to v fr) r ≡ register_value fr r
put_others fr to v r other = ap held (set_elsewhere fr.regs to.0 r (Some v) other)

pub no_value : (fr : Frame) (to : RegNo) → to.0 < length fr.regs → register_value (without_value to fr) to.0 ≡ None
no_value fr to within = ap held (set_here fr.regs to.0 None within)

pub without_others : (fr : Frame) (to : RegNo) (r : ℕ) → r ≢ to.0 → register_value (without_value to fr) r ≡ register_value fr r
without_others fr to r other = ap held (set_elsewhere fr.regs to.0 r None other)

-- ---- what holds of a frame of the function f

pub record Fits (f : Function) (fr : Frame) : Type 0 where
  pub place : HasPlace f fr
  pub types : HasTypes f fr
  pub values : HasValues f fr
  pub slots : HasSlots f fr

pub fits_of : (p : Project) (f : Function) (fr : Frame) → IsOf p fr f → FrameBelongs p fr → Fits f fr
fits_of p f fr of k = subst (λ (g : Function). Fits g fr) (one_value _ k.function f k.of of) (record { place = k.place; types = k.types; values = k.values; slots = k.slots })

pub belongs_of : (p : Project) (f : Function) (fr : Frame) → IsOf p fr f → Fits f fr → FrameBelongs p fr
belongs_of p f fr of k = record { function = f; of = of; place = k.place; types = k.types; values = k.values; slots = k.slots }

-- a step to the node m that writes no register and enters no slot
pub fits_at : (f : Function) (fr : Frame) (i : Instr) (m : NodeNo) → NodeAt f.graph fr.node.0 i → Contains (followers fr.node.0 i) m.0 → written i ≡ None → entered i ≡ None →
    Fits f fr → Fits f (at_node m fr)
fits_at f fr i m at to none same k = record {
  place = record { node = reach_more f.graph fr.node.0 m.0 i at to k.place.node; registers = k.place.registers; slots = k.place.slots; arguments = k.place.arguments };
  types = record { registers = k.types.registers; arguments = k.types.arguments };
  values = record {
    parameters = k.values.parameters;
    temporaries = λ r is needs. k.values.temporaries r is (register_before f.graph r fr.node.0 m.0 i at to (none_or_some (written i) r none) needs);
  };
  slots = λ s needs. k.slots s (slot_before f.graph s fr.node.0 m.0 i at to (none_or_some (entered i) s same) needs);
}

module _ (f : Function) (fr : Frame) (to : RegNo) (v : Value) (register : Register) (there : slice_get f.graph.regs to.0 ≡ Some register) (k : Fits f fr) where
  pub within : to.0 < length fr.regs
  within = let all = slice_get_within f.graph.regs to.0 register there in let same = k.place.registers in omega (arith, all, same)

  put_type : LiesIn register.ty v → (r : ℕ) (other : Register) (w : Value) → slice_get f.graph.regs r ≡ Some other → register_value (put to v fr) r ≡ Some w → (r ≡ to.0) ⊎ (r ≢ to.0) → LiesIn other.ty w
  put_type lies r other w here is (inl same) =
      let register_same : register ≡ other = one_value _ register other there (subst (λ (j : ℕ). slice_get f.graph.regs j ≡ Some other) same here) in
      let value_same : v ≡ w = one_value _ v w (put_value fr to v within) (subst (λ (j : ℕ). register_value (put to v fr) j ≡ Some w) same is) in
      subst (λ (x : Value). LiesIn other.ty x) value_same (subst (λ (x : Register). LiesIn x.ty v) register_same lies)
  put_type lies r other w here is (inr not_same) = k.types.registers r other w here (sym (put_others fr to v r not_same) ∙ is)

  put_some : (r : ℕ) → (r ≡ to.0) ⊎ (r ≢ to.0) → (r ≢ to.0 → HasSome (register_value fr r)) → HasSome (register_value (put to v fr) r)
  put_some r (inl same) before = (v, subst (λ (j : ℕ). register_value (put to v fr) j ≡ Some v) (sym same) (put_value fr to v within))
  put_some r (inr not_same) before = let some = before not_same in (some.0, put_others fr to v r not_same ∙ some.1)

  other_written : (i : Instr) (r : RegNo) → written i ≡ Some to → r.0 ≢ to.0 → written i ≡ Some r → ⊥
  other_written i r is other same = other (ap (λ (x : RegNo). x.0) (sym (one_value (written i) to r is same)))

  -- a step to the next node that writes the register and enters no slot
  pub fits_put : (i : Instr) → NodeAt f.graph fr.node.0 i → Contains (followers fr.node.0 i) (fr.node.0 + 1) → written i ≡ Some to → entered i ≡ None → LiesIn register.ty v → Fits f (put to v fr)
  fits_put i at next is none lies = record {
    place = record {
      node = reach_more f.graph fr.node.0 (fr.node.0 + 1) i at next k.place.node;
      registers = length-set fr.regs to.0 (Some v) ∙ k.place.registers;
      slots = k.place.slots;
      arguments = k.place.arguments;
    };
    types = record { registers = λ r other w here has. put_type lies r other w here has (same_or_not r to.0); arguments = k.types.arguments };
    values = record {
      parameters = λ r other here param. put_some r (same_or_not r to.0) (λ not_same. k.values.parameters r other here param);
      temporaries = λ r temporary needs.
          put_some r.0 (same_or_not r.0 to.0) (λ not_same. k.values.temporaries r temporary (register_before f.graph r fr.node.0 (fr.node.0 + 1) i at next (other_written i r is not_same) needs));
    };
    slots = λ s needs. k.slots s (slot_before f.graph s fr.node.0 (fr.node.0 + 1) i at next (none_or_some (entered i) s none) needs);
  }

pub told_at : {X : Type 0} (o : Option X) (P : X → Type 0) (x : X) → o ≡ Some x → MatchOption o ⊥ P → P x
told_at o P x is given = subst (λ (r : Option _). MatchOption r ⊥ P) is given

module _ (f : Function) (fr : Frame) (r : RegNo) (variable : IsVariable f.graph (Some r)) (inside : r.0 < length f.graph.regs) (k : Fits f fr) where
  pub within_regs : r.0 < length fr.regs
  within_regs = let same = k.place.registers in omega (arith, inside, same)

  left_type : (j : ℕ) (other : Register) (w : Value) → slice_get f.graph.regs j ≡ Some other → register_value (without_value r fr) j ≡ Some w → (j ≡ r.0) ⊎ (j ≢ r.0) → LiesIn other.ty w
  left_type j other w here is (inl same) = absurd (none_or_some _ w (no_value fr r within_regs) (subst (λ (i : ℕ). register_value (without_value r fr) i ≡ Some w) same is))
  left_type j other w here is (inr not_same) = k.types.registers j other w here (sym (without_others fr r j not_same) ∙ is)

  left_parameter : (j : ℕ) (other : Register) → slice_get f.graph.regs j ≡ Some other → other.param ≡ true → (j ≡ r.0) ⊎ (j ≢ r.0) → HasSome (register_value (without_value r fr) j)
  left_parameter j other here param (inl same) =
      absurd (let not_param = (told_at _ (λ (x : Register). (x.param ≡ false) × (x.name ≢ None)) other (subst (λ (i : ℕ). slice_get f.graph.regs i ≡ Some other) same here) variable).0 in cc)
  left_parameter j other here param (inr not_same) = let some = k.values.parameters j other here param in (some.0, without_others fr r j not_same ∙ some.1)

  named : (o : Option Register) → MatchOption o ⊥ (λ (x : Register). (x.param ≡ false) × (x.name ≢ None)) → MatchOption o ⊥ (λ (x : Register). (x.param ≡ false) × (x.name ≡ None)) → ⊥
  named None one other = one
  named (Some x) one other = one.1 other.1

  left_temporary : (i : Instr) (t : RegNo) → NodeAt f.graph fr.node.0 i → Contains (followers fr.node.0 i) (fr.node.0 + 1) → written i ≡ None → IsTemporary f.graph t → NeedsRegister f.graph t (fr.node.0 + 1) →
      (t.0 ≡ r.0) ⊎ (t.0 ≢ r.0) → HasSome (register_value (without_value r fr) t.0)
  left_temporary i t at next none temporary needs (inl same) =
      absurd (named (slice_get f.graph.regs r.0) variable (subst (λ (j : ℕ). MatchOption (slice_get f.graph.regs j) ⊥ (λ (x : Register). (x.param ≡ false) × (x.name ≡ None))) same temporary))
  left_temporary i t at next none temporary needs (inr not_same) =
      let some = k.values.temporaries t temporary (register_before f.graph t fr.node.0 (fr.node.0 + 1) i at next (none_or_some (written i) t none) needs) in
      (some.0, without_others fr r t.0 not_same ∙ some.1)

  -- a step to the next node at which the register loses its value
  pub fits_without : (i : Instr) → NodeAt f.graph fr.node.0 i → Contains (followers fr.node.0 i) (fr.node.0 + 1) → written i ≡ None → entered i ≡ None → Fits f (without_value r fr)
  fits_without i at next none same = record {
    place = record {
      node = reach_more f.graph fr.node.0 (fr.node.0 + 1) i at next k.place.node;
      registers = length-set fr.regs r.0 None ∙ k.place.registers;
      slots = k.place.slots;
      arguments = k.place.arguments;
    };
    types = record { registers = λ j other w here has. left_type j other w here has (same_or_not j r.0); arguments = k.types.arguments };
    values = record {
      parameters = λ j other here param. left_parameter j other here param (same_or_not j r.0);
      temporaries = λ t temporary needs. left_temporary i t at next none temporary needs (same_or_not t.0 r.0);
    };
    slots = λ s needs. k.slots s (slot_before f.graph s fr.node.0 (fr.node.0 + 1) i at next (none_or_some (entered i) s same) needs);
  }
