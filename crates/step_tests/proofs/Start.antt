-- The start of a bare function belongs to its project.
use Rattle.std.specs.Prelude.{ℕ, ℤ, zero, suc, ◌≡◌, ◌<◌, [], ◌∷◌, ◌++◌, List, Option, Some, None, false, codes, length, slice_get}
use Rattle.std.proofs.Common.{refl, sym, ap, ◌∙◌, subst, arith}
use Rattle.std.proofs.lemmas.List.Elements.{All-nil, All-cons}
use Rattle.po_lists.proofs.Options.{one_value}
use Rattle.po_lists.proofs.Places.{all_at, item_at}
use Rattle.po_ir.specs.declared.graph.Reg.{Reg as Register}
use Rattle.po_ir.specs.declared.graph.Slot.{Slot}
use Rattle.po_ir.specs.declared.project.Function.{Function}
use Rattle.po_ir.specs.declared.project.Project.{Project}
use Rattle.po_arith.specs.Types.{IsOfType}
use Rattle.po_ir.specs.declared.instr.Ty.{Ty}
use Rattle.po_ir.specs.declared.instr.Ty.TheVariants.{Int, Ptr}
use Rattle.po_memory.specs.declared.value.Value.TheVariants.{Number}
use Rattle.po_memory.specs.Bytes.{LiesIn}
use Rattle.po_ir.specs.Paths.{start}
use Rattle.po_ir.specs.Whole.{parameter_types}
use Rattle.po_memory.specs.declared.frame.Frame.{Frame}
use Rattle.po_memory.specs.declared.value.Value.{Value}
use Rattle.po_memory.specs.Values.{register_value}
use Rattle.po_meaning.specs.declared.state.State.{State as Stored}
use Rattle.po_meaning.specs.Operands.{slot_block}
use Rattle.po_meaning.specs.States.{State}
use Rattle.po_meaning.specs.Belongs.{Belongs, FrameBelongs, FramePoints, HasSome, PointsThere}
use Rattle.po_meaning.proofs.Slots.{needed_entered}
use Rattle.po_step.specs.Stepping.{IsStateOf}
use Rattle.step_tests.specs.Bare.{signatures, IsBareFunction, IsBareProject, int, parameter, three_registers, variable_register}
use Rattle.step_tests.proofs.Whole.{first_only, function_fits, no_items, no_temporary, one_type}

-- the argument in the first register
abbrev pub first_values : ℤ → List (Option Value)
first_values z = Some (Number z) ∷ (None ∷ (None ∷ []))

-- a frame at node 0 with this argument
abbrev pub bare_frame : ℕ → ℤ → Frame
bare_frame n z = record { function = record { 0 = n }; node = record { 0 = 0 }; regs = first_values z; slots = None ∷ []; args = Number z ∷ [] }

some_same : (f g : Frame) → Some f ≡ Some g → f ≡ g
some_same f g same = cc

-- an item of a list of one stands first
only : {X : Type 0} (xs : List X) (y : X) (k : ℕ) (x : X) → xs ≡ y ∷ [] → slice_get xs k ≡ Some x → (k ≡ 0) × (y ≡ x)
only xs y k x one found = first k (ap (λ zs. slice_get zs k) (sym one) ∙ found)
  where
    first : (k : ℕ) → slice_get (y ∷ []) k ≡ Some x → (k ≡ 0) × (y ≡ x)
    first zero found = (refl, cc)
    first (suc k) found = absurd (cc)

module _ (p : Project) (whole : IsBareProject p) (n : ℕ) (inside : n < length p.functions) (z : ℤ) (of : IsOfType int z) where
  abbrev found : (f : Function) × (slice_get p.functions n ≡ Some f)
  found = item_at p.functions n inside

  abbrev f : Function
  f = found.0

  bare : IsBareFunction (length p.functions) f
  bare = all_at (IsBareFunction (length p.functions)) p.functions n f whole.functions found.1

  value_is : (r : ℕ) (v : Value) → register_value (bare_frame n z) r ≡ Some v → (r ≡ 0) × (v ≡ Number z)
  value_is zero v has = (refl, cc)
  value_is (suc zero) v has = absurd (cc)
  value_is (suc (suc zero)) v has = absurd (cc)
  value_is (suc (suc (suc r))) v has = absurd (cc)

  register_is : (r : ℕ) (register : Register) → slice_get f.graph.regs r ≡ Some register → r ≡ 0 → parameter ≡ register
  register_is r register here zeroth =
      one_value (slice_get three_registers 0) parameter register refl (ap (λ (k : ℕ). slice_get three_registers k) (sym zeroth) ∙ (ap (λ (rs : List Register). slice_get rs r) (sym bare.regs) ∙ here))

  first_has : (r : ℕ) → r < f.graph.params → HasSome (register_value (bare_frame n z) r)
  first_has r less =
      let params = bare.params in
      let zeroth : r ≡ 0 = omega (arith, less, params) in
      subst (λ (k : ℕ). HasSome (register_value (bare_frame n z) k)) (sym zeroth) (Number z, refl)

  frame_belongs : FrameBelongs p (bare_frame n z)
  frame_belongs = record {
    function = f;
    of = found.1;
    place = record {
      node = ([], start);
      registers = sym (ap (λ (xs : List Register). length xs) bare.regs);
      slots = sym (ap (λ (xs : List Slot). length xs) bare.slots);
      arguments = λ read. sym bare.params;
    };
    types = record {
      registers = λ r register v here has.
          let is = value_is r v has in
          subst (λ (x : Register). LiesIn x.ty v) (register_is r register here is.0) (subst (LiesIn (Int int)) (sym is.1) of);
      arguments = λ i t v here has. subst (λ (x : Ty). LiesIn x v) (only (parameter_types f) (Int int) i t (one_type (length p.functions) f bare) here).1 (subst (LiesIn (Int int)) (only (Number z ∷ []) (Number z) i v refl has).1 of);
    };
    values = record {
      parameters = λ r register here param. first_has r ((first_only (length p.functions) f bare r register here).0 param);
      temporaries = λ r temporary needs. absurd (no_temporary (length p.functions) f bare r temporary);
    };
    slots = λ s needs. absurd (needed_entered signatures p f (function_fits p whole f bare) s needs.0 0 [] start needs.1);
  }

  not_entered : (slot b : ℕ) → slot_block (bare_frame n z) slot ≡ Some b → ⊥
  not_entered zero b entered = cc
  not_entered (suc slot) b entered = cc

  no_slot : (k slot b : ℕ) (frame : Frame) → slice_get (bare_frame n z ∷ []) k ≡ Some frame → slot_block frame slot ≡ Some b → ⊥
  no_slot zero slot b frame here entered = not_entered slot b (subst (λ (x : Frame). slot_block x slot ≡ Some b) (sym (some_same (bare_frame n z) frame here)) entered)
  no_slot (suc k) slot b frame here entered = absurd (cc)

  start_state : State
  start_state = record { top = bare_frame n z; rest = []; memory = [] }

  belongs : Belongs p (record { top = bare_frame n z; rest = []; memory = [] })
  belongs = record {
    each_frame = All-cons (FrameBelongs p) (bare_frame n z) [] frame_belongs (All-nil (FrameBelongs p));
    waiting = tt;
    slots = record { blocks = λ frame g k slot b is here of there entered. absurd (no_slot k slot b frame here entered); apart = λ k l slot other b one two. absurd (no_slot k slot b one.0 one.1 one.2) };
    sizes = All-nil _;
    statics = record { globals = λ k g here. absurd (no_items p.globals k g whole.globals here); literals = λ k text here. absurd (no_items p.texts k text whole.texts here) };
    pointers = record {
      frames_point = All-cons (FramePoints p.target []) (bare_frame n z) [] (record { registers = λ r v has. subst (PointsThere p.target []) (sym (value_is r v has).1) tt; arguments = All-cons (PointsThere p.target []) (Number z) [] tt (All-nil (PointsThere p.target [])) }) (All-nil (FramePoints p.target []));
      blocks_point = All-nil _;
    };
  }

  pub starts : (stored : Stored) → stored.frames ≡ bare_frame n z ∷ [] → stored.memory.blocks ≡ [] → IsStateOf p stored
  starts stored frames memory = record { state = record { top = bare_frame n z; rest = []; memory = [] }; shown = record { frames_shown = frames; memory_shown = memory }; belongs = belongs }

-- a frame with this argument, behind no others
pub alone : (n : ℕ) (z : ℤ) (frames waiting : List Frame) (regs : List (Option Value)) (slots : List (Option ℕ)) (args : List Value) →
    frames ≡ waiting ++ record { function = record { 0 = n }; node = record { 0 = 0 }; regs = regs; slots = slots; args = args } ∷ [] → waiting ≡ [] → regs ≡ first_values z → slots ≡ None ∷ [] → args ≡ Number z ∷ [] → frames ≡ bare_frame n z ∷ []
alone n z frames waiting regs slots args pushed none_waits registers no_slot_yet one_argument =
    pushed ∙ ap (λ (ws : List Frame). ws ++ record { function = record { 0 = n }; node = record { 0 = 0 }; regs = regs; slots = slots; args = args } ∷ []) none_waits
    ∙ ap (λ (rs : List (Option Value)). record { function = record { 0 = n }; node = record { 0 = 0 }; regs = rs; slots = slots; args = args } ∷ []) registers
    ∙ ap (λ (ss : List (Option ℕ)). record { function = record { 0 = n }; node = record { 0 = 0 }; regs = first_values z; slots = ss; args = args } ∷ []) no_slot_yet
    ∙ ap (λ (vs : List Value). record { function = record { 0 = n }; node = record { 0 = 0 }; regs = first_values z; slots = None ∷ []; args = vs } ∷ []) one_argument

-- an item behind none
pub single : {X : Type 0} (pushed none : List X) (x : X) → pushed ≡ none ++ x ∷ [] → none ≡ [] → pushed ≡ x ∷ []
single pushed none x is empty = is ∙ ap (λ xs. xs ++ x ∷ []) empty

-- an item behind others that are known
pub behind : {X : Type 0} (pushed before known : List X) (x : X) → pushed ≡ before ++ x ∷ [] → before ≡ known → pushed ≡ known ++ x ∷ []
behind pushed before known x is same = is ∙ ap (λ xs. xs ++ x ∷ []) same

-- the registers, where the names are as they should be
pub registers_of : (v p : List ℕ) (rs : List Register) → rs ≡ parameter ∷ (record { name = Some v; ty = Int int; param = false } ∷ (record { name = Some p; ty = Ptr; param = false } ∷ [])) → v ≡ codes "v" → p ≡ codes "p" → rs ≡ three_registers
registers_of v p rs is named_v named_p =
    is ∙ ap (λ (t : List ℕ). parameter ∷ (record { name = Some t; ty = Int int; param = false } ∷ (record { name = Some p; ty = Ptr; param = false } ∷ []))) named_v
    ∙ ap (λ (t : List ℕ). parameter ∷ (variable_register ∷ (record { name = Some t; ty = Ptr; param = false } ∷ []))) named_p
