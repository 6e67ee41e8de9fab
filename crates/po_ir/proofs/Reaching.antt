-- What leads over the lists of callers is what reaches over calls.
use Rattle.std.proofs.Common.{◌≡◌, ℕ, ◌<◌, List, Bool, true, length, map, ap, sym, ◌∙◌, subst, arith}
use Rattle.std.specs.Prelude.{Some, Contains, slice_get}
use Rattle.std.proofs.lemmas.Option.{slice_get_within, slice_get-get_or}
use Rattle.po_lists.proofs.Places.{item_at, mapped_at, mapped_from}
use Rattle.po_base.specs.declared.numbers.FunNo.{FunNo}
use Rattle.po_ir.specs.declared.instr.Instr.{Instr}
use Rattle.po_ir.specs.declared.project.Project.{Project}
use Rattle.po_ir.specs.Calls.{call_sites}
use Rattle.po_ir.specs.Callers.{Sites, AreCallers}
use Rattle.po_ir.specs.Reaching.{does, Reaches, reaches_itself, reaches_through, AreReaching}
use Rattle.po_ir.specs.Leading.{Leads, itself, through, AreLeading}

some_same : (x y : Sites) → Some x ≡ Some y → x ≡ y
some_same x y h = cc

number : ℕ → FunNo
number g = record { 0 = g }

listed : (p : Project) (callers : List Sites) (g : ℕ) → AreCallers p callers → g < length p.functions → slice_get callers g ≡ Some (call_sites p (record { 0 = g }))
listed p callers g is h =
    let none : Sites = call_sites p (record { 0 = g }) in
    slice_get-get_or callers g none (let c = is.count in omega arith) ∙ ap Some (is.each g none h)

there : (p : Project) (test : Instr → Bool) (f : ℕ) → Reaches p test f → f < length p.functions
there p test f (reaches_itself g function at d) = slice_get_within p.functions g function at
there p test f (reaches_through g k function n at c r) = slice_get_within p.functions g function at

to_leads : (p : Project) (test : Instr → Bool) (callers : List Sites) (here : List Bool) (f : ℕ) → AreCallers p callers → here ≡ map (does test) p.functions → Reaches p test f → Leads callers here f
to_leads p test callers here f is marked (reaches_itself g function at d) =
    itself g (subst (λ l. slice_get l g ≡ Some true) (sym marked) (mapped_at (does test) p.functions g function at ∙ ap Some d))
to_leads p test callers here f is marked (reaches_through g k function n at c r) =
    through g k (call_sites p (record { 0 = k })) n (listed p callers k is (there p test k r)) c (to_leads p test callers here k is marked r)

from_leads : (p : Project) (test : Instr → Bool) (callers : List Sites) (here : List Bool) (f : ℕ) → AreCallers p callers → here ≡ map (does test) p.functions → f < length p.functions → Leads callers here f → Reaches p test f
from_leads p test callers here f is marked h (itself g m) =
    let found = mapped_from (does test) p.functions g true (subst (λ l. slice_get l g ≡ Some true) marked m) in
    reaches_itself g found.0 found.1 found.2
from_leads p test callers here f is marked h (through g k sites n at c l) =
    let within : k < length p.functions = (let b = slice_get_within callers k sites at in let e = is.count in omega arith) in
    let same : sites ≡ call_sites p (record { 0 = k }) = some_same sites (call_sites p (record { 0 = k })) (sym at ∙ listed p callers k is within) in
    let found = item_at p.functions g h in
    reaches_through g k found.0 n found.1 (subst (λ (s : Sites). Contains s (record { 0 = g }, n)) same c) (from_leads p test callers here k is marked within l)

pub reaching : (p : Project) (test : Instr → Bool) (callers : List Sites) (here marks : List Bool) → AreCallers p callers → here ≡ map (does test) p.functions → length here ≡ length p.functions →
    AreLeading callers here marks → AreReaching p test marks
reaching p test callers here marks is marked many leads = record {
  count = leads.count ∙ many;
  each = λ f h.
      let both = leads.each f (omega (arith, many, h)) in
      (λ m. from_leads p test callers here f is marked h (both.0 m), λ r. both.1 (to_leads p test callers here f is marked r));
}
