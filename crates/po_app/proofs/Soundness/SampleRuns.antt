-- Runs of the sample project: one from f(1) violates the obligation on the divisor at the call, which is open, and one from
-- f(8) calls `d`, returns, and ends.
use Rattle.std.proofs.Common.{◌≡◌, ◌≢◌, ℕ, [], ◌∷◌, refl, sym, ap, ◌∙◌, subst, inl, inr, arith}
use Rattle.std.specs.Prelude.{ℤ, pos, ◌+ℤ◌, ◌-ℤ◌, Some, None}
use Rattle.std.proofs.lemmas.Int.{ints}
use Rattle.std.proofs.lemmas.List.Elements.{All-nil, All-cons}
use Rattle.po_base.specs.declared.numbers.FunNo.{FunNo}
use Rattle.po_base.specs.declared.operand.Opnd.TheVariants.{Num}
use Rattle.po_ir.specs.declared.instr.Callee.TheVariants.{Fun}
use Rattle.po_lists.proofs.Members.{Has, has}
use Rattle.po_pred.specs.declared.pred.Over.{Over}
use Rattle.po_pred.specs.declared.pred.Over.TheVariants.{Sub, Div}
use Rattle.po_pred.specs.declared.pred.Place.{Place}
use Rattle.po_pred.specs.declared.pred.Pred.{Pred}
use Rattle.po_pred.specs.declared.pred.Pred.TheVariants.{Nonzero, NoOver}
use Rattle.po_app.specs.Predicates.{IsOfType, Fits}
use Rattle.po_app.specs.Lowering.{register}
use Rattle.po_app.specs.Obligations.{Asked, place, primary}
use Rattle.po_app.specs.Meaning.{number, Frame, State, atom_value, Chooses, Holds, AllHold, asked, start_frame, put, Violates, Step, Run, Ends}
use Rattle.po_app.specs.Sound.{IsInt, Meets, Starts}
use Rattle.po_app.proofs.Soundness.Places.{same_number}
use Rattle.po_app.proofs.Soundness.Starting.{starts}
use Rattle.po_app.proofs.Soundness.Sample.{argument, quotient, quotient_returned, difference, called, called_returned, d_function, f_function, project, divisor, fitting, support, report}

-- the one number of a place whose ends are the same
only : (frame : Frame) (p : Place) (u v : ℤ) → atom_value frame p.atom ≡ Some (number u) → p.lo ≡ p.hi → Chooses frame p v → v ≡ u +ℤ p.lo
only frame p u v at one c =
    let same = same_number c.0 u (sym c.1 ∙ at) in
    let low = c.2.0 in
    let high = c.2.1 in
    omega (arith, ints, same, one, low, high)

nonzero : (frame : Frame) (x : Place) (u : ℤ) → atom_value frame x.atom ≡ Some (number u) → x.lo ≡ x.hi → u +ℤ x.lo ≢ pos 0 → Holds frame (Nonzero x)
nonzero frame x u at one other = ((u, at), λ v c zero. other (sym (only frame x u v at one c) ∙ zero))

fits : (frame : Frame) (op : Over) (bits : ℕ) (a b : Place) (u w : ℤ) → atom_value frame a.atom ≡ Some (number u) → atom_value frame b.atom ≡ Some (number w) → a.lo ≡ a.hi → b.lo ≡ b.hi → Fits op bits (u +ℤ a.lo) (w +ℤ b.lo) →
    Holds frame (NoOver op bits a (Some b))
fits frame op bits a b u w a_at b_at a_one b_one fit =
    ((u, a_at), (w, b_at), λ v x c d. subst (λ y. Fits op bits y x) (sym (only frame a u v a_at a_one c)) (subst (λ y. Fits op bits (u +ℤ a.lo) y) (sym (only frame b w x b_at b_one d)) fit))

abbrev AllHoldAt : State → Type 0
AllHoldAt s = AllHold s.top (asked project report s)

nothing_asked : (frame : Frame) → AllHold frame []
nothing_asked frame = All-nil (λ (a : Asked). Holds frame a.1)

one_asked : (frame : Frame) (a : Asked) → Holds frame a.1 → AllHold frame (a ∷ [])
one_asked frame a h = All-cons (λ (b : Asked). Holds frame b.1) a [] h (nothing_asked frame)

two_asked : (frame : Frame) (a b : Asked) → Holds frame a.1 → Holds frame b.1 → AllHold frame (a ∷ (b ∷ []))
two_asked frame a b h i = All-cons (λ (c : Asked). Holds frame c.1) a (b ∷ []) h (one_asked frame b i)

-- f(n)
abbrev pub entered : ℤ → State
entered n = record { top = start_frame 1 f_function (number n ∷ []); rest = [] }

-- what is assumed of `f`
sample_meets : (n : ℤ) → IsOfType 32 (n +ℤ pos 0 -ℤ (pos 0 +ℤ pos 1)) → Meets report (entered n).top
sample_meets n int f q there fun = by (has report.assumptions (f, q) there)
  where
    by : Has report.assumptions (f, q) → Holds (entered n).top q
    by (inl same) = absurd (let is : 0 ≡ f.0 = ap (λ (x : FunNo × Pred). x.0.0) same in omega (arith, is, fun))
    by (inr (inl same)) = absurd (let is : 0 ≡ f.0 = ap (λ (x : FunNo × Pred). x.0.0) same in omega (arith, is, fun))
    by (inr (inr (inl same))) = subst (Holds (entered n).top) (ap (λ (x : FunNo × Pred). x.1) same) (fits (entered n).top Sub 32 (argument 0) (record { atom = None; lo = pos 1; hi = pos 1 }) n (pos 0) refl refl refl refl int)
    by (inr (inr (inr h))) = absurd h

pub sample_starts : (n : ℤ) → IsOfType 32 n → IsOfType 32 (n +ℤ pos 0 -ℤ (pos 0 +ℤ pos 1)) → Starts project report (entered n)
sample_starts n int less = starts project report 1 f_function (number n ∷ []) refl refl (All-cons IsInt (number n) [] int (All-nil IsInt)) (sample_meets n less)

-- after x-1, with the value m
abbrev pub lessened_to : ℤ → ℤ → State
lessened_to n m = record { top = put 1 (number m) (entered n).top; rest = [] }

difference_steps : (n : ℤ) → IsOfType 32 (n +ℤ pos 0 -ℤ (pos 0 +ℤ pos 1)) → Step project report (entered n) (lessened_to n (n -ℤ pos 1))
difference_steps n int = record {
  node = difference;
  here = refl;
  held = one_asked (entered n).top (primary 1 0 0, NoOver Sub 32 (place (register 0)) (Some (place (Num (pos 1))))) (fits (entered n).top Sub 32 (place (register 0)) (place (Num (pos 1))) n (pos 0) refl refl refl refl int);
  goes = (record { left = n; right = pos 1; exact = n -ℤ pos 1; left_is = refl; right_is = refl; exact_is = refl; next = refl }, refl);
}

-- the run from f(1) to the call
pub sample_runs : Run project report 1 (entered (pos 1)) (lessened_to (pos 1) (pos 0))
sample_runs = (lessened_to (pos 1) (pos 0), difference_steps (pos 1) (omega (arith, ints), omega (arith, ints)), refl)

-- what the call supports
abbrev on_divisor : Asked
on_divisor = (support divisor, Nonzero (place (register 1)))

abbrev on_fitting : Asked
on_fitting = (support fitting, NoOver Div 32 (place (Num (pos 7))) (Some (place (register 1))))

pub sample_violates : Violates project report (lessened_to (pos 1) (pos 0)) (support divisor)
sample_violates = record {
  before = [];
  pred = Nonzero (place (register 1));
  after = on_fitting ∷ [];
  checked = refl;
  held = nothing_asked (lessened_to (pos 1) (pos 0)).top;
  fails = λ h. h.1 (pos 0) (pos 0, refl, (omega (arith, ints), omega (arith, ints))) refl;
}

-- the call of `d` from f(8)
abbrev calling : State
calling = lessened_to (pos 8) (pos 7)

abbrev entered_d : State
entered_d = record { top = start_frame 0 d_function (number (pos 7) ∷ (number (pos 7) ∷ [])); rest = calling.top ∷ [] }

seven_is_no_zero : pos 7 +ℤ pos 0 ≢ pos 0
seven_is_no_zero h = absurd (omega (arith, ints, h))

call_steps : Step project report calling entered_d
call_steps = record {
  node = called;
  here = refl;
  held = two_asked calling.top on_divisor on_fitting (nonzero calling.top (place (register 1)) (pos 7) refl refl seven_is_no_zero)
      (fits calling.top Div 32 (place (Num (pos 7))) (place (register 1)) (pos 0) (pos 7) refl refl refl refl (λ both. let least = both.0 in absurd (omega (arith, ints, least))));
  goes = record { function = d_function; is_there = refl; values = number (pos 7) ∷ (number (pos 7) ∷ []); passed = (refl, (refl, tt)); top = refl; rest = refl };
}

abbrev divided : State
divided = record { top = put 2 (number (pos 1)) entered_d.top; rest = calling.top ∷ [] }

quotient_steps : Step project report entered_d divided
quotient_steps = record {
  node = quotient;
  here = refl;
  held = two_asked entered_d.top (primary 0 0 0, Nonzero (place (register 1))) (primary 0 0 1, NoOver Div 32 (place (register 0)) (Some (place (register 1)))) (nonzero entered_d.top (place (register 1)) (pos 7) refl refl seven_is_no_zero)
      (fits entered_d.top Div 32 (place (register 0)) (place (register 1)) (pos 7) (pos 7) refl refl refl refl (λ both. let least = both.0 in absurd (omega (arith, ints, least))));
  goes = (record { left = pos 7; right = pos 7; exact = pos 1; left_is = refl; right_is = refl; exact_is = ((λ zero. absurd (cc)), refl); next = refl }, refl);
}

abbrev pub returned : State
returned = record { top = put 2 (number (pos 1)) calling.top; rest = [] }

return_steps : Step project report divided returned
return_steps = record {
  node = quotient_returned;
  here = refl;
  held = nothing_asked divided.top;
  goes = record {
    caller = calling.top;
    below = [];
    waiting = refl;
    node = called;
    stands = refl;
    to = Some (record { 0 = 2 });
    callee = Fun (record { 0 = 0 });
    args = Num (pos 7) ∷ (register 1 ∷ []);
    strings = [];
    calls = refl;
    result = Some (number (pos 1));
    is_result = (number (pos 1), refl, refl);
    top = refl;
    rest = refl;
  };
}

pub sample_returns : Run project report 4 (entered (pos 8)) returned
sample_returns = (calling, difference_steps (pos 8) (omega (arith, ints), omega (arith, ints)), (entered_d, call_steps, (divided, quotient_steps, (returned, return_steps, refl))))

pub sample_ends : Ends project report returned
sample_ends = record { node = called_returned; here = refl; value = Some (register 2); returns = refl; held = nothing_asked returned.top; alone = refl }

-- both calls are starts of runs
pub one_starts : Starts project report (entered (pos 1))
one_starts = sample_starts (pos 1) (omega (arith, ints), omega (arith, ints)) (omega (arith, ints), omega (arith, ints))

pub eight_starts : Starts project report (entered (pos 8))
eight_starts = sample_starts (pos 8) (omega (arith, ints), omega (arith, ints)) (omega (arith, ints), omega (arith, ints))
