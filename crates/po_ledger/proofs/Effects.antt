-- What changed lists mean for the state that they are.
use Rattle.std.proofs.Common.{◌≡◌, ◌≢◌, ℕ, ◌<◌, List, [], ◌∷◌, ◌++◌, length, set, refl, sym, ◌∙◌, ap, subst, inl, inr, arith}
use Rattle.std.specs.Prelude.{Option, Some, None, slice_get, ◌↔◌}
use Rattle.po_base.specs.declared.numbers.FileNo.{FileNo}
use Rattle.po_core.specs.Book.{Book}
use Rattle.po_core.specs.Core.{CoreState, HasMark, HasHand, KeepsOtherHands, Remarks, Steps, Runs, Replays}
use Rattle.po_core.specs.declared.event.Event.{Event}
use Rattle.po_core.specs.declared.event.Hand.{Hand}
use Rattle.po_core.specs.declared.event.Mark.{Mark}
use Rattle.po_core.specs.declared.obl.Obl.{Obl}
use Rattle.po_lists.proofs.Places.{get_set_same, get_set_other}

-- a remark means others where those are the same among what it marks
pub remarks_like : {P N : Type 0} (s t : CoreState P N) (W V : Obl P → Type 0) (old new : Mark P N) → ((o : Obl P) → HasMark s o old → W o ↔ V o) → Remarks s t W old new → Remarks s t V old new
remarks_like {N = N} s t W V old new like r o m = (
  λ h. elim ((r o m).0 h) [
    | inl x ↦ inl (x.0, x.1, (like o x.1).0 x.2)
    | inr x ↦ inr (x.0, λ y. x.1 (y.0, (like o (subst (λ (z : Mark _ N). HasMark s o z) y.0 x.0)).1 y.1))
  ],
  λ h. (r o m).1 (elim h [
    | inl x ↦ inl (x.0, x.1, (like o x.1).1 x.2)
    | inr x ↦ inr (x.0, λ y. x.1 (y.0, (like o (subst (λ (z : Mark _ N). HasMark s o z) y.0 x.0)).0 y.1))
  ]),
)

-- a write to a file's place leaves the other hands
pub other_hands_kept : {P N : Type 0} (s t : CoreState P N) (file : FileNo) (x : Option (Hand P)) → t.hands ≡ set s.hands file.0 x → KeepsOtherHands s t file
other_hands_kept {P} s t file x is other hand ne =
    let apart : other.0 ≢ file.0 = λ q. ne (let to : ℕ → FileNo = λ n. record { 0 = n } in ap to q) in
    let same : slice_get t.hands other.0 ≡ slice_get s.hands other.0 = ap (λ (z : List (Option (Hand P))). slice_get z other.0) is ∙ get_set_other s.hands file.0 other.0 x apart in
    (λ h. sym same ∙ h, λ h. same ∙ h)

pub now_held : {P N : Type 0} (s t : CoreState P N) (file : FileNo) (hand : Hand P) → t.hands ≡ set s.hands file.0 (Some hand) → file.0 < length s.hands → HasHand t file hand
now_held {P} s t file hand is l = ap (λ (z : List (Option (Hand P))). slice_get z file.0) is ∙ get_set_same s.hands file.0 (Some hand) l

pub now_free : {P N : Type 0} (s t : CoreState P N) (file : FileNo) → t.hands ≡ set s.hands file.0 None → file.0 < length s.hands → (hand : Hand P) → ¬ HasHand t file hand
now_free {P} s t file is l hand h =
    let none : slice_get t.hands file.0 ≡ Some None = ap (λ (z : List (Option (Hand P))). slice_get z file.0) is ∙ get_set_same s.hands file.0 None l in
    let differ : ◌≡◌ {A = Option (Option (Hand P))} (Some None) (Some (Some hand)) = sym none ∙ h in
    cc

-- one more event
runs_more : {P N T : Type 0} (b : Book P N T) (r : CoreState P N) (es : List (Event P N)) (e : Event P N) (s t : CoreState P N) → Runs b r es s → Steps b e s t → Runs b r (es ++ e ∷ []) t
runs_more {P} {N} b r [] e s t run st = (t, subst (λ (z : CoreState P N). Steps b e z t) (sym run) st, refl)
runs_more b r (f ∷ es) e s t run st = (run.0, run.1, runs_more b run.0 es e s t run.2 st)

pub replays_more : {P N T : Type 0} (b : Book P N T) (es : List (Event P N)) (e : Event P N) (s t : CoreState P N) → Replays b es s → Steps b e s t → Replays b (es ++ e ∷ []) t
replays_more b es e s t r st = (r.0, r.1, runs_more b r.0 es e s t r.2 st)
