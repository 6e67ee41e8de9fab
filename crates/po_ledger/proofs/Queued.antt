-- What waits in a ledger's queues after each call.
use Rattle.std.proofs.Common.{◌≡◌, ◌⊎◌, ℕ, zero, suc, ◌<◌, ◌≤◌, List, [], length, get_or, set, replicate, refl, sym, ◌∙◌, ap, subst, inl, inr, arith}
use Rattle.std.specs.Prelude.{Bool, true, false, Option, Some, None, slice_get}
use Rattle.std.specs.List.{Contains}
use Rattle.std.proofs.lemmas.Bool.{false≢true}
use Rattle.std.proofs.lemmas.Option.{slice_get-get_or}
use Rattle.po_base.specs.declared.numbers.FileNo.{FileNo}
use Rattle.po_core.specs.Book.{Book, IsBook, file_of_obl}
use Rattle.po_core.specs.declared.event.Hand.{Hand}
use Rattle.po_core.specs.declared.event.Mark.TheVariants.{Untaken}
use Rattle.po_core.specs.declared.obl.Obl.{Obl}
use Rattle.po_ledger.specs.Calls.{Counts}
use Rattle.po_ledger.specs.Parts.{HandAt, HasKey}
use Rattle.po_ledger.specs.Queued.{IsQueued}
use Rattle.po_marks.specs.Waiting.{AreWaiting, KeepsHolds, Marking, NoneIsHeld, SetsHold, queue_len, waiting_count}
use Rattle.po_marks.specs.declared.queue.Queue.{Queue}
use Rattle.po_marks.proofs.Places.{set_cases}
use Rattle.po_marks.proofs.Waits.{all_apart, all_count, all_there, all_untaken, all_waiting}
use Rattle.po_lists.proofs.Places.{get_set_other, get_set_same}

pub no_hand : {P : Type 0} (n k : ℕ) (hand : Hand P) → slice_get (replicate n None) k ≡ Some (Some hand) → ⊥
no_hand zero k hand q = cc
no_hand (suc n) zero hand q = cc
no_hand (suc n) (suc k) hand q = no_hand n k hand q

-- a file that is held where one place was written is that file, or was held
pub held_cases : {P : Type 0} (hands : List (Option (Hand P))) (k : ℕ) (x : Option (Hand P)) (f : FileNo) → HandAt (set hands k x) f → ((f.0 ≡ k) × ((hand : Hand P) × (x ≡ Some hand))) ⊎ ((¬ (f.0 ≡ k)) × HandAt hands f)
held_cases {P} hands k x f h = elim (set_cases hands k f.0 x (Some h.0) h.1) [ inl y ↦ inl (y.0, (h.0, y.1)) | inr y ↦ inr (y.0, (h.0, y.1)) ]

pub held_still : {P : Type 0} (hands : List (Option (Hand P))) (k : ℕ) (x : Option (Hand P)) (f : FileNo) → ¬ (f.0 ≡ k) → HandAt hands f → HandAt (set hands k x) f
held_still hands k x f ne h = (h.0, get_set_other hands k f.0 x ne ∙ h.1)

pub held_now : {P : Type 0} (hands : List (Option (Hand P))) (k : ℕ) (hand : Hand P) (f : FileNo) → f.0 ≡ k → k < length hands → HandAt (set hands k (Some hand)) f
held_now hands k hand f same within = (hand, ap (λ (z : ℕ). slice_get (set hands k (Some hand)) z) same ∙ get_set_same hands k (Some hand) within)

not_none : {P : Type 0} (hand : Hand P) → ◌≡◌ {A = Option (Hand P)} None (Some hand) → ⊥
not_none hand q = cc

module _ {P N T : Type 0} (b of_book : Book P N T) (same : of_book ≡ b) where
  waits_here : (m : Marking P N) → AreWaiting of_book m → AreWaiting b m
  waits_here m w = subst (λ (z : Book P N T). AreWaiting z m) same w

  pub waits_there : (m : Marking P N) → AreWaiting b m → AreWaiting of_book m
  waits_there m w = subst (λ (z : Book P N T). AreWaiting z m) (sym same) w

  pub queued_new : (m : Marking P N) (hands : List (Option (Hand P))) (files : ℕ) → AreWaiting of_book m → NoneIsHeld m.queues → hands ≡ replicate files None → IsQueued b m hands
  queued_new m hands files w free none = record {
    waiting = waits_here m w;
    holds = λ f q at. (
      λ t. absurd (false≢true (sym (free f.0 q at) ∙ t)),
      λ h. absurd (no_hand files f.0 h.0 (ap (λ (z : List (Option (Hand P))). slice_get z f.0) (sym none) ∙ h.1)),
    );
  }

  module _ (m n : Marking P N) (hands : List (Option (Hand P))) (k : IsQueued b m hands) (w : AreWaiting of_book n) where
    -- nobody gets hold of a file or lets it go
    pub queued_kept : KeepsHolds m.queues n.queues → IsQueued b n hands
    queued_kept keeps = record {
      waiting = waits_here n w;
      holds = λ f q at. let x = keeps f.0 q at in (λ t. (k.holds f x.0 x.1).0 (sym x.2 ∙ t), λ h. x.2 ∙ (k.holds f x.0 x.1).1 h);
    }

    pub queued_same : n.queues ≡ m.queues → IsQueued b n hands
    queued_same is = queued_kept (λ f q h. (q, ap (λ (z : List (Queue P)). slice_get z f) (sym is) ∙ h, refl))

    module _ (later : List (Option (Hand P))) (file : FileNo) where
      -- a file is taken
      pub queued_taken : (hand : Hand P) → file.0 < length hands → SetsHold file true m.queues n.queues → later ≡ set hands file.0 (Some hand) → IsQueued b n later
      queued_taken hand within sets now = record {
        waiting = waits_here n w;
        holds = λ f q at.
            let x = sets f.0 q at in
            elim x.2 [
              | inl y ↦ (λ t. subst (λ (z : List (Option (Hand P))). HandAt z f) (sym now) (held_now hands file.0 hand f y.0 within), λ h. y.1)
              | inr y ↦ (
                λ t. subst (λ (z : List (Option (Hand P))). HandAt z f) (sym now) (held_still hands file.0 (Some hand) f y.0 ((k.holds f x.0 x.1).0 (sym y.1 ∙ t))),
                λ h. y.1 ∙ (k.holds f x.0 x.1).1 (elim (held_cases hands file.0 (Some hand) f (subst (λ (z : List (Option (Hand P))). HandAt z f) now h)) [ inl z ↦ absurd (y.0 z.0) | inr z ↦ z.1 ]),
              )
            ];
      }

      -- a file is freed
      pub queued_freed : SetsHold file false m.queues n.queues → later ≡ set hands file.0 None → IsQueued b n later
      queued_freed sets now = record {
        waiting = waits_here n w;
        holds = λ f q at.
            let x = sets f.0 q at in
            elim x.2 [
              | inl y ↦ (
                λ t. absurd (false≢true (sym y.1 ∙ t)),
                λ h. absurd (elim (held_cases hands file.0 None f (subst (λ (z : List (Option (Hand P))). HandAt z f) now h)) [ inl z ↦ not_none z.1.0 z.1.1 | inr z ↦ z.0 y.0 ]),
              )
              | inr y ↦ (
                λ t. subst (λ (z : List (Option (Hand P))). HandAt z f) (sym now) (held_still hands file.0 None f y.0 ((k.holds f x.0 x.1).0 (sym y.1 ∙ t))),
                λ h. y.1 ∙ (k.holds f x.0 x.1).1 (elim (held_cases hands file.0 None f (subst (λ (z : List (Option (Hand P))). HandAt z f) now h)) [ inl z ↦ absurd (y.0 z.0) | inr z ↦ z.1 ]),
              )
            ];
      }

  -- nothing has changed
  pub queued_view : (m n : Marking P N) (hands : List (Option (Hand P))) → IsQueued b m hands → n ≡ m → IsQueued b n hands
  queued_view m n hands k is = subst (λ (z : Marking P N). IsQueued b z hands) (sym is) k

-- what is drawn from a queue is no more than it has
pub drawn_room : {P : Type 0} (queues : List (Queue P)) (file : ℕ) → file < length queues → (n count : ℕ) → ((q : Queue P) → slice_get queues file ≡ Some q → n ≡ queue_len q) → ((q : Queue P) → slice_get queues file ≡ Some q → queue_len q ≡ count) → n ≤ count
drawn_room {P} queues file l n count few all =
    let d : Queue P = record { back = []; fresh = []; is_held = false } in
    let at = slice_get-get_or queues file d l in
    let x = few (get_or queues file d) at in
    let y = all (get_or queues file d) at in
    omega (arith, x, y)

-- a queue says that its file is held where it is
pub says_held : {P N T : Type 0} (b : Book P N T) (m : Marking P N) (hands : List (Option (Hand P))) (k : IsQueued b m hands) (file : FileNo) → HandAt hands file → (q : Queue P) → slice_get m.queues file.0 ≡ Some q → q.is_held ≡ true
says_held b m hands k file h q at = (k.holds file q at).1 h

-- how many obligations are untaken
pub untaken_counted : {P N T : Type 0} (eq : P → P → Bool) (b : Book P N T) (law : IsBook eq b) (m : Marking P N) (w : AreWaiting b m) (known : (o : Obl P) → HasKey m.items o → o.fun.0 < b.functions) → Counts (λ o. Contains m.items (o, Untaken)) (waiting_count m.queues)
untaken_counted {P} eq b law m w known = (
  all_waiting b m w,
  all_apart b m w,
  λ o h. all_untaken b m w o h,
  λ o h.
      let d : Queue P = record { back = []; fresh = []; is_held = false } in
      let file = file_of_obl b o in
      let f = law.files_there o.fun (known o (Untaken, h)) in
      let l : file.0 < length m.queues = omega (arith, f, w.there) in
      let at = slice_get-get_or m.queues file.0 d l in
      all_there b m w file (get_or m.queues file.0 d) o at (((w.each file (get_or m.queues file.0 d) at).all o).1 (h, refl)),
  all_count b m w,
)
