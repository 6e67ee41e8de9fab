-- What is drawn from the queue of the file that stands first in line.
use Rattle.std.proofs.Common.{◌≡◌, ◌⊎◌, ℕ, ◌+◌, ◌<◌, ◌≤◌, List, [], ◌∷◌, ◌++◌, length, map, take, get_or, set, refl, sym, ◌∙◌, ap, subst, inl, inr, arith, append_assoc}
use Rattle.std.specs.Prelude.{Bool, true, false, Some, slice_get}
use Rattle.std.specs.List.{Contains}
use Rattle.std.proofs.lemmas.List.{length-append, map-append}
use Rattle.po_base.specs.declared.numbers.FileNo.{FileNo}
use Rattle.po_core.specs.Book.{Book, file_of_obl}
use Rattle.po_core.specs.Core.{AreApart}
use Rattle.po_core.specs.declared.event.Mark.{Mark}
use Rattle.po_core.specs.declared.event.Mark.TheVariants.{Untaken, Taken}
use Rattle.po_core.specs.declared.obl.Obl.{Obl}
use Rattle.po_marks.specs.Known.{AreRemarked, HasKey, SetsEach}
use Rattle.po_marks.specs.Waiting.{AreWaiting, IsOpenHand, Marking, SetsHold, TakesFrom, all_of, queue_len, waiting_count}
use Rattle.po_marks.specs.declared.queue.Queue.{Queue}
use Rattle.po_marks.proofs.Marked.{take_read}
use Rattle.po_marks.proofs.Sets.{sets_remark}
use Rattle.po_marks.proofs.Waits.{count_set, sets_hold, waiting_drawn}

-- a hand that grows
pub open_more : {P : Type 0} (hand more_hand : List (Obl P × Bool)) (items more : List (Obl P)) (o : Obl P) → IsOpenHand hand items → more ≡ items ++ o ∷ [] → more_hand ≡ hand ++ (o, false) ∷ [] → IsOpenHand more_hand more
open_more {P} hand more_hand items more o is grew hand_grew =
    let f : Obl P → Obl P × Bool = λ p. (p, false) in
    hand_grew ∙ (ap (λ (z : List (Obl P × Bool)). z ++ (o, false) ∷ []) is ∙ (sym (map-append f items (o ∷ [])) ∙ ap (map f) (sym grew)))

-- items that are put to others
pub kept_more : {X : Type 0} (from now more waiting : List X) (i : ℕ) (o : X) → i < length waiting → o ≡ get_or waiting i o → now ≡ from ++ take i waiting → more ≡ now ++ o ∷ [] → more ≡ from ++ take (i + 1) waiting
kept_more from now more waiting i o l q is grew = grew ∙ (ap (λ z. z ++ o ∷ []) is ∙ (append_assoc from (take i waiting) (o ∷ []) ∙ ap (λ z. from ++ z) (sym (take_read waiting i o l q))))

pub queue_len-sum : {P : Type 0} (q : Queue P) → queue_len q ≡ length q.back + length q.fresh
queue_len-sum q = length-append q.back q.fresh

module _ {P N T : Type 0} (b : Book P N T) (m old : Marking P N) (seen : m ≡ old) (waits_old : AreWaiting b old) (file : FileNo) (q : Queue P) (at : slice_get m.queues file.0 ≡ Some q) (start some items back fresh : List (Obl P)) (none : start ≡ []) (eb : back ≡ q.back) (ef : fresh ≡ q.fresh) (first : some ≡ start ++ back) (second : items ≡ some ++ fresh) where
  waits_here : AreWaiting b m
  waits_here = subst (λ (z : Marking P N). AreWaiting b z) (sym seen) waits_old

  drawn_all : items ≡ all_of q
  drawn_all = second ∙ (ap (λ (z : List (Obl P)). z ++ fresh) (first ∙ (ap (λ (z : List (Obl P)). z ++ back) none ∙ eb)) ∙ ap (λ (z : List (Obl P)). q.back ++ z) ef)

  drawn_takes_here : TakesFrom b m.items file items
  drawn_takes_here = subst (λ (z : List (Obl P)). TakesFrom b m.items file z) (sym drawn_all) (waits_here.each file q at)

  pub drawn_takes : TakesFrom b old.items file items
  drawn_takes = subst (λ (z : Marking P N). TakesFrom b z.items file items) seen drawn_takes_here

  pub drawn_count : length items ≡ queue_len q
  drawn_count = ap length drawn_all

  module _ (os : List (Obl P)) (eo : os ≡ items) where
    pub drawn_known : (o : Obl P) → Contains os o → HasKey m.items o
    drawn_known o h = (Untaken, ((drawn_takes_here.all o).0 (subst (λ (z : List (Obl P)). Contains z o) eo h)).0)

    pub drawn_once : AreApart os
    drawn_once = subst (λ (z : List (Obl P)). AreApart z) (sym eo) drawn_takes_here.once

    module _ (apart_old : AreApart (map (λ e. e.0) old.items)) (new : List (Obl P × Mark P N)) (sets : SetsEach os Taken m.items new) where
      remarks_here : AreRemarked (λ o. file_of_obl b o ≡ file) Untaken Taken m.items new
      remarks_here = sets_remark (λ o. file_of_obl b o ≡ file) Untaken Taken items m.items new (subst (λ (z : Marking P N). AreApart (map (λ e. e.0) z.items)) (sym seen) apart_old) drawn_takes_here.all (subst (λ (z : List (Obl P)). SetsEach z Taken m.items new) eo sets)

      pub drawn_remarks : AreRemarked (λ o. file_of_obl b o ≡ file) Untaken Taken old.items new
      drawn_remarks = subst (λ (z : Marking P N). AreRemarked (λ o. file_of_obl b o ≡ file) Untaken Taken z.items new) seen remarks_here

      module _ (queues : List (Queue P)) (is : queues ≡ set m.queues file.0 (record { back = []; fresh = []; is_held = true })) where
        pub drawn_holds : SetsHold file true old.queues queues
        drawn_holds = subst (λ (z : Marking P N). SetsHold file true z.queues queues) seen (sets_hold m.queues queues file q (record { back = []; fresh = []; is_held = true }) true at is refl)

        pub drawn_less : waiting_count queues + length items ≡ waiting_count m.queues
        drawn_less =
            let x = count_set b m.queues file.0 q (record { back = []; fresh = []; is_held = true }) at in
            let same = ap waiting_count is in
            let long = drawn_count in
            omega (arith, x, same, long)

        module _ (line : List FileNo) (leaves : (f : FileNo) (l : List FileNo) → m.line ≡ f ∷ l → line ≡ l) (front : (rest : List FileNo) × (old.line ≡ file ∷ rest)) where
          pub drawn_waits : AreWaiting b (record { items = new; queues = queues; line = line })
          drawn_waits =
              let stood : m.line ≡ file ∷ front.0 = ap (λ (z : Marking P N). z.line) seen ∙ front.1 in
              waiting_drawn b m (record { items = new; queues = queues; line = line }) file q waits_here at front.0 stood (leaves file front.0 stood) is remarks_here
