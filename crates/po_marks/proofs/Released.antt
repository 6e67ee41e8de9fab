-- A file that is freed, and what is taken of its hand.
use Rattle.std.proofs.Common.{◌≡◌, ◌+◌, ◌<◌, ◌≤◌, List, [], ◌++◌, length, map, get_or, set, refl, sym, ◌∙◌, ap, subst, arith, length-set}
use Rattle.std.specs.Prelude.{Bool, true, false, ◌↔◌, Some, slice_get}
use Rattle.std.specs.List.{Contains}
use Rattle.std.proofs.lemmas.Option.{slice_get-get_or}
use Rattle.po_base.specs.declared.numbers.FileNo.{FileNo}
use Rattle.po_core.specs.Book.{Book, file_of_obl}
use Rattle.po_core.specs.Core.{AreApart}
use Rattle.po_core.specs.declared.event.Mark.{Mark}
use Rattle.po_core.specs.declared.event.Mark.TheVariants.{Untaken, Taken}
use Rattle.po_core.specs.declared.obl.Obl.{Obl}
use Rattle.po_marks.specs.Known.{AreRemarked, HasKey, SetsEach}
use Rattle.po_marks.specs.Waiting.{AreWaiting, Marking, SetsHold, free, is_ready, line_up, queue_len, waiting_count}
use Rattle.po_marks.specs.declared.queue.Queue.{Queue}
use Rattle.po_marks.proofs.InLine.{held_not_ready, room_in_line}
use Rattle.po_lists.proofs.Places.{get_set_same}
use Rattle.po_marks.proofs.Sets.{sets_remark}
use Rattle.po_marks.proofs.Waits.{count_back, count_known, count_set, read_one, sets_hold, waiting_back, waiting_freed}

module _ {P N T : Type 0} (b : Book P N T) (m old : Marking P N) (seen : m ≡ old) (waits_old : AreWaiting b old) (file : FileNo) (there : file.0 < length old.queues) (held_old : (q : Queue P) → slice_get old.queues file.0 ≡ Some q → q.is_held ≡ true) where
  waits_here : AreWaiting b m
  waits_here = subst (λ (z : Marking P N). AreWaiting b z) (sym seen) waits_old

  pub there_here : file.0 < length m.queues
  there_here = subst (λ (z : Marking P N). file.0 < length z.queues) (sym seen) there

  abbrev q : Queue P
  q = get_or m.queues file.0 (record { back = []; fresh = []; is_held = false })

  at : slice_get m.queues file.0 ≡ Some q
  at = slice_get-get_or m.queues file.0 (record { back = []; fresh = []; is_held = false }) there_here

  held : q.is_held ≡ true
  held = held_old q (subst (λ (z : Marking P N). slice_get z.queues file.0 ≡ Some q) seen at)

  pub room_here : length m.line < length m.queues
  room_here = room_in_line m.queues m.line file q q at waits_here.lined waits_here.once (held_not_ready q held)

  -- nothing of its hand is taken
  module _ (queues : List (Queue P)) (frees : (r : Queue P) → slice_get m.queues file.0 ≡ Some r → queues ≡ set m.queues file.0 (free r)) where
    pub freed_long : length queues ≡ length m.queues
    freed_long = ap length (frees q at) ∙ length-set m.queues file.0 (free q)

    pub freed_count : waiting_count queues ≡ waiting_count m.queues
    freed_count =
        let x = count_set b m.queues file.0 q (free q) at in
        let same = ap waiting_count (frees q at) in
        let one : queue_len (free q) ≡ queue_len q = refl in
        omega (arith, x, same, one)

    pub freed_holds : SetsHold file false old.queues queues
    freed_holds = subst (λ (z : Marking P N). SetsHold file false z.queues queues) seen (sets_hold m.queues queues file q (free q) false at (frees q at) refl)

    module _ (r : Queue P) (at_now : slice_get queues file.0 ≡ Some r) (now : Bool) (is_now : now ≡ is_ready r) (line : List FileNo) (lined : line ≡ line_up false now file m.line) where
      freed_is : free q ≡ r
      freed_is = read_one queues file.0 (free q) r (ap (λ (z : List (Queue P)). slice_get z file.0) (frees q at) ∙ get_set_same m.queues file.0 (free q) there_here) at_now

      pub freed_waits : AreWaiting b (record { items = m.items; queues = queues; line = line })
      freed_waits = waiting_freed b m (record { items = m.items; queues = queues; line = line }) file q waits_here at held refl (frees q at) (lined ∙ (ap (λ (z : Bool). line_up false z file m.line) is_now ∙ ap (λ (z : Queue P). line_up false (is_ready z) file m.line) (sym freed_is)))

  -- what is taken of its hand is put back
  module _ (apart_old : AreApart (map (λ e. e.0) old.items)) (items taken : List (Obl P)) (of : (o : Obl P) → Contains items o → file_of_obl b o ≡ file) (once_items : AreApart items) (all : (o : Obl P) → Contains taken o ↔ (Contains items o × Contains m.items (o, Taken))) (once : AreApart items → AreApart taken) (os : List (Obl P)) (eo : os ≡ taken) where
    apart_here : AreApart (map (λ e. e.0) m.items)
    apart_here = subst (λ (z : Marking P N). AreApart (map (λ e. e.0) z.items)) (sym seen) apart_old

    pub back_known : (o : Obl P) → Contains os o → HasKey m.items o
    back_known o h = (Taken, ((all o).0 (subst (λ (z : List (Obl P)). Contains z o) eo h)).1)

    pub back_once : AreApart os
    back_once = subst (λ (z : List (Obl P)). AreApart z) (sym eo) (once once_items)

    module _ (new : List (Obl P × Mark P N)) (sets : SetsEach os Untaken m.items new) where
      remarks_here : AreRemarked (λ o. Contains items o) Taken Untaken m.items new
      remarks_here = sets_remark (λ o. Contains items o) Taken Untaken taken m.items new apart_here (λ o. (λ h. let x = (all o).0 h in (x.1, x.0), λ h. (all o).1 (h.1, h.0))) (subst (λ (z : List (Obl P)). SetsEach z Untaken m.items new) eo sets)

      pub back_remarks : AreRemarked (λ o. Contains items o) Taken Untaken old.items new
      back_remarks = subst (λ (z : Marking P N). AreRemarked (λ o. Contains items o) Taken Untaken z.items new) seen remarks_here

      abbrev filled : Queue P
      filled = record { back = taken; fresh = q.fresh; is_held = false }

      waits_then : (queues : List (Queue P)) (line : List FileNo) → queues ≡ set m.queues file.0 (record { back = taken; fresh = q.fresh; is_held = false }) → line ≡ line_up false (is_ready (record { back = taken; fresh = q.fresh; is_held = false })) file m.line → AreWaiting b (record { items = new; queues = queues; line = line })
      waits_then queues line is lined = waiting_back b m (record { items = new; queues = queues; line = line }) file q waits_here at held items taken apart_here of all (once once_items) remarks_here is lined

      count_then : waiting_count (set m.queues file.0 (record { back = taken; fresh = q.fresh; is_held = false })) ≡ waiting_count m.queues + length taken
      count_then = count_back b m (record { items = new; queues = m.queues; line = m.line }) file q waits_here at held items taken apart_here of all (once once_items) remarks_here

      pub back_most : waiting_count m.queues + length taken ≤ length new
      back_most =
          let later : Marking P N = record { items = new; queues = set m.queues file.0 (record { back = taken; fresh = q.fresh; is_held = false }); line = line_up false (is_ready (record { back = taken; fresh = q.fresh; is_held = false })) file m.line } in
          let most = count_known b later (waits_then later.queues later.line refl refl) in
          let is = count_then in
          omega (arith, most, is)

      module _ (queues : List (Queue P)) (puts : (r : Queue P) → slice_get m.queues file.0 ≡ Some r → queues ≡ set m.queues file.0 (record { back = taken; fresh = r.fresh; is_held = false })) where
        pub back_long : length queues ≡ length m.queues
        back_long = ap length (puts q at) ∙ length-set m.queues file.0 (record { back = taken; fresh = q.fresh; is_held = false })

        pub back_count : waiting_count queues ≡ waiting_count m.queues + length taken
        back_count = ap waiting_count (puts q at) ∙ count_then

        pub back_holds : SetsHold file false old.queues queues
        back_holds = subst (λ (z : Marking P N). SetsHold file false z.queues queues) seen (sets_hold m.queues queues file q (record { back = taken; fresh = q.fresh; is_held = false }) false at (puts q at) refl)

        module _ (r : Queue P) (at_now : slice_get queues file.0 ≡ Some r) (now : Bool) (is_now : now ≡ is_ready r) (line : List FileNo) (lined : line ≡ line_up false now file m.line) where
          back_is : record { back = taken; fresh = q.fresh; is_held = false } ≡ r
          back_is = read_one queues file.0 (record { back = taken; fresh = q.fresh; is_held = false }) r (ap (λ (z : List (Queue P)). slice_get z file.0) (puts q at) ∙ get_set_same m.queues file.0 (record { back = taken; fresh = q.fresh; is_held = false }) there_here) at_now

          pub back_waits : AreWaiting b (record { items = new; queues = queues; line = line })
          back_waits = waits_then queues line (puts q at) (lined ∙ (ap (λ (z : Bool). line_up false z file m.line) is_now ∙ ap (λ (z : Queue P). line_up false (is_ready z) file m.line) (sym back_is)))
