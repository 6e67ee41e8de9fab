-- Obligations that are taken out again as they were added.
use Rattle.std.proofs.Common.{◌≡◌, ℕ, zero, suc, ◌+◌, ◌<◌, List, [], ◌∷◌, ◌++◌, length, set, sym, ◌∙◌, ap, subst, inl, inr, arith, length-set}
use Rattle.std.specs.Prelude.{Some, slice_get}
use Rattle.std.proofs.lemmas.List.{length_push}
use Rattle.std.proofs.lemmas.Option.{slice_get_within}
use Rattle.po_base.specs.declared.numbers.FileNo.{FileNo}
use Rattle.po_core.specs.Book.{Book, file_of_obl}
use Rattle.po_core.specs.declared.event.Mark.{Mark}
use Rattle.po_core.specs.declared.event.Mark.TheVariants.{Untaken}
use Rattle.po_core.specs.declared.obl.Obl.{Obl}
use Rattle.po_marks.specs.Known.{AddsUntaken}
use Rattle.po_marks.specs.Waiting.{Adds, AddsInTurn, AddsNew, KeepsHolds, Marking, is_ready, lengthened, line_up, waiting_count}
use Rattle.po_marks.specs.declared.queue.Queue.{Queue}
use Rattle.po_marks.proofs.Places.{same_front, same_last, set_back}
use Rattle.po_marks.proofs.Waits.{count_set, holds_both, holds_more, holds_same, queue_len-lengthened, read_one}
use Rattle.po_lists.proofs.Places.{get_set_same}

module _ {P N T : Type 0} (b : Book P N T) where
  -- what was added is known, and all else is
  pub adds_untaken : (o : Obl P) (old new : Marking P N) → Adds b o old new → AddsUntaken old.items new.items o
  adds_untaken o old new (inl h) = inl (h.0, ap (λ (z : Marking P N). z.items) h.1)
  adds_untaken o old new (inr a) = inr (a.fresh, a.items)

  pub adds_holds : (o : Obl P) (old new : Marking P N) → Adds b o old new → KeepsHolds old.queues new.queues
  adds_holds o old new (inl h) = holds_same old.queues new.queues (ap (λ (z : Marking P N). z.queues) h.1)
  adds_holds o old new (inr a) = holds_more b o old new a

  module _ (m now : Marking P N) (o : Obl P) (a : AddsNew b o m now) where
    file_here : (file_of_obl b o).0 < length m.queues
    file_here = slice_get_within m.queues (file_of_obl b o).0 a.queue a.here

    pub queue_now : slice_get now.queues (file_of_obl b o).0 ≡ Some (lengthened a.queue o)
    queue_now = ap (λ (z : List (Queue P)). slice_get z (file_of_obl b o).0) a.queues ∙ get_set_same m.queues (file_of_obl b o).0 (lengthened a.queue o) file_here

    pub some_known : 0 < length now.items
    some_known = let long = ap length a.items in let one = length_push m.items (o, Untaken) in omega (arith, long, one)

    -- the last one is taken out
    module _ (popped : Obl P) (mark : Mark P N) (items : List (Obl P × Mark P N)) (last : now.items ≡ items ++ (popped, mark) ∷ []) where
      pub popped_is : popped ≡ o
      popped_is = ap (λ (z : Obl P × Mark P N). z.0) (same_last items m.items (popped, mark) (o, Untaken) (sym last ∙ a.items))

      pub popped_there : popped.fun.0 < b.functions
      popped_there = subst (λ (z : Obl P). z.fun.0 < b.functions) (sym popped_is) a.there

      popped_items : items ≡ m.items
      popped_items = same_front items m.items (popped, mark) (o, Untaken) (sym last ∙ a.items)

      module _ (file : FileNo) (of : file ≡ b.file_of popped.fun) where
        file_is : file ≡ file_of_obl b o
        file_is = of ∙ ap (λ (z : Obl P). file_of_obl b z) popped_is

        pub popped_file : file.0 < length now.queues
        popped_file =
            let same = ap (λ (z : FileNo). z.0) file_is in
            let l = slice_get_within now.queues (file_of_obl b o).0 (lengthened a.queue o) queue_now in
            omega (arith, same, l)

        module _ (queues : List (Queue P)) (pops : (q : Queue P) (p : Obl P) → slice_get now.queues file.0 ≡ Some (lengthened q p) → queues ≡ set now.queues file.0 q) where
          at_file : slice_get now.queues file.0 ≡ Some (lengthened a.queue o)
          at_file = ap (λ (z : FileNo). slice_get now.queues z.0) file_is ∙ queue_now

          popped_queues : queues ≡ m.queues
          popped_queues = pops a.queue o at_file ∙ (ap (λ (z : FileNo). set now.queues z.0 a.queue) file_is ∙ (ap (λ (z : List (Queue P)). set z (file_of_obl b o).0 a.queue) a.queues ∙ set_back m.queues (file_of_obl b o).0 a.queue (lengthened a.queue o) a.here))

          pub left_file : file.0 < length queues
          left_file =
              let same = ap (λ (z : FileNo). z.0) file_is in
              let l = file_here in
              let long = ap length popped_queues in
              omega (arith, same, l, long)

          -- one less waits
          pub popped_count : waiting_count now.queues ≡ waiting_count queues + 1
          popped_count =
              let x = count_set b m.queues (file_of_obl b o).0 a.queue (lengthened a.queue o) a.here in
              let one = queue_len-lengthened b a.queue o in
              let is = ap waiting_count a.queues in
              let back = ap waiting_count popped_queues in
              omega (arith, x, one, is, back)

          pub popped_long : length queues ≡ length now.queues
          popped_long = let y = ap length a.queues in let z = length-set m.queues (file_of_obl b o).0 (lengthened a.queue o) in let w = ap length popped_queues in omega (arith, y, z, w)

          module _ (qn qb : Queue P) (read_now : slice_get now.queues file.0 ≡ Some qn) (read_back : slice_get queues file.0 ≡ Some qb) (line : List FileNo) (leaves : (f : FileNo) (l : List FileNo) → now.line ≡ line_up (is_ready qb) (is_ready qn) f l → line ≡ l) where
            back_is : a.queue ≡ qb
            back_is = read_one queues file.0 a.queue qb (ap (λ (z : List (Queue P)). slice_get z file.0) popped_queues ∙ (ap (λ (z : FileNo). slice_get m.queues z.0) file_is ∙ a.here)) read_back

            now_is : lengthened a.queue o ≡ qn
            now_is = read_one now.queues file.0 (lengthened a.queue o) qn at_file read_now

            popped_line : line ≡ m.line
            popped_line = leaves (file_of_obl b o) m.line (a.line ∙ (ap (λ (z : Queue P). line_up (is_ready z) (is_ready (lengthened a.queue o)) (file_of_obl b o) m.line) back_is ∙ ap (λ (z : Queue P). line_up (is_ready qb) (is_ready z) (file_of_obl b o) m.line) now_is))

            pub undone : ◌≡◌ {A = Marking P N} (record { items = items; queues = queues; line = line }) m
            undone i = record { items = popped_items i; queues = popped_queues i; line = popped_line i }

  -- many, one after the other
  pub in_turn-length : (n : ℕ) (old new : Marking P N) → AddsInTurn b n old new → length new.items ≡ length old.items + n
  in_turn-length zero old new h = let is = ap (λ (z : Marking P N). length z.items) h in omega (arith, is)
  in_turn-length (suc n) old new h =
      let before = in_turn-length n old h.0 h.2 in
      let long = ap length h.3.items in
      let one = length_push h.0.items (h.1, Untaken) in
      omega (arith, before, long, one)

  pub in_turn_none : (n : ℕ) (old new : Marking P N) → AddsInTurn b n old new → n ≡ 0 → new ≡ old
  in_turn_none zero old new h q = sym h
  in_turn_none (suc n) old new h q = absurd (omega (arith, q))

  -- the last of many
  pub in_turn_last : (n : ℕ) (old new : Marking P N) → AddsInTurn b n old new → 0 < n → (mid : Marking P N) × (o : Obl P) × AddsNew b o mid new
  in_turn_last zero old new h l = absurd (omega (arith, l))
  in_turn_last (suc n) old new h l = (h.0, h.1, h.3)

  pub in_turn_before : (n : ℕ) (old new left : Marking P N) → AddsInTurn b n old new → 0 < n → ((m : Marking P N) (o : Obl P) → AddsNew b o m new → left ≡ m) → (k : ℕ) × AddsInTurn b k old left × (k + 1 ≡ n)
  in_turn_before zero old new left h l undo = absurd (omega (arith, l))
  in_turn_before (suc n) old new left h l undo = (n, subst (λ (z : Marking P N). AddsInTurn b n old z) (sym (undo h.0 h.1 h.3)) h.2, omega arith)

  pub in_turn_more : (o : Obl P) (old mid new : Marking P N) → (n : ℕ) × AddsInTurn b n old mid → Adds b o mid new → (n : ℕ) × AddsInTurn b n old new
  in_turn_more o old mid new h (inl k) = subst (λ (z : Marking P N). (n : ℕ) × AddsInTurn b n old z) (sym k.1) h
  in_turn_more o old mid new h (inr a) = (suc h.0, (mid, o, h.1, a))

  pub in_turn_holds : (n : ℕ) (old new : Marking P N) → AddsInTurn b n old new → KeepsHolds old.queues new.queues
  in_turn_holds zero old new h = holds_same old.queues new.queues (ap (λ (z : Marking P N). z.queues) (sym h))
  in_turn_holds (suc n) old new h = holds_both old.queues h.0.queues new.queues (in_turn_holds n old h.0 h.2) (holds_more b h.1 h.0 new h.3)
