-- An obligation that is made known and put into its file's queue.
use Rattle.std.proofs.Common.{◌≡◌, ◌+◌, ◌<◌, ◌≤◌, List, [], ◌∷◌, ◌++◌, length, map, set, sym, ◌∙◌, ap, subst, arith, length-set}
use Rattle.std.specs.Prelude.{Bool, false, IsTrue, ◌↔◌, Some, slice_get}
use Rattle.std.proofs.lemmas.Bool.{both_ways}
use Rattle.std.proofs.lemmas.List.{map-append}
use Rattle.std.proofs.lemmas.Option.{slice_get_within}
use Rattle.po_base.specs.declared.numbers.FileNo.{FileNo}
use Rattle.po_core.specs.Book.{Book}
use Rattle.po_core.specs.Core.{AreApart}
use Rattle.po_core.specs.declared.event.Mark.{Mark}
use Rattle.po_core.specs.declared.event.Mark.TheVariants.{Untaken}
use Rattle.po_core.specs.declared.obl.Obl.{Obl}
use Rattle.po_marks.specs.Known.{HasKey}
use Rattle.po_marks.specs.Waiting.{AddsNew, AreWaiting, Marking, is_ready, lengthened, line_up, waiting_count}
use Rattle.po_marks.specs.declared.queue.Queue.{Queue}
use Rattle.po_marks.proofs.InLine.{room_in_line}
use Rattle.po_marks.proofs.Marked.{apart_push, key_of_mark}
use Rattle.po_lists.proofs.Places.{get_set_same}
use Rattle.po_marks.proofs.Waits.{count_known, count_set, queue_len-lengthened, read_one, waiting_new}

module _ {P N T : Type 0} (b : Book P N T) (o : Obl P) (m old : Marking P N) (seen : m ≡ old) (waits_old : AreWaiting b old) (file : FileNo) (of : file ≡ b.file_of o.fun) (q : Queue P) (at : slice_get m.queues file.0 ≡ Some q) where
  waits_here : AreWaiting b m
  waits_here = subst (λ (z : Marking P N). AreWaiting b z) (sym seen) waits_old

  pub new_room : is_ready q ≡ false → length m.line < length m.queues
  new_room h = room_in_line m.queues m.line file q q at waits_here.lined waits_here.once h

  module _ (queues : List (Queue P)) (pushes : (r : Queue P) → slice_get m.queues file.0 ≡ Some r → queues ≡ set m.queues file.0 (lengthened r o)) where
    pub new_long : length queues ≡ length m.queues
    new_long = ap length (pushes q at) ∙ length-set m.queues file.0 (lengthened q o)

    pub new_file : file.0 < length queues
    new_file = let l = slice_get_within m.queues file.0 q at in let long = new_long in omega (arith, l, long)

    pub new_count : waiting_count queues ≡ waiting_count m.queues + 1
    new_count =
        let x = count_set b m.queues file.0 q (lengthened q o) at in
        let one = queue_len-lengthened b q o in
        let is = ap waiting_count (pushes q at) in
        omega (arith, x, one, is)

    module _ (there : o.fun.0 < b.functions) (known : Bool) (tells : IsTrue known ↔ HasKey m.items o) (unknown : known ≡ false) (items before_items : List (Obl P × Mark P N)) (room_same : before_items ≡ m.items) (is : items ≡ before_items ++ (o, Untaken) ∷ []) where
      fresh : ¬ HasKey m.items o
      fresh h = both_ways known unknown (tells.1 h)

      grows : items ≡ m.items ++ (o, Untaken) ∷ []
      grows = is ∙ ap (λ (z : List (Obl P × Mark P N)). z ++ (o, Untaken) ∷ []) room_same

      pub new_apart : AreApart (map (λ e. e.0) old.items) → AreApart (map (λ e. e.0) items)
      new_apart a =
          let keys : (Obl P × Mark P N) → Obl P = λ e. e.0 in
          let one : Obl P × Mark P N = (o, Untaken) in
          let is_keys : map keys items ≡ map keys m.items ++ o ∷ [] = ap (map keys) grows ∙ map-append keys m.items (one ∷ []) in
          subst (λ (z : List (Obl P)). AreApart z) (sym is_keys) (apart_push (map keys m.items) o (subst (λ (z : Marking P N). AreApart (map (λ e. e.0) z.items)) (sym seen) a) (λ h. fresh (key_of_mark m.items o h)))

      module _ (r : Queue P) (at_now : slice_get queues file.0 ≡ Some r) (before now : Bool) (was : before ≡ is_ready q) (is_now : now ≡ is_ready r) (line : List FileNo) (lined : line ≡ line_up before now file m.line) where
        longer : lengthened q o ≡ r
        longer = read_one queues file.0 (lengthened q o) r (ap (λ (z : List (Queue P)). slice_get z file.0) (pushes q at) ∙ get_set_same m.queues file.0 (lengthened q o) (slice_get_within m.queues file.0 q at)) at_now

        adds_here : AddsNew b o m (record { items = items; queues = queues; line = line })
        adds_here = record {
          there = there;
          fresh = fresh;
          items = grows;
          queue = q;
          here = subst (λ (z : FileNo). slice_get m.queues z.0 ≡ Some q) of at;
          queues = subst (λ (z : FileNo). queues ≡ set m.queues z.0 (lengthened q o)) of (pushes q at);
          line = lined ∙ (ap (λ (z : Bool). line_up z now file m.line) was ∙ (ap (λ (z : Bool). line_up (is_ready q) z file m.line) is_now ∙ (ap (λ (z : Queue P). line_up (is_ready q) (is_ready z) file m.line) (sym longer) ∙ ap (λ (z : FileNo). line_up (is_ready q) (is_ready (lengthened q o)) z m.line) of)));
        }

        pub added : AddsNew b o old (record { items = items; queues = queues; line = line })
        added = subst (λ (z : Marking P N). AddsNew b o z (record { items = items; queues = queues; line = line })) seen adds_here

        pub added_waits : AreWaiting b (record { items = items; queues = queues; line = line })
        added_waits = waiting_new b m (record { items = items; queues = queues; line = line }) o waits_here adds_here

        pub added_known : waiting_count queues ≤ length items
        added_known = count_known b (record { items = items; queues = queues; line = line }) added_waits
