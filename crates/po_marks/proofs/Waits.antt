-- What waits in the files' queues, after a change.
use Rattle.std.proofs.Common.{◌≡◌, ◌≢◌, ◌⊎◌, ℕ, zero, suc, ◌+◌, ◌*◌, ◌<◌, ◌≤◌, List, [], ◌∷◌, ◌++◌, length, map, get_or, set, replicate, refl, sym, ◌∙◌, ap, subst, inl, inr, arith, length-set, append_assoc}
use Rattle.std.specs.Prelude.{◌↔◌, Bool, true, false, Some, slice_get}
use Rattle.std.specs.List.{Contains, flat_map}
use Rattle.std.proofs.lemmas.Bool.{false≢true}
use Rattle.std.proofs.lemmas.List.{length-append, length-map, length-replicate}
use Rattle.std.proofs.lemmas.List.Concat.{length-flat_map}
use Rattle.std.proofs.lemmas.List.Elements.{Contains-push_cases, Contains-push, Contains-append_left, Contains-append_right, Contains-append_cases, Contains-get_or}
use Rattle.std.proofs.lemmas.List.Folds.{sum_by-replicate}
use Rattle.std.proofs.lemmas.List.Sums.{sum_by-set, get_or-le-sum_by}
use Rattle.std.proofs.lemmas.Option.{slice_get_within, same_Some, get_or_from_slice_get}
use Rattle.po_base.specs.declared.numbers.FileNo.{FileNo}
use Rattle.po_base.specs.declared.numbers.FunNo.{FunNo}
use Rattle.po_base.specs.declared.numbers.NodeNo.{NodeNo}
use Rattle.po_core.specs.Book.{Book, IsBook, file_of_obl}
use Rattle.po_core.specs.Core.{AreApart}
use Rattle.po_core.proofs.Lists.{apart_within}
use Rattle.po_core.specs.Marks.{settled_untaken, taken_untaken}
use Rattle.po_core.specs.declared.event.Mark.{Mark}
use Rattle.po_core.specs.declared.event.Mark.TheVariants.{Untaken, Taken, Settled}
use Rattle.po_core.specs.declared.obl.Cause.TheVariants.{Support}
use Rattle.po_core.specs.declared.obl.Obl.{Obl}
use Rattle.po_core.specs.declared.obl.Verdict.{Verdict}
use Rattle.po_marks.specs.Known.{AreRemarked}
use Rattle.po_marks.specs.Waiting.{AddsNew, AreWaiting, CanBeTaken, KeepsHolds, Marking, NoneIsHeld, SetsHold, TakesFrom, all_of, free, is_ready, lengthened, line_up, queue_len, waiting_count}
use Rattle.po_marks.specs.declared.queue.Queue.{Queue}
use Rattle.po_marks.proofs.Apart.{apart_append, apart_flat_map, from_flat_map, in_flat_map}
use Rattle.po_marks.proofs.InLine.{held_not_ready, lined_by, lined_rest, once_by, once_rest, ready_longer, same_file, same_number}
use Rattle.po_marks.proofs.Marked.{apart_push, mark_of_key, one_mark}
use Rattle.po_marks.proofs.Places.{set_cases}
use Rattle.po_lists.proofs.Members.{has, contains}

-- two places that are one have one number
pub read_one : {X : Type 0} (xs : List X) (k : ℕ) (x y : X) → slice_get xs k ≡ Some x → slice_get xs k ≡ Some y → x ≡ y
read_one xs k x y p q = same_Some x y (sym p ∙ q)

module _ {P N T : Type 0} (b : Book P N T) where
  -- a file in which the same obligations are untaken
  takes_still : (old new : List (Obl P × Mark P N)) (file : FileNo) (items : List (Obl P)) → ((o : Obl P) → file_of_obl b o ≡ file → Contains new (o, Untaken) ↔ Contains old (o, Untaken)) → TakesFrom b old file items → TakesFrom b new file items
  takes_still old new file items same t = record {
    all = λ o. (λ h. let x = (t.all o).0 h in ((same o x.1).1 x.0, x.1), λ h. (t.all o).1 ((same o h.1).0 h.0, h.1));
    once = t.once;
  }

  -- nothing becomes untaken, nor is it any more
  pub waiting_still : (old new : Marking P N) → new.queues ≡ old.queues → new.line ≡ old.line → ((o : Obl P) → Contains new.items (o, Untaken) ↔ Contains old.items (o, Untaken)) → AreWaiting b old → AreWaiting b new
  waiting_still old new is lined same w = record {
    there = ap length is ∙ w.there;
    each = λ f q h. takes_still old.items new.items f (all_of q) (λ o of. same o) (w.each f q (ap (λ (z : List (Queue P)). slice_get z f.0) (sym is) ∙ h));
    backs = λ f q h. w.backs f q (ap (λ (z : List (Queue P)). slice_get z f.0) (sym is) ∙ h);
    lined = λ f. subst (λ (z : List FileNo). Contains z f ↔ CanBeTaken new.queues f) (sym lined) (subst (λ (z : List (Queue P)). Contains old.line f ↔ CanBeTaken z f) (sym is) (w.lined f));
    once = subst (λ (z : List FileNo). AreApart z) (sym lined) w.once;
  }

  -- one file's queue is another
  module _ (old new : Marking P N) (file : FileNo) (q r : Queue P) (at : slice_get old.queues file.0 ≡ Some q) (w : AreWaiting b old) (is : new.queues ≡ set old.queues file.0 r) (here : TakesFrom b new.items file (all_of r)) (back : r.is_held ≡ true → r.back ≡ []) (others : (o : Obl P) → (file_of_obl b o ≢ file) → Contains new.items (o, Untaken) ↔ Contains old.items (o, Untaken)) where
    set_each_queue : (f : FileNo) (x : Queue P) → slice_get new.queues f.0 ≡ Some x → TakesFrom b new.items f (all_of x)
    set_each_queue f x h = elim (set_cases old.queues file.0 f.0 r x (ap (λ (z : List (Queue P)). slice_get z f.0) (sym is) ∙ h)) [
      | inl y ↦ subst (λ (z : FileNo). TakesFrom b new.items z (all_of x)) (same_file file f (sym y.0)) (subst (λ (z : Queue P). TakesFrom b new.items file (all_of z)) y.1 here)
      | inr y ↦ takes_still old.items new.items f (all_of x) (λ o of. others o (λ z. y.0 (same_number f file (sym of ∙ z)))) (w.each f x y.1)
    ]

    set_backs : (f : FileNo) (x : Queue P) → slice_get new.queues f.0 ≡ Some x → x.is_held ≡ true → x.back ≡ []
    set_backs f x h t = elim (set_cases old.queues file.0 f.0 r x (ap (λ (z : List (Queue P)). slice_get z f.0) (sym is) ∙ h)) [
      | inl y ↦ subst (λ (z : Queue P). z.back ≡ []) y.1 (back (subst (λ (z : Queue P). z.is_held ≡ true) (sym y.1) t))
      | inr y ↦ w.backs f x y.1 t
    ]

    pub waiting_set : (before : Bool) → is_ready q ≡ before → new.line ≡ line_up before (is_ready r) file old.line → (before ≡ true → is_ready r ≡ true) → AreWaiting b new
    waiting_set before was lined up = record {
      there = ap length is ∙ (length-set old.queues file.0 r ∙ w.there);
      each = set_each_queue;
      backs = set_backs;
      lined = λ f. subst (λ (z : List FileNo). Contains z f ↔ CanBeTaken new.queues f) (sym lined) (subst (λ (z : List (Queue P)). Contains (line_up before (is_ready r) file old.line) f ↔ CanBeTaken z f) (sym is) (lined_by old.queues old.line file q r at w.lined w.once before (is_ready r) was refl up f));
      once = subst (λ (z : List FileNo). AreApart z) (sym lined) (once_by old.queues old.line file q r at w.lined w.once before (is_ready r) was);
    }

    pub waiting_taken : (rest : List FileNo) → old.line ≡ file ∷ rest → is_ready r ≡ false → new.line ≡ rest → AreWaiting b new
    waiting_taken rest first none lined = record {
      there = ap length is ∙ (length-set old.queues file.0 r ∙ w.there);
      each = set_each_queue;
      backs = set_backs;
      lined = λ f. subst (λ (z : List FileNo). Contains z f ↔ CanBeTaken new.queues f) (sym lined) (subst (λ (z : List (Queue P)). Contains rest f ↔ CanBeTaken z f) (sym is) (lined_rest old.queues old.line file q r at w.lined w.once rest first none f));
      once = subst (λ (z : List FileNo). AreApart z) (sym lined) (once_rest old.queues old.line file q r at w.lined w.once rest first);
    }

  -- an obligation is new
  module _ (old new : Marking P N) (o : Obl P) (w : AreWaiting b old) (a : AddsNew b o old new) where
    new_cases : (p : Obl P) → Contains new.items (p, Untaken) → Contains old.items (p, Untaken) ⊎ (o ≡ p)
    new_cases p h = elim (Contains-push_cases old.items (o, Untaken) (p, Untaken) (subst (λ (z : List (Obl P × Mark P N)). Contains z (p, Untaken)) a.items h)) [
      | inl x ↦ inl x
      | inr x ↦ inr (ap (λ (z : Obl P × Mark P N). z.0) x)
    ]

    old_still : (p : Obl P) → Contains old.items (p, Untaken) → Contains new.items (p, Untaken)
    old_still p h = subst (λ (z : List (Obl P × Mark P N)). Contains z (p, Untaken)) (sym a.items) (Contains-append_left old.items ((o, Untaken) ∷ []) (p, Untaken) h)

    new_there : Contains new.items (o, Untaken)
    new_there = subst (λ (z : List (Obl P × Mark P N)). Contains z (o, Untaken)) (sym a.items) (Contains-push old.items (o, Untaken))

    new_takes : TakesFrom b new.items (file_of_obl b o) (all_of (lengthened a.queue o))
    new_takes =
        let v = w.each (file_of_obl b o) a.queue a.here in
        let is : a.queue.back ++ (a.queue.fresh ++ o ∷ []) ≡ all_of a.queue ++ o ∷ [] = sym (append_assoc a.queue.back a.queue.fresh (o ∷ [])) in
        subst (λ (z : List (Obl P)). TakesFrom b new.items (file_of_obl b o) z) (sym is) (record {
          all = λ p. (
            λ h. elim (Contains-push_cases (all_of a.queue) o p h) [
              | inl x ↦ (let y = (v.all p).0 x in (old_still p y.0, y.1))
              | inr x ↦ (subst (λ (z : Obl P). Contains new.items (z, Untaken)) x new_there, ap (λ (z : Obl P). file_of_obl b z) (sym x))
            ],
            λ h. elim (new_cases p h.0) [
              | inl x ↦ Contains-append_left (all_of a.queue) (o ∷ []) p ((v.all p).1 (x, h.1))
              | inr x ↦ subst (λ (z : Obl P). Contains (all_of a.queue ++ o ∷ []) z) x (Contains-push (all_of a.queue) o)
            ],
          );
          once = apart_push (all_of a.queue) o v.once (λ c. a.fresh (Untaken, ((v.all o).0 c).0));
        })

    pub waiting_new : AreWaiting b new
    waiting_new = waiting_set old new (file_of_obl b o) a.queue (lengthened a.queue o) a.here w a.queues new_takes (w.backs (file_of_obl b o) a.queue a.here) (λ p ne. (
      λ h. elim (new_cases p h) [ inl x ↦ x | inr x ↦ absurd (ne (ap (λ (z : Obl P). file_of_obl b z) (sym x))) ],
      old_still p,
    )) (is_ready a.queue) refl a.line (ready_longer a.queue o)

  -- how much waits
  pub count_set : (queues : List (Queue P)) (k : ℕ) (q r : Queue P) → slice_get queues k ≡ Some q → waiting_count (set queues k r) + queue_len q ≡ waiting_count queues + queue_len r
  count_set queues k q r at =
      let there = slice_get_within queues k q at in
      let is : get_or queues k q ≡ q = get_or_from_slice_get queues k q q at in
      subst (λ (z : Queue P). waiting_count (set queues k r) + queue_len z ≡ waiting_count queues + queue_len r) is (sum_by-set queue_len queues k r q there)

  pub count_within : (queues : List (Queue P)) (k : ℕ) (q : Queue P) → slice_get queues k ≡ Some q → queue_len q ≤ waiting_count queues
  count_within queues k q at =
      let there = slice_get_within queues k q at in
      let is : get_or queues k q ≡ q = get_or_from_slice_get queues k q q at in
      subst (λ (z : Queue P). queue_len z ≤ waiting_count queues) is (get_or-le-sum_by queue_len queues k q there)

  pub queue_len-lengthened : (q : Queue P) (o : Obl P) → queue_len (lengthened q o) ≡ queue_len q + 1
  queue_len-lengthened q o =
      let long = length-append q.back (q.fresh ++ o ∷ []) in
      let last = length-append q.fresh (o ∷ []) in
      let short = length-append q.back q.fresh in
      omega (arith, long, last, short)

  -- what waits in all files
  module _ (m : Marking P N) (w : AreWaiting b m) where
    file_at : (i : ℕ) (q : Queue P) → slice_get m.queues i ≡ Some q → TakesFrom b m.items (record { 0 = i }) (all_of q)
    file_at i q at = w.each (record { 0 = i }) q at

    pub all_waiting : List (Obl P)
    all_waiting = flat_map all_of m.queues

    pub all_apart : AreApart all_waiting
    unfolding all_waiting
    all_apart = apart_flat_map all_of m.queues (λ i q at. (file_at i q at).once) (λ i j q r o p s h k.
        let here = ((file_at i q p).all o).0 h in
        let there = ((file_at j r s).all o).0 k in
        same_number (record { 0 = i }) (record { 0 = j }) (sym here.1 ∙ there.1))

    pub all_untaken : (o : Obl P) → Contains all_waiting o → Contains m.items (o, Untaken)
    unfolding all_waiting
    all_untaken o h = let r = from_flat_map all_of m.queues o h in (((file_at r.place r.item r.at).all o).0 r.in_item).0

    pub all_there : (file : FileNo) (q : Queue P) (o : Obl P) → slice_get m.queues file.0 ≡ Some q → Contains (all_of q) o → Contains all_waiting o
    unfolding all_waiting
    all_there file q o at h = in_flat_map all_of m.queues file.0 q o at h

    pub all_count : length all_waiting ≡ waiting_count m.queues
    unfolding all_waiting
    all_count = length-flat_map all_of m.queues

    pub count_known : waiting_count m.queues ≤ length m.items
    count_known =
        let keys : (Obl P × Mark P N) → Obl P = λ e. e.0 in
        let few = apart_within all_waiting (map keys m.items) all_apart (λ o h. has (map keys m.items) o (mark_of_key m.items o (Untaken, all_untaken o (contains all_waiting o h)))) in
        let long = length-map m.items keys in
        let all = all_count in
        omega (arith, few, long, all)

  -- a remark to another mark, where it isn't untaken
  pub remark_still : (W : Obl P → Type 0) (from to : Mark P N) → (Untaken ≡ to → ⊥) → (Untaken ≡ from → ⊥) → (old new : List (Obl P × Mark P N)) → AreRemarked W from to old new → (o : Obl P) → Contains new (o, Untaken) ↔ Contains old (o, Untaken)
  remark_still W from to no_to no_from old new r o = (
    λ h. elim ((r.marks o Untaken).0 h) [ inl x ↦ absurd (no_to x.0) | inr x ↦ x.0 ],
    λ h. (r.marks o Untaken).1 (inr (h, λ y. no_from y.0)),
  )

  pub not_settled : (v : Verdict P N) → ◌≡◌ {A = Mark P N} Untaken (Settled v) → ⊥
  not_settled v q = settled_untaken v (sym q)

  pub not_taken : ◌≡◌ {A = Mark P N} Untaken Taken → ⊥
  not_taken q = taken_untaken (sym q)

  -- a file is taken
  module _ (old new : Marking P N) (file : FileNo) (q : Queue P) (w : AreWaiting b old) (at : slice_get old.queues file.0 ≡ Some q) where
    pub waiting_drawn : (rest : List FileNo) → old.line ≡ file ∷ rest → new.line ≡ rest → new.queues ≡ set old.queues file.0 (record { back = []; fresh = []; is_held = true }) → AreRemarked (λ o. file_of_obl b o ≡ file) Untaken Taken old.items new.items → AreWaiting b new
    waiting_drawn rest first lined is r =
        let none : Queue P = record { back = []; fresh = []; is_held = true } in
        waiting_taken old new file q none at w is (record {
          all = λ o. (λ h. absurd (has [] o h), λ h. elim ((r.marks o Untaken).0 h.0) [ inl x ↦ absurd (not_taken x.0) | inr x ↦ absurd (x.1 (refl, h.1)) ]);
          once = tt;
        }) (λ t. refl) (λ o ne. (
          λ h. elim ((r.marks o Untaken).0 h) [ inl x ↦ absurd (not_taken x.0) | inr x ↦ x.0 ],
          λ h. (r.marks o Untaken).1 (inr (h, λ y. ne y.1)),
        )) rest first refl lined

    -- a file is freed of which nothing is taken
    pub waiting_freed : q.is_held ≡ true → new.items ≡ old.items → new.queues ≡ set old.queues file.0 (free q) → new.line ≡ line_up false (is_ready (free q)) file old.line → AreWaiting b new
    waiting_freed held same is lined =
        let still : (o : Obl P) → Contains new.items (o, Untaken) ↔ Contains old.items (o, Untaken) = λ o. (λ h. subst (λ (z : List (Obl P × Mark P N)). Contains z (o, Untaken)) same h, λ h. subst (λ (z : List (Obl P × Mark P N)). Contains z (o, Untaken)) (sym same) h) in
        waiting_set old new file q (free q) at w is (takes_still old.items new.items file (all_of q) (λ o of. still o) (w.each file q at)) (λ t. absurd (false≢true t)) (λ o ne. still o) false (held_not_ready q held) lined (λ t. absurd (false≢true t))

    -- what is taken of a hand is put back
    module _ (held : q.is_held ≡ true) (items taken : List (Obl P)) (a : AreApart (map (λ e. e.0) old.items)) (of : (o : Obl P) → Contains items o → file_of_obl b o ≡ file) (all : (o : Obl P) → Contains taken o ↔ (Contains items o × Contains old.items (o, Taken))) (once : AreApart taken) (r : AreRemarked (λ o. Contains items o) Taken Untaken old.items new.items) where
      refilled : Queue P
      refilled = record { back = taken; fresh = q.fresh; is_held = false }

      only_fresh : all_of q ≡ q.fresh
      only_fresh = ap (λ (z : List (Obl P)). z ++ q.fresh) (w.backs file q at held)

      fresh_takes : TakesFrom b old.items file q.fresh
      fresh_takes = subst (λ (z : List (Obl P)). TakesFrom b old.items file z) only_fresh (w.each file q at)

      back_takes : TakesFrom b new.items file (taken ++ q.fresh)
      back_takes = record {
        all = λ o. (
          λ h. elim (Contains-append_cases taken q.fresh o h) [
            | inl x ↦ (let y = (all o).0 x in ((r.marks o Untaken).1 (inl (refl, y.1, y.0)), of o y.0))
            | inr x ↦ (let y = (fresh_takes.all o).0 x in ((r.marks o Untaken).1 (inr (y.0, λ z. not_taken z.0)), y.1))
          ],
          λ h. elim ((r.marks o Untaken).0 h.0) [
            | inl x ↦ Contains-append_left taken q.fresh o ((all o).1 (x.2, x.1))
            | inr x ↦ Contains-append_right taken q.fresh o ((fresh_takes.all o).1 (x.0, h.1))
          ],
        );
        once = apart_append taken q.fresh once fresh_takes.once (λ o h k. taken_untaken (one_mark old.items a o Taken Untaken ((all o).0 h).1 ((fresh_takes.all o).0 k).0));
      }

      pub waiting_back : new.queues ≡ set old.queues file.0 (record { back = taken; fresh = q.fresh; is_held = false }) → new.line ≡ line_up false (is_ready (record { back = taken; fresh = q.fresh; is_held = false })) file old.line → AreWaiting b new
      unfolding refilled
      waiting_back is lined = waiting_set old new file q refilled at w is back_takes (λ t. absurd (false≢true t)) (λ o ne. (
        λ h. elim ((r.marks o Untaken).0 h) [ inl x ↦ absurd (ne (of o x.2)) | inr x ↦ x.0 ],
        λ h. (r.marks o Untaken).1 (inr (h, λ z. not_taken z.0)),
      )) false (held_not_ready q held) lined (λ t. absurd (false≢true t))

      -- and there are as many obligations waiting, at most, as are known
      pub count_back : waiting_count (set old.queues file.0 (record { back = taken; fresh = q.fresh; is_held = false })) ≡ waiting_count old.queues + length taken
      count_back =
          let x = count_set old.queues file.0 q (record { back = taken; fresh = q.fresh; is_held = false }) at in
          let long = length-append taken q.fresh in
          let short = ap length only_fresh in
          omega (arith, x, long, short)

  -- at the start
  empty_at : (n k : ℕ) (q e : Queue P) → slice_get (replicate n e) k ≡ Some q → q ≡ e
  empty_at zero k q e h = absurd (cc)
  empty_at (suc n) zero q e h = sym (same_Some e q h)
  empty_at (suc n) (suc k) q e h = empty_at n k q e h

  module _ (m : Marking P N) (files : ℕ) (is : m.queues ≡ replicate files (record { back = []; fresh = []; is_held = false })) where
    empty_here : (k : ℕ) (q : Queue P) → slice_get m.queues k ≡ Some q → q ≡ record { back = []; fresh = []; is_held = false }
    empty_here k q h = empty_at files k q (record { back = []; fresh = []; is_held = false }) (ap (λ (z : List (Queue P)). slice_get z k) (sym is) ∙ h)

    pub waiting_none : files ≡ b.files → m.items ≡ [] → m.line ≡ [] → AreWaiting b m
    waiting_none all none lined = record {
      there = ap length is ∙ (length-replicate files (record { back = []; fresh = []; is_held = false }) ∙ all);
      each = λ f q h. record {
        all = λ o. (
          λ c. absurd (has [] o (subst (λ (z : Queue P). Contains (all_of z) o) (empty_here f.0 q h) c)),
          λ u. absurd (has [] (o, Untaken) (subst (λ (z : List (Obl P × Mark P N)). Contains z (o, Untaken)) none u.0)),
        );
        once = subst (λ (z : Queue P). AreApart (all_of z)) (sym (empty_here f.0 q h)) tt;
      };
      backs = λ f q h t. ap (λ (z : Queue P). z.back) (empty_here f.0 q h);
      lined = λ f. (
        λ h. absurd (has [] f (subst (λ (z : List FileNo). Contains z f) lined h)),
        λ h. absurd (false≢true (subst (λ (z : Queue P). is_ready z ≡ true) (empty_here f.0 h.0 h.1) h.2)),
      );
      once = subst (λ (z : List FileNo). AreApart z) (sym lined) tt;
    }

    pub none_held : NoneIsHeld m.queues
    none_held k q h = ap (λ (z : Queue P). z.is_held) (empty_here k q h)

    pub none_counted : waiting_count m.queues ≡ 0
    none_counted =
        let e : Queue P = record { back = []; fresh = []; is_held = false } in
        let all : waiting_count (replicate files e) ≡ files * queue_len e = sum_by-replicate queue_len files e in
        ap (λ (z : List (Queue P)). waiting_count z) is ∙ (all ∙ times_none files)
      where
        times_none : (n : ℕ) → n * 0 ≡ 0
        times_none n = omega arith

-- a file of an obligation is one of the book's
pub file_there : {P N T : Type 0} (eq : P → P → Bool) (b : Book P N T) → IsBook eq b → (m : Marking P N) → AreWaiting b m → (o : Obl P) → o.fun.0 < b.functions → (file : FileNo) → file ≡ b.file_of o.fun → file.0 < length m.queues
file_there eq b law m w o there file is =
    let f = law.files_there o.fun there in
    let same : file.0 ≡ (b.file_of o.fun).0 = same_number file (b.file_of o.fun) is in
    omega (arith, f, same, w.there)

-- holds that stay, and one that changes
pub holds_same : {P : Type 0} (old new : List (Queue P)) → new ≡ old → KeepsHolds old new
holds_same {P} old new same file q h = (q, ap (λ (z : List (Queue P)). slice_get z file) (sym same) ∙ h, refl)

pub holds_more : {P N T : Type 0} (b : Book P N T) (o : Obl P) (old new : Marking P N) → AddsNew b o old new → KeepsHolds old.queues new.queues
holds_more {P} b o old new a f q h = elim (set_cases old.queues (file_of_obl b o).0 f (lengthened a.queue o) q (ap (λ (z : List (Queue P)). slice_get z f) (sym a.queues) ∙ h)) [
  | inl x ↦ (a.queue, ap (λ (z : ℕ). slice_get old.queues z) x.0 ∙ a.here, ap (λ (z : Queue P). z.is_held) (sym x.1))
  | inr x ↦ (q, x.1, refl)
]

pub holds_both : {P : Type 0} (old mid new : List (Queue P)) → KeepsHolds old mid → KeepsHolds mid new → KeepsHolds old new
holds_both old mid new a c f q h = let x = c f q h in let y = a f x.0 x.1 in (y.0, y.1, x.2 ∙ y.2)

pub none_held_still : {P : Type 0} (old new : List (Queue P)) → NoneIsHeld old → KeepsHolds old new → NoneIsHeld new
none_held_still old new none keeps f q h = let x = keeps f q h in x.2 ∙ none f x.0 x.1

pub sets_hold : {P : Type 0} (old new : List (Queue P)) (file : FileNo) (q r : Queue P) (holds : Bool) → slice_get old file.0 ≡ Some q → new ≡ set old file.0 r → r.is_held ≡ holds → SetsHold file holds old new
sets_hold {P} old new file q r holds at is h f x here = elim (set_cases old file.0 f r x (ap (λ (z : List (Queue P)). slice_get z f) (sym is) ∙ here)) [
  | inl y ↦ (q, ap (λ (z : ℕ). slice_get old z) y.0 ∙ at, inl (y.0, ap (λ (z : Queue P). z.is_held) (sym y.1) ∙ h))
  | inr y ↦ (x, y.1, inr (y.0, refl))
]

-- call sites are of functions that are there
pub supports_there : {P : Type 0} (n : ℕ) (sites : List (FunNo × NodeNo)) (i : ℕ) (d : FunNo × NodeNo) → i < length sites → (o : Obl P) (q : P) → o ≡ record { fun = (get_or sites i d).0; node = (get_or sites i d).1; cause = Support q } → ((f : FunNo) (m : NodeNo) → Contains sites (f, m) → f.0 < n) → o.fun.0 < n
supports_there {P} n sites i d l o q is there = subst (λ (z : Obl P). z.fun.0 < n) (sym is) (there (get_or sites i d).0 (get_or sites i d).1 (Contains-get_or sites i d l))
