-- Taking a file.
use Rattle.std.proofs.Common.{◌≡◌, ℕ, ◌+◌, ◌<◌, ◌≤◌, List, [], ◌∷◌, ◌++◌, length, map, set, refl, sym, ◌∙◌, ap, subst, inl, inr, arith, length-set}
use Rattle.std.specs.Prelude.{Bool, false, Some, slice_get}
use Rattle.std.specs.List.{Contains}
use Rattle.std.proofs.lemmas.Bool.{false≢true}
use Rattle.std.proofs.lemmas.List.{length-map}
use Rattle.po_base.specs.declared.numbers.FileNo.{FileNo}
use Rattle.po_base.specs.declared.numbers.FunNo.{FunNo}
use Rattle.po_core.specs.Book.{Book, IsBook, file_of_obl}
use Rattle.po_core.specs.Core.{CoreState, HasMark, CanTake, Takes, Replays}
use Rattle.po_core.specs.Theorem.{IsOrderly}
use Rattle.po_core.specs.declared.event.Event.{Event}
use Rattle.po_core.specs.declared.event.Event.TheVariants.{Take}
use Rattle.po_core.specs.declared.event.Mark.TheVariants.{Untaken, Taken, Settled}
use Rattle.po_core.specs.declared.obl.Obl.{Obl}
use Rattle.po_lists.proofs.Members.{Has, has, contains}
use Rattle.po_core.specs.Marks.{settled_taken}
use Rattle.po_ledger.specs.Calls.{Does, HandsOut}
use Rattle.po_ledger.specs.Parts.{AreRemarked, TakesFrom}
use Rattle.po_ledger.specs.View.{LedgerView, TicketView, IsKept, IsTicket, Fits, items_of}
use Rattle.po_ledger.proofs.Kept.{does_seen, order_here, order_of, known_there, remarked_here, replays_after, take_takes, take_does, take_kept}

-- a hand of which nothing is settled
items_of_open : {P : Type 0} (items : List (Obl P)) → items_of (map (λ o. (o, false)) items) ≡ items
items_of_open [] = refl
items_of_open {P} (o ∷ os) = ap (λ (z : List (Obl P)). o ∷ z) (items_of_open os)

open_item : {P : Type 0} (items : List (Obl P)) (o : Obl P) (x : Bool) → Has {X = Obl P × Bool} (map (λ o. (o, false)) items) (o, x) → Has items o × (x ≡ false)
open_item [] o x h = absurd h
open_item {P} (p ∷ ps) o x (inl q) = (inl (ap (λ (z : Obl P × Bool). z.0) q), sym (ap (λ (z : Obl P × Bool). z.1) q))
open_item (p ∷ ps) o x (inr h) = let r = open_item ps o x h in (inr r.0, r.1)

module _ {P N T : Type 0} (eq : P → P → Bool) (b of_book : Book P N T) (book_law : IsBook eq of_book) (l : LedgerView P N T) (shelves : List (List (FunNo × T))) (kept : IsKept b of_book l shelves) (law : (es : List (Event P N)) (s : CoreState P N) → Replays of_book es s → IsOrderly of_book s) (old : LedgerView P N T) (q : l ≡ old) (worker : ℕ) (file : FileNo) (can : CanTake b old.state file) where
  can_here : CanTake b l.state file
  can_here = subst (λ (z : LedgerView P N T). CanTake b z.state file) (sym q) can

  pub take_place : file.0 < length l.state.hands
  take_place =
      let u = can_here.1 in
      let there : u.0.fun.0 < of_book.functions = known_there b of_book l shelves kept law u.0 (Untaken, u.1) in
      let of_obl : (file_of_obl of_book u.0).0 < of_book.files = book_law.files_there u.0.fun there in
      let same : file_of_obl of_book u.0 ≡ file = subst (λ (z : Book P N T). file_of_obl z u.0 ≡ file) (sym kept.same_book) u.2 in
      let within : file.0 < of_book.files = subst (λ (z : FileNo). z.0 < of_book.files) same of_obl in
      let named : of_book.files ≡ b.files = ap (λ (z : Book P N T). z.files) kept.same_book in
      omega (arith, kept.hands_there)

  pub take_shelf : file.0 < length shelves
  take_shelf = let w = take_place in omega (arith, kept.hands_there, kept.shelves_there)

  module _ (items : List (Obl P)) (from : TakesFrom of_book l.state.marks file items) where
    from_here : TakesFrom b l.state.marks file items
    from_here = subst (λ (z : Book P N T). TakesFrom z l.state.marks file items) kept.same_book from

    pub new_ticket : (hand : List (Obl P × Bool)) (tables : List (FunNo × T)) → hand ≡ map (λ o. (o, false)) items → slice_get shelves file.0 ≡ Some tables → IsTicket b hand tables
    new_ticket hand tables is was = record {
      items_there = λ o x h.
          let y = open_item items o x (has _ (o, x) (subst (λ (z : List (Obl P × Bool)). Contains z (o, x)) is h)) in
          (order_here b of_book l shelves kept law).functions_there o (Untaken, ((from_here.all o).0 (contains items o y.0)).0);
      tables_right = kept.shelved file.0 tables was;
    }

    module _ (m : LedgerView P N T) (marks : AreRemarked (λ o. file_of_obl of_book o ≡ file) Untaken Taken l.state.marks m.state.marks) (hands : m.state.hands ≡ set l.state.hands file.0 (Some (record { worker = worker; items = items }))) (same : m.state.assumed ≡ l.state.assumed) (grows : m.journal ≡ l.journal ++ Take worker file ∷ []) (room : l.spare + (length items + 2) ≤ m.spare) where
      take_effect : Takes b worker file l.state m.state
      take_effect = take_takes b of_book l m shelves kept worker file items take_place (remarked_here b of_book l shelves kept law m file marks) hands same from_here

      take_did : Does b (Take worker file) l m
      take_did = take_does b of_book l m shelves kept worker file can_here take_effect grows

      taken_items : take_did.steps.effect.hand.items ≡ items
      unfolding take_did take_effect take_does take_takes
      taken_items = refl

      effect_items : take_effect.hand.items ≡ items
      unfolding take_effect take_takes
      effect_items = refl

      pub take_keeps : (later : List (List (FunNo × T))) (none : List (FunNo × T)) → none ≡ [] → later ≡ set shelves file.0 none → IsKept b of_book m later
      take_keeps later none empty is = take_kept b of_book l m shelves kept later worker file take_did (remarked_here b of_book l shelves kept law m file marks) same (ap length hands ∙ length-set l.state.hands file.0 (Some (record { worker = worker; items = items }))) (let few = ap length taken_items in omega arith) (is ∙ ap (λ (z : List (FunNo × T)). set shelves file.0 z) empty)

      order_after : IsOrderly b m.state
      order_after = order_of of_book b m kept.same_book law m.journal m.state (replays_after b of_book l m shelves kept (Take worker file) take_did)

      pub hands_out : (hand : List (Obl P × Bool)) (tables : List (FunNo × T)) → hand ≡ map (λ o. (o, false)) items → HandsOut b worker old m (record { worker = worker; file = file; hand = hand; tables = tables })
      hands_out hand tables is =
          let ticket : TicketView P T = record { worker = worker; file = file; hand = hand; tables = tables } in
          let in_items : (o : Obl P) (x : Bool) → Contains hand (o, x) → Has items o × (x ≡ false) = λ o x h. open_item items o x (has _ (o, x) (subst (λ (z : List (Obl P × Bool)). Contains z (o, x)) is h)) in
          let out : Fits m.state ticket = record {
            hand = take_effect.hand;
            holds = take_effect.has_hand;
            by_worker = take_effect.by_worker;
            same_items = effect_items ∙ (sym (items_of_open items) ∙ ap (λ (z : List (Obl P × Bool)). items_of z) (sym is));
            same_settled = λ o x h. (
              λ w. absurd (false≢true (sym (in_items o x h).1 ∙ w)),
              λ w.
                  let u = (from_here.all o).0 (contains items o (in_items o x h).0) in
                  let taken : HasMark m.state o Taken = (take_effect.marks o Taken).1 (inl (refl, u.0, u.1)) in
                  absurd (settled_taken w.0 (order_after.one_mark o (Settled w.0) Taken w.1 taken)),
            );
          } in
          record {
            did = does_seen b (Take worker file) l old m q take_did;
            by_worker = refl;
            fits = out;
            all_open = λ o x h. (in_items o x h).1;
            room = let long = ap length is ∙ length-map items (λ o. let y : Obl P × Bool = (o, false) in y) in let before : old.spare ≡ l.spare = ap (λ (z : LedgerView P N T). z.spare) (sym q) in omega arith;
          }
