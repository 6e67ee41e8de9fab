-- Posting a predicate for an item of a ticket that fits.
use Rattle.std.proofs.Common.{◌≡◌, ◌⊎◌, ℕ, ◌<◌, ◌≤◌, List, [], ◌∷◌, ◌++◌, length, map, take, refl, sym, ◌∙◌, ap, subst, inl, inr}
use Rattle.std.specs.Prelude.{Bool, false, Option, slice_get}
use Rattle.std.specs.List.{Contains}
use Rattle.std.proofs.lemmas.List.{take_at}
use Rattle.std.proofs.lemmas.List.Elements.{Contains-append_left, Contains-append_cases, Contains-push, Contains-push_cases}
use Rattle.po_base.specs.declared.numbers.FileNo.{FileNo}
use Rattle.po_base.specs.declared.numbers.FunNo.{FunNo}
use Rattle.po_base.specs.declared.numbers.NodeNo.{NodeNo}
use Rattle.po_core.specs.Book.{Book, IsBook, IsSupport}
use Rattle.po_core.specs.Core.{AreApart, CoreState, HasMark, IsAssumed, Posts, Replays, IsLegal}
use Rattle.po_core.specs.Theorem.{IsOrderly}
use Rattle.po_core.specs.declared.event.Event.{Event}
use Rattle.po_core.specs.declared.event.Event.TheVariants.{Post}
use Rattle.po_core.specs.declared.event.Hand.{Hand}
use Rattle.po_core.specs.declared.event.Mark.{Mark}
use Rattle.po_core.specs.declared.event.Mark.TheVariants.{Taken, Settled}
use Rattle.po_core.specs.declared.obl.Cause.{Cause}
use Rattle.po_core.specs.declared.obl.Cause.TheVariants.{Support}
use Rattle.po_core.specs.declared.obl.Obl.{Obl}
use Rattle.po_core.specs.declared.obl.Verdict.TheVariants.{Delegated}
use Rattle.po_lists.proofs.Members.{has, contains, contains_map, has_from_map, has_item}
use Rattle.po_core.specs.Marks.{settled_untaken, taken_untaken}
use Rattle.po_ledger.specs.Calls.{Does, CanPost, PostsItem, IsOpenAt, IsItemAt}
use Rattle.po_ledger.specs.Parts.{AddsEach, AddsItem, supports_of}
use Rattle.po_ledger.specs.View.{LedgerView, TicketView, IsKept, view_of}
use Rattle.po_ledger.proofs.Kept.{does_seen, order_here, kept_after}
use Rattle.po_marks.proofs.Marked.{apart_push}
use Rattle.po_ledger.proofs.Room.{room_kept}
use Rattle.po_ledger.proofs.Settled.{open_unsettled, same_item}

module _ {P N T : Type 0} (b : Book P N T) (f : FunNo) (q : P) (s t : CoreState P N) (sites : List (FunNo × NodeNo)) (all : sites ≡ b.call_sites f) (adds : AddsEach (supports_of q sites) s.marks t.marks) (assumes : AddsItem s.assumed t.assumed (f, q)) (hands : t.hands ≡ s.hands) where
  support_at : (o : Obl P) → Contains (supports_of q sites) o → IsSupport b f q o
  support_at o h =
      let make : (FunNo × NodeNo) → Obl P = λ x. record { fun = x.0; node = x.1; cause = Support q } in
      let x = has_from_map make sites o (has _ o h) in
      subst (λ (z : Obl P). IsSupport b f q z) x.2 (refl, subst (λ (z : List (FunNo × NodeNo)). Contains z (x.0.0, x.0.1)) all (contains sites (x.0.0, x.0.1) x.1))

  at_support : (o : Obl P) → IsSupport b f q o → Contains (supports_of q sites) o
  at_support o h =
      let make : (FunNo × NodeNo) → Obl P = λ x. record { fun = x.0; node = x.1; cause = Support q } in
      let with : Cause P → Obl P = λ k. record { fun = o.fun; node = o.node; cause = k } in
      let is : make (o.fun, o.node) ≡ o = ap with (sym h.0) in
      subst (λ (z : Obl P). Contains (map make sites) z) is (contains_map make sites (o.fun, o.node) (subst (λ (z : List (FunNo × NodeNo)). Contains z (o.fun, o.node)) (sym all) h.1))

  mark_cases : (o : Obl P) (m : Mark P N) → HasMark t o m → HasMark s o m ⊎ Contains adds.more (o, m)
  mark_cases o m h = Contains-append_cases s.marks adds.more (o, m) (subst (λ (z : List (Obl P × Mark P N)). Contains z (o, m)) adds.extends h)

  old_mark_kept : (o : Obl P) (m : Mark P N) → HasMark s o m → HasMark t o m
  old_mark_kept o m h = subst (λ (z : List (Obl P × Mark P N)). Contains z (o, m)) (sym adds.extends) (Contains-append_left s.marks adds.more (o, m) h)

  assumed_cases : (g : FunNo) (r : P) → IsAssumed t g r → IsAssumed s g r ⊎ ((g ≡ f) × (r ≡ q))
  assumed_cases g r h = elim assumes [
    | inl x ↦ inl (subst (λ (z : List (FunNo × P)). Contains z (g, r)) x.1 h)
    | inr x ↦ elim (Contains-push_cases s.assumed (f, q) (g, r) (subst (λ (z : List (FunNo × P)). Contains z (g, r)) x.1 h)) [
      | inl k ↦ inl k
      | inr k ↦ inr (ap (λ (z : FunNo × P). z.0) (sym k), ap (λ (z : FunNo × P). z.1) (sym k))
    ]
  ]

  now_assumed : IsAssumed t f q
  now_assumed = elim assumes [
    | inl x ↦ subst (λ (z : List (FunNo × P)). Contains z (f, q)) (sym x.1) x.0
    | inr x ↦ subst (λ (z : List (FunNo × P)). Contains z (f, q)) (sym x.1) (Contains-push s.assumed (f, q))
  ]

  still_assumed : (g : FunNo) (r : P) → IsAssumed s g r → IsAssumed t g r
  still_assumed g r h = elim assumes [
    | inl x ↦ subst (λ (z : List (FunNo × P)). Contains z (g, r)) (sym x.1) h
    | inr x ↦ subst (λ (z : List (FunNo × P)). Contains z (g, r)) (sym x.1) (Contains-append_left s.assumed ((f, q) ∷ []) (g, r) h)
  ]

  pub posts : Posts b f q s t
  posts = record {
    assumes = λ g r. (assumed_cases g r, λ h. elim h [ inl x ↦ still_assumed g r x | inr x ↦ subst (λ (z : P). IsAssumed t g z) (sym x.1) (subst (λ (z : FunNo). IsAssumed t z q) (sym x.0) now_assumed) ]);
    knows = λ o h. adds.there o (at_support o h);
    marks = λ o m. (
      λ h. elim (mark_cases o m h) [ inl x ↦ inl x | inr x ↦ (let y = adds.fresh o m x in inr (y.0, support_at o y.1, y.2)) ],
      λ h. elim h [
        | inl x ↦ old_mark_kept o m x
        | inr x ↦ (
            let k = adds.there o (at_support o x.1) in
            elim (mark_cases o k.0 k.1) [
              | inl y ↦ absurd (x.2 (k.0, y))
              | inr y ↦ subst (λ (z : Mark P N). HasMark t o z) ((adds.fresh o k.0 y).0 ∙ sym x.0) k.1
            ]
            )
      ],
    );
    hands = λ g h. (λ x. ap (λ (z : List (Option (Hand P))). slice_get z g.0) (sym hands) ∙ x, λ x. ap (λ (z : List (Option (Hand P))). slice_get z g.0) hands ∙ x);
  }

-- items that stand apart, and one that is added
apart_added : {X : Type 0} (old new : List X) (x : X) → AreApart old → AddsItem old new x → AreApart new
apart_added {X} old new x a (inl h) = subst (λ (z : List X). AreApart z) (sym h.1) a
apart_added {X} old new x a (inr h) = subst (λ (z : List X). AreApart z) (sym h.1) (apart_push old x a h.0)

module _ {P N T : Type 0} (b of_book : Book P N T) (l : LedgerView P N T) (shelves : List (List (FunNo × T))) (kept : IsKept b of_book l shelves) (law : (es : List (Event P N)) (s : CoreState P N) → Replays of_book es s → IsOrderly of_book s) (t : TicketView P T) (old : LedgerView P N T) (seen : l ≡ old) (k : ℕ) (q : P) (can : CanPost b old.state t k q) (p : Obl P) (item : IsItemAt t k p) where
  can_here : CanPost b l.state t k q
  can_here = subst (λ (z : LedgerView P N T). CanPost b z.state t k q) (sym seen) can

  one : p ≡ can_here.item
  one = same_item b l.state (order_here b of_book l shelves kept law) t k can_here.item p can_here.open_item item

  open_here : IsOpenAt t k p
  open_here = subst (λ (z : Obl P). IsOpenAt t k z) (sym one) can_here.open_item

  legal_here : IsLegal b l.state (Post t.file p q)
  legal_here = (open_unsettled b l.state (order_here b of_book l shelves kept law) t can_here.fits p (has_item t.hand k (p, false) open_here), subst (λ (z : Obl P). b.verdict_of z ≡ Delegated q) (sym one) can_here.verdict)

  pub post_there : p.fun.0 < of_book.functions
  post_there = subst (λ (z : Book P N T). p.fun.0 < z.functions) (sym kept.same_book) ((order_here b of_book l shelves kept law).functions_there p (Taken, legal_here.0.1))

  pub callers_there : (eq : P → P → Bool) → IsBook eq of_book → (sites : List (FunNo × NodeNo)) → sites ≡ of_book.call_sites p.fun → (g : FunNo) (n : NodeNo) → Contains sites (g, n) → g.0 < of_book.functions
  callers_there eq book_law sites all g n h = book_law.callers_there p.fun g n post_there (subst (λ (z : List (FunNo × NodeNo)). Contains z (g, n)) all h)

  module _ (m : LedgerView P N T) (file : FileNo) (of_ticket : file ≡ t.file) (sites : List (FunNo × NodeNo)) (all : sites ≡ of_book.call_sites p.fun) (adds : AddsEach (supports_of q sites) l.state.marks m.state.marks) (assumes : AddsItem l.state.assumed m.state.assumed (p.fun, q)) (hands : m.state.hands ≡ l.state.hands) (grows : m.journal ≡ l.journal ++ Post file p q ∷ []) where
    post_effect : Posts b p.fun q l.state m.state
    post_effect = posts b p.fun q l.state m.state sites (all ∙ ap (λ (z : Book P N T). z.call_sites p.fun) kept.same_book) adds assumes hands

    post_did : Does b (Post t.file p q) l m
    post_did = record { steps = record { legal = legal_here; effect = post_effect }; appends = subst (λ (z : FileNo). m.journal ≡ l.journal ++ Post z p q ∷ []) of_ticket grows }

    pub posts_item : PostsItem b k q t old m
    posts_item = record {
      item = p;
      open_item = open_here;
      did = does_seen b (Post t.file p q) l old m seen post_did;
      fits = record {
        hand = can_here.fits.hand;
        holds = (post_effect.hands t.file can_here.fits.hand).1 can_here.fits.holds;
        by_worker = can_here.fits.by_worker;
        same_items = can_here.fits.same_items;
        same_settled = λ o x h. let before = can_here.fits.same_settled o x h in (
          λ w. let d = before.0 w in (d.0, (post_effect.marks o (Settled d.0)).1 (inl d.1)),
          λ w. elim ((post_effect.marks o (Settled w.0)).0 w.1) [ inl y ↦ before.1 (w.0, y) | inr y ↦ absurd (settled_untaken w.0 y.0) ],
        );
      };
    }

    pub post_keeps : l.spare ≤ m.spare → IsKept b of_book m shelves
    post_keeps le = kept_after b of_book l m shelves kept shelves (Post t.file p q) post_did
        (room_kept l.state m.state l.spare m.spare kept.ledger.room (λ o h. elim ((post_effect.marks o Taken).0 h) [ inl y ↦ y | inr y ↦ absurd (taken_untaken y.0) ]) (λ g h. (h.0, (post_effect.hands g h.0).0 h.1)) le)
        (adds.apart kept.apart) (apart_added l.state.assumed m.state.assumed (p.fun, q) kept.assumed_apart assumes) (ap length hands) refl kept.shelved

-- what is cut back to its front
pub cut_back : {X : Type 0} (old long cut : List X) (n : ℕ) → n ≡ length old → (more : List X) × (long ≡ old ++ more) → cut ≡ take n long → cut ≡ old
cut_back {X} old long cut n l h is = is ∙ (ap (λ (z : List X). take n z) h.1 ∙ take_at old h.0 n (sym l))

pub same_view : {P N T : Type 0} (marks marks' : List (Obl P × Mark P N)) (hands : List (Option (Hand P))) (assumed assumed' : List (FunNo × P)) (journal journal' : List (Event P N)) (spare spare' : ℕ) (tables : List (List (FunNo × T))) → marks' ≡ marks → assumed' ≡ assumed → journal' ≡ journal → spare' ≡ spare → view_of marks' hands assumed' journal' spare' tables ≡ view_of marks hands assumed journal spare tables
same_view marks marks' hands assumed assumed' journal journal' spare spare' tables qm qa qj qs i = record { state = record { marks = qm i; hands = hands; assumed = qa i }; journal = qj i; spare = qs i; tables = tables }

pub kept_view : {P N T : Type 0} (b of_book : Book P N T) (l m : LedgerView P N T) (shelves : List (List (FunNo × T))) → m ≡ l → IsKept b of_book l shelves → IsKept b of_book m shelves
kept_view {P} {N} {T} b of_book l m shelves q k = subst (λ (z : LedgerView P N T). IsKept b of_book z shelves) (sym q) k
