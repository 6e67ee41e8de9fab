-- The steps by which a ticket's whole hand is settled.
use Rattle.std.proofs.Common.{◌≡◌, ℕ, ◌+◌, ◌<◌, ◌≤◌, List, [], ◌∷◌, ◌++◌, length, map, take, get_or, set, refl, sym, ◌∙◌, ap, subst, inl, inr, arith, append_assoc}
use Rattle.std.specs.Prelude.{Bool, Result, Ok, Err, OnOk, true, false, Some, slice_get}
use Rattle.std.specs.List.{flat_map}
use Rattle.std.proofs.lemmas.Bool.{cases_eq}
use Rattle.std.proofs.lemmas.List.{append-nil, length-map, take_all}
use Rattle.std.proofs.lemmas.Option.{same_Some, slice_get_within}
use Rattle.po_base.specs.declared.numbers.FileNo.{FileNo}
use Rattle.po_base.specs.declared.numbers.FunNo.{FunNo}
use Rattle.po_core.specs.Book.{Book}
use Rattle.po_core.specs.Core.{CoreState, KeepsHands, IsHeld, IsInHand, IsKnown, Replays}
use Rattle.po_core.specs.Theorem.{IsOrderly}
use Rattle.po_core.specs.declared.event.Event.{Event}
use Rattle.po_core.specs.declared.event.Event.TheVariants.{Settle}
use Rattle.po_core.specs.declared.obl.Obl.{Obl}
use Rattle.po_core.specs.declared.obl.Verdict.{Verdict}
use Rattle.po_core.specs.declared.obl.Verdict.TheVariants.{Closed, Delegated, Open}
use Rattle.po_ledger.specs.Calls.{CanPost, PostsItem, CanSettle, SettlesItem, IsOpenAt}
use Rattle.po_ledger.specs.Hands.{IsSettledUpTo, AreVerdicts, IsDue, posting, settling, Extends, SettlesHand, PostsBefore, SettlesPlace, SettlesFront}
use Rattle.po_ledger.specs.View.{LedgerView, TicketView, Fits, IsKept, items_of}
use Rattle.po_ledger.proofs.Kept.{order_here}
use Rattle.po_ledger.proofs.General.{map_read, map_set, pieces_push}
use Rattle.po_lists.proofs.Places.{item_at, mapped_at, get_set_same, get_set_other}

-- hands that are kept twice
kept_twice : {P N : Type 0} (s t u : CoreState P N) → KeepsHands s t → KeepsHands t u → KeepsHands s u
kept_twice s t u first second file hand = (λ h. (first file hand).0 ((second file hand).0 h), λ h. (second file hand).1 ((first file hand).1 h))

-- the obligation of an item
item_get : {P : Type 0} (hand : List (Obl P × Bool)) (k : ℕ) (o : Obl P) (x : Bool) → slice_get hand k ≡ Some (o, x) → slice_get (items_of hand) k ≡ Some o
item_get hand k o x q = mapped_at (λ z. z.0) hand k (o, x) q

-- a place has one unsettled item
one_open : {P T : Type 0} (t : TicketView P T) (k : ℕ) (o p : Obl P) → IsOpenAt t k o → IsOpenAt t k p → o ≡ p
one_open {P} t k o p a b =
    let both : ◌≡◌ {A = Obl P × Bool} (o, false) (p, false) = same_Some _ _ (sym a ∙ b) in
    ap (λ (z : Obl P × Bool). z.0) both

-- a verdict that doesn't delegate has nothing to be posted
nothing_posted : {P N : Type 0} (file : FileNo) (o : Obl P) (v : Verdict P N) → ((q : P) → v ≡ Delegated q → ⊥) → [] ≡ posting file o v
nothing_posted file o (Delegated q) other = absurd (other q refl)
nothing_posted file o (Closed rule) other = refl
nothing_posted file o Open other = refl

module _ {P N T : Type 0} (b : Book P N T) where
  pub can_post : (s : CoreState P N) (t : TicketView P T) (k : ℕ) (q : P) (v : Verdict P N) → v ≡ Delegated q → Fits s t → IsDue b t k v → CanPost b s t k q
  can_post s t k q v is fits d = record { fits = fits; item = d.item; open_item = d.open_item; verdict = sym d.verdict ∙ is }

  delegated_same : (q r : P) → ◌≡◌ {A = Verdict P N} (Delegated q) (Delegated r) → q ≡ r
  delegated_same q r e = cc

  posted : (k : ℕ) (q : P) (t : TicketView P T) (old new : LedgerView P N T) → IsDue b t k (Delegated q) → PostsItem b k q t old new → PostsBefore b k (Delegated q) t old new
  posted k q t old new d p = record {
    can = record {
      fits = p.fits;
      item = p.item;
      open_item = p.open_item;
      verdict = d.verdict ∙ ap b.verdict_of (one_open t k d.item p.item d.open_item p.open_item);
      assumed = λ r e. (p.did.steps.effect.assumes p.item.fun r).1 (inr (refl, sym (delegated_same q r e)));
    };
    hands = p.did.steps.effect.hands;
    appends = p.did.appends;
  }

  pub post_before : {A E : Type 0} (r : Result A E) (k : ℕ) (q : P) (v : Verdict P N) (t : TicketView P T) (old new : LedgerView P N T) → v ≡ Delegated q → OnOk r (PostsItem b k q t old new) → IsDue b t k v → OnOk r (PostsBefore b k v t old new)
  post_before (Err e) k q v t old new is ok d = tt
  post_before (Ok x) k q v t old new is ok d = subst (λ (z : Verdict P N). PostsBefore b k z t old new) (sym is) (posted k q t old new (subst (λ (z : Verdict P N). IsDue b t k z) is d) ok)

  pub nothing_before : (k : ℕ) (v : Verdict P N) (t : TicketView P T) (l : LedgerView P N T) → ((q : P) → v ≡ Delegated q → ⊥) → Fits l.state t → IsDue b t k v → PostsBefore b k v t l l
  nothing_before k v t l other fits d = record {
    can = record { fits = fits; item = d.item; open_item = d.open_item; verdict = d.verdict; assumed = λ q e. absurd (other q e) };
    hands = λ file hand. (λ h. h, λ h. h);
    appends = sym (append-nil l.journal) ∙ ap (λ (z : List (Event P N)). l.journal ++ z) (nothing_posted t.file d.item v other);
  }

  settled_place : (k : ℕ) (v : Verdict P N) (t u : TicketView P T) (old mid new : LedgerView P N T) → PostsBefore b k v t old mid → SettlesItem b k v t u mid new → SettlesPlace b k t u old new
  settled_place k v t u old mid new p s =
      let one : s.item ≡ p.can.item = one_open t k s.item p.can.item s.open_item p.can.open_item in
      let wrote : new.journal ≡ mid.journal ++ Settle t.file p.can.item v ∷ [] = s.did.appends ∙ ap (λ (z : Obl P). mid.journal ++ Settle t.file z v ∷ []) one in
      let both : new.journal ≡ old.journal ++ (posting t.file p.can.item v ++ Settle t.file p.can.item v ∷ []) = wrote ∙ (ap (λ (z : List (Event P N)). z ++ Settle t.file p.can.item v ∷ []) p.appends ∙ append_assoc old.journal (posting t.file p.can.item v) (Settle t.file p.can.item v ∷ [])) in
      record {
        item = p.can.item;
        open_item = p.can.open_item;
        ticket = s.ticket ∙ ap (λ (z : Obl P). let w : TicketView P T = record t { hand = set t.hand k (z, true) } in w) one;
        fits = s.fits;
        hands = kept_twice old.state mid.state new.state p.hands s.did.steps.effect.hands;
        appends = both ∙ ap (λ (z : Verdict P N). old.journal ++ (posting t.file p.can.item z ++ Settle t.file p.can.item z ∷ [])) p.can.verdict;
      }

  -- an item is settled, after what had to be posted
  pub item_done : (k : ℕ) (v : Verdict P N) (t0 t u : TicketView P T) (old mid new : LedgerView P N T) → t ≡ t0 → PostsBefore b k v t0 old mid → SettlesItem b k v t u mid new → SettlesPlace b k t0 u old new
  item_done k v t0 t u old mid new same p s = settled_place k v t0 u old mid new p (subst (λ (z : TicketView P T). SettlesItem b k v z u mid new) same s)

  pub can_settle : (k : ℕ) (v : Verdict P N) (t0 t : TicketView P T) (old mid : LedgerView P N T) → t ≡ t0 → PostsBefore b k v t0 old mid → CanSettle b mid.state t k v
  can_settle k v t0 t old mid same p = subst (λ (z : TicketView P T). CanSettle b mid.state z k v) (sym same) p.can

  -- nothing of a hand is settled at first
  pub front_none : (t : TicketView P T) (l : LedgerView P N T) → Fits l.state t → IsSettledUpTo t.hand 0 → SettlesFront b 0 t t l l
  front_none t l fits fresh = record {
    ticket = record { worker = refl; file = refl; items = refl; tables = refl };
    settled = fresh;
    fits = fits;
    hands = λ file hand. (λ h. h, λ h. h);
    appends = sym (append-nil l.journal);
  }

  -- the verdict of the next item
  pub due_next : (t u : TicketView P T) (old new : LedgerView P N T) (vs : List (Verdict P N)) (k : ℕ) (v : Verdict P N) → AreVerdicts b t.hand vs → SettlesFront b k t u old new → k < length u.hand → v ≡ get_or vs k v → IsDue b u k v
  due_next t u old new vs k v are front l is =
      let at = item_at u.hand k l in
      let fresh : at.0.1 ≡ false = (front.settled k at.0.0 at.0.1 at.1).1 (omega arith) in
      let item : slice_get u.hand k ≡ Some (at.0.0, false) = at.1 ∙ ap (λ (z : Bool). let y : Obl P × Bool = (at.0.0, z) in Some y) fresh in
      let all : vs ≡ map b.verdict_of (items_of u.hand) = are ∙ ap (map b.verdict_of) (sym front.ticket.items) in
      record {
        item = at.0.0;
        open_item = item;
        verdict = is ∙ (ap (λ (z : List (Verdict P N)). get_or z k v) all ∙ map_read b.verdict_of (items_of u.hand) k at.0.0 v (item_get u.hand k at.0.0 false item));
      }

  settled_upto : (hand new : List (Obl P × Bool)) (k : ℕ) (item : Obl P) → k < length hand → IsSettledUpTo hand k → new ≡ set hand k (item, true) → IsSettledUpTo new (k + 1)
  settled_upto hand new k item l before same j o x is = elim (cases_eq j k) [
    | inl q ↦ (
        let here : slice_get (set hand k (item, true)) k ≡ Some (o, x) = ap (λ (z : List (Obl P × Bool)). slice_get z k) (sym same) ∙ (ap (λ (i : ℕ). slice_get new i) (sym q) ∙ is) in
        let both : ◌≡◌ {A = Obl P × Bool} (o, x) (item, true) = same_Some _ _ (sym here ∙ get_set_same hand k (item, true) l) in
        (λ m. ap (λ (z : Obl P × Bool). z.1) both, λ m. absurd (let e : j ≡ k = q in omega arith))
        )
    | inr ne ↦ (
        let there : slice_get hand j ≡ Some (o, x) = sym (get_set_other hand k j (item, true) ne) ∙ (ap (λ (z : List (Obl P × Bool)). slice_get z j) (sym same) ∙ is) in
        let was = before j o x there in
        let other : j ≡ k → ⊥ = ne in
        (λ m. was.0 (omega arith), λ m. was.1 (omega arith))
        )
  ]

  -- one more item is settled
  pub front_more : (k : ℕ) (t u w : TicketView P T) (old mid new : LedgerView P N T) → SettlesFront b k t u old mid → SettlesPlace b k u w mid new → SettlesFront b (k + 1) t w old new
  front_more k t u w old mid new front p =
      let hand : w.hand ≡ set u.hand k (p.item, true) = ap (λ (z : TicketView P T). z.hand) p.ticket in
      let there : slice_get (items_of t.hand) k ≡ Some p.item = ap (λ (z : List (Obl P)). slice_get z k) (sym front.ticket.items) ∙ item_get u.hand k p.item false p.open_item in
      record {
        ticket = record {
          worker = ap (λ (z : TicketView P T). z.worker) p.ticket ∙ front.ticket.worker;
          file = ap (λ (z : TicketView P T). z.file) p.ticket ∙ front.ticket.file;
          items = ap items_of hand ∙ (map_set (λ (z : Obl P × Bool). z.0) u.hand k (p.item, false) (p.item, true) p.open_item refl ∙ front.ticket.items);
          tables = ap (λ (z : TicketView P T). z.tables) p.ticket ∙ front.ticket.tables;
        };
        settled = settled_upto u.hand w.hand k p.item (slice_get_within u.hand k (p.item, false) p.open_item) front.settled hand;
        fits = p.fits;
        hands = kept_twice old.state mid.state new.state front.hands p.hands;
        appends = p.appends ∙ (ap (λ (z : FileNo). mid.journal ++ settling b z p.item) front.ticket.file ∙ (ap (λ (z : List (Event P N)). z ++ settling b t.file p.item) front.appends ∙ pieces_push (settling b t.file) old.journal (items_of t.hand) k p.item there));
      }

  pub length_front : (k : ℕ) (t u : TicketView P T) (old new : LedgerView P N T) → SettlesFront b k t u old new → length u.hand ≡ length t.hand
  length_front k t u old new front = sym (length-map u.hand (λ (z : Obl P × Bool). z.0)) ∙ (ap length front.ticket.items ∙ length-map t.hand (λ (z : Obl P × Bool). z.0))

  -- the whole hand is settled
  pub hand_done : (k : ℕ) (t u : TicketView P T) (old new : LedgerView P N T) → SettlesFront b k t u old new → length t.hand ≤ k → SettlesHand b t u old new
  hand_done k t u old new front l =
      let long = length_front k t u old new front in
      let many : length (items_of t.hand) ≤ k = (let same : length (items_of t.hand) ≡ length t.hand = length-map t.hand (λ (z : Obl P × Bool). z.0) in omega arith) in
      record {
        settled = λ j o x is. (
          λ m. (front.settled j o x is).0 (omega arith),
          λ m. absurd (let n : j < length u.hand = slice_get_within u.hand j (o, x) is in omega arith),
        );
        appends = front.appends ∙ ap (λ (z : List (Obl P)). old.journal ++ flat_map (settling b t.file) z) (take_all k (items_of t.hand) many);
      }

  pub extends : (k : ℕ) (t u : TicketView P T) (old new : LedgerView P N T) → SettlesFront b k t u old new → Extends old.journal new.journal
  extends k t u old new front = (flat_map (settling b t.file) (take k (items_of t.hand)), front.appends)

-- a file that is held has a place
pub held_there : {P N T : Type 0} (named of_book : Book P N T) (l now : LedgerView P N T) (shelves : List (List (FunNo × T))) → IsKept named of_book l shelves → l ≡ now → (file : FileNo) → IsHeld now.state file → file.0 < named.files
held_there {P} {N} {T} named of_book l now shelves k q file held =
    let here : IsHeld l.state file = subst (λ (z : LedgerView P N T). IsHeld z.state file) (sym q) held in
    let within : file.0 < length l.state.hands = slice_get_within l.state.hands file.0 (Some here.0) here.1 in
    let many : length l.state.hands ≡ named.files = k.hands_there in
    omega arith

-- what is in a hand is known
pub hands_known : {P N T : Type 0} (named of_book : Book P N T) (l now : LedgerView P N T) (shelves : List (List (FunNo × T))) → IsKept named of_book l shelves → l ≡ now → ((es : List (Event P N)) (s : CoreState P N) → Replays of_book es s → IsOrderly of_book s) → (file : FileNo) (o : Obl P) → IsInHand now.state file o → IsKnown now.state o
hands_known {P} {N} {T} named of_book l now shelves k q law file o held =
    let order : IsOrderly named now.state = subst (λ (z : LedgerView P N T). IsOrderly named z.state) q (order_here named of_book l shelves k law) in
    order.hands_known file o held
