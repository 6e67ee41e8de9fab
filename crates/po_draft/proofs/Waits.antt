-- The nodes that go to a label stay kept by their labels, and they are all that a label's node is put into.
use Rattle.std.proofs.Common.{◌≡◌, ◌≢◌, ◌⊎◌, ℕ, zero, suc, ◌+◌, ◌<◌, ◌≤◌, List, [], ◌∷◌, ◌++◌, length, length-append, get_or, refl, sym, ap, ◌∙◌, subst, arith, inl, inr}
use Rattle.std.specs.Prelude.{Some, Contains, slice_get, slice_set}
use Rattle.std.specs.Option.{unwrap_or}
use Rattle.std.proofs.lemmas.Bool.{cases_eq}
use Rattle.std.proofs.lemmas.Option.{slice_get_within, get_or_from_slice_get, unwrap_or-slice_get}
use Rattle.std.proofs.lemmas.List.Elements.{Contains-append_left, Contains-push, Contains-push_cases}
use Rattle.po_lists.proofs.Places.{item_at, kept_at, pushed_cases, set_here, set_elsewhere}
use Rattle.po_lists.proofs.Members.{contains_none, contains_item}
use Rattle.po_lists.proofs.Options.{one_some}
use Rattle.po_ir.specs.declared.instr.Instr.{Instr}
use Rattle.po_ir.specs.declared.instr.Instr.TheVariants as ins
use Rattle.po_ir.specs.declared.graph.Node.{Node}
use Rattle.po_lowering.specs.Temporaries.{node, to}
use Rattle.po_draft.specs.Sketches.{first_label, resolve, resolved, at_label, IsFilled}
use Rattle.po_draft.specs.Filling.{IsFilledAt}
use Rattle.po_draft.specs.Waiting.{GoesTo, IsRising, IsWaiting, AreWaiting, KeepsWaiting, IsBeingFilled, AreFilled, kept_for}
use Rattle.po_draft.proofs.Making.{at_own, at_other}

-- ---- numbers that rise

pub rising_none : (size : ℕ) → IsRising size []
rising_none size = record { within = λ i c. absurd (contains_none i c); rises = λ j k a b le ea eb. absurd (cc) }

pub rising_front : (size : ℕ) (xs : List ℕ) (i : ℕ) → IsRising size (xs ++ i ∷ []) → IsRising size xs
rising_front size xs i h =
    record {
      within = λ j c. h.within j (Contains-append_left xs (i ∷ []) j c);
      rises = λ j k a b le ea eb. h.rises j k a b le (kept_at xs (i ∷ []) j a ea) (kept_at xs (i ∷ []) k b eb);
    }

pub rising_push : (xs : List ℕ) (i : ℕ) → IsRising i xs → IsRising i (xs ++ i ∷ [])
rising_push xs i h =
    record {
      within = λ j c. elim (Contains-push_cases xs i j c) [ inl old ↦ h.within j old | inr q ↦ omega (arith, q) ];
      rises = λ j k a b le ea eb. elim (pushed_cases xs i k b eb) [
        | inl old ↦ elim (pushed_cases xs i j a ea) [
          | inl before ↦ h.rises j k a b le before old
          | inr q ↦ absurd (omega (arith, q.0, le, slice_get_within xs k b old))
        ]
        | inr q ↦ elim (pushed_cases xs i j a ea) [
          | inl before ↦ omega (arith, q.1, h.within a (contains_item xs j a before))
          | inr r ↦ omega (arith, q.1, r.1)
        ]
      ];
    }

pub rising_more : (size more : ℕ) (xs : List ℕ) → size ≤ more → IsRising size xs → IsRising more xs
rising_more size more xs le h = record { within = λ i c. omega (arith, le, h.within i c); rises = h.rises }

-- ---- lists of lists

pub room_same : (waiting : List (List ℕ)) (k : ℕ) → kept_for (waiting ++ [] ∷ []) k ≡ kept_for waiting k
room_same [] zero = refl
room_same [] (suc k) = refl
room_same (w ∷ ws) zero = refl
room_same (w ∷ ws) (suc k) = room_same ws k

pub kept_set : (waiting : List (List ℕ)) (k : ℕ) (numbers : List ℕ) → k < length waiting → kept_for (slice_set waiting k numbers) k ≡ numbers
kept_set waiting k numbers h = get_or_from_slice_get (slice_set waiting k numbers) k numbers [] (set_here waiting k numbers h)

pub kept_elsewhere : (waiting : List (List ℕ)) (k j : ℕ) (numbers : List ℕ) → j ≢ k → kept_for (slice_set waiting k numbers) j ≡ kept_for waiting j
kept_elsewhere waiting k j numbers d =
    sym (unwrap_or-slice_get (slice_set waiting k numbers) j []) ∙ ap (λ o. unwrap_or o []) (set_elsewhere waiting k j numbers d) ∙ unwrap_or-slice_get waiting j []

-- what is read at a place is what is kept there
pub read_kept : (waiting : List (List ℕ)) (k : ℕ) (numbers : List ℕ) → k < length waiting → numbers ≡ get_or waiting k numbers → numbers ≡ kept_for waiting k
read_kept waiting k numbers h q = let at = item_at waiting k h in q ∙ get_or_from_slice_get waiting k at.0 numbers at.1 ∙ sym (get_or_from_slice_get waiting k at.0 [] at.1)

-- ---- a node is kept for a label

pub keeps_same : (i : ℕ) (old new : List (List ℕ)) → ((k : ℕ) → kept_for new k ≡ kept_for old k) → KeepsWaiting i old new
keeps_same i old new q = record { more = λ k j c. subst (λ xs. Contains xs j) (sym (q k)) c; rising = λ k h. subst (IsRising i) (sym (q k)) h }

pub keeps_then : (i : ℕ) (a b c : List (List ℕ)) → KeepsWaiting i a b → KeepsWaiting i b c → KeepsWaiting i a c
keeps_then i a b c f g = record { more = λ k j h. g.more k j (f.more k j h); rising = λ k h. g.rising k (f.rising k h) }

pub keeps_set : (i k : ℕ) (waiting : List (List ℕ)) (numbers : List ℕ) → k < length waiting → numbers ≡ kept_for waiting k → KeepsWaiting i waiting (slice_set waiting k numbers)
keeps_set i k waiting numbers h q =
    keeps_same i waiting (slice_set waiting k numbers) (λ l. elim (cases_eq l k) [
      | inl same ↦ ap (kept_for (slice_set waiting k numbers)) same ∙ kept_set waiting k numbers h ∙ q ∙ ap (kept_for waiting) (sym same)
      | inr d ↦ kept_elsewhere waiting k l numbers d
    ])

pub keeps_push : (i k : ℕ) (waiting : List (List ℕ)) (numbers : List ℕ) → k < length waiting → numbers ≡ kept_for waiting k ++ i ∷ [] → KeepsWaiting i waiting (slice_set waiting k numbers)
keeps_push i k waiting numbers h q =
    record {
      more = λ l j c. elim (cases_eq l k) [
        | inl same ↦ subst (λ xs. Contains xs j) (sym (ap (kept_for (slice_set waiting k numbers)) same ∙ kept_set waiting k numbers h ∙ q)) (Contains-append_left (kept_for waiting k) (i ∷ []) j (subst (λ n. Contains (kept_for waiting n) j) same c))
        | inr d ↦ subst (λ xs. Contains xs j) (sym (kept_elsewhere waiting k l numbers d)) c
      ];
      rising = λ l r. elim (cases_eq l k) [
        | inl same ↦ subst (IsRising i) (sym (ap (kept_for (slice_set waiting k numbers)) same ∙ kept_set waiting k numbers h ∙ q)) (rising_push (kept_for waiting k) i (subst (λ n. IsRising i (kept_for waiting n)) same r))
        | inr d ↦ subst (IsRising i) (sym (kept_elsewhere waiting k l numbers d)) r
      ];
    }

pub pushed_there : (i k : ℕ) (waiting : List (List ℕ)) (numbers : List ℕ) → k < length waiting → numbers ≡ kept_for waiting k ++ i ∷ [] → Contains (kept_for (slice_set waiting k numbers) k) i
pushed_there i k waiting numbers h q = subst (λ xs. Contains xs i) (sym (kept_set waiting k numbers h ∙ q)) (Contains-push (kept_for waiting k) i)

-- ---- what an instruction goes to

away_at : (label place y : ℕ) → (place ≡ label → ⊥) → at_label label place y ≡ label → ⊥
away_at label place y n e = elim (cases_eq y label) [
  | inl q ↦ n (sym (at_own (λ z. z) label place) ∙ ap (at_label label place) (sym q) ∙ e)
  | inr d ↦ d (sym (at_other (λ z. z) label place y d) ∙ e)
]

-- nothing that got the label's node goes to the label
pub away : (label place : ℕ) (i : Instr) → (place ≡ label → ⊥) → GoesTo (resolve (at_label label place) i) label → ⊥
away label place (ins.If o t a b y n) d (inl e) = away_at label place y.0 d e
away label place (ins.If o t a b y n) d (inr e) = away_at label place n.0 d e
away label place (ins.Jump y) d e = away_at label place y.0 d e
away label place i d e = absurd e

before_at : (label place y z : ℕ) → (place ≡ z → ⊥) → at_label label place y ≡ z → y ≡ z
before_at label place y z n e = elim (cases_eq y label) [
  | inl q ↦ absurd (n (sym (at_own (λ z. z) label place) ∙ ap (at_label label place) (sym q) ∙ e))
  | inr d ↦ sym (at_other (λ z. z) label place y d) ∙ e
]

-- what it goes to it went to before
pub went_before : (label place z : ℕ) (i : Instr) → (place ≡ z → ⊥) → GoesTo (resolve (at_label label place) i) z → GoesTo i z
went_before label place z (ins.If o t a b y n) d (inl e) = inl (before_at label place y.0 z d e)
went_before label place z (ins.If o t a b y n) d (inr e) = inr (before_at label place n.0 z d e)
went_before label place z (ins.Jump y) d e = before_at label place y.0 z d e
went_before label place z i d e = absurd e

-- what doesn't go to the label stays the same
pub untouched : (label place : ℕ) (i : Instr) → (GoesTo i label → ⊥) → resolve (at_label label place) i ≡ i
untouched label place (ins.If o t a b y n) h =
    ap (λ z. ins.If o t a b (to z) (to (at_label label place n.0))) (at_other (λ z. z) label place y.0 (λ q. h (inl q))) ∙ ap (λ z. ins.If o t a b y (to z)) (at_other (λ z. z) label place n.0 (λ q. h (inr q)))
untouched label place (ins.Jump y) h = ap (λ z. ins.Jump (to z)) (at_other (λ z. z) label place y.0 h)
untouched label place i h = refl

-- ---- a label gets its node in those that wait for it

pub being_none : (from label place : ℕ) (ns : List Node) (left : List ℕ) → ((i : ℕ) (m : Node) → slice_get ns i ≡ Some m → GoesTo m.instr label → Contains left i) → IsRising (length ns) left →
    IsBeingFilled from label place ns ns left
being_none from label place ns left all rising = record { same_length = refl; before = λ i h. refl; each = λ i m e. inl e; waits = all; rising = rising }

pub being_more : (from i label place : ℕ) (a b c : List Node) (left rest : List ℕ) → (place ≡ label → ⊥) → IsBeingFilled from label place a b left → left ≡ rest ++ i ∷ [] → from ≤ i → IsFilledAt i label place b c →
    IsBeingFilled from label place a c rest
being_more from i label place a b c left rest n f last start g =
    record {
      same_length = g.same_length ∙ f.same_length;
      before = λ j h. g.others j (λ e. omega (arith, e, h, start)) ∙ f.before j h;
      each = λ j m e. elim (cases_eq j i) [
        | inl q ↦ inr (ap (slice_get c) q ∙ here m (elim (f.each j m e) [ inl same ↦ inl (ap (slice_get b) (sym q) ∙ same) | inr done ↦ inr (ap (slice_get b) (sym q) ∙ done) ]))
        | inr d ↦ elim (f.each j m e) [ inl same ↦ inl (g.others j d ∙ same) | inr done ↦ inr (g.others j d ∙ done) ]
      ];
      waits = λ j m e w. elim (cases_eq j i) [
        | inl q ↦
            let old = item_at b j (omega (arith, slice_get_within c j m e, g.same_length)) in
            let same : resolved (at_label label place) old.0 ≡ m = one_some (g.filled old.0 (ap (slice_get b) (sym q) ∙ old.1)) (ap (slice_get c) (sym q) ∙ e) in
            absurd (away label place old.0.instr n (subst (λ (x : Node). GoesTo x.instr label) (sym same) w))
        | inr d ↦ elim (Contains-push_cases rest i j (subst (λ xs. Contains xs j) last (f.waits j m (sym (g.others j d) ∙ e) w))) [ inl stays ↦ stays | inr q ↦ absurd (d (sym q)) ]
      ];
      rising = subst (λ k. IsRising k rest) (sym g.same_length) (rising_front (length b) rest i (subst (IsRising (length b)) last f.rising));
    }
  where
    here : (m : Node) → (slice_get b i ≡ Some m) ⊎ (slice_get b i ≡ Some (resolved (at_label label place) m)) → slice_get c i ≡ Some (resolved (at_label label place) m)
    here m (inl e) = g.filled m e
    here m (inr e) = g.filled (resolved (at_label label place) m) e ∙ ap (λ z. Some (node z m.spot)) (untouched label place (resolve (at_label label place) m.instr) (away label place m.instr n))

pub filled_all : (from label place : ℕ) (a b : List Node) (left : List ℕ) → AreFilled from label place a b left → IsFilled from label place a b
filled_all from label place a b left f =
    record {
      same_length = f.being.same_length;
      before = f.being.before;
      filled = λ i m le e. elim (f.being.each i m e) [
        | inl same ↦ same ∙ ap (λ z. Some (node z m.spot)) (sym (untouched label place m.instr (λ w. omega (arith, le, f.none_left i (f.being.waits i m same w)))))
        | inr done ↦ done
      ];
    }

-- no node waits for a label that was never used
pub filled_none : (from label place k : ℕ) (ns : List Node) (waiting : List (List ℕ)) → label ≡ k + first_label → length waiting ≤ k → AreWaiting ns waiting → IsFilled from label place ns ns
filled_none from label place k ns waiting q past h =
    record {
      same_length = refl;
      before = λ i less. refl;
      filled = λ i m le e. e ∙ ap (λ z. Some (node z m.spot)) (sym (untouched label place m.instr (λ w. contains_none i (subst (λ xs. Contains xs i) (none_kept waiting k past) (h.each i m e k label q w)))));
    }
  where
    none_kept : (ws : List (List ℕ)) (j : ℕ) → length ws ≤ j → kept_for ws j ≡ []
    none_kept [] j le = refl
    none_kept (w ∷ ws) zero le = absurd (omega (arith, le))
    none_kept (w ∷ ws) (suc j) le = none_kept ws j (omega (arith, le))

-- ---- all that wait stay kept

pub waiting_none : AreWaiting [] []
waiting_none = record { each = λ i m e. absurd (cc); rising = λ k. rising_none 0 }

pub waiting_kept : (ns : List Node) (old new : List (List ℕ)) → AreWaiting ns old → KeepsWaiting (length ns) old new → AreWaiting ns new
waiting_kept ns old new h keeps = record { each = λ i m e k y q w. keeps.more k i (h.each i m e k y q w); rising = λ k. keeps.rising k (h.rising k) }

pub waiting_pushed : (ns : List Node) (m : Node) (waiting : List (List ℕ)) → AreWaiting ns waiting → IsWaiting (length ns) m.instr waiting → AreWaiting (ns ++ m ∷ []) waiting
waiting_pushed ns m waiting h new =
    record {
      each = λ i x e k y q w. elim (pushed_cases ns m i x e) [
        | inl old ↦ h.each i x old k y q w
        | inr last ↦ subst (Contains (kept_for waiting k)) (sym last.0) (new k y q (subst (λ (z : Node). GoesTo z.instr y) (sym last.1) w))
      ];
      rising = λ k. rising_more (length ns) (length (ns ++ m ∷ [])) (kept_for waiting k) (omega (arith, length-append ns (m ∷ []))) (h.rising k);
    }

pub waiting_filled : (from label place k : ℕ) (ns ms : List Node) (waiting : List (List ℕ)) (left : List ℕ) → label ≡ k + first_label → place < first_label → k < length waiting → AreWaiting ns waiting →
    AreFilled from label place ns ms left → AreWaiting ms (slice_set waiting k left)
waiting_filled from label place k ns ms waiting left is small within h f =
    record {
      each = λ i m e j y q w. elim (cases_eq j k) [
        | inl same ↦ subst (λ xs. Contains xs i) (sym (ap (kept_for (slice_set waiting k left)) same ∙ kept_set waiting k left within)) (f.being.waits i m e (subst (GoesTo m.instr) (omega (arith, q, is, same)) w))
        | inr d ↦
            let old = item_at ns i (omega (arith, slice_get_within ms i m e, f.being.same_length)) in
            subst (λ xs. Contains xs i) (sym (kept_elsewhere waiting k j left d)) (h.each i old.0 old.1 j y q (before i m old.0 y e old.1 (λ z. omega (arith, z, q, small)) w))
      ];
      rising = λ j. elim (cases_eq j k) [
        | inl same ↦ subst (IsRising (length ms)) (sym (ap (kept_for (slice_set waiting k left)) same ∙ kept_set waiting k left within)) f.being.rising
        | inr d ↦ subst (IsRising (length ms)) (sym (kept_elsewhere waiting k j left d)) (subst (λ n. IsRising n (kept_for waiting j)) (sym f.being.same_length) (h.rising j))
      ];
    }
  where
    before : (i : ℕ) (m old : Node) (y : ℕ) → slice_get ms i ≡ Some m → slice_get ns i ≡ Some old → (place ≡ y → ⊥) → GoesTo m.instr y → GoesTo old.instr y
    before i m old y e there d w = elim (f.being.each i old there) [
      | inl same ↦ subst (λ (x : Node). GoesTo x.instr y) (one_some e same) w
      | inr done ↦ went_before label place y old.instr d (subst (λ (x : Node). GoesTo x.instr y) (one_some e done) w)
    ]
