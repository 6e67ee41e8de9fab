-- What is added to a graph that is being made, put together from its parts.
use Rattle.std.proofs.Common.{◌≡◌, ℕ, ◌+◌, ◌≤◌, ◌<◌, List, [], ◌∷◌, ◌++◌, Bool, true, false, cond, nat_eq, refl, sym, ap, ◌∙◌, subst, arith, length, length-append}
use Rattle.std.specs.Prelude.{Some, slice_get}
use Rattle.po_lists.proofs.Places.{first_at, behind_at}
use Rattle.po_base.specs.declared.spot.Spot.{Spot}
use Rattle.po_ir.specs.declared.instr.Instr.{Instr}
use Rattle.po_ir.specs.declared.instr.Instr.TheVariants as ins
use Rattle.po_ir.specs.declared.graph.Node.{Node}
use Rattle.po_lowering.specs.Temporaries.{State, At, node, to}
use Rattle.po_draft.specs.Sketches.{Sketch, with_node, first_label, resolve, resolved, with_place, at_label, IsFilled}
use Rattle.po_draft.specs.Making.{IsPlacing, Makes}

pub length_push : (ns ms : List Node) (m : Node) → ms ≡ ns ++ m ∷ [] → length ms ≡ length ns + 1
length_push ns ms m q = omega (arith, ap length q, length-append ns (m ∷ []))

-- ---- nothing, a node, one thing and then another

-- what passes on something else but has the same nodes
pub makes_same : (d e : Sketch) (R : List Node → (ℕ → ℕ) → Type 0) → e.nodes ≡ d.nodes → ((final : List Node) (g : ℕ → ℕ) → R final g) → Makes d e R
makes_same d e R q f = record { within = omega (arith, ap length q); kept = λ i h. ap (λ ns. slice_get ns i) q; holds = λ g final p h. f final g }

pub makes_none : (d : Sketch) (R : List Node → (ℕ → ℕ) → Type 0) → ((final : List Node) (g : ℕ → ℕ) → R final g) → Makes d d R
makes_none d R f = makes_same d d R refl f

pub makes_push : (d e : Sketch) (instr : Instr) (spot : Spot) → e.nodes ≡ d.nodes ++ node instr spot ∷ [] → Makes d e (λ final g. At final (length d.nodes) (resolve g instr) spot)
makes_push d e instr spot q =
    let m : Node = node instr spot in
    record {
      within = omega (arith, length_push d.nodes e.nodes m q);
      kept = λ i h. ap (λ l. slice_get l i) q ∙ first_at d.nodes (m ∷ []) i h;
      holds = λ g final p h. record { here = h (length d.nodes) m (omega arith) (omega (arith, length_push d.nodes e.nodes m q)) (ap (λ l. slice_get l (length d.nodes)) q ∙ behind_at d.nodes [] m) };
    }

pub makes_then : (d e f : Sketch) (R Q : List Node → (ℕ → ℕ) → Type 0) → Makes d e R → Makes e f Q → Makes d f (λ final g. R final g × Q final g)
makes_then d e f R Q a b =
    record {
      within = omega (arith, a.within, b.within);
      kept = λ i h. b.kept i (omega (arith, h, a.within)) ∙ a.kept i h;
      holds = λ g final p h. (
        a.holds g final p (λ i m lo hi q. h i m lo (omega (arith, hi, b.within)) (b.kept i hi ∙ q)),
        b.holds g final p (λ i m lo hi q. h i m (omega (arith, lo, a.within)) hi q),
      );
    }

pub makes_map : (d e : Sketch) (R Q : List Node → (ℕ → ℕ) → Type 0) → ((final : List Node) (g : ℕ → ℕ) → IsPlacing g → R final g → Q final g) → Makes d e R → Makes d e Q
makes_map d e R Q f a = record { within = a.within; kept = a.kept; holds = λ g final p h. f final g p (a.holds g final p h) }

-- the same of graphs with the same nodes
pub makes_along : (d d' e e' : Sketch) (R : List Node → (ℕ → ℕ) → Type 0) → d'.nodes ≡ d.nodes → e'.nodes ≡ e.nodes → Makes d e R → Makes d' e' R
makes_along d d' e e' R qd qe a =
    record {
      within = omega (arith, a.within, ap length qd, ap length qe);
      kept = λ i h. ap (λ l. slice_get l i) qe ∙ a.kept i (omega (arith, h, ap length qd)) ∙ sym (ap (λ l. slice_get l i) qd);
      holds = λ g final p h. a.holds g final p (λ i m lo hi q. h i m (omega (arith, lo, ap length qd)) (omega (arith, hi, ap length qe)) (ap (λ l. slice_get l i) qe ∙ q));
    }

-- one node more, behind what was made
pub makes_add : (d e f h : Sketch) (R : List Node → (ℕ → ℕ) → Type 0) (instr : Instr) (spot : Spot) → Makes d e R → f.nodes ≡ e.nodes → h.nodes ≡ f.nodes ++ node instr spot ∷ [] →
    Makes d h (λ final g. R final g × At final (length e.nodes) (resolve g instr) spot)
makes_add d e f h R instr spot a q p = makes_then d e h R _ a (makes_push e h instr spot (p ∙ ap (λ l. l ++ node instr spot ∷ []) q))

pub longer : (e f h : Sketch) (instr : Instr) (spot : Spot) → f.nodes ≡ e.nodes → h.nodes ≡ f.nodes ++ node instr spot ∷ [] → length h.nodes ≡ length e.nodes + 1
longer e f h instr spot q p = length_push f.nodes h.nodes (node instr spot) p ∙ ap (λ l. length l + 1) q

-- ---- one node, where it goes to no other node than the next

pub one_node : (d e f : Sketch) (instr : Instr) (spot : Spot) (F : List Node → ℕ → State → Type 0) → e.nodes ≡ d.nodes → f ≡ with_node instr spot e → ((g : ℕ → ℕ) → resolve g instr ≡ instr) →
    ((final : List Node) → At final (length d.nodes) instr spot → F final (length d.nodes + 1) e.state) → Makes d f (λ final g. F final (length f.nodes) f.state)
one_node d e f instr spot F q p fixed rule =
    let nodes : f.nodes ≡ e.nodes ++ node instr spot ∷ [] = ap (λ (s : Sketch). s.nodes) p in
    let state : e.state ≡ f.state = sym (ap (λ (s : Sketch). s.state) p) in
    let size : length d.nodes + 1 ≡ length f.nodes = sym (longer d e f instr spot q nodes) in
    makes_map d f _ _ (λ final g placing at. subst (F final (length f.nodes)) state (subst (λ n. F final n e.state) size (rule final (subst (λ i. At final (length d.nodes) i spot) (fixed g) at))))
    (makes_push d f instr spot (nodes ∙ ap (λ l. l ++ node instr spot ∷ []) q))

-- no node
pub no_node : (d e : Sketch) (F : List Node → ℕ → State → Type 0) → e ≡ d → ((final : List Node) → F final (length d.nodes) d.state) → Makes d e (λ final g. F final (length e.nodes) e.state)
no_node d e F q rule = subst (λ s. Makes d s (λ final g. F final (length s.nodes) s.state)) (sym q) (makes_none d _ (λ final g. rule final))

-- ---- labels

with_place-at : (g : ℕ → ℕ) (label place y : ℕ) → g place ≡ place → g (at_label label place y) ≡ with_place g label place y
with_place-at g label place y q = at_bool (nat_eq y label)
  where
    at_bool : (b : Bool) → g (cond b place y) ≡ cond b place (g y)
    at_bool true = q
    at_bool false = refl

resolve-twice : (g : ℕ → ℕ) (label place : ℕ) (i : Instr) → g place ≡ place → resolve g (resolve (at_label label place) i) ≡ resolve (with_place g label place) i
resolve-twice g label place (ins.If o t a b y n) q = let p1 = with_place-at g label place y.0 q in let p2 = with_place-at g label place n.0 q in ap (λ z. ins.If o t a b (to z) (to (g (at_label label place n.0)))) p1 ∙ ap (λ z. ins.If o t a b (to (with_place g label place y.0)) (to z)) p2
resolve-twice g label place (ins.Jump y) q = ap (λ z. ins.Jump (to z)) (with_place-at g label place y.0 q)
resolve-twice g label place (ins.Const a b) q = refl
resolve-twice g label place (ins.Copy a b) q = refl
resolve-twice g label place (ins.Bin a b c d e) q = refl
resolve-twice g label place (ins.Un a b c d) q = refl
resolve-twice g label place (ins.Conv a b c d) q = refl
resolve-twice g label place (ins.AddrSlot a b) q = refl
resolve-twice g label place (ins.AddrGlobal a b) q = refl
resolve-twice g label place (ins.AddrStr a b) q = refl
resolve-twice g label place (ins.PtrAdd a b c d) q = refl
resolve-twice g label place (ins.PtrDiff a b c d) q = refl
resolve-twice g label place (ins.Load a b c) q = refl
resolve-twice g label place (ins.Store a b c) q = refl
resolve-twice g label place (ins.CopyBytes a b c d) q = refl
resolve-twice g label place (ins.Fill a b) q = refl
resolve-twice g label place (ins.Enter a) q = refl
resolve-twice g label place (ins.Leave a) q = refl
resolve-twice g label place (ins.Call a b c d) q = refl
resolve-twice g label place (ins.Lib a b c d) q = refl
resolve-twice g label place (ins.Return a) q = refl
resolve-twice g label place (ins.Never a) q = refl

not_same : (y label : ℕ) → y < label → nat_eq y label ≡ false
not_same y label h = grind arith

pub placing_label : (g : ℕ → ℕ) (label place : ℕ) → IsPlacing g → first_label ≤ label → IsPlacing (with_place g label place)
placing_label g label place p h y k = ap (λ b. cond b place (g y)) (not_same y label (omega (arith, h, k))) ∙ p y k

-- a label of what was made gets its node
pub makes_fill : (d e f : Sketch) (from label place : ℕ) (R : List Node → (ℕ → ℕ) → Type 0) → Makes d e R → IsFilled from label place e.nodes f.nodes → from ≡ length d.nodes → first_label ≤ label → place < first_label →
    Makes d f (λ final g. R final (with_place g label place))
makes_fill d e f from label place R a h start hl hp =
    record {
      within = omega (arith, a.within, h.same_length);
      kept = λ i k. h.before i (omega (arith, k, start)) ∙ a.kept i k;
      holds = λ g final p k. a.holds (with_place g label place) final (placing_label g label place p hl)
          (λ i m lo hi q. k i (resolved (at_label label place) m) lo (omega (arith, hi, h.same_length)) (h.filled i m (omega (arith, start, lo)) q) ∙ ap (λ z. Some (node z m.spot)) (resolve-twice g label place m.instr (p place hp)));
    }

-- the label that got a node stands for it, and the others stand for what they stood for
pub at_own : (g : ℕ → ℕ) (label place : ℕ) → with_place g label place label ≡ place
at_own g label place = let q : nat_eq label label ≡ true = grind arith in ap (λ b. cond b place (g label)) q

pub at_other : (g : ℕ → ℕ) (label place y : ℕ) → (y ≡ label → ⊥) → with_place g label place y ≡ g y
at_other g label place y h = let q : nat_eq y label ≡ false = grind arith in ap (λ b. cond b place (g y)) q
