-- What one call adds to a graph that is being made.
use Rattle.std.proofs.Common.{◌≡◌, ℕ, suc, ◌+◌, ◌<◌, ◌≤◌, List, [], ◌∷◌, ◌++◌, Bool, true, false, length, append_assoc, append-nil, get_or, take, take_all, map, refl, sym, ap, ◌∙◌, subst, arith}
use Rattle.std.specs.Prelude.{ℤ, pos, Option, Some, None}
use Rattle.std.proofs.lemmas.List.{map_push}
use Rattle.std.proofs.lemmas.Option.{slice_get-get_or}
use Rattle.po_lists.proofs.Places.{take_push}
use Rattle.po_base.specs.declared.spot.Spot.{Spot}
use Rattle.po_base.specs.declared.numbers.NodeNo.{NodeNo}
use Rattle.po_base.specs.declared.numbers.RegNo.{RegNo}
use Rattle.po_base.specs.declared.numbers.SlotNo.{SlotNo}
use Rattle.po_base.specs.declared.operand.Opnd.{Opnd}
use Rattle.po_base.specs.declared.operand.Opnd.TheVariants as o
use Rattle.po_base.specs.declared.operators.Op.TheVariants as op
use Rattle.po_ir.specs.declared.instr.Access.{Access}
use Rattle.po_ir.specs.declared.instr.Ty.{Ty}
use Rattle.po_ir.specs.declared.instr.Ty.TheVariants as ty
use Rattle.po_ir.specs.declared.instr.Local.{Local}
use Rattle.po_ir.specs.declared.instr.Local.TheVariants as local
use Rattle.po_ir.specs.declared.instr.Instr.{Instr}
use Rattle.po_ir.specs.declared.instr.Instr.TheVariants as ins
use Rattle.po_ir.specs.declared.graph.Node.{Node}
use Rattle.po_lowering.specs.Temporaries.{At, Row, Takes, node, to, reg, register, put, fresh, type_in, ends, Holds, Saves, kept, copied, saved, not_used}
use Rattle.po_lowering.specs.declared.var.Var.{Var}
use Rattle.po_lowering.specs.Blocks.{case_tests, enter_node, leaves, leave_node}
use Rattle.po_lowering.specs.Functions.{last_instr}
use Rattle.po_draft.specs.Sketches.{Sketch, with_node, first_label, resolve}
use Rattle.po_draft.proofs.Making.{length_push, makes_none, makes_push, makes_then, makes_map, makes_same, one_node, longer}
use Rattle.po_lower_nodes.specs.Groups.{AddsNode, AddsRow, AddsValue, AddsChoice, AddsHolding, AddsSaving, enter_nodes}
use Rattle.po_lower_nodes.specs.Parameters.{KeepsParameter}
use Rattle.po_lower_nodes.proofs.Rows.{row_append, row_length, row_one, tests_length, tests_append}

-- ---- one node

pub adds_node : (d e : Sketch) (instr : Instr) (spot : Spot) → e ≡ with_node instr spot d → AddsNode d e (λ g. resolve g instr) spot
adds_node d e instr spot q =
    let nodes : e.nodes ≡ d.nodes ++ node instr spot ∷ [] = ap (λ (s : Sketch). s.nodes) q in
    let size = length_push d.nodes e.nodes (node instr spot) nodes in
    let state : e.state ≡ d.state = ap (λ (s : Sketch). s.state) q in
    makes_map d e _ _ (λ final g p h. record { here = h; ends = size; same = state }) (makes_push d e instr spot nodes)

-- where it goes to no label
pub adds_fixed : (d e : Sketch) (given instr : Instr) (spot : Spot) → given ≡ instr → e ≡ with_node given spot d → ((g : ℕ → ℕ) → resolve g instr ≡ instr) → AddsNode d e (λ g. instr) spot
adds_fixed d e given instr spot is q fixed =
    makes_map d e _ _ (λ final g p h. record { here = subst (λ i. At final (length d.nodes) i spot) (fixed g) h.here; ends = h.ends; same = h.same })
    (adds_node d e instr spot (q ∙ ap (λ i. with_node i spot d) is))

pub resolve-put : (g : ℕ → ℕ) (r : ℕ) (v : Opnd) → resolve g (put r v) ≡ put r v
resolve-put g r (o.Num n) = refl
resolve-put g r (o.Reg q) = refl

pub resolve-last : (g : ℕ → ℕ) (is_void is_main : Bool) → resolve g (last_instr is_void is_main) ≡ last_instr is_void is_main
resolve-last g true is_main = refl
resolve-last g false true = refl
resolve-last g false false = refl

-- ---- a temporary, and one node

pub adds_value : (d e f : Sketch) (held : Ty) (r : ℕ) (instr : ℕ → Instr) (spot : Spot) → Takes held d.state r e.state → e.nodes ≡ d.nodes → f ≡ with_node (instr r) spot e → ((g : ℕ → ℕ) → resolve g (instr r) ≡ instr r) →
    AddsValue d f held instr spot (register r)
adds_value d e f held r instr spot takes same q fixed =
    let nodes : f.nodes ≡ e.nodes ++ node (instr r) spot ∷ [] = ap (λ (s : Sketch). s.nodes) q in
    let state : f.state ≡ e.state = ap (λ (s : Sketch). s.state) q in
    let size : length f.nodes ≡ length d.nodes + 1 = longer d e f (instr r) spot same nodes in
    makes_map d f _ _ (λ final g p h. record {
      number = r;
      takes = subst (λ t. Takes held d.state r t) (sym state) takes;
      here = subst (λ i. At final (length d.nodes) i spot) (fixed g) h;
      is_value = refl;
      ends = size;
    }) (makes_push d f (instr r) spot (nodes ∙ ap (λ l. l ++ node (instr r) spot ∷ []) same))

-- ---- rows

pub adds_none : (d e : Sketch) → e ≡ d → AddsRow d e (λ g. [])
adds_none d e q = subst (λ s. AddsRow d s (λ g. [])) (sym q) (makes_none d _ (λ final g. record { row = ends (length d.nodes); same = refl }))

pub adds_one : (d e : Sketch) (instr : (ℕ → ℕ) → Instr) (spot : Spot) → AddsNode d e instr spot → AddsRow d e (λ g. node (instr g) spot ∷ [])
adds_one d e instr spot a = makes_map d e _ _ (λ final g p h. record { row = row_one final (length d.nodes) (length e.nodes) (node (instr g) spot) h.here.here h.ends; same = h.same }) a

pub adds_then : (d e f : Sketch) (xs ys : (ℕ → ℕ) → List Node) → AddsRow d e xs → AddsRow e f ys → AddsRow d f (λ g. xs g ++ ys g)
adds_then d e f xs ys a b = makes_map d f _ _ (λ final g p h. record { row = row_append h.0.row h.1.row; same = h.1.same ∙ h.0.same }) (makes_then d e f _ _ a b)

pub adds_along : (d e : Sketch) (xs ys : (ℕ → ℕ) → List Node) → ((g : ℕ → ℕ) → xs g ≡ ys g) → AddsRow d e xs → AddsRow d e ys
adds_along d e xs ys q a = makes_map d e _ _ (λ final g p h. record { row = subst (λ z. Row final (length d.nodes) z (length e.nodes)) (q g) h.row; same = h.same }) a

-- the test of a case
pub adds_test : (d e : Sketch) (t : Ty) (v : Opnd) (spot : Spot) (n : ℤ) (target : NodeNo) (at : ℕ) → at ≡ length d.nodes → at + 8 < first_label →
    AddsNode d e (λ g. ins.If op.Eq t v (o.Num n) (to (g target.0)) (to (g (at + 1)))) spot → AddsRow d e (λ g. case_tests (length d.nodes) t v spot ((n, g target.0) ∷ []))
adds_test d e t v spot n target at is small a =
    makes_map d e _ _ (λ final g p h.
    let next : g (at + 1) ≡ length d.nodes + 1 = p (at + 1) (omega (arith, small)) ∙ ap (λ k. k + 1) is in
    let one = subst (λ k. At final (length d.nodes) (ins.If op.Eq t v (o.Num n) (to (g target.0)) (to k)) spot) next h.here in
    record { row = row_one final (length d.nodes) (length e.nodes) _ one.here h.ends; same = h.same }) a

-- ---- a list, item by item

item_more : {X : Type 0} (xs : List X) (i : ℕ) (x : X) → i < length xs → take i xs ++ get_or xs i x ∷ [] ≡ take (i + 1) xs
item_more xs i x h = let next : suc i ≡ i + 1 = omega arith in sym (take_push xs i (get_or xs i x) (slice_get-get_or xs i x h)) ∙ ap (λ n. take n xs) next

abbrev pub leaves_of : Spot → List SlotNo → List Node
leaves_of spot slots = leaves spot (map (λ (slot : SlotNo). slot.0) slots)

pub leaves_more : (d e f : Sketch) (spot : Spot) (xs : List SlotNo) (i : ℕ) (x : SlotNo) → i < length xs → AddsRow d e (λ g. leaves_of spot (take i xs)) → AddsNode e f (λ g. ins.Leave (get_or xs i x)) spot →
    AddsRow d f (λ g. leaves_of spot (take (i + 1) xs))
leaves_more d e f spot xs i x h a b =
    let y : SlotNo = get_or xs i x in
    let more : leaves_of spot (take i xs) ++ leave_node spot y.0 ∷ [] ≡ leaves_of spot (take i xs ++ y ∷ []) =
    sym (map_push (leave_node spot) (map (λ (slot : SlotNo). slot.0) (take i xs)) y.0) ∙ ap (leaves spot) (sym (map_push (λ (slot : SlotNo). slot.0) (take i xs) y)) in
    subst (λ zs. AddsRow d f (λ g. leaves_of spot zs)) (item_more xs i x h) (adds_along d f _ _ (λ g. more) (adds_then d e f _ _ a (adds_one e f (λ g. ins.Leave y) spot b)))

pub leaves_all : (d e : Sketch) (spot : Spot) (xs : List SlotNo) (i : ℕ) → length xs ≤ i → AddsRow d e (λ g. leaves_of spot (take i xs)) → AddsRow d e (λ g. leaves_of spot xs)
leaves_all d e spot xs i h a = subst (λ zs. AddsRow d e (λ g. leaves_of spot zs)) (take_all i xs h) a

enters_push : (xs : List (Option Var × Spot)) (x : Option Var × Spot) → enter_nodes xs ++ enter_node x.0 x.1 ≡ enter_nodes (xs ++ x ∷ [])
enters_push [] x = sym (append-nil (enter_node x.0 x.1))
enters_push (y ∷ ys) x = append_assoc (enter_node y.0 y.1) (enter_nodes ys) (enter_node x.0 x.1) ∙ ap (λ z. enter_node y.0 y.1 ++ z) (enters_push ys x)

pub enters_more : (d e f : Sketch) (xs : List (Option Var × Spot)) (i : ℕ) (x : Option Var × Spot) → i < length xs → x ≡ get_or xs i x → AddsRow d e (λ g. enter_nodes (take i xs)) → AddsRow e f (λ g. enter_node x.0 x.1) →
    AddsRow d f (λ g. enter_nodes (take (i + 1) xs))
enters_more d e f xs i x h is a b =
    subst (λ zs. AddsRow d f (λ g. enter_nodes zs)) (ap (λ y. take i xs ++ y ∷ []) is ∙ item_more xs i x h) (adds_along d f _ _ (λ g. enters_push (take i xs) x) (adds_then d e f _ _ a b))

pub enters_all : (d e : Sketch) (xs : List (Option Var × Spot)) (i : ℕ) → length xs ≤ i → AddsRow d e (λ g. enter_nodes (take i xs)) → AddsRow d e (λ g. enter_nodes xs)
enters_all d e xs i h a = subst (λ zs. AddsRow d e (λ g. enter_nodes zs)) (take_all i xs h) a

abbrev pub tests_of : ℕ → Ty → Opnd → Spot → (ℕ → ℕ) → List (ℤ × NodeNo) → List Node
tests_of a t v spot g cases = case_tests a t v spot (map (λ (x : ℤ × NodeNo). (x.0, g x.1.0)) cases)

pub tests_more : (d e f : Sketch) (t : Ty) (v : Opnd) (spot : Spot) (cases : List (ℤ × NodeNo)) (i : ℕ) (x : ℤ × NodeNo) → i < length cases →
    AddsRow d e (λ g. tests_of (length d.nodes) t v spot g (take i cases)) → AddsRow e f (λ g. case_tests (length e.nodes) t v spot (((get_or cases i x).0, g (get_or cases i x).1.0) ∷ [])) →
    AddsRow d f (λ g. tests_of (length d.nodes) t v spot g (take (i + 1) cases))
tests_more d e f t v spot cases i d0 h a b =
    let x : ℤ × NodeNo = get_or cases i d0 in
    subst (λ zs. AddsRow d f (λ g. tests_of (length d.nodes) t v spot g zs)) (item_more cases i d0 h)
    (makes_map d f _ _ (λ final g p m.
    let old = map (λ (x : ℤ × NodeNo). (x.0, g x.1.0)) (take i cases) in
    let size : length e.nodes ≡ length d.nodes + length old = row_length m.0.row ∙ ap (λ k. length d.nodes + k) (tests_length (length d.nodes) t v spot old) in
    let row = row_append m.0.row m.1.row in
    record {
      row = subst (λ z. Row final (length d.nodes) z (length f.nodes)) (tests_append (length d.nodes) (length e.nodes) t v spot old ((x.0, g x.1.0) ∷ []) size ∙ ap (case_tests (length d.nodes) t v spot) (sym (map_push (λ (x : ℤ × NodeNo). (x.0, g x.1.0)) (take i cases) x))) row;
      same = m.1.same ∙ m.0.same;
    }) (makes_then d e f _ _ a b))

pub tests_all : (d e : Sketch) (t : Ty) (v : Opnd) (spot : Spot) (cases : List (ℤ × NodeNo)) (i : ℕ) → length cases ≤ i → AddsRow d e (λ g. tests_of (length d.nodes) t v spot g (take i cases)) →
    AddsRow d e (λ g. tests_of (length d.nodes) t v spot g cases)
tests_all d e t v spot cases i h a = subst (λ zs. AddsRow d e (λ g. tests_of (length d.nodes) t v spot g zs)) (take_all i cases h) a

-- the variable of a declarator
pub enters_local : (d e : Sketch) (spot : Spot) (variable : Option Var) (what : Local) → enter_node variable spot ≡ node (ins.Enter what) spot ∷ [] → AddsNode d e (λ g. ins.Enter what) spot → AddsRow d e (λ g. enter_node variable spot)
enters_local d e spot variable what q a = adds_along d e _ _ (λ g. sym q) (adds_one d e (λ g. ins.Enter what) spot a)

pub enters_nothing : (d : Sketch) (spot : Spot) (variable : Option Var) → enter_node variable spot ≡ [] → AddsRow d d (λ g. enter_node variable spot)
enters_nothing d spot variable q = adds_along d d _ _ (λ g. sym q) (adds_none d d refl)

pub enters_same : (d e : Sketch) (spot : Spot) (x y : Option Var) → x ≡ y → AddsRow d e (λ g. enter_node y spot) → AddsRow d e (λ g. enter_node x spot)
enters_same d e spot x y q a = subst (λ z. AddsRow d e (λ g. enter_node z spot)) (sym q) a

-- ---- operands that are held

pub adds_copy : (d e f : Sketch) (spot : Spot) (q : RegNo) (t : Ty) (r : ℕ) → type_in d.state q ≡ Some t → Takes t d.state r e.state → e.nodes ≡ d.nodes → f ≡ with_node (ins.Copy (reg r) q) spot e → AddsHolding d f spot (o.Reg q) true (register r)
adds_copy d e f spot q t r typed takes same p =
    one_node d e f (ins.Copy (reg r) q) spot (λ final b s. Holds final d.state (length d.nodes) spot (o.Reg q) true (register r) b s) same p (λ g. refl)
    (λ final at. copied d.state e.state (length d.nodes) spot q r t typed takes at)

pub adds_kept : (d : Sketch) (spot : Spot) (v : Opnd) (changed : Bool) → changed ≡ false → AddsHolding d d spot v changed v
adds_kept d spot v changed q = subst (λ b. AddsHolding d d spot v b v) (sym q) (makes_none d _ (λ final g. kept d.state (length d.nodes) spot v))

pub adds_saved : (d e f : Sketch) (spot : Spot) (t : Ty) (q : RegNo) (r : ℕ) → Takes t d.state r e.state → e.nodes ≡ d.nodes → f ≡ with_node (ins.Copy (reg r) q) spot e → AddsSaving d f spot t true q (Some (register r))
adds_saved d e f spot t q r takes same p =
    one_node d e f (ins.Copy (reg r) q) spot (λ final b s. Saves final d.state (length d.nodes) spot t true q (Some (register r)) b s) same p (λ g. refl)
    (λ final at. saved d.state e.state (length d.nodes) spot t q r takes at)

pub adds_unsaved : (d : Sketch) (spot : Spot) (t : Ty) (used : Bool) (q : RegNo) → used ≡ false → AddsSaving d d spot t used q None
adds_unsaved d spot t used q is = subst (λ b. AddsSaving d d spot t b q None) (sym is) (makes_none d _ (λ final g. not_used d.state (length d.nodes) spot t q))

-- ---- several nodes

pub adds_choice : (d e a b c : Sketch) (held : Ty) (r at : ℕ) (spot : Spot) → at ≡ length d.nodes → at + 8 < first_label → Takes held d.state r e.state → e.nodes ≡ d.nodes →
    a ≡ with_node (put r (o.Num (pos 1))) spot e → b ≡ with_node (ins.Jump (to (at + 3))) spot a → c ≡ with_node (put r (o.Num (pos 0))) spot b → AddsChoice d c held spot (register r)
adds_choice d e a b c held r at spot is small takes same qa qb qc =
    let one = adds_node e a (put r (o.Num (pos 1))) spot qa in
    let two = adds_node a b (ins.Jump (to (at + 3))) spot qb in
    let three = adds_node b c (put r (o.Num (pos 0))) spot qc in
    let start : length e.nodes ≡ length d.nodes = ap length same in
    makes_map d c _ _ (λ final g p h.
    let first = h.0.0.1 in
    let second = h.0.1 in
    let last = h.1 in
    let size1 : length a.nodes ≡ length d.nodes + 1 = first.ends ∙ ap (λ k. k + 1) start in
    let size2 : length b.nodes ≡ length d.nodes + 2 = omega (arith, second.ends, size1) in
    let size3 : length c.nodes ≡ length d.nodes + 3 = omega (arith, last.ends, size2) in
    let goal_place : g (at + 3) ≡ length d.nodes + 3 = p (at + 3) (omega (arith, small)) ∙ ap (λ k. k + 3) is in
    let r1 = row_one final (length d.nodes) (length d.nodes + 1) _ (subst (λ k. At final k (put r (o.Num (pos 1))) spot) start first.here).here refl in
    let r2 = row_one final (length d.nodes + 1) (length d.nodes + 2) _ (subst (λ k. At final k (ins.Jump (to (length d.nodes + 3))) spot) size1 (subst (λ k. At final (length a.nodes) (ins.Jump (to k)) spot) goal_place second.here)).here (omega arith) in
    let r3 = row_one final (length d.nodes + 2) (length c.nodes) _ (subst (λ k. At final k (put r (o.Num (pos 0))) spot) size2 last.here).here (omega (arith, size3)) in
    record {
      number = r;
      takes = subst (λ t. Takes held d.state r t) (sym (last.same ∙ second.same ∙ first.same)) takes;
      row = row_append r1 (row_append r2 r3);
      is_value = refl;
      ends = size3;
    })
    (makes_then d b c _ _ (makes_then d a b _ _ (makes_then d e a _ _ (makes_same d e (λ final g. Unit {0}) same (λ final g. tt)) one) two) three)

pub keeps_parameter : (d e f h k : Sketch) (slot : SlotNo) (r : ℕ) (access : Access) (spot : Spot) (v : Opnd) → e ≡ record d { state = fresh d.state } → AddsNode e f (λ g. ins.Enter (local.Slot slot)) spot →
    AddsValue f h ty.Ptr (λ q. ins.AddrSlot (reg q) slot) spot v → k ≡ with_node (ins.Store v (register r) access) spot h → KeepsParameter d k slot r access spot
keeps_parameter d e f h k slot r access spot v qe enter address qk =
    let store = adds_node h k (ins.Store v (register r) access) spot qk in
    let nodes : e.nodes ≡ d.nodes = ap (λ (s : Sketch). s.nodes) qe in
    let start : length e.nodes ≡ length d.nodes = ap length nodes in
    let state : e.state ≡ fresh d.state = ap (λ (s : Sketch). s.state) qe in
    makes_map d k _ _ (λ final g p m.
    let first = m.0.0.1 in
    let second = m.0.1 in
    let third = m.1 in
    let size1 : length f.nodes ≡ length d.nodes + 1 = first.ends ∙ ap (λ n. n + 1) start in
    let size2 : length h.nodes ≡ length d.nodes + 2 = omega (arith, second.ends, size1) in
    record {
      number = second.number;
      takes = subst (λ t. Takes ty.Ptr (fresh d.state) second.number t) (sym third.same) (subst (λ s. Takes ty.Ptr s second.number h.state) (first.same ∙ state) second.takes);
      enters = subst (λ n. At final n (ins.Enter (local.Slot slot)) spot) start first.here;
      address = subst (λ n. At final n (ins.AddrSlot (reg second.number) slot) spot) size1 second.here;
      stores = subst (λ z. At final (length d.nodes + 2) (ins.Store z (register r) access) spot) second.is_value (subst (λ n. At final n (ins.Store v (register r) access) spot) size2 third.here);
      ends = omega (arith, third.ends, size2);
    })
    (makes_then d h k _ _ (makes_then d f h _ _ (makes_then d e f _ _ (makes_same d e (λ final g. Unit {0}) nodes (λ final g. tt)) enter) address) store)
