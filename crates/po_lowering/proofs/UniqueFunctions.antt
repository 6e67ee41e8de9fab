-- A typed definition has one graph.
use Rattle.std.proofs.Common.{◌≡◌, ℕ, suc, ◌+◌, ◌<◌, List, [], ◌∷◌, Some, refl, sym, ap, ◌∙◌, arith, length}
use Rattle.std.specs.Prelude.{slice_get}
use Rattle.po_ir.specs.declared.graph.Node.{Node}
use Rattle.po_ir.specs.declared.graph.Graph.{Graph}
use Rattle.po_tree.specs.declared.expression.Param.{Param}
use Rattle.po_types.specs.declared.ctype.CType.{CType}
use Rattle.po_lowering.specs.Places.{Place}
use Rattle.po_lowering.specs.Typed.{Typed}
use Rattle.po_lowering.specs.Temporaries.{State, fresh}
use Rattle.po_lowering.specs.Functions.{Params, no_more_params, in_register, in_slot, in_body}
use Rattle.po_lowering.specs.Same.{Same, SameRange, OneGraph}
use Rattle.po_lowering.proofs.Same.{plus, same_none, same_join, same_one, same_last, one_row, one_taken}
use Rattle.po_lowering.proofs.UniqueStatements.{Alike, one_items}
use Rattle.po_lists.proofs.Booleans.{not_both_truths}

module _ {f : Typed} {ns ms : List Node} where
  one_params : {s s' t u : State} {a a' b d r k : ℕ} {xs : List Param} {ys : List CType} {p : Place} → Params f ns s a r k xs ys p b t → Params f ms s' a' r k xs ys p d u →
      s ≡ s' → a ≡ a' → SameRange ns ms a b t d u
  one_params no_more_params no_more_params es ea = record { ends = ea; states = es; nodes = same_none _ _ refl }
  one_params (in_register q A) (in_register q' A') es ea = one_params A A' es ea
  one_params (in_slot {a = a} q H T I J A) (in_slot {a = a'} q' H' T' I' J' A') es ea =
      let K = one_taken T T' (ap fresh es) in
      let em = K.number in
      let R = one_params A A' K.states (plus 3 ea) in
      record {
        ends = R.ends;
        states = R.states;
        nodes = same_join (same_one H H' ea refl) (same_join {b = a + 2} (same_last I I' (plus 1 ea) (cc) (omega arith))
            (same_join {b = a + 3} (same_last J J' (plus 2 ea) (cc) (omega arith)) R.nodes));
      }
  one_params (in_register q A) (in_slot q' H' T' I' J' A') es ea = absurd (not_both_truths q' q)
  one_params (in_slot q H T I J A) (in_register q' A') es ea = absurd (not_both_truths q q')

get_next : {X : Type 0} (x : X) (xs : List X) (i : ℕ) → slice_get (x ∷ xs) (i + 1) ≡ slice_get xs i
get_next x xs i = let e : i + 1 ≡ suc i = omega arith in ap (slice_get (x ∷ xs)) e

same_lists : (xs ys : List Node) → length xs ≡ length ys → ((i : ℕ) → i < length xs → slice_get xs i ≡ slice_get ys i) → xs ≡ ys
same_lists [] [] q f = refl
same_lists [] (y ∷ ys) q f = absurd (omega arith)
same_lists (x ∷ xs) [] q f = absurd (omega arith)
same_lists (x ∷ xs) (y ∷ ys) q f =
    let head : Some x ≡ Some y = f 0 (omega arith) in
    let tail : xs ≡ ys = same_lists xs ys (omega arith) (λ i h. sym (get_next x xs i) ∙ f (i + 1) (omega arith) ∙ get_next y ys i) in
    cc

record_eq : (g h : Graph) → g.nodes ≡ h.nodes → g.regs ≡ h.regs → g.slots ≡ h.slots → g.params ≡ h.params → g ≡ h
record_eq g h en er es ep =
    ap (λ z. record g { nodes = z }) en ∙ ap (λ z. record g { nodes = h.nodes; regs = z }) er ∙ ap (λ z. record g { nodes = h.nodes; regs = h.regs; slots = z }) es ∙
    ap (λ z. record g { nodes = h.nodes; regs = h.regs; slots = h.slots; params = z }) ep

pub one_graph : OneGraph
one_graph f g h statics others texts writings x y =
    let P = one_params x.params y.params refl refl in
    let E = one_row x.enters_own y.enters_own P.ends refl in
    let alike : Alike (in_body x.last.labels) (in_body y.last.labels) = record { exit_blocks = refl; next_blocks = refl; blocks = refl } in
    let B = one_items x.body y.body alike P.states E.ends in
    let L = one_row x.ends y.ends B.ends refl in
    let all : Same g.nodes h.nodes 0 (length g.nodes) = same_join P.nodes (same_join E.nodes (same_join (B.nodes refl refl (ap (λ (z : State). z.labels) B.states)) L.nodes)) in
    let nodes : g.nodes ≡ h.nodes = same_lists g.nodes h.nodes L.ends (λ i lt. all.same i (omega arith) lt) in
    let regs : g.regs ≡ h.regs = x.registers ∙ ap (λ (z : State). z.regs) B.states ∙ sym y.registers in
    let slots : g.slots ≡ h.slots = x.slots ∙ sym y.slots in
    let params : g.params ≡ h.params = x.param_count ∙ sym y.param_count in
    (record_eq g h nodes regs slots params, x.statics_are ∙ sym y.statics_are, x.texts_are ∙ ap (λ (z : State). z.texts) B.states ∙ sym y.texts_are)
