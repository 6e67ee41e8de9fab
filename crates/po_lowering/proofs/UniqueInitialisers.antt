-- An initialiser has one row of nodes.
use Rattle.std.proofs.Common.{◌≡◌, ℕ, List, [], ◌∷◌, Option, Bool, refl, sym, ap, subst}
use Rattle.std.specs.Prelude.{ℤ}
use Rattle.po_base.specs.declared.operand.Opnd.{Opnd}
use Rattle.po_base.specs.declared.operand.Opnd.TheVariants as o
use Rattle.po_base.specs.declared.numbers.SlotNo.{SlotNo}
use Rattle.po_base.specs.declared.spot.Spot.{Spot}
use Rattle.po_ir.specs.declared.graph.Node.{Node}
use Rattle.po_tree.specs.declared.expression.Exp.{Exp}
use Rattle.po_tree.specs.declared.declaration.Init.{Init}
use Rattle.po_types.specs.declared.ctype.CType.{CType}
use Rattle.po_lowering.specs.declared.var.Var.{Var}
use Rattle.po_lowering.specs.Places.{Place, skip}
use Rattle.po_lowering.specs.Typed.{Typed, Part}
use Rattle.po_lowering.specs.Temporaries.{State, register}
use Rattle.po_lowering.specs.Naming.{Scope}
use Rattle.po_lowering.specs.Spelling.{characters_given}
use Rattle.po_lowering.specs.Expressions.{Operand}
use Rattle.po_lowering.specs.Initialisers.{Given, value, Step, Goes, arrived, to_element, to_member, Reaches, reached, Letters, no_more_letters, one_more_letter, Gives, one_value, a_text, all_elements, all_members, Elements, no_more_elements, one_more_element, Members, no_more_members, one_more_member, Fills, filled, not_filled, Initialises, not_initialised, static_initialised, register_initialised, slot_initialised}
use Rattle.po_lowering.specs.Same.{SameRange, SameValue}
use Rattle.po_lowering.proofs.Same.{plus, same_none, same_join, same_one, one_taken, one_spelling, one_converted, one_moved, SameRow}
use Rattle.po_lowering.proofs.UniqueExpressions.{one_operand}
use Rattle.po_lists.proofs.Options.{one_some}

abbrev first_or : ℤ → List ℤ → ℤ
first_or d [] = d
first_or d (z ∷ zs) = z

abbrev behind_first : List ℤ → List ℤ
behind_first [] = []
behind_first (z ∷ zs) = zs

abbrev expression_in : Exp → Given → Exp
expression_in d (value x n) = x
expression_in d _ = d

abbrev braces_in : Given → ℕ
braces_in (value x n) = n
braces_in _ = 0

module _ {ns ms : List Node} where
  one_way : {s s' t u : State} {a a' b d : ℕ} {spot : Spot} {way : List Step} {v v' w w' : Opnd} → Goes ns s a spot way v w b t → Goes ms s' a' spot way v' w' d u →
      s ≡ s' → a ≡ a' → v ≡ v' → SameValue ns ms a b w t d w' u
  one_way arrived arrived es ea ev = record { ends = ea; value = ev; states = es; nodes = same_none _ _ refl }
  one_way (to_element T H G) (to_element T' H' G') es ea ev =
      let K = one_taken T T' es in
      let er = K.number in
      let Q = one_way G G' K.states (plus 1 ea) (ap register K.number) in
      record { ends = Q.ends; value = Q.value; states = Q.states; nodes = same_join (same_one H H' ea (cc)) Q.nodes }
  one_way (to_member M G) (to_member M' G') es ea ev =
      let R = one_moved M M' refl es ea ev in
      let Q = one_way G G' R.states R.ends R.value in
      record { ends = Q.ends; value = Q.value; states = Q.states; nodes = same_join R.nodes Q.nodes }

  one_reached : {s s' t u : State} {a a' b d : ℕ} {spot : Spot} {k : SlotNo} {way : List Step} {v w : Opnd} → Reaches ns s a spot k way v b t → Reaches ms s' a' spot k way w d u →
      s ≡ s' → a ≡ a' → SameValue ns ms a b v t d w u
  one_reached (reached T H G) (reached T' H' G') es ea =
      let K = one_taken T T' es in
      let er = K.number in
      let Q = one_way G G' K.states (plus 1 ea) (ap register K.number) in
      record { ends = Q.ends; value = Q.value; states = Q.states; nodes = same_join (same_one H H' ea (cc)) Q.nodes }

  one_text : {f : Typed} {s s' t u : State} {a a' b d n : ℕ} {spot : Spot} {k : SlotNo} {way : List Step} {e : CType} {zs zs' : List ℤ} →
      Letters f ns s a spot k way e n zs b t → Letters f ms s' a' spot k way e n zs' d u → s ≡ s' → a ≡ a' → zs ≡ zs' → SameRange ns ms a b t d u
  one_text no_more_letters no_more_letters es ea ez = record { ends = ea; states = es; nodes = same_none _ _ refl }
  one_text no_more_letters (one_more_letter A C H L) es ea ez = absurd cc
  one_text (one_more_letter A C H L) no_more_letters es ea ez = absurd cc
  one_text (one_more_letter {z = z} {rest = rest} A C H L) (one_more_letter {z = z'} {rest = rest'} A' C' H' L') es ea ez =
      let en : z ≡ z' = ap (first_or z) ez in
      let er : rest ≡ rest' = ap behind_first ez in
      let Q = one_reached A A' es ea in
      let R = one_converted C C' Q.states Q.ends (ap o.Num en) in
      let ev = Q.value in
      let ew = R.value in
      let S = one_text L L' R.states (plus 1 R.ends) er in
      record { ends = S.ends; states = S.states; nodes = same_join Q.nodes (same_join R.nodes (same_join (same_one H H' R.ends (cc)) S.nodes)) }

  one_fill : {a a' b d size : ℕ} {spot : Spot} {k : SlotNo} {z : Bool} → Fills ns a spot k size z b → Fills ms a' spot k size z d → a ≡ a' → SameRow ns ms a b d
  one_fill (filled H) (filled H') ea = record { ends = plus 1 ea; nodes = same_one H H' ea refl }
  one_fill not_filled not_filled ea = record { ends = ea; nodes = same_none _ _ refl }

given_as : {f : Typed} {sc : Scope} {ms : List Node} {s u : State} {a b : ℕ} {spot : Spot} {k : SlotNo} {way : List Step} {t : CType} {g g' : Given} {p : Place} →
    Gives f sc ms s a spot k way t g' p b u → g ≡ g' → Gives f sc ms s a spot k way t g p b u
given_as {f = f} {sc = sc} {ms = ms} {s = s} {u = u} {a = a} {b = b} {spot = spot} {k = k} {way = way} {t = t} {p = p} A e = subst (λ z. Gives f sc ms s a spot k way t z p b u) (sym e) A

operand_as : {f : Typed} {sc : Scope} {ms : List Node} {s u : State} {a b : ℕ} (m n : ℕ) {x y : Exp} (p : Place) {v : Opnd} → Operand f sc ms s a y (skip n p) v b u → x ≡ y → m ≡ n →
    Operand f sc ms s a x (skip m p) v b u
operand_as {f = f} {sc = sc} {ms = ms} {s = s} {u = u} {a = a} {b = b} m n {x = x} {y = y} p {v = v} A ex en =
    subst (λ z. Operand f sc ms s a z (skip m p) v b u) (sym ex) (subst (λ z. Operand f sc ms s a y (skip z p) v b u) (sym en) A)

module _ {f : Typed} {sc : Scope} {ns ms : List Node} where
  mutual
    one_gives : {s s' t u : State} {a a' b d : ℕ} {spot : Spot} {k : SlotNo} {way : List Step} {ct : CType} {g : Given} {p : Place} → Gives f sc ns s a spot k way ct g p b t →
        Gives f sc ms s' a' spot k way ct g p d u → s ≡ s' → a ≡ a' → SameRange ns ms a b t d u
    one_gives (one_value A B H) (one_value A' B' H') es ea =
        let Q = one_reached A A' es ea in
        let R = one_operand B B' Q.states Q.ends in
        let ev = Q.value in
        let ew = R.value in
        record { ends = plus 1 R.ends; states = R.states; nodes = same_join Q.nodes (same_join R.nodes (same_one H H' R.ends (cc))) }
    one_gives (a_text {count = count} q L) (a_text q' L') es ea = one_text L L' es ea (ap (characters_given count) (one_spelling q q'))
    one_gives (all_elements A) (all_elements A') es ea = one_elements A A' es ea
    one_gives (all_members A) (all_members A') es ea = one_members A A' es ea

    one_elements : {s s' t u : State} {a a' b d n : ℕ} {spot : Spot} {k : SlotNo} {way : List Step} {ct : CType} {xs : List Init} {p : Place} → Elements f sc ns s a spot k way ct n xs p b t →
        Elements f sc ms s' a' spot k way ct n xs p d u → s ≡ s' → a ≡ a' → SameRange ns ms a b t d u
    one_elements no_more_elements no_more_elements es ea = record { ends = ea; states = es; nodes = same_none _ _ refl }
    one_elements (one_more_element q A B) (one_more_element q' A' B') es ea =
        let Q = one_gives A (given_as A' (one_some q q')) es ea in
        let R = one_elements B B' Q.states Q.ends in
        record { ends = R.ends; states = R.states; nodes = same_join Q.nodes R.nodes }

    one_members : {s s' t u : State} {a a' b d : ℕ} {spot : Spot} {k : SlotNo} {way : List Step} {parts : List Part} {xs : List Init} {p : Place} → Members f sc ns s a spot k way parts xs p b t →
        Members f sc ms s' a' spot k way parts xs p d u → s ≡ s' → a ≡ a' → SameRange ns ms a b t d u
    one_members no_more_members no_more_members es ea = record { ends = ea; states = es; nodes = same_none _ _ refl }
    one_members (one_more_member q A B) (one_more_member q' A' B') es ea =
        let Q = one_gives A (given_as A' (one_some q q')) es ea in
        let R = one_members B B' Q.states Q.ends in
        record { ends = R.ends; states = R.states; nodes = same_join Q.nodes R.nodes }

  pub one_initialised : {s s' t u : State} {a a' b d : ℕ} {spot : Spot} {v : Var} {ct : CType} {x : Option Init} {p : Place} → Initialises f sc ns s a spot v ct x p b t →
      Initialises f sc ms s' a' spot v ct x p d u → s ≡ s' → a ≡ a' → SameRange ns ms a b t d u
  one_initialised not_initialised not_initialised es ea = record { ends = ea; states = es; nodes = same_none _ _ refl }
  one_initialised static_initialised static_initialised es ea = record { ends = ea; states = es; nodes = same_none _ _ refl }
  one_initialised (register_initialised {n = n} {p = p} {y = y} q A H) (register_initialised {n = n'} {y = y'} q' A' H') es ea =
      let e = one_some q q' in
      let Q = one_operand A (operand_as n n' p A' (ap (expression_in y) e) (ap braces_in e)) es ea in
      let ev = Q.value in
      record { ends = plus 1 Q.ends; states = Q.states; nodes = same_join Q.nodes (same_one H H' Q.ends (cc)) }
  one_initialised (slot_initialised F q A) (slot_initialised F' q' A') es ea =
      let E = one_fill F F' ea in
      let Q = one_gives A (given_as A' (one_some q q')) es E.ends in
      record { ends = Q.ends; states = Q.states; nodes = same_join E.nodes Q.nodes }
