-- An expression has one value and one row of nodes.
use Rattle.std.proofs.Common.{◌≡◌, ℕ, ◌+◌, List, [], ◌∷◌, ◌++◌, Option, Some, None, Bool, refl, sym, ap, ◌∙◌, subst, arith, length}
use Rattle.std.specs.Prelude.{ℤ, pos}
use Rattle.po_base.specs.declared.operand.Opnd.{Opnd}
use Rattle.po_base.specs.declared.operand.Opnd.TheVariants as o
use Rattle.po_base.specs.declared.numbers.RegNo.{RegNo}
use Rattle.po_base.specs.declared.numbers.SlotNo.{SlotNo}
use Rattle.po_base.specs.declared.numbers.GlobalNo.{GlobalNo}
use Rattle.po_base.specs.declared.operators.Op.{Op}
use Rattle.po_base.specs.declared.spot.Spot.{Spot}
use Rattle.po_ir.specs.declared.graph.Node.{Node}
use Rattle.po_tree.specs.declared.expression.Exp.{Exp}
use Rattle.po_tree.specs.declared.expression.Exp.TheOpen.{Exp-F}
use Rattle.po_lowering.specs.declared.var.Var.TheVariants as var
use Rattle.po_lowering.specs.Places.{Place}
use Rattle.po_lowering.specs.Typed.{Typed}
use Rattle.po_lowering.specs.Temporaries.{State, reg, register, saved_or}
use Rattle.po_lowering.specs.Naming.{Scope, Named, variable, enumerator, named, changes}
use Rattle.po_lowering.specs.Forms.{Layer, IsNotComparison}
use Rattle.po_lowering.specs.Expressions.{one_or_zero, Value, number, character, size_of_expression, size_of_type, constant_name, register_name, object, paren, call, void_call, plus, minus, complement, not_value, address_of, cast, void_cast, binary, and_value, or_value, choice, void_choice, set_register, set_object, update_register, update_object, pre_increment, pre_decrement, post_increment, post_decrement, comma, Operand, operand, Both, both, Arguments, no_more, one_more, Address, slot_address, global_address, literal_address, paren_address, element_address, pointed_address, member_address, pointed_member_address, Steps, step_register, step_object, Unused, unused_increment, unused_decrement, unused_paren, unused_comma, unused_value, Condition, and_then, or_else, swapped, in_parens, comparison, test}
use Rattle.po_lowering.specs.Same.{Same, SameRange, SameValue, SameCondition}
use Rattle.po_lowering.proofs.Same.{plus as more, same_none, same_join, same_one, same_last, one_taken, one_spelling, one_held, one_converted, one_read, one_moved, one_saved, one_row}
use Rattle.po_lists.proofs.Booleans.{not_both_truths}
use Rattle.po_lists.proofs.Options.{one_some}

-- what a name names is one thing
abbrev number_named : Named → ℤ
number_named (enumerator n) = n
number_named _ = pos 0

abbrev NamesObject : Named → Type 0
NamesObject (variable (var.Slot k)) = Unit {0}
NamesObject (variable (var.Global g)) = Unit {0}
NamesObject _ = ⊥

abbrev register_in : RegNo → Named → RegNo
register_in d (variable (var.Reg r)) = r
register_in d _ = d

abbrev slot_in : SlotNo → Named → SlotNo
slot_in d (variable (var.Slot r)) = r
slot_in d _ = d

abbrev global_in : GlobalNo → Named → GlobalNo
global_in d (variable (var.Global r)) = r
global_in d _ = d

abbrev IsSlotNamed : Named → Type 0
IsSlotNamed (variable (var.Slot k)) = Unit {0}
IsSlotNamed _ = ⊥

abbrev called : Layer → List ℕ
called (Exp-F.Var name) = name
called _ = []

designates : {f : Typed} {c : Scope} {ns : List Node} {s t : State} {a b : ℕ} {name : List ℕ} {p : Place} {v : Opnd} → Address f c ns s a (Exp-F.Var name) p v b t →
    NamesObject (named f c name p)
designates (slot_address h x k) = subst NamesObject (sym h) tt
designates (global_address h x k) = subst NamesObject (sym h) tt

nowhere : {A : Type 0} {z : Option A} {x : A} → z ≡ Some x → z ≡ None → ⊥
nowhere f g = absurd cc

-- the nodes of a value behind a condition
ones : {i i' r r' : ℕ} (spot : Spot) → i ≡ i' → r ≡ r' → one_or_zero i r spot ≡ one_or_zero i' r' spot
ones {i' = i'} {r = r} spot ei er = ap (λ z. one_or_zero z r spot) ei ∙ ap (λ z. one_or_zero i' z spot) er

-- one more literal
literals : (t t' s s' : State) {bytes bytes' : List ℕ} → t ≡ t' → s.texts ≡ s'.texts → bytes ≡ bytes' →
    (record t { texts = s.texts ++ bytes ∷ [] }) ≡ (record t' { texts = s'.texts ++ bytes' ∷ [] })
literals t t' s s' {bytes = bytes} et ex eb =
    ap (λ (z : State). record z { texts = s.texts ++ bytes ∷ [] }) et ∙ ap (λ z. record t' { texts = z ++ bytes ∷ [] }) ex ∙ ap (λ z. record t' { texts = s'.texts ++ z ∷ [] }) eb

-- the arguments of a call
pub record SameList (ns ms : List Node) (a b : ℕ) (vs : List Opnd) (t : State) (c : ℕ) (ws : List Opnd) (u : State) : Type 0 where
  pub ends : b ≡ c
  pub values : vs ≡ ws
  pub states : t ≡ u
  pub nodes : Same ns ms a b

pub record SamePair (ns ms : List Node) (a b : ℕ) (v w : Opnd) (t : State) (c : ℕ) (v' w' : Opnd) (u : State) : Type 0 where
  pub ends : b ≡ c
  pub first : v ≡ v'
  pub second : w ≡ w'
  pub states : t ≡ u
  pub nodes : Same ns ms a b

module _ {f : Typed} {c : Scope} {ns ms : List Node} where
  mutual
    pub one_value : {s s' t u : State} {a a' b d : ℕ} {x : Layer} {p : Place} {v w : Opnd} → Value f c ns s a x p v b t → Value f c ms s' a' x p w d u → s ≡ s' → a ≡ a' →
        SameValue ns ms a b v t d w u
    one_value (number h) (number h') es ea = record { ends = ea; value = ap o.Num (one_some h h'); states = es; nodes = same_none _ _ refl }
    one_value (character h) (character h') es ea = record { ends = ea; value = ap o.Num (one_some h h'); states = es; nodes = same_none _ _ refl }
    one_value (size_of_expression h) (size_of_expression h') es ea = record { ends = ea; value = ap o.Num (one_some h h'); states = es; nodes = same_none _ _ refl }
    one_value (size_of_type h) (size_of_type h') es ea = record { ends = ea; value = ap o.Num (one_some h h'); states = es; nodes = same_none _ _ refl }
    one_value (constant_name h) (constant_name h') es ea = record { ends = ea; value = ap (λ z. o.Num (number_named z)) (sym h ∙ h'); states = es; nodes = same_none _ _ refl }
    one_value (register_name {r = r} h) (register_name h') es ea = record { ends = ea; value = ap (λ z. o.Reg (register_in r z)) (sym h ∙ h'); states = es; nodes = same_none _ _ refl }
    one_value (object g A R) (object g' A' R') es ea =
        let Q = one_address A A' es ea in
        let S = one_read R R' Q.states Q.ends Q.value in
        record { ends = S.ends; value = S.value; states = S.states; nodes = same_join Q.nodes S.nodes }
    one_value (constant_name h) (register_name h') es ea = absurd cc
    one_value (register_name h) (constant_name h') es ea = absurd cc
    one_value (constant_name h) (object g A R) es ea = absurd (subst NamesObject h (designates A))
    one_value (register_name h) (object g A R) es ea = absurd (subst NamesObject h (designates A))
    one_value (object g A R) (constant_name h) es ea = absurd (subst NamesObject h (designates A))
    one_value (object g A R) (register_name h) es ea = absurd (subst NamesObject h (designates A))
    one_value (paren A) (paren A') es ea = one_value A A' es ea
    one_value (call q A h T H) (call q' A' h' T' H') es ea =
        let Q = one_arguments A A' es ea in
        let K = one_taken T T' Q.states in
        let en = ap called (sym q ∙ q') in
        let ev = Q.values in
        let er = K.number in
        record { ends = more 1 Q.ends; value = ap register K.number; states = K.states; nodes = same_join Q.nodes (same_one H H' Q.ends (cc)) }
    one_value (void_call q A h H) (void_call q' A' h' H') es ea =
        let Q = one_arguments A A' es ea in
        let en = ap called (sym q ∙ q') in
        let ev = Q.values in
        record { ends = more 1 Q.ends; value = refl; states = Q.states; nodes = same_join Q.nodes (same_one H H' Q.ends (cc)) }
    one_value (call q A h T H) (void_call q' A' h' H') es ea = absurd (not_both_truths h' h)
    one_value (void_call q A h H) (call q' A' h' T' H') es ea = absurd (not_both_truths h h')
    one_value (plus A) (plus A') es ea = one_operand A A' es ea
    one_value (minus A q T H) (minus A' q' T' H') es ea =
        let Q = one_operand A A' es ea in
        let K = one_taken T T' Q.states in
        let et = one_some q q' in
        let ev = Q.value in
        let er = K.number in
        record { ends = more 1 Q.ends; value = ap register K.number; states = K.states; nodes = same_join Q.nodes (same_one H H' Q.ends (cc)) }
    one_value (complement A q T H) (complement A' q' T' H') es ea =
        let Q = one_operand A A' es ea in
        let K = one_taken T T' Q.states in
        let et = one_some q q' in
        let ev = Q.value in
        let er = K.number in
        record { ends = more 1 Q.ends; value = ap register K.number; states = K.states; nodes = same_join Q.nodes (same_one H H' Q.ends (cc)) }
    one_value (not_value A T H) (not_value A' T' H') es ea =
        let Q = one_value A A' es ea in
        let K = one_taken T T' Q.states in
        let ev = Q.value in
        let er = K.number in
        record { ends = more 1 Q.ends; value = ap register K.number; states = K.states; nodes = same_join Q.nodes (same_one H H' Q.ends (cc)) }
    one_value (address_of A) (address_of A') es ea = one_address A A' es ea
    one_value (cast h A C) (cast h' A' C') es ea =
        let Q = one_value A A' es ea in
        let S = one_converted C C' Q.states Q.ends Q.value in
        record { ends = S.ends; value = S.value; states = S.states; nodes = same_join Q.nodes S.nodes }
    one_value (void_cast h A) (void_cast h' A') es ea =
        let Q = one_unused A A' es ea in
        record { ends = Q.ends; value = refl; states = Q.states; nodes = Q.nodes }
    one_value (cast h A C) (void_cast h' A') es ea = absurd (not_both_truths h' h)
    one_value (void_cast h A) (cast h' A' C') es ea = absurd (not_both_truths h h')
    one_value (binary A T H) (binary A' T' H') es ea =
        let Q = one_both A A' es ea in
        let K = one_taken T T' Q.states in
        let ev = Q.first in
        let ew = Q.second in
        let er = K.number in
        record { ends = more 1 Q.ends; value = ap register K.number; states = K.states; nodes = same_join Q.nodes (same_one H H' Q.ends (cc)) }
    one_value (and_value A T W) (and_value A' T' W') es ea =
        let Q = one_condition A A' es ea in
        let K = one_taken T T' Q.states in
        let R = one_row W W' Q.ends (ones _ Q.ends K.number) in
        record { ends = more 3 Q.ends; value = ap register K.number; states = K.states; nodes = same_join (Q.nodes Q.ends (more 2 Q.ends)) R.nodes }
    one_value (or_value A T W) (or_value A' T' W') es ea =
        let Q = one_condition A A' es ea in
        let K = one_taken T T' Q.states in
        let R = one_row W W' Q.ends (ones _ Q.ends K.number) in
        record { ends = more 3 Q.ends; value = ap register K.number; states = K.states; nodes = same_join (Q.nodes Q.ends (more 2 Q.ends)) R.nodes }
    one_value (choice {j = j} h A B T H I C L) (choice h' A' B' T' H' I' C' L') es ea =
        let Q = one_condition A A' es ea in
        let R = one_operand B B' Q.states Q.ends in
        let K = one_taken T T' R.states in
        let S = one_operand C C' K.states (more 2 R.ends) in
        let ev = R.value in
        let ew = S.value in
        let er = K.number in
        let ek = S.ends in
        record {
          ends = more 1 S.ends;
          value = ap register K.number;
          states = S.states;
          nodes = same_join (Q.nodes Q.ends (more 2 R.ends)) (same_join R.nodes (same_join (same_one H H' R.ends (cc))
              (same_join {b = j + 2} (same_last I I' (more 1 R.ends) (cc) (omega arith)) (same_join S.nodes (same_one L L' S.ends (cc))))));
        }
    one_value (void_choice h A B I C) (void_choice h' A' B' I' C') es ea =
        let Q = one_condition A A' es ea in
        let R = one_unused B B' Q.states Q.ends in
        let S = one_unused C C' R.states (more 1 R.ends) in
        let ek = S.ends in
        record {
          ends = S.ends;
          value = refl;
          states = S.states;
          nodes = same_join (Q.nodes Q.ends (more 1 R.ends)) (same_join R.nodes (same_join (same_one I I' R.ends (cc)) S.nodes));
        }
    one_value (choice h A B T H I C L) (void_choice h' A' B' I' C') es ea = absurd (not_both_truths h' h)
    one_value (void_choice h A B I C) (choice h' A' B' T' H' I' C' L') es ea = absurd (not_both_truths h h')
    one_value (set_register q A H) (set_register q' A' H') es ea =
        let Q = one_operand A A' es ea in
        let er = one_some q q' in
        let ev = Q.value in
        record { ends = more 1 Q.ends; value = ap register er; states = Q.states; nodes = same_join Q.nodes (same_one H H' Q.ends (cc)) }
    one_value (set_object {y = y} q A B C H) (set_object q' A' B' C' H') es ea =
        let Q = one_address A A' es ea in
        let R = one_held B B' Q.states Q.ends Q.value (ap (λ z. changes c z (y ∷ [])) Q.value) in
        let S = one_operand C C' R.states R.ends in
        let ew = R.value in
        let ez = S.value in
        record { ends = more 1 S.ends; value = S.value; states = S.states; nodes = same_join Q.nodes (same_join R.nodes (same_join S.nodes (same_one H H' S.ends (cc)))) }
    one_value (set_register q A H) (set_object q' A' B' C' H') es ea = absurd (nowhere q q')
    one_value (set_object q A B C H) (set_register q' A' H') es ea = absurd (nowhere q' q)
    one_value (update_register {y = y} q A B C T H D I) (update_register q' A' B' C' T' H' D' I') es ea =
        let er = one_some q q' in
        let Q = one_converted A A' es ea (ap register er) in
        let R = one_held B B' Q.states Q.ends Q.value (ap (λ z. changes c z (y ∷ [])) Q.value) in
        let S = one_operand C C' R.states R.ends in
        let K = one_taken T T' S.states in
        let M = one_converted D D' K.states (more 1 S.ends) (ap register K.number) in
        let ew = R.value in
        let ez = S.value in
        let em = K.number in
        let eu = M.value in
        record {
          ends = more 1 M.ends;
          value = ap register er;
          states = M.states;
          nodes = same_join Q.nodes (same_join R.nodes (same_join S.nodes (same_join (same_one H H' S.ends (cc)) (same_join M.nodes (same_one I I' M.ends (cc))))));
        }
    one_value (update_object {y = y} q A B T H D C U I E J) (update_object q' A' B' T' H' D' C' U' I' E' J') es ea =
        let Q = one_address A A' es ea in
        let R = one_held B B' Q.states Q.ends Q.value (ap (λ z. changes c z (y ∷ [])) Q.value) in
        let K = one_taken T T' R.states in
        let M = one_converted D D' K.states (more 1 R.ends) (ap register K.number) in
        let S = one_operand C C' M.states M.ends in
        let L = one_taken U U' S.states in
        let N = one_converted E E' L.states (more 1 S.ends) (ap register L.number) in
        let eh = R.value in
        let eq = K.number in
        let ev = M.value in
        let ez = S.value in
        let em = L.number in
        let eu = N.value in
        record {
          ends = more 1 N.ends;
          value = N.value;
          states = N.states;
          nodes = same_join Q.nodes (same_join R.nodes (same_join (same_one H H' R.ends (cc)) (same_join M.nodes (same_join S.nodes
              (same_join (same_one I I' S.ends (cc)) (same_join N.nodes (same_one J J' N.ends (cc))))))));
        }
    one_value (update_register q A B C T H D I) (update_object q' A' B' T' H' D' C' U' I' E' J') es ea = absurd (nowhere q q')
    one_value (update_object q A B T H D C U I E J) (update_register q' A' B' C' T' H' D' I') es ea = absurd (nowhere q' q)
    one_value (pre_increment A) (pre_increment A') es ea = one_steps A A' es ea
    one_value (pre_decrement A) (pre_decrement A') es ea = one_steps A A' es ea
    one_value (post_increment A) (post_increment A') es ea = one_steps A A' es ea
    one_value (post_decrement A) (post_decrement A') es ea = one_steps A A' es ea
    one_value (comma A B) (comma A' B') es ea =
        let Q = one_unused A A' es ea in
        let R = one_operand B B' Q.states Q.ends in
        record { ends = R.ends; value = R.value; states = R.states; nodes = same_join Q.nodes R.nodes }
    one_value (object g A R) d es ea = absurd g
    one_value d (object g A R) es ea = absurd g

    pub one_operand : {s s' t u : State} {a a' b d : ℕ} {x : Exp} {p : Place} {v w : Opnd} → Operand f c ns s a x p v b t → Operand f c ms s' a' x p w d u → s ≡ s' → a ≡ a' →
        SameValue ns ms a b v t d w u
    one_operand (operand A C) (operand A' C') es ea =
        let Q = one_value A A' es ea in
        let S = one_converted C C' Q.states Q.ends Q.value in
        record { ends = S.ends; value = S.value; states = S.states; nodes = same_join Q.nodes S.nodes }

    pub one_both : {s s' t u : State} {a a' b d : ℕ} {x y : Exp} {p : Place} {v w v' w' : Opnd} → Both f c ns s a x y p v w b t → Both f c ms s' a' x y p v' w' d u → s ≡ s' → a ≡ a' →
        SamePair ns ms a b v w t d v' w' u
    one_both (both {y = y} A B C) (both A' B' C') es ea =
        let Q = one_operand A A' es ea in
        let R = one_held B B' Q.states Q.ends Q.value (ap (λ z. changes c z (y ∷ [])) Q.value) in
        let S = one_operand C C' R.states R.ends in
        record { ends = S.ends; first = R.value; second = S.value; states = S.states; nodes = same_join Q.nodes (same_join R.nodes S.nodes) }

    pub one_arguments : {s s' t u : State} {a a' b d : ℕ} {xs : List Exp} {p : Place} {vs ws : List Opnd} → Arguments f c ns s a xs p vs b t → Arguments f c ms s' a' xs p ws d u →
        s ≡ s' → a ≡ a' → SameList ns ms a b vs t d ws u
    one_arguments no_more no_more es ea = record { ends = ea; values = refl; states = es; nodes = same_none _ _ refl }
    one_arguments (one_more {xs = xs} A B C) (one_more A' B' C') es ea =
        let Q = one_operand A A' es ea in
        let R = one_held B B' Q.states Q.ends Q.value (ap (λ z. changes c z xs) Q.value) in
        let S = one_arguments C C' R.states R.ends in
        let ev = R.value in
        let evs = S.values in
        record { ends = S.ends; values = cc; states = S.states; nodes = same_join Q.nodes (same_join R.nodes S.nodes) }

    pub one_address : {s s' t u : State} {a a' b d : ℕ} {x : Layer} {p : Place} {v w : Opnd} → Address f c ns s a x p v b t → Address f c ms s' a' x p w d u → s ≡ s' → a ≡ a' →
        SameValue ns ms a b v t d w u
    one_address (slot_address {k = k} h T H) (slot_address h' T' H') es ea =
        let K = one_taken T T' es in
        let er = K.number in
        let ek = ap (slot_in k) (sym h ∙ h') in
        record { ends = more 1 ea; value = ap register K.number; states = K.states; nodes = same_one H H' ea (cc) }
    one_address (global_address {g = g} h T H) (global_address h' T' H') es ea =
        let K = one_taken T T' es in
        let er = K.number in
        let ek = ap (global_in g) (sym h ∙ h') in
        record { ends = more 1 ea; value = ap register K.number; states = K.states; nodes = same_one H H' ea (cc) }
    one_address (slot_address h T H) (global_address h' T' H') es ea = absurd (subst IsSlotNamed (sym h ∙ h') tt)
    one_address (global_address h T H) (slot_address h' T' H') es ea = absurd (subst IsSlotNamed (sym h' ∙ h) tt)
    one_address (literal_address {s = s} {t = t} q T H) (literal_address {s = s'} {t = t'} q' T' H') es ea =
        let K = one_taken T T' es in
        let er = K.number in
        let et = K.states in
        let eb = one_spelling q q' in
        let ex : s.texts ≡ s'.texts = ap (λ (z : State). z.texts) es in
        let el : f.texts + length s.texts ≡ f.texts + length s'.texts = ap (λ z. f.texts + length z) ex in
        record { ends = more 1 ea; value = ap register K.number; states = literals t t' s s' et ex eb; nodes = same_one H H' ea (cc) }
    one_address (paren_address A) (paren_address A') es ea = one_address A A' es ea
    one_address (element_address A T H) (element_address A' T' H') es ea =
        let Q = one_both A A' es ea in
        let K = one_taken T T' Q.states in
        let ev = Q.first in
        let ew = Q.second in
        let er = K.number in
        record { ends = more 1 Q.ends; value = ap register K.number; states = K.states; nodes = same_join Q.nodes (same_one H H' Q.ends (cc)) }
    one_address (pointed_address A) (pointed_address A') es ea = one_operand A A' es ea
    one_address (member_address A M) (member_address A' M') es ea =
        let Q = one_value A A' es ea in
        let R = one_moved M M' refl Q.states Q.ends Q.value in
        record { ends = R.ends; value = R.value; states = R.states; nodes = same_join Q.nodes R.nodes }
    one_address (pointed_member_address A M) (pointed_member_address A' M') es ea =
        let Q = one_operand A A' es ea in
        let R = one_moved M M' refl Q.states Q.ends Q.value in
        record { ends = R.ends; value = R.value; states = R.states; nodes = same_join Q.nodes R.nodes }

    pub one_steps : {s s' t u : State} {a a' b d : ℕ} {x : Exp} {p h : Place} {operator : Op} {old : Bool} {v w : Opnd} →
        Steps f c ns s a x p h operator old v b t → Steps f c ms s' a' x p h operator old w d u → s ≡ s' → a ≡ a' → SameValue ns ms a b v t d w u
    one_steps (step_register {r = r} q A T H D I) (step_register {v = v'} q' A' T' H' D' I') es ea =
        let er = one_some q q' in
        let Q = one_saved A A' es ea (ap reg er) in
        let K = one_taken T T' Q.states in
        let M = one_converted D D' K.states (more 1 Q.ends) (ap register K.number) in
        let em = K.number in
        let eu = M.value in
        record {
          ends = more 1 M.ends;
          value = ap (λ z. saved_or z (register r)) Q.value ∙ ap (λ z. saved_or v' (register z)) er;
          states = M.states;
          nodes = same_join Q.nodes (same_join (same_one H H' Q.ends (cc)) (same_join M.nodes (same_one I I' M.ends (cc))));
        }
    one_steps (step_object {u = u} q A T H B U I D J) (step_object {v = v'} q' A' T' H' B' U' I' D' J') es ea =
        let Q = one_address A A' es ea in
        let K = one_taken T T' Q.states in
        let S = one_saved B B' K.states (more 1 Q.ends) (ap reg K.number) in
        let L = one_taken U U' S.states in
        let M = one_converted D D' L.states (more 1 S.ends) (ap register L.number) in
        let ed = Q.value in
        let eq = K.number in
        let em = L.number in
        let eu = M.value in
        record {
          ends = more 1 M.ends;
          value = ap (λ z. saved_or z u) S.value ∙ ap (λ z. saved_or v' z) eu;
          states = M.states;
          nodes = same_join Q.nodes (same_join (same_one H H' Q.ends (cc)) (same_join S.nodes (same_join (same_one I I' S.ends (cc)) (same_join M.nodes (same_one J J' M.ends (cc))))));
        }
    one_steps (step_register q A T H D I) (step_object q' A' T' H' B' U' I' D' J') es ea = absurd (nowhere q q')
    one_steps (step_object q A T H B U I D J) (step_register q' A' T' H' D' I') es ea = absurd (nowhere q' q)

    pub one_unused : {s s' t u : State} {a a' b d : ℕ} {x : Layer} {p : Place} → Unused f c ns s a x p b t → Unused f c ms s' a' x p d u → s ≡ s' → a ≡ a' →
        SameRange ns ms a b t d u
    one_unused (unused_increment A) (unused_increment A') es ea = let Q = one_steps A A' es ea in record { ends = Q.ends; states = Q.states; nodes = Q.nodes }
    one_unused (unused_decrement A) (unused_decrement A') es ea = let Q = one_steps A A' es ea in record { ends = Q.ends; states = Q.states; nodes = Q.nodes }
    one_unused (unused_paren A) (unused_paren A') es ea = one_unused A A' es ea
    one_unused (unused_comma A B) (unused_comma A' B') es ea =
        let Q = one_unused A A' es ea in
        let R = one_unused B B' Q.states Q.ends in
        record { ends = R.ends; states = R.states; nodes = same_join Q.nodes R.nodes }
    one_unused (unused_value g A) (unused_value g' A') es ea = let Q = one_value A A' es ea in record { ends = Q.ends; states = Q.states; nodes = Q.nodes }
    one_unused (unused_value g A) d es ea = absurd g
    one_unused d (unused_value g A) es ea = absurd g

    pub one_condition : {s s' t u : State} {a a' hit hit' miss miss' b d : ℕ} {x : Layer} {p : Place} → Condition f c ns s a x p hit miss b t → Condition f c ms s' a' x p hit' miss' d u →
        s ≡ s' → a ≡ a' → SameCondition ns ms a hit miss b t hit' miss' d u
    one_condition (and_then A B) (and_then A' B') es ea =
        let Q = one_condition A A' es ea in
        let R = one_condition B B' Q.states Q.ends in
        record { ends = R.ends; states = R.states; nodes = λ eh em. same_join (Q.nodes Q.ends em) (R.nodes eh em) }
    one_condition (or_else A B) (or_else A' B') es ea =
        let Q = one_condition A A' es ea in
        let R = one_condition B B' Q.states Q.ends in
        record { ends = R.ends; states = R.states; nodes = λ eh em. same_join (Q.nodes eh Q.ends) (R.nodes eh em) }
    one_condition (swapped A) (swapped A') es ea =
        let Q = one_condition A A' es ea in
        record { ends = Q.ends; states = Q.states; nodes = λ eh em. Q.nodes em eh }
    one_condition (in_parens A) (in_parens A') es ea =
        let Q = one_condition A A' es ea in
        record { ends = Q.ends; states = Q.states; nodes = Q.nodes }
    one_condition (comparison q A H) (comparison q' A' H') es ea =
        let Q = one_both A A' es ea in
        let ev = Q.first in
        let ew = Q.second in
        record { ends = more 1 Q.ends; states = Q.states; nodes = λ eh em. same_join Q.nodes (same_one H H' Q.ends (cc)) }
    one_condition (test g A H) (test g' A' H') es ea =
        let Q = one_value A A' es ea in
        let ev = Q.value in
        record { ends = more 1 Q.ends; states = Q.states; nodes = λ eh em. same_join Q.nodes (same_one H H' Q.ends (cc)) }
    one_condition (comparison q A H) (test g' A' H') es ea = absurd (subst IsNotComparison q g')
    one_condition (test g A H) (comparison q' A' H') es ea = absurd (subst IsNotComparison q' g)
    one_condition (test g A H) d es ea = absurd g
    one_condition d (test g A H) es ea = absurd g
