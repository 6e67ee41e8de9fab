-- A statement has one row of nodes.
use Rattle.std.proofs.Common.{◌≡◌, ℕ, ◌+◌, List, [], ◌∷◌, ◌++◌, map, Option, Some, Bool, true, false, refl, sym, ap, ◌∙◌, subst, arith, length}
use Rattle.std.specs.Prelude.{ℤ, slice_get}
use Rattle.po_base.specs.declared.operand.Opnd.{Opnd}
use Rattle.po_base.specs.declared.spot.Spot.{Spot}
use Rattle.po_arith.specs.Types.{IsWrapped}
use Rattle.po_arith.proofs.Wrapped.{one_wrapped}
use Rattle.po_ir.specs.declared.instr.Ty.{Ty}
use Rattle.po_ir.specs.declared.instr.Instr.TheVariants as ins
use Rattle.po_ir.specs.declared.graph.Node.{Node}
use Rattle.po_tree.specs.declared.expression.Exp.{Exp}
use Rattle.po_tree.specs.declared.expression.Declarator.{Declarator}
use Rattle.po_tree.specs.declared.declaration.Init.{Init}
use Rattle.po_tree.specs.declared.declaration.Decl.{Decl}
use Rattle.po_tree.specs.declared.statement.First.{First}
use Rattle.po_tree.specs.declared.statement.First.TheVariants as fi
use Rattle.po_tree.specs.declared.statement.Stmt.{Stmt}
use Rattle.po_tree.specs.declared.statement.Stmt.TheOpen.{Stmt-F}
use Rattle.po_types.specs.declared.ctype.CType.{CType}
use Rattle.po_lowering.specs.declared.var.Var.{Var}
use Rattle.po_lowering.specs.Places.{Place, skip, behind_specs, behind_all}
use Rattle.po_lowering.specs.Typed.{Typed, Declared, type_of, spot_at}
use Rattle.po_lowering.specs.Temporaries.{State, Row, ends, follows, fresh, to}
use Rattle.po_lowering.specs.Conversions.{tested}
use Rattle.po_lowering.specs.Naming.{Scope}
use Rattle.po_lowering.specs.Storage.{kept_as, text_of_name}
use Rattle.po_lowering.specs.Completion.{completes, all_complete, first_of_name, cases_in, sum_of}
use Rattle.po_lowering.specs.Blocks.{decl_at, items_at, enters, slots_of, leaves, leaves_where, slots_left, case_tests, default_or, jump_where}
use Rattle.po_lowering.specs.Initialisers.{Initialises}
use Rattle.po_lowering.specs.Statements.{Around, inside, looping, switching, no_cases, cases_of, one_more_declared, with_label, with_case, with_default, Declares, no_more_parts, one_more_part, Maybe, missing, there, Test, always, tests, Begins, begins_at_once, begins_with, IsNoBlock, Runs, block, expression, empty, if_alone, if_else, while, do_while, for_plain, for_declaring, switch_block, switch_other, case, default, label, goto, break, continue, return_nothing, return_value, Items, no_more_items, statement, declaration}
use Rattle.po_lowering.specs.Same.{Same, SameRange, SameCondition}
use Rattle.po_lowering.proofs.Same.{plus, some_or, same_none, same_join, same_one, one_row}
use Rattle.po_lowering.proofs.UniqueExpressions.{one_value, one_operand, one_unused, one_condition}
use Rattle.po_lowering.proofs.UniqueInitialisers.{one_initialised}
use Rattle.po_lists.proofs.Options.{one_some}

-- where rows end, by their lengths
row_end : {ns : List Node} {a b : ℕ} {xs : List Node} → Row ns a xs b → b ≡ a + length xs
row_end (ends a) = omega arith
row_end (follows a b x xs h r) = let e = row_end r in omega (arith, e)

row_ends : {ns ms : List Node} {a a' b d : ℕ} {xs ys : List Node} → Row ns a xs b → Row ms a' ys d → a ≡ a' → length xs ≡ length ys → b ≡ d
row_ends f g ea el = let e = row_end f in let h = row_end g in omega (arith, e, h, ea, el)

jump_length : (c : Bool) (m n : ℕ) (spot : Spot) → length (jump_where c m spot) ≡ length (jump_where c n spot)
jump_length true m n spot = refl
jump_length false m n spot = refl

tests_length : (a : ℕ) (ty : Ty) (v : Opnd) (spot : Spot) (cs : List (ℤ × ℕ)) → length (case_tests a ty v spot cs) ≡ length cs
tests_length a ty v spot [] = refl
tests_length a ty v spot ((n, m) ∷ cs) = let e = tests_length (a + 1) ty v spot cs in omega (arith, e)

-- two surroundings whose blocks are the same
pub record Alike (l m : Around) : Type 0 where
  pub exit_blocks : l.exit_blocks ≡ m.exit_blocks
  pub next_blocks : l.next_blocks ≡ m.next_blocks
  pub blocks : l.blocks ≡ m.blocks

-- the same ends, and the same nodes where break, continue and goto go to the same nodes
pub record SameRun (ns ms : List Node) (l m : Around) (a b : ℕ) (t : State) (c : ℕ) (u : State) : Type 0 where
  pub ends : b ≡ c
  pub states : t ≡ u
  pub nodes : l.exit ≡ m.exit → l.next ≡ m.next → l.labels ≡ m.labels → Same ns ms a b

pub record SameDeclared (ns ms : List Node) (sc sc' : Scope) (a b : ℕ) (t : State) (c : ℕ) (u : State) : Type 0 where
  pub scopes : sc ≡ sc'
  pub ends : b ≡ c
  pub states : t ≡ u
  pub nodes : Same ns ms a b

pairs : {A B : Type 0} {x x' : A} {y y' : B} (C : Type 0) (g : A → B → C) → x ≡ x' → y ≡ y' → g x y ≡ g x' y'
pairs {x' = x'} {y = y} C g ex ey = ap (λ z. g z y) ex ∙ ap (g x') ey

looping_alike : {l m : Around} (x x' n n' : ℕ) → Alike l m → Alike (looping x (length l.blocks) n l) (looping x' (length m.blocks) n' m)
looping_alike x x' n n' k = record { exit_blocks = ap length k.blocks; next_blocks = ap length k.blocks; blocks = k.blocks }

inside_alike : {l m : Around} {xs ys : List ℕ} → xs ≡ ys → Alike l m → Alike (inside xs l) (inside ys m)
inside_alike e k = record { exit_blocks = k.exit_blocks; next_blocks = k.next_blocks; blocks = pairs _ (λ x y. x ∷ y) e k.blocks }

switching_alike : {l m : Around} (x x' : ℕ) → Alike l m → Alike (switching x l) (switching x' m)
switching_alike x x' k = record { exit_blocks = ap length k.blocks; next_blocks = k.next_blocks; blocks = k.blocks }

-- a loop that is a block of its own
around_alike : {l m : Around} {xs ys : List ℕ} (x x' n n' : ℕ) → xs ≡ ys → Alike l m →
    Alike (looping x (length l.blocks) n (inside xs l)) (looping x' (length m.blocks) n' (inside ys m))
around_alike {l = l} {m = m} {xs = xs} {ys = ys} x x' n n' e k =
    let eb : xs ∷ l.blocks ≡ ys ∷ m.blocks = pairs _ (λ x y. x ∷ y) e k.blocks in
    record { exit_blocks = ap length k.blocks; next_blocks = ap length eb; blocks = eb }

owns : {s s' : State} {p q : Place} {xs ys : List Stmt} → s ≡ s' → p ≡ q → xs ≡ ys → items_at s.declared p xs ≡ items_at s'.declared q ys
owns {s' = s'} {p = p} {q = q} {xs = xs} es ep ex =
    ap (λ (z : State). items_at z.declared p xs) es ∙ ap (λ z. items_at s'.declared z xs) ep ∙ ap (items_at s'.declared q) ex

abbrev block_in : List Stmt → Stmt-F Stmt → List Stmt
block_in d (Stmt-F.Block xs) = xs
block_in d _ = d

abbrev decl_in : Decl → Stmt-F Stmt → Decl
decl_in d (Stmt-F.Declare e) = e
decl_in d _ = d

abbrev IsNoDeclaration : Stmt-F Stmt → Type 0
IsNoDeclaration (Stmt-F.Declare d) = ⊥
IsNoDeclaration _ = Unit {0}

runs_no_declaration : {f : Typed} {ns : List Node} {l : Around} {sc : Scope} {s t : State} {a b : ℕ} {x : Stmt-F Stmt} {p : Place} → Runs f ns l sc s a x p b t → IsNoDeclaration x
runs_no_declaration empty = tt
runs_no_declaration d = tt

abbrev IsNoDecl : First → Type 0
IsNoDecl (fi.Variables d) = ⊥
IsNoDecl _ = Unit {0}

begins_other : {f : Typed} {sc : Scope} {ns : List Node} {s t : State} {a b : ℕ} {x : First} {p : Place} → Begins f sc ns s a x p b t → IsNoDecl x
begins_other begins_at_once = tt
begins_other (begins_with A) = tt

begins_no_declaration : {f : Typed} {sc : Scope} {ns : List Node} {s t : State} {a b : ℕ} {d : Decl} {p : Place} → Begins f sc ns s a (fi.Variables d) p b t → ⊥
begins_no_declaration h = begins_other h

module _ {f : Typed} {ms : List Node} where
  initialised_as : {sc sc' : Scope} {s u : State} {a b : ℕ} {spot : Spot} {v v' : Var} {ct ct' : CType} {x : Option Init} {p : Place} → Initialises f sc' ms s a spot v' ct' x p b u →
      sc ≡ sc' → v ≡ v' → ct ≡ ct' → Initialises f sc ms s a spot v ct x p b u
  initialised_as {sc = sc} {sc' = sc'} {s = s} {u = u} {a = a} {b = b} {spot = spot} {v = v} {v' = v'} {ct = ct} {ct' = ct'} {x = x} {p = p} A ec ev et =
      subst (λ z. Initialises f z ms s a spot v ct x p b u) (sym ec) (subst (λ z. Initialises f sc' ms s a spot z ct x p b u) (sym ev) (subst (λ z. Initialises f sc' ms s a spot v' z x p b u) (sym et) A))

  test_in : {sc sc' : Scope} {s u : State} {a b hit miss : ℕ} {x : Option Exp} {p : Place} → Test f sc' ms s a x p hit miss b u → sc ≡ sc' → Test f sc ms s a x p hit miss b u
  test_in {s = s} {u = u} {a = a} {b = b} {hit = hit} {miss = miss} {x = x} {p = p} A e = subst (λ z. Test f z ms s a x p hit miss b u) (sym e) A

  maybe_in : {sc sc' : Scope} {s u : State} {a b : ℕ} {x : Option Exp} {p : Place} → Maybe f sc' ms s a x p b u → sc ≡ sc' → Maybe f sc ms s a x p b u
  maybe_in {s = s} {u = u} {a = a} {b = b} {x = x} {p = p} A e = subst (λ z. Maybe f z ms s a x p b u) (sym e) A

  runs_in : {l : Around} {sc sc' : Scope} {s u : State} {a b : ℕ} {x : Stmt-F Stmt} {p : Place} → Runs f ms l sc' s a x p b u → sc ≡ sc' → Runs f ms l sc s a x p b u
  runs_in {l = l} {s = s} {u = u} {a = a} {b = b} {x = x} {p = p} A e = subst (λ z. Runs f ms l z s a x p b u) (sym e) A

  items_in : {l : Around} {sc sc' : Scope} {s u : State} {a b : ℕ} {xs : List Stmt} {p : Place} → Items f ms l sc' s a xs p b u → sc ≡ sc' → Items f ms l sc s a xs p b u
  items_in {l = l} {s = s} {u = u} {a = a} {b = b} {xs = xs} {p = p} A e = subst (λ z. Items f ms l z s a xs p b u) (sym e) A

  items_as : {l : Around} {sc : Scope} {s u : State} {a b : ℕ} {xs ys : List Stmt} {p q : Place} → Items f ms l sc s a ys q b u → xs ≡ ys → p ≡ q → Items f ms l sc s a xs p b u
  items_as {l = l} {sc = sc} {s = s} {u = u} {a = a} {b = b} {xs = xs} {ys = ys} {p = p} {q = q} A ex ep =
      subst (λ z. Items f ms l sc s a z p b u) (sym ex) (subst (λ z. Items f ms l sc s a ys z b u) (sym ep) A)

  declares_as : {sc sc' : Scope} {s u : State} {a b : ℕ} {d e : Decl} (p : Place) → Declares f ms sc s a e.parts (behind_specs e.specs p) sc' b u → d ≡ e →
      Declares f ms sc s a d.parts (behind_specs d.specs p) sc' b u
  declares_as {sc = sc} {sc' = sc'} {s = s} {u = u} {a = a} {b = b} p A q = subst (λ (z : Decl). Declares f ms sc s a z.parts (behind_specs z.specs p) sc' b u) (sym q) A

module _ {f : Typed} {ns ms : List Node} where
  one_declared : {sc sc' scb scd : Scope} {s s' t u : State} {a a' b d : ℕ} {parts : List (Declarator × Option Init)} {p : Place} → Declares f ns sc s a parts p scb b t →
      Declares f ms sc' s' a' parts p scd d u → sc ≡ sc' → s ≡ s' → a ≡ a' → SameDeclared ns ms scb scd a b t d u
  one_declared no_more_parts no_more_parts ec es ea = record { scopes = ec; ends = ea; states = es; nodes = same_none _ _ refl }
  one_declared (one_more_part {sc = sc} {d = d} {v = v} {declared = e} h i A B) (one_more_part {sc = sc'} {v = v'} {declared = e'} h' i' A' B') ec es ea =
      let ev : v ≡ v' = ap (some_or v) (sym h ∙ ap (λ (z : State). kept_as f z.declared) es ∙ h') in
      let ed : e ≡ e' = ap (some_or e) (sym i ∙ ap (λ (z : State). slice_get f.variables z.declared) es ∙ i') in
      let en : sc ++ (text_of_name d.name, v) ∷ [] ≡ sc' ++ (text_of_name d.name, v') ∷ [] = pairs _ (λ x y. x ++ (text_of_name d.name, y) ∷ []) ec ev in
      let Q = one_initialised A (initialised_as A' en ev (ap (λ (z : Declared). z.type) ed)) (ap fresh es) ea in
      let R = one_declared B B' en (ap one_more_declared Q.states) Q.ends in
      record { scopes = R.scopes; ends = R.ends; states = R.states; nodes = same_join Q.nodes R.nodes }

  one_maybe : {sc : Scope} {s s' t u : State} {a a' b d : ℕ} {x : Option Exp} {p : Place} → Maybe f sc ns s a x p b t → Maybe f sc ms s' a' x p d u → s ≡ s' → a ≡ a' → SameRange ns ms a b t d u
  one_maybe missing missing es ea = record { ends = ea; states = es; nodes = same_none _ _ refl }
  one_maybe (there A) (there A') es ea = one_unused A A' (ap fresh es) ea

  one_begin : {sc : Scope} {s s' t u : State} {a a' b d : ℕ} {x : First} {p : Place} → Begins f sc ns s a x p b t → Begins f sc ms s' a' x p d u → s ≡ s' → a ≡ a' → SameRange ns ms a b t d u
  one_begin begins_at_once begins_at_once es ea = record { ends = ea; states = es; nodes = same_none _ _ refl }
  one_begin (begins_with A) (begins_with A') es ea = one_unused A A' (ap fresh es) ea

  one_test : {sc : Scope} {s s' t u : State} {a a' hit hit' miss miss' b d : ℕ} {x : Option Exp} {p : Place} → Test f sc ns s a x p hit miss b t → Test f sc ms s' a' x p hit' miss' d u →
      s ≡ s' → a ≡ a' → SameCondition ns ms a hit miss b t hit' miss' d u
  one_test always always es ea = record { ends = ea; states = es; nodes = λ eh em. same_none _ _ refl }
  one_test (tests A) (tests A') es ea = one_condition A A' (ap fresh es) ea

  mutual
    pub one_run : {l m : Around} {sc : Scope} {s s' t u : State} {a a' b d : ℕ} {x : Stmt-F Stmt} {p : Place} → Runs f ns l sc s a x p b t → Runs f ms m sc s' a' x p d u → Alike l m →
        s ≡ s' → a ≡ a' → SameRun ns ms l m a b t d u
    one_run (block {s = s} {xs = xs} {p = p} W I L) (block {s = s'} W' I' L') k es ea =
        let eo = owns {s = s} {s' = s'} {p = skip 1 p} {q = skip 1 p} {xs = xs} {ys = xs} es refl refl in
        let eslots = ap (slots_of f) eo in
        let Q = one_row W W' ea (ap (enters f) eo) in
        let R = one_items I I' (inside_alike eslots k) es Q.ends in
        let S = one_row L L' R.ends (ap (leaves_where (all_complete xs) (spot_at f (behind_all xs (skip 1 p)))) eslots) in
        record { ends = S.ends; states = R.states; nodes = λ ex en el. same_join Q.nodes (same_join (R.nodes ex en el) S.nodes) }
    one_run (expression A) (expression A') k es ea = let Q = one_unused A A' (ap fresh es) ea in record { ends = Q.ends; states = Q.states; nodes = λ ex en el. Q.nodes }
    one_run empty empty k es ea = record { ends = ea; states = es; nodes = λ ex en el. same_none _ _ refl }
    one_run (if_alone C A) (if_alone C' A') k es ea =
        let Q = one_condition C C' (ap fresh es) ea in
        let R = one_run A A' k Q.states Q.ends in
        record { ends = R.ends; states = R.states; nodes = λ ex en el. same_join (Q.nodes Q.ends R.ends) (R.nodes ex en el) }
    one_run (if_else {b = b} {y = y} {p = p} C A W B) (if_else {b = b'} C' A' W' B') k es ea =
        let Q = one_condition C C' (ap fresh es) ea in
        let R = one_run A A' k Q.states Q.ends in
        let ek = row_ends W W' R.ends (jump_length (completes y) b b' (spot_at f p)) in
        let S = one_run B B' k R.states ek in
        let J = one_row W W' R.ends (ap (λ z. jump_where (completes y) z (spot_at f p)) S.ends) in
        record { ends = S.ends; states = S.states; nodes = λ ex en el. same_join (Q.nodes Q.ends ek) (same_join (R.nodes ex en el) (same_join J.nodes (S.nodes ex en el))) }
    one_run (while {a = a} {j = j} C A H) (while {a = a'} {j = j'} C' A' H') k es ea =
        let Q = one_condition C C' (ap fresh es) ea in
        let R = one_run A A' (looping_alike (j + 1) (j' + 1) a a' k) Q.states Q.ends in
        record {
          ends = plus 1 R.ends;
          states = R.states;
          nodes = λ ex en el. same_join (Q.nodes Q.ends (plus 1 R.ends)) (same_join (R.nodes (plus 1 R.ends) ea el) (same_one H H' R.ends (ap (λ z. ins.Jump (to z)) ea)));
        }
    one_run (do_while {i = i} {b = b} A C) (do_while {i = i'} {b = b'} A' C') k es ea =
        let R = one_run A A' (looping_alike b b' i i' k) es ea in
        let Q = one_condition C C' (ap fresh R.states) R.ends in
        record { ends = Q.ends; states = Q.states; nodes = λ ex en el. same_join (R.nodes Q.ends R.ends el) (Q.nodes ea Q.ends) }
    one_run (for_plain {k = n} {m = m} G T A M H) (for_plain {k = n'} {m = m'} G' T' A' M' H') k es ea =
        let B = one_begin G G' es ea in
        let Q = one_test T T' B.states B.ends in
        let R = one_run A A' (looping_alike (m + 1) (m' + 1) n n' k) Q.states Q.ends in
        let S = one_maybe M M' R.states R.ends in
        record {
          ends = plus 1 S.ends;
          states = S.states;
          nodes = λ ex en el. same_join B.nodes (same_join (Q.nodes Q.ends (plus 1 S.ends)) (same_join (R.nodes (plus 1 S.ends) R.ends el)
              (same_join S.nodes (same_one H H' S.ends (ap (λ z. ins.Jump (to z)) B.ends)))));
        }
    one_run (for_declaring {s = s} {k = n} {b = b} {d = d} {p = p} W D T A M H L) (for_declaring {s = s'} {k = n'} {b = b'} W' D' T' A' M' H' L') k es ea =
        let eo = ap (λ (z : State). decl_at z.declared (skip 2 p) d) es in
        let eslots = ap (slots_of f) eo in
        let E = one_row W W' ea (ap (enters f) eo) in
        let B = one_declared D D' refl es E.ends in
        let Q = one_test T (test_in T' B.scopes) B.states B.ends in
        let R = one_run A (runs_in A' B.scopes) (around_alike b b' n n' eslots k) Q.states Q.ends in
        let S = one_maybe M (maybe_in M' B.scopes) R.states R.ends in
        let V = one_row L L' (plus 1 S.ends) (ap (leaves (spot_at f p)) eslots) in
        record {
          ends = V.ends;
          states = S.states;
          nodes = λ ex en el. same_join E.nodes (same_join B.nodes (same_join (Q.nodes Q.ends (plus 1 S.ends)) (same_join (R.nodes V.ends R.ends el)
              (same_join S.nodes (same_join (same_one H H' S.ends (ap (λ z. ins.Jump (to z)) B.ends)) V.nodes)))));
        }
    one_run (for_plain G T A M H) (for_declaring W' D' T' A' M' H' L') k es ea = absurd (begins_no_declaration G)
    one_run (for_declaring W D T A M H L) (for_plain G T' A' M' H') k es ea = absurd (begins_no_declaration G)
    one_run (switch_block {s = s} {t = t} {j = j} {e = e} {b = b} {x = x} {xs = xs} {v = v} {p = p} {q = q} g h n V W T J I L) (switch_block {s = s'} {t = t'} {j = j'} {e = e'} {b = b'} {xs = ys} {v = v'} {q = q'} g' h' n' V' W' T' J' I' L') k es ea =
        let exs : xs ≡ ys = ap (block_in xs) (sym g ∙ g') in
        let eq : q ≡ q' = h ∙ sym h' in
        let eo = owns {s = s} {s' = s'} {p = q} {q = q'} {xs = xs} {ys = ys} es eq exs in
        let eslots = ap (slots_of f) eo in
        let ec : length t.cases ≡ length t'.cases = n ∙ ap (λ z. sum_of (map cases_in z)) exs ∙ sym n' in
        let Q = one_value V V' (ap fresh es) ea in
        let E = one_row W W' Q.ends (ap (enters f) eo) in
        let ek = row_ends T T' E.ends (tests_length _ _ _ _ t.cases ∙ ec ∙ sym (tests_length _ _ _ _ t'.cases)) in
        let R = one_items I (items_as I' exs eq) (inside_alike eslots (switching_alike b b' k)) (ap no_cases Q.states) (plus 1 ek) in
        let ecs : t.cases ≡ t'.cases = ap (λ (z : State). z.cases) R.states in
        let ed : default_or t.default_case e ≡ default_or t'.default_case e' = pairs _ (λ (x : State) y. default_or x.default_case y) R.states R.ends in
        let S = one_row T T' E.ends (ap (λ z. case_tests z (tested (type_of f x (skip 2 p))) v (spot_at f p) t.cases) E.ends ∙
        pairs _ (λ y z. case_tests j' (tested (type_of f x (skip 2 p))) y (spot_at f p) z) Q.value ecs) in
        let V = one_row L L' R.ends (pairs _ (λ y z. leaves (spot_at f (behind_all y z)) (slots_of f (items_at s.declared q xs))) exs eq ∙ ap (leaves (spot_at f (behind_all ys q'))) eslots) in
        record {
          ends = V.ends;
          states = pairs _ cases_of es R.states;
          nodes = λ ex en el. same_join Q.nodes (same_join E.nodes (same_join S.nodes (same_join (same_one J J' ek (ap (λ z. ins.Jump (to z)) ed)) (same_join (R.nodes V.ends en el) V.nodes))));
        }
    one_run (switch_other {b = b} g V J A) (switch_other {b = b'} g' V' J' A') k es ea =
        let Q = one_value V V' (ap fresh es) ea in
        let R = one_run A A' (switching_alike b b' k) (ap no_cases Q.states) (plus 1 Q.ends) in
        record {
          ends = R.ends;
          states = pairs _ cases_of es R.states;
          nodes = λ ex en el. same_join Q.nodes (same_join (same_one J J' Q.ends (ap (λ z. ins.Jump (to z)) R.ends)) (R.nodes R.ends en el));
        }
    one_run (switch_block g h n V W T J I L) (switch_other g' V' J' A') k es ea = absurd (subst IsNoBlock g g')
    one_run (switch_other g V J A) (switch_block g' h' n' V' W' T' J' I' L') k es ea = absurd (subst IsNoBlock g' g)
    one_run (case {s = s} {a = a} {m = m} n {ty = ty} h i is w A) (case {s = s'} {a = a'} {m = m'} n' {ty = ty'} h' i' is' w' A') k es ea =
        let em : m ≡ m' = one_some h h' in
        let et : ty ≡ ty' = one_some i i' in
        let en : n ≡ n' = one_wrapped ty m n n' is w (subst (λ z. IsWrapped z m n') (sym et) (subst (λ z. IsWrapped ty' z n') (sym em) w')) in
        let ecs : with_case n a s ≡ with_case n' a' s' = ap (λ z. with_case z a s) en ∙ pairs _ (with_case n') ea es in
        let R = one_run A A' k ecs ea in
        record { ends = R.ends; states = R.states; nodes = R.nodes }
    one_run (default A) (default A') k es ea =
        let R = one_run A A' k (pairs _ with_default ea es) ea in
        record { ends = R.ends; states = R.states; nodes = R.nodes }
    one_run (label {name = name} A) (label A') k es ea =
        let R = one_run A A' k (pairs _ (with_label name) ea es) ea in
        record { ends = R.ends; states = R.states; nodes = R.nodes }
    one_run (goto {l = l} {n = n} {target = target} {name = name} {p = p} h i W J) (goto {l = m} {n = n'} {target = target'} h' i' W' J') k es ea =
        let en : n ≡ n' = one_some h h' in
        let Q = one_row W W' ea (pairs _ (λ y z. leaves (spot_at f p) (slots_left y z)) en k.blocks) in
        record {
          ends = plus 1 Q.ends;
          states = es;
          nodes = λ ex e el.
              let et : target ≡ target' = ap (some_or target) (sym i ∙ ap (first_of_name name) el ∙ i') in
              same_join Q.nodes (same_one J J' Q.ends (ap (λ z. ins.Jump (to z)) et));
        }
    one_run (break {p = p} W J) (break W' J') k es ea =
        let Q = one_row W W' ea (pairs _ (λ y z. leaves (spot_at f p) (slots_left y z)) k.exit_blocks k.blocks) in
        record { ends = plus 1 Q.ends; states = es; nodes = λ ex en el. same_join Q.nodes (same_one J J' Q.ends (ap (λ z. ins.Jump (to z)) ex)) }
    one_run (continue {p = p} W J) (continue W' J') k es ea =
        let Q = one_row W W' ea (pairs _ (λ y z. leaves (spot_at f p) (slots_left y z)) k.next_blocks k.blocks) in
        record { ends = plus 1 Q.ends; states = es; nodes = λ ex en el. same_join Q.nodes (same_one J J' Q.ends (ap (λ z. ins.Jump (to z)) en)) }
    one_run (return_nothing J) (return_nothing J') k es ea = record { ends = plus 1 ea; states = es; nodes = λ ex en el. same_one J J' ea refl }
    one_run (return_value A J) (return_value A' J') k es ea =
        let Q = one_operand A A' (ap fresh es) ea in
        record { ends = plus 1 Q.ends; states = Q.states; nodes = λ ex en el. same_join Q.nodes (same_one J J' Q.ends (ap (λ z. ins.Return (Some z)) Q.value)) }

    pub one_items : {l m : Around} {sc : Scope} {s s' t u : State} {a a' b d : ℕ} {xs : List Stmt} {p : Place} → Items f ns l sc s a xs p b t → Items f ms m sc s' a' xs p d u → Alike l m →
        s ≡ s' → a ≡ a' → SameRun ns ms l m a b t d u
    one_items no_more_items no_more_items k es ea = record { ends = ea; states = es; nodes = λ ex en el. same_none _ _ refl }
    one_items (statement A B) (statement A' B') k es ea =
        let Q = one_run A A' k es ea in
        let R = one_items B B' k Q.states Q.ends in
        record { ends = R.ends; states = R.states; nodes = λ ex en el. same_join (Q.nodes ex en el) (R.nodes ex en el) }
    one_items (declaration {d = d} {p = p} h A B) (declaration {d = e} h' A' B') k es ea =
        let ed : d ≡ e = ap (decl_in d) (sym h ∙ h') in
        let Q = one_declared A (declares_as p A' ed) refl es ea in
        let R = one_items B (items_in B' Q.scopes) k Q.states Q.ends in
        record { ends = R.ends; states = R.states; nodes = λ ex en el. same_join Q.nodes (R.nodes ex en el) }
    one_items (statement A B) (declaration h A' B') k es ea = absurd (subst IsNoDeclaration h (runs_no_declaration A))
    one_items (declaration h A B) (statement A' B') k es ea = absurd (subst IsNoDeclaration h (runs_no_declaration A'))
