-- What the arguments of a call add to a draft, one after the other.
use Rattle.std.proofs.Common.{◌≡◌, ◌∙◌, ℕ, ◌+◌, ◌≤◌, ◌<◌, List, [], ◌∷◌, ◌++◌, length, drop, append_assoc, append-nil, sym, ap, subst, arith}
use Rattle.std.proofs.lemmas.List.{drop_all}
use Rattle.po_base.specs.declared.operand.Opnd.{Opnd}
use Rattle.po_tree.specs.declared.expression.Exp.{Exp}
use Rattle.po_lowering.specs.Places.{Place, skip, behind, head_of}
use Rattle.po_lowering.specs.Typed.{Typed, spot_at}
use Rattle.po_lowering.specs.Naming.{Scope, changes}
use Rattle.po_lowering.specs.Expressions.{Arguments, no_more, one_more}
use Rattle.po_draft.specs.Sketches.{Sketch}
use Rattle.po_draft.proofs.Making.{makes_none, makes_then, makes_map}
use Rattle.po_lower_nodes.specs.Groups.{AddsHolding}
use Rattle.po_lower_forms.specs.Made.{MakesOperand, MakesArguments, MakesFirst}

pub rule_no_argument : (f : Typed) (c : Scope) (d : Sketch) (xs : List Exp) (p : Place) (vs : List Opnd) → vs ≡ [] → MakesFirst f c d d xs p 0 p vs
rule_no_argument f c d xs p vs q =
    record { within = omega arith; makes = makes_none d _ (λ final g ws b u k. subst (λ z. Arguments f c final d.state (length d.nodes) xs p z b u) (ap (λ l. l ++ ws) (sym q)) k) }

pub rule_argument : (f : Typed) (c : Scope) {d e h k : Sketch} (xs : List Exp) (p : Place) (n : ℕ) (q : Place) (vs vs' : List Opnd) (y : Exp) (v w : Opnd) → MakesFirst f c d e xs p n q vs → n < length xs →
    drop n xs ≡ y ∷ drop (n + 1) xs → MakesOperand f c e h y q v → AddsHolding h k (spot_at f (head_of y q)) v (changes c v (drop (n + 1) xs)) w → vs' ≡ vs ++ w ∷ [] →
    MakesFirst f c d k xs p (n + 1) (skip 1 (behind y q)) vs'
rule_argument f c {d = d} {e = e} {h = h} {k = k} xs p n q vs vs' y v w a less here b m more =
    record {
      within = omega (arith, less);
      makes = makes_map d k _ _ (λ final g pl t. λ ws end u rest.
          subst (λ l. Arguments f c final d.state (length d.nodes) xs p l end u) (sym (append_assoc vs (w ∷ []) ws) ∙ ap (λ l. l ++ ws) (sym more))
          (t.0.0 (w ∷ ws) end u (subst (λ l. Arguments f c final e.state (length e.nodes) l q (w ∷ ws) end u) (sym here) (one_more t.0.1 t.1 rest)))) (makes_then d h k _ _ (makes_then d e h _ _ a.makes b) m);
    }

pub rule_arguments : (f : Typed) (c : Scope) {d e : Sketch} (xs : List Exp) (p : Place) (n : ℕ) (q : Place) (vs : List Opnd) → length xs ≤ n → MakesFirst f c d e xs p n q vs → MakesArguments f c d e xs p vs
rule_arguments f c {d = d} {e = e} xs p n q vs all a =
    makes_map d e _ _ (λ final g pl k.
    subst (λ z. Arguments f c final d.state (length d.nodes) xs p z (length e.nodes) e.state) (append-nil vs)
    (k [] (length e.nodes) e.state (subst (λ z. Arguments f c final e.state (length e.nodes) z q [] (length e.nodes) e.state) (sym (drop_all n xs all)) no_more))) a.makes
