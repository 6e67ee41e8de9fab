-- Relations on the outermost form of an expression that is known.
use Rattle.std.proofs.Common.{◌≡◌, sym, ap, ◌∙◌, subst}
use Rattle.po_tree.specs.declared.expression.Exp.{Exp, out-Exp, roll-Exp, out-roll-Exp, roll-out-Exp}
use Rattle.po_typed.specs.Forms.{Layer}

pub out_of : {x y : Exp} {l : Layer} → x ≡ y → roll-Exp l ≡ y → out-Exp x ≡ l
out_of {l = l} q r = ap out-Exp (q ∙ sym r) ∙ out-roll-Exp l

-- an expression that has the layer for its outermost one
pub rolled : {x y : Exp} {l : Layer} → l ≡ out-Exp x → roll-Exp l ≡ y → x ≡ y
rolled {x = x} q r = sym (roll-out-Exp x) ∙ ap roll-Exp (sym q) ∙ r

-- what holds of the layer holds of the expression, and the reverse
pub has_form : (R : Layer → Type 0) {x y : Exp} {l : Layer} → x ≡ y → roll-Exp l ≡ y → R l → R (out-Exp x)
has_form R q r h = subst R (sym (out_of q r)) h

pub of_form : (R : Layer → Type 0) {x y : Exp} {l : Layer} → x ≡ y → roll-Exp l ≡ y → R (out-Exp x) → R l
of_form R q r h = subst R (out_of q r) h

-- where the operand decides, what is known of the expression is known of the operand
pub handed_on : (R : Layer → Type 0) (G : Type 0) {x y z n : Exp} {l : Layer} → x ≡ y → roll-Exp l ≡ y → n ≡ z → (R (out-Exp z) → R l) → (R l → R (out-Exp z)) →
    ((R (out-Exp x) → G) × (G → R (out-Exp x))) → (R (out-Exp n) → G) × (G → R (out-Exp n))
handed_on R G q r e up down known = (
  (λ h. known.0 (has_form R q r (up (subst (λ v. R (out-Exp v)) e h)))),
  (λ g. subst (λ v. R (out-Exp v)) (sym e) (down (of_form R q r (known.1 g)))),
)
