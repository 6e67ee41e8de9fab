-- Relations on the outermost form of an expression, or of a specifier, that is known.
use Rattle.std.proofs.Common.{◌≡◌, sym, ap, ◌∙◌, subst}
use Rattle.po_tree.specs.declared.expression.Exp.{Exp, out-Exp, roll-Exp, out-roll-Exp, roll-out-Exp}
use Rattle.po_tree.specs.declared.expression.Specifier.{Specifier, out-Specifier, roll-Specifier, out-roll-Specifier}
use Rattle.po_typed.specs.Forms.{Layer, SpecifierLayer}

out_of : {x y : Exp} {l : Layer} → x ≡ y → roll-Exp l ≡ y → out-Exp x ≡ l
out_of {l = l} q r = ap out-Exp (q ∙ sym r) ∙ out-roll-Exp l

-- an expression that has the layer for its outermost one
pub rolled : {x y : Exp} {l : Layer} → l ≡ out-Exp x → roll-Exp l ≡ y → x ≡ y
rolled {x = x} q r = sym (roll-out-Exp x) ∙ ap roll-Exp (sym q) ∙ r

-- what holds of the layer holds of the expression, and the reverse
pub has_form : (R : Layer → Type 0) {x y : Exp} {l : Layer} → x ≡ y → roll-Exp l ≡ y → R l → R (out-Exp x)
has_form R q r h = subst R (sym (out_of q r)) h

pub of_form : (R : Layer → Type 0) {x y : Exp} {l : Layer} → x ≡ y → roll-Exp l ≡ y → R (out-Exp x) → R l
of_form R q r h = subst R (out_of q r) h

out_of_specifier : {x y : Specifier} {l : SpecifierLayer} → x ≡ y → roll-Specifier l ≡ y → out-Specifier x ≡ l
out_of_specifier {l = l} q r = ap out-Specifier (q ∙ sym r) ∙ out-roll-Specifier l

pub has_specifier_form : (R : SpecifierLayer → Type 0) {x y : Specifier} {l : SpecifierLayer} → x ≡ y → roll-Specifier l ≡ y → R l → R (out-Specifier x)
has_specifier_form R q r h = subst R (sym (out_of_specifier q r)) h

pub of_specifier_form : (R : SpecifierLayer → Type 0) {x y : Specifier} {l : SpecifierLayer} → x ≡ y → roll-Specifier l ≡ y → R (out-Specifier x) → R l
of_specifier_form R q r h = subst R (out_of_specifier q r) h
