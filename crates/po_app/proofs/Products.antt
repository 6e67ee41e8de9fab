-- The least and the greatest of four products are of a type exactly where all four are.
use Rattle.std.proofs.Common.{◌≡◌, arith, ◌&&◌}
use Rattle.std.specs.Prelude.{ℕ, ℤ, ◌≤ℤ◌, ◌<ℤ◌, ◌*ℤ◌, neg_ℤ, pos}
use Rattle.std.proofs.lemmas.Int.{ints, clamps}
use Rattle.std.proofs.lemmas.Bool.Decides.{Decides-and, same_from_decides}
use Rattle.po_arith.specs.declared.range.Range.{Range}
use Rattle.po_app.specs.Predicates.{half}
use Rattle.po_app.specs.Corners.{products, least_of, greatest_of}
use Rattle.po_app.specs.Discharge.{of_type, ends_fit}
use Rattle.po_app.proofs.Tells.{Decides-of_type}

abbrev Within : ℕ → ℤ → Type 0
Within h v = (neg_ℤ (pos h) ≤ℤ v) × (v <ℤ pos h)

all_within : (h : ℕ) (a b c d : ℤ) → Within h (least_of a b c d) × Within h (greatest_of a b c d) → (Within h a × Within h b) × (Within h c × Within h d)
all_within h a b c d p = (((omega (arith, ints, clamps), omega (arith, ints, clamps)), (omega (arith, ints, clamps), omega (arith, ints, clamps))), ((omega (arith, ints, clamps), omega (arith, ints, clamps)), (omega (arith, ints, clamps), omega (arith, ints, clamps))))

hull_within : (h : ℕ) (a b c d : ℤ) → (Within h a × Within h b) × (Within h c × Within h d) → Within h (least_of a b c d) × Within h (greatest_of a b c d)
hull_within h a b c d p = ((omega (arith, ints, clamps), omega (arith, ints, clamps)), (omega (arith, ints, clamps), omega (arith, ints, clamps)))

ends_of_four : (bits : ℕ) (a b c d : ℤ) →
    ((of_type bits a && of_type bits b) && (of_type bits c && of_type bits d)) ≡ (of_type bits (least_of a b c d) && of_type bits (greatest_of a b c d))
ends_of_four bits a b c d =
    let four = Decides-and _ _ (Decides-and _ _ (Decides-of_type bits a) (Decides-of_type bits b)) (Decides-and _ _ (Decides-of_type bits c) (Decides-of_type bits d)) in
    let two = Decides-and _ _ (Decides-of_type bits (least_of a b c d)) (Decides-of_type bits (greatest_of a b c d)) in
    same_from_decides _ _ four (λ t. all_within (half bits) a b c d (two.0 t), λ p. two.1 (hull_within (half bits) a b c d p))

pub corners_fit : (bits : ℕ) (a b : Range) →
    ((of_type bits (a.lo *ℤ b.lo) && of_type bits (a.hi *ℤ b.lo)) && (of_type bits (a.lo *ℤ b.hi) && of_type bits (a.hi *ℤ b.hi))) ≡ ends_fit bits (products a b)
corners_fit bits a b = ends_of_four bits (a.lo *ℤ b.lo) (a.hi *ℤ b.lo) (a.lo *ℤ b.hi) (a.hi *ℤ b.hi)
