-- A pair of numbers that gets less, as one number.
use Rattle.std.proofs.Common.{◌≡◌, ℕ, suc, ◌+◌, ◌<◌, ◌≤◌, ◌*◌, ◌-◌, ap, ◌∙◌, arith}

pub squares_less : (w w' h h' : ℕ) → w' < w → h' ≤ w' → w' * w' + h' < w * w + h
squares_less w w' h h' less inside =
    let d = w - suc w' in
    let more : w ≡ suc w' + d = omega (arith, less) in
    let spread : (suc w' + d) * (suc w' + d) ≡ w' * w' + (2 * w' + 1) + (d * d + 2 * d + 2 * (w' * d)) = grind arith in
    let square = ap (λ v. v * v) more ∙ spread in
    omega (arith, square, inside)

pub squares_same : (w w' h h' : ℕ) → w' ≤ w → h' < h → w' * w' + h' < w * w + h
squares_same w w' h h' as_light less =
    let d = w - w' in
    let more : w ≡ w' + d = omega (arith, as_light) in
    let spread : (w' + d) * (w' + d) ≡ w' * w' + (d * d + 2 * (w' * d)) = grind arith in
    let square = ap (λ v. v * v) more ∙ spread in
    omega (arith, square, less)
