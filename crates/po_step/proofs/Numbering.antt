-- The predicates of a node with their places, one more at a time.
use Rattle.std.specs.Prelude.{ℕ, zero, suc, ◌+◌, ◌≡◌, ◌<◌, List, [], ◌∷◌, ◌++◌, length, take, slice_index_or}
use Rattle.std.proofs.Common.{refl, ap, ◌∙◌, arith}
use Rattle.std.proofs.lemmas.List.{length-take-le}
use Rattle.po_base.specs.declared.numbers.FunNo.{FunNo}
use Rattle.po_base.specs.declared.numbers.NodeNo.{NodeNo}
use Rattle.po_core.specs.declared.obl.Cause.TheVariants.{Primary}
use Rattle.po_pred.specs.declared.pred.Pred.{Pred}
use Rattle.po_meaning.specs.Checks.{Asked, obligation, numbered}

numbered_size : (f : FunNo) (n : NodeNo) (k : ℕ) (xs : List Pred) → length (numbered f n k xs) ≡ length xs
numbered_size f n k [] = refl
numbered_size f n k (x ∷ xs) = ap suc (numbered_size f n (k + 1) xs)

numbered_next : (f : FunNo) (n : NodeNo) (k : ℕ) (xs : List Pred) (i : ℕ) (d : Pred) → i < length xs → numbered f n k (take i xs) ++ (obligation f n (Primary (k + i)), slice_index_or xs i d) ∷ [] ≡ numbered f n k (take (suc i) xs)
numbered_next f n k [] i d less = absurd (omega (arith, less))
numbered_next f n k (x ∷ xs) zero d less = let same : k + 0 ≡ k = omega arith in ap (λ (j : ℕ). (obligation f n (Primary j), x) ∷ []) same
numbered_next f n k (x ∷ xs) (suc i) d less =
    let same : k + suc i ≡ k + 1 + i = omega arith in
    ap (λ (list : List Asked). (obligation f n (Primary k), x) ∷ list)
    (ap (λ (j : ℕ). numbered f n (k + 1) (take i xs) ++ (obligation f n (Primary j), slice_index_or xs i d) ∷ []) same ∙ numbered_next f n (k + 1) xs i d (omega (arith, less)))

-- the place is the number of those before
pub one_more : (f : FunNo) (n : NodeNo) (xs : List Pred) (i k : ℕ) (list : List Asked) (d : Pred) → i < length xs → list ≡ numbered f n 0 (take i xs) → k ≡ length list →
    list ++ (obligation f n (Primary k), slice_index_or xs i d) ∷ [] ≡ numbered f n 0 (take (i + 1) xs)
one_more f n xs i k list d less is place =
    let size : length list ≡ i = ap length is ∙ (numbered_size f n 0 (take i xs) ∙ length-take-le i xs (omega (arith, less))) in
    let number : k ≡ 0 + i = omega (arith, place, size) in
    let next : suc i ≡ i + 1 = omega arith in
    ap (λ (j : ℕ). list ++ (obligation f n (Primary j), slice_index_or xs i d) ∷ []) number
    ∙ (ap (λ (l : List Asked). l ++ (obligation f n (Primary (0 + i)), slice_index_or xs i d) ∷ []) is ∙ (numbered_next f n 0 xs i d less ∙ ap (λ (j : ℕ). numbered f n 0 (take j xs)) next))
