-- A table of a test of bytes.
use Rattle.std.proofs.Common.{◌≡◌, ℕ, zero, suc, ◌+◌, ◌<◌, Bool, false, List, [], ◌∷◌, arith, ap, ◌∙◌}
use Rattle.std.specs.Prelude.{slice_index_or}

-- what the test answers of so many numbers from n on
abbrev pub answers : (ℕ → Bool) → ℕ → ℕ → List Bool
answers f n zero = []
answers f n (suc k) = f n ∷ answers f (n + 1) k

answers_at : (f : ℕ → Bool) (n k i : ℕ) → i < k → slice_index_or (answers f n k) i false ≡ f (n + i)
answers_at f n zero i h = absurd (omega (arith, h))
answers_at f n (suc k) zero h = ap f (omega arith)
answers_at f n (suc k) (suc i) h = let e : (n + 1) + i ≡ n + suc i = omega arith in answers_at f (n + 1) k i (omega (arith, h)) ∙ ap f e

-- the table of all bytes
pub by_table : (f : ℕ → Bool) (i c : ℕ) → c < 256 → i ≡ c → slice_index_or (answers f 0 256) i false ≡ f c
by_table f i c h q = let e : 0 + i ≡ c = omega (arith, q) in answers_at f 0 256 i (omega (arith, h, q)) ∙ ap f e
