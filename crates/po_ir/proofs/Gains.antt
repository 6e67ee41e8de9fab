-- Lists of calls gain what is found item by item.
use Rattle.std.proofs.Common.{◌≡◌, ℕ, ◌+◌, ◌<◌, List, ◌++◌, length, get_or, take, ap, sym, ◌∙◌, append_assoc, arith}
use Rattle.po_base.specs.declared.numbers.FunNo.{FunNo}
use Rattle.po_ir.specs.General.{each_from}
use Rattle.po_ir.specs.Callers.{Sites, Gains}
use Rattle.po_ir.proofs.General.{each_from-more}

gains_more : (a b c : List Sites) (m n : FunNo → Sites) → Gains a b m → Gains b c n → Gains a c (λ f. m f ++ n f)
gains_more a b c m n p q = record {
  count = q.count ∙ p.count;
  each = λ f d below.
      let same : length b ≡ length a = p.count in
      q.each f d (omega arith) ∙ ap (λ z. z ++ n (record { 0 = f })) (p.each f d below) ∙ append_assoc (get_or a f d) (m (record { 0 = f })) (n (record { 0 = f }));
}

gains_same : (a b : List Sites) (m n : FunNo → Sites) → ((f : FunNo) → m f ≡ n f) → Gains a b m → Gains a b n
gains_same a b m n same p = record {
  count = p.count;
  each = λ f d below. p.each f d below ∙ ap (λ z. get_or a f d ++ z) (same (record { 0 = f }));
}

-- the calls of one more item are noted
pub gains_step : {X : Type 0} (calls : FunNo → ℕ → X → Sites) (xs : List X) (i j : ℕ) (x : X) (a b c : List Sites) → i < length xs → x ≡ get_or xs i x → j ≡ i →
    Gains a b (λ f. each_from (calls f) 0 (take i xs)) → Gains b c (λ f. calls f j x) → Gains a c (λ f. each_from (calls f) 0 (take (i + 1) xs))
gains_step calls xs i j x a b c below is same before now =
    gains_same a c (λ f. each_from (calls f) 0 (take i xs) ++ calls f j x) (λ f. each_from (calls f) 0 (take (i + 1) xs))
    (λ f. ap (λ k. each_from (calls f) 0 (take i xs) ++ calls f k x) same ∙ sym (each_from-more (calls f) xs i x below is))
    (gains_more a b c (λ f. each_from (calls f) 0 (take i xs)) (λ f. calls f j x) before now)
