-- Comparisons that answer that two are equal.
use Rattle.std.proofs.Common.{◌≡◌, ℕ, true, refl, subst}
use Rattle.std.specs.Prelude.{ℤ, ◌<ℤ◌}
use Rattle.std.specs.declared.cmp.Ordering.{Ordering}
use Rattle.std.specs.declared.cmp.Ordering.TheVariants.{Less, Equal, Greater}
use Rattle.std.specs.Ordering.{int_cmp, ordering_then, ordering_reverse, is_eq, MatchOrdering}
use Rattle.std.specs.Cmp.{Equal-is}
use Rattle.std.proofs.lemmas.Cmp.{int_ranked}

-- two comparisons, one after the other
pub both_equal : (r s : Ordering) → ordering_then r s ≡ Equal → (r ≡ Equal) × (s ≡ Equal)
both_equal Less s same = cc
both_equal Equal s same = (refl, same)
both_equal Greater s same = cc

pub equal_where_tested : (r : Ordering) → is_eq r ≡ true → r ≡ Equal
equal_where_tested r h = (Equal-is r).0 h

-- what is known of an answer that is Equal
pub ranked_same : (P Q R : Type 0) (r : Ordering) → r ≡ Equal → MatchOrdering r P Q R → Q
ranked_same P Q R r same given = subst (λ o. MatchOrdering o P Q R) same given

pub int_same : (m n : ℤ) → int_cmp m n ≡ Equal → m ≡ n
int_same m n same = ranked_same (m <ℤ n) (m ≡ n) (n <ℤ m) (int_cmp m n) same (int_ranked m n (int_cmp m n) refl)
