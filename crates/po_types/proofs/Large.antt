-- Sizes that no object has.
use Rattle.std.proofs.Common.{arith, ℕ, ◌≡◌, ◌≤◌, ◌*◌, ◌^◌, ◌-◌, Option, Some, None, refl, ap, sym, suc, zero, ◌∙◌, Bool, true, false}
use Rattle.std.specs.Prelude.{nat_le, cond, ◌&&◌}
use Rattle.std.specs.Option.{option_map, option_map_or}
use Rattle.std.proofs.lemmas.Bool.{lt-leb}
use Rattle.std.proofs.Math.Nat.{mul_assoc, mul-suc, mul-zero}
use Rattle.po_arith.specs.declared.target.Target.{Target}
use Rattle.po_arith.specs.declared.target.Target.TheVariants as t
use Rattle.po_types.specs.Types.{as_object}

none_either : (n : ℕ) (b : Bool) → cond (b && false) (Some n) None ≡ None
none_either n true = refl
none_either n false = refl

pub too_large : (target : Target) (n : ℕ) → 2 ^ 64 ≤ n → as_object target n ≡ None
too_large t.L64 n h = ap (λ b. cond (nat_le 1 n && b) (Some n) None) (lt-leb n (2 ^ 63 - 1) (omega (arith, h))) ∙ none_either n (nat_le 1 n)

more_than : (a b : ℕ) → 1 ≤ b → a ≤ (a * b)
more_than a zero h = elim h [ ]
more_than a (suc b) h = rw (mul-suc a b) (omega arith)

pub too_many : (target : Target) (times count : ℕ) → 2 ^ 64 ≤ (times * count) → (inner : Option ℕ) →
    option_map_or (as_object target) (option_map (λ b. times * b) (option_map (λ b. count * b) inner)) None ≡ None
too_many target times count h None = refl
too_many target times count h (Some zero) = rw (mul-zero count, mul-zero times) refl
too_many target times count h (Some (suc b)) =
    let m = more_than (times * count) (suc b) (omega arith) in
    rw (sym (mul_assoc times count (suc b))) (too_large target (times * count * suc b) (omega (arith, h, m)))

pub regroup : (times count : ℕ) (inner : Option ℕ) →
    option_map (λ b. times * b) (option_map (λ b. count * b) inner) ≡ option_map (λ b. times * count * b) inner
regroup times count None = refl
regroup times count (Some b) = ap Some (sym (mul_assoc times count b))
