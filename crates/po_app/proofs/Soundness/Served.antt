-- Expressions whose parameters are there, whose constants are of the type int, and whose calls have an argument for each
-- parameter of the called function.
use Rattle.std.proofs.Common.{◌≡◌, ℕ, ◌^◌, ◌==◌, Bool, true, false, ◌&&◌, refl, sym, ap, ◌∙◌, eqb-true, eq-eqb, List, [], ◌∷◌, length, map}
use Rattle.std.specs.Prelude.{nat_lt, Option, Some, None, slice_get}
use Rattle.po_base.specs.declared.operators.Op.{Op}
use Rattle.po_base.specs.declared.operators.Op.TheVariants as op
use Rattle.po_straight.specs.declared.expression.Expression.{Expression, fold-Expression, fold-roll-Expression}
use Rattle.po_straight.specs.declared.expression.Expression.TheVariants as e
use Rattle.po_straight.specs.declared.expression.Expression.TheOpen.{Expression-F}

-- the operators + - * / %
abbrev pub is_arithmetic : Op → Bool
is_arithmetic op.Add = true
is_arithmetic op.Sub = true
is_arithmetic op.Mul = true
is_arithmetic op.Div = true
is_arithmetic op.Rem = true
is_arithmetic _ = false

abbrev pub is_count : Option ℕ → ℕ → Bool
is_count None n = false
is_count (Some m) n = m == n

abbrev pub all_true : List Bool → Bool
all_true [] = true
all_true (b ∷ bs) = b && all_true bs

-- of one layer, with so many parameters and where functions have these counts of parameters
abbrev pub served_of : ℕ → List ℕ → Expression-F Bool → Bool
served_of params counts (Expression-F.Parameter n) = nat_lt n params
served_of params counts (Expression-F.Constant value) = nat_lt value (2 ^ 31)
served_of params counts (Expression-F.Paren x) = x
served_of params counts (Expression-F.Call f line xs) = is_count (slice_get counts f) (length xs) && all_true xs
served_of params counts (Expression-F.Binary o line x y) = is_arithmetic o && (x && y)

unfoldable pub is_served : ℕ → List ℕ → Expression → Bool
is_served params counts = fold-Expression Bool (served_of params counts)

abbrev pub all_served : ℕ → List ℕ → List Expression → Bool
all_served params counts xs = all_true (map (is_served params counts) xs)

pub served-Parameter : (params : ℕ) (counts : List ℕ) (n : ℕ) → is_served params counts (e.Parameter n) ≡ nat_lt n params
unfolding is_served
served-Parameter params counts n = ap (is_served params counts) (sym (e.rolls-Parameter n)) ∙ fold-roll-Expression _ (served_of params counts) (Expression-F.Parameter n)

pub served-Constant : (params : ℕ) (counts : List ℕ) (value : ℕ) → is_served params counts (e.Constant value) ≡ nat_lt value (2 ^ 31)
unfolding is_served
served-Constant params counts value = ap (is_served params counts) (sym (e.rolls-Constant value)) ∙ fold-roll-Expression _ (served_of params counts) (Expression-F.Constant value)

pub served-Paren : (params : ℕ) (counts : List ℕ) (x : Expression) → is_served params counts (e.Paren x) ≡ is_served params counts x
unfolding is_served
served-Paren params counts x = ap (is_served params counts) (sym (e.rolls-Paren x)) ∙ fold-roll-Expression _ (served_of params counts) (Expression-F.Paren x)

pub served-Call : (params : ℕ) (counts : List ℕ) (f line : ℕ) (xs : List Expression) → is_served params counts (e.Call f line xs) ≡ is_count (slice_get counts f) (length (map (is_served params counts) xs)) && all_served params counts xs
unfolding is_served
served-Call params counts f line xs = ap (is_served params counts) (sym (e.rolls-Call f line xs)) ∙ fold-roll-Expression _ (served_of params counts) (Expression-F.Call f line xs)

pub served-Binary : (params : ℕ) (counts : List ℕ) (o : Op) (line : ℕ) (x y : Expression) → is_served params counts (e.Binary o line x y) ≡ is_arithmetic o && (is_served params counts x && is_served params counts y)
unfolding is_served
served-Binary params counts o line x y = ap (is_served params counts) (sym (e.rolls-Binary o line x y)) ∙ fold-roll-Expression _ (served_of params counts) (Expression-F.Binary o line x y)

pub both : (a b : Bool) → a && b ≡ true → (a ≡ true) × (b ≡ true)
both true true h = (refl, refl)
both true false h = (refl, h)
both false b h = absurd (cc)

-- a function of so many parameters is there
pub count_is : (counted : Option ℕ) (n : ℕ) → is_count counted n ≡ true → counted ≡ Some n
count_is None n h = absurd (cc)
count_is (Some m) n h = ap Some (eqb-true m n h)

pub is_count_of : (counted : Option ℕ) (m n : ℕ) → counted ≡ Some m → n ≡ m → is_count counted n ≡ true
is_count_of None m n there same = absurd (cc)
is_count_of (Some k) m n there same = let here : k ≡ m = cc in eq-eqb k n (here ∙ sym same)
