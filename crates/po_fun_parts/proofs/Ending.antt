-- Expressions before the sign that ends them in a statement: there is one at most, and it ends where the longest one does.
use Rattle.std.proofs.Common.{◌≡◌, ◌∙◌, ◌≤◌, ℕ, List, [], ◌∷◌, ◌++◌, length, refl, sym, ap, subst, arith}
use Rattle.std.specs.Prelude.{Option, Some, None}
use Rattle.po_tree.specs.declared.expression.Exp.{Exp}
use Rattle.po_tree.specs.Signs.{Sign, semicolon, closing, colon}
use Rattle.po_tree.specs.Printing.{flat, optional}
use Rattle.po_tree.specs.Heights.{height, or_none}
use Rattle.po_tree.specs.NameSets.{AreSame}
use Rattle.po_tree.specs.Statements.{IsOptional, missing, there}
use Rattle.po_exp_parts.specs.Continuing.{GoesOn}
use Rattle.po_exp_parts.specs.Places.{Begins, at_colon}
use Rattle.po_exp_read.specs.Longest.{StandsBefore, StandsAt, IsLongest}
use Rattle.po_exp_read.proofs.Comparing.{Compared, same, longer, shorter, goes_on-none, goes_on-closing, punct_string}
use Rattle.po_exp_read.proofs.Compared.{reads_compared}
use Rattle.po_exp_read.proofs.Longest.{stand_reads_at}
use Rattle.po_decl_parts.specs.Constants.{ConstantStands}
use Rattle.po_decl_parts.proofs.Endings.{constant_same}
use Rattle.po_decl_parts.proofs.Naming.{stands_same, turned}
use Rattle.po_decl_laws.proofs.Behind.{tails}
use Rattle.po_fun_laws.proofs.OneExpression.{IsStop, before_semicolon, before_closing, one_expression, one_optional}
use Rattle.po_fun_parts.specs.declared.expressions.Stop.{Stop}
use Rattle.po_fun_parts.specs.declared.expressions.Stop.TheVariants as stop
use Rattle.po_fun_parts.specs.Stops.{stop_sign, OptionalStands, alone, behind_value}

pub is_stop : (s : Stop) → IsStop (stop_sign s)
is_stop stop.Semicolon = before_semicolon
is_stop stop.Parenthesis = before_closing

any : {types : List (List ℕ)} {signs us : List Sign} {x : Exp} → StandsBefore types signs x us → StandsAt 0 types signs x us
any w = record { stands = w; high = omega arith }

-- what stands somewhere stands there under the same names
pub before_same : {a b : List (List ℕ)} {signs us : List Sign} {x : Exp} → AreSame a b → StandsBefore a signs x us → StandsBefore b signs x us
before_same s w = (stands_same s (any w)).stands

-- of two expressions with such a sign behind them one is the other
pub one_value : {types : List (List ℕ)} {signs us vs : List Sign} {x y : Exp} {a b : Sign} → IsStop a → IsStop b → StandsBefore types signs x (a ∷ us) → StandsBefore types signs y (b ∷ vs) →
    (x ≡ y) × (a ∷ us ≡ b ∷ vs)
one_value h g w v = one_expression h g w.formed.formed v.formed.formed (sym w.printed ∙ v.printed)

-- nothing goes on at such a sign
stops : (s : Stop) (ts : List Sign) → GoesOn 0 (stop_sign s ∷ ts) → ⊥
stops stop.Semicolon ts g = goes_on-none 0 semicolon ts (semicolon ∷ ts) refl (punct_string _) refl g
stops stop.Parenthesis ts g = goes_on-closing 0 ts g

compared_longest : {x y : Exp} {us vs : List Sign} → length us ≤ length vs → (GoesOn 0 vs → ⊥) → Compared {A = Exp} (λ _ ws. GoesOn 0 ws) x us y vs → us ≡ vs
compared_longest long none (same p q) = q
compared_longest long none (longer less g) = absurd (none g)
compared_longest long none (shorter less g) = absurd (omega arith)

-- what ends at such a sign is no shorter than the longest expression
longest_stops : {types : List (List ℕ)} {signs us vs : List Sign} {x y : Exp} (s : Stop) → IsLongest types signs x us → StandsBefore types signs y (stop_sign s ∷ vs) → us ≡ stop_sign s ∷ vs
longest_stops {vs = vs} {y = y} s best w =
    compared_longest (best.longest y (stop_sign s ∷ vs) w) (stops s vs) (reads_compared (stand_reads_at (any best.stands)).0 (stand_reads_at (any w)).0)

-- so where no such sign stands behind the longest expression, none ends at one
pub no_value : {types names : List (List ℕ)} {signs us : List Sign} {x : Exp} (s : Stop) → AreSame types names → IsLongest names signs x us → (Begins (stop_sign s) us → ⊥) →
    (y : Exp) (vs : List Sign) → StandsBefore types signs y (stop_sign s ∷ vs) → ⊥
no_value s are best none y vs w = none (subst (Begins (stop_sign s)) (sym (longest_stops s best (before_same are w))) refl)

-- where one stands behind the longest expression, that one ends at it
pub value_found : {types names : List (List ℕ)} {signs us vs : List Sign} {x : Exp} {a : Sign} → AreSame types names → IsLongest names signs x us → us ≡ a ∷ vs → StandsBefore types signs x (a ∷ vs)
value_found {types = types} {signs = signs} {x = x} are best q = subst (λ z. StandsBefore types signs x z) q (before_same (turned _ _ are) best.stands)

-- an expression that may be missing

pub optional_parts : {types : List (List ℕ)} {signs us : List Sign} {a : Sign} {x : Option Exp} → OptionalStands types a signs x us →
    IsOptional types x × (or_none height x ≤ 256) × (signs ≡ optional flat x ++ (a ∷ us))
optional_parts (alone us q) = (missing, omega arith, q)
optional_parts (behind_value x us w) = (there w.formed.level_of x w.formed.formed, w.formed.nested, w.printed)

pub optional_stands : {types : List (List ℕ)} {x : Option Exp} (a : Sign) (signs us : List Sign) → IsOptional types x → or_none height x ≤ 256 → signs ≡ optional flat x ++ (a ∷ us) →
    OptionalStands types a signs x us
optional_stands a signs us missing low q = alone us q
optional_stands a signs us (there m x w) low q = behind_value x us (record { formed = record { level_of = m; formed = w; nested = low }; printed = q })

pub one_optional_value : {types : List (List ℕ)} {signs us vs : List Sign} {a : Sign} {x y : Option Exp} → IsStop a → OptionalStands types a signs x us → OptionalStands types a signs y vs →
    (x ≡ y) × (us ≡ vs)
one_optional_value {x = x} {y = y} h w v =
    let p = optional_parts w in
    let q = optional_parts v in
    let c = one_optional h p.0 q.0 (sym p.2 ∙ q.2) in
    (c.0, tails c.1)

-- where the sign doesn't stand alone, and no expression stands before it, nothing does
pub no_optional : {types : List (List ℕ)} {signs : List Sign} {a : Sign} → (Begins a signs → ⊥) → ((x : Exp) (us : List Sign) → StandsBefore types signs x (a ∷ us) → ⊥) →
    (x : Option Exp) (us : List Sign) → OptionalStands types a signs x us → ⊥
no_optional {a = a} lone none x us (alone us' q) = lone (subst (Begins a) (sym q) refl)
no_optional lone none x' us (behind_value x us' w) = none x us' w

-- a constant with a colon behind it

pub constant_ended : {types : List (List ℕ)} {signs us : List Sign} {x : Exp} → StandsAt 2 types signs x (colon ∷ us) → ConstantStands types signs x (colon ∷ us)
constant_ended w = record { stands = w; ended = at_colon }

pub one_constant : {types : List (List ℕ)} {signs us vs : List Sign} {x y : Exp} → StandsAt 2 types signs x (colon ∷ us) → StandsAt 2 types signs y (colon ∷ vs) → (x ≡ y) × (us ≡ vs)
one_constant w v = let c = constant_same (constant_ended w) (constant_ended v) in (c.0, tails c.1)

-- where no colon stands behind the constant, there is none with a colon behind it
pub no_colon_constant : {types : List (List ℕ)} {signs us : List Sign} {x : Exp} → ConstantStands types signs x us → (Begins colon us → ⊥) → (y : Exp) (vs : List Sign) →
    StandsAt 2 types signs y (colon ∷ vs) → ⊥
no_colon_constant w none y vs v = none (subst (Begins colon) (sym (constant_same w (constant_ended v)).1) refl)

pub constant_before : {types : List (List ℕ)} {signs us vs : List Sign} {x : Exp} → us ≡ vs → ConstantStands types signs x us → StandsAt 2 types signs x vs
constant_before {types = types} {signs = signs} {x = x} q w = subst (λ z. StandsAt 2 types signs x z) q w.stands
