-- Constants before an end.
use Rattle.std.proofs.Common.{◌≡◌, ℕ, ◌≤◌, List, [], ◌∷◌, length, sym, subst, arith, refl}
use Rattle.po_tree.specs.declared.expression.Exp.{Exp}
use Rattle.po_tree.specs.Signs.{Sign, semicolon, brace_end, bracket_end}
use Rattle.po_tree.specs.NameSets.{AreSame}
use Rattle.po_exp_parts.specs.Continuing.{GoesOn}
use Rattle.po_exp_read.specs.Longest.{StandsAt, IsLongestAt}
use Rattle.po_exp_parts.specs.Places.{IsEnd, at_comma, at_semicolon, at_bracket, at_brace, at_colon, at_parenthesis, BeginsEnd}
use Rattle.po_exp_read.proofs.Comparing.{Compared, same, longer, shorter, goes_on-none, goes_on-comma, goes_on-bracket_end, goes_on-colon, goes_on-closing, punct_string}
use Rattle.po_exp_read.proofs.Compared.{reads_compared}
use Rattle.po_exp_parts.proofs.Fronts.{reads_no_bracket_end}
use Rattle.po_exp_read.proofs.Longest.{stand_reads_at, one_before_end}
use Rattle.po_decl_parts.specs.Constants.{ConstantStands}
use Rattle.po_decl_parts.proofs.Naming.{stands_same}

-- of two constants one is the other
pub constant_same : {types : List (List ℕ)} {signs us vs : List Sign} {x y : Exp} → ConstantStands types signs x us → ConstantStands types signs y vs → (x ≡ y) × (us ≡ vs)
constant_same {us = []} w v = absurd w.ended
constant_same {us = a ∷ us} {vs = []} w v = absurd v.ended
constant_same {types = types} {signs = signs} {us = a ∷ us} {vs = b ∷ vs} {x = x} {y = y} w v =
    one_before_end types 2 signs us vs x y a b (omega arith) w.ended v.ended w.stands v.stands

-- nothing goes on at an end
end_stops : (sign : Sign) (ts : List Sign) → IsEnd sign → GoesOn 2 (sign ∷ ts) → ⊥
end_stops sign ts at_comma g = goes_on-comma 2 ts (omega arith) g
end_stops sign ts at_semicolon g = goes_on-none 2 semicolon ts (semicolon ∷ ts) refl (punct_string _) refl g
end_stops sign ts at_bracket g = goes_on-bracket_end 2 ts g
end_stops sign ts at_brace g = goes_on-none 2 brace_end ts (brace_end ∷ ts) refl (punct_string _) refl g
end_stops sign ts at_colon g = goes_on-colon 2 ts g
end_stops sign ts at_parenthesis g = goes_on-closing 2 ts g

ended_stops : (ts : List Sign) → BeginsEnd ts → GoesOn 2 ts → ⊥
ended_stops [] is g = absurd is
ended_stops (sign ∷ ts) is g = end_stops sign ts is g

compared_longest : {x y : Exp} {us vs : List Sign} → length us ≤ length vs → BeginsEnd vs → Compared {A = Exp} (λ _ ws. GoesOn 2 ws) x us y vs → us ≡ vs
compared_longest long is (same p q) = q
compared_longest {vs = vs} long is (longer less g) = absurd (ended_stops vs is g)
compared_longest long is (shorter less g) = absurd (omega arith)

-- what ends where a constant does is no shorter than the longest expression
pub longest_ends : {types : List (List ℕ)} {signs us vs : List Sign} {x y : Exp} → IsLongestAt 2 types signs x us → StandsAt 2 types signs y vs → BeginsEnd vs → us ≡ vs
longest_ends {vs = vs} {y = y} best at is = compared_longest (best.longest y vs at) is (reads_compared (stand_reads_at best.stands).0 (stand_reads_at at).0)

-- so where no end stands behind the longest expression there is no constant
pub no_constant : {types names : List (List ℕ)} {signs us : List Sign} {x : Exp} → AreSame types names → IsLongestAt 2 names signs x us → (BeginsEnd us → ⊥) →
    (y : Exp) (vs : List Sign) → ConstantStands types signs y vs → ⊥
no_constant s best none y vs w = none (subst BeginsEnd (sym (longest_ends best (stands_same s w.stands) w.ended)) w.ended)

-- no constant begins with `]`
pub no_bracket_end : {types : List (List ℕ)} {signs us : List Sign} {x : Exp} (rest : List Sign) → signs ≡ bracket_end ∷ rest → StandsAt 2 types signs x us → ⊥
no_bracket_end rest q w = reads_no_bracket_end rest q (stand_reads_at w).0

-- a constant that a bracket closes
pub bracketed : {types : List (List ℕ)} {signs : List Sign} {x : Exp} (rest : List Sign) → StandsAt 2 types signs x (bracket_end ∷ rest) → ConstantStands types signs x (bracket_end ∷ rest)
bracketed rest w = record { stands = w; ended = at_bracket }
