-- What is read is what stands in front, so the longest that is read is the longest expression.
use Rattle.std.proofs.Common.{◌≡◌, ℕ, ◌≤◌, List, [], ◌∷◌, ◌++◌, sym, subst, arith, refl}
use Rattle.po_tree.specs.declared.expression.Exp.{Exp}
use Rattle.po_tree.specs.Signs.{Sign, semicolon, brace_end}
use Rattle.po_tree.specs.Heights.{height}
use Rattle.po_tree.specs.Printing.{flat}
use Rattle.po_exp_read.specs.Longest.{StandsBefore, StandsAt, IsLongest, IsLongestAt, NothingStands, NothingStandsAt}
use Rattle.po_exp_parts.specs.Places.{IsEnd, at_comma, at_semicolon, at_bracket, at_brace, at_colon, at_parenthesis}
use Rattle.po_exp_parts.specs.Finding.{IsBest, IsNone}
use Rattle.po_exp_parts.specs.Reading.{Reads, stop}
use Rattle.po_exp_read.proofs.Sound.{reads_sound}
use Rattle.po_exp_read.proofs.Complete.{reads_complete}
use Rattle.po_exp_parts.specs.Continuing.{GoesOn}
use Rattle.po_exp_read.proofs.Comparing.{ends_same, goes_on-none, goes_on-comma, goes_on-bracket_end, goes_on-colon, goes_on-closing, punct_string}
use Rattle.po_exp_read.proofs.Compared.{reads_compared}
use Rattle.po_exp_read.proofs.Single.{reads_one}

-- an expression that is read at a level, and is not too high, stands there
pub reads_stand_at : {types : List (List ℕ)} {l : ℕ} {ts us : List Sign} {x : Exp} → Reads types l ts x us → height x ≤ 256 → StandsAt l types ts x us
reads_stand_at read low =
    let p = reads_sound read in
    record { stands = record { formed = record { level_of = p.0; formed = p.2; nested = low }; printed = p.3 }; high = p.1 }

-- an expression that stands there is read
pub stand_reads_at : {types : List (List ℕ)} {l : ℕ} {ts us : List Sign} {x : Exp} → StandsAt l types ts x us → Reads types l ts x us × (height x ≤ 256)
stand_reads_at {types = types} {l = l} {us = us} {x = x} at =
    let stands = at.stands in
    let read : Reads types l (flat x ++ us) x us = reads_complete stands.formed.formed at.high (stop l stands.formed.level_of x us) in
    (subst (λ v. Reads types l v x us) (sym stands.printed) read, stands.formed.nested)

-- the longest that is read at a level is the longest expression of it
pub is_longest_at : {types : List (List ℕ)} {l : ℕ} {ts us : List Sign} {x : Exp} → IsBest height (λ y vs. Reads types l ts y vs) 256 x us → IsLongestAt l types ts x us
is_longest_at best = record {
  stands = reads_stand_at best.stands best.shallow;
  longest = λ y rest at. let p = stand_reads_at at in best.best y rest p.0 p.1;
}

-- where nothing is read no expression stands
pub nothing_stands_at : {types : List (List ℕ)} {l : ℕ} {ts : List Sign} → IsNone height (λ y vs. Reads types l ts y vs) 256 → NothingStandsAt l types ts
nothing_stands_at none y rest at = let p = stand_reads_at at in none y rest p.0 p.1

any : {types : List (List ℕ)} {ts us : List Sign} {x : Exp} → StandsBefore types ts x us → StandsAt 0 types ts x us
any stands = record { stands = stands; high = omega arith }

-- the same of all expressions
pub is_longest : {types : List (List ℕ)} {ts us : List Sign} {x : Exp} → IsBest height (λ y vs. Reads types 0 ts y vs) 256 x us → IsLongest types ts x us
is_longest best = let h = is_longest_at best in record { stands = h.stands.stands; longest = λ y rest stands. h.longest y rest (any stands) }

pub nothing_stands : {types : List (List ℕ)} {ts : List Sign} → IsNone height (λ y vs. Reads types 0 ts y vs) 256 → NothingStands types ts
nothing_stands none y rest stands = nothing_stands_at none y rest (any stands)

-- signs are one expression at most
pub one_tree : {types : List (List ℕ)} {ts : List Sign} {x y : Exp} → StandsBefore types ts x [] → StandsBefore types ts y [] → x ≡ y
one_tree left right = reads_one (stand_reads_at (any left)).0 (stand_reads_at (any right)).0

-- nothing of a level above the comma's goes on at an end
end_stops : (l : ℕ) (sign : Sign) (ts : List Sign) → 1 ≤ l → IsEnd sign → GoesOn l (sign ∷ ts) → ⊥
end_stops l sign ts h at_comma g = goes_on-comma l ts h g
end_stops l sign ts h at_semicolon g = goes_on-none l semicolon ts (semicolon ∷ ts) refl (punct_string _) refl g
end_stops l sign ts h at_bracket g = goes_on-bracket_end l ts g
end_stops l sign ts h at_brace g = goes_on-none l brace_end ts (brace_end ∷ ts) refl (punct_string _) refl g
end_stops l sign ts h at_colon g = goes_on-colon l ts g
end_stops l sign ts h at_parenthesis g = goes_on-closing l ts g

-- before an end there is one expression at most
pub one_before_end : (types : List (List ℕ)) (least : ℕ) (signs us vs : List Sign) (x y : Exp) (a b : Sign) → 1 ≤ least → IsEnd a → IsEnd b →
    StandsAt least types signs x (a ∷ us) → StandsAt least types signs y (b ∷ vs) → (x ≡ y) × (a ∷ us ≡ b ∷ vs)
one_before_end types least signs us vs x y a b h p q left right =
    ends_same (end_stops least a us h p) (end_stops least b vs h q) (reads_compared (stand_reads_at left).0 (stand_reads_at right).0)
