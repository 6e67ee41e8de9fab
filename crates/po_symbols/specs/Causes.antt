-- The least name for which files can't be joined, and its least pair of files.
use Rattle.std.specs.Prelude.{ℕ, ◌≢◌, List, Option, Some, None}
use Rattle.std.specs.Ordering.{nat_cmp, match_ordering}
use Rattle.std.specs.Cmp.Lexicographic.{slice_cmp}
use Rattle.std.specs.declared.cmp.Ordering.TheVariants.{Greater}
use Rattle.po_ir.specs.declared.unit.Unit.{Unit as FileUnit}
use Rattle.po_symbols.specs.declared.causes.Cause.{Cause}
use Rattle.po_symbols.specs.declared.link_fail.LinkFail.{LinkFail}
use Rattle.po_symbols.specs.declared.link_fail.LinkFail.TheVariants.{TwoBodies, Clash}
use Rattle.po_symbols.specs.Linking.{IsLeastPair, NoCause, IsRefused}

-- the pair is the least that is related, or there is none
abbrev pub IsPairOf : (ℕ → ℕ → Type 0) → Option (ℕ × ℕ) → Type 0
IsPairOf P None = (a b : ℕ) → P a b → ⊥
IsPairOf P (Some pair) = IsLeastPair P pair.0 pair.1

-- the name is the least that has a related pair, and the pair is its least
pub record IsFirst (P : List ℕ → ℕ → ℕ → Type 0) (cause : Cause) : Type 0 where
  pub least : IsLeastPair (P cause.name) cause.a.0 cause.b.0
  pub least_name : (other : List ℕ) (a b : ℕ) → P other a b → slice_cmp nat_cmp cause.name other ≢ Greater

abbrev pub IsFound : (List ℕ → ℕ → ℕ → Type 0) → Option Cause → Type 0
IsFound P None = (name : List ℕ) (a b : ℕ) → P name a b → ⊥
IsFound P (Some cause) = IsFirst P cause

abbrev pub two_bodies : Cause → LinkFail
two_bodies cause = TwoBodies cause.name cause.a cause.b

abbrev pub clash : Cause → LinkFail
clash cause = Clash cause.name cause.a cause.b

-- that of the lesser name, and two bodies where it is one
abbrev pub lesser : Cause → Cause → LinkFail
lesser bodies types = match_ordering (slice_cmp nat_cmp types.name bodies.name) (clash types) (two_bodies bodies) (two_bodies bodies)

abbrev pub answer : Option Cause → Option Cause → Option LinkFail
answer None None = None
answer None (Some types) = Some (clash types)
answer (Some bodies) None = Some (two_bodies bodies)
answer (Some bodies) (Some types) = Some (lesser bodies types)

-- the answer to the files' names, where there is one
abbrev pub IsAnswer : List FileUnit → Option LinkFail → Type 0
IsAnswer units None = NoCause units
IsAnswer units (Some fail) = IsRefused units fail
