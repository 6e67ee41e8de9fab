-- What a predicate at a node becomes at the entry of its function, and which predicates a function may assume.
use Rattle.std.specs.Prelude.{ℕ, ℤ, pos, neg_ℤ, ◌-ℤ◌, ◌^◌, ◌==◌, nat_lt, nat_le, int_le, Bool, true, false, cond, ◌&&◌, ◌||◌, Option, Some, None}
use Rattle.po_pred.specs.declared.pred.Atom.{Atom}
use Rattle.po_pred.specs.declared.pred.Atom.TheVariants.{Reg, Param}
use Rattle.po_pred.specs.declared.pred.Place.{Place}
use Rattle.po_pred.specs.declared.pred.Pred.{Pred}
use Rattle.po_pred.specs.declared.pred.Pred.TheVariants.{Nonzero, NoOver}
use Rattle.po_pred.specs.Weight.{weight_of}
use Rattle.po_app.specs.Discharge.{range_of}

-- a parameter still has its argument's value
abbrev pub argument_place : ℕ → Place → Place
argument_place r p = record { atom = Some (Param r); lo = p.lo; hi = p.hi }

-- a register that is no parameter may have every int
abbrev pub range_place : Place → Place
range_place p = record { atom = None; lo = (range_of p).lo; hi = (range_of p).hi }

abbrev pub entered : ℕ → Option Atom → Place → Place
entered params (Some (Reg r)) p = cond (nat_lt r.0 params) (argument_place r.0 p) (range_place p)
entered params _ p = p

-- what a place is at the entry of a function of so many parameters: a number stays, a parameter is its argument, and any
-- other register becomes its range
abbrev pub entry_place : ℕ → Place → Place
entry_place params p = entered params p.atom p

abbrev pub entry_second : ℕ → Option Place → Option Place
entry_second params None = None
entry_second params (Some p) = Some (entry_place params p)

abbrev pub entry_predicate : ℕ → Pred → Pred
entry_predicate params (Nonzero x) = Nonzero (entry_place params x)
entry_predicate params (NoOver op bits a b) = NoOver op bits (entry_place params a) (entry_second params b)
entry_predicate params q = q

abbrev pub from_to : ℤ → ℤ → Place → Bool
from_to lo hi p = int_le lo p.lo && int_le p.lo p.hi && int_le p.hi hi

abbrev pub allowed_from : ℕ → Option Atom → Place → Bool
allowed_from params None p = from_to (neg_ℤ (pos (2 ^ 63))) (pos (2 ^ 64) -ℤ pos 1) p
allowed_from params (Some (Reg r)) p = false
allowed_from params (Some (Param i)) p = nat_lt i params && from_to (neg_ℤ (pos 1024)) (pos 1024) p

-- a place of an assumption: numbers of -2^63..2^64-1, or a parameter with offsets of -1,024..1,024
abbrev pub is_allowed : ℕ → Place → Bool
is_allowed params p = allowed_from params p.atom p

abbrev pub names_parameter : Option Atom → Bool
names_parameter (Some (Param i)) = true
names_parameter _ = false

-- its places are allowed, and a parameter is among them; a predicate of two places has no more than two
abbrev pub fits_parameters : ℕ → Pred → Bool
fits_parameters params (Nonzero x) = is_allowed params x && names_parameter x.atom
fits_parameters params (NoOver op bits a None) = false
fits_parameters params (NoOver op bits a (Some b)) =
    is_allowed params a && is_allowed params b && (names_parameter a.atom || names_parameter b.atom) && (bits == 32 || bits == 64)
fits_parameters params _ = false

-- a function of so many parameters may assume it
abbrev pub is_assumable : ℕ → Pred → Bool
is_assumable params q = fits_parameters params q && nat_le (weight_of q) 12

-- to what a predicate is delegated
abbrev pub delegated : ℕ → Pred → Option Pred
delegated params q = cond (is_assumable params (entry_predicate params q)) (Some (entry_predicate params q)) None
