-- What a part of a declaration at the front of signs is: well formed, printed there, and all that could be read.
use Rattle.std.specs.Prelude.{ℕ, ◌≤◌, ◌≡◌, ◌≢◌, Bool, List, [], ◌∷◌, ◌++◌, flat_map, Option, Some}
use Rattle.po_tree.specs.declared.expression.Exp.{Exp}
use Rattle.po_tree.specs.declared.expression.Member.{Member}
use Rattle.po_tree.specs.declared.expression.Specifier.{Specifier}
use Rattle.po_tree.specs.declared.expression.Specifier.TheVariants as sp
use Rattle.po_tree.specs.Signs.{Sign, star, bracket, brace_end}
use Rattle.po_tree.specs.Printing.{flat, flat_specifier, prints_star, in_brackets, optional}
use Rattle.po_tree.specs.Heights.{specifier_height}
use Rattle.po_tree.specs.Expressions.{Typed, SizesFormed}
use Rattle.po_tree.specs.Declarations.{AreStars, Enumerators, Specs}
use Rattle.po_exp_read.specs.Enclosed.{sizes_height}
use Rattle.po_exp_parts.specs.Places.{Begins, BeginsQualifier}
use Rattle.po_decl_parts.specs.Enumerators.{flat_enumerators, enumerators_height}
use Rattle.po_decl_parts.specs.Specifiers.{SpecifierStands}

-- no qualifier stands behind the last star, where there is one
abbrev pub NoQualifierBehind : List (List (List ℕ)) → List Sign → Type 0
NoQualifierBehind [] us = Unit {0}
NoQualifierBehind (words ∷ stars) us = BeginsQualifier us → ⊥

pub record StarsPrinted (signs : List Sign) (stars : List (List (List ℕ))) (us : List Sign) : Type 0 where
  pub formed : AreStars stars
  pub printed : signs ≡ flat_map prints_star stars ++ us
  pub no_star : Begins star us → ⊥
  pub no_qualifier : NoQualifierBehind stars us

abbrev pub flat_sizes : List (Option Exp) → List Sign
flat_sizes sizes = flat_map (λ size. in_brackets (optional flat size)) sizes

pub record SizesPrinted (types : List (List ℕ)) (signs : List Sign) (sizes : List (Option Exp)) (us : List Sign) : Type 0 where
  pub formed : SizesFormed types sizes
  pub nested : sizes_height sizes ≤ 256
  pub printed : signs ≡ flat_sizes sizes ++ us
  pub no_size : Begins bracket us → ⊥

-- one enumerator at least, and the brace behind them
pub record EnumeratorsPrinted (types : List (List ℕ)) (signs : List Sign) (items : List (List ℕ × Option Exp)) (more : Bool) (types' : List (List ℕ)) (us : List Sign) : Type 0 where
  pub some : items ≢ []
  pub formed : Enumerators types items types'
  pub nested : enumerators_height items ≤ 256
  pub printed : signs ≡ flat_enumerators items more ++ (brace_end ∷ us)

-- with what may follow it the specifier is one of a declaration's
pub record SpecifierPrinted (outer free : Bool) (types : List (List ℕ)) (seen : Typed) (signs : List Sign)
    (spec : Specifier) (free' : Bool) (types' : List (List ℕ)) (seen' : Typed) (us : List Sign) : Type 0 where
  pub printed : signs ≡ flat_specifier spec ++ us
  pub nested : specifier_height spec ≤ 256
  pub before : (rest : List Specifier) (last : List (List ℕ)) (sort : Typed) → Specs outer free' types' seen' rest last sort → Specs outer free types seen (spec ∷ rest) last sort

-- the first of a declaration's specifiers stands at the front
pub record BeginsSpecifiers (outer free : Bool) (types : List (List ℕ)) (seen : Typed) (signs : List Sign) (spec : Specifier) (us : List Sign)
    (rest : List Specifier) (last : List (List ℕ)) (sort : Typed) : Type 0 where
  pub free' : Bool
  pub types' : List (List ℕ)
  pub seen' : Typed
  pub stands : SpecifierStands outer free types seen signs spec free' types' seen' us
  pub others : Specs outer free' types' seen' rest last sort

abbrev pub HasMembers : Specifier → Type 0
HasMembers spec = (tag : Option (List ℕ)) × (ms : List Member) × (spec ≡ sp.Struct tag (Some ms))
