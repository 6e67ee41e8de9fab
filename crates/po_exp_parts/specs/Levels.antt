-- Levels of expressions, counted from 0 for `,` (C99 6.5.1 to 6.5.17).
use Rattle.std.specs.Prelude.{ℕ}
use Rattle.po_exp_parts.specs.declared.levels.Level.{Level}
use Rattle.po_exp_parts.specs.declared.levels.Level.TheVariants as v

-- the least level of the expressions that may stand at a place
abbrev pub least_of : Level → ℕ
least_of v.Any = 0
least_of v.Assignment = 1
least_of v.Conditional = 2
