-- Sizes and alignments as the structs of a file give them.
use Rattle.std.specs.Prelude.{ℕ, ◌≡◌}
use Rattle.std.specs.Option.{option_map_or}
use Rattle.po_types.specs.declared.ctype.CType.{CType}
use Rattle.po_types.specs.declared.env.Env.{Env}
use Rattle.po_types.specs.Types.{size_of, align_of}
use Rattle.po_lowering.specs.Typed.{Typed}

-- the bytes of a type, 0 where it has no size
abbrev pub bytes_in : Env → CType → ℕ
bytes_in env t = option_map_or (λ bytes. bytes) (size_of env.target env.structs t) 0

abbrev pub align_in : Env → CType → ℕ
align_in env t = align_of env.target env.structs t

-- what typing says of sizes and alignments is what the environment says
pub record IsMeasured (env : Env) (f : Typed) : Type 0 where
  pub size : (t : CType) → f.size t ≡ bytes_in env t
  pub align : (t : CType) → f.align t ≡ align_in env t
