-- What has no elements.
use Rattle.std.specs.Prelude.{ℕ, ◌≡◌, false}
use Rattle.std.specs.Option.{option_map_or}
use Rattle.std.proofs.Common.{refl, ap, sym, ◌∙◌, None}
use Rattle.po_types.specs.declared.ctype.CType.{CType, out-CType}
use Rattle.po_types.specs.declared.ctype.CType.TheVariants as c
use Rattle.po_types.specs.declared.ctype.CType.TheOpen.{CType-F}
use Rattle.po_types.specs.declared.env.Env.{Env}
use Rattle.po_types.specs.Types.{as_object}
use Rattle.po_types.proofs.TypesLaws.{bytes_Void}
use Rattle.po_lowering.specs.Types.{is_address, is_address_in, referenced, referenced_in}
use Rattle.po_lower_types.specs.Measured.{bytes_in}

nothing_referenced : (form : CType-F CType) → is_address_in form ≡ false → referenced_in form ≡ c.Void
nothing_referenced CType-F.Void q = refl
nothing_referenced (CType-F.Int t) q = refl
nothing_referenced (CType-F.Ptr t) q = absurd (cc)
nothing_referenced (CType-F.Array t n) q = absurd (cc)
nothing_referenced (CType-F.Struct n) q = refl
nothing_referenced (CType-F.Fun t params more) q = refl

pub no_elements : (env : Env) (t : CType) → is_address t ≡ false → 0 ≡ bytes_in env (referenced t)
no_elements env t q =
    ap (λ b. option_map_or (λ bytes. bytes) (option_map_or (as_object env.target) b None) 0) (sym (bytes_Void env.target env.structs)) ∙
    ap (bytes_in env) (sym (nothing_referenced (out-CType t) q))
