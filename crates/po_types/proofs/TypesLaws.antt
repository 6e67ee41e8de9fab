-- Facts on the words for types, one layer after the other.
use Rattle.std.specs.Prelude.{ℕ, ◌≡◌, Bool, List, Option, Some, None}
use Rattle.std.specs.Option.{option_map, option_map_or}
use Rattle.std.proofs.Common.{ap, sym, ◌∙◌}
use Rattle.po_arith.specs.declared.target.Target.{Target}
use Rattle.po_arith.specs.declared.int_type.IntType.{IntType}
use Rattle.po_types.specs.declared.layout.Layout.{Layout}
use Rattle.po_types.specs.declared.ctype.CType.{CType, out-CType, out-roll-CType, fold-roll-CType}
use Rattle.po_types.specs.declared.ctype.CType.TheVariants as c
use Rattle.po_types.specs.declared.ctype.CType.TheOpen.{CType-F}
use Rattle.po_types.specs.Integers.{int_bytes, word_bytes}
use Rattle.po_types.specs.Types.{bytes_of, counts_bytes, align_of, aligns, layout_of}

pub out_Void : out-CType c.Void ≡ CType-F.Void
out_Void = ap out-CType (sym c.rolls-Void) ∙ out-roll-CType CType-F.Void

pub out_Int : (t : IntType) → out-CType (c.Int t) ≡ CType-F.Int t
out_Int t = ap out-CType (sym (c.rolls-Int t)) ∙ out-roll-CType (CType-F.Int t)

pub out_Ptr : (t : CType) → out-CType (c.Ptr t) ≡ CType-F.Ptr t
out_Ptr t = ap out-CType (sym (c.rolls-Ptr t)) ∙ out-roll-CType (CType-F.Ptr t)

pub out_Array : (t : CType) (n : Option ℕ) → out-CType (c.Array t n) ≡ CType-F.Array t n
out_Array t n = ap out-CType (sym (c.rolls-Array t n)) ∙ out-roll-CType (CType-F.Array t n)

pub out_Struct : (n : ℕ) → out-CType (c.Struct n) ≡ CType-F.Struct n
out_Struct n = ap out-CType (sym (c.rolls-Struct n)) ∙ out-roll-CType (CType-F.Struct n)

pub out_Fun : (t : CType) (params : List CType) (more : Bool) → out-CType (c.Fun t params more) ≡ CType-F.Fun t params more
out_Fun t params more = ap out-CType (sym (c.rolls-Fun t params more)) ∙ out-roll-CType (CType-F.Fun t params more)

module _ (target : Target) (structs : List (Option Layout)) where
  pub bytes_Int : (t : IntType) → bytes_of target structs (c.Int t) ≡ Some (int_bytes t)
  unfolding bytes_of
  bytes_Int t = ap (bytes_of target structs) (sym (c.rolls-Int t)) ∙ fold-roll-CType _ (counts_bytes target structs) (CType-F.Int t)

  pub bytes_Ptr : (t : CType) → bytes_of target structs (c.Ptr t) ≡ Some (word_bytes target)
  unfolding bytes_of
  bytes_Ptr t = ap (bytes_of target structs) (sym (c.rolls-Ptr t)) ∙ fold-roll-CType _ (counts_bytes target structs) (CType-F.Ptr t)

  pub bytes_Struct : (n : ℕ) → bytes_of target structs (c.Struct n) ≡ option_map (λ layout. layout.size) (layout_of structs n)
  unfolding bytes_of
  bytes_Struct n = ap (bytes_of target structs) (sym (c.rolls-Struct n)) ∙ fold-roll-CType _ (counts_bytes target structs) (CType-F.Struct n)

  pub bytes_Fun : (t : CType) (params : List CType) (more : Bool) → bytes_of target structs (c.Fun t params more) ≡ None
  unfolding bytes_of
  bytes_Fun t params more = ap (bytes_of target structs) (sym (c.rolls-Fun t params more)) ∙ fold-roll-CType _ (counts_bytes target structs) (CType-F.Fun t params more)

  pub bytes_Void : bytes_of target structs c.Void ≡ None
  unfolding bytes_of
  bytes_Void = ap (bytes_of target structs) (sym c.rolls-Void) ∙ fold-roll-CType _ (counts_bytes target structs) CType-F.Void

  pub bytes_Array : (t : CType) (n : Option ℕ) → bytes_of target structs (c.Array t n) ≡ counts_bytes target structs (CType-F.Array (bytes_of target structs t) n)
  unfolding bytes_of
  bytes_Array t n = ap (bytes_of target structs) (sym (c.rolls-Array t n)) ∙ fold-roll-CType _ (counts_bytes target structs) (CType-F.Array t n)

  pub align_Int : (t : IntType) → align_of target structs (c.Int t) ≡ int_bytes t
  unfolding align_of
  align_Int t = ap (align_of target structs) (sym (c.rolls-Int t)) ∙ fold-roll-CType _ (aligns target structs) (CType-F.Int t)

  pub align_Ptr : (t : CType) → align_of target structs (c.Ptr t) ≡ word_bytes target
  unfolding align_of
  align_Ptr t = ap (align_of target structs) (sym (c.rolls-Ptr t)) ∙ fold-roll-CType _ (aligns target structs) (CType-F.Ptr t)

  pub align_Struct : (n : ℕ) → align_of target structs (c.Struct n) ≡ option_map_or (λ layout. layout.align) (layout_of structs n) 1
  unfolding align_of
  align_Struct n = ap (align_of target structs) (sym (c.rolls-Struct n)) ∙ fold-roll-CType _ (aligns target structs) (CType-F.Struct n)

  pub align_Fun : (t : CType) (params : List CType) (more : Bool) → align_of target structs (c.Fun t params more) ≡ 1
  unfolding align_of
  align_Fun t params more = ap (align_of target structs) (sym (c.rolls-Fun t params more)) ∙ fold-roll-CType _ (aligns target structs) (CType-F.Fun t params more)

  pub align_Void : align_of target structs c.Void ≡ 1
  unfolding align_of
  align_Void = ap (align_of target structs) (sym c.rolls-Void) ∙ fold-roll-CType _ (aligns target structs) CType-F.Void

  pub align_Array : (t : CType) (n : Option ℕ) → align_of target structs (c.Array t n) ≡ align_of target structs t
  unfolding align_of
  align_Array t n = ap (align_of target structs) (sym (c.rolls-Array t n)) ∙ fold-roll-CType _ (aligns target structs) (CType-F.Array t n)
