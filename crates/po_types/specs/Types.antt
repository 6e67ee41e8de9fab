-- What follows from a type alone: its size and alignment, what it decays to, what agrees with it (C99 6.2.5, 6.2.7, 6.3.2.1).
use Rattle.std.specs.Prelude.{ℕ, ◌*◌, Bool, cond, ◌&&◌, nat_le, List, slice_get, Option, Some, None}
use Rattle.std.specs.Option.{option_map, option_map_or}
use Rattle.po_arith.specs.declared.int_type.IntType.{IntType}
use Rattle.po_arith.specs.declared.target.Target.{Target}
use Rattle.po_types.specs.declared.ctype.CType.{CType, fold-CType, out-CType}
use Rattle.po_types.specs.declared.ctype.CType.TheVariants as c
use Rattle.po_types.specs.declared.ctype.CType.TheOpen.{CType-F}
use Rattle.po_types.specs.declared.layout.Layout.{Layout}
use Rattle.po_types.specs.Integers.{word_bytes, int_bytes, most_bytes}

-- the layout of a struct by its number; None of an incomplete one
abbrev pub layout_of : List (Option Layout) → ℕ → Option Layout
layout_of structs n = option_map_or (λ layout. layout) (slice_get structs n) None

-- One layer: the bytes of a type from those of its parts. A function, void, and what isn't complete has none.
abbrev pub counts_bytes : Target → List (Option Layout) → CType-F (Option ℕ) → Option ℕ
counts_bytes target structs CType-F.Void = None
counts_bytes target structs (CType-F.Int t) = Some (int_bytes t)
counts_bytes target structs (CType-F.Ptr to) = Some (word_bytes target)
counts_bytes target structs (CType-F.Array element None) = None
counts_bytes target structs (CType-F.Array element (Some n)) = option_map (λ bytes. n * bytes) element
counts_bytes target structs (CType-F.Struct n) = option_map (λ layout. layout.size) (layout_of structs n)
counts_bytes target structs (CType-F.Fun to params more) = None

unfoldable pub bytes_of : Target → List (Option Layout) → CType → Option ℕ
bytes_of target structs = fold-CType (Option ℕ) (counts_bytes target structs)

-- a number of bytes that an object may have
abbrev pub as_object : Target → ℕ → Option ℕ
as_object target bytes = cond (nat_le 1 bytes && nat_le bytes (most_bytes target)) (Some bytes) None

-- the size of an object of the type: None where the type isn't complete, has no bytes, or more than an object may have (6.2.5p1)
abbrev pub size_of : Target → List (Option Layout) → CType → Option ℕ
size_of target structs t = option_map_or (as_object target) (bytes_of target structs t) None

-- One layer: void and an incomplete struct count as 1.
abbrev pub aligns : Target → List (Option Layout) → CType-F ℕ → ℕ
aligns target structs CType-F.Void = 1
aligns target structs (CType-F.Int t) = int_bytes t
aligns target structs (CType-F.Ptr to) = word_bytes target
aligns target structs (CType-F.Array element n) = element
aligns target structs (CType-F.Struct n) = option_map_or (λ layout. layout.align) (layout_of structs n) 1
aligns target structs (CType-F.Fun to params more) = 1

unfoldable pub align_of : Target → List (Option Layout) → CType → ℕ
align_of target structs = fold-CType ℕ (aligns target structs)

-- what a type is made of, where it is of this kind: an integer type, a pointer, an array, a struct, a function
abbrev pub integer_layer : CType-F CType → Option IntType
integer_layer (CType-F.Int t) = Some t
integer_layer _ = None

abbrev pub integer : CType → Option IntType
integer t = integer_layer (out-CType t)

abbrev pub pointee_layer : CType-F CType → Option CType
pointee_layer (CType-F.Ptr t) = Some t
pointee_layer _ = None

abbrev pub pointee : CType → Option CType
pointee t = pointee_layer (out-CType t)

abbrev pub elements_layer : CType-F CType → Option (CType × Option ℕ)
elements_layer (CType-F.Array t n) = Some (t, n)
elements_layer _ = None

abbrev pub elements : CType → Option (CType × Option ℕ)
elements t = elements_layer (out-CType t)

abbrev pub structure_layer : CType-F CType → Option ℕ
structure_layer (CType-F.Struct n) = Some n
structure_layer _ = None

abbrev pub structure : CType → Option ℕ
structure t = structure_layer (out-CType t)

abbrev pub signature_layer : CType-F CType → Option (CType × (List CType × Bool))
signature_layer (CType-F.Fun t params more) = Some (t, (params, more))
signature_layer _ = None

abbrev pub signature : CType → Option (CType × (List CType × Bool))
signature t = signature_layer (out-CType t)

-- an array is converted to a pointer to its first element (6.3.2.1p3), as a parameter too (6.7.5.3p7); another type stays
abbrev pub decays : CType-F CType → CType → CType
decays (CType-F.Array element n) t = c.Ptr element
decays _ t = t

abbrev pub decayed : CType → CType
decayed t = decays (out-CType t) t

-- Two declarations of one name agree where their types are equal, or are arrays of one element type of which one has no size (6.2.7p1, 6.7.5.2p6).
pub data Agree : CType → CType → Type 0 where
  equal : (t : CType) → Agree t t
  first_without_size : (element : CType) (n : Option ℕ) → Agree (c.Array element None) (c.Array element n)
  second_without_size : (element : CType) (n : Option ℕ) → Agree (c.Array element n) (c.Array element None)

-- what both declarations together say of the type: the size, where one has it (6.2.7p3)
abbrev pub completes : CType-F CType → CType → CType → CType
completes (CType-F.Array element None) t u = u
completes _ t u = t

abbrev pub composite : CType → CType → CType
composite t u = completes (out-CType t) t u
