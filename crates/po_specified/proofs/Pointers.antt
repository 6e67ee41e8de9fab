-- Pointers, and arrays of them; one pointer for each star.
use Rattle.std.proofs.Common.{◌≡◌, ℕ, ◌+◌, ◌<◌, ◌≤◌, List, [], Option, Bool, length, drop, sym, ap, ◌∙◌, subst}
use Rattle.std.proofs.lemmas.List.{drop_more, drop_all}
use Rattle.po_arith.specs.declared.int_type.IntType.{IntType}
use Rattle.po_types.specs.declared.ctype.CType.{CType, out-CType}
use Rattle.po_types.specs.declared.ctype.CType.TheVariants as c
use Rattle.po_types.specs.declared.ctype.CType.TheOpen.{CType-F}
use Rattle.po_types.proofs.TypesLaws.{out_Void, out_Int, out_Ptr, out_Array, out_Struct, out_Fun}
use Rattle.po_typed.specs.BaseTypes.{ArePointers, pointer_itself, array_of_pointers, starred}

abbrev Parts : CType-F CType → Type 0
Parts (CType-F.Ptr t) = Unit {0}
Parts (CType-F.Array t n) = ArePointers t
Parts _ = ⊥

opened : {t : CType} → ArePointers t → Parts (out-CType t)
opened (pointer_itself t) = rw (out_Ptr t) tt
opened (array_of_pointers t n h) = rw (out_Array t n) h

at : {t : CType} {l : CType-F CType} → out-CType t ≡ l → ArePointers t → Parts l
at q h = subst Parts q (opened h)

pub is_pointer : (t to : CType) → t ≡ c.Ptr to → ArePointers t
is_pointer t to q = rw q (pointer_itself to)

pub of_elements : (t element : CType) (n : Option ℕ) → t ≡ c.Array element n → ArePointers t → ArePointers element
of_elements t element n q h = at (ap out-CType q ∙ out_Array element n) h

pub to_array : (t element : CType) (n : Option ℕ) → t ≡ c.Array element n → ArePointers element → ArePointers t
to_array t element n q h = rw q (array_of_pointers element n h)

pub not_void : (t : CType) → t ≡ c.Void → ArePointers t → ⊥
not_void t q h = at (ap out-CType q ∙ out_Void) h

pub not_number : (t : CType) (s : IntType) → t ≡ c.Int s → ArePointers t → ⊥
not_number t s q h = at (ap out-CType q ∙ out_Int s) h

pub not_struct : (t : CType) (n : ℕ) → t ≡ c.Struct n → ArePointers t → ⊥
not_struct t n q h = at (ap out-CType q ∙ out_Struct n) h

pub not_function : (t to : CType) (params : List CType) (more : Bool) → t ≡ c.Fun to params more → ArePointers t → ⊥
not_function t to params more q h = at (ap out-CType q ∙ out_Fun to params more) h

-- one star more
pub star_more : (t : CType) (stars : List (List (List ℕ))) (i : ℕ) → i < length stars → starred (c.Ptr t) (drop (i + 1) stars) ≡ starred t (drop i stars)
star_more t stars i in' = sym (ap (starred t) (drop_more stars i [] in'))

pub no_star : (t : CType) (stars : List (List (List ℕ))) (i : ℕ) → length stars ≤ i → starred t (drop i stars) ≡ t
no_star t stars i past = ap (starred t) (drop_all i stars past)
