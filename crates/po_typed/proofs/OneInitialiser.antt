-- An initialiser fits a type in one way.
use Rattle.std.proofs.Common.{◌≡◌, ℕ, ◌+◌, List, [], ◌∷◌, ◌++◌, length, Option, Some, None, refl, sym, ap, ◌∙◌, subst, ◌⊎◌, inl, inr, arith}
use Rattle.std.specs.Prelude.{get_or}
use Rattle.po_arith.specs.declared.int_type.IntType.{IntType}
use Rattle.po_tree.specs.declared.expression.Exp.{Exp, out-Exp}
use Rattle.po_tree.specs.declared.expression.Exp.TheOpen.{Exp-F}
use Rattle.po_tree.specs.declared.declaration.Init.{Init, out-Init}
use Rattle.po_tree.specs.declared.declaration.Init.TheOpen.{Init-F}
use Rattle.po_types.specs.declared.ctype.CType.{CType, out-CType}
use Rattle.po_types.specs.declared.ctype.CType.TheVariants as c
use Rattle.po_types.specs.declared.ctype.CType.TheOpen.{CType-F}
use Rattle.po_types.specs.Integers.{bool_type}
use Rattle.po_types.specs.Types.{integer}
use Rattle.po_types.specs.Laws.{OneFormat}
use Rattle.po_types.proofs.TypesLaws.{out_Int, out_Ptr, out_Array, out_Struct}
use Rattle.po_typed.specs.Scopes.{Context}
use Rattle.po_typed.specs.Operands.{value_type, value_layer}
use Rattle.po_typed.specs.Constants.{AreStrings}
use Rattle.po_typed.specs.Expressions.{Pair, pair, char, Types, string, Operand, operand, Assigned, assigned_number, assigned_struct, assigned_pointer, assigned_null, assigned_bool}
use Rattle.po_typed.specs.Initialisers.{Place, IsScalar, scalar_number, scalar_pointer, text_type, IsText, text_alone, text_in_braces, Initialises, scalar_value, scalar_in_braces, struct_value, struct_list, array_list, unsized_list, text, unsized_text, InMembers, no_more_values, member_value, InElements, no_more_elements, element_value}
use Rattle.po_typed.proofs.OneConstant.{strings_are_one}
use Rattle.po_typed.proofs.OneType.{found_or_not, one_integer, no_pointer, integer_Int, integer_Struct}
use Rattle.po_typed.proofs.OneForm.{SameNamed, joined, texts_of, strings_as}
use Rattle.po_typed.proofs.OneExpression.{one_assigned}
use Rattle.po_lists.proofs.Options.{one_some}

-- the expression that stands alone, or alone in braces
abbrev value_alone : Init-F Init → Option Exp
value_alone (Init-F.One x) = Some x
value_alone _ = None

abbrev value_in : Init-F Init → Option Exp
value_in (Init-F.One x) = Some x
value_in (Init-F.Many (y ∷ []) comma) = value_alone (out-Init y)
value_in _ = None

abbrev items_in : Init-F Init → Option (List Init)
items_in (Init-F.Many xs comma) = Some xs
items_in _ = None

-- an array with its size, or with that of its initialiser
abbrev sized_as : CType → Option ℕ → ℕ → CType
sized_as t (Some n) m = c.Array t (Some n)
sized_as t None m = c.Array t (Some m)

one_text : {l : Init-F Init} {texts others : List (List ℕ)} → IsText l texts → IsText l others → texts ≡ others
one_text (text_alone h) (text_alone h') = ap texts_of (sym h ∙ h')
one_text (text_in_braces {x = x} q h) (text_in_braces {x = x'} q' h') =
    let e : x ≡ x' = one_some (ap value_alone q) (ap value_alone q') in ap texts_of (sym h ∙ ap out-Exp e ∙ h')

-- only numbers and pointers are assigned to a character
number_assigned : {ctx : Context} {x : Exp} {t : CType} {ps : List Pair} (k : IntType) → Assigned ctx x t ps → t ≡ c.Int k → k.bits ≡ 8 → (s : IntType) × Operand ctx x (c.Int s) t ps
number_assigned k (assigned_number s t A) e b = (s, A)
number_assigned k (assigned_struct n A) e b = found_or_not (integer_Int k) (ap integer (sym e) ∙ integer_Struct n)
number_assigned k (assigned_pointer t u A) e b = no_pointer k t (sym e)
number_assigned k (assigned_null s t h A) e b = no_pointer k t (sym e)
number_assigned k (assigned_bool u A) e b =
    let q : bool_type ≡ k = one_integer bool_type k e in let n : 1 ≡ 8 = ap (λ z. z.bits) q ∙ b in absurd (omega (arith, n))

type_of_text : {ctx : Context} {texts : List (List ℕ)} {t to : CType} {ps : List Pair} → Types ctx (Exp-F.Str texts) t to ps → (n : ℕ) × (t ≡ c.Array char (Some n))
type_of_text (string {values = values} h q) = (length values + 1, q)

pointer_to_text : {ctx : Context} {x : Exp} {texts : List (List ℕ)} {v to : CType} {ps : List Pair} → Operand ctx x v to ps → out-Exp x ≡ Exp-F.Str texts → v ≡ c.Ptr char
pointer_to_text {ctx = ctx} (operand {t = t} {to = to} {ps = ps} A q) e =
    let T = type_of_text (subst (λ z. Types ctx z t to ps) e A) in
    one_some (sym (ap (value_type ctx) T.1) ∙ q) (ap (λ z. value_layer ctx z (c.Array char (Some T.0))) (out_Array char (Some T.0)))

module _ (ctx : Context) (place : Place) where
  pub record ScalarParts (t : CType) (l : Init-F Init) (u : CType) (ps : List Pair) : Type 0 where
    pub value : Exp
    pub alone : value_in l ≡ Some value
    pub assigned : Assigned ctx value t ps
    pub type : u ≡ t

  pub record ListParts (t : CType) (n : Option ℕ) (l : Init-F Init) (u : CType) (ps : List Pair) : Type 0 where
    pub items : List Init
    pub listed : items_in l ≡ Some items
    pub elements : InElements ctx place t items ps
    pub type : u ≡ sized_as t n (length items)

  pub record TextParts (t : CType) (n : Option ℕ) (l : Init-F Init) (u : CType) (ps : List Pair) : Type 0 where
    pub character : IntType
    pub texts : List (List ℕ)
    pub values : List ℕ
    pub element : t ≡ c.Int character
    pub byte : character.bits ≡ 8
    pub alone : IsText l texts
    pub strings : AreStrings texts values
    pub type : u ≡ sized_as t n (length values + 1)
    pub pairs : ps ≡ pair (text_type values) (text_type values) ∷ []

  abbrev Parts : CType-F CType → Init-F Init → CType → List Pair → Type 0
  Parts (CType-F.Int t) l u ps = ScalarParts (c.Int t) l u ps
  Parts (CType-F.Ptr t) l u ps = ScalarParts (c.Ptr t) l u ps
  Parts (CType-F.Struct n) (Init-F.One x) u ps = (u ≡ c.Struct n) × Assigned ctx x (c.Struct n) ps
  Parts (CType-F.Struct n) (Init-F.Many xs comma) u ps = (u ≡ c.Struct n) × InMembers ctx place (get_or ctx.members n []) xs ps
  Parts (CType-F.Array t n) l u ps = ListParts t n l u ps ⊎ TextParts t n l u ps
  Parts _ l u ps = ⊥

  -- a scalar's initialiser, by the type of the scalar
  as_scalar : {t u : CType} {l : Init-F Init} {ps : List Pair} → IsScalar t → ScalarParts t l u ps → Parts (out-CType t) l u ps
  as_scalar (scalar_number t) p = rw (out_Int t) p
  as_scalar (scalar_pointer t) p = rw (out_Ptr t) p

  opened : {t u : CType} {l : Init-F Init} {ps : List Pair} → Initialises ctx place t l u ps → Parts (out-CType t) l u ps
  opened (scalar_value {x = x} h A f) = as_scalar h (record { value = x; alone = refl; assigned = A; type = refl })
  opened (scalar_in_braces {x = x} h q A f) = as_scalar h (record { value = x; alone = ap value_alone q; assigned = A; type = refl })
  opened (struct_value n A h) = rw (out_Struct n) (refl, A)
  opened (struct_list {n = n} h A) = rw (out_Struct n) (refl, A)
  opened (array_list {t = t} {n = n} {xs = xs} h A) = rw (out_Array t (Some n)) (inl (record { items = xs; listed = refl; elements = A; type = refl }))
  opened (unsized_list {t = t} {xs = xs} A q h) = rw (out_Array t None) (inl (record { items = xs; listed = refl; elements = A; type = q }))
  opened (text t {n = n} {texts = texts} {values = values} i b v h) =
      rw (out_Array (c.Int t) (Some n)) (inr (record { character = t; texts = texts; values = values; element = refl; byte = b; alone = i; strings = v; type = refl; pairs = refl }))
  opened (unsized_text t {texts = texts} {values = values} i b v q) =
      rw (out_Array (c.Int t) None) (inr (record { character = t; texts = texts; values = values; element = refl; byte = b; alone = i; strings = v; type = q; pairs = refl }))

  opened_at : {t u : CType} {l : Init-F Init} {ps : List Pair} {k : CType-F CType} → Initialises ctx place t l u ps → out-CType t ≡ k → Parts k l u ps
  opened_at {u = u} {l = l} {ps = ps} d q = subst (λ z. Parts z l u ps) q (opened d)

  scalar_parts : {t u : CType} {l : Init-F Init} {ps : List Pair} → IsScalar t → Initialises ctx place t l u ps → ScalarParts t l u ps
  scalar_parts (scalar_number t) d = opened_at d (out_Int t)
  scalar_parts (scalar_pointer t) d = opened_at d (out_Ptr t)

  -- a string is no element of an array of characters
  no_text_among : {A : Type 0} {t : CType} {xs : List Init} {l : Init-F Init} {ps : List Pair} {texts : List (List ℕ)} (k : IntType) → InElements ctx place t xs ps → items_in l ≡ Some xs →
      IsText l texts → t ≡ c.Int k → k.bits ≡ 8 → A
  no_text_among k no_more_elements q (text_alone h) e b = absurd cc
  no_text_among k no_more_elements q (text_in_braces h r) e b = absurd cc
  no_text_among k (element_value A B) q (text_alone h) e b = absurd cc
  no_text_among {t = t} k (element_value {x = z} {ps = ps} A B) q (text_in_braces {y = y} {x = x} h r) e b =
      let ez : y ≡ z = cc in
      let P : ScalarParts (c.Int k) (Init-F.One x) t ps = opened_at (subst (λ i. Initialises ctx place t i t ps) (ap out-Init (sym ez) ∙ h) A) (ap out-CType e ∙ out_Int k) in
      let ex : x ≡ P.value = cc in
      let N = number_assigned k P.assigned refl b in
      no_pointer N.0 char (pointer_to_text N.1 (ap out-Exp (sym ex) ∙ r))

  assigned_of : {x y : Exp} {t : CType} {ps : List Pair} → Assigned ctx y t ps → x ≡ y → Assigned ctx x t ps
  assigned_of {t = t} {ps = ps} A e = subst (λ z. Assigned ctx z t ps) (sym e) A

  elements_as : {t : CType} {xs ys : List Init} {ps : List Pair} → InElements ctx place t ys ps → xs ≡ ys → InElements ctx place t xs ps
  elements_as {t = t} {ps = ps} A e = subst (λ z. InElements ctx place t z ps) (sym e) A

module _ (one_format : OneFormat) (ctx : Context) (place : Place) where
  mutual
    pub one_initialised : {t u v : CType} {l : Init-F Init} {ps qs : List Pair} → Initialises ctx place t l u ps → Initialises ctx place t l v qs → SameNamed u ps v qs
    one_initialised (scalar_value h A f) d =
        let P = scalar_parts ctx place h d in
        record { type = sym P.type; pairs = one_assigned one_format ctx A (assigned_of ctx place P.assigned (one_some refl P.alone)) }
    one_initialised (scalar_in_braces h q A f) d =
        let P = scalar_parts ctx place h d in
        record { type = sym P.type; pairs = one_assigned one_format ctx A (assigned_of ctx place P.assigned (one_some (ap value_alone q) P.alone)) }
    one_initialised (struct_value n A h) d = let p = opened_at ctx place d (out_Struct n) in record { type = sym p.0; pairs = one_assigned one_format ctx A p.1 }
    one_initialised (struct_list {n = n} h A) d = let p = opened_at ctx place d (out_Struct n) in record { type = sym p.0; pairs = one_in_members A p.1 }
    one_initialised (array_list {t = t} {n = n} h A) d = elim (opened_at ctx place d (out_Array t (Some n))) [
      | inl P ↦ record { type = sym P.type; pairs = one_in_elements A (elements_as ctx place P.elements (one_some refl P.listed)) }
      | inr P ↦ no_text_among ctx place P.character A refl P.alone P.element P.byte
    ]
    one_initialised (unsized_list {t = t} A q h) d = elim (opened_at ctx place d (out_Array t None)) [
      | inl P ↦
          let e = one_some refl P.listed in
          record { type = q ∙ ap (λ z. c.Array t (Some (length z))) e ∙ sym P.type; pairs = one_in_elements A (elements_as ctx place P.elements e) }
      | inr P ↦ no_text_among ctx place P.character A refl P.alone P.element P.byte
    ]
    one_initialised (text t {n = n} i b v h) d = elim (opened_at ctx place d (out_Array (c.Int t) (Some n))) [
      | inl P ↦ no_text_among ctx place t P.elements P.listed i refl b
      | inr P ↦
          let e = strings_are_one v (strings_as P.strings (one_text i P.alone)) in
          record { type = sym P.type; pairs = ap (λ z. pair (text_type z) (text_type z) ∷ []) e ∙ sym P.pairs }
    ]
    one_initialised (unsized_text t i b v q) d = elim (opened_at ctx place d (out_Array (c.Int t) None)) [
      | inl P ↦ no_text_among ctx place t P.elements P.listed i refl b
      | inr P ↦
          let e = strings_are_one v (strings_as P.strings (one_text i P.alone)) in
          record { type = q ∙ ap (λ z. c.Array (c.Int t) (Some (length z + 1))) e ∙ sym P.type; pairs = ap (λ z. pair (text_type z) (text_type z) ∷ []) e ∙ sym P.pairs }
    ]

    one_in_members : {ms : List (List ℕ × CType)} {xs : List Init} {ps qs : List Pair} → InMembers ctx place ms xs ps → InMembers ctx place ms xs qs → ps ≡ qs
    one_in_members no_more_values no_more_values = refl
    one_in_members (member_value A B) (member_value A' B') = let Q = one_initialised A A' in joined Q.pairs (one_in_members B B')

    one_in_elements : {t : CType} {xs : List Init} {ps qs : List Pair} → InElements ctx place t xs ps → InElements ctx place t xs qs → ps ≡ qs
    one_in_elements no_more_elements no_more_elements = refl
    one_in_elements (element_value A B) (element_value A' B') = let Q = one_initialised A A' in joined Q.pairs (one_in_elements B B')
