-- Leaves that are constants: what numbers, characters, names and type names say.
use Rattle.std.proofs.Common.{◌≡◌, ℕ, List, Bool, true, Option, Some, None, refl, sym, ap, ◌∙◌, subst}
use Rattle.std.specs.Prelude.{ℤ, pos, ◌==◌}
use Rattle.std.specs.Option.{is_some}
use Rattle.std.proofs.lemmas.Bool.Decides.{Decides-eqb}
use Rattle.std.proofs.Common.{FitsSigned, of_z, to_z}
use Rattle.std.specs.Int.{w128}
use Rattle.std.proofs.lemmas.Int.{to_z-of_z}
use Rattle.po_lists.proofs.Options.{one_some}
use Rattle.po_arith.specs.declared.int_type.IntType.{IntType}
use Rattle.po_arith.specs.declared.target.Target.{Target}
use Rattle.po_tree.specs.declared.expression.Exp.TheOpen.{Exp-F}
use Rattle.po_tree.specs.declared.expression.TypeName.{TypeName}
use Rattle.po_types.specs.declared.ctype.CType.{CType, out-CType, roll-CType, roll-out-CType}
use Rattle.po_types.specs.declared.ctype.CType.TheVariants as c
use Rattle.po_types.specs.declared.ctype.CType.TheOpen.{CType-F}
use Rattle.po_types.specs.Types.{pointee, pointee_layer}
use Rattle.po_constants.specs.Found.{Finds}
use Rattle.po_typed.specs.Scopes.{Context, Meaning, constant, meaning}
use Rattle.po_typed.specs.Constants.{IsNumber, IsCharacterOf}
use Rattle.po_typed.specs.Expressions.{IsNull, null_number, null_character, null_enumerator, IsForm, form_enumerator, IsPlainName}
use Rattle.po_typed.proofs.OneConstant.{number_is_one, character_is_one}
use Rattle.po_typed.proofs.OneBase.{one_starred}
use Rattle.po_typed.proofs.OneType.{pointee_Ptr}
use Rattle.po_choices.specs.Answering.{IsWhether, IsIntegerName}
use Rattle.po_choices.proofs.Whether.{is_found, whether_true}

number_of : {ctx : Context} {text : List ℕ} → IsNull ctx (Exp-F.Num text) → (t : IntType) × IsNumber ctx.target text t 0
number_of (null_number h) = (_, h)

character_of : {ctx : Context} {text : List ℕ} → IsNull ctx (Exp-F.Chr text) → IsCharacterOf text (pos 0)
character_of (null_character h) = h

enumerator_of : {ctx : Context} {name : List ℕ} → IsNull ctx (Exp-F.Var name) → meaning ctx name ≡ Some (constant (pos 0))
enumerator_of (null_enumerator h) = h

abbrev value_in : Option Meaning → ℤ
value_in (Some (constant v)) = v
value_in _ = pos 0

-- a number of 128 bits that is 0
is_zero : (v : ℤ) → FitsSigned w128 v → of_z w128 v ≡ 0 → v ≡ pos 0
is_zero v fits h = simp to_z-of_z at (ap (to_z w128) h)

-- what a type points to
by_layer : (l : CType-F CType) (to : CType) → Some to ≡ pointee_layer l → l ≡ CType-F.Ptr to
by_layer (CType-F.Ptr t) to q = ap CType-F.Ptr (one_some refl (sym q))
by_layer _ to q = absurd cc

is_pointer : (t to : CType) → Some to ≡ pointee t → t ≡ c.Ptr to
is_pointer t to q = sym (roll-out-CType t) ∙ ap roll-CType (by_layer (out-CType t) to q) ∙ c.rolls-Ptr to

form_of : {ctx : Context} {name : List ℕ} → IsForm ctx (Exp-F.Var name) → (v : ℤ) × (meaning ctx name ≡ Some (constant v))
form_of (form_enumerator h) = (_, h)

-- an integer constant, where its text and the target are known by other names
module _ (ctx : Context) (text bytes : List ℕ) (target : Target) (e : bytes ≡ text) (f : target ≡ ctx.target) where
  as_number : {t : IntType} {v : ℕ} → IsNumber target bytes t v → IsNumber ctx.target text t v
  as_number {t = t} {v = v} h = subst (λ z. IsNumber ctx.target z t v) e (subst (λ z. IsNumber z bytes t v) f h)

  pub no_number : ((p : IntType × ℕ) → IsNumber target bytes p.0 p.1 → ⊥) → IsNull ctx (Exp-F.Num text) → ⊥
  no_number n h = let k = number_of h in n (k.0, 0) (subst (λ z. IsNumber target z k.0 0) (sym e) (subst (λ z. IsNumber z text k.0 0) (sym f) k.1))

  pub number_tested : (t : IntType) (v : ℕ) → IsNumber target bytes t v → IsWhether (IsNull ctx (Exp-F.Num text)) (v == 0)
  number_tested t v h = whether_true (v == 0) (Decides-eqb v 0)
      (λ q. null_number {t = t} (subst (IsNumber ctx.target text t) q (as_number h)))
      (λ k. (number_is_one (as_number h) (number_of k).1).1)

-- a character constant
module _ (ctx : Context) (text bytes : List ℕ) (e : bytes ≡ text) where
  pub no_character : ((v : ℤ) → IsCharacterOf bytes v → ⊥) → IsNull ctx (Exp-F.Chr text) → ⊥
  no_character n h = n (pos 0) (subst (λ z. IsCharacterOf z (pos 0)) (sym e) (character_of h))

  pub character_tested : (v : ℤ) → FitsSigned w128 v → IsCharacterOf bytes v → IsWhether (IsNull ctx (Exp-F.Chr text)) (of_z w128 v == 0)
  character_tested v fits h = whether_true (of_z w128 v == 0) (Decides-eqb (of_z w128 v) 0)
      (λ q. null_character (subst (IsCharacterOf text) (is_zero v fits q) (subst (λ z. IsCharacterOf z v) e h)))
      (λ k. ap (of_z w128) (character_is_one (subst (λ z. IsCharacterOf z v) e h) (character_of k)))

-- an enumerator
module _ (ctx : Context) (name : List ℕ) where
  pub enumerator_tested : (v : ℤ) → FitsSigned w128 v → meaning ctx name ≡ Some (constant v) → IsWhether (IsNull ctx (Exp-F.Var name)) (of_z w128 v == 0)
  enumerator_tested v fits h = whether_true (of_z w128 v == 0) (Decides-eqb (of_z w128 v) 0)
      (λ q. null_enumerator (h ∙ ap (λ z. Some (constant z)) (is_zero v fits q)))
      (λ k. let same : Some (constant v) ≡ Some (constant (pos 0)) = sym h ∙ enumerator_of k in ap (of_z w128) (ap value_in same))

  pub enumerator_found : (o : Option ℤ) → Finds (λ v. meaning ctx name ≡ Some (constant v)) o → IsWhether (IsForm ctx (Exp-F.Var name)) (is_some o)
  enumerator_found o h = is_found o (λ v q. form_enumerator q) form_of h

-- a type name
module _ (ctx : Context) (name : TypeName) where
  pub integer_found : (o : Option IntType) → Finds (λ t. IsPlainName ctx name (c.Int t)) o → IsWhether (IsIntegerName ctx name) (is_some o)
  integer_found o h = is_found o (λ t k. (t, k)) (λ k. k) h

  pub no_name : ((t : CType) → IsPlainName ctx name t → ⊥) → IsPlainName ctx name (c.Ptr c.Void) → ⊥
  no_name n h = n (c.Ptr c.Void) h

  module _ (t : CType) (said : IsPlainName ctx name t) where
    same_type : IsPlainName ctx name (c.Ptr c.Void) → t ≡ c.Ptr c.Void
    same_type h = one_starred said.0 h.0

    pub no_pointer_named : None ≡ pointee t → IsPlainName ctx name (c.Ptr c.Void) → ⊥
    no_pointer_named q h = let f : None ≡ Some c.Void = q ∙ ap pointee (same_type h) ∙ pointee_Ptr c.Void in absurd cc

    pub void_pointer : (to : CType) → Some to ≡ pointee t → (b : Bool) → (b ≡ true → to ≡ c.Void) × (to ≡ c.Void → b ≡ true) → IsWhether (IsPlainName ctx name (c.Ptr c.Void)) b
    void_pointer to q b e = whether_true b e
        (λ v. subst (IsPlainName ctx name) (is_pointer t to q ∙ ap c.Ptr v) said)
        (λ h. one_some (sym q) (ap pointee (same_type h) ∙ pointee_Ptr c.Void))
