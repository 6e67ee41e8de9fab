-- What specifiers and stars of a type name say, where the type of its specifiers is known.
use Rattle.std.proofs.Common.{◌≡◌, List, ℕ, Option, Some, None, [], refl, sym, ap, ◌∙◌, subst}
use Rattle.po_tree.specs.declared.expression.Specifier.{Specifier}
use Rattle.po_tree.specs.declared.expression.TypeName.{TypeName}
use Rattle.po_arith.specs.declared.int_type.IntType.{IntType}
use Rattle.po_types.specs.declared.ctype.CType.{CType, out-CType, roll-CType, roll-out-CType}
use Rattle.po_types.specs.declared.ctype.CType.TheVariants as c
use Rattle.po_types.specs.declared.ctype.CType.TheOpen.{CType-F}
use Rattle.po_types.specs.Types.{integer, integer_layer}
use Rattle.po_constants.specs.Found.{Finds}
use Rattle.po_typed.specs.Scopes.{Context}
use Rattle.po_typed.specs.BaseTypes.{OnlyWords, RestrictFits, CanBeStarred, starred}
use Rattle.po_typed.specs.Expressions.{IsBase, IsStarredBase, IsPlainName}
use Rattle.po_typed.proofs.OneBase.{one_base, one_starred}
use Rattle.po_lists.proofs.Options.{one_some}
use Rattle.po_typed.proofs.OneType.{integer_Int}

module _ (ctx : Context) (name : TypeName) (specs : List Specifier) (stars : List (List (List ℕ))) (e : specs ≡ name.specs) (f : stars ≡ name.declarator.stars)
    (base : CType) (o : Option CType) (q : o ≡ Some base) (h : Finds (IsBase ctx specs) o) where
  said : IsBase ctx name.specs base
  said = subst (λ z. IsBase ctx z base) e (subst (Finds (IsBase ctx specs)) q h)

  same_base : (t : CType) (s : IsStarredBase ctx name t) → s.base ≡ base
  same_base t s = one_base s.said said

  pub restricted_alone : (RestrictFits specs base → ⊥) → (t : CType) → IsStarredBase ctx name t → ⊥
  restricted_alone n t s = n (subst (λ z. RestrictFits z base) (sym e) (subst (RestrictFits name.specs) (same_base t s) s.restricted))

  pub pointable_alone : (CanBeStarred stars base → ⊥) → (t : CType) → IsStarredBase ctx name t → ⊥
  pointable_alone n t s = n (subst (λ z. CanBeStarred z base) (sym f) (subst (CanBeStarred name.declarator.stars) (same_base t s) s.pointable))

  pub is_starred : OnlyWords [] specs → RestrictFits specs base → CanBeStarred stars base → name.declarator.name ≡ None → (t : CType) → t ≡ starred base stars → IsStarredBase ctx name t
  is_starred only fits may unnamed t is = record {
    base = base;
    allowed = subst (OnlyWords []) e only;
    said = said;
    restricted = subst (λ z. RestrictFits z base) e fits;
    pointable = subst (λ z. CanBeStarred z base) f may;
    unnamed = unnamed;
    type = is ∙ ap (starred base) f;
  }

-- the integer type that a type is
by_layer : (l : CType-F CType) (s : IntType) → Some s ≡ integer_layer l → l ≡ CType-F.Int s
by_layer (CType-F.Int t) s q = ap CType-F.Int (one_some refl (sym q))
by_layer _ s q = absurd cc

is_integer : (t : CType) (s : IntType) → Some s ≡ integer t → t ≡ c.Int s
is_integer t s q = sym (roll-out-CType t) ∙ ap roll-CType (by_layer (out-CType t) s q) ∙ c.rolls-Int s

pub integer_said : (ctx : Context) (name : TypeName) (t : CType) → IsPlainName ctx name t → (o : Option IntType) → o ≡ integer t → Finds (λ s. IsPlainName ctx name (c.Int s)) o
integer_said ctx name t h (Some s) q = subst (IsPlainName ctx name) (is_integer t s q) h
integer_said ctx name t h None q = λ s k.
    let f : None ≡ Some s = q ∙ ap integer (one_starred h.0 k.0) ∙ integer_Int s in
    absurd cc
