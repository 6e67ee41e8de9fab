-- Which functions a call calls.
use Rattle.std.proofs.Common.{◌≡◌, ℕ, List, Option, Some, sym, ap, ◌∙◌, subst, inl, inr, IfOk}
use Rattle.std.specs.Prelude.{Result}
use Rattle.po_arith.specs.declared.target.Target.{Target}
use Rattle.po_base.specs.declared.memory.Memory.{Memory}
use Rattle.po_lists.proofs.Results.{if_ok-map}
use Rattle.po_tree.specs.declared.expression.Exp.{Exp}
use Rattle.po_tree.specs.declared.expression.Exp.TheOpen.{Exp-F}
use Rattle.po_types.specs.declared.ctype.CType.{CType}
use Rattle.po_types.specs.declared.format.Spec.{Spec}
use Rattle.po_types.specs.Laws.{OneFormat}
use Rattle.po_typed.specs.Forms.{Layer}
use Rattle.po_typed.specs.Scopes.{Context, function, meaning}
use Rattle.po_constants.specs.Found.{Finds}
use Rattle.po_choices.proofs.Whether.{found_as}
use Rattle.po_type_parts.specs.Designating.{IsCallee}
use Rattle.po_type_calls.specs.declared.calling.Called.{Called}
use Rattle.po_type_calls.specs.Calling.{Formats, PrintsAll, Printed, CallsFunction, CallsPrintf, Calls}
use Rattle.po_type_calls.proofs.Formatted.{one_list}

same_names : {l : Layer} {m n : List ℕ} → l ≡ Exp-F.Var m → l ≡ Exp-F.Var n → m ≡ n
same_names q r = cc

module _ (ctx : Context) where
  module _ (xs : List Exp) (vs : List CType) (target : Target) (e : target ≡ ctx.target) where
    own : {fs : List Spec} → Formats target xs fs → Formats ctx.target xs fs
    own {fs = fs} h = subst (λ z. Formats z xs fs) e h

    pub nothing_printed : ((fs : List Spec) → Formats target xs fs → ⊥) → (bs : List CType) → Printed ctx xs vs bs → ⊥
    nothing_printed n bs h = n h.reads (subst (λ z. Formats z xs h.reads) (sym e) h.formats)

    pub is_printed : OneFormat → (fs lent : List Spec) → Formats target xs fs → lent ≡ fs → (other : Target) → other ≡ ctx.target → (o : Option (List CType)) → Finds (PrintsAll other lent vs) o →
        Finds (Printed ctx xs vs) o
    is_printed one fs lent h q other r o k = found_as o
        (λ bs p. record { reads = fs; formats = own h; prints = subst (λ z. PrintsAll z fs vs bs) r (subst (λ z. PrintsAll other z vs bs) q p) })
        (λ bs p. let same = one_list ctx.target one p.formats (own h) ∙ sym q in subst (λ z. PrintsAll z lent vs bs) (sym r) (subst (λ z. PrintsAll ctx.target z vs bs) same p.prints)) k

  one_callee : (x : Exp) {t u : CType} → IsCallee ctx x t → IsCallee ctx x u → t ≡ u
  one_callee x {t = t} {u = u} h k =
      let q : Some (function t) ≡ Some (function u) = sym h.1.1 ∙ (ap (meaning ctx) (same_names h.1.0 k.1.0) ∙ k.1.1) in
      cc

  module _ (x : Exp) (xs : List Exp) (vs : List CType) where
    pub no_callee : ((t : CType) → IsCallee ctx x t → ⊥) → (p : Called) → Calls ctx x xs vs p → ⊥
    no_callee n p h = n h.0 h.1

    module _ (t : CType) (callee : IsCallee ctx x t) where
      pub function_called : (p : Called) → CallsFunction ctx t xs vs p → Calls ctx x xs vs p
      function_called p h = (t, callee, inl h)

      pub printf_called : ((p : Called) → CallsFunction ctx t xs vs p → ⊥) → (r : Result (Option Called) Memory) → IfOk r (Finds (CallsPrintf ctx x t xs vs)) → IfOk r (Finds (Calls ctx x xs vs))
      printf_called n r h = if_ok-map r (λ o. found_as o
          (λ p k. (t, callee, inr k))
          (λ p k. let same = one_callee x k.1 callee in elim k.2 [
            | inl a ↦ absurd (n p (subst (λ z. CallsFunction ctx z xs vs p) same a))
            | inr a ↦ subst (λ z. CallsPrintf ctx x z xs vs p) same a
          ])) h
