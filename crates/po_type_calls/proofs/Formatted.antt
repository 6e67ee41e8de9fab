-- What string literals read, and what a call of printf does with its format.
use Rattle.std.proofs.Common.{◌≡◌, ℕ, ◌<◌, List, [], ◌∷◌, length, drop, get_or, Option, sym, ap, ◌∙◌, subst}
use Rattle.po_arith.specs.declared.target.Target.{Target}
use Rattle.po_tree.specs.declared.expression.Exp.{Exp, out-Exp}
use Rattle.po_tree.specs.declared.expression.Exp.TheOpen.{Exp-F}
use Rattle.po_types.specs.declared.format.Spec.{Spec}
use Rattle.po_types.specs.declared.format.Spec.TheVariants as f
use Rattle.po_types.specs.Formats.{IsFormat}
use Rattle.po_types.specs.Laws.{OneFormat}
use Rattle.po_typed.specs.Forms.{Layer}
use Rattle.po_typed.specs.Constants.{AreStrings}
use Rattle.po_typed.proofs.OneConstant.{strings_are_one}
use Rattle.po_constants.specs.Found.{Finds}
use Rattle.po_choices.proofs.Whether.{found_as}
use Rattle.po_type_calls.specs.Calling.{IsFormatOf, Formats}
use Rattle.po_type_calls.proofs.Passed.{at_place}

same_texts : {l : Layer} {m n : List (List ℕ)} → l ≡ Exp-F.Str m → l ≡ Exp-F.Str n → m ≡ n
same_texts q r = cc

module _ (target : Target) where
  module _ (x : Exp) where
    pub no_literal : ((texts : List (List ℕ)) → out-Exp x ≡ Exp-F.Str texts → ⊥) → (fs : List Spec) → IsFormatOf target x fs → ⊥
    no_literal n fs h = n h.texts h.literal

    module _ (texts : List (List ℕ)) (q : out-Exp x ≡ Exp-F.Str texts) where
      own : {fs : List Spec} (h : IsFormatOf target x fs) → AreStrings texts h.values
      own h = subst (λ z. AreStrings z h.values) (same_texts h.literal q) h.are_strings

      pub no_strings : ((values : List ℕ) → AreStrings texts values → ⊥) → (fs : List Spec) → IsFormatOf target x fs → ⊥
      no_strings n fs h = n h.values (own h)

      pub is_read : (values format : List ℕ) → AreStrings texts values → format ≡ values → (o : Option (List Spec)) → Finds (IsFormat target format) o → Finds (IsFormatOf target x) o
      is_read values format s e o h = found_as o
          (λ fs k. record { texts = texts; values = values; literal = q; are_strings = s; reads = subst (λ z. IsFormat target z fs) e k })
          (λ fs k. subst (λ z. IsFormat target z fs) (strings_are_one (own k) s ∙ sym e) k.reads) h

  pub no_arguments : (xs : List Exp) → xs ≡ [] → (fs : List Spec) → Formats target xs fs → ⊥
  no_arguments xs q fs h = let e : [] ≡ h.first ∷ h.others = sym q ∙ h.arguments in absurd cc

  module _ (xs : List Exp) (x : Exp) (q : x ≡ get_or xs 0 x) where
    first_is : {fs : List Spec} (h : Formats target xs fs) → h.first ≡ x
    first_is h = sym (q ∙ ap (λ z. get_or z 0 x) h.arguments)

    pub no_format : ((fs : List Spec) → IsFormatOf target x fs → ⊥) → (fs : List Spec) → Formats target xs fs → ⊥
    no_format n fs h = n h.reads (subst (λ z. IsFormatOf target z h.reads) (first_is h) h.format)

    pub is_format : 0 < length xs → (reads all : List Spec) → IsFormatOf target x reads → all ≡ f.Text ∷ reads → Formats target xs all
    is_format some reads all h e = record { first = x; others = drop 1 xs; reads = reads; arguments = at_place xs 0 x some q; format = h; all = e }

  -- a call of printf has one list of what is read
  module _ (one_format : OneFormat) where
    one_read : {x y : Exp} {fs gs : List Spec} → IsFormatOf target x fs → IsFormatOf target y gs → x ≡ y → fs ≡ gs
    one_read {fs = fs} {gs = gs} h k q =
        let texts = same_texts h.literal (ap out-Exp q ∙ k.literal) in
        let values = strings_are_one (subst (λ z. AreStrings z h.values) texts h.are_strings) k.are_strings in
        one_format target k.values fs gs (subst (λ z. IsFormat target z fs) values h.reads) k.reads

    pub one_list : {xs : List Exp} {fs gs : List Spec} → Formats target xs fs → Formats target xs gs → fs ≡ gs
    one_list h k =
        let q : h.first ∷ h.others ≡ k.first ∷ k.others = sym h.arguments ∙ k.arguments in
        let firsts : h.first ≡ k.first = cc in
        h.all ∙ (ap (λ z. f.Text ∷ z) (one_read h.format k.format firsts) ∙ sym k.all)
