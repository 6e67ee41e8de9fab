-- A type has one spelling at most.
use Rattle.std.proofs.Common.{refl, sym, ap, ◌∙◌, subst, ◌≡◌, ◌⊎◌, inl, inr, ℕ, List, [], ◌++◌, Option, Some, None}
use Rattle.std.proofs.lemmas.Option.{none-some}
use Rattle.std.specs.Prelude.{map, codes, get_or}
use Rattle.po_types.specs.declared.env.Env.{Env}
use Rattle.po_types.specs.declared.ctype.CType.{CType, out-CType}
use Rattle.po_types.specs.declared.ctype.CType.TheOpen.{CType-F}
use Rattle.po_types.proofs.TypesLaws.{out_Void, out_Int, out_Ptr, out_Array, out_Struct, out_Fun}
use Rattle.po_types.specs.Spelling.{Spelled, AllSpelled, void, integer, pointer, array, tagged, untagged, function, none, last, more, integer_text, size_text, end_text, comma_and}

module _ (env : Env) where
  abbrev Parts : CType-F CType → List ℕ → Type 0
  Parts CType-F.Void a = a ≡ codes "void"
  Parts (CType-F.Int t) a = a ≡ integer_text t
  Parts (CType-F.Ptr t) a = (text : List ℕ) × Spelled env t text × (a ≡ codes "*" ++ text)
  Parts (CType-F.Array t n) a = (text : List ℕ) × Spelled env t text × (a ≡ size_text n ++ text)
  Parts (CType-F.Struct n) a =
      ((tag : List ℕ) × (get_or env.names n None ≡ Some tag) × (a ≡ codes "struct " ++ tag))
      ⊎ ((text : List ℕ) × (get_or env.names n None ≡ None) × AllSpelled env (map (λ m. m.1) (get_or env.members n [])) text × (a ≡ codes "struct{" ++ text ++ codes "}"))
  Parts (CType-F.Fun t params rest) a =
      (list : List ℕ) × (text : List ℕ) × AllSpelled env params list × Spelled env t text × (a ≡ codes "(" ++ list ++ end_text rest ++ text)

  opened : {t : CType} {a : List ℕ} → Spelled env t a → Parts (out-CType t) a
  opened void = rw out_Void refl
  opened (integer t) = rw (out_Int t) refl
  opened (pointer t text f) = rw (out_Ptr t) (text, f, refl)
  opened (array t n text f) = rw (out_Array t n) (text, f, refl)
  opened (tagged n tag q) = rw (out_Struct n) (inl (tag, q, refl))
  opened (untagged n text q f) = rw (out_Struct n) (inr (text, q, f, refl))
  opened (function t params rest list text f g) = rw (out_Fun t params rest) (list, text, f, g, refl)

  opened_at : {t : CType} {l : CType-F CType} {a : List ℕ} → Spelled env t a → out-CType t ≡ l → Parts l a
  opened_at {a = a} d q = subst (λ l. Parts l a) q (opened d)

  none_and_some : {A : Type 0} {o : Option (List ℕ)} {x : List ℕ} → o ≡ None → o ≡ Some x → A
  none_and_some {x = x} p q = absurd (none-some x (sym p ∙ q))

  same_tag : {o : Option (List ℕ)} {x y : List ℕ} → o ≡ Some x → o ≡ Some y → x ≡ y
  same_tag {x = x} p q = ap (λ s. get_tag s x) (sym p ∙ q)
    where
      get_tag : Option (List ℕ) → List ℕ → List ℕ
      get_tag None d = d
      get_tag (Some z) d = z

  mutual
    pub one_spelling : {t : CType} {a b : List ℕ} → Spelled env t a → Spelled env t b → a ≡ b
    one_spelling void g = sym (opened_at g out_Void)
    one_spelling (integer t) g = sym (opened_at g (out_Int t))
    one_spelling (pointer t text f) g = let p = opened_at g (out_Ptr t) in ap (λ x. codes "*" ++ x) (one_spelling f p.1) ∙ sym p.2
    one_spelling (array t n text f) g = let p = opened_at g (out_Array t n) in ap (λ x. size_text n ++ x) (one_spelling f p.1) ∙ sym p.2
    one_spelling (tagged n tag q) g = elim (opened_at g (out_Struct n)) [
      | inl p ↦ ap (λ x. codes "struct " ++ x) (same_tag q p.1) ∙ sym p.2
      | inr p ↦ none_and_some p.1 q
    ]
    one_spelling (untagged n text q f) g = elim (opened_at g (out_Struct n)) [
      | inl p ↦ none_and_some q p.1
      | inr p ↦ ap (λ x. codes "struct{" ++ x ++ codes "}") (one_list f p.2) ∙ sym p.3
    ]
    one_spelling (function t params rest list text f h) g =
        let p = opened_at g (out_Fun t params rest) in
        ap (λ x. codes "(" ++ x ++ end_text rest ++ text) (one_list f p.2) ∙ ap (λ x. codes "(" ++ p.0 ++ end_text rest ++ x) (one_spelling h p.3) ∙ sym p.4

    pub one_list : {ts : List CType} {a b : List ℕ} → AllSpelled env ts a → AllSpelled env ts b → a ≡ b
    one_list none none = refl
    one_list (last t text f) (last _ other g) = one_spelling f g
    one_list (more t u ts text rest f h) (more _ _ _ other others g k) =
        ap (λ x. x ++ comma_and rest) (one_spelling f g) ∙ ap (λ x. other ++ comma_and x) (one_list h k)
