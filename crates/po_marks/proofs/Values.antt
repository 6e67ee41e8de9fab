-- Values that keys have in a list of entries.
use Rattle.std.proofs.Common.{◌≡◌, ◌⊎◌, List, [], ◌∷◌, ◌++◌, map, refl, sym, ◌∙◌, ap, subst, inl, inr, cond}
use Rattle.std.specs.Prelude.{Bool, true, false, Option, Some, None, Result, Ok, Err, ◌↔◌, IfSome, IfNone, OnOk}
use Rattle.std.specs.List.{Contains}
use Rattle.std.specs.Map.{lookup}
use Rattle.std.proofs.lemmas.Option.{same_Some}
use Rattle.indexmap.specs.IndexMap.{insert_entry}
use Rattle.po_core.specs.Core.{AreApart}
use Rattle.po_lists.proofs.Members.{Has, has, contains, contains_map}
use Rattle.po_marks.specs.Known.{IsValueOf, PutsValue}
use Rattle.po_marks.proofs.Keys.{AreOne}

differ : {K : Type 0} (eq : K → K → Bool) → AreOne eq → (k q : K) → eq k q ≡ false → k ≡ q → ⊥
differ eq one k q f h = let t : eq k q ≡ true = (one.tells k q).1 h in let both : true ≡ false = sym t ∙ f in cc

module _ {K X : Type 0} (eq : K → K → Bool) (one : AreOne eq) where
  -- what is found is there
  found_has : (es : List (K × X)) (k : K) (v : X) → lookup (eq k) es ≡ Some v → Has es (k, v)
  found_has [] k v h = absurd (cc)
  found_has (e ∷ es) k v h = by (eq k e.0) refl (λ l. found_has es k v l)
    where
      by : (b : Bool) → eq k e.0 ≡ b → (lookup (eq k) es ≡ Some v → Has es (k, v)) → Has (e ∷ es) (k, v)
      by true t rest =
          let at : Some e.1 ≡ Some v = sym (ap (λ (z : Bool). cond z (Some e.1) (lookup (eq k) es)) t) ∙ h in
          let key : k ≡ e.0 = (one.tells k e.0).0 t in
          inl (λ i. (sym key i, same_Some e.1 v at i))
      by false f rest = inr (rest (sym (ap (λ (z : Bool). cond z (Some e.1) (lookup (eq k) es)) f) ∙ h))

  -- what isn't found isn't there
  not_found_not : (es : List (K × X)) (k : K) (v : X) → lookup (eq k) es ≡ None → Has es (k, v) → ⊥
  not_found_not [] k v n h = h
  not_found_not (e ∷ es) k v n h = by (eq k e.0) refl h (λ l. not_found_not es k v l)
    where
      by : (b : Bool) → eq k e.0 ≡ b → Has (e ∷ es) (k, v) → (lookup (eq k) es ≡ None → Has es (k, v) → ⊥) → ⊥
      by true t h rest = let at : Some e.1 ≡ None = sym (ap (λ (z : Bool). cond z (Some e.1) (lookup (eq k) es)) t) ∙ n in cc
      by false f (inl q) rest = differ eq one k e.0 f (ap (λ (z : K × X). z.0) (sym q))
      by false f (inr h) rest = rest (sym (ap (λ (z : Bool). cond z (Some e.1) (lookup (eq k) es)) f) ∙ n) h

  pub value_some : (es : List (K × X)) (k : K) (r : Option X) → IsValueOf eq es k r → IfSome r (λ v. Contains es (k, v))
  value_some es k None h = tt
  value_some es k (Some v) h = contains es (k, v) (found_has es k v (sym h.is))

  pub value_none : (es : List (K × X)) (k : K) (r : Option X) → IsValueOf eq es k r → IfNone r (((v : X) × Contains es (k, v)) → ⊥)
  value_none es k None h = λ c. not_found_not es k c.0 (sym h.is) (has es (k, c.0) c.1)
  value_none es k (Some v) h = tt

  -- a new key goes to the end
  new_last : (es : List (K × X)) (k : K) (v : X) → (((w : X) × Has es (k, w)) → ⊥) → insert_entry eq es k v ≡ es ++ (k, v) ∷ []
  new_last [] k v fresh = refl
  new_last (e ∷ es) k v fresh = by (eq k e.0) refl (new_last es k v (λ h. fresh (h.0, inr h.1)))
    where
      by : (b : Bool) → eq k e.0 ≡ b → insert_entry eq es k v ≡ es ++ (k, v) ∷ [] → insert_entry eq (e ∷ es) k v ≡ e ∷ es ++ (k, v) ∷ []
      by true t rest = absurd (fresh (e.1, inl (let key : k ≡ e.0 = (one.tells k e.0).0 t in λ i. (sym key i, e.1))))
      by false f rest = rw f (ap (λ (z : List (K × X)). e ∷ z) rest)

  pub put_new : (old new : List (K × X)) (k : K) (v : X) → PutsValue eq k v old new → (((w : X) × Contains old (k, w)) → ⊥) → new ≡ old ++ (k, v) ∷ []
  put_new old new k v p fresh = p.is ∙ new_last old k v (λ h. fresh (h.0, contains old (k, h.0) h.1))

  keys_stay : (es : List (K × X)) (k : K) (v w : X) → Has es (k, w) → map (λ e. e.0) (insert_entry eq es k v) ≡ map (λ e. e.0) es
  keys_stay [] k v w h = absurd h
  keys_stay (e ∷ es) k v w h = by (eq k e.0) refl h (λ c. keys_stay es k v w c)
    where
      by : (b : Bool) → eq k e.0 ≡ b → Has (e ∷ es) (k, w) → (Has es (k, w) → map (λ e. e.0) (insert_entry eq es k v) ≡ map (λ e. e.0) es) → map (λ e. e.0) (insert_entry eq (e ∷ es) k v) ≡ e.0 ∷ map (λ e. e.0) es
      by true t h rest = rw t refl
      by false f (inl q) rest = absurd (differ eq one k e.0 f (ap (λ (z : K × X). z.0) (sym q)))
      by false f (inr h) rest = rw f (ap (λ (z : List K). e.0 ∷ z) (rest h))

  key_in : (es : List (K × X)) (k : K) (w : X) → Has es (k, w) → Contains (map (λ e. e.0) es) k
  key_in es k w h = contains_map (λ (e : K × X). e.0) es (k, w) (contains es (k, w) h)

  abbrev Wrote : K → X → List (K × X) → K → X → Type 0
  Wrote k v es p n = ((p ≡ k) × (n ≡ v)) ⊎ (((p ≡ k) → ⊥) × Has es (p, n))

  put_back_cases : (es : List (K × X)) (k : K) (v w : X) → AreApart (map (λ e. e.0) es) → Has es (k, w) → (p : K) (n : X) → Has (insert_entry eq es k v) (p, n) → Wrote k v es p n
  put_back_cases [] k v w a there p n h = absurd there
  put_back_cases (e ∷ es) k v w a there p n h = by (eq k e.0) refl there h (λ c d. put_back_cases es k v w a.1 c p n d)
    where
      first : k ≡ e.0 → Has ((e.0, v) ∷ es) (p, n) → Wrote k v (e ∷ es) p n
      first key (inl q) = inl (sym (ap (λ (z : K × X). z.0) q) ∙ sym key, sym (ap (λ (z : K × X). z.1) q))
      first key (inr h) = inr (λ q. a.0 (subst (λ (z : K). Contains (map (λ e. e.0) es) z) (q ∙ key) (key_in es p n h)), inr h)

      later : eq k e.0 ≡ false → Has (e ∷ es) (k, w) → Has (e ∷ insert_entry eq es k v) (p, n) → (Has es (k, w) → Has (insert_entry eq es k v) (p, n) → Wrote k v es p n) → Wrote k v (e ∷ es) p n
      later f (inl c) h rest = absurd (differ eq one k e.0 f (ap (λ (z : K × X). z.0) (sym c)))
      later f (inr c) (inl q) rest = inr (λ s. differ eq one k e.0 f (sym (ap (λ (z : K × X). z.0) q ∙ s)), inl q)
      later f (inr c) (inr h) rest = elim (rest c h) [ inl x ↦ inl x | inr x ↦ inr (x.0, inr x.1) ]

      by : (b : Bool) → eq k e.0 ≡ b → Has (e ∷ es) (k, w) → Has (insert_entry eq (e ∷ es) k v) (p, n) → (Has es (k, w) → Has (insert_entry eq es k v) (p, n) → Wrote k v es p n) → Wrote k v (e ∷ es) p n
      by true t c h rest = first ((one.tells k e.0).0 t) (rw t at h)
      by false f c h rest = later f c (rw f at h) rest

  put_has : (es : List (K × X)) (k : K) (v w : X) → Has es (k, w) → (p : K) (n : X) → Wrote k v es p n → Has (insert_entry eq es k v) (p, n)
  put_has [] k v w there p n h = absurd there
  put_has (e ∷ es) k v w there p n h = by (eq k e.0) refl there h (λ c d. put_has es k v w c p n d)
    where
      first : k ≡ e.0 → Wrote k v (e ∷ es) p n → Has ((e.0, v) ∷ es) (p, n)
      first key (inl q) = inl (λ i. ((sym key ∙ sym q.0) i, sym q.1 i))
      first key (inr (ne, inl q)) = absurd (ne (sym (ap (λ (z : K × X). z.0) q) ∙ sym key))
      first key (inr (ne, inr h)) = inr h

      later : eq k e.0 ≡ false → Has (e ∷ es) (k, w) → Wrote k v (e ∷ es) p n → (Has es (k, w) → Wrote k v es p n → Has (insert_entry eq es k v) (p, n)) → Has (e ∷ insert_entry eq es k v) (p, n)
      later f (inl c) h rest = absurd (differ eq one k e.0 f (ap (λ (z : K × X). z.0) (sym c)))
      later f (inr c) (inl q) rest = inr (rest c (inl q))
      later f (inr c) (inr (ne, inl q)) rest = inl q
      later f (inr c) (inr (ne, inr h)) rest = inr (rest c (inr (ne, h)))

      by : (b : Bool) → eq k e.0 ≡ b → Has (e ∷ es) (k, w) → Wrote k v (e ∷ es) p n → (Has es (k, w) → Wrote k v es p n → Has (insert_entry eq es k v) (p, n)) → Has (insert_entry eq (e ∷ es) k v) (p, n)
      by true t c h rest = rw t (first ((one.tells k e.0).0 t) h)
      by false f c h rest = rw f (later f c h rest)

  pub put_keys : (old new : List (K × X)) (k : K) (v : X) → PutsValue eq k v old new → ((w : X) × Contains old (k, w)) → map (λ e. e.0) new ≡ map (λ e. e.0) old
  put_keys old new k v p there = ap (λ (z : List (K × X)). map (λ e. e.0) z) p.is ∙ keys_stay old k v there.0 (has old _ there.1)

  pub put_tells : (old new : List (K × X)) (k : K) (v : X) → PutsValue eq k v old new → ((w : X) × Contains old (k, w)) → AreApart (map (λ e. e.0) old) → (p : K) (n : X) → Contains new (p, n) ↔ (((p ≡ k) × (n ≡ v)) ⊎ (((p ≡ k) → ⊥) × Contains old (p, n)))
  put_tells old new k v is there a p n = (
    λ h. elim (put_back_cases old k v there.0 a (has old _ there.1) p n (subst (λ (z : List (K × X)). Has z (p, n)) is.is (has new (p, n) h))) [ inl x ↦ inl x | inr x ↦ inr (x.0, contains old (p, n) x.1) ],
    λ h. contains new (p, n) (subst (λ (z : List (K × X)). Has z (p, n)) (sym is.is) (put_has old k v there.0 (has old _ there.1) p n (elim h [ inl x ↦ inl x | inr x ↦ inr (x.0, has old (p, n) x.1) ]))),
  )

  -- what an insertion that may fail has done
  pub put_new_ok : {A E : Type 0} (r : Result A E) (old new : List (K × X)) (k : K) (v : X) → OnOk r (PutsValue eq k v old new) → (((w : X) × Contains old (k, w)) → ⊥) → OnOk r (new ≡ old ++ (k, v) ∷ [])
  put_new_ok (Ok x) old new k v h fresh = put_new old new k v h fresh
  put_new_ok (Err x) old new k v h fresh = tt
