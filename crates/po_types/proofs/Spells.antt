-- How the parts of a spelling are written.
use Rattle.std.proofs.Common.{◌≡◌, ℕ, zero, suc, ◌+◌, ◌<◌, List, [], ◌∷◌, ◌++◌, length, get_or, take, sym, ap, ◌∙◌, subst, append_assoc, arith, Option, Some, None, Bool}
use Rattle.std.specs.Prelude.{codes, map}
use Rattle.std.proofs.lemmas.List.{append-nil, take_more, length-take-le}
use Rattle.po_types.specs.declared.ctype.CType.{CType}
use Rattle.po_types.specs.declared.ctype.CType.TheVariants as c
use Rattle.po_types.specs.declared.env.Env.{Env}
use Rattle.po_types.specs.Spelling.{Spelled, AllSpelled, tagged, untagged, pointer, array, function, none, last, more, Writes, separator, size_text, end_text, comma_and}

module _ (env : Env) where
  appended : {ts : List CType} {a x : List ℕ} (t : CType) → AllSpelled env ts a → Spelled env t x → AllSpelled env (ts ++ t ∷ []) (a ++ (separator (length ts) ++ x))
  appended {x = x} t none h = last t x h
  appended {x = x} t (last u text f) h = more u t [] text x f (last t x h)
  appended {x = x} t (more u v us text rest f g) h =
      let tail = appended t g h in
      subst (λ l. AllSpelled env (u ∷ v ∷ (us ++ t ∷ [])) l)
      (sym (append_assoc text (comma_and rest) (codes "," ++ x) ∙ ap (λ l. text ++ l) (append_assoc (codes ",") rest (codes "," ++ x))))
      (more u v (us ++ t ∷ []) text (rest ++ (codes "," ++ x)) f tail)

  -- one more item of a list
  pub one_more : (ts : List CType) (i : ℕ) (t : CType) (start before mid after : List ℕ) → i < length ts → get_or ts i t ≡ t → Writes (AllSpelled env (take i ts)) start before →
      mid ≡ before ++ separator i → Writes (Spelled env t) mid after → Writes (AllSpelled env (take (i + 1) ts)) start after
  one_more ts i t start before mid after h q w m v =
      let count : length (take i ts) ≡ i = length-take-le i ts (omega (arith, h)) in
      let list = subst (λ n. AllSpelled env (take i ts ++ t ∷ []) (w.0 ++ (separator n ++ v.0))) count (appended t w.1 v.1) in
      let items : take (i + 1) ts ≡ take i ts ++ t ∷ [] = take_more ts i t h ∙ ap (λ x. take i ts ++ x ∷ []) q in (
        w.0 ++ (separator i ++ v.0),
        subst (λ l. AllSpelled env l (w.0 ++ (separator i ++ v.0))) (sym items) list,
        v.2 ∙ ap (λ l. l ++ v.0) (m ∙ ap (λ l. l ++ separator i) w.2) ∙ ap (λ l. l ++ v.0) (append_assoc start w.0 (separator i)) ∙ append_assoc start (w.0 ++ separator i) v.0
            ∙ ap (λ l. start ++ l) (append_assoc w.0 (separator i) v.0),
      )

  pub no_items : (start : List ℕ) → Writes (AllSpelled env []) start start
  no_items start = ([], none, sym (append-nil start))

  -- what is written of the inner type ends what is written of the type
  abbrev pub Ends : CType → List ℕ → CType → List ℕ → Type 0
  Ends t start inner now = (after : List ℕ) → Writes (Spelled env inner) now after → Writes (Spelled env t) start after

  pub through_pointer : (t inner : CType) (start now mid : List ℕ) → Ends t start (c.Ptr inner) now → mid ≡ now ++ codes "*" → Ends t start inner mid
  through_pointer t inner start now mid g q = λ after w.
      g after (codes "*" ++ w.0, pointer inner w.0 w.1, w.2 ∙ ap (λ l. l ++ w.0) q ∙ append_assoc now (codes "*") w.0)

  pub through_array : (t inner : CType) (n : Option ℕ) (start now mid : List ℕ) → Ends t start (c.Array inner n) now → mid ≡ now ++ size_text n → Ends t start inner mid
  through_array t inner n start now mid g q = λ after w.
      g after (size_text n ++ w.0, array inner n w.0 w.1, w.2 ∙ ap (λ l. l ++ w.0) q ∙ append_assoc now (size_text n) w.0)

  pub through_function : (t inner : CType) (params : List CType) (further : Bool) (start now begun list mid : List ℕ) → Ends t start (c.Fun inner params further) now →
      begun ≡ now ++ codes "(" → Writes (AllSpelled env params) begun list → mid ≡ list ++ end_text further → Ends t start inner mid
  through_function t inner params further start now begun list mid g q l m = λ after w.
      let bracket = codes "(" in
      let items : list ≡ now ++ (bracket ++ l.0) = l.2 ∙ ap (λ x. x ++ l.0) q ∙ append_assoc now bracket l.0 in
      let closed : mid ≡ now ++ (bracket ++ l.0 ++ end_text further) = m ∙ ap (λ x. x ++ end_text further) items ∙ append_assoc now (bracket ++ l.0) (end_text further) in
      g after (
        bracket ++ l.0 ++ end_text further ++ w.0,
        function inner params further l.0 w.0 l.1 w.1,
        w.2 ∙ ap (λ x. x ++ w.0) closed ∙ append_assoc now (bracket ++ l.0 ++ end_text further) w.0,
      )

  pub by_tag : (n : ℕ) (tag start mid after : List ℕ) → get_or env.names n None ≡ Some tag → mid ≡ start ++ codes "struct " → after ≡ mid ++ tag →
      Writes (Spelled env (c.Struct n)) start after
  by_tag n tag start mid after q m a = (codes "struct " ++ tag, tagged n tag q, a ∙ ap (λ x. x ++ tag) m ∙ append_assoc start (codes "struct ") tag)

  pub by_members : (n : ℕ) (start begun list after : List ℕ) → get_or env.names n None ≡ None → begun ≡ start ++ codes "struct{" →
      Writes (AllSpelled env (map (λ m. m.1) (get_or env.members n []))) begun list → after ≡ list ++ codes "}" → Writes (Spelled env (c.Struct n)) start after
  by_members n start begun list after q b l a =
      let inner : list ≡ start ++ (codes "struct{" ++ l.0) = l.2 ∙ ap (λ x. x ++ l.0) b ∙ append_assoc start (codes "struct{") l.0 in
      (codes "struct{" ++ l.0 ++ codes "}", untagged n l.0 q l.1, a ∙ ap (λ x. x ++ codes "}") inner ∙ append_assoc start (codes "struct{" ++ l.0) (codes "}"))

-- the types in a table of members
pub value_is : (ms : List (List ℕ × CType)) (i : ℕ) (t : CType) → i < length ms → ((d : List ℕ × CType) → t ≡ (get_or ms i d).1) → get_or (map (λ m. m.1) ms) i t ≡ t
value_is [] i t h q = absurd (omega (arith, h))
value_is (m ∷ ms) zero t h q = sym (q m)
value_is (m ∷ ms) (suc i) t h q = value_is ms i t (omega (arith, h)) q
