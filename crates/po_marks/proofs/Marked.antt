-- Marks in a list of known obligations.
use Rattle.std.proofs.Common.{◌≡◌, ◌⊎◌, ℕ, ◌+◌, ◌<◌, List, [], ◌∷◌, ◌++◌, length, map, take, get_or, refl, sym, ◌∙◌, ap, subst, inl, inr, arith}
use Rattle.std.specs.Prelude.{◌↔◌, Bool, true, false, IsTrue}
use Rattle.std.specs.List.{Contains}
use Rattle.std.proofs.lemmas.Bool.{false≢true}
use Rattle.std.proofs.lemmas.List.{take_more}
use Rattle.std.proofs.lemmas.List.Elements.{Contains-push_cases, Contains-push, Contains-append_left}
use Rattle.po_core.specs.Core.{AreApart}
use Rattle.po_lists.proofs.Members.{Has, has, contains, contains_map, has_from_map}
use Rattle.po_core.specs.declared.event.Mark.{Mark}
use Rattle.po_core.specs.declared.event.Mark.TheVariants.{Settled}
use Rattle.po_core.specs.declared.obl.Obl.{Obl}
use Rattle.po_core.specs.declared.obl.Verdict.{Verdict}
use Rattle.po_marks.specs.Known.{HasKey, HasVerdict, AreRemarked, SetsMark}

-- keys of a list of marks
pub key_of_mark : {P N : Type 0} (marks : List (Obl P × Mark P N)) (o : Obl P) → Contains (map (λ e. e.0) marks) o → HasKey marks o
key_of_mark {P} {N} marks o h =
    let x = has_from_map (λ (e : Obl P × Mark P N). e.0) marks o (has _ o h) in
    (x.0.1, contains marks (o, x.0.1) (subst (λ (z : Obl P). Has marks (z, x.0.1)) x.2 x.1))

pub mark_of_key : {P N : Type 0} (marks : List (Obl P × Mark P N)) (o : Obl P) → HasKey marks o → Contains (map (λ e. e.0) marks) o
mark_of_key {P} {N} marks o h = contains_map (λ (e : Obl P × Mark P N). e.0) marks (o, h.0) h.1

-- items that stand apart, and one more
pub apart_push : {X : Type 0} (xs : List X) (x : X) → AreApart xs → ¬ Contains xs x → AreApart (xs ++ x ∷ [])
apart_push [] x a other = (λ h. has [] x h, tt)
apart_push {X = X} (y ∷ ys) x a other = (
  λ h. elim (Contains-push_cases ys x y h) [
    | inl k ↦ a.0 k
    | inr q ↦ other (contains (y ∷ ys) x (inl (sym q)))
  ],
  apart_push ys x a.1 (λ h. other (contains (y ∷ ys) x (inr (has ys x h)))),
)

-- the front up to one more item
pub take_read : {X : Type 0} (xs : List X) (i : ℕ) (x : X) → i < length xs → x ≡ get_or xs i x → take (i + 1) xs ≡ take i xs ++ x ∷ []
take_read xs i x l q = take_more xs i x l ∙ ap (λ y. take i xs ++ y ∷ []) (sym q)

module _ {P N : Type 0} where
  has_key : (es : List (Obl P × Mark P N)) (o : Obl P) (m : Mark P N) → Has es (o, m) → Contains (map (λ e. e.0) es) o
  has_key es o m h = mark_of_key es o (m, contains es (o, m) h)

  one_has : (es : List (Obl P × Mark P N)) → AreApart (map (λ e. e.0) es) → (o : Obl P) (m n : Mark P N) → Has es (o, m) → Has es (o, n) → m ≡ n
  one_has [] a o m n h k = absurd h
  one_has (e ∷ es) a o m n (inl p) (inl q) = sym (ap (λ (z : Obl P × Mark P N). z.1) p) ∙ ap (λ (z : Obl P × Mark P N). z.1) q
  one_has (e ∷ es) a o m n (inl p) (inr k) = absurd (a.0 (subst (λ (z : Obl P). Contains (map (λ e. e.0) es) z) (ap (λ (z : Obl P × Mark P N). z.0) (sym p)) (has_key es o n k)))
  one_has (e ∷ es) a o m n (inr h) (inl q) = absurd (a.0 (subst (λ (z : Obl P). Contains (map (λ e. e.0) es) z) (ap (λ (z : Obl P × Mark P N). z.0) (sym q)) (has_key es o m h)))
  one_has (e ∷ es) a o m n (inr h) (inr k) = one_has es a.1 o m n h k

  -- an obligation has one mark
  pub one_mark : (es : List (Obl P × Mark P N)) → AreApart (map (λ e. e.0) es) → (o : Obl P) (m n : Mark P N) → Contains es (o, m) → Contains es (o, n) → m ≡ n
  one_mark es a o m n h k = one_has es a o m n (has es _ h) (has es _ k)

  -- what lists with the same keys know
  pub known_still : (old new : List (Obl P × Mark P N)) → map (λ e. e.0) new ≡ map (λ e. e.0) old → (o : Obl P) → HasKey old o → HasKey new o
  known_still old new same o h = key_of_mark new o (subst (λ (z : List (Obl P)). Contains z o) (sym same) (mark_of_key old o h))

  pub still_apart : (old new : List (Obl P × Mark P N)) → map (λ e. e.0) new ≡ map (λ e. e.0) old → AreApart (map (λ e. e.0) old) → AreApart (map (λ e. e.0) new)
  still_apart old new same a = subst (λ (z : List (Obl P)). AreApart z) (sym same) a

  -- a mark that is found tells which one an obligation has
  pub tells_mark : (es : List (Obl P × Mark P N)) → AreApart (map (λ e. e.0) es) → (o : Obl P) (m n : Mark P N) → Contains es (o, m) → (¬ (m ≡ n)) → Contains es (o, n) → ⊥
  tells_mark es a o m n h ne k = ne (one_mark es a o m n h k)

  -- one mark is set, of an obligation that had the old one
  pub set_remarks : (o : Obl P) (from to : Mark P N) (old new : List (Obl P × Mark P N)) → AreApart (map (λ e. e.0) old) → Contains old (o, from) → SetsMark o to old new → AreRemarked (λ p. p ≡ o) from to old new
  set_remarks o from to old new a was s = record {
    keys = s.keys;
    marks = λ p m. (
      λ h. elim ((s.marks p m).0 h) [
        | inl x ↦ inl (x.1, subst (λ (z : Obl P). Contains old (z, from)) (sym x.0) was, x.0)
        | inr x ↦ inr (x.1, λ y. x.0 y.1)
      ],
      λ h. (s.marks p m).1 (elim h [
        | inl x ↦ inl (x.2, x.0)
        | inr x ↦ inr (λ q. x.1 (one_mark old a o m from (subst (λ (z : Obl P). Contains old (z, m)) q x.0) was, q), x.0)
      ]),
    );
  }

  -- nothing is remarked where no obligation that is meant has the old mark
  pub none_remarks : (W : Obl P → Type 0) (from to : Mark P N) (old : List (Obl P × Mark P N)) → ((p : Obl P) → Contains old (p, from) → W p → ⊥) → AreRemarked W from to old old
  none_remarks W from to old none = record {
    keys = refl;
    marks = λ p m. (
      λ h. inr (h, λ y. none p (subst (λ (z : Mark P N). Contains old (p, z)) y.0 h) y.1),
      λ h. elim h [ inl x ↦ absurd (none p x.1 x.2) | inr x ↦ x.0 ],
    );
  }

  -- one remark after the other, each of what has the same mark
  pub both_remarks : (V W U : Obl P → Type 0) (from to : Mark P N) → (to ≡ from → ⊥) → ((p : Obl P) → U p → V p ⊎ W p) → ((p : Obl P) → V p ⊎ W p → U p) → (old mid new : List (Obl P × Mark P N)) → AreApart (map (λ e. e.0) old) → AreRemarked V from to old mid → AreRemarked W from to mid new → AreRemarked U from to old new
  both_remarks V W U from to ne parts whole old mid new a r s = record {
    keys = s.keys ∙ r.keys;
    marks = λ p m. (
      λ h. elim ((s.marks p m).0 h) [
        | inl x ↦ elim ((r.marks p from).0 x.1) [ inl y ↦ absurd (ne (sym y.0)) | inr y ↦ inl (x.0, y.0, whole p (inr x.2)) ]
        | inr x ↦ elim ((r.marks p m).0 x.0) [
          | inl y ↦ inl (y.0, y.1, whole p (inl y.2))
          | inr y ↦ inr (y.0, λ z. elim (parts p z.1) [ inl v ↦ y.1 (z.0, v) | inr w ↦ x.1 (z.0, w) ])
        ]
      ],
      λ h. elim h [
        | inl x ↦ (
            let known = known_still old mid r.keys p (from, x.1) in
            elim ((r.marks p known.0).0 known.1) [
              | inl y ↦ (
                  let at : Contains mid (p, m) = subst (λ (z : Mark P N). Contains mid (p, z)) (y.0 ∙ sym x.0) known.1 in
                  (s.marks p m).1 (inr (at, λ z. ne (sym x.0 ∙ z.0))))
              | inr y ↦ (
                  let is : known.0 ≡ from = one_mark old a p known.0 from y.0 x.1 in
                  let at : Contains mid (p, from) = subst (λ (z : Mark P N). Contains mid (p, z)) is known.1 in
                  elim (parts p x.2) [
                    | inl v ↦ absurd (y.1 (is, v))
                    | inr w ↦ (s.marks p m).1 (inl (x.0, at, w))
                  ])
            ])
        | inr x ↦ (s.marks p m).1 (inr ((r.marks p m).1 (inr (x.0, λ z. x.1 (z.0, whole p (inl z.1)))), λ z. x.1 (z.0, whole p (inr z.1))))
      ],
    );
  }

  -- a remark that means the same among what has the old mark
  pub like_remarks : (V W : Obl P → Type 0) (from to : Mark P N) (old new : List (Obl P × Mark P N)) → ((p : Obl P) → Contains old (p, from) → V p ↔ W p) → AreRemarked V from to old new → AreRemarked W from to old new
  like_remarks V W from to old new like r = record {
    keys = r.keys;
    marks = λ p m. (
      λ h. elim ((r.marks p m).0 h) [
        | inl x ↦ inl (x.0, x.1, (like p x.1).0 x.2)
        | inr x ↦ inr (x.0, λ y. x.1 (y.0, (like p (subst (λ (z : Mark P N). Contains old (p, z)) y.0 x.0)).1 y.1))
      ],
      λ h. (r.marks p m).1 (elim h [
        | inl x ↦ inl (x.0, x.1, (like p x.1).1 x.2)
        | inr x ↦ inr (x.0, λ y. x.1 (y.0, (like p (subst (λ (z : Mark P N). Contains old (p, z)) y.0 x.0)).0 y.1))
      ]),
    );
  }

  -- nothing is meant yet
  pub start_remarks : (from to : Mark P N) (old : List (Obl P × Mark P N)) → AreRemarked (λ p. Contains [] p) from to old old
  start_remarks from to old = none_remarks (λ p. Contains [] p) from to old (λ p h c. has [] p c)

  -- one more obligation of a list
  pub next_remarks : (items : List (Obl P)) (i : ℕ) (o : Obl P) → i < length items → o ≡ get_or items i o → (from to : Mark P N) → (to ≡ from → ⊥) → (old mid new : List (Obl P × Mark P N)) → AreApart (map (λ e. e.0) old) → AreRemarked (λ p. Contains (take i items) p) from to old mid → AreRemarked (λ p. p ≡ o) from to mid new → AreRemarked (λ p. Contains (take (i + 1) items) p) from to old new
  next_remarks items i o l q from to ne old mid new a r s =
      let more = take_read items i o l q in
      both_remarks (λ p. Contains (take i items) p) (λ p. p ≡ o) (λ p. Contains (take (i + 1) items) p) from to ne
      (λ p h. elim (Contains-push_cases (take i items) o p (subst (λ (z : List (Obl P)). Contains z p) more h)) [ inl x ↦ inl x | inr x ↦ inr (sym x) ])
      (λ p h. subst (λ (z : List (Obl P)). Contains z p) (sym more) (elim h [
        | inl x ↦ Contains-append_left (take i items) (o ∷ []) p x
        | inr x ↦ subst (λ (z : Obl P). Contains (take i items ++ o ∷ []) z) (sym x) (Contains-push (take i items) o)
      ]))
      old mid new a r s

  -- what a mark that is found tells
  pub mark_tells : (es : List (Obl P × Mark P N)) → AreApart (map (λ e. e.0) es) → (o : Obl P) (m n : Mark P N) (r : Bool) → Contains es (o, m) → (IsTrue r ↔ (m ≡ n)) → IsTrue r ↔ Contains es (o, n)
  mark_tells es a o m n r h tells = (λ t. subst (λ (z : Mark P N). Contains es (o, z)) (tells.0 t) h, λ c. tells.1 (one_mark es a o m n h c))

  pub verdict_tells : (es : List (Obl P × Mark P N)) → AreApart (map (λ e. e.0) es) → (o : Obl P) (m : Mark P N) (r : Bool) → Contains es (o, m) → (IsTrue r ↔ ((v : Verdict P N) × (m ≡ Settled v))) → IsTrue r ↔ HasVerdict es o
  verdict_tells es a o m r h tells = (λ t. let v = tells.0 t in (v.0, subst (λ (z : Mark P N). Contains es (o, z)) v.1 h), λ c. tells.1 (c.0, one_mark es a o m (Settled c.0) h c.1))

  pub no_mark : (es : List (Obl P × Mark P N)) (o : Obl P) (n : Mark P N) → ¬ HasKey es o → IsTrue false ↔ Contains es (o, n)
  no_mark es o n none = (λ h. absurd (false≢true h), λ c. absurd (none (n, c)))

  pub no_verdict : (es : List (Obl P × Mark P N)) (o : Obl P) → ¬ HasKey es o → IsTrue false ↔ HasVerdict es o
  no_verdict es o none = (λ h. absurd (false≢true h), λ c. absurd (none (Settled c.0, c.1)))
