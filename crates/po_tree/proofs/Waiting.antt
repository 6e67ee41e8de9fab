-- What a walk over specifiers has gathered, and what is left to those that wait.
use Rattle.std.proofs.Common.{◌≡◌, ℕ, ◌<◌, List, [], ◌∷◌, ◌++◌, sym, ap, ◌∙◌, subst, arith, ◌⊎◌, inl, inr, append-nil}
use Rattle.std.specs.Prelude.{Contains, Option, Some}
use Rattle.std.proofs.lemmas.List.Elements.{Contains-append_left, Contains-append_right, Contains-append_cases}
use Rattle.po_tree.specs.declared.expression.Specifier.{Specifier}
use Rattle.po_tree.specs.declared.expression.Specifier.TheVariants as sp
use Rattle.po_tree.specs.declared.expression.Member.{Member}
use Rattle.po_tree.specs.declared.names.Declared.{Declared}
use Rattle.po_tree.specs.Scope.{Enumerates, Tags, Somewhere}
use Rattle.po_tree.specs.NameSets.{Adds}
use Rattle.po_tree.specs.Gathering.{AddsSpec, AddsSpecs, Leaves, Gathers, Opens, in_members, count_in, count_all}
use Rattle.po_tree.proofs.Sets.{first_or_later, is_first, none_contained}
use Rattle.po_tree.proofs.Gathered.{enumerates_body, body_enumerates, tags_body, body_tags, own_tag}
use Rattle.po_tree.proofs.Counts.{count_in-body, count_all-append}

nowhere : (P : Specifier → Type 0) → Somewhere P [] → ⊥
nowhere P (s, c, p) = none_contained s c

only : (P : Specifier → Type 0) (s : Specifier) → Somewhere P (s ∷ []) → P s
only P s (s', c, p) = elim (first_or_later s [] s' c) [ inl q ↦ subst P (sym q) p | inr r ↦ absurd (none_contained s' r) ]

itself : (P : Specifier → Type 0) (s : Specifier) → P s → Somewhere P (s ∷ [])
itself P s p = (s, is_first s [], p)

in_left : (P : Specifier → Type 0) (xs ys : List Specifier) → Somewhere P xs → Somewhere P (xs ++ ys)
in_left P xs ys (s, c, p) = (s, Contains-append_left xs ys s c, p)

in_right : (P : Specifier → Type 0) (xs ys : List Specifier) → Somewhere P ys → Somewhere P (xs ++ ys)
in_right P xs ys (s, c, p) = (s, Contains-append_right xs ys s c, p)

in_either : (P : Specifier → Type 0) (xs ys : List Specifier) → Somewhere P (xs ++ ys) → Somewhere P xs ⊎ Somewhere P ys
in_either P xs ys (s, c, p) = elim (Contains-append_cases xs ys s c) [ inl l ↦ inl (s, l, p) | inr r ↦ inr (s, r, p) ]

module _ (Q : List ℕ → Specifier → Type 0) where
  leaves_next : (P : List ℕ → Type 0) (left inside : List Specifier) (s : Specifier) (a b c : List (List ℕ)) →
      Leaves P (λ x. Somewhere (Q x) (left ++ s ∷ [])) a b → Leaves (λ x. Somewhere (Q x) (s ∷ [])) (λ x. Somewhere (Q x) inside) b c →
      Leaves P (λ x. Somewhere (Q x) (left ++ inside)) a c
  leaves_next P left inside s a b c first second = record {
    each = λ x. (
      λ h. elim h [
        | inl n ↦ back x (inl n)
        | inr w ↦ elim (in_either (Q x) left inside w) [ inl l ↦ (first.each x).0 (inr (in_left (Q x) left (s ∷ []) l)) | inr i ↦ back x (inr i) ]
      ],
      λ h. elim ((first.each x).1 h) [
        | inl n ↦ fore x (inl n)
        | inr w ↦ elim (in_either (Q x) left (s ∷ []) w) [ inl l ↦ inr (in_left (Q x) left inside l) | inr i ↦ fore x (inr i) ]
      ],
    );
  }
    where
      back : (x : List ℕ) → Contains c x ⊎ Somewhere (Q x) inside → Contains a x ⊎ P x
      back x h = elim ((second.each x).0 h) [ inl n ↦ (first.each x).0 (inl n) | inr w ↦ (first.each x).0 (inr (in_right (Q x) left (s ∷ []) w)) ]

      fore : (x : List ℕ) → Contains b x ⊎ Somewhere (Q x) (s ∷ []) → Contains c x ⊎ Somewhere (Q x) (left ++ inside)
      fore x h = elim ((second.each x).1 h) [ inl n ↦ inl n | inr w ↦ inr (in_right (Q x) left inside w) ]

  leaves_none : (P : List ℕ → Type 0) (a b : List (List ℕ)) → Leaves P (λ x. Somewhere (Q x) []) a b → Adds P a b
  leaves_none P a b l = record {
    each = λ x. ((λ h. (l.each x).0 (inl h)), λ h. elim ((l.each x).1 h) [ inl n ↦ n | inr w ↦ absurd (nowhere (Q x) w) ]);
  }

  leaves_own : (s : Specifier) (a b : List (List ℕ)) → Adds (λ x. Q x s) a b → Leaves (λ x. Somewhere (Q x) (s ∷ [])) (λ x. Somewhere (Q x) []) a b
  leaves_own s a b l = record {
    each = λ x. (
      λ h. elim h [
        | inl n ↦ elim ((l.each x).0 n) [ inl o ↦ inl o | inr p ↦ inr (itself (Q x) s p) ]
        | inr w ↦ absurd (nowhere (Q x) w)
      ],
      λ h. elim h [ inl n ↦ inl ((l.each x).1 (inl n)) | inr w ↦ inl ((l.each x).1 (inr (only (Q x) s w))) ],
    );
  }

-- at the start all are left
pub gathers_none : (specs : List Specifier) (a : Declared) → Gathers specs specs a a
gathers_none specs a = record { enumerators = record { each = λ x. ((λ h. h), (λ h. h)) }; tags = record { each = λ x. ((λ h. h), (λ h. h)) } }

-- the last of those that are left gives way to those inside it
pub gathers_next : (all left inside : List Specifier) (s : Specifier) (a b c : Declared) → Gathers all (left ++ s ∷ []) a b → Gathers (s ∷ []) inside b c →
    Gathers all (left ++ inside) a c
gathers_next all left inside s a b c first second = record {
  enumerators = leaves_next Enumerates _ left inside s _ _ _ first.enumerators second.enumerators;
  tags = leaves_next Tags _ left inside s _ _ _ first.tags second.tags;
}

-- where none is left, what all declare is added
pub gathers_all : (all : List Specifier) (a b : Declared) → Gathers all [] a b → AddsSpecs all a b
gathers_all all a b g = record { enumerators = leaves_none Enumerates _ _ _ g.enumerators; tags = leaves_none Tags _ _ _ g.tags }

-- a specifier with no body
pub opens_plain : (s : Specifier) (waits : List Specifier) (a b : Declared) → count_in s ≡ 1 → AddsSpec s a b → Opens s waits waits a b
opens_plain s waits a b n adds = record {
  inside = [];
  waiting = sym (append-nil waits);
  fewer = omega (arith, n);
  gathers = record { enumerators = leaves_own Enumerates s _ _ adds.enumerators; tags = leaves_own Tags s _ _ adds.tags };
}

-- a struct with a body
pub opens_body : (tag : Option (List ℕ)) (ms : List Member) (s : Specifier) (waits wait : List Specifier) (a : Declared) (tags : List (List ℕ)) → s ≡ sp.Struct tag (Some ms) →
    wait ≡ waits ++ in_members ms → Adds (λ x. tag ≡ Some x) a.tags tags → Opens s waits wait a (record { enumerators = a.enumerators; tags = tags })
opens_body tag ms s waits wait a tags q w t = record {
  inside = in_members ms;
  waiting = w;
  fewer = let n = ap count_in q ∙ count_in-body tag ms in omega (arith, n);
  gathers = record {
    enumerators = record {
      each = λ x. (
        λ h. elim h [ inl n ↦ inl n | inr i ↦ inr (itself (Enumerates x) s (enumerates_body tag ms x s q i)) ],
        λ h. elim h [ inl n ↦ inl n | inr i ↦ inr (body_enumerates tag ms x s q (only (Enumerates x) s i)) ],
      );
    };
    tags = record {
      each = λ x. (
        λ h. elim h [
          | inl n ↦ elim ((t.each x).0 n) [ inl o ↦ inl o | inr r ↦ inr (itself (Tags x) s (own_tag s tag (Some ms) q r)) ]
          | inr i ↦ inr (itself (Tags x) s (tags_body tag ms x s q i))
        ],
        λ h. elim h [
          | inl n ↦ inl ((t.each x).1 (inl n))
          | inr i ↦ elim (body_tags tag ms x s q (only (Tags x) s i)) [ inl r ↦ inl ((t.each x).1 (inr r)) | inr j ↦ inr j ]
        ],
      );
    };
  };
}

-- the loop goes on
pub gathers_on : (all wait left wait' : List Specifier) (s : Specifier) (a b c : Declared) → wait ≡ left ++ s ∷ [] → Gathers all wait a b →
    Opens s left wait' b c → Gathers all wait' a c
gathers_on all wait left wait' s a b c q first opened =
    subst (λ w. Gathers all w a c) (sym opened.waiting) (gathers_next all left opened.inside s a b c (subst (λ w. Gathers all w a b) q first) opened.gathers)

-- and has fewer specifiers left
pub fewer_left : (wait left wait' : List Specifier) (s : Specifier) (a b : Declared) → wait ≡ left ++ s ∷ [] → Opens s left wait' a b → count_all wait' < count_all wait
fewer_left wait left wait' s a b q opened =
    let less = opened.fewer in
    let before = ap count_all q ∙ count_all-append left (s ∷ []) in
    let behind = ap count_all opened.waiting ∙ count_all-append left opened.inside in
    omega (arith, less, before, behind)
