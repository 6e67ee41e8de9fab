-- The line of the files that can be taken.
use Rattle.std.proofs.Common.{◌≡◌, ◌≢◌, ℕ, zero, suc, ◌+◌, ◌<◌, ◌≤◌, List, [], ◌∷◌, ◌++◌, length, get_or, set, refl, sym, ◌∙◌, ap, subst, inl, inr, arith}
use Rattle.std.specs.Prelude.{◌↔◌, Bool, true, false, not, ◌&&◌, ◌==◌, IsTrue, Some, slice_get}
use Rattle.std.specs.List.{Contains}
use Rattle.std.proofs.lemmas.Bool.{cases_eq, false≢true}
use Rattle.std.proofs.lemmas.List.Elements.{Contains-push_cases, Contains-push, Contains-append_left}
use Rattle.std.proofs.lemmas.Option.{slice_get_within, same_Some}
use Rattle.po_base.specs.declared.numbers.FileNo.{FileNo}
use Rattle.po_core.specs.Core.{AreApart}
use Rattle.po_core.proofs.Lists.{apart_within}
use Rattle.po_core.specs.declared.obl.Obl.{Obl}
use Rattle.po_marks.specs.Waiting.{CanBeTaken, free, is_ready, is_some_item, lengthened, line_up}
use Rattle.po_marks.specs.declared.queue.Queue.{Queue}
use Rattle.po_marks.proofs.Marked.{apart_push}
use Rattle.po_lists.proofs.Places.{get_set_same, get_set_other}
use Rattle.po_lists.proofs.Members.{Has, has, contains}

pub same_file : (f g : FileNo) → f.0 ≡ g.0 → f ≡ g
same_file f g q = let to : ℕ → FileNo = λ n. record { 0 = n } in ap to q

pub same_number : (f g : FileNo) → f ≡ g → f.0 ≡ g.0
same_number f g q = ap (λ (z : FileNo). z.0) q

-- files that stand apart and are all below a number are no more than that
files_below : ℕ → List FileNo
files_below zero = []
files_below (suc n) = (record { 0 = n }) ∷ files_below n

length-files_below : (n : ℕ) → length (files_below n) ≡ n
unfolding files_below
length-files_below zero = refl
length-files_below (suc n) = ap suc (length-files_below n)

has_below : (n : ℕ) (f : FileNo) → f.0 < n → Has (files_below n) f
unfolding files_below
has_below zero f l = absurd (omega arith)
has_below (suc n) f l = elim (cases_eq f.0 n) [
  | inl q ↦ inl (sym (same_file f (record { 0 = n }) q))
  | inr ne ↦ inr (has_below n f (let other : f.0 ≡ n → ⊥ = ne in omega arith))
]

pub few_below : (line : List FileNo) (n : ℕ) → AreApart line → ((f : FileNo) → Contains line f → f.0 < n) → length line ≤ n
few_below line n a below =
    let few = apart_within line (files_below n) a (λ f h. has_below n f (below f (contains line f h))) in
    let all = length-files_below n in
    omega (arith, few, all)

-- a queue with one more item has one, and can be taken if it could be before
some_pushed : {X : Type 0} (xs ys : List X) (y : X) → is_some_item (xs ++ (ys ++ y ∷ [])) ≡ true
some_pushed [] [] y = refl
some_pushed [] (z ∷ zs) y = refl
some_pushed (x ∷ xs) ys y = refl

first_holds : (a c : Bool) → a && c ≡ true → a && true ≡ true
first_holds true c h = refl
first_holds false c h = h

pub ready_longer : {P : Type 0} (q : Queue P) (o : Obl P) → is_ready q ≡ true → is_ready (lengthened q o) ≡ true
ready_longer q o h = ap (λ (z : Bool). not q.is_held && z) (some_pushed q.back q.fresh o) ∙ first_holds (not q.is_held) (is_some_item (q.back ++ q.fresh)) h

some_left : {X : Type 0} (xs ys : List X) → (xs ≡ [] → ⊥) → is_some_item (xs ++ ys) ≡ true
some_left [] ys h = absurd (h refl)
some_left (x ∷ xs) ys h = refl

-- a queue into which something was put back, of a file that nobody holds
pub ready_back : {P : Type 0} (q : Queue P) (e : Bool) → q.is_held ≡ false → (IsTrue e ↔ (q.back ≡ [])) → e ≡ false → not e ≡ is_ready q
ready_back q e free tells some =
    let left : is_some_item (q.back ++ q.fresh) ≡ true = some_left q.back q.fresh (λ h. false≢true (sym some ∙ tells.1 h)) in
    ap not some ∙ sym (ap (λ (z : Bool). not q.is_held && z) left ∙ ap (λ (z : Bool). not z && true) free)

pub some_there : (n : ℕ) (line : List FileNo) → n ≡ length line → (n == 0) ≡ false → 0 < length line
some_there zero line l h = absurd (false≢true (sym h))
some_there (suc n) line l h = omega (arith, l)

-- the first of a line
pub first_of : (line : List FileNo) (f : FileNo) → 0 < length line → f ≡ get_or line 0 f → (rest : List FileNo) × (line ≡ f ∷ rest)
first_of [] f l q = absurd (omega arith)
first_of (g ∷ line) f l q = (line, ap (λ (z : FileNo). z ∷ line) (sym q))

pub held_not_ready : {P : Type 0} (q : Queue P) → q.is_held ≡ true → is_ready q ≡ false
held_not_ready q h = ap (λ (z : Bool). not z && is_some_item (q.back ++ q.fresh)) h

-- one file's queue is another
module _ {P : Type 0} (queues : List (Queue P)) (line : List FileNo) (file : FileNo) (q r : Queue P) (at : slice_get queues file.0 ≡ Some q) (lined : (f : FileNo) → Contains line f ↔ CanBeTaken queues f) (once : AreApart line) where
  within : file.0 < length queues
  within = slice_get_within queues file.0 q at

  there_now : (f : FileNo) → f.0 ≡ file.0 → slice_get (set queues file.0 r) f.0 ≡ Some r
  there_now f same = ap (λ (z : ℕ). slice_get (set queues file.0 r) z) same ∙ get_set_same queues file.0 r within

  other_still : (f : FileNo) → (f.0 ≢ file.0) → CanBeTaken queues f ↔ CanBeTaken (set queues file.0 r) f
  other_still f ne = (λ h. (h.0, get_set_other queues file.0 f.0 r ne ∙ h.1, h.2), λ h. (h.0, sym (get_set_other queues file.0 f.0 r ne) ∙ h.1, h.2))

  ready_now : (f : FileNo) → f.0 ≡ file.0 → CanBeTaken (set queues file.0 r) f → is_ready r ≡ true
  ready_now f same h = subst (λ (z : Queue P). is_ready z ≡ true) (sym (same_Some r h.0 (sym (there_now f same) ∙ h.1))) h.2

  ready_before : (f : FileNo) → f.0 ≡ file.0 → CanBeTaken queues f → is_ready q ≡ true
  ready_before f same h = subst (λ (z : Queue P). is_ready z ≡ true) (sym (same_Some q h.0 (sym (ap (λ (z : ℕ). slice_get queues z) same ∙ at) ∙ h.1))) h.2

  clash : (s : Queue P) → is_ready s ≡ true → is_ready s ≡ false → ⊥
  clash s t f = false≢true (sym f ∙ t)

  other_lined : (f : FileNo) → (f.0 ≢ file.0) → Contains line f ↔ CanBeTaken (set queues file.0 r) f
  other_lined f ne = (λ h. (other_still f ne).0 ((lined f).0 h), λ h. (lined f).1 ((other_still f ne).1 h))

  pub lined_by : (before now : Bool) → is_ready q ≡ before → is_ready r ≡ now → (before ≡ true → now ≡ true) → (f : FileNo) → Contains (line_up before now file line) f ↔ CanBeTaken (set queues file.0 r) f
  lined_by false true b n up f = elim (cases_eq f.0 file.0) [
    | inl same ↦ (λ h. (r, there_now f same, n), λ h. subst (λ (z : FileNo). Contains (line ++ file ∷ []) z) (sym (same_file f file same)) (Contains-push line file))
    | inr ne ↦ (
      λ h. (other_lined f ne).0 (elim (Contains-push_cases line file f h) [ inl x ↦ x | inr x ↦ absurd (ne (sym (same_number file f x))) ]),
      λ h. Contains-append_left line (file ∷ []) f ((other_lined f ne).1 h),
    )
  ]
  lined_by false false b n up f = elim (cases_eq f.0 file.0) [
    | inl same ↦ (λ h. absurd (clash q (ready_before f same ((lined f).0 h)) b), λ h. absurd (clash r (ready_now f same h) n))
    | inr ne ↦ other_lined f ne
  ]
  lined_by true now b n up f = elim (cases_eq f.0 file.0) [
    | inl same ↦ (λ h. (r, there_now f same, n ∙ up refl), λ h. subst (λ (z : FileNo). Contains line z) (sym (same_file f file same)) ((lined file).1 (q, at, b)))
    | inr ne ↦ other_lined f ne
  ]

  pub once_by : (before now : Bool) → is_ready q ≡ before → AreApart (line_up before now file line)
  once_by false true b = apart_push line file once (λ h. clash q (ready_before file refl ((lined file).0 h)) b)
  once_by false false b = once
  once_by true now b = once

  -- a file that can't be taken yet finds room in line
  pub room_in_line : is_ready q ≡ false → length line < length queues
  room_in_line b =
      let all = few_below (file ∷ line) (length queues) ((λ h. clash q (ready_before file refl ((lined file).0 h)) b), once) (λ f h. elim (has (file ∷ line) f h) [
        | inl x ↦ (let is = same_number file f x in let w = within in omega (arith, is, w))
        | inr x ↦ (let t = (lined f).0 (contains line f x) in slice_get_within queues f.0 t.0 t.1)
      ]) in
      omega (arith, all)

  -- the first in line is taken
  pub lined_rest : (rest : List FileNo) → line ≡ file ∷ rest → is_ready r ≡ false → (f : FileNo) → Contains rest f ↔ CanBeTaken (set queues file.0 r) f
  lined_rest rest is b f =
      let first : ¬ Contains rest file = (subst (λ (z : List FileNo). AreApart z) is once).0 in
      elim (cases_eq f.0 file.0) [
        | inl same ↦ (λ h. absurd (first (subst (λ (z : FileNo). Contains rest z) (same_file f file same) h)), λ h. absurd (clash r (ready_now f same h) b))
        | inr ne ↦ (
          λ h. (other_lined f ne).0 (subst (λ (z : List FileNo). Contains z f) (sym is) (contains (file ∷ rest) f (inr (has rest f h)))),
          λ h. elim (has (file ∷ rest) f (subst (λ (z : List FileNo). Contains z f) is ((other_lined f ne).1 h))) [ inl x ↦ absurd (ne (sym (same_number file f x))) | inr x ↦ contains rest f x ],
        )
      ]

  pub once_rest : (rest : List FileNo) → line ≡ file ∷ rest → AreApart rest
  once_rest rest is = (subst (λ (z : List FileNo). AreApart z) is once).1
