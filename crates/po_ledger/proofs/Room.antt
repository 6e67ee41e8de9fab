-- Room for what is held, after each event.
use Rattle.std.proofs.Common.{◌≡◌, ◌≢◌, ◌⊎◌, ℕ, ◌+◌, ◌≤◌, List, [], ◌∷◌, length, refl, sym, subst, inl, inr, arith}
use Rattle.std.specs.List.{Contains}
use Rattle.po_base.specs.declared.numbers.FileNo.{FileNo}
use Rattle.po_core.specs.Book.{Book}
use Rattle.po_core.specs.Core.{AreApart, CoreState, HasMark, IsHeld, Takes}
use Rattle.po_core.specs.declared.event.Mark.TheVariants.{Taken}
use Rattle.po_core.specs.declared.obl.Obl.{Obl}
use Rattle.po_core.proofs.Lists.{apart_within}
use Rattle.po_core.specs.Decided.{files_decided}
use Rattle.po_ledger.specs.View.{IsRoomFor}
use Rattle.po_lists.proofs.Members.{has, contains}

-- a list whose items are each of one kind or the other, in two parts
record Parted {X : Type 0} (A B : X → Type 0) (xs : List X) : Type 0 where
  pub left : List X
  pub right : List X
  pub left_apart : AreApart left
  pub right_apart : AreApart right
  pub left_all : (x : X) → Contains left x → A x
  pub right_all : (x : X) → Contains right x → B x
  pub left_within : (x : X) → Contains left x → Contains xs x
  pub right_within : (x : X) → Contains right x → Contains xs x
  pub enough : length xs ≤ length left + length right

parted : {X : Type 0} (A B : X → Type 0) (xs : List X) → AreApart xs → ((x : X) → Contains xs x → A x ⊎ B x) → Parted A B xs
parted A B [] a h = record {
  left = [];
  right = [];
  left_apart = tt;
  right_apart = tt;
  left_all = λ x k. absurd (has [] x k);
  right_all = λ x k. absurd (has [] x k);
  left_within = λ x k. k;
  right_within = λ x k. k;
  enough = omega arith;
}
parted {X} A B (x ∷ xs) a h =
    let rest : Parted A B xs = parted A B xs a.1 (λ y k. h y (contains (x ∷ xs) y (inr (has xs y k)))) in
    let later : (y : X) → Contains xs y → Contains (x ∷ xs) y = λ y k. contains (x ∷ xs) y (inr (has xs y k)) in
    let now : (zs : List X) (y : X) → ((z : X) → Contains zs z → Contains xs z) → Contains (x ∷ zs) y → Contains (x ∷ xs) y = λ zs y w k. elim (has (x ∷ zs) y k) [ inl q ↦ contains (x ∷ xs) y (inl q) | inr m ↦ later y (w y (contains zs y m)) ] in
    let few : length xs ≤ length rest.left + length rest.right = rest.enough in
    elim (h x (contains (x ∷ xs) x (inl refl))) [
      | inl one ↦ record {
        left = x ∷ rest.left;
        right = rest.right;
        left_apart = (λ k. a.0 (rest.left_within x k), rest.left_apart);
        right_apart = rest.right_apart;
        left_all = λ y k. elim (has (x ∷ rest.left) y k) [ inl q ↦ subst A q one | inr m ↦ rest.left_all y (contains rest.left y m) ];
        right_all = rest.right_all;
        left_within = λ y k. now rest.left y rest.left_within k;
        right_within = λ y k. later y (rest.right_within y k);
        enough = omega arith;
      }
      | inr other ↦ record {
        left = rest.left;
        right = x ∷ rest.right;
        left_apart = rest.left_apart;
        right_apart = (λ k. a.0 (rest.right_within x k), rest.right_apart);
        left_all = rest.left_all;
        right_all = λ y k. elim (has (x ∷ rest.right) y k) [ inl q ↦ subst B q other | inr m ↦ rest.right_all y (contains rest.right y m) ];
        left_within = λ y k. later y (rest.left_within y k);
        right_within = λ y k. now rest.right y rest.right_within k;
        enough = omega arith;
      }
    ]

-- items that are all the same one are one at most
one_at_most : {X : Type 0} (x : X) (xs : List X) → AreApart xs → ((y : X) → Contains xs y → y ≡ x) → length xs ≤ 1
one_at_most x xs a h = apart_within xs (x ∷ []) a (λ y k. inl (sym (h y (contains xs y k))))

module _ {P N : Type 0} (s t : CoreState P N) (old new : ℕ) (room : IsRoomFor s old) where
  -- nothing more is held or taken
  pub room_kept : ((o : Obl P) → HasMark t o Taken → HasMark s o Taken) → ((file : FileNo) → IsHeld t file → IsHeld s file) → old ≤ new → IsRoomFor t new
  room_kept taken held le os fs oa om fa fm =
      let l = room os fs oa (λ o k. taken o (om o k)) fa (λ f k. held f (fm f k)) in omega arith

  -- one obligation is no longer taken
  pub room_settled : (p : Obl P) → HasMark s p Taken → ((o : Obl P) → HasMark t o Taken → HasMark s o Taken × (o ≢ p)) → ((file : FileNo) → IsHeld t file → IsHeld s file) → old ≤ new + 1 → IsRoomFor t new
  room_settled p was taken held le os fs oa om fa fm =
      let apart : AreApart (p ∷ os) = (λ k. (taken p (om p k)).1 refl, oa) in
      let all : (o : Obl P) → Contains (p ∷ os) o → HasMark s o Taken = λ o k. elim (has (p ∷ os) o k) [ inl q ↦ subst (λ (z : Obl P). HasMark s z Taken) q was | inr m ↦ (taken o (om o (contains os o m))).0 ] in
      let l = room (p ∷ os) fs apart all fa (λ f k. held f (fm f k)) in omega arith

  -- one file is no longer held
  pub room_freed : (file : FileNo) → IsHeld s file → ((o : Obl P) → HasMark t o Taken → HasMark s o Taken) → ((other : FileNo) → IsHeld t other → IsHeld s other × (other ≢ file)) → old ≤ new + 1 → IsRoomFor t new
  room_freed file was taken held le os fs oa om fa fm =
      let apart : AreApart (file ∷ fs) = (λ k. (held file (fm file k)).1 refl, fa) in
      let all : (f : FileNo) → Contains (file ∷ fs) f → IsHeld s f = λ f k. elim (has (file ∷ fs) f k) [ inl q ↦ subst (λ (z : FileNo). IsHeld s z) q was | inr m ↦ (held f (fm f (contains fs f m))).0 ] in
      let l = room os (file ∷ fs) oa (λ o k. taken o (om o k)) apart all in omega arith

  -- a file is taken, with its hand
  pub room_taken : {T : Type 0} (b : Book P N T) (worker : ℕ) (file : FileNo) (takes : Takes b worker file s t) → old + (length takes.hand.items + 1) ≤ new → IsRoomFor t new
  room_taken b worker file takes le os fs oa om fa fm =
      let marks = parted (λ o. Contains takes.hand.items o) (λ o. HasMark s o Taken) os oa (λ o k. elim ((takes.marks o Taken).0 (om o k)) [ inl x ↦ inl ((takes.takes_all o).1 (x.1, x.2)) | inr x ↦ inr x.0 ]) in
      let files = parted (λ f. f ≡ file) (λ f. IsHeld s f) fs fa (λ f k. elim (files_decided f file) [ inl q ↦ inl q | inr ne ↦ (let h = fm f k in inr (h.0, (takes.other_hands f h.0 ne).0 h.1)) ]) in
      let mine : length marks.left ≤ length takes.hand.items = apart_within marks.left takes.hand.items marks.left_apart (λ o k. has _ o (marks.left_all o (contains marks.left o k))) in
      let single : length files.left ≤ 1 = one_at_most file files.left files.left_apart files.left_all in
      let before : length marks.right + length files.right ≤ old = room marks.right files.right marks.right_apart marks.right_all files.right_apart files.right_all in
      let m : length os ≤ length marks.left + length marks.right = marks.enough in
      let f : length fs ≤ length files.left + length files.right = files.enough in
      omega arith
