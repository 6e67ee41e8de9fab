-- What is asked of each of two pointers, at the ends of their places.
use Rattle.std.proofs.Common.{◌≡◌, ℕ, sym, subst, refl, arith, inl, inr}
use Rattle.std.specs.Prelude.{ℤ, pos, ◌+ℤ◌, ◌-ℤ◌, ◌≤ℤ◌, ◌<ℤ◌, ◌↔◌, ◌⊎◌, List, Option, Some, None, slice_get}
use Rattle.std.proofs.lemmas.Int.{ints, by_lt_z}
use Rattle.po_memory.specs.declared.block.Block.{Block}
use Rattle.po_memory.specs.declared.value.Value.{Value}
use Rattle.po_memory.specs.declared.value.Value.TheVariants.{Number, Null, Pointer, Wild}
use Rattle.po_memory.specs.Values.{moved, IsPointer}
use Rattle.po_memory.specs.Blocks.{IntoOne, AreApart, StandApart, HasRoom, Fits, FitsOn}
use Rattle.po_holds.specs.declared.choosing.Numbers.{Numbers}
use Rattle.po_holds.specs.declared.choosing.Pointers.{Pointers}
use Rattle.po_holds.specs.Choosing.{IsOneOf, AreSome, EachMoved, least, greatest}
use Rattle.po_holds.specs.Pairs.{EachAfter, ReachesNone, EachApart, EachFits, MovedApart, MovedRoom}

pub all_after : (p q n : Numbers) → AreSome p → AreSome q → AreSome n → ((greatest p +ℤ greatest n) ≤ℤ least q) ↔ EachAfter p q n
all_after p q n p_some q_some n_some = (there, λ h. h (greatest p) (least q) (greatest n) (omega (arith, ints), omega (arith, ints)) (omega (arith, ints), omega (arith, ints)) (omega (arith, ints), omega (arith, ints)))
  where
    there : (greatest p +ℤ greatest n) ≤ℤ least q → EachAfter p q n
    there far o r z one two three = let a = one.1 in let b = two.0 in let c = three.1 in omega (arith, ints)

pub none_reached : (n : Numbers) → AreSome n → (greatest n ≤ℤ pos 0) ↔ ReachesNone n
none_reached n some = (λ h z one. let a = one.1 in omega (arith, ints), λ h. h (greatest n) (omega (arith, ints), omega (arith, ints)))

pub apart_since_none : (p q n : Numbers) → ReachesNone n → EachApart p q n
apart_since_none p q n none o r z one two three =
    let small = none z three in
    by_lt_z o r (λ less. inl (omega (arith, ints))) (λ not_less. inr (omega (arith, ints)))

pub apart_since_after : (p q n : Numbers) → EachAfter p q n → EachApart p q n
apart_since_after p q n after o r z one two three = inl (after o r z one two three)

-- where the first lie neither behind the second by so much nor these behind them, some are too near
pub apart_before : (p q n : Numbers) → AreSome p → AreSome q → AreSome n → (ReachesNone n → ⊥) → (EachAfter p q n → ⊥) → EachAfter q p n ↔ EachApart p q n
apart_before p q n p_some q_some n_some some not_after = (λ h o r z one two three. inr (h r o z two one three), back)
  where
    reaches : pos 0 <ℤ greatest n
    reaches = by_lt_z (pos 0) (greatest n) (λ less. less) (λ not_less. absurd (some ((none_reached n n_some).0 not_less)))

    near : least q <ℤ (greatest p +ℤ greatest n)
    near = by_lt_z (least q) (greatest p +ℤ greatest n) (λ less. less) (λ not_less. absurd (not_after ((all_after p q n p_some q_some n_some).0 not_less)))

    too_near : (o r : ℤ) → IsOneOf p o → IsOneOf q r → r <ℤ (o +ℤ greatest n) → o <ℤ (r +ℤ greatest n) → EachApart p q n → ⊥
    too_near o r one two first second h = elim (h o r (greatest n) one two (omega (arith, ints), omega (arith, ints))) [
      | inl before ↦ absurd (omega (arith, ints))
      | inr behind ↦ absurd (omega (arith, ints))
    ]

    far : EachApart p q n → least p <ℤ (greatest q +ℤ greatest n) → ⊥
    far h other =
        let large = reaches in
        let close = near in
        by_lt_z (greatest p) (least q +ℤ greatest n)
        (λ less. too_near (greatest p) (least q) (omega (arith, ints), omega (arith, ints)) (omega (arith, ints), omega (arith, ints)) (omega (arith, ints)) (omega (arith, ints)) h)
        (λ above. by_lt_z (greatest q) (greatest p -ℤ greatest n +ℤ pos 1)
        (λ less. too_near (greatest q +ℤ greatest n -ℤ pos 1) (greatest q) (omega (arith, ints), omega (arith, ints)) (omega (arith, ints), omega (arith, ints)) (omega (arith, ints)) (omega (arith, ints)) h)
        (λ more. too_near (greatest p) (greatest p -ℤ greatest n +ℤ pos 1) (omega (arith, ints), omega (arith, ints)) (omega (arith, ints), omega (arith, ints)) (omega (arith, ints)) (omega (arith, ints)) h))

    back : EachApart p q n → EachAfter q p n
    back h = (all_after q p n q_some p_some n_some).0 (by_lt_z (least p) (greatest q +ℤ greatest n) (λ less. absurd (far h less)) (λ not_less. not_less))

-- ---- wherever they are moved

pub into_one_moved : (v w : Value) (n k : ℤ) → IntoOne v w ↔ IntoOne (moved v n) (moved w k)
into_one_moved (Number a) (Number b) n k = (λ h. h, λ h. h)
into_one_moved (Number a) Null n k = (λ h. h, λ h. h)
into_one_moved (Number a) (Pointer b o) n k = (λ h. h, λ h. h)
into_one_moved (Number a) Wild n k = (λ h. h, λ h. h)
into_one_moved Null w n k = (λ h. tt, λ h. tt)
into_one_moved (Pointer a o) (Number b) n k = (λ h. h, λ h. h)
into_one_moved (Pointer a o) Null n k = (λ h. h, λ h. h)
into_one_moved (Pointer a o) (Pointer b r) n k = (λ h. h, λ h. h)
into_one_moved (Pointer a o) Wild n k = (λ h. h, λ h. h)
into_one_moved Wild (Number b) n k = (λ h. h, λ h. h)
into_one_moved Wild Null n k = (λ h. h, λ h. h)
into_one_moved Wild (Pointer b r) n k = (λ h. h, λ h. h)
into_one_moved Wild Wild n k = (λ h. h, λ h. h)

pub into_one_each : (v w : Pointers) → v.lo ≤ℤ v.hi → w.lo ≤ℤ w.hi → IntoOne v.base w.base ↔ EachMoved v (λ a. EachMoved w (λ b. IntoOne a b))
into_one_each v w v_some w_some = (λ h n low high k low' high'. (into_one_moved v.base w.base n k).0 h, λ h. (into_one_moved v.base w.base v.lo w.lo).1 (h v.lo (omega (arith, ints)) v_some w.lo (omega (arith, ints)) w_some))

-- of each of the moved pointers, by what they are moved from
each_by : (R : Value → Value → Type 0) (v w : Pointers) (x y : Value) → v.base ≡ x → w.base ≡ y → ((n k : ℤ) → v.lo ≤ℤ n → n ≤ℤ v.hi → w.lo ≤ℤ k → k ≤ℤ w.hi → R (moved x n) (moved y k)) → EachMoved v (λ a. EachMoved w (λ b. R a b))
each_by R v w x y v_is w_is g n low high k low' high' = subst (λ b. R (moved v.base n) (moved b k)) (sym w_is) (subst (λ a. R (moved a n) (moved y k)) (sym v_is) (g n k low high low' high'))

of_each : (R : Value → Value → Type 0) (v w : Pointers) (x y : Value) → v.base ≡ x → w.base ≡ y → EachMoved v (λ a. EachMoved w (λ b. R a b)) → (n k : ℤ) → v.lo ≤ℤ n → n ≤ℤ v.hi → w.lo ≤ℤ k → k ≤ℤ w.hi → R (moved x n) (moved y k)
of_each R v w x y v_is w_is h n k low high low' high' = subst (λ b. R (moved x n) (moved b k)) w_is (subst (λ a. R (moved a n) (moved w.base k)) v_is (h n low high k low' high'))

module _ (v w : Pointers) (v_some : v.lo ≤ℤ v.hi) (w_some : w.lo ≤ℤ w.hi) where
  -- the answer where it is one for all
  pub so_of_all : (R : Value → Value → Type 0) (x y : Value) → v.base ≡ x → w.base ≡ y → ((n k : ℤ) → R (moved x n) (moved y k)) → EachMoved v (λ a. EachMoved w (λ b. R a b))
  so_of_all R x y v_is w_is so = each_by R v w x y v_is w_is (λ n k a b c d. so n k)

  pub not_of_all : (R : Value → Value → Type 0) (x y : Value) → v.base ≡ x → w.base ≡ y → ((n k : ℤ) → R (moved x n) (moved y k) → ⊥) → EachMoved v (λ a. EachMoved w (λ b. R a b)) → ⊥
  not_of_all R x y v_is w_is not h = not v.lo w.lo (of_each R v w x y v_is w_is h v.lo w.lo (omega (arith, ints)) v_some (omega (arith, ints)) w_some)

-- of a value that points nowhere, what is so of null alone
pub of_null : (R : Value → Value → Type 0) (v w : Pointers) (x : Value) → v.base ≡ x → v.lo ≤ℤ v.hi → w.lo ≤ℤ w.hi → ((y : Value) (n k : ℤ) → R (moved x n) (moved y k) ↔ (y ≡ Null)) → (w.base ≡ Null) ↔ EachMoved v (λ a. EachMoved w (λ b. R a b))
of_null R v w x is v_some w_some alike = (
  λ e. each_by R v w x w.base is refl (λ n k a b c d. (alike w.base n k).1 e),
  λ h. (alike w.base v.lo w.lo).0 (of_each R v w x w.base is refl h v.lo w.lo (omega (arith, ints)) v_some (omega (arith, ints)) w_some),
)

pub number_room : (blocks : List Block) (m : ℤ) (y : Value) (n k : ℤ) → HasRoom blocks (moved (Number m) n) (moved y k) ↔ (y ≡ Null)
number_room blocks m (Number a) n k = (λ h. absurd h, λ e. absurd (cc))
number_room blocks m Null n k = (λ h. refl, λ e. tt)
number_room blocks m (Pointer b o) n k = (λ h. absurd h, λ e. absurd (cc))
number_room blocks m Wild n k = (λ h. absurd h, λ e. absurd (cc))

pub wild_room : (blocks : List Block) (y : Value) (n k : ℤ) → HasRoom blocks (moved Wild n) (moved y k) ↔ (y ≡ Null)
wild_room blocks (Number a) n k = (λ h. absurd h, λ e. absurd (cc))
wild_room blocks Null n k = (λ h. refl, λ e. tt)
wild_room blocks (Pointer b o) n k = (λ h. absurd h, λ e. absurd (cc))
wild_room blocks Wild n k = (λ h. absurd h, λ e. absurd (cc))

-- where there is no block
pub no_block : (blocks : List Block) (block : ℕ) (o : ℤ) (other : ℕ) (r : ℤ) → (slice_get blocks block ≡ None) ⊎ (slice_get blocks other ≡ None) → HasRoom blocks (Pointer block o) (Pointer other r) → ⊥
no_block blocks block o other r (inl none) h = subst (λ m. FitsOn o m r (slice_get blocks other)) none h
no_block blocks block o other r (inr none) h = second (slice_get blocks block) (subst (λ m. FitsOn o (slice_get blocks block) r m) none h)
  where
    second : (m : Option Block) → FitsOn o m r None → ⊥
    second None h = h
    second (Some c) h = h

pub apart_never : (v w : Pointers) (n : Numbers) (x y : Value) → v.lo ≤ℤ v.hi → w.lo ≤ℤ w.hi → AreSome n → v.base ≡ x → w.base ≡ y → ((z i k : ℤ) → AreApart z (moved x i) (moved y k) → ⊥) → MovedApart v w n → ⊥
apart_never v w n x y v_some w_some some v_is w_is not h = not_of_all v w v_some w_some (AreApart (least n)) x y v_is w_is (not (least n)) (h (least n) (omega (arith, ints), omega (arith, ints)))

pub apart_of_pointers : (v w : Pointers) (n : Numbers) (x : Value) → v.lo ≤ℤ v.hi → w.lo ≤ℤ w.hi → AreSome n → v.base ≡ x → ((y : Value) (z i k : ℤ) → AreApart z (moved x i) (moved y k) ↔ IsPointer y) → IsPointer w.base ↔ MovedApart v w n
apart_of_pointers v w n x v_some w_some some is alike = (
  λ p z z_in. each_by (AreApart z) v w x w.base is refl (λ i k a b c d. (alike w.base z i k).1 p),
  λ h. (alike w.base (least n) v.lo w.lo).0 (of_each (AreApart (least n)) v w x w.base is refl (h (least n) (omega (arith, ints), omega (arith, ints))) v.lo w.lo (omega (arith, ints)) v_some (omega (arith, ints)) w_some),
)

pub null_apart : (y : Value) (z i k : ℤ) → AreApart z (moved Null i) (moved y k) ↔ IsPointer y
null_apart (Number a) z i k = (λ h. h, λ h. h)
null_apart Null z i k = (λ h. tt, λ h. tt)
null_apart (Pointer b o) z i k = (λ h. tt, λ h. tt)
null_apart Wild z i k = (λ h. tt, λ h. tt)

pub wild_apart : (y : Value) (z i k : ℤ) → AreApart z (moved Wild i) (moved y k) ↔ IsPointer y
wild_apart (Number a) z i k = (λ h. h, λ h. h)
wild_apart Null z i k = (λ h. tt, λ h. tt)
wild_apart (Pointer b o) z i k = (λ h. tt, λ h. tt)
wild_apart Wild z i k = (λ h. tt, λ h. tt)

pub apart_in : (v w : Pointers) (n p q : Numbers) (block : ℕ) (offset : ℤ) (other : ℕ) (place : ℤ) → v.base ≡ Pointer block offset → w.base ≡ Pointer other place →
    (p.base ≡ offset) × (p.lo ≡ v.lo) × (p.hi ≡ v.hi) → (q.base ≡ place) × (q.lo ≡ w.lo) × (q.hi ≡ w.hi) → block ≡ other → EachApart p q n ↔ MovedApart v w n
apart_in v w n p q block offset other place v_is w_is p_is q_is one = (there, back)
  where
    there : EachApart p q n → MovedApart v w n
    there h z z_in = each_by (AreApart z) v w (Pointer block offset) (Pointer other place) v_is w_is stands
      where
        stands : (i k : ℤ) → v.lo ≤ℤ i → i ≤ℤ v.hi → w.lo ≤ℤ k → k ≤ℤ w.hi → StandApart block (offset +ℤ i) other (place +ℤ k) z
        stands i k a b c d =
            let p_base = p_is.0 in
            let p_lo = p_is.1 in
            let p_hi = p_is.2 in
            let q_base = q_is.0 in
            let q_lo = q_is.1 in
            let q_hi = q_is.2 in
            inr (h (offset +ℤ i) (place +ℤ k) z (omega (arith, ints), omega (arith, ints)) (omega (arith, ints), omega (arith, ints)) z_in)

    back : MovedApart v w n → EachApart p q n
    back h o r z o_in r_in z_in =
        let p_base = p_is.0 in
        let p_lo = p_is.1 in
        let p_hi = p_is.2 in
        let q_base = q_is.0 in
        let q_lo = q_is.1 in
        let q_hi = q_is.2 in
        let o_low = o_in.0 in
        let o_high = o_in.1 in
        let r_low = r_in.0 in
        let r_high = r_in.1 in
        let o_back : offset +ℤ (o -ℤ offset) ≡ o = omega (arith, ints) in
        let r_back : place +ℤ (r -ℤ place) ≡ r = omega (arith, ints) in
        let stands = of_each (AreApart z) v w (Pointer block offset) (Pointer other place) v_is w_is (h z z_in) (o -ℤ offset) (r -ℤ place) (omega (arith, ints)) (omega (arith, ints)) (omega (arith, ints)) (omega (arith, ints)) in
        elim stands [
          | inl differ ↦ absurd (differ one)
          | inr far ↦ subst (λ x. ((x +ℤ z) ≤ℤ r) ⊎ ((r +ℤ z) ≤ℤ x)) o_back (subst (λ y. (((offset +ℤ (o -ℤ offset)) +ℤ z) ≤ℤ y) ⊎ ((y +ℤ z) ≤ℤ (offset +ℤ (o -ℤ offset)))) r_back far)
        ]

pub room_in : (blocks : List Block) (v w : Pointers) (p q : Numbers) (block : ℕ) (offset : ℤ) (other : ℕ) (place : ℤ) (c d : Block) → v.base ≡ Pointer block offset → w.base ≡ Pointer other place →
    (p.base ≡ offset) × (p.lo ≡ v.lo) × (p.hi ≡ v.hi) → (q.base ≡ place) × (q.lo ≡ w.lo) × (q.hi ≡ w.hi) → slice_get blocks block ≡ Some c → slice_get blocks other ≡ Some d → EachFits c p d q ↔ MovedRoom blocks v w
room_in blocks v w p q block offset other place c d v_is w_is p_is q_is c_there d_there = (there, back)
  where
    there : EachFits c p d q → MovedRoom blocks v w
    there h = each_by (HasRoom blocks) v w (Pointer block offset) (Pointer other place) v_is w_is stands
      where
        stands : (i k : ℤ) → v.lo ≤ℤ i → i ≤ℤ v.hi → w.lo ≤ℤ k → k ≤ℤ w.hi → HasRoom blocks (Pointer block (offset +ℤ i)) (Pointer other (place +ℤ k))
        stands i k a b e f =
            let p_base = p_is.0 in
            let p_lo = p_is.1 in
            let p_hi = p_is.2 in
            let q_base = q_is.0 in
            let q_lo = q_is.1 in
            let q_hi = q_is.2 in
            subst (λ m. FitsOn (offset +ℤ i) m (place +ℤ k) (slice_get blocks other)) (sym c_there) (subst (λ m. FitsOn (offset +ℤ i) (Some c) (place +ℤ k) m) (sym d_there) (h (offset +ℤ i) (place +ℤ k) (omega (arith, ints), omega (arith, ints)) (omega (arith, ints), omega (arith, ints))))

    back : MovedRoom blocks v w → EachFits c p d q
    back h o r o_in r_in =
        let p_base = p_is.0 in
        let p_lo = p_is.1 in
        let p_hi = p_is.2 in
        let q_base = q_is.0 in
        let q_lo = q_is.1 in
        let q_hi = q_is.2 in
        let o_low = o_in.0 in
        let o_high = o_in.1 in
        let r_low = r_in.0 in
        let r_high = r_in.1 in
        let o_back : offset +ℤ (o -ℤ offset) ≡ o = omega (arith, ints) in
        let r_back : place +ℤ (r -ℤ place) ≡ r = omega (arith, ints) in
        let stands = of_each (HasRoom blocks) v w (Pointer block offset) (Pointer other place) v_is w_is h (o -ℤ offset) (r -ℤ place) (omega (arith, ints)) (omega (arith, ints)) (omega (arith, ints)) (omega (arith, ints)) in
        let first = subst (λ m. FitsOn (offset +ℤ (o -ℤ offset)) m (place +ℤ (r -ℤ place)) (slice_get blocks other)) c_there stands in
        let second = subst (λ m. FitsOn (offset +ℤ (o -ℤ offset)) (Some c) (place +ℤ (r -ℤ place)) m) d_there first in
        subst (λ x. Fits x c r d) o_back (subst (λ y. Fits (offset +ℤ (o -ℤ offset)) c y d) r_back second)
