-- What is asked of each place of a block, at the ends of the places.
use Rattle.std.proofs.Common.{◌≡◌, ◌<◌, ◌+◌, ℕ, suc, sym, ap, ◌∙◌, subst, refl, arith, inl, inr, length}
use Rattle.std.specs.Prelude.{ℤ, pos, negsuc, neg_ℤ, ◌+ℤ◌, ◌-ℤ◌, ◌*ℤ◌, ◌≤ℤ◌, ◌<ℤ◌, ◌↔◌, ◌≢◌, List, Option, Some, None, Bool, false, not, IsTrue, slice_get}
use Rattle.std.proofs.lemmas.Int.{ints, by_lt_z}
use Rattle.std.proofs.lemmas.Bool.{cases_lt}
use Rattle.std.proofs.lemmas.Option.{slice_get_past}
use Rattle.std.proofs.Math.IntN.{*ℤ_comm}
use Rattle.po_lists.proofs.Integers.{distributes_over, times_neg}
use Rattle.po_arith.proofs.Products.{times_up as times_natural}
use Rattle.po_memory.specs.declared.block.Block.{Block}
use Rattle.po_memory.specs.declared.value.Byte.{Byte}
use Rattle.po_memory.specs.declared.value.Byte.TheVariants as byte
use Rattle.po_memory.specs.declared.value.Value.{Value}
use Rattle.po_memory.specs.declared.value.Value.TheVariants.{Number, Null, Pointer, Wild}
use Rattle.po_memory.specs.Values.{moved}
use Rattle.po_memory.specs.Blocks.{Spans, HaveValues, IsFilled, OnBlock, OnPointer}
use Rattle.po_holds.specs.declared.choosing.Numbers.{Numbers}
use Rattle.po_holds.specs.declared.choosing.Pointers.{Pointers}
use Rattle.po_holds.specs.declared.asking.End.{End}
use Rattle.po_holds.specs.Choosing.{IsOneOf, AreSome, EachMoved, least, greatest}
use Rattle.po_holds.specs.Asking.{EachScaled, EachInside, IsLeast, IsGreatest, place_of}
use Rattle.po_holds.proofs.Sums.{tells_not}
use Rattle.po_holds.proofs.Telling.{not_tells}

-- ---- so many times the numbers

times_up : (k a b : ℤ) → pos 0 ≤ℤ k → a ≤ℤ b → (k *ℤ a) ≤ℤ (k *ℤ b)
times_up (pos n) a b some below =
    let up = times_natural n a b below in
    let first = *ℤ_comm (pos n) a in
    let second = *ℤ_comm (pos n) b in
    omega (arith, ints)
times_up (negsuc n) a b some below = absurd (omega (arith, ints))

times_down : (k a b : ℤ) → k <ℤ pos 0 → a ≤ℤ b → (k *ℤ b) ≤ℤ (k *ℤ a)
times_down (pos n) a b none below = absurd (omega (arith, ints))
times_down (negsuc n) a b none below =
    let up = times_natural (suc n) a b below in
    let first : negsuc n *ℤ a ≡ neg_ℤ (a *ℤ pos (suc n)) = omega (arith, ints) in
    let second : negsuc n *ℤ b ≡ neg_ℤ (b *ℤ pos (suc n)) = omega (arith, ints) in
    omega (arith, ints)

pub least_low : (k : ℤ) (r : Numbers) → AreSome r → pos 0 ≤ℤ k → IsLeast k r r.lo
least_low k r some sign = record { one = (omega (arith, ints), omega (arith, ints)); least = λ z (one : IsOneOf r z). times_up k (r.base +ℤ r.lo) z sign one.0 }

pub least_high : (k : ℤ) (r : Numbers) → AreSome r → k <ℤ pos 0 → IsLeast k r r.hi
least_high k r some sign = record { one = (omega (arith, ints), omega (arith, ints)); least = λ z (one : IsOneOf r z). times_down k z (r.base +ℤ r.hi) sign one.1 }

pub greatest_high : (k : ℤ) (r : Numbers) → AreSome r → pos 0 ≤ℤ k → IsGreatest k r r.hi
greatest_high k r some sign = record { one = (omega (arith, ints), omega (arith, ints)); greatest = λ z (one : IsOneOf r z). times_up k z (r.base +ℤ r.hi) sign one.1 }

pub greatest_low : (k : ℤ) (r : Numbers) → AreSome r → k <ℤ pos 0 → IsGreatest k r r.lo
greatest_low k r some sign = record { one = (omega (arith, ints), omega (arith, ints)); greatest = λ z (one : IsOneOf r z). times_down k (r.base +ℤ r.lo) z sign one.0 }

pub neg_times : (k a : ℤ) → neg_ℤ k *ℤ a ≡ neg_ℤ (k *ℤ a)
neg_times k a = *ℤ_comm (neg_ℤ k) a ∙ times_neg a k ∙ ap neg_ℤ (*ℤ_comm a k)

-- ---- inside

pub not_inside_low : (k : ℤ) (at r : Numbers) (c : Block) (end : ℤ) → AreSome at → IsLeast k r end → (least at +ℤ k *ℤ (r.base +ℤ end)) <ℤ pos 0 → EachInside k at r c → ⊥
not_inside_low k at r c end some is below h = let low = (h (least at) (r.base +ℤ end) (omega (arith, ints), omega (arith, ints)) is.one).0 in omega (arith, ints)

pub all_inside : (k : ℤ) (at r : Numbers) (c : Block) (low high : ℤ) → AreSome at → IsLeast k r low → IsGreatest k r high → pos 0 ≤ℤ (least at +ℤ k *ℤ (r.base +ℤ low)) →
    ((greatest at +ℤ k *ℤ (r.base +ℤ high)) ≤ℤ pos (length c.bytes)) ↔ EachInside k at r c
all_inside k at r c low high some is_low is_high above = (there, λ h. (h (greatest at) (r.base +ℤ high) (omega (arith, ints), omega (arith, ints)) is_high.one).1)
  where
    there : (greatest at +ℤ k *ℤ (r.base +ℤ high)) ≤ℤ pos (length c.bytes) → EachInside k at r c
    there below o z one two = let l = is_low.least z two in let h = is_high.greatest z two in let first = one.0 in let last = one.1 in (omega (arith, ints), omega (arith, ints))

pub not_before : (t : Bool) (y z : ℤ) → (IsTrue t ↔ (y <ℤ z)) → IsTrue (not t) ↔ (z ≤ℤ y)
not_before t y z tells = (λ h. by_lt_z y z (λ less. absurd ((not_tells t tells).0 h less)) (λ up. up), λ up. (not_tells t tells).1 (λ less. absurd (omega (arith, ints))))

pub inside_tells : (k : ℤ) (at r : Numbers) (c : Block) (low high : ℤ) → AreSome at → IsLeast k r low → IsGreatest k r high →
    ((pos 0 ≤ℤ (least at +ℤ k *ℤ (r.base +ℤ low))) × ((greatest at +ℤ k *ℤ (r.base +ℤ high)) ≤ℤ pos (length c.bytes))) ↔ EachInside k at r c
inside_tells k at r c low high some is_low is_high = (
  λ h. (all_inside k at r c low high some is_low is_high h.0).0 h.1,
  λ h. ((h (least at) (r.base +ℤ low) (omega (arith, ints), omega (arith, ints)) is_low.one).0, (h (greatest at) (r.base +ℤ high) (omega (arith, ints), omega (arith, ints)) is_high.one).1),
)

pub low_tells : (k : ℤ) (at r : Numbers) (low : ℤ) (t : Bool) → (IsTrue t ↔ ((pos 1 *ℤ at.base +ℤ (pos 1 *ℤ at.lo +ℤ (k *ℤ r.base +ℤ (k *ℤ low +ℤ pos 0)))) <ℤ pos 0)) → IsTrue (not t) ↔ (pos 0 ≤ℤ (least at +ℤ k *ℤ (r.base +ℤ low)))
low_tells k at r low t tells =
    let both = distributes_over k r.base low in
    let up = tells_not t (pos 1 *ℤ at.base +ℤ (pos 1 *ℤ at.lo +ℤ (k *ℤ r.base +ℤ (k *ℤ low +ℤ pos 0)))) tells in
    (λ h. let above = up.0 h in omega (arith, ints), λ h. up.1 (omega (arith, ints)))

pub high_tells : (k : ℤ) (at r : Numbers) (c : Block) (high : ℤ) (t : Bool) → (IsTrue t ↔ ((pos 1 *ℤ pos (length c.bytes) +ℤ (negsuc 0 *ℤ at.base +ℤ (negsuc 0 *ℤ at.hi +ℤ (neg_ℤ k *ℤ r.base +ℤ (neg_ℤ k *ℤ high +ℤ pos 0))))) <ℤ pos 0)) → IsTrue (not t) ↔ ((greatest at +ℤ k *ℤ (r.base +ℤ high)) ≤ℤ pos (length c.bytes))
high_tells k at r c high t tells =
    let both = distributes_over k r.base high in
    let first = neg_times k r.base in
    let second = neg_times k high in
    let up = tells_not t (pos 1 *ℤ pos (length c.bytes) +ℤ (negsuc 0 *ℤ at.base +ℤ (negsuc 0 *ℤ at.hi +ℤ (neg_ℤ k *ℤ r.base +ℤ (neg_ℤ k *ℤ high +ℤ pos 0))))) tells in
    (λ h. let above = up.0 h in omega (arith, ints), λ h. up.1 (omega (arith, ints)))

pub less_tells : (k : ℤ) (lo hi : Numbers) (low high : ℤ) (t : Bool) → (IsTrue t ↔ ((k *ℤ lo.base +ℤ (k *ℤ low +ℤ (neg_ℤ k *ℤ hi.base +ℤ (neg_ℤ k *ℤ high +ℤ pos 0)))) <ℤ pos 0)) → IsTrue t ↔ ((k *ℤ (lo.base +ℤ low)) <ℤ (k *ℤ (hi.base +ℤ high)))
less_tells k lo hi low high t tells =
    let one = distributes_over k lo.base low in
    let two = distributes_over k hi.base high in
    let first = neg_times k hi.base in
    let second = neg_times k high in
    (λ h. let below = tells.0 h in omega (arith, ints), λ h. tells.1 (omega (arith, ints)))

pub not_tells_up : (k : ℤ) (lo hi : Numbers) (low high : ℤ) (t : Bool) → (IsTrue t ↔ ((k *ℤ (lo.base +ℤ low)) <ℤ (k *ℤ (hi.base +ℤ high)))) → t ≡ false → (k *ℤ (hi.base +ℤ high)) ≤ℤ (k *ℤ (lo.base +ℤ low))
not_tells_up k lo hi low high t tells none = (not_before t (k *ℤ (lo.base +ℤ low)) (k *ℤ (hi.base +ℤ high)) tells).0 (rw none refl)

pub before : (i : ℕ) (e : End) (t : Bool) → (IsTrue t ↔ ((pos 1 *ℤ pos i +ℤ (negsuc 0 *ℤ e.base +ℤ (negsuc 0 *ℤ e.moved +ℤ (neg_ℤ e.factor *ℤ e.number +ℤ (neg_ℤ e.factor *ℤ e.added +ℤ pos 0))))) <ℤ pos 0)) → IsTrue t ↔ (pos i <ℤ place_of e)
before i e t tells =
    let number = neg_times e.factor e.number in
    let added = neg_times e.factor e.added in
    let both = distributes_over e.factor e.number e.added in
    (λ h. let below = tells.0 h in omega (arith, ints), λ h. tells.1 (omega (arith, ints)))

-- both ends are asked of each place
pub all_spanned : (k : ℤ) (at lo hi : Numbers) (c : Block) → AreSome lo → AreSome hi → (EachInside k at lo c × EachInside k at hi c) ↔ ((o : ℤ) → IsOneOf at o → EachScaled k lo hi (λ from to. Spans from to o c))
all_spanned k at lo hi c lo_some hi_some = (
  λ both o one l h l_in h_in. (both.0 o l one l_in, both.1 o h one h_in),
  λ g. (λ o l one l_in. (g o one l (least hi) l_in (omega (arith, ints), omega (arith, ints))).0, λ o h one h_in. (g o one (least lo) h (omega (arith, ints), omega (arith, ints)) h_in).1),
)

-- ---- filled

pub all_filled : (k : ℤ) (at lo hi : Numbers) (c : Block) (low high : ℤ) → AreSome at → IsLeast k lo low → IsGreatest k hi high → (k *ℤ (lo.base +ℤ low)) <ℤ (k *ℤ (hi.base +ℤ high)) →
    HaveValues (least at +ℤ k *ℤ (lo.base +ℤ low)) (greatest at +ℤ k *ℤ (hi.base +ℤ high)) c.bytes ↔ ((o : ℤ) → IsOneOf at o → EachScaled k lo hi (λ from to. IsFilled from to o c))
all_filled k at lo hi c low high some is_low is_high less = (there, back)
  where
    there : HaveValues (least at +ℤ k *ℤ (lo.base +ℤ low)) (greatest at +ℤ k *ℤ (hi.base +ℤ high)) c.bytes → (o : ℤ) → IsOneOf at o → EachScaled k lo hi (λ from to. IsFilled from to o c)
    there values o one l h l_in h_in i from to =
        let l_up = is_low.least l l_in in
        let h_down = is_high.greatest h h_in in
        let first = one.0 in
        let last = one.1 in
        values i (omega (arith, ints)) (omega (arith, ints))

    back : ((o : ℤ) → IsOneOf at o → EachScaled k lo hi (λ from to. IsFilled from to o c)) → HaveValues (least at +ℤ k *ℤ (lo.base +ℤ low)) (greatest at +ℤ k *ℤ (hi.base +ℤ high)) c.bytes
    back each i from to = by_lt_z (greatest at) (pos i -ℤ k *ℤ (lo.base +ℤ low))
        (λ far. each (greatest at) (omega (arith, ints), omega (arith, ints)) (lo.base +ℤ low) (hi.base +ℤ high) is_low.one is_high.one i (omega (arith, ints)) (omega (arith, ints)))
        (λ near. each (pos i -ℤ k *ℤ (lo.base +ℤ low)) (omega (arith, ints), omega (arith, ints)) (lo.base +ℤ low) (hi.base +ℤ high) is_low.one is_high.one i (omega (arith, ints)) (omega (arith, ints)))

pub none_filled : (k : ℤ) (at lo hi : Numbers) (c : Block) (low high : ℤ) → IsLeast k lo low → IsGreatest k hi high → (k *ℤ (hi.base +ℤ high)) ≤ℤ (k *ℤ (lo.base +ℤ low)) →
    (o : ℤ) → IsOneOf at o → EachScaled k lo hi (λ from to. IsFilled from to o c)
none_filled k at lo hi c low high is_low is_high less o one l h l_in h_in i from to =
    let l_up = is_low.least l l_in in
    let h_down = is_high.greatest h h_in in
    absurd (omega (arith, ints))

-- ---- pointers into a block

pub same_for_all : (at : Numbers) (A : Type 0) → AreSome at → A ↔ ((o : ℤ) → IsOneOf at o → A)
same_for_all at A some = (λ a o one. a, λ h. h (least at) (omega (arith, ints), omega (arith, ints)))

module _ (P : ℤ → Block → Type 0) (blocks : List Block) (r : Pointers) where
  pub moved_number : (n : ℤ) → r.base ≡ Number n → r.lo ≤ℤ r.hi → EachMoved r (λ v. OnPointer P blocks v) → ⊥
  moved_number n base some h = subst (λ u. OnPointer P blocks (moved u r.lo)) base (h r.lo (omega (arith, ints)) some)

  pub moved_wild : r.base ≡ Wild → r.lo ≤ℤ r.hi → EachMoved r (λ v. OnPointer P blocks v) → ⊥
  moved_wild base some h = subst (λ u. OnPointer P blocks (moved u r.lo)) base (h r.lo (omega (arith, ints)) some)

  pub moved_null : r.base ≡ Null → EachMoved r (λ v. OnPointer P blocks v)
  moved_null base n low high = subst (λ u. OnPointer P blocks (moved u n)) (sym base) tt

  pub moved_out : (block : ℕ) (offset : ℤ) → r.base ≡ Pointer block offset → slice_get blocks block ≡ None → r.lo ≤ℤ r.hi → EachMoved r (λ v. OnPointer P blocks v) → ⊥
  moved_out block offset base none some h = subst (OnBlock P (offset +ℤ r.lo)) none (subst (λ u. OnPointer P blocks (moved u r.lo)) base (h r.lo (omega (arith, ints)) some))

  pub moved_in : (block : ℕ) (offset : ℤ) (c : Block) (at : Numbers) → r.base ≡ Pointer block offset → slice_get blocks block ≡ Some c → at.base ≡ offset → at.lo ≡ r.lo → at.hi ≡ r.hi →
      ((o : ℤ) → IsOneOf at o → P o c) ↔ EachMoved r (λ v. OnPointer P blocks v)
  moved_in block offset c at base there at_base at_lo at_hi = (out, into)
    where
      out : ((o : ℤ) → IsOneOf at o → P o c) → EachMoved r (λ v. OnPointer P blocks v)
      out g n low high = subst (λ u. OnPointer P blocks (moved u n)) (sym base) (subst (OnBlock P (offset +ℤ n)) (sym there) (g (offset +ℤ n) (omega (arith, ints), omega (arith, ints))))

      into : EachMoved r (λ v. OnPointer P blocks v) → (o : ℤ) → IsOneOf at o → P o c
      into h o one =
          let low = one.0 in
          let high = one.1 in
          let back : offset +ℤ (o -ℤ offset) ≡ o = omega (arith, ints) in
          subst (λ z. P z c) back (subst (OnBlock P (offset +ℤ (o -ℤ offset))) there (subst (λ u. OnPointer P blocks (moved u (o -ℤ offset))) base (h (o -ℤ offset) (omega (arith, ints)) (omega (arith, ints)))))

-- what is asked for all numbers of the place where a pointer points
pub for_all_numbers : (P : ℤ → ℤ → ℤ → Block → Type 0) (l h : Numbers) → AreSome l → AreSome h → (blocks : List Block) (v : Value) →
    OnPointer (λ o c. (i j : ℤ) → IsOneOf l i → IsOneOf h j → P i j o c) blocks v ↔ ((i j : ℤ) → IsOneOf l i → IsOneOf h j → OnPointer (P i j) blocks v)
for_all_numbers P l h l_some h_some blocks (Number n) = (λ none. absurd none, λ g. g (least l) (least h) (omega (arith, ints), omega (arith, ints)) (omega (arith, ints), omega (arith, ints)))
for_all_numbers P l h l_some h_some blocks Null = (λ all i j i_in j_in. tt, λ g. tt)
for_all_numbers P l h l_some h_some blocks (Pointer block offset) = on_block (slice_get blocks block)
  where
    on_block : (found : Option Block) → OnBlock (λ o c. (i j : ℤ) → IsOneOf l i → IsOneOf h j → P i j o c) offset found ↔ ((i j : ℤ) → IsOneOf l i → IsOneOf h j → OnBlock (P i j) offset found)
    on_block None = (λ none. absurd none, λ g. g (least l) (least h) (omega (arith, ints), omega (arith, ints)) (omega (arith, ints), omega (arith, ints)))
    on_block (Some c) = (λ g. g, λ g. g)
for_all_numbers P l h l_some h_some blocks Wild = (λ none. absurd none, λ g. g (least l) (least h) (omega (arith, ints), omega (arith, ints)) (omega (arith, ints), omega (arith, ints)))

-- ---- bytes without values

pub one_more_value : (bytes : List Byte) (from to : ℤ) (n : ℕ) (b : Byte) → slice_get bytes n ≡ Some b → ((b ≡ byte.Blank) × (from ≤ℤ pos n) × (pos n <ℤ to) → ⊥) → ((j : ℕ) → j < n → from ≤ℤ pos j → pos j <ℤ to → slice_get bytes j ≢ Some byte.Blank) →
    (j : ℕ) → j < n + 1 → from ≤ℤ pos j → pos j <ℤ to → slice_get bytes j ≢ Some byte.Blank
one_more_value bytes from to n b there none rest j less low high = elim (cases_lt j n) [
  | inl before ↦ rest j before low high
  | inr not_before ↦ λ blank. none (the_same b (sym there ∙ subst (λ k. slice_get bytes k ≡ Some byte.Blank) (let same : j ≡ n = omega arith in same) blank), omega (arith, ints), omega (arith, ints))
]
  where
    the_same : (b : Byte) → Some b ≡ Some byte.Blank → b ≡ byte.Blank
    the_same b e = cc

pub all_values : (bytes : List Byte) (from to : ℤ) → ((j : ℕ) → j < length bytes → from ≤ℤ pos j → pos j <ℤ to → slice_get bytes j ≢ Some byte.Blank) → HaveValues from to bytes
all_values bytes from to each i low high = elim (cases_lt i (length bytes)) [
  | inl less ↦ each i less low high
  | inr past ↦ λ blank. let none = slice_get_past bytes i past in let both : Some byte.Blank ≡ None = sym blank ∙ none in absurd (cc)
]
