-- What is asked of each pointer and of each number of a place.
use Rattle.std.proofs.Common.{◌≡◌, sym, ap, ◌∙◌, subst, refl, arith}
use Rattle.std.specs.Prelude.{ℤ, pos, ◌+ℤ◌, ◌↔◌, Bool, true, false, IsTrue, Option, Some, None}
use Rattle.std.proofs.lemmas.Int.{ints}
use Rattle.std.proofs.lemmas.Option.{same_Some}
use Rattle.po_memory.proofs.General.{one_number}
use Rattle.po_pred.specs.declared.pred.Place.{Place}
use Rattle.po_memory.specs.declared.frame.Frame.{Frame}
use Rattle.po_memory.specs.declared.value.Value.{Value}
use Rattle.po_memory.specs.Values.{moved, ChoosesPointer, ChoosesNumber, EachPointer, EachNumber, EachSecond}
use Rattle.po_holds.specs.declared.choosing.Numbers.{Numbers}
use Rattle.po_holds.specs.declared.choosing.Pointers.{Pointers}
use Rattle.po_holds.specs.Choosing.{IsOneOf, AreSome, EachMoved, AreNumbers, ArePointers, SettlesNumber, SettlesPointer, AreSecond, SettlesSecond}

pub through : {A B C : Type 0} → (A ↔ B) → (B ↔ C) → (A ↔ C)
through p q = (λ a. q.0 (p.0 a), λ c. p.1 (q.1 c))

pub turned : {A B : Type 0} → (A ↔ B) → (B ↔ A)
turned p = (p.1, p.0)

-- ---- numbers

module _ (f : Frame) (x : Place) (P : ℤ → Type 0) where
  number_there : (r : Numbers) → AreNumbers f x r → EachNumber f x P → (z : ℤ) → IsOneOf r z → P z
  number_there r are h z (low, high) =
      let at_lo = are.lo in
      let at_hi = are.hi in
      h.each z (r.base, are.base, omega (arith, ints), omega (arith, ints))

  number_back : (r : Numbers) → AreNumbers f x r → ((z : ℤ) → IsOneOf r z → P z) → EachNumber f x P
  number_back r are g = record { has = (r.base, are.base); each = chosen }
    where
      chosen : (z : ℤ) → ChoosesNumber f x z → P z
      chosen z (u, base, low, high) =
          let same : u ≡ r.base = one_number u r.base (sym base ∙ are.base) in
          let at_lo = are.lo in
          let at_hi = are.hi in
          g z (omega (arith, ints), omega (arith, ints))

  pub each_number : (r : Numbers) → AreNumbers f x r → ((z : ℤ) → IsOneOf r z → P z) ↔ EachNumber f x P
  each_number r are = (number_back r are, number_there r are)

  pub number_settled : (answer : Bool) → SettlesNumber f x answer → IsTrue answer ↔ EachNumber f x P
  number_settled true s = (λ h. record { has = (s.yes refl).0; each = none }, λ h. refl)
    where
      none : (z : ℤ) → ChoosesNumber f x z → P z
      none z (u, base, low, high) = let empty = (s.yes refl).1 in absurd (omega (arith, ints))
  number_settled false s = (λ h. absurd (cc), λ h. absurd (s.no refl h.has))

  -- what each number answers alike
  pub alike_numbers : (r : Numbers) (A : Type 0) → AreNumbers f x r → ((z : ℤ) → A ↔ P z) → A ↔ EachNumber f x P
  alike_numbers r A are each = (λ a. number_back r are (λ z one. (each z).0 a), λ h. (each (r.base +ℤ r.lo)).1 (let some = are.some in number_there r are h (r.base +ℤ r.lo) (omega (arith, ints), omega (arith, ints))))

-- ---- a second number

module _ (f : Frame) (P : ℤ → Type 0) where
  second_there : (b : Option Place) (r : Numbers) → AreSecond f b r → EachSecond f b P → (z : ℤ) → IsOneOf r z → P z
  second_there None r (base, lo, hi) h z (low, high) = let same : pos 0 ≡ z = omega (arith, ints) in subst P same h
  second_there (Some x) r are h z one = number_there f x P r are h z one

  second_back : (b : Option Place) (r : Numbers) → AreSecond f b r → ((z : ℤ) → IsOneOf r z → P z) → EachSecond f b P
  second_back None r (base, lo, hi) g = g (pos 0) (omega (arith, ints), omega (arith, ints))
  second_back (Some x) r are g = number_back f x P r are g

  pub each_second : (b : Option Place) (r : Numbers) → AreSecond f b r → ((z : ℤ) → IsOneOf r z → P z) ↔ EachSecond f b P
  each_second b r are = (second_back b r are, second_there b r are)

  pub second_settled : (b : Option Place) (answer : Bool) → SettlesSecond f b answer → IsTrue answer ↔ EachSecond f b P
  second_settled None answer s = absurd s
  second_settled (Some x) answer s = number_settled f x P answer s

pub second_some : (f : Frame) (b : Option Place) (r : Numbers) → AreSecond f b r → AreSome r
second_some f None r (base, lo, hi) = omega (arith, ints)
second_some f (Some x) r are = are.some

-- ---- pointers

module _ (f : Frame) (p : Place) (P : Value → Type 0) where
  pointer_there : (r : Pointers) → ArePointers f p r → EachPointer f p P → EachMoved r P
  pointer_there r are h n low high =
      let at_lo = are.lo in
      let at_hi = are.hi in
      h.each (moved r.base n) (r.base, n, are.base, omega (arith, ints), omega (arith, ints), refl)

  pointer_back : (r : Pointers) → ArePointers f p r → EachMoved r P → EachPointer f p P
  pointer_back r are g = record { has = (r.base, are.base, are.pointer); each = chosen }
    where
      chosen : (v : Value) → ChoosesPointer f p v → P v
      chosen v (u, n, base, low, high, is) =
          let same : u ≡ r.base = same_Some u r.base (sym base ∙ are.base) in
          let at_lo = are.lo in
          let at_hi = are.hi in
          subst P (sym (is ∙ ap (λ b. moved b n) same)) (g n (omega (arith, ints)) (omega (arith, ints)))

  pub each_pointer : (r : Pointers) → ArePointers f p r → EachMoved r P ↔ EachPointer f p P
  each_pointer r are = (pointer_back r are, pointer_there r are)

  pub pointer_settled : (answer : Bool) → SettlesPointer f p answer → IsTrue answer ↔ EachPointer f p P
  pointer_settled true s = (λ h. record { has = (s.yes refl).0; each = none }, λ h. refl)
    where
      none : (v : Value) → ChoosesPointer f p v → P v
      none v (u, n, base, low, high, is) = let empty = (s.yes refl).1 in absurd (omega (arith, ints))
  pointer_settled false s = (λ h. absurd (cc), λ h. absurd (s.no refl h.has))

  pub alike_pointers : (r : Pointers) (A : Type 0) → ArePointers f p r → ((v : Value) → A ↔ P v) → A ↔ EachPointer f p P
  alike_pointers r A are each = (λ a. pointer_back r are (λ n low high. (each (moved r.base n)).0 a), λ h. (each (moved r.base r.lo)).1 (let some = are.some in pointer_there r are h r.lo (omega (arith, ints)) some))

-- ---- of two places

pub two_pointers : (f : Frame) (p q : Place) (R : Value → Value → Type 0) (v w : Pointers) → ArePointers f p v → ArePointers f q w →
    EachMoved v (λ a. EachMoved w (λ b. R a b)) ↔ EachPointer f p (λ a. EachPointer f q (λ b. R a b))
two_pointers f p q R v w v_are w_are = (
  λ h. pointer_back f p (λ a. EachPointer f q (λ b. R a b)) v v_are (λ n low high. pointer_back f q (λ b. R (moved v.base n) b) w w_are (h n low high)),
  λ h n low high. pointer_there f q (λ b. R (moved v.base n) b) w w_are (pointer_there f p (λ a. EachPointer f q (λ b. R a b)) v v_are h n low high),
)

pub two_pointers_and_number : (f : Frame) (p q x : Place) (R : Value → Value → ℤ → Type 0) (v w : Pointers) (n : Numbers) → ArePointers f p v → ArePointers f q w → AreNumbers f x n →
    ((z : ℤ) → IsOneOf n z → EachMoved v (λ a. EachMoved w (λ b. R a b z))) ↔ EachPointer f p (λ a. EachPointer f q (λ b. EachNumber f x (λ z. R a b z)))
two_pointers_and_number f p q x R v w n v_are w_are n_are = (there, back)
  where
    there : ((z : ℤ) → IsOneOf n z → EachMoved v (λ a. EachMoved w (λ b. R a b z))) → EachPointer f p (λ a. EachPointer f q (λ b. EachNumber f x (λ z. R a b z)))
    there h = (two_pointers f p q (λ a b. EachNumber f x (λ z. R a b z)) v w v_are w_are).0 (λ i low high k low' high'. number_back f x (λ z. R (moved v.base i) (moved w.base k) z) n n_are (λ z one. h z one i low high k low' high'))

    back : EachPointer f p (λ a. EachPointer f q (λ b. EachNumber f x (λ z. R a b z))) → (z : ℤ) → IsOneOf n z → EachMoved v (λ a. EachMoved w (λ b. R a b z))
    back h z one i low high k low' high' = number_there f x (λ z. R (moved v.base i) (moved w.base k) z) n n_are ((two_pointers f p q (λ a b. EachNumber f x (λ z. R a b z)) v w v_are w_are).1 h i low high k low' high') z one

pub two_numbers : (f : Frame) (a : Place) (b : Option Place) (R : ℤ → ℤ → Type 0) (v w : Numbers) → AreNumbers f a v → AreSecond f b w →
    ((x y : ℤ) → IsOneOf v x → IsOneOf w y → R x y) ↔ EachNumber f a (λ x. EachSecond f b (λ y. R x y))
two_numbers f a b R v w v_are w_are = (
  λ h. number_back f a (λ x. EachSecond f b (λ y. R x y)) v v_are (λ x x_in. second_back f (R x) b w w_are (λ y y_in. h x y x_in y_in)),
  λ h x y x_in y_in. second_there f (R x) b w w_are (number_there f a (λ x. EachSecond f b (λ y. R x y)) v v_are h x x_in) y y_in,
)

-- what is asked of a pointer and two numbers, as asked of the pointer for all numbers
pub pointer_and_numbers : (f : Frame) (p x y : Place) (R : Value → ℤ → ℤ → Type 0) (A : Value → Type 0) (v : Pointers) (l h : Numbers) → ArePointers f p v → AreNumbers f x l → AreNumbers f y h →
    ((a : Value) → A a ↔ ((i j : ℤ) → IsOneOf l i → IsOneOf h j → R a i j)) → EachMoved v A ↔ EachPointer f p (λ a. EachNumber f x (λ i. EachNumber f y (λ j. R a i j)))
pointer_and_numbers f p x y R A v l h v_are l_are h_are same = (
  λ g. pointer_back f p (λ a. EachNumber f x (λ i. EachNumber f y (λ j. R a i j))) v v_are (λ n low high. (two_numbers f x (Some y) (R (moved v.base n)) l h l_are h_are).0 ((same (moved v.base n)).0 (g n low high))),
  λ g n low high. (same (moved v.base n)).1 ((two_numbers f x (Some y) (R (moved v.base n)) l h l_are h_are).1 (pointer_there f p (λ a. EachNumber f x (λ i. EachNumber f y (λ j. R a i j))) v v_are g n low high)),
)
