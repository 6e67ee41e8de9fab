-- Orders with a join: of tests, of numbers, of pairs, with a least or a greatest value put to them, and of lists of one length.
use Rattle.std.specs.Prelude.{◌≡◌, ℕ, suc, ◌≤◌, Bool, true, false, ◌&&◌, ◌||◌, min, List, [], ◌∷◌, length, Option, Some, None, IsTrue, ◌↔◌, cond, not, nat_le}
use Rattle.std.specs.Bool.{Decides}
use Rattle.std.proofs.lemmas.Bool.{le-leb}
use Rattle.std.specs.List.{AllByRecursion, AllZip}
use Rattle.std.proofs.Common.{refl, sym, ap, ◌∙◌, subst, arith, le_trans}
use borrow.Author.Tests.{leb-true, leb-false}

-- Below is an order of the proper values, and join gives the least upper bound of two of them
pub record IsJoin {S : Type 0} (Proper : S → Type 0) (Below : S → S → Type 0) (join : S → S → S) : Type 0 where
  pub stays : (x y : S) → Proper x → Proper y → Proper (join x y)
  pub itself : (x : S) → Proper x → Below x x
  pub through : (x y z : S) → Proper x → Proper y → Proper z → Below x y → Below y z → Below x z
  pub apart : (x y : S) → Proper x → Proper y → Below x y → Below y x → x ≡ y
  pub left : (x y : S) → Proper x → Proper y → Below x (join x y)
  pub right : (x y : S) → Proper x → Proper y → Below y (join x y)
  pub least : (x y z : S) → Proper x → Proper y → Proper z → Below x z → Below y z → Below (join x y) z

module _ {S : Type 0} {Proper : S → Type 0} {Below : S → S → Type 0} {join : S → S → S} (law : IsJoin Proper Below join) where
  -- where one is below the other, the join is the other
  pub join_of_lesser : (x y : S) → Proper x → Proper y → Below x y → join x y ≡ y
  join_of_lesser x y px py h =
      law.apart (join x y) y (law.stays x y px py) py (law.least x y y px py py h (law.itself y py)) (law.right x y px py)

  pub join_of_greater : (x y : S) → Proper x → Proper y → Below y x → join x y ≡ x
  join_of_greater x y px py h =
      law.apart (join x y) x (law.stays x y px py) px (law.least x y x px py px (law.itself x px) h) (law.left x y px py)

  -- greater values have the greater join
  pub join_rises : (x y v w : S) → Proper x → Proper y → Proper v → Proper w → Below x v → Below y w → Below (join x y) (join v w)
  join_rises x y v w px py pv pw h k =
      let top = law.stays v w pv pw in
      law.least x y (join v w) px py top
      (law.through x v (join v w) px pv top h (law.left v w pv pw))
      (law.through y w (join v w) py pw top k (law.right v w pv pw))

  -- of some of the values, which joins do not leave
  pub among : (Q : S → Type 0) → ((x : S) → Q x → Proper x) → ((x y : S) → Q x → Q y → Q (join x y)) → IsJoin Q Below join
  among Q proper stays = record {
    stays = stays;
    itself = λ x qx. law.itself x (proper x qx);
    through = λ x y z qx qy qz. law.through x y z (proper x qx) (proper y qy) (proper z qz);
    apart = λ x y qx qy. law.apart x y (proper x qx) (proper y qy);
    left = λ x y qx qy. law.left x y (proper x qx) (proper y qy);
    right = λ x y qx qy. law.right x y (proper x qx) (proper y qy);
    least = λ x y z qx qy qz. law.least x y z (proper x qx) (proper y qy) (proper z qz);
  }

  -- the same values in other words
  pub renamed : (Q : S → Type 0) → ((x : S) → Proper x ↔ Q x) → IsJoin Q Below join
  renamed Q same = among Q (λ x qx. (same x).1 qx) (λ x y qx qy. (same (join x y)).0 (law.stays x y ((same x).1 qx) ((same y).1 qy)))

  -- the same order in other words
  pub reordered : (Order : S → S → Type 0) → ((x y : S) → Proper x → Proper y → Below x y ↔ Order x y) → IsJoin Proper Order join
  reordered Order same = record {
    stays = law.stays;
    itself = λ x px. (same x x px px).0 (law.itself x px);
    through = λ x y z px py pz h k. (same x z px pz).0 (law.through x y z px py pz ((same x y px py).1 h) ((same y z py pz).1 k));
    apart = λ x y px py h k. law.apart x y px py ((same x y px py).1 h) ((same y x py px).1 k);
    left = λ x y px py. (same x (join x y) px (law.stays x y px py)).0 (law.left x y px py);
    right = λ x y px py. (same y (join x y) py (law.stays x y px py)).0 (law.right x y px py);
    least = λ x y z px py pz h k. (same (join x y) z (law.stays x y px py) pz).0 (law.least x y z px py pz ((same x z px pz).1 h) ((same y z py pz).1 k));
  }

  -- the same join in other words
  pub rejoined : (other : S → S → S) → ((x y : S) → join x y ≡ other x y) → IsJoin Proper Below other
  rejoined other same = subst (IsJoin Proper Below) (λ i x y. same x y i) law

-- ---- tests and numbers

-- one value alone
pub alone : {S : Type 0} (it : S) → IsJoin (λ x. x ≡ it) (λ x y. Unit {0}) (λ x y. x)
alone it = record {
  stays = λ x y px py. px;
  itself = λ x px. tt;
  through = λ x y z px py pz h k. tt;
  apart = λ x y px py h k. px ∙ sym py;
  left = λ x y px py. tt;
  right = λ x y px py. tt;
  least = λ x y z px py pz h k. tt;
}

-- a fact that is surely known: to know it is the lesser
abbrev pub Surely : Bool → Bool → Type 0
Surely a b = IsTrue b → IsTrue a

pub surely : IsJoin (λ _. Unit {0}) Surely (λ a b. a && b)
surely = record {
  stays = λ x y px py. tt;
  itself = λ x px h. h;
  through = λ x y z px py pz h k p. h (k p);
  apart = apart;
  left = left;
  right = right;
  least = least;
} where
  apart : (x y : Bool) → Unit {0} → Unit {0} → Surely x y → Surely y x → x ≡ y
  apart true true px py h k = refl
  apart true false px py h k = sym (k refl)
  apart false true px py h k = h refl
  apart false false px py h k = refl

  left : (x y : Bool) → Unit {0} → Unit {0} → Surely x (x && y)
  left true y px py h = refl
  left false y px py h = h

  right : (x y : Bool) → Unit {0} → Unit {0} → Surely y (x && y)
  right true y px py h = h
  right false y px py h = cc

  least : (x y z : Bool) → Unit {0} → Unit {0} → Unit {0} → Surely x z → Surely y z → Surely (x && y) z
  least true y z px py pz h k p = k p
  least false y z px py pz h k p = h p

-- what may have happened: that it hasn't is the lesser
abbrev pub Maybe : Bool → Bool → Type 0
Maybe a b = IsTrue a → IsTrue b

pub maybe : IsJoin (λ _. Unit {0}) Maybe (λ a b. a || b)
maybe = record {
  stays = λ x y px py. tt;
  itself = λ x px h. h;
  through = λ x y z px py pz h k p. k (h p);
  apart = apart;
  left = left;
  right = right;
  least = least;
} where
  apart : (x y : Bool) → Unit {0} → Unit {0} → Maybe x y → Maybe y x → x ≡ y
  apart true true px py h k = refl
  apart true false px py h k = sym (h refl)
  apart false true px py h k = k refl
  apart false false px py h k = refl

  left : (x y : Bool) → Unit {0} → Unit {0} → Maybe x (x || y)
  left true y px py h = refl
  left false y px py h = cc

  right : (x y : Bool) → Unit {0} → Unit {0} → Maybe y (x || y)
  right true y px py h = refl
  right false y px py h = h

  least : (x y z : Bool) → Unit {0} → Unit {0} → Unit {0} → Maybe x z → Maybe y z → Maybe (x || y) z
  least true y z px py pz h k p = h p
  least false y z px py pz h k p = k p

-- a number that is at least there: the greater is the lesser
abbrev pub AtLeast : ℕ → ℕ → Type 0
AtLeast a b = b ≤ a

pub at_least : (Proper : ℕ → Type 0) → ((x y : ℕ) → Proper x → Proper y → Proper (min x y)) → IsJoin Proper AtLeast min
at_least Proper stays = record {
  stays = stays;
  itself = λ x px. omega arith;
  through = λ x y z px py pz h k. omega arith;
  apart = λ x y px py h k. omega arith;
  left = λ x y px py. omega arith;
  right = λ x y px py. omega arith;
  least = λ x y z px py pz h k. omega arith;
}

-- the tests of these orders
pub surely_tells : (a b : Bool) → Decides (a || not b) (Surely a b)
surely_tells true b = (λ h k. refl, λ h. refl)
surely_tells false true = (λ h. cc, λ h. h refl)
surely_tells false false = (λ h k. cc, λ h. refl)

pub maybe_tells : (a b : Bool) → Decides (not a || b) (Maybe a b)
maybe_tells false b = (λ h k. cc, λ h. refl)
maybe_tells true true = (λ h k. refl, λ h. refl)
maybe_tells true false = (λ h. cc, λ h. h refl)

pub le_tells : (a b : ℕ) → Decides (nat_le a b) (a ≤ b)
le_tells a b = (λ h. leb-true a b h, λ h. le-leb a b h)

-- ---- pairs, part by part

pub pairs :
    {S T : Type 0} {P : S → Type 0} {B : S → S → Type 0} {j : S → S → S} {Q : T → Type 0} {C : T → T → Type 0} {k : T → T → T} →
    IsJoin P B j → IsJoin Q C k →
    IsJoin (λ (p : S × T). P p.0 × Q p.1) (λ p q. B p.0 q.0 × C p.1 q.1) (λ p q. (j p.0 q.0, k p.1 q.1))
pairs f g = record {
  stays = λ x y px py. (f.stays x.0 y.0 px.0 py.0, g.stays x.1 y.1 px.1 py.1);
  itself = λ x px. (f.itself x.0 px.0, g.itself x.1 px.1);
  through = λ x y z px py pz h k. (f.through x.0 y.0 z.0 px.0 py.0 pz.0 h.0 k.0, g.through x.1 y.1 z.1 px.1 py.1 pz.1 h.1 k.1);
  apart = λ x y px py h k i. (f.apart x.0 y.0 px.0 py.0 h.0 k.0 i, g.apart x.1 y.1 px.1 py.1 h.1 k.1 i);
  left = λ x y px py. (f.left x.0 y.0 px.0 py.0, g.left x.1 y.1 px.1 py.1);
  right = λ x y px py. (f.right x.0 y.0 px.0 py.0, g.right x.1 y.1 px.1 py.1);
  least = λ x y z px py pz h k. (f.least x.0 y.0 z.0 px.0 py.0 pz.0 h.0 k.0, g.least x.1 y.1 z.1 px.1 py.1 pz.1 h.1 k.1);
}

-- values told by their parts, to which and from which there is one way
pub along :
    {S T : Type 0} (parts : S → T) (whole : T → S) → ((s : S) → whole (parts s) ≡ s) → ((t : T) → parts (whole t) ≡ t) →
    {P : T → Type 0} {B : T → T → Type 0} {j : T → T → T} → IsJoin P B j →
    IsJoin (λ s. P (parts s)) (λ s t. B (parts s) (parts t)) (λ s t. whole (j (parts s) (parts t)))
along parts whole back there {P} {B} {j} f = record {
  stays = λ x y px py. subst P (sym (there (j (parts x) (parts y)))) (f.stays (parts x) (parts y) px py);
  itself = λ x px. f.itself (parts x) px;
  through = λ x y z px py pz h k. f.through (parts x) (parts y) (parts z) px py pz h k;
  apart = λ x y px py h k. sym (back x) ∙ ap whole (f.apart (parts x) (parts y) px py h k) ∙ back y;
  left = λ x y px py. subst (λ t. B (parts x) t) (sym (there (j (parts x) (parts y)))) (f.left (parts x) (parts y) px py);
  right = λ x y px py. subst (λ t. B (parts y) t) (sym (there (j (parts x) (parts y)))) (f.right (parts x) (parts y) px py);
  least = λ x y z px py pz h k. subst (λ t. B t (parts z)) (sym (there (j (parts x) (parts y)))) (f.least (parts x) (parts y) (parts z) px py pz h k);
}

-- ---- with a least value, None

abbrev pub IfThere : {S : Type 0} → (S → Type 0) → Option S → Type 0
IfThere P None = Unit {0}
IfThere P (Some x) = P x

abbrev pub BelowFromNone : {S : Type 0} → (S → S → Type 0) → Option S → Option S → Type 0
BelowFromNone B None y = Unit {0}
BelowFromNone B (Some x) None = ⊥
BelowFromNone B (Some x) (Some y) = B x y

abbrev pub either_join : {S : Type 0} → (S → S → S) → Option S → Option S → Option S
either_join j None y = y
either_join j (Some x) None = Some x
either_join j (Some x) (Some y) = Some (j x y)

module _ {S : Type 0} {P : S → Type 0} {B : S → S → Type 0} {j : S → S → S} (f : IsJoin P B j) where
  pub from_none : IsJoin (IfThere P) (BelowFromNone B) (either_join j)
  from_none = record { stays = stays; itself = itself; through = through; apart = apart; left = left; right = right; least = least } where
    stays : (x y : Option S) → IfThere P x → IfThere P y → IfThere P (either_join j x y)
    stays None y px py = py
    stays (Some x) None px py = px
    stays (Some x) (Some y) px py = f.stays x y px py

    itself : (x : Option S) → IfThere P x → BelowFromNone B x x
    itself None px = tt
    itself (Some x) px = f.itself x px

    through : (x y z : Option S) → IfThere P x → IfThere P y → IfThere P z → BelowFromNone B x y → BelowFromNone B y z → BelowFromNone B x z
    through None y z px py pz h k = tt
    through (Some x) None z px py pz h k = absurd h
    through (Some x) (Some y) None px py pz h k = k
    through (Some x) (Some y) (Some z) px py pz h k = f.through x y z px py pz h k

    apart : (x y : Option S) → IfThere P x → IfThere P y → BelowFromNone B x y → BelowFromNone B y x → x ≡ y
    apart None None px py h k = refl
    apart None (Some y) px py h k = absurd k
    apart (Some x) None px py h k = absurd h
    apart (Some x) (Some y) px py h k = ap Some (f.apart x y px py h k)

    left : (x y : Option S) → IfThere P x → IfThere P y → BelowFromNone B x (either_join j x y)
    left None y px py = tt
    left (Some x) None px py = f.itself x px
    left (Some x) (Some y) px py = f.left x y px py

    right : (x y : Option S) → IfThere P x → IfThere P y → BelowFromNone B y (either_join j x y)
    right x None px py = tt
    right None (Some y) px py = f.itself y py
    right (Some x) (Some y) px py = f.right x y px py

    least : (x y z : Option S) → IfThere P x → IfThere P y → IfThere P z → BelowFromNone B x z → BelowFromNone B y z → BelowFromNone B (either_join j x y) z
    least None y z px py pz h k = k
    least (Some x) None z px py pz h k = h
    least (Some x) (Some y) None px py pz h k = h
    least (Some x) (Some y) (Some z) px py pz h k = f.least x y z px py pz h k

-- ---- with a greatest value, None, which is the join where the values have no upper bound

abbrev pub BelowNone : {S : Type 0} → (S → S → Type 0) → Option S → Option S → Type 0
BelowNone B x None = Unit {0}
BelowNone B None (Some y) = ⊥
BelowNone B (Some x) (Some y) = B x y

abbrev pub both_join : {S : Type 0} → (S → S → Option S) → Option S → Option S → Option S
both_join j None y = None
both_join j (Some x) None = None
both_join j (Some x) (Some y) = j x y

-- j gives the least upper bound where there is an upper bound at all
pub record IsPartialJoin {S : Type 0} (P : S → Type 0) (B : S → S → Type 0) (j : S → S → Option S) : Type 0 where
  pub stays : (x y : S) → P x → P y → IfThere P (j x y)
  pub itself : (x : S) → P x → B x x
  pub through : (x y z : S) → P x → P y → P z → B x y → B y z → B x z
  pub apart : (x y : S) → P x → P y → B x y → B y x → x ≡ y
  pub left : (x y : S) → P x → P y → BelowNone B (Some x) (j x y)
  pub right : (x y : S) → P x → P y → BelowNone B (Some y) (j x y)
  pub least : (x y z : S) → P x → P y → P z → B x z → B y z → BelowNone B (j x y) (Some z)

module _ {S : Type 0} {P : S → Type 0} {B : S → S → Type 0} {j : S → S → Option S} (f : IsPartialJoin P B j) where
  pub up_to_none : IsJoin (IfThere P) (BelowNone B) (both_join j)
  up_to_none = record { stays = stays; itself = itself; through = through; apart = apart; left = left; right = right; least = least } where
    top : (x : Option S) → BelowNone B x None
    top None = tt
    top (Some x) = tt

    stays : (x y : Option S) → IfThere P x → IfThere P y → IfThere P (both_join j x y)
    stays None y px py = tt
    stays (Some x) None px py = tt
    stays (Some x) (Some y) px py = f.stays x y px py

    itself : (x : Option S) → IfThere P x → BelowNone B x x
    itself None px = tt
    itself (Some x) px = f.itself x px

    through : (x y z : Option S) → IfThere P x → IfThere P y → IfThere P z → BelowNone B x y → BelowNone B y z → BelowNone B x z
    through x y None px py pz h k = top x
    through x None (Some z) px py pz h k = absurd k
    through None (Some y) (Some z) px py pz h k = absurd h
    through (Some x) (Some y) (Some z) px py pz h k = f.through x y z px py pz h k

    apart : (x y : Option S) → IfThere P x → IfThere P y → BelowNone B x y → BelowNone B y x → x ≡ y
    apart None None px py h k = refl
    apart None (Some y) px py h k = absurd h
    apart (Some x) None px py h k = absurd k
    apart (Some x) (Some y) px py h k = ap Some (f.apart x y px py h k)

    left : (x y : Option S) → IfThere P x → IfThere P y → BelowNone B x (both_join j x y)
    left None y px py = tt
    left (Some x) None px py = tt
    left (Some x) (Some y) px py = f.left x y px py

    right : (x y : Option S) → IfThere P x → IfThere P y → BelowNone B y (both_join j x y)
    right None y px py = top y
    right (Some x) None px py = tt
    right (Some x) (Some y) px py = f.right x y px py

    least : (x y z : Option S) → IfThere P x → IfThere P y → IfThere P z → BelowNone B x z → BelowNone B y z → BelowNone B (both_join j x y) z
    least x y None px py pz h k = top (both_join j x y)
    least None y (Some z) px py pz h k = absurd h
    least (Some x) None (Some z) px py pz h k = absurd k
    least (Some x) (Some y) (Some z) px py pz h k = f.least x y z px py pz h k

-- of limited size: a join past the limit is None
pub limited :
    {S : Type 0} {P : S → Type 0} {B : S → S → Type 0} {j : S → S → S} (f : IsJoin P B j) (size : S → ℕ) (n : ℕ) →
    ((x y : S) → P x → P y → B x y → size x ≤ size y) →
    IsPartialJoin (λ x. P x × (size x ≤ n)) B (λ x y. cond (nat_le (size (j x y)) n) (Some (j x y)) None)
limited {S} {P} {B} {j} f size n grows = record {
  stays = λ x y px py. stays (nat_le (size (j x y)) n) (j x y) refl (f.stays x y px.0 py.0);
  itself = λ x px. f.itself x px.0;
  through = λ x y z px py pz. f.through x y z px.0 py.0 pz.0;
  apart = λ x y px py. f.apart x y px.0 py.0;
  left = λ x y px py. above (nat_le (size (j x y)) n) x (j x y) (f.left x y px.0 py.0);
  right = λ x y px py. above (nat_le (size (j x y)) n) y (j x y) (f.right x y px.0 py.0);
  least = λ x y z px py pz h k.
      let lesser = f.least x y z px.0 py.0 pz.0 h k in
      least (nat_le (size (j x y)) n) (j x y) z refl (le_trans (grows (j x y) z (f.stays x y px.0 py.0) pz.0 lesser) pz.1) lesser;
} where
  stays : (b : Bool) (z : S) → nat_le (size z) n ≡ b → P z → IfThere (λ x. P x × (size x ≤ n)) (cond b (Some z) None)
  stays true z h pz = (pz, leb-true (size z) n h)
  stays false z h pz = tt

  above : (b : Bool) (x z : S) → B x z → BelowNone B (Some x) (cond b (Some z) None)
  above true x z h = h
  above false x z h = tt

  least : (b : Bool) (w z : S) → nat_le (size w) n ≡ b → size w ≤ n → B w z → BelowNone B (cond b (Some w) None) (Some z)
  least true w z h small k = k
  least false w z h small k = absurd (omega (arith, leb-false (size w) n h))

-- ---- lists of one length, place by place

abbrev pub each_join : {S : Type 0} → (S → S → S) → List S → List S → List S
each_join j [] ys = []
each_join j (x ∷ xs) [] = []
each_join j (x ∷ xs) (y ∷ ys) = j x y ∷ each_join j xs ys

-- n proper items
abbrev pub EachProper : {S : Type 0} → (S → Type 0) → ℕ → List S → Type 0
EachProper P n xs = AllByRecursion P xs × (length xs ≡ n)

module _ {S : Type 0} {P : S → Type 0} {B : S → S → Type 0} {j : S → S → S} (f : IsJoin P B j) where
  each_stays : (xs ys : List S) → AllByRecursion P xs → AllByRecursion P ys → AllByRecursion P (each_join j xs ys)
  each_stays [] ys px py = tt
  each_stays (x ∷ xs) [] px py = tt
  each_stays (x ∷ xs) (y ∷ ys) px py = (f.stays x y px.0 py.0, each_stays xs ys px.1 py.1)

  each_length : (xs ys : List S) → length xs ≡ length ys → length (each_join j xs ys) ≡ length xs
  each_length [] ys h = refl
  each_length (x ∷ xs) [] h = absurd (omega arith)
  each_length (x ∷ xs) (y ∷ ys) h = ap suc (each_length xs ys (omega arith))

  each_itself : (xs : List S) → AllByRecursion P xs → AllZip B xs xs
  each_itself [] px = tt
  each_itself (x ∷ xs) px = (f.itself x px.0, each_itself xs px.1)

  each_through : (xs ys zs : List S) → AllByRecursion P xs → AllByRecursion P ys → AllByRecursion P zs → AllZip B xs ys → AllZip B ys zs → AllZip B xs zs
  each_through [] [] zs px py pz h k = k
  each_through [] (y ∷ ys) zs px py pz h k = absurd h
  each_through (x ∷ xs) [] zs px py pz h k = absurd h
  each_through (x ∷ xs) (y ∷ ys) [] px py pz h k = absurd k
  each_through (x ∷ xs) (y ∷ ys) (z ∷ zs) px py pz h k = (f.through x y z px.0 py.0 pz.0 h.0 k.0, each_through xs ys zs px.1 py.1 pz.1 h.1 k.1)

  each_apart : (xs ys : List S) → AllByRecursion P xs → AllByRecursion P ys → AllZip B xs ys → AllZip B ys xs → xs ≡ ys
  each_apart [] [] px py h k = refl
  each_apart [] (y ∷ ys) px py h k = absurd h
  each_apart (x ∷ xs) [] px py h k = absurd h
  each_apart (x ∷ xs) (y ∷ ys) px py h k =
      let first = f.apart x y px.0 py.0 h.0 k.0 in
      let rest = each_apart xs ys px.1 py.1 h.1 k.1 in
      λ i. first i ∷ rest i

  each_left : (xs ys : List S) → AllByRecursion P xs → AllByRecursion P ys → length xs ≡ length ys → AllZip B xs (each_join j xs ys)
  each_left [] ys px py h = tt
  each_left (x ∷ xs) [] px py h = absurd (omega arith)
  each_left (x ∷ xs) (y ∷ ys) px py h = (f.left x y px.0 py.0, each_left xs ys px.1 py.1 (omega arith))

  each_right : (xs ys : List S) → AllByRecursion P xs → AllByRecursion P ys → length xs ≡ length ys → AllZip B ys (each_join j xs ys)
  each_right [] [] px py h = tt
  each_right [] (y ∷ ys) px py h = absurd (omega arith)
  each_right (x ∷ xs) [] px py h = absurd (omega arith)
  each_right (x ∷ xs) (y ∷ ys) px py h = (f.right x y px.0 py.0, each_right xs ys px.1 py.1 (omega arith))

  each_least : (xs ys zs : List S) → AllByRecursion P xs → AllByRecursion P ys → AllByRecursion P zs → AllZip B xs zs → AllZip B ys zs → AllZip B (each_join j xs ys) zs
  each_least [] ys zs px py pz h k = h
  each_least (x ∷ xs) [] [] px py pz h k = absurd h
  each_least (x ∷ xs) [] (z ∷ zs) px py pz h k = absurd k
  each_least (x ∷ xs) (y ∷ ys) [] px py pz h k = absurd h
  each_least (x ∷ xs) (y ∷ ys) (z ∷ zs) px py pz h k = (f.least x y z px.0 py.0 pz.0 h.0 k.0, each_least xs ys zs px.1 py.1 pz.1 h.1 k.1)

  pub each : (n : ℕ) → IsJoin (EachProper P n) (AllZip B) (each_join j)
  each n = record {
    stays = λ x y px py. (each_stays x y px.0 py.0, each_length x y (px.1 ∙ sym py.1) ∙ px.1);
    itself = λ x px. each_itself x px.0;
    through = λ x y z px py pz. each_through x y z px.0 py.0 pz.0;
    apart = λ x y px py. each_apart x y px.0 py.0;
    left = λ x y px py. each_left x y px.0 py.0 (px.1 ∙ sym py.1);
    right = λ x y px py. each_right x y px.0 py.0 (px.1 ∙ sym py.1);
    least = λ x y z px py pz. each_least x y z px.0 py.0 pz.0;
  }
