-- How the code lays members one behind the other.
use Rattle.std.proofs.Common.{arith, refl, sym, ap, ◌∙◌, subst, ◌≡◌, ◌≢◌, ◌≤◌, ◌<◌, ◌+◌, ◌*◌, ◌-◌, ◌/◌, ◌%◌, ◌^◌, ℕ, suc, zero, List, [], ◌∷◌, ◌++◌, length, Some, None, ◌⊎◌, inl, inr}
use Rattle.std.specs.Prelude.{max, take, drop, get_or}
use Rattle.std.proofs.Math.Nat.{mod-add-div, mod-lt, mul-suc, mul-zero, mul_comm, mul-le-mul_right, max_comm, max-le, le-max_left, le-max_right}
use Rattle.std.proofs.Math.Seq.{drop-cons, take-length}
use Rattle.std.proofs.lemmas.List.{take_more, take-append-drop}
use Rattle.po_arith.specs.declared.target.Target.{Target}
use Rattle.po_types.specs.declared.layout.Extent.{Extent}
use Rattle.po_types.specs.declared.layout.Layout.{Layout}
use Rattle.po_types.specs.Types.{as_object}
use Rattle.po_types.specs.Layouts.{IsNext, Lie, no_more, member, greatest_align, IsLayout, HasLayout, HasNoLayout}
use Rattle.po_types.proofs.Large.{too_large}
use Rattle.po_types.proofs.OneLayout.{one_next, one_lie}

pub next_zero : IsNext 0 0 0
next_zero = record { times = 0; multiple = refl; behind = omega arith; least = λ k h. omega arith }

pub no_next : (n m : ℕ) → n ≢ 0 → IsNext 0 n m → 2 ^ 64 ≤ m
no_next n m h p = let e : p.times * 0 ≡ 0 = mul-zero p.times in let q = p.multiple in let b = p.behind in absurd (h (omega (arith, e, q, b)))

pub next_itself : (align n : ℕ) → n % align ≡ 0 → IsNext align n n
next_itself align n h =
    let d = mod-add-div n align in let e = mul_comm align (n / align) in
    record { times = n / align; multiple = omega (arith, d, e, h); behind = omega arith; least = λ k g. g }

-- a multiple that is more than another one is a whole step more
beyond : (align q k r n : ℕ) → n ≡ r + align * q → 0 < r → n ≤ k * align → (k ≤ q) ⊎ (suc q ≤ k) → suc q ≤ k
beyond align q k r n d p h (inl s) =
    let m = mul-le-mul_right align s in let e = mul_comm q align in omega (arith, d, p, h, m, e)
beyond align q k r n d p h (inr s) = s

either : (a b : ℕ) → (a ≤ b) ⊎ (suc b ≤ a)
either zero b = inl (omega arith)
either (suc a) zero = inr (omega arith)
either (suc a) (suc b) = elim (either a b) [
  | inl h ↦ inl (omega (arith, h))
  | inr h ↦ inr (omega (arith, h))
]

pub next_behind : (align n : ℕ) → 0 < align → 0 < n % align → IsNext align n (n + (align - n % align))
next_behind align n p h =
    let d = mod-add-div n align in
    let l = mod-lt n p in
    let e = mul_comm align (suc (n / align)) in
    let f = mul-suc align (n / align) in
    record {
      times = suc (n / align);
      multiple = omega (arith, d, l, e, f);
      behind = omega arith;
      least = λ k g.
          let s = beyond align (n / align) k (n % align) n (sym d) h g (either k (n / align)) in
          let m = mul-le-mul_right align s in
          omega (arith, d, l, e, f, m);
    }

lie_more : {at m : ℕ} {xs : List Extent} {os : List ℕ} (x : Extent) (o : ℕ) → Lie at xs os m → IsNext x.align m o → Lie at (xs ++ x ∷ []) (os ++ o ∷ []) (o + x.size)
lie_more x o (no_more end) n = member end o (o + x.size) x [] [] n (no_more (o + x.size))
lie_more x o (member at p end y ys ps a l) n = member at p (o + x.size) y (ys ++ x ∷ []) (ps ++ o ∷ []) a (lie_more x o l n)

max_steps : (a b d : ℕ) → max a (max b d) ≡ max (max a b) d
max_steps a b d =
    let p = le-max_left (max a b) d in let q = le-max_right (max a b) d in let r = le-max_left a b in let s = le-max_right a b in
    let u : max a (max b d) ≤ max (max a b) d = max-le (omega (arith, p, r)) (max-le (omega (arith, p, s)) q) in
    let e = le-max_left a (max b d) in let f = le-max_right a (max b d) in let g = le-max_left b d in let h = le-max_right b d in
    let v : max (max a b) d ≤ max a (max b d) = max-le (max-le e (omega (arith, f, g))) (omega (arith, f, h)) in
    omega (arith, u, v)

greatest_more : (xs : List Extent) (x : Extent) → greatest_align (xs ++ x ∷ []) ≡ max (greatest_align xs) x.align
greatest_more [] x = max_comm x.align 1
greatest_more (y ∷ ys) x = ap (λ n. max y.align n) (greatest_more ys x) ∙ max_steps y.align (greatest_align ys) x.align

-- the first members of a struct, laid
pub record Laid (members : List Extent) (i : ℕ) (offsets : List ℕ) (end align : ℕ) : Type 0 where
  pub lie : Lie 0 (take i members) offsets end
  pub greatest : align ≡ greatest_align (take i members)

pub laid_none : (members : List Extent) → Laid members 0 [] 0 1
laid_none members = record { lie = no_more 0; greatest = refl }

pub laid_more : (members : List Extent) (i : ℕ) (x d : Extent) (offsets : List ℕ) (end align o : ℕ) → i < length members → get_or members i d ≡ x →
    Laid members i offsets end align → IsNext x.align end o → Laid members (i + 1) (offsets ++ o ∷ []) (o + x.size) (max align x.align)
laid_more members i x d offsets end align o h q l n =
    let one : take (i + 1) members ≡ take i members ++ x ∷ [] = take_more members i d h ∙ ap (λ y. take i members ++ y ∷ []) q in
    record {
      lie = subst (λ xs. Lie 0 xs (offsets ++ o ∷ []) (o + x.size)) (sym one) (lie_more x o l.lie n);
      greatest = ap (λ a. max a x.align) l.greatest ∙ sym (greatest_more (take i members) x) ∙ ap greatest_align (sym one);
    }

grows : {at end : ℕ} {xs : List Extent} {os : List ℕ} → Lie at xs os end → at ≤ end
grows (no_more end) = omega arith
grows (member at o end x xs os n l) = let g = grows l in let b = n.behind in omega (arith, g, b)

-- the end of the first ones, among more
record Split (at : ℕ) (xs ys : List Extent) (end : ℕ) : Type 0 where
  pub mid : ℕ
  pub first : List ℕ
  pub rest : List ℕ
  pub before : Lie at xs first mid
  pub after : Lie mid ys rest end

split : (xs ys : List Extent) {at end : ℕ} {os : List ℕ} → Lie at (xs ++ ys) os end → Split at xs ys end
split [] ys {at = at} {os = os} l = record { mid = at; first = []; rest = os; before = no_more at; after = l }
split (x ∷ xs) ys (member at o end _ _ os n l) =
    let s = split xs ys l in
    record { mid = s.mid; first = o ∷ s.first; rest = s.rest; before = member at o s.mid x xs s.first n s.before; after = s.after }

large_end : (target : Target) (members : List Extent) (l : Layout) (p : IsLayout members l) → 2 ^ 64 ≤ p.end → as_object target l.size ≡ None
large_end target members l p h = let b = p.size.behind in too_large target l.size (omega (arith, h, b))

after_first : {mid end : ℕ} {x : Extent} {xs : List Extent} {os : List ℕ} → Lie mid (x ∷ xs) os end → ((o : ℕ) → IsNext x.align mid o → 2 ^ 64 ≤ (o + x.size)) → 2 ^ 64 ≤ end
after_first (member at o end x xs os n l) h = let g = grows l in let b = h o n in omega (arith, g, b)

pub laid_too_far : (target : Target) (members : List Extent) (i : ℕ) (x d : Extent) (offsets : List ℕ) (end align : ℕ) → i < length members → get_or members i d ≡ x →
    Laid members i offsets end align → ((o : ℕ) → IsNext x.align end o → 2 ^ 64 ≤ (o + x.size)) → HasNoLayout target members
laid_too_far target members i x d offsets end align h q l far = record {
  none = λ k p.
      let cut : take i members ++ x ∷ drop (suc i) members ≡ members =
      ap (λ ys. take i members ++ ys) (sym (drop-cons members i d h ∙ ap (λ y. y ∷ drop (suc i) members) q)) ∙ take-append-drop i members in
      let s = split (take i members) (x ∷ drop (suc i) members) (subst (λ xs. Lie 0 xs k.offsets p.end) (sym cut) p.lie) in
      let same = (one_lie s.before l.lie).1 in
      large_end target members k p (after_first (subst (λ m. Lie m (x ∷ drop (suc i) members) s.rest p.end) same s.after) far);
}

pub laid_layout : (target : Target) (members : List Extent) (offsets : List ℕ) (end align size : ℕ) → Laid members (length members) offsets end align →
    IsNext align end size → as_object target size ≡ Some size → HasLayout target members (record { size = size; align = align; offsets = offsets })
laid_layout target members offsets end align size l n q = record {
  laid = record {
    end = end;
    lie = subst (λ xs. Lie 0 xs offsets end) (take-length members) l.lie;
    greatest = l.greatest ∙ ap greatest_align (take-length members);
    size = n;
  };
  object = q;
}

pub laid_too_large : (target : Target) (members : List Extent) (offsets : List ℕ) (end align : ℕ) → Laid members (length members) offsets end align →
    ((m : ℕ) → IsNext align end m → as_object target m ≡ None) → HasNoLayout target members
laid_too_large target members offsets end align l large = record {
  none = λ k p.
      let lie = subst (λ xs. Lie 0 xs offsets end) (take-length members) l.lie in
      let ends = (one_lie p.lie lie).1 in
      let aligns : k.align ≡ align = p.greatest ∙ ap greatest_align (sym (take-length members)) ∙ sym l.greatest in
      large k.size (subst (λ a. IsNext a end k.size) aligns (subst (λ e. IsNext k.align e k.size) ends p.size));
}

-- a size that no object has, whichever way it is told
pub large_words : (target : Target) (align end : ℕ) → ((m : ℕ) → IsNext align end m → 2 ^ 64 ≤ m) → (m : ℕ) → IsNext align end m → as_object target m ≡ None
large_words target align end h m n = too_large target m (h m n)

pub other_object : (target : Target) (align end size : ℕ) → IsNext align end size → as_object target size ≡ None → (m : ℕ) → IsNext align end m → as_object target m ≡ None
other_object target align end size n q m k = ap (as_object target) (one_next align end m size k n) ∙ q
