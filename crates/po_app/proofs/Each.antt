-- Items with their places, one more at a time.
use Rattle.std.proofs.Common.{◌≡◌, ℕ, suc, zero, ◌+◌, ◌<◌, List, [], ◌∷◌, ◌++◌, length, get_or, take, refl, ap, sym, ◌∙◌, append_assoc, arith, subst}
use Rattle.std.proofs.lemmas.List.{append-nil, take_more}
use Rattle.std.specs.List.{AllZip}
use Rattle.po_app.specs.Obligations.{each_from}

each_from-take-from : {X Y : Type 0} (f : ℕ → X → List Y) (n : ℕ) (xs : List X) (i : ℕ) (d : X) → i < length xs →
    each_from f n (take (suc i) xs) ≡ each_from f n (take i xs) ++ f (n + i) (get_or xs i d)
each_from-take-from f n [] i d h = absurd (omega arith)
each_from-take-from f n (x ∷ xs) zero d h = let e : n + 0 ≡ n = omega arith in rw (e, append-nil (f n x)) refl
each_from-take-from f n (x ∷ xs) (suc i) d h =
    let h' : i < length xs = omega arith in
    let e : (n + 1) + i ≡ n + suc i = omega arith in
    let step = each_from-take-from f (n + 1) xs i d h' in
    ap (λ z. f n x ++ z) (step ∙ rw e refl) ∙ sym (append_assoc (f n x) _ _)

pub each_from-take : {X Y : Type 0} (f : ℕ → X → List Y) (xs : List X) (i : ℕ) (d : X) → i < length xs →
    each_from f 0 (take (i + 1) xs) ≡ each_from f 0 (take i xs) ++ f i (get_or xs i d)
each_from-take f xs i d h =
    let e : i + 1 ≡ suc i = omega arith in
    let z : 0 + i ≡ i = omega arith in
    rw e (subst (λ k. each_from f 0 (take (suc i) xs) ≡ each_from f 0 (take i xs) ++ f k (get_or xs i d)) z (each_from-take-from f 0 xs i d h))

-- the same with the item that was read
pub each_from-more : {X Y : Type 0} (f : ℕ → X → List Y) (xs : List X) (i : ℕ) (x : X) → i < length xs → x ≡ get_or xs i x →
    each_from f 0 (take (i + 1) xs) ≡ each_from f 0 (take i xs) ++ f i x
each_from-more f xs i x h is = each_from-take f xs i x h ∙ ap (λ y. each_from f 0 (take i xs) ++ f i y) (sym is)

-- what is made of one more item is appended
pub each_from-step : {X Y : Type 0} (f : ℕ → X → List Y) (xs : List X) (i j : ℕ) (x : X) (before after : List Y) → i < length xs → x ≡ get_or xs i x → j ≡ i →
    before ≡ each_from f 0 (take i xs) → after ≡ before ++ f j x → after ≡ each_from f 0 (take (i + 1) xs)
each_from-step f xs i j x before after below is same so_far appended =
    appended ∙ ap (λ z. z ++ f j x) so_far ∙ ap (λ k. each_from f 0 (take i xs) ++ f k x) same ∙ sym (each_from-more f xs i x below is)

pub AllZip-append : {A B : Type 0} (R : A → B → Type 0) (ks cs : List A) (bs ds : List B) → AllZip R ks bs → AllZip R cs ds → AllZip R (ks ++ cs) (bs ++ ds)
AllZip-append R [] cs [] ds h k = k
AllZip-append R [] cs (b ∷ bs) ds h k = absurd h
AllZip-append R (a ∷ ks) cs [] ds h k = absurd h
AllZip-append R (a ∷ ks) cs (b ∷ bs) ds h k = (h.0, AllZip-append R ks cs bs ds h.1 k)

pub AllZip-length : {A B : Type 0} (R : A → B → Type 0) (ks : List A) (bs : List B) → AllZip R ks bs → length ks ≡ length bs
AllZip-length R [] [] h = refl
AllZip-length R [] (b ∷ bs) h = absurd h
AllZip-length R (k ∷ ks) [] h = absurd h
AllZip-length R (k ∷ ks) (b ∷ bs) h = ap suc (AllZip-length R ks bs h.1)

-- one more item on both sides
pub AllZip-step : {A B : Type 0} (R : A → B → Type 0) (ks : List A) (i : ℕ) (k : A) (bs cs : List B) (b : B) → i < length ks → k ≡ get_or ks i k →
    AllZip R (take i ks) bs → R k b → cs ≡ bs ++ b ∷ [] → AllZip R (take (i + 1) ks) cs
AllZip-step R ks i k bs cs b h is before now pushed =
    let one : take (i + 1) ks ≡ take i ks ++ k ∷ [] = take_more ks i k h ∙ ap (λ x. take i ks ++ x ∷ []) (sym is) in
    subst (λ l. AllZip R (take (i + 1) ks) l) (sym pushed) (subst (λ l. AllZip R l (bs ++ b ∷ [])) (sym one) (AllZip-append R (take i ks) (k ∷ []) bs (b ∷ []) before (now, tt)))
