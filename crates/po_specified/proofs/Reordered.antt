-- Lists of words with the same counts are each other's words in another order.
use Rattle.std.proofs.Common.{◌≡◌, ℕ, suc, ◌+◌, List, [], ◌∷◌, ◌++◌, Bool, true, false, map, replicate, refl, sym, ap, ◌∙◌, subst, ◌⊎◌, inl, inr, cond, arith}
use Rattle.std.specs.Prelude.{nat_eq, IsPermutation, Contains, codes, sum_by}
use Rattle.std.specs.List.{AllByRecursion}
use Rattle.std.specs.Cmp.Lexicographic.{pointwise}
use Rattle.std.proofs.lemmas.Slice.Eq.{bytes_eq-Decides}
use Rattle.std.proofs.lemmas.List.Elements.{All-from_recursion, All-contains}
use Rattle.std.proofs.lemmas.List.Recursion.{is_sum_by}
use Rattle.std.proofs.lemmas.List.Sorted.{IsPermutation-refl, IsPermutation-sym, IsPermutation-trans, IsPermutation-cons, IsPermutation-middle, IsPermutation-append_right, sum_by-IsPermutation}
use Rattle.po_arith.specs.declared.target.Target.{Target}
use Rattle.po_tree.specs.Words.{type_words}
use Rattle.po_types.specs.declared.ctype.CType.{CType}
use Rattle.po_typed.specs.BaseTypes.{word_types}

-- how many times a word stands in a list
abbrev pub times : List ℕ → List (List ℕ) → ℕ
times word [] = 0
times word (x ∷ xs) = cond (pointwise nat_eq x word) (suc (times word xs)) (times word xs)

abbrev pub tally : List (List ℕ) → List (List ℕ) → List ℕ
tally names xs = map (λ name. times name xs) names

-- the words in the order of the names, each as many times as counted
abbrev blocks : List (List ℕ) → List ℕ → List (List ℕ)
blocks [] counts = []
blocks (name ∷ names) [] = []
blocks (name ∷ names) (n ∷ counts) = replicate n name ++ blocks names counts

-- the word is just one of the names
abbrev pub None_of : List (List ℕ) → List ℕ → Type 0
None_of [] x = Unit {0}
None_of (name ∷ names) x = (pointwise nat_eq x name ≡ false) × None_of names x

abbrev pub One_of : List (List ℕ) → List ℕ → Type 0
One_of [] x = ⊥
One_of (name ∷ names) x = ((pointwise nat_eq x name ≡ true) × None_of names x) ⊎ ((pointwise nat_eq x name ≡ false) × One_of names x)

equal : (x name : List ℕ) → pointwise nat_eq x name ≡ true → x ≡ name
equal x name q = (bytes_eq-Decides x name).0 q

uncounted : (names : List (List ℕ)) (x : List ℕ) (xs : List (List ℕ)) → None_of names x → tally names (x ∷ xs) ≡ tally names xs
uncounted [] x xs none = refl
uncounted (name ∷ names) x xs none = rw none.0 (ap (λ ts. times name xs ∷ ts) (uncounted names x xs none.1))

counted : (names : List (List ℕ)) (x : List ℕ) (xs : List (List ℕ)) → One_of names x → IsPermutation (x ∷ blocks names (tally names xs)) (blocks names (tally names (x ∷ xs)))
counted [] x xs none = elim none [ ]
counted (name ∷ names) x xs (inl here) =
    rw (here.0, uncounted names x xs here.1, equal x name here.0) (IsPermutation-refl (name ∷ (replicate (times name xs) name ++ blocks names (tally names xs))))
counted (name ∷ names) x xs (inr there) =
    let front = replicate (times name xs) name in
    let rest = blocks names (tally names xs) in
    let out = IsPermutation-sym (front ++ x ∷ rest) (x ∷ (front ++ rest)) (IsPermutation-middle front x rest) in
    let more = IsPermutation-append_right front (x ∷ rest) (blocks names (tally names (x ∷ xs))) (counted names x xs there.1) in
    rw there.0 (IsPermutation-trans (x ∷ (front ++ rest)) (front ++ x ∷ rest) (front ++ blocks names (tally names (x ∷ xs))) out more)

empty : (names : List (List ℕ)) → blocks names (tally names []) ≡ []
empty [] = refl
empty (name ∷ names) = empty names

ordered : (names xs : List (List ℕ)) → AllByRecursion (One_of names) xs → IsPermutation xs (blocks names (tally names xs))
ordered names [] all = rw (empty names) (IsPermutation-refl [])
ordered names (x ∷ xs) all =
    IsPermutation-trans (x ∷ xs) (x ∷ blocks names (tally names xs)) (blocks names (tally names (x ∷ xs)))
    (IsPermutation-cons x xs (blocks names (tally names xs)) (ordered names xs all.1)) (counted names x xs all.0)

pub reordered : (names xs ys : List (List ℕ)) → AllByRecursion (One_of names) xs → AllByRecursion (One_of names) ys → tally names xs ≡ tally names ys → IsPermutation xs ys
reordered names xs ys f g q =
    let first : IsPermutation xs (blocks names (tally names ys)) = subst (λ t. IsPermutation xs (blocks names t)) q (ordered names xs f) in
    IsPermutation-trans xs (blocks names (tally names ys)) ys first (IsPermutation-sym ys (blocks names (tally names ys)) (ordered names ys g))

-- the type words differ from each other
void_once : One_of type_words (codes "void")
void_once = inl (refl, (refl, (refl, (refl, (refl, (refl, (refl, (refl, tt))))))))

char_once : One_of type_words (codes "char")
char_once = inr (refl, inl (refl, (refl, (refl, (refl, (refl, (refl, (refl, tt))))))))

short_once : One_of type_words (codes "short")
short_once = inr (refl, inr (refl, inl (refl, (refl, (refl, (refl, (refl, (refl, tt))))))))

int_once : One_of type_words (codes "int")
int_once = inr (refl, inr (refl, inr (refl, inl (refl, (refl, (refl, (refl, (refl, tt))))))))

long_once : One_of type_words (codes "long")
long_once = inr (refl, inr (refl, inr (refl, inr (refl, inl (refl, (refl, (refl, (refl, tt))))))))

signed_once : One_of type_words (codes "signed")
signed_once = inr (refl, inr (refl, inr (refl, inr (refl, inr (refl, inl (refl, (refl, (refl, tt))))))))

unsigned_once : One_of type_words (codes "unsigned")
unsigned_once = inr (refl, inr (refl, inr (refl, inr (refl, inr (refl, inr (refl, inl (refl, (refl, tt))))))))

bool_once : One_of type_words (codes "_Bool")
bool_once = inr (refl, inr (refl, inr (refl, inr (refl, inr (refl, inr (refl, inr (refl, inl (refl, tt))))))))

once : AllByRecursion (One_of type_words) type_words
once = (void_once, (char_once, (short_once, (int_once, (long_once, (signed_once, (unsigned_once, (bool_once, tt))))))))

pub one_of : (x : List ℕ) → Contains type_words x → One_of type_words x
one_of x h = All-contains (One_of type_words) type_words x (All-from_recursion (One_of type_words) type_words once) h

-- the words of the table are type words
abbrev AreTypeWords : List (List ℕ) × CType → Type 0
AreTypeWords row = AllByRecursion (One_of type_words) row.0

of_rows : (target : Target) → AllByRecursion AreTypeWords (word_types target)
of_rows target = ((void_once, tt), ((char_once, tt), ((signed_once, (char_once, tt)), ((unsigned_once, (char_once, tt)), ((short_once, tt), ((signed_once, (short_once, tt)), ((short_once, (int_once, tt)), ((signed_once, (short_once, (int_once, tt))), ((unsigned_once, (short_once, tt)), ((unsigned_once, (short_once, (int_once, tt))), ((int_once, tt), ((signed_once, tt), ((signed_once, (int_once, tt)), ((unsigned_once, tt), ((unsigned_once, (int_once, tt)), ((long_once, tt), ((signed_once, (long_once, tt)), ((long_once, (int_once, tt)), ((signed_once, (long_once, (int_once, tt))), ((unsigned_once, (long_once, tt)), ((unsigned_once, (long_once, (int_once, tt))), ((long_once, (long_once, tt)), ((signed_once, (long_once, (long_once, tt))), ((long_once, (long_once, (int_once, tt))), ((signed_once, (long_once, (long_once, (int_once, tt)))), ((unsigned_once, (long_once, (long_once, tt))), ((unsigned_once, (long_once, (long_once, (int_once, tt)))), ((bool_once, tt), tt))))))))))))))))))))))))))))

pub of_row : (target : Target) (words : List (List ℕ)) (t : CType) → Contains {X = List (List ℕ) × CType} (word_types target) (words, t) → AllByRecursion (One_of type_words) words
of_row target words t h = All-contains AreTypeWords (word_types target) (words, t) (All-from_recursion AreTypeWords (word_types target) (of_rows target)) h

-- another order has the same counts
one_more : (b : Bool) (n : ℕ) → cond b (suc n) n ≡ cond b 1 0 + n
one_more true n = omega arith
one_more false n = omega arith

times_sum : (word : List ℕ) (xs : List (List ℕ)) → times word xs ≡ sum_by (λ x. cond (pointwise nat_eq x word) 1 0) xs
times_sum word = is_sum_by (times word) (λ x. cond (pointwise nat_eq x word) 1 0) refl (λ x xs. one_more (pointwise nat_eq x word) (times word xs))

times_kept : (word : List ℕ) (xs ys : List (List ℕ)) → IsPermutation xs ys → times word ys ≡ times word xs
times_kept word xs ys p = times_sum word ys ∙ sum_by-IsPermutation (λ x. cond (pointwise nat_eq x word) 1 0) xs ys p ∙ sym (times_sum word xs)

pub tally_kept : (names xs ys : List (List ℕ)) → IsPermutation xs ys → tally names ys ≡ tally names xs
tally_kept [] xs ys p = refl
tally_kept (name ∷ names) xs ys p = ap (λ n. n ∷ tally names ys) (times_kept name xs ys p) ∙ ap (λ ns. times name xs ∷ ns) (tally_kept names xs ys p)
