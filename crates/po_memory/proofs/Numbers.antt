-- The number of some bytes, and the bytes of a number.
use Rattle.std.proofs.Common.{◌≡◌, ◌≤◌, ◌<◌, ◌+◌, ◌*◌, ◌-◌, ◌/◌, ◌%◌, ◌^◌, ℕ, zero, suc, List, [], ◌∷◌, arith, sym, ap, refl, subst, ◌∙◌, length, drop}
use Rattle.std.specs.Prelude.{All, Some, map, slice_get, get_or}
use Rattle.std.specs.List.{range_with_len}
use Rattle.std.proofs.lemmas.List.Elements.{All-nil, All-cons}
use Rattle.std.proofs.lemmas.Option.{slice_get-get_or, same_Some}
use Rattle.std.proofs.lemmas.Nat.{pow-add, mod_below, pow_pos}
use Rattle.std.proofs.Math.Arith.{mod-mul}
use Rattle.std.proofs.Math.Nat.{div-div-eq-div-mul, mod-one, div-one, pow-le-pow_right}
use Rattle.std.proofs.Math.Seq.{drop-length}
use Rattle.po_memory.specs.declared.value.Byte.{Byte}
use Rattle.po_memory.specs.declared.value.Byte.TheVariants as byte
use Rattle.po_memory.specs.Bytes.{AreNumbers, joined}
use Rattle.po_memory.specs.Walking.{AreJoined, AreNoNumbers, digit}
use Rattle.po_memory.proofs.General.{drop_at, map_map}

number_same : (n m : ℕ) → byte.Number n ≡ byte.Number m → n ≡ m
number_same n m e = cc

heads_same : {X : Type 0} (x y : X) (xs ys : List X) → x ∷ xs ≡ y ∷ ys → (x ≡ y) × (xs ≡ ys)
heads_same x y xs ys e = (cc, cc)

-- bytes are one list of numbers at most
pub numbers_same : (ns ms : List ℕ) → map byte.Number ns ≡ map byte.Number ms → ns ≡ ms
numbers_same [] [] e = refl
numbers_same [] (m ∷ ms) e = absurd (cc)
numbers_same (n ∷ ns) [] e = absurd (cc)
numbers_same (n ∷ ns) (m ∷ ms) e =
    let both = heads_same (byte.Number n) (byte.Number m) (map byte.Number ns) (map byte.Number ms) e in
    let first : n ≡ m = number_same n m both.0 in
    let rest : ns ≡ ms = numbers_same ns ms both.1 in
    cc

pub one_list : (ns ms : List ℕ) (bytes : List Byte) → AreNumbers ns bytes → AreNumbers ms bytes → ns ≡ ms
one_list ns ms bytes one other = numbers_same ns ms (sym one.same ∙ other.same)

number_at : (ns : List ℕ) (i : ℕ) (b : Byte) → slice_get (map byte.Number ns) i ≡ Some b → (n : ℕ) × (b ≡ byte.Number n)
number_at [] i b e = absurd (cc)
number_at (n ∷ ns) zero b e = (n, sym (same_Some (byte.Number n) b e))
number_at (n ∷ ns) (suc i) b e = number_at ns i b e

-- where numbers stand each byte is one
pub is_number : (ns : List ℕ) (bytes : List Byte) (i : ℕ) (b : Byte) → AreNumbers ns bytes → slice_get bytes i ≡ Some b → (n : ℕ) × (b ≡ byte.Number n)
is_number ns bytes i b are at = number_at ns i b (ap (λ xs. slice_get xs i) (sym are.same) ∙ at)

pub none_joined : (bytes : List Byte) → AreJoined (drop (length bytes) bytes) 0
unfolding joined
none_joined bytes = record { numbers = []; are = record { same = drop-length bytes; small = All-nil (λ n. n < 256) }; same = refl }

pub one_joined : (bytes : List Byte) (i n sum : ℕ) → slice_get bytes i ≡ Some (byte.Number n) → n < 256 → AreJoined (drop (suc i) bytes) sum → AreJoined (drop i bytes) (sum * 256 + n)
unfolding joined
one_joined bytes i n sum at small rest = record {
  numbers = n ∷ rest.numbers;
  are = record { same = drop_at bytes i (byte.Number n) at ∙ ap (λ t. byte.Number n ∷ t) rest.are.same; small = All-cons (λ m. m < 256) n rest.numbers small rest.are.small };
  same = let joined_so = rest.same in omega arith;
}

-- the same of the byte at a place, the last of those that are left
pub joined_left : (bytes : List Byte) (left n sum : ℕ) → 0 < left → left ≤ length bytes → get_or bytes (left - 1) byte.Blank ≡ byte.Number n → n < 256 → AreJoined (drop left bytes) sum → AreJoined (drop (left - 1) bytes) (sum * 256 + n)
joined_left bytes left n sum some within at small rest =
    let back : left ≡ suc (left - 1) = omega arith in
    one_joined bytes (left - 1) n sum (slice_get-get_or bytes (left - 1) byte.Blank (omega arith) ∙ ap Some at) small (subst (λ k. AreJoined (drop k bytes) sum) back rest)

pub not_joined : (bytes : List Byte) (left : ℕ) (b : Byte) → 0 < left → left ≤ length bytes → get_or bytes (left - 1) byte.Blank ≡ b → ((n : ℕ) → b ≡ byte.Number n → ⊥) → AreNoNumbers bytes
not_joined bytes left b some within at other numbers are =
    let it = is_number numbers bytes (left - 1) b are (slice_get-get_or bytes (left - 1) byte.Blank (omega arith) ∙ ap Some at) in
    other it.0 it.1

pub one_more_small : (sum n k : ℕ) → sum < 2 ^ (8 * k) → n < 256 → sum * 256 + n < 2 ^ (8 * (k + 1))
one_more_small sum n k low small =
    let split : 8 * (k + 1) ≡ 8 * k + 8 = omega arith in
    let power : 2 ^ (8 * (k + 1)) ≡ 2 ^ (8 * k) * 256 = ap (λ m. 2 ^ m) split ∙ pow-add 2 (8 * k) 8 in
    rw power (omega arith)

pub left_small : (sum n size left : ℕ) → 0 < left → left ≤ size → sum < 2 ^ (8 * (size - left)) → n < 256 → sum * 256 + n < 2 ^ (8 * (size - (left - 1)))
left_small sum n size left some within low small =
    let back : size - left + 1 ≡ size - (left - 1) = omega arith in
    subst (λ k. sum * 256 + n < 2 ^ (8 * k)) back (one_more_small sum n (size - left) low small)

pub seven_small : (sum k : ℕ) → sum < 2 ^ (8 * k) → k < 8 → sum < 2 ^ 56
seven_small sum k low few = let up : 2 ^ (8 * k) ≤ 2 ^ 56 = pow-le-pow_right {n = 2} (omega arith) {i = 8 * k} {j = 56} (omega arith) in omega arith

-- ---- the bytes of a number

digits_small : (word : ℕ) (a n : ℕ) → All (λ d. d < 256) (map (digit word) (range_with_len a n))
digits_small word a zero = All-nil (λ d. d < 256)
digits_small word a (suc n) = All-cons (λ d. d < 256) (digit word a) (map (digit word) (range_with_len (a + 1) n)) (mod_below (word / 2 ^ (8 * a)) 256 (omega arith)) (digits_small word (a + 1) n)

-- the bytes from the a-th on are what is left of the number over them
digits_joined : (word a n : ℕ) → joined (map (digit word) (range_with_len a n)) ≡ word / 2 ^ (8 * a) % 2 ^ (8 * n)
unfolding joined
digits_joined word a zero = sym (mod-one (word / 2 ^ (8 * a)))
digits_joined word a (suc n) =
    let x : ℕ = word / 2 ^ (8 * a) in
    let rest = digits_joined word (a + 1) n in
    let up : 8 * (a + 1) ≡ 8 * a + 8 = omega arith in
    let power : 2 ^ (8 * (a + 1)) ≡ 2 ^ (8 * a) * 256 = ap (λ m. 2 ^ m) up ∙ pow-add 2 (8 * a) 8 in
    let over : word / 2 ^ (8 * (a + 1)) ≡ word / 2 ^ (8 * a) / 256 = ap (λ m. word / m) power ∙ sym (div-div-eq-div-mul word (2 ^ (8 * a)) 256) in
    let more : 8 * suc n ≡ 8 * n + 8 = omega arith in
    let width : 2 ^ (8 * suc n) ≡ 2 ^ (8 * n) * 256 = ap (λ m. 2 ^ m) more ∙ pow-add 2 (8 * n) 8 in
    let some : 0 < 2 ^ (8 * n) = pow_pos (8 * n) in
    let parts = mod-mul (word / 2 ^ (8 * a)) {m = 2 ^ (8 * n)} {c = 256} some (omega arith) in
    let low : joined (map (digit word) (range_with_len (a + 1) n)) ≡ word / 2 ^ (8 * a) / 256 % 2 ^ (8 * n) = rest ∙ ap (λ m. m % 2 ^ (8 * n)) over in
    rw (width, parts, low) (omega arith)

pub digits_are : (word n : ℕ) → AreNumbers (map (digit word) (range_with_len 0 n)) (map (λ k. byte.Number (digit word k)) (range_with_len 0 n))
digits_are word n = record { same = sym (map_map byte.Number (digit word) (range_with_len 0 n)); small = digits_small word 0 n }

pub word_joined : (word n : ℕ) → joined (map (digit word) (range_with_len 0 n)) ≡ word % 2 ^ (8 * n)
word_joined word n = digits_joined word 0 n ∙ ap (λ m. m % 2 ^ (8 * n)) (div-one word)
