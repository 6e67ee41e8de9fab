-- Specifiers that are words have one type at most: rows of the table that are each other's words in another order have one type.
use Rattle.std.proofs.Common.{◌≡◌, ℕ, List, ◌∷◌, refl, sym, ap, ◌∙◌, subst}
use Rattle.std.specs.Prelude.{cond, ◌==◌, codes, sum_by, nat_eq, Contains, All}
use Rattle.std.specs.Cmp.Lexicographic.{pointwise}
use Rattle.std.proofs.lemmas.List.Sorted.{sum_by-IsPermutation}
use Rattle.std.proofs.lemmas.List.Elements.{All-contains, All-from_recursion}
use Rattle.po_arith.specs.declared.target.Target.{Target}
use Rattle.po_tree.specs.declared.expression.Specifier.{Specifier, out-Specifier, out-roll-Specifier}
use Rattle.po_tree.specs.declared.expression.Specifier.TheVariants as sp
use Rattle.po_tree.specs.declared.expression.Exp.TheOpen.{Specifier-F}
use Rattle.po_tree.specs.Words.{type_words}
use Rattle.po_types.specs.declared.ctype.CType.{CType}
use Rattle.po_types.specs.declared.ctype.CType.TheVariants as c
use Rattle.po_types.specs.Integers.{signed_type, unsigned_type, bool_type, char_type, int_type, long_type, size_type}
use Rattle.po_typed.specs.BaseTypes.{TypeWords, no_more_words, word_of_type, other_word, word_types, IsWordType}

pub out_word : (text : List ℕ) → out-Specifier (sp.Word text) ≡ Specifier-F.Word text
out_word text = ap out-Specifier (sym (sp.rolls-Word text)) ∙ out-roll-Specifier (Specifier-F.Word text)

pub same_text : {x y : List ℕ} → sp.Word x ≡ sp.Word y → x ≡ y
same_text {x = x} {y = y} e = let r : Specifier-F.Word x ≡ Specifier-F.Word y = sym (out_word x) ∙ ap out-Specifier e ∙ out_word y in cc

pub words_are_one : {specs others : List Specifier} {xs ys : List (List ℕ)} → TypeWords specs xs → TypeWords others ys → specs ≡ others → xs ≡ ys
words_are_one no_more_words no_more_words e = refl
words_are_one no_more_words (word_of_type text specs words is f) e = absurd cc
words_are_one no_more_words (other_word text specs words is f) e = absurd cc
words_are_one (word_of_type text specs words is f) no_more_words e = absurd cc
words_are_one (other_word text specs words is f) no_more_words e = absurd cc
words_are_one (word_of_type text specs words is f) (word_of_type text' specs' words' is' g) e =
    let head : sp.Word text ≡ sp.Word text' = cc in
    let tail : specs ≡ specs' = cc in
    ap (λ z. z ∷ words) (same_text head) ∙ ap (λ z. text' ∷ z) (words_are_one f g tail)
words_are_one (word_of_type text specs words is f) (other_word text' specs' words' is' g) e =
    let head : sp.Word text ≡ sp.Word text' = cc in absurd (is' (subst (Contains type_words) (same_text head) is))
words_are_one (other_word text specs words is f) (word_of_type text' specs' words' is' g) e =
    let head : sp.Word text ≡ sp.Word text' = cc in absurd (is (subst (Contains type_words) (sym (same_text head)) is'))
words_are_one (other_word text specs words is f) (other_word text' specs' words' is' g) e =
    let tail : specs ≡ specs' = cc in words_are_one f g tail

-- a word's weight, so that the weights of a row's words together tell how many there are of each
abbrev weight : List ℕ → ℕ
weight word =
    cond (pointwise nat_eq word (codes "void")) 1 (cond (pointwise nat_eq word (codes "char")) 4
    (cond (pointwise nat_eq word (codes "short")) 16 (cond (pointwise nat_eq word (codes "int")) 64
    (cond (pointwise nat_eq word (codes "long")) 256 (cond (pointwise nat_eq word (codes "signed")) 1024
    (cond (pointwise nat_eq word (codes "unsigned")) 4096 16384))))))

abbrev type_of_weight : Target → ℕ → CType
type_of_weight target n =
    cond (n == 1) c.Void (cond (n == 4) (c.Int char_type) (cond (n == 1028) (c.Int char_type) (cond (n == 4100) (c.Int (unsigned_type 8))
    (cond (n == 16) (c.Int (signed_type 16)) (cond (n == 1040) (c.Int (signed_type 16)) (cond (n == 80) (c.Int (signed_type 16)) (cond (n == 1104) (c.Int (signed_type 16))
    (cond (n == 4112) (c.Int (unsigned_type 16)) (cond (n == 4176) (c.Int (unsigned_type 16))
    (cond (n == 64) (c.Int int_type) (cond (n == 1024) (c.Int int_type) (cond (n == 1088) (c.Int int_type)
    (cond (n == 4096) (c.Int (unsigned_type 32)) (cond (n == 4160) (c.Int (unsigned_type 32))
    (cond (n == 256) (c.Int (long_type target)) (cond (n == 1280) (c.Int (long_type target)) (cond (n == 320) (c.Int (long_type target)) (cond (n == 1344) (c.Int (long_type target))
    (cond (n == 4352) (c.Int (size_type target)) (cond (n == 4416) (c.Int (size_type target))
    (cond (n == 512) (c.Int (signed_type 64)) (cond (n == 1536) (c.Int (signed_type 64)) (cond (n == 576) (c.Int (signed_type 64)) (cond (n == 1600) (c.Int (signed_type 64))
    (cond (n == 4608) (c.Int (unsigned_type 64)) (cond (n == 4672) (c.Int (unsigned_type 64)) (c.Int bool_type)))))))))))))))))))))))))))

abbrev IsWeighed : Target → List (List ℕ) × CType → Type 0
IsWeighed target row = row.1 ≡ type_of_weight target (sum_by weight row.0)

weighed : (target : Target) → All (IsWeighed target) (word_types target)
weighed target =
    All-from_recursion (IsWeighed target) (word_types target)
    (refl, (refl, (refl, (refl, (refl, (refl, (refl, (refl, (refl, (refl, (refl, (refl, (refl, (refl, (refl, (refl, (refl, (refl, (refl, (refl, (refl, (refl, (refl, (refl, (refl, (refl, (refl, (refl, tt))))))))))))))))))))))))))))

pub word_type_is_one : {target : Target} {specs : List Specifier} {t u : CType} → IsWordType target specs t → IsWordType target specs u → t ≡ u
word_type_is_one {target = target} {t = t} {u = u} a b =
    let words : a.words ≡ b.words = words_are_one a.among b.among refl in
    let first : sum_by weight a.row ≡ sum_by weight a.words = sum_by-IsPermutation weight a.words a.row a.reordered in
    let second : sum_by weight b.row ≡ sum_by weight b.words = sum_by-IsPermutation weight b.words b.row b.reordered in
    let same : sum_by weight a.row ≡ sum_by weight b.row = first ∙ ap (sum_by weight) words ∙ sym second in
    let left : t ≡ type_of_weight target (sum_by weight a.row) = All-contains (IsWeighed target) (word_types target) (a.row, t) (weighed target) a.listed in
    let right : u ≡ type_of_weight target (sum_by weight b.row) = All-contains (IsWeighed target) (word_types target) (b.row, u) (weighed target) b.listed in
    left ∙ ap (type_of_weight target) same ∙ sym right
