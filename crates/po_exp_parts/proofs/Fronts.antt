-- The first sign of an expression tells how it begins.
use Rattle.std.proofs.Common.{◌≡◌, ℕ, ◌≤◌, List, [], ◌∷◌, ap, sym, refl, subst, arith, cond, codes, is_some, bytes_eq, inl, inr}
use Rattle.po_base.specs.declared.token.TokenKind.{TokenKind}
use Rattle.po_base.specs.declared.token.TokenKind.TheVariants as k
use Rattle.po_tree.specs.declared.operator.Prefix.{Prefix}
use Rattle.po_tree.specs.declared.operator.Prefix.TheVariants as p
use Rattle.po_tree.specs.declared.expression.Exp.{Exp}
use Rattle.po_tree.specs.declared.expression.TypeName.{TypeName}
use Rattle.po_tree.specs.Signs.{Sign, opening, closing, bracket_end}
use Rattle.po_tree.specs.Words.{keywords}
use Rattle.po_tree.specs.Operators.{prefix_sign}
use Rattle.po_tree.specs.Expressions.{IsLeaf, variable, integer, one_character}
use Rattle.po_exp_parts.specs.TypeWords.{StartsType, IsTypeStart}
use Rattle.po_exp_parts.specs.Reading.{Reads, begun, Operand, leaf, strings, paren, unary, size_of_type, cast, Items, last, further, TypeRead, type_read}
use Rattle.po_exp_parts.proofs.Signing.{prefix_of}
use Rattle.po_exp_parts.proofs.Keywords.{is_among, among_none, within, type_keyword_name, sizeof_type, sizeof_name}
use Rattle.po_exp_parts.proofs.TypeWordsSame.{specs_start}

-- what a sign begins: a name, a number, a character, strings, what `(` begins, what a prefix operator begins; 9 where nothing
abbrev pub class_of : TokenKind → List ℕ → ℕ
class_of k.Word text = cond (is_among (codes "sizeof" ∷ []) text) 5 0
class_of k.Number text = 1
class_of k.Char text = 2
class_of k.Str text = 3
class_of k.Punct text = cond (bytes_eq text (codes "(")) 4 (cond (is_some (prefix_of text)) 5 9)

-- what the first of these signs begins
abbrev pub class_first : List Sign → ℕ
class_first [] = 9
class_first (sign ∷ ts) = class_of sign.kind sign.text

-- the same of a leaf
abbrev pub class_leaf : {types : List (List ℕ)} {x : Exp} {sign : Sign} → IsLeaf types x sign → ℕ
class_leaf (variable name h g) = 0
class_leaf (integer text h) = 1
class_leaf (one_character text h) = 2

-- and of an operand
abbrev pub class_operand : {types : List (List ℕ)} {m : ℕ} {ts us : List Sign} {x : Exp} → Operand types ts m x us → ℕ
class_operand (leaf x sign ts w) = class_leaf w
class_operand (strings text texts ts us all w) = 3
class_operand (paren x ts us w) = 4
class_operand (cast t x ts us vs w v) = 4
class_operand (unary p x ts us w) = 5
class_operand (size_of_type t ts us w) = 5

-- the first sign of a leaf tells its kind
pub leaf_told : {types : List (List ℕ)} {x : Exp} {sign : Sign} → (w : IsLeaf types x sign) → class_of sign.kind sign.text ≡ class_leaf w
leaf_told (variable name h g) = rw (among_none (codes "sizeof" ∷ []) name (λ there. h (within (codes "sizeof" ∷ []) keywords name refl there))) refl
leaf_told (integer text h) = refl
leaf_told (one_character text h) = refl

pub prefix_told : (p : Prefix) → class_of (prefix_sign p).kind (prefix_sign p).text ≡ 5
prefix_told p.Increment = refl
prefix_told p.Decrement = refl
prefix_told p.Address = refl
prefix_told p.Indirection = refl
prefix_told p.Plus = refl
prefix_told p.Minus = refl
prefix_told p.Complement = refl
prefix_told p.Not = refl
prefix_told p.Size = refl

-- the first sign of an operand tells its kind
pub operand_told : {types : List (List ℕ)} {m : ℕ} {ts us : List Sign} {x : Exp} → (w : Operand types ts m x us) → class_first ts ≡ class_operand w
operand_told (leaf x sign ts w) = leaf_told w
operand_told (strings text texts ts us all w) = refl
operand_told (paren x ts us w) = refl
operand_told (cast t x ts us vs w v) = refl
operand_told (unary p x ts us w) = prefix_told p
operand_told (size_of_type t ts us w) = refl

-- a leaf is a name, a number or a character
pub leaf_most : {types : List (List ℕ)} {x : Exp} {sign : Sign} → (w : IsLeaf types x sign) → class_leaf w ≤ 2
leaf_most (variable name h g) = omega arith
leaf_most (integer text h) = omega arith
leaf_most (one_character text h) = omega arith

operand_most : {types : List (List ℕ)} {m : ℕ} {ts us : List Sign} {x : Exp} → (w : Operand types ts m x us) → class_operand w ≤ 5
operand_most (leaf x sign ts w) = omega (arith, leaf_most w)
operand_most (strings text texts ts us all w) = omega arith
operand_most (paren x ts us w) = omega arith
operand_most (cast t x ts us vs w v) = omega arith
operand_most (unary p x ts us w) = omega arith
operand_most (size_of_type t ts us w) = omega arith

reads_first : {types : List (List ℕ)} {l : ℕ} {ts us : List Sign} {x : Exp} → Reads types l ts x us → class_first ts ≤ 5
reads_first (begun l m x y ts us vs h w c) = omega (arith, operand_told w, operand_most w)

-- no expression begins with `)`
pub reads_no_closing : {types : List (List ℕ)} {l : ℕ} {ts us : List Sign} {x : Exp} (vs : List Sign) → ts ≡ closing ∷ vs → Reads types l ts x us → ⊥
reads_no_closing vs q w = omega (arith, reads_first w, ap class_first q)

-- nor with `]`
pub reads_no_bracket_end : {types : List (List ℕ)} {l : ℕ} {ts us : List Sign} {x : Exp} (vs : List Sign) → ts ≡ bracket_end ∷ vs → Reads types l ts x us → ⊥
reads_no_bracket_end vs q w = omega (arith, reads_first w, ap class_first q)

-- and so does no argument
pub items_no_closing : {types : List (List ℕ)} {ts us : List Sign} {xs : List Exp} (vs : List Sign) → ts ≡ closing ∷ vs → Items types ts xs us → ⊥
items_no_closing vs q (last x ts us w) = reads_no_closing vs q w
items_no_closing vs q (further x xs ts us ws w v) = reads_no_closing vs q w

leaf_no_type : {types : List (List ℕ)} {x : Exp} {sign : Sign} → IsLeaf types x sign → sign.kind ≡ k.Word → IsTypeStart types sign.text → ⊥
leaf_no_type (variable name h g) is (inl there) = type_keyword_name name there h
leaf_no_type (variable name h g) is (inr there) = g there.1
leaf_no_type (integer text h) is there = cc
leaf_no_type (one_character text h) is there = cc

sizeof_no_type : (types : List (List ℕ)) → IsTypeStart types (codes "sizeof") → ⊥
sizeof_no_type types (inl there) = sizeof_type there
sizeof_no_type types (inr there) = sizeof_name there.0

prefix_no_type : (types : List (List ℕ)) (p : Prefix) → (prefix_sign p).kind ≡ k.Word → IsTypeStart types (prefix_sign p).text → ⊥
prefix_no_type types p.Increment is there = cc
prefix_no_type types p.Decrement is there = cc
prefix_no_type types p.Address is there = cc
prefix_no_type types p.Indirection is there = cc
prefix_no_type types p.Plus is there = cc
prefix_no_type types p.Minus is there = cc
prefix_no_type types p.Complement is there = cc
prefix_no_type types p.Not is there = cc
prefix_no_type types p.Size is there = sizeof_no_type types there

operand_no_type : {types : List (List ℕ)} {m : ℕ} {ts us : List Sign} {x : Exp} → Operand types ts m x us → StartsType types ts → ⊥
operand_no_type (leaf x sign ts w) s = leaf_no_type w s.0 s.1
operand_no_type (strings text texts ts us all w) s = let kinds : k.Str ≡ k.Word = s.0 in cc
operand_no_type (paren x ts us w) s = let kinds : k.Punct ≡ k.Word = s.0 in cc
operand_no_type (cast t x ts us vs w v) s = let kinds : k.Punct ≡ k.Word = s.0 in cc
operand_no_type (unary p x ts us w) s = prefix_no_type _ p s.0 s.1
operand_no_type (size_of_type t ts us w) s = sizeof_no_type _ s.1

-- no expression begins as a type name does
pub reads_no_type : {types : List (List ℕ)} {l : ℕ} {ts us : List Sign} {x : Exp} → Reads types l ts x us → StartsType types ts → ⊥
reads_no_type (begun l m x y ts us vs h w c) s = operand_no_type w s

-- a type name begins as one
pub type_starts : {types : List (List ℕ)} {ts us : List Sign} {t : TypeName} → TypeRead types ts t us → StartsType types ts
type_starts (type_read spec specs stars suffix ts us vs ws w v u) = specs_start w

cast_only : {types : List (List ℕ)} {m : ℕ} {ts us : List Sign} {x : Exp} (vs : List Sign) → ts ≡ opening ∷ vs → StartsType types vs → Operand types ts m x us → m ≡ 13
cast_only vs q s (paren x ts us w) = let rests : ts ≡ vs = cc in absurd (reads_no_type w (subst (StartsType _) (sym rests) s))
cast_only vs q s (cast t x ts us ws w v) = refl
cast_only vs q s (leaf x sign ts w) = absurd (omega (arith, leaf_told w, leaf_most w, ap class_first q))
cast_only vs q s w = absurd (omega (arith, operand_told w, ap class_first q))

-- where a type name stands in parentheses, no unary expression begins with them
pub unary_no_type : {types : List (List ℕ)} {l : ℕ} {ts us : List Sign} {x : Exp} (vs : List Sign) → 14 ≤ l → ts ≡ opening ∷ vs → StartsType types vs → Reads types l ts x us → ⊥
unary_no_type vs high q s (begun l m x y ts us ws h w c) = omega (arith, cast_only vs q s w)
