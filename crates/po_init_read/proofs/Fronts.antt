-- No expression begins with a brace.
use Rattle.std.proofs.Common.{◌≡◌, ℕ, List, [], ◌∷◌, ◌++◌, get_or, ap, sym, ◌∙◌, refl, cond, true, false, true≢false}
use Rattle.std.specs.Prelude.{Bool, nat_eq}
use Rattle.po_base.specs.declared.token.TokenKind.{TokenKind}
use Rattle.po_base.specs.declared.token.TokenKind.TheVariants as k
use Rattle.po_tree.specs.declared.operator.Prefix.{Prefix}
use Rattle.po_tree.specs.declared.operator.Prefix.TheVariants as p
use Rattle.po_tree.specs.declared.expression.Exp.{Exp}
use Rattle.po_tree.specs.Signs.{Sign}
use Rattle.po_tree.specs.Operators.{prefix_sign}
use Rattle.po_tree.specs.Printing.{flat}
use Rattle.po_tree.specs.Layers.{flat-leaf, flat-Str, flat-Paren, flat-Index, flat-Call, flat-Cond, flat-Cast, flat-SizeType, flat-joined, flat-prefixed, flat-postfixed, flat-selected}
use Rattle.po_tree.specs.Expressions.{IsLeaf, variable, integer, one_character, Formed, leaf, strings, paren, index, call, member, stepped, unary, size_of_type, cast, binary, conditional}
use Rattle.po_exp_read.specs.Longest.{StandsAt}

-- whether a sign is no brace, by its first byte
abbrev pub is_other : TokenKind → List ℕ → Bool
is_other k.Punct text = cond (nat_eq (get_or text 0 0) 123) false (cond (nat_eq (get_or text 0 0) 125) false true)
is_other _ text = true

-- signs begin with a sign that is no brace
abbrev pub is_front : List Sign → Bool
is_front [] = false
is_front (sign ∷ ts) = is_other sign.kind sign.text

front_append : (xs ys : List Sign) → is_front xs ≡ true → is_front (xs ++ ys) ≡ true
front_append [] ys h = absurd (true≢false (sym h))
front_append (x ∷ xs) ys h = h

leaf_front : {types : List (List ℕ)} {x : Exp} {sign : Sign} → IsLeaf types x sign → is_front (sign ∷ []) ≡ true
leaf_front (variable name h g) = refl
leaf_front (integer text h) = refl
leaf_front (one_character text h) = refl

prefix_front : (p : Prefix) (ts : List Sign) → is_front (prefix_sign p ∷ ts) ≡ true
prefix_front p.Increment ts = refl
prefix_front p.Decrement ts = refl
prefix_front p.Address ts = refl
prefix_front p.Indirection ts = refl
prefix_front p.Plus ts = refl
prefix_front p.Minus ts = refl
prefix_front p.Complement ts = refl
prefix_front p.Not ts = refl
prefix_front p.Size ts = refl

formed_front : {types : List (List ℕ)} {m : ℕ} {x : Exp} → Formed types m x → is_front (flat x) ≡ true
formed_front (leaf x sign w) = ap is_front (flat-leaf w) ∙ leaf_front w
formed_front (strings text texts all) = ap is_front (flat-Str (text ∷ texts))
formed_front (paren m x w) = ap is_front (flat-Paren x)
formed_front (index m x y w v) = ap is_front (flat-Index x y) ∙ front_append (flat x) _ (formed_front w)
formed_front (call x xs w v) = ap is_front (flat-Call x xs) ∙ front_append (flat x) _ (formed_front w)
formed_front (member s x name is w) = ap is_front (flat-selected s x name) ∙ front_append (flat x) _ (formed_front w)
formed_front (stepped q x w) = ap is_front (flat-postfixed q x) ∙ front_append (flat x) _ (formed_front w)
formed_front (unary o m x low w) = ap is_front (flat-prefixed o x) ∙ prefix_front o (flat x)
formed_front (size_of_type t w) = ap is_front (flat-SizeType t)
formed_front (cast m t x low v w) = ap is_front (flat-Cast t x)
formed_front (binary o m n x y is low low' w v) = ap is_front (flat-joined o x y) ∙ front_append (flat x) _ (formed_front w)
formed_front (conditional m n l x y z low low' w v u) = ap is_front (flat-Cond x y z) ∙ front_append (flat x) _ (formed_front w)

-- no expression begins with a brace
pub no_expression : {types : List (List ℕ)} {least : ℕ} {ts us : List Sign} {x : Exp} → is_front ts ≡ false → StandsAt least types ts x us → ⊥
no_expression {us = us} {x = x} none at =
    true≢false (sym (ap is_front at.stands.printed ∙ front_append (flat x) us (formed_front at.stands.formed.formed)) ∙ none)
