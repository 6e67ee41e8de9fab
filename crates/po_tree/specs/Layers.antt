-- What each kind of tree prints and how high it is, by its parts.
use Rattle.std.specs.Prelude.{ℕ, suc, max, ◌≡◌, List, [], ◌∷◌, ◌++◌, map, flat_map, codes, Option, Some, None, false}
use Rattle.std.proofs.Common.{refl, ap, sym, ◌∙◌}
use Rattle.po_base.specs.declared.operators.Op.{Op}
use Rattle.po_tree.specs.declared.operator.Infix.{Infix}
use Rattle.po_tree.specs.declared.operator.Infix.TheVariants as i
use Rattle.po_tree.specs.declared.operator.Prefix.{Prefix}
use Rattle.po_tree.specs.declared.operator.Prefix.TheVariants as p
use Rattle.po_tree.specs.declared.operator.Postfix.{Postfix}
use Rattle.po_tree.specs.declared.operator.Postfix.TheVariants as q
use Rattle.po_tree.specs.declared.operator.Selector.{Selector}
use Rattle.po_tree.specs.declared.operator.Selector.TheVariants as s
use Rattle.po_tree.specs.declared.expression.Exp.{Exp, fold-roll-Exp}
use Rattle.po_tree.specs.declared.expression.Exp.TheVariants as e
use Rattle.po_tree.specs.declared.expression.Exp.TheOpen.{Exp-F, Specifier-F, Suffix-F}
use Rattle.po_tree.specs.declared.expression.Specifier.{Specifier, fold-roll-Specifier}
use Rattle.po_tree.specs.declared.expression.Specifier.TheVariants as sp
use Rattle.po_tree.specs.declared.expression.Suffix.{Suffix, fold-roll-Suffix}
use Rattle.po_tree.specs.declared.expression.Suffix.TheVariants as su
use Rattle.po_tree.specs.declared.expression.Declarator.{Declarator, fold-roll-Declarator}
use Rattle.po_tree.specs.declared.expression.TypeName.{TypeName, fold-roll-TypeName}
use Rattle.po_tree.specs.Signs.{Sign, word, number, character, string, sizeof, question, colon}
use Rattle.po_tree.specs.Operators.{infix_sign, prefix_sign, postfix_sign, selector_sign, joined, prefixed, postfixed, selected}
use Rattle.po_tree.specs.Expressions.{IsLeaf, variable, integer, one_character}
use Rattle.po_tree.specs.Printing.{flat, flat_specifier, flat_suffix, flat_declarator, flat_type, prints_exp, prints_specifier, prints_suffix, prints_declarator, prints_member, prints_param, prints_type, parenthesised, in_brackets, with_commas, optional, prints_star, in_a_row}
use Rattle.po_tree.specs.Heights.{height, specifier_height, suffix_height, declarator_height, type_height, rises_exp, rises_specifier, rises_suffix, rises_declarator, rises_member, rises_param, rises_type, greatest, or_none}

flat-Var : (name : List ℕ) → flat (e.Var name) ≡ word name ∷ []
unfolding flat
flat-Var name = ap flat (sym (e.rolls-Var name)) ∙ fold-roll-Exp _ _ _ _ _ _ _ prints_exp prints_specifier prints_suffix prints_declarator prints_member prints_param prints_type (Exp-F.Var name)

height-Var : (name : List ℕ) → height (e.Var name) ≡ 1
unfolding height
height-Var name = ap height (sym (e.rolls-Var name)) ∙ fold-roll-Exp _ _ _ _ _ _ _ rises_exp rises_specifier rises_suffix rises_declarator rises_member rises_param rises_type (Exp-F.Var name)

flat-Num : (text : List ℕ) → flat (e.Num text) ≡ number text ∷ []
unfolding flat
flat-Num text = ap flat (sym (e.rolls-Num text)) ∙ fold-roll-Exp _ _ _ _ _ _ _ prints_exp prints_specifier prints_suffix prints_declarator prints_member prints_param prints_type (Exp-F.Num text)

height-Num : (text : List ℕ) → height (e.Num text) ≡ 1
unfolding height
height-Num text = ap height (sym (e.rolls-Num text)) ∙ fold-roll-Exp _ _ _ _ _ _ _ rises_exp rises_specifier rises_suffix rises_declarator rises_member rises_param rises_type (Exp-F.Num text)

flat-Chr : (text : List ℕ) → flat (e.Chr text) ≡ character text ∷ []
unfolding flat
flat-Chr text = ap flat (sym (e.rolls-Chr text)) ∙ fold-roll-Exp _ _ _ _ _ _ _ prints_exp prints_specifier prints_suffix prints_declarator prints_member prints_param prints_type (Exp-F.Chr text)

height-Chr : (text : List ℕ) → height (e.Chr text) ≡ 1
unfolding height
height-Chr text = ap height (sym (e.rolls-Chr text)) ∙ fold-roll-Exp _ _ _ _ _ _ _ rises_exp rises_specifier rises_suffix rises_declarator rises_member rises_param rises_type (Exp-F.Chr text)

pub flat-Str : (texts : List (List ℕ)) → flat (e.Str texts) ≡ map string texts
unfolding flat
flat-Str texts = ap flat (sym (e.rolls-Str texts)) ∙ fold-roll-Exp _ _ _ _ _ _ _ prints_exp prints_specifier prints_suffix prints_declarator prints_member prints_param prints_type (Exp-F.Str texts)

pub height-Str : (texts : List (List ℕ)) → height (e.Str texts) ≡ 1
unfolding height
height-Str texts = ap height (sym (e.rolls-Str texts)) ∙ fold-roll-Exp _ _ _ _ _ _ _ rises_exp rises_specifier rises_suffix rises_declarator rises_member rises_param rises_type (Exp-F.Str texts)

pub flat-Paren : (x : Exp) → flat (e.Paren x) ≡ parenthesised (flat x)
unfolding flat
flat-Paren x = ap flat (sym (e.rolls-Paren x)) ∙ fold-roll-Exp _ _ _ _ _ _ _ prints_exp prints_specifier prints_suffix prints_declarator prints_member prints_param prints_type (Exp-F.Paren x)

pub height-Paren : (x : Exp) → height (e.Paren x) ≡ suc (height x)
unfolding height
height-Paren x = ap height (sym (e.rolls-Paren x)) ∙ fold-roll-Exp _ _ _ _ _ _ _ rises_exp rises_specifier rises_suffix rises_declarator rises_member rises_param rises_type (Exp-F.Paren x)

pub flat-Index : (x : Exp) (y : Exp) → flat (e.Index x y) ≡ flat x ++ in_brackets (flat y)
unfolding flat
flat-Index x y = ap flat (sym (e.rolls-Index x y)) ∙ fold-roll-Exp _ _ _ _ _ _ _ prints_exp prints_specifier prints_suffix prints_declarator prints_member prints_param prints_type (Exp-F.Index x y)

pub height-Index : (x : Exp) (y : Exp) → height (e.Index x y) ≡ suc (max (height x) (height y))
unfolding height
height-Index x y = ap height (sym (e.rolls-Index x y)) ∙ fold-roll-Exp _ _ _ _ _ _ _ rises_exp rises_specifier rises_suffix rises_declarator rises_member rises_param rises_type (Exp-F.Index x y)

pub flat-Call : (x : Exp) (xs : List Exp) → flat (e.Call x xs) ≡ flat x ++ parenthesised (with_commas (map flat xs))
unfolding flat
flat-Call x xs = ap flat (sym (e.rolls-Call x xs)) ∙ fold-roll-Exp _ _ _ _ _ _ _ prints_exp prints_specifier prints_suffix prints_declarator prints_member prints_param prints_type (Exp-F.Call x xs)

pub height-Call : (x : Exp) (xs : List Exp) → height (e.Call x xs) ≡ suc (max (height x) (greatest (map height xs)))
unfolding height
height-Call x xs = ap height (sym (e.rolls-Call x xs)) ∙ fold-roll-Exp _ _ _ _ _ _ _ rises_exp rises_specifier rises_suffix rises_declarator rises_member rises_param rises_type (Exp-F.Call x xs)

pub flat-SizeType : (t : TypeName) → flat (e.SizeType t) ≡ sizeof ∷ parenthesised (flat_type t)
unfolding flat flat_type
flat-SizeType t = ap flat (sym (e.rolls-SizeType t)) ∙ fold-roll-Exp _ _ _ _ _ _ _ prints_exp prints_specifier prints_suffix prints_declarator prints_member prints_param prints_type (Exp-F.SizeType t)

pub height-SizeType : (t : TypeName) → height (e.SizeType t) ≡ suc (type_height t)
unfolding height type_height
height-SizeType t = ap height (sym (e.rolls-SizeType t)) ∙ fold-roll-Exp _ _ _ _ _ _ _ rises_exp rises_specifier rises_suffix rises_declarator rises_member rises_param rises_type (Exp-F.SizeType t)

pub flat-Cast : (t : TypeName) (x : Exp) → flat (e.Cast t x) ≡ parenthesised (flat_type t) ++ flat x
unfolding flat flat_type
flat-Cast t x = ap flat (sym (e.rolls-Cast t x)) ∙ fold-roll-Exp _ _ _ _ _ _ _ prints_exp prints_specifier prints_suffix prints_declarator prints_member prints_param prints_type (Exp-F.Cast t x)

pub height-Cast : (t : TypeName) (x : Exp) → height (e.Cast t x) ≡ suc (max (type_height t) (height x))
unfolding height type_height
height-Cast t x = ap height (sym (e.rolls-Cast t x)) ∙ fold-roll-Exp _ _ _ _ _ _ _ rises_exp rises_specifier rises_suffix rises_declarator rises_member rises_param rises_type (Exp-F.Cast t x)

pub flat-Cond : (x : Exp) (y : Exp) (z : Exp) → flat (e.Cond x y z) ≡ flat x ++ (question ∷ (flat y ++ (colon ∷ flat z)))
unfolding flat
flat-Cond x y z = ap flat (sym (e.rolls-Cond x y z)) ∙ fold-roll-Exp _ _ _ _ _ _ _ prints_exp prints_specifier prints_suffix prints_declarator prints_member prints_param prints_type (Exp-F.Cond x y z)

pub height-Cond : (x : Exp) (y : Exp) (z : Exp) → height (e.Cond x y z) ≡ suc (max (height x) (max (height y) (height z)))
unfolding height
height-Cond x y z = ap height (sym (e.rolls-Cond x y z)) ∙ fold-roll-Exp _ _ _ _ _ _ _ rises_exp rises_specifier rises_suffix rises_declarator rises_member rises_param rises_type (Exp-F.Cond x y z)

flat-Dot : (x : Exp) (name : List ℕ) → flat (e.Dot x name) ≡ flat x ++ (selector_sign s.Dot ∷ word name ∷ [])
unfolding flat
flat-Dot x name = ap flat (sym (e.rolls-Dot x name)) ∙ fold-roll-Exp _ _ _ _ _ _ _ prints_exp prints_specifier prints_suffix prints_declarator prints_member prints_param prints_type (Exp-F.Dot x name)

height-Dot : (x : Exp) (name : List ℕ) → height (e.Dot x name) ≡ suc (height x)
unfolding height
height-Dot x name = ap height (sym (e.rolls-Dot x name)) ∙ fold-roll-Exp _ _ _ _ _ _ _ rises_exp rises_specifier rises_suffix rises_declarator rises_member rises_param rises_type (Exp-F.Dot x name)

flat-Arrow : (x : Exp) (name : List ℕ) → flat (e.Arrow x name) ≡ flat x ++ (selector_sign s.Arrow ∷ word name ∷ [])
unfolding flat
flat-Arrow x name = ap flat (sym (e.rolls-Arrow x name)) ∙ fold-roll-Exp _ _ _ _ _ _ _ prints_exp prints_specifier prints_suffix prints_declarator prints_member prints_param prints_type (Exp-F.Arrow x name)

height-Arrow : (x : Exp) (name : List ℕ) → height (e.Arrow x name) ≡ suc (height x)
unfolding height
height-Arrow x name = ap height (sym (e.rolls-Arrow x name)) ∙ fold-roll-Exp _ _ _ _ _ _ _ rises_exp rises_specifier rises_suffix rises_declarator rises_member rises_param rises_type (Exp-F.Arrow x name)

flat-PostInc : (x : Exp) → flat (e.PostInc x) ≡ flat x ++ (postfix_sign q.Increment ∷ [])
unfolding flat
flat-PostInc x = ap flat (sym (e.rolls-PostInc x)) ∙ fold-roll-Exp _ _ _ _ _ _ _ prints_exp prints_specifier prints_suffix prints_declarator prints_member prints_param prints_type (Exp-F.PostInc x)

height-PostInc : (x : Exp) → height (e.PostInc x) ≡ suc (height x)
unfolding height
height-PostInc x = ap height (sym (e.rolls-PostInc x)) ∙ fold-roll-Exp _ _ _ _ _ _ _ rises_exp rises_specifier rises_suffix rises_declarator rises_member rises_param rises_type (Exp-F.PostInc x)

flat-PostDec : (x : Exp) → flat (e.PostDec x) ≡ flat x ++ (postfix_sign q.Decrement ∷ [])
unfolding flat
flat-PostDec x = ap flat (sym (e.rolls-PostDec x)) ∙ fold-roll-Exp _ _ _ _ _ _ _ prints_exp prints_specifier prints_suffix prints_declarator prints_member prints_param prints_type (Exp-F.PostDec x)

height-PostDec : (x : Exp) → height (e.PostDec x) ≡ suc (height x)
unfolding height
height-PostDec x = ap height (sym (e.rolls-PostDec x)) ∙ fold-roll-Exp _ _ _ _ _ _ _ rises_exp rises_specifier rises_suffix rises_declarator rises_member rises_param rises_type (Exp-F.PostDec x)

flat-PreInc : (x : Exp) → flat (e.PreInc x) ≡ prefix_sign p.Increment ∷ flat x
unfolding flat
flat-PreInc x = ap flat (sym (e.rolls-PreInc x)) ∙ fold-roll-Exp _ _ _ _ _ _ _ prints_exp prints_specifier prints_suffix prints_declarator prints_member prints_param prints_type (Exp-F.PreInc x)

height-PreInc : (x : Exp) → height (e.PreInc x) ≡ suc (height x)
unfolding height
height-PreInc x = ap height (sym (e.rolls-PreInc x)) ∙ fold-roll-Exp _ _ _ _ _ _ _ rises_exp rises_specifier rises_suffix rises_declarator rises_member rises_param rises_type (Exp-F.PreInc x)

flat-PreDec : (x : Exp) → flat (e.PreDec x) ≡ prefix_sign p.Decrement ∷ flat x
unfolding flat
flat-PreDec x = ap flat (sym (e.rolls-PreDec x)) ∙ fold-roll-Exp _ _ _ _ _ _ _ prints_exp prints_specifier prints_suffix prints_declarator prints_member prints_param prints_type (Exp-F.PreDec x)

height-PreDec : (x : Exp) → height (e.PreDec x) ≡ suc (height x)
unfolding height
height-PreDec x = ap height (sym (e.rolls-PreDec x)) ∙ fold-roll-Exp _ _ _ _ _ _ _ rises_exp rises_specifier rises_suffix rises_declarator rises_member rises_param rises_type (Exp-F.PreDec x)

flat-Addr : (x : Exp) → flat (e.Addr x) ≡ prefix_sign p.Address ∷ flat x
unfolding flat
flat-Addr x = ap flat (sym (e.rolls-Addr x)) ∙ fold-roll-Exp _ _ _ _ _ _ _ prints_exp prints_specifier prints_suffix prints_declarator prints_member prints_param prints_type (Exp-F.Addr x)

height-Addr : (x : Exp) → height (e.Addr x) ≡ suc (height x)
unfolding height
height-Addr x = ap height (sym (e.rolls-Addr x)) ∙ fold-roll-Exp _ _ _ _ _ _ _ rises_exp rises_specifier rises_suffix rises_declarator rises_member rises_param rises_type (Exp-F.Addr x)

flat-Deref : (x : Exp) → flat (e.Deref x) ≡ prefix_sign p.Indirection ∷ flat x
unfolding flat
flat-Deref x = ap flat (sym (e.rolls-Deref x)) ∙ fold-roll-Exp _ _ _ _ _ _ _ prints_exp prints_specifier prints_suffix prints_declarator prints_member prints_param prints_type (Exp-F.Deref x)

height-Deref : (x : Exp) → height (e.Deref x) ≡ suc (height x)
unfolding height
height-Deref x = ap height (sym (e.rolls-Deref x)) ∙ fold-roll-Exp _ _ _ _ _ _ _ rises_exp rises_specifier rises_suffix rises_declarator rises_member rises_param rises_type (Exp-F.Deref x)

flat-Plus : (x : Exp) → flat (e.Plus x) ≡ prefix_sign p.Plus ∷ flat x
unfolding flat
flat-Plus x = ap flat (sym (e.rolls-Plus x)) ∙ fold-roll-Exp _ _ _ _ _ _ _ prints_exp prints_specifier prints_suffix prints_declarator prints_member prints_param prints_type (Exp-F.Plus x)

height-Plus : (x : Exp) → height (e.Plus x) ≡ suc (height x)
unfolding height
height-Plus x = ap height (sym (e.rolls-Plus x)) ∙ fold-roll-Exp _ _ _ _ _ _ _ rises_exp rises_specifier rises_suffix rises_declarator rises_member rises_param rises_type (Exp-F.Plus x)

flat-Minus : (x : Exp) → flat (e.Minus x) ≡ prefix_sign p.Minus ∷ flat x
unfolding flat
flat-Minus x = ap flat (sym (e.rolls-Minus x)) ∙ fold-roll-Exp _ _ _ _ _ _ _ prints_exp prints_specifier prints_suffix prints_declarator prints_member prints_param prints_type (Exp-F.Minus x)

height-Minus : (x : Exp) → height (e.Minus x) ≡ suc (height x)
unfolding height
height-Minus x = ap height (sym (e.rolls-Minus x)) ∙ fold-roll-Exp _ _ _ _ _ _ _ rises_exp rises_specifier rises_suffix rises_declarator rises_member rises_param rises_type (Exp-F.Minus x)

flat-Compl : (x : Exp) → flat (e.Compl x) ≡ prefix_sign p.Complement ∷ flat x
unfolding flat
flat-Compl x = ap flat (sym (e.rolls-Compl x)) ∙ fold-roll-Exp _ _ _ _ _ _ _ prints_exp prints_specifier prints_suffix prints_declarator prints_member prints_param prints_type (Exp-F.Compl x)

height-Compl : (x : Exp) → height (e.Compl x) ≡ suc (height x)
unfolding height
height-Compl x = ap height (sym (e.rolls-Compl x)) ∙ fold-roll-Exp _ _ _ _ _ _ _ rises_exp rises_specifier rises_suffix rises_declarator rises_member rises_param rises_type (Exp-F.Compl x)

flat-Not : (x : Exp) → flat (e.Not x) ≡ prefix_sign p.Not ∷ flat x
unfolding flat
flat-Not x = ap flat (sym (e.rolls-Not x)) ∙ fold-roll-Exp _ _ _ _ _ _ _ prints_exp prints_specifier prints_suffix prints_declarator prints_member prints_param prints_type (Exp-F.Not x)

height-Not : (x : Exp) → height (e.Not x) ≡ suc (height x)
unfolding height
height-Not x = ap height (sym (e.rolls-Not x)) ∙ fold-roll-Exp _ _ _ _ _ _ _ rises_exp rises_specifier rises_suffix rises_declarator rises_member rises_param rises_type (Exp-F.Not x)

flat-SizeExp : (x : Exp) → flat (e.SizeExp x) ≡ prefix_sign p.Size ∷ flat x
unfolding flat
flat-SizeExp x = ap flat (sym (e.rolls-SizeExp x)) ∙ fold-roll-Exp _ _ _ _ _ _ _ prints_exp prints_specifier prints_suffix prints_declarator prints_member prints_param prints_type (Exp-F.SizeExp x)

height-SizeExp : (x : Exp) → height (e.SizeExp x) ≡ suc (height x)
unfolding height
height-SizeExp x = ap height (sym (e.rolls-SizeExp x)) ∙ fold-roll-Exp _ _ _ _ _ _ _ rises_exp rises_specifier rises_suffix rises_declarator rises_member rises_param rises_type (Exp-F.SizeExp x)

flat-Binary : (o : Op) (x : Exp) (y : Exp) → flat (e.Binary o x y) ≡ flat x ++ (infix_sign (i.Plain o) ∷ flat y)
unfolding flat
flat-Binary o x y = ap flat (sym (e.rolls-Binary o x y)) ∙ fold-roll-Exp _ _ _ _ _ _ _ prints_exp prints_specifier prints_suffix prints_declarator prints_member prints_param prints_type (Exp-F.Binary o x y)

height-Binary : (o : Op) (x : Exp) (y : Exp) → height (e.Binary o x y) ≡ suc (max (height x) (height y))
unfolding height
height-Binary o x y = ap height (sym (e.rolls-Binary o x y)) ∙ fold-roll-Exp _ _ _ _ _ _ _ rises_exp rises_specifier rises_suffix rises_declarator rises_member rises_param rises_type (Exp-F.Binary o x y)

flat-LogAnd : (x : Exp) (y : Exp) → flat (e.LogAnd x y) ≡ flat x ++ (infix_sign i.And ∷ flat y)
unfolding flat
flat-LogAnd x y = ap flat (sym (e.rolls-LogAnd x y)) ∙ fold-roll-Exp _ _ _ _ _ _ _ prints_exp prints_specifier prints_suffix prints_declarator prints_member prints_param prints_type (Exp-F.LogAnd x y)

height-LogAnd : (x : Exp) (y : Exp) → height (e.LogAnd x y) ≡ suc (max (height x) (height y))
unfolding height
height-LogAnd x y = ap height (sym (e.rolls-LogAnd x y)) ∙ fold-roll-Exp _ _ _ _ _ _ _ rises_exp rises_specifier rises_suffix rises_declarator rises_member rises_param rises_type (Exp-F.LogAnd x y)

flat-LogOr : (x : Exp) (y : Exp) → flat (e.LogOr x y) ≡ flat x ++ (infix_sign i.Or ∷ flat y)
unfolding flat
flat-LogOr x y = ap flat (sym (e.rolls-LogOr x y)) ∙ fold-roll-Exp _ _ _ _ _ _ _ prints_exp prints_specifier prints_suffix prints_declarator prints_member prints_param prints_type (Exp-F.LogOr x y)

height-LogOr : (x : Exp) (y : Exp) → height (e.LogOr x y) ≡ suc (max (height x) (height y))
unfolding height
height-LogOr x y = ap height (sym (e.rolls-LogOr x y)) ∙ fold-roll-Exp _ _ _ _ _ _ _ rises_exp rises_specifier rises_suffix rises_declarator rises_member rises_param rises_type (Exp-F.LogOr x y)

flat-Assign : (o : Option Op) (x : Exp) (y : Exp) → flat (e.Assign o x y) ≡ flat x ++ (infix_sign (i.Set o) ∷ flat y)
unfolding flat
flat-Assign o x y = ap flat (sym (e.rolls-Assign o x y)) ∙ fold-roll-Exp _ _ _ _ _ _ _ prints_exp prints_specifier prints_suffix prints_declarator prints_member prints_param prints_type (Exp-F.Assign o x y)

height-Assign : (o : Option Op) (x : Exp) (y : Exp) → height (e.Assign o x y) ≡ suc (max (height x) (height y))
unfolding height
height-Assign o x y = ap height (sym (e.rolls-Assign o x y)) ∙ fold-roll-Exp _ _ _ _ _ _ _ rises_exp rises_specifier rises_suffix rises_declarator rises_member rises_param rises_type (Exp-F.Assign o x y)

flat-Comma : (x : Exp) (y : Exp) → flat (e.Comma x y) ≡ flat x ++ (infix_sign i.Comma ∷ flat y)
unfolding flat
flat-Comma x y = ap flat (sym (e.rolls-Comma x y)) ∙ fold-roll-Exp _ _ _ _ _ _ _ prints_exp prints_specifier prints_suffix prints_declarator prints_member prints_param prints_type (Exp-F.Comma x y)

height-Comma : (x : Exp) (y : Exp) → height (e.Comma x y) ≡ suc (max (height x) (height y))
unfolding height
height-Comma x y = ap height (sym (e.rolls-Comma x y)) ∙ fold-roll-Exp _ _ _ _ _ _ _ rises_exp rises_specifier rises_suffix rises_declarator rises_member rises_param rises_type (Exp-F.Comma x y)

-- the expressions of one token
pub flat-leaf : {types : List (List ℕ)} {x : Exp} {sign : Sign} → IsLeaf types x sign → flat x ≡ sign ∷ []
flat-leaf (variable name h g) = flat-Var name
flat-leaf (integer text h) = flat-Num text
flat-leaf (one_character text h) = flat-Chr text

pub height-leaf : {types : List (List ℕ)} {x : Exp} {sign : Sign} → IsLeaf types x sign → height x ≡ 1
height-leaf (variable name h g) = height-Var name
height-leaf (integer text h) = height-Num text
height-leaf (one_character text h) = height-Chr text

-- operators between two operands
pub flat-joined : (o : Infix) (x y : Exp) → flat (joined o x y) ≡ flat x ++ (infix_sign o ∷ flat y)
flat-joined (i.Plain o) x y = flat-Binary o x y
flat-joined i.And x y = flat-LogAnd x y
flat-joined i.Or x y = flat-LogOr x y
flat-joined (i.Set o) x y = flat-Assign o x y
flat-joined i.Comma x y = flat-Comma x y

pub height-joined : (o : Infix) (x y : Exp) → height (joined o x y) ≡ suc (max (height x) (height y))
height-joined (i.Plain o) x y = height-Binary o x y
height-joined i.And x y = height-LogAnd x y
height-joined i.Or x y = height-LogOr x y
height-joined (i.Set o) x y = height-Assign o x y
height-joined i.Comma x y = height-Comma x y

-- operators before their operand
pub flat-prefixed : (o : Prefix) (x : Exp) → flat (prefixed o x) ≡ prefix_sign o ∷ flat x
flat-prefixed p.Increment x = flat-PreInc x
flat-prefixed p.Decrement x = flat-PreDec x
flat-prefixed p.Address x = flat-Addr x
flat-prefixed p.Indirection x = flat-Deref x
flat-prefixed p.Plus x = flat-Plus x
flat-prefixed p.Minus x = flat-Minus x
flat-prefixed p.Complement x = flat-Compl x
flat-prefixed p.Not x = flat-Not x
flat-prefixed p.Size x = flat-SizeExp x

pub height-prefixed : (o : Prefix) (x : Exp) → height (prefixed o x) ≡ suc (height x)
height-prefixed p.Increment x = height-PreInc x
height-prefixed p.Decrement x = height-PreDec x
height-prefixed p.Address x = height-Addr x
height-prefixed p.Indirection x = height-Deref x
height-prefixed p.Plus x = height-Plus x
height-prefixed p.Minus x = height-Minus x
height-prefixed p.Complement x = height-Compl x
height-prefixed p.Not x = height-Not x
height-prefixed p.Size x = height-SizeExp x

-- operators behind their operand
pub flat-postfixed : (o : Postfix) (x : Exp) → flat (postfixed o x) ≡ flat x ++ (postfix_sign o ∷ [])
flat-postfixed q.Increment x = flat-PostInc x
flat-postfixed q.Decrement x = flat-PostDec x

pub height-postfixed : (o : Postfix) (x : Exp) → height (postfixed o x) ≡ suc (height x)
height-postfixed q.Increment x = height-PostInc x
height-postfixed q.Decrement x = height-PostDec x

pub flat-selected : (o : Selector) (x : Exp) (name : List ℕ) → flat (selected o x name) ≡ flat x ++ (selector_sign o ∷ word name ∷ [])
flat-selected s.Dot x name = flat-Dot x name
flat-selected s.Arrow x name = flat-Arrow x name

pub height-selected : (o : Selector) (x : Exp) (name : List ℕ) → height (selected o x name) ≡ suc (height x)
height-selected s.Dot x name = height-Dot x name
height-selected s.Arrow x name = height-Arrow x name

-- the sizes of arrays
printed_sizes : (f : Exp → List Sign) (g : Option Exp → Option (List Sign)) → g None ≡ None → ((x : Exp) → g (Some x) ≡ Some (f x)) → (sizes : List (Option Exp)) →
    flat_map (λ size. in_brackets (optional (λ x. x) size)) (map g sizes) ≡ flat_map (λ size. in_brackets (optional f size)) sizes
printed_sizes f g q r [] = refl
printed_sizes f g q r (None ∷ sizes) = rw (q, printed_sizes f g q r sizes) refl
printed_sizes f g q r (Some x ∷ sizes) = rw (r x, printed_sizes f g q r sizes) refl

high_sizes : (f : Exp → ℕ) (g : Option Exp → Option ℕ) → g None ≡ None → ((x : Exp) → g (Some x) ≡ Some (f x)) → (sizes : List (Option Exp)) →
    greatest (map (or_none (λ n. n)) (map g sizes)) ≡ greatest (map (or_none f) sizes)
high_sizes f g q r [] = refl
high_sizes f g q r (None ∷ sizes) = rw (q, high_sizes f g q r sizes) refl
high_sizes f g q r (Some x ∷ sizes) = rw (r x, high_sizes f g q r sizes) refl

-- type names

pub flat_specifier-Word : (text : List ℕ) → flat_specifier (sp.Word text) ≡ word text ∷ []
unfolding flat_specifier
flat_specifier-Word text = ap flat_specifier (sym (sp.rolls-Word text)) ∙ fold-roll-Specifier _ _ _ _ _ _ _ prints_exp prints_specifier prints_suffix prints_declarator prints_member prints_param prints_type (Specifier-F.Word text)

pub specifier_height-Word : (text : List ℕ) → specifier_height (sp.Word text) ≡ 0
unfolding specifier_height
specifier_height-Word text = ap specifier_height (sym (sp.rolls-Word text)) ∙ fold-roll-Specifier _ _ _ _ _ _ _ rises_exp rises_specifier rises_suffix rises_declarator rises_member rises_param rises_type (Specifier-F.Word text)

pub flat_specifier-Named : (name : List ℕ) → flat_specifier (sp.Named name) ≡ word name ∷ []
unfolding flat_specifier
flat_specifier-Named name = ap flat_specifier (sym (sp.rolls-Named name)) ∙ fold-roll-Specifier _ _ _ _ _ _ _ prints_exp prints_specifier prints_suffix prints_declarator prints_member prints_param prints_type (Specifier-F.Named name)

pub specifier_height-Named : (name : List ℕ) → specifier_height (sp.Named name) ≡ 0
unfolding specifier_height
specifier_height-Named name = ap specifier_height (sym (sp.rolls-Named name)) ∙ fold-roll-Specifier _ _ _ _ _ _ _ rises_exp rises_specifier rises_suffix rises_declarator rises_member rises_param rises_type (Specifier-F.Named name)

pub flat_suffix-Plain : flat_suffix su.Plain ≡ []
unfolding flat_suffix
flat_suffix-Plain = ap flat_suffix (sym su.rolls-Plain) ∙ fold-roll-Suffix _ _ _ _ _ _ _ prints_exp prints_specifier prints_suffix prints_declarator prints_member prints_param prints_type Suffix-F.Plain

pub suffix_height-Plain : suffix_height su.Plain ≡ 0
unfolding suffix_height
suffix_height-Plain = ap suffix_height (sym su.rolls-Plain) ∙ fold-roll-Suffix _ _ _ _ _ _ _ rises_exp rises_specifier rises_suffix rises_declarator rises_member rises_param rises_type Suffix-F.Plain

pub flat_suffix-Arrays : (sizes : List (Option Exp)) → flat_suffix (su.Arrays sizes) ≡ flat_map (λ size. in_brackets (optional flat size)) sizes
unfolding flat_suffix flat
flat_suffix-Arrays sizes = ap flat_suffix (sym (su.rolls-Arrays sizes)) ∙ fold-roll-Suffix _ _ _ _ _ _ _ prints_exp prints_specifier prints_suffix prints_declarator prints_member prints_param prints_type (Suffix-F.Arrays sizes) ∙ printed_sizes flat _ refl (λ x. refl) sizes

pub suffix_height-Arrays : (sizes : List (Option Exp)) → suffix_height (su.Arrays sizes) ≡ greatest (map (or_none height) sizes)
unfolding suffix_height height
suffix_height-Arrays sizes = ap suffix_height (sym (su.rolls-Arrays sizes)) ∙ fold-roll-Suffix _ _ _ _ _ _ _ rises_exp rises_specifier rises_suffix rises_declarator rises_member rises_param rises_type (Suffix-F.Arrays sizes) ∙ high_sizes height _ refl (λ x. refl) sizes

pub flat_specifier-struct : (tag : List ℕ) → flat_specifier (sp.Struct (Some tag) None) ≡ word (codes "struct") ∷ (word tag ∷ [])
unfolding flat_specifier
flat_specifier-struct tag = ap flat_specifier (sym (sp.rolls-Struct (Some tag) None)) ∙ fold-roll-Specifier _ _ _ _ _ _ _ prints_exp prints_specifier prints_suffix prints_declarator prints_member prints_param prints_type (Specifier-F.Struct (Some tag) None)

pub specifier_height-struct : (tag : List ℕ) → specifier_height (sp.Struct (Some tag) None) ≡ 0
unfolding specifier_height
specifier_height-struct tag = ap specifier_height (sym (sp.rolls-Struct (Some tag) None)) ∙ fold-roll-Specifier _ _ _ _ _ _ _ rises_exp rises_specifier rises_suffix rises_declarator rises_member rises_param rises_type (Specifier-F.Struct (Some tag) None)

pub flat_specifier-enum : (tag : List ℕ) → flat_specifier (sp.Enum (Some tag) None false) ≡ word (codes "enum") ∷ (word tag ∷ [])
unfolding flat_specifier
flat_specifier-enum tag = ap flat_specifier (sym (sp.rolls-Enum (Some tag) None false)) ∙ fold-roll-Specifier _ _ _ _ _ _ _ prints_exp prints_specifier prints_suffix prints_declarator prints_member prints_param prints_type (Specifier-F.Enum (Some tag) None false)

pub specifier_height-enum : (tag : List ℕ) → specifier_height (sp.Enum (Some tag) None false) ≡ 0
unfolding specifier_height
specifier_height-enum tag = ap specifier_height (sym (sp.rolls-Enum (Some tag) None false)) ∙ fold-roll-Specifier _ _ _ _ _ _ _ rises_exp rises_specifier rises_suffix rises_declarator rises_member rises_param rises_type (Specifier-F.Enum (Some tag) None false)

in_a_row-map : {A : Type 0} (f : A → List Sign) (xs : List A) → in_a_row (map f xs) ≡ flat_map f xs
in_a_row-map f [] = refl
in_a_row-map f (x ∷ xs) = ap (λ v. f x ++ v) (in_a_row-map f xs)

pub flat_declarator-parts : (stars : List (List (List ℕ))) (suffix : Suffix) →
    flat_declarator (record { stars = stars; name = None; suffix = suffix }) ≡ flat_map prints_star stars ++ flat_suffix suffix
unfolding flat_declarator flat_suffix
flat_declarator-parts stars suffix = fold-roll-Declarator _ _ _ _ _ _ _ prints_exp prints_specifier prints_suffix prints_declarator prints_member prints_param prints_type (record { stars = stars; name = None; suffix = suffix })

pub declarator_height-parts : (stars : List (List (List ℕ))) (suffix : Suffix) →
    declarator_height (record { stars = stars; name = None; suffix = suffix }) ≡ suffix_height suffix
unfolding declarator_height suffix_height
declarator_height-parts stars suffix = fold-roll-Declarator _ _ _ _ _ _ _ rises_exp rises_specifier rises_suffix rises_declarator rises_member rises_param rises_type (record { stars = stars; name = None; suffix = suffix })

flat_type-layer : (specs : List Specifier) (d : Declarator) → flat_type (record { specs = specs; declarator = d }) ≡ in_a_row (map flat_specifier specs) ++ flat_declarator d
unfolding flat_type flat_specifier flat_declarator
flat_type-layer specs d = fold-roll-TypeName _ _ _ _ _ _ _ prints_exp prints_specifier prints_suffix prints_declarator prints_member prints_param prints_type (record { specs = specs; declarator = d })

type_height-layer : (specs : List Specifier) (d : Declarator) → type_height (record { specs = specs; declarator = d }) ≡ max (greatest (map specifier_height specs)) (declarator_height d)
unfolding type_height specifier_height declarator_height
type_height-layer specs d = fold-roll-TypeName _ _ _ _ _ _ _ rises_exp rises_specifier rises_suffix rises_declarator rises_member rises_param rises_type (record { specs = specs; declarator = d })

pub flat_type-parts : (specs : List Specifier) (stars : List (List (List ℕ))) (suffix : Suffix) →
    flat_type (record { specs = specs; declarator = record { stars = stars; name = None; suffix = suffix } }) ≡ flat_map flat_specifier specs ++ (flat_map prints_star stars ++ flat_suffix suffix)
flat_type-parts specs stars suffix =
    flat_type-layer specs _ ∙ rw (in_a_row-map flat_specifier specs, flat_declarator-parts stars suffix) refl

pub type_height-parts : (specs : List Specifier) (stars : List (List (List ℕ))) (suffix : Suffix) →
    type_height (record { specs = specs; declarator = record { stars = stars; name = None; suffix = suffix } }) ≡ max (greatest (map specifier_height specs)) (suffix_height suffix)
type_height-parts specs stars suffix = type_height-layer specs _ ∙ rw (declarator_height-parts stars suffix) refl
