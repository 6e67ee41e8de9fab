-- How an expression is read from the left: its first operand, and then one after the other what goes on with it.
use Rattle.std.specs.Prelude.{ℕ, ◌≤◌, ◌≡◌, List, [], ◌∷◌, ◌++◌, map, All, Option, Some, None}
use Rattle.po_tree.specs.declared.operator.Infix.{Infix}
use Rattle.po_tree.specs.declared.operator.Prefix.{Prefix}
use Rattle.po_tree.specs.declared.operator.Postfix.{Postfix}
use Rattle.po_tree.specs.declared.operator.Selector.{Selector}
use Rattle.po_tree.specs.declared.expression.Exp.{Exp}
use Rattle.po_tree.specs.declared.expression.Exp.TheVariants as e
use Rattle.po_tree.specs.declared.expression.TypeName.{TypeName}
use Rattle.po_tree.specs.declared.expression.Specifier.{Specifier}
use Rattle.po_tree.specs.declared.expression.Suffix.{Suffix}
use Rattle.po_tree.specs.declared.expression.Suffix.TheVariants as su
use Rattle.po_exp_parts.specs.declared.continuation.Continuation.{Continuation}
use Rattle.po_exp_parts.specs.declared.continuation.Continuation.TheVariants as c
use Rattle.po_exp_parts.specs.declared.found.Tail.{Tail}
use Rattle.po_exp_parts.specs.declared.found.Tail.TheVariants as t
use Rattle.po_tree.specs.Signs.{Sign, word, string, opening, closing, bracket, bracket_end, comma, colon, sizeof}
use Rattle.po_tree.specs.Words.{IsName}
use Rattle.po_tree.specs.Literals.{IsString}
use Rattle.po_tree.specs.Operators.{least_right, least_operand, prefix_sign, prefixed}
use Rattle.po_tree.specs.Expressions.{IsLeaf, untyped}
use Rattle.po_exp_parts.specs.Continuing.{opens, IsUsed, level_of, least_before, grow}
use Rattle.po_exp_parts.specs.Places.{Begins}
use Rattle.po_exp_parts.specs.Stars.{StarsRead}
use Rattle.po_exp_parts.specs.TypeWords.{SpecsRead}

mutual
  -- Reads types l ts x us: an expression x of level l or a higher one stands at the front of ts, and us are left
  pub data Reads (types : List (List ℕ)) : ℕ → List Sign → Exp → List Sign → Type 0 where
    begun : (l m : ℕ) (x y : Exp) (ts us vs : List Sign) → l ≤ m →
        Operand types ts m x us → Climbs types l m x us y vs → Reads types l ts y vs

  -- the first operand of an expression, with its level: what stands before all that goes on with it
  pub data Operand (types : List (List ℕ)) : List Sign → ℕ → Exp → List Sign → Type 0 where
    leaf : (x : Exp) (sign : Sign) (ts : List Sign) → IsLeaf types x sign → Operand types (sign ∷ ts) 15 x ts
    strings : (text : List ℕ) (texts : List (List ℕ)) (ts us : List Sign) → All IsString (text ∷ texts) → ts ≡ map string texts ++ us →
        Operand types (string text ∷ ts) 15 (e.Str (text ∷ texts)) us
    paren : (x : Exp) (ts us : List Sign) → Reads types 0 ts x (closing ∷ us) → Operand types (opening ∷ ts) 15 (e.Paren x) us
    unary : (p : Prefix) (x : Exp) (ts us : List Sign) → Reads types (least_operand p) ts x us →
        Operand types (prefix_sign p ∷ ts) 14 (prefixed p x) us
    size_of_type : (t : TypeName) (ts us : List Sign) → TypeRead types ts t (closing ∷ us) →
        Operand types (sizeof ∷ (opening ∷ ts)) 14 (e.SizeType t) us
    cast : (t : TypeName) (x : Exp) (ts us vs : List Sign) → TypeRead types ts t (closing ∷ us) → Reads types 13 us x vs →
        Operand types (opening ∷ ts) 13 (e.Cast t x) vs

  -- Climbs types l m x ts y us: x, which has level m, goes on in ts to y, always at level l or a higher one, and us are left
  pub data Climbs (types : List (List ℕ)) : ℕ → ℕ → Exp → List Sign → Exp → List Sign → Type 0 where
    stop : (l m : ℕ) (x : Exp) (ts : List Sign) → Climbs types l m x ts x ts
    more : (l m : ℕ) (c : Continuation) (t : Tail) (x y : Exp) (ts us vs : List Sign) → IsUsed c → l ≤ level_of c → least_before c ≤ m →
        Follows types c ts t us → Climbs types l (level_of c) (grow x t) us y vs → Climbs types l m x (opens c ∷ ts) y vs

  -- what stands behind the token that goes on
  pub data Follows (types : List (List ℕ)) : Continuation → List Sign → Tail → List Sign → Type 0 where
    joined : (o : Infix) (y : Exp) (ts us : List Sign) → Reads types (least_right o) ts y us → Follows types (c.Infix o) ts (t.Joined o y) us
    chosen : (y z : Exp) (ts us vs : List Sign) → Reads types 0 ts y (colon ∷ us) → Reads types 2 us z vs →
        Follows types c.Question ts (t.Chosen y z) vs
    indexed : (y : Exp) (ts us : List Sign) → Reads types 0 ts y (bracket_end ∷ us) → Follows types c.Bracket ts (t.Indexed y) us
    called : (xs : List Exp) (ts us : List Sign) → Arguments types ts xs us → Follows types c.Parenthesis ts (t.Called xs) us
    selected : (s : Selector) (name : List ℕ) (ts : List Sign) → IsName name → Follows types (c.Select s) (word name ∷ ts) (t.Selected s name) ts
    stepped : (q : Postfix) (ts : List Sign) → Follows types (c.Step q) ts (t.Stepped q) ts

  -- the arguments of a call, with the closing parenthesis
  pub data Arguments (types : List (List ℕ)) : List Sign → List Exp → List Sign → Type 0 where
    no_arguments : (ts : List Sign) → Arguments types (closing ∷ ts) [] ts
    arguments : (xs : List Exp) (ts us : List Sign) → Items types ts xs us → Arguments types ts xs us

  -- the same of one argument or more
  pub data Items (types : List (List ℕ)) : List Sign → List Exp → List Sign → Type 0 where
    last : (x : Exp) (ts us : List Sign) → Reads types 1 ts x (closing ∷ us) → Items types ts (x ∷ []) us
    further : (x : Exp) (xs : List Exp) (ts us vs : List Sign) → Reads types 1 ts x (comma ∷ us) → Items types us xs vs → Items types ts (x ∷ xs) vs

  -- a type name that no qualifier, no star and no bracket follows
  pub data TypeRead (types : List (List ℕ)) : List Sign → TypeName → List Sign → Type 0 where
    type_read : (spec : Specifier) (specs : List Specifier) (stars : List (List (List ℕ))) (suffix : Suffix) (ts us vs ws : List Sign) →
        SpecsRead types untyped ts (spec ∷ specs) us → StarsRead us stars vs → SuffixRead types vs suffix ws →
        TypeRead types ts (record { specs = spec ∷ specs; declarator = record { stars = stars; name = None; suffix = suffix } }) ws

  pub data SuffixRead (types : List (List ℕ)) : List Sign → Suffix → List Sign → Type 0 where
    plain : (ts : List Sign) → (Begins bracket ts → ⊥) → SuffixRead types ts su.Plain ts
    arrays : (size : Option Exp) (sizes : List (Option Exp)) (ts us : List Sign) → SizesRead types ts (size ∷ sizes) us →
        SuffixRead types ts (su.Arrays (size ∷ sizes)) us

  -- all sizes of arrays at the front
  pub data SizesRead (types : List (List ℕ)) : List Sign → List (Option Exp) → List Sign → Type 0 where
    sizes_end : (ts : List Sign) → (Begins bracket ts → ⊥) → SizesRead types ts [] ts
    no_size : (sizes : List (Option Exp)) (ts us : List Sign) → SizesRead types ts sizes us →
        SizesRead types (bracket ∷ (bracket_end ∷ ts)) (None ∷ sizes) us
    one_size : (x : Exp) (sizes : List (Option Exp)) (ts us vs : List Sign) → Reads types 2 ts x (bracket_end ∷ us) →
        SizesRead types us sizes vs → SizesRead types (bracket ∷ ts) (Some x ∷ sizes) vs
