-- A token begins one continuation at most, and one prefix operator at most.
use Rattle.std.proofs.Common.{◌≡◌, ℕ, List, [], ◌∷◌, ap, sym, ◌∙◌, refl, cond, codes, bytes_eq, ◌++◌, Option, Some, None, true≢false}
use Rattle.po_base.specs.declared.token.TokenKind.TheVariants as k
use Rattle.po_base.specs.declared.operators.Op.{Op}
use Rattle.po_base.specs.declared.operators.Op.TheVariants as op
use Rattle.po_tree.specs.declared.operator.Infix.{Infix}
use Rattle.po_tree.specs.declared.operator.Infix.TheVariants as i
use Rattle.po_tree.specs.declared.operator.Prefix.{Prefix}
use Rattle.po_tree.specs.declared.operator.Prefix.TheVariants as p
use Rattle.po_tree.specs.declared.operator.Postfix.TheVariants as q
use Rattle.po_tree.specs.declared.operator.Selector.TheVariants as s
use Rattle.po_exp_parts.specs.declared.continuation.Continuation.{Continuation}
use Rattle.po_exp_parts.specs.declared.continuation.Continuation.TheVariants as c
use Rattle.po_tree.specs.Signs.{Sign, string}
use Rattle.po_tree.specs.Operators.{IsWritten, op_text, infix_text, prefix_sign}
use Rattle.po_exp_parts.specs.Continuing.{opens, IsUsed}

-- the first value whose text this is
abbrev find_text : {A : Type 0} → List ℕ → List (List ℕ × A) → Option A
find_text text [] = None
find_text text (x ∷ xs) = cond (bytes_eq text x.0) (Some x.1) (find_text text xs)

abbrev continuations : List (List ℕ × Continuation)
continuations =
    (codes "+", c.Infix (i.Plain op.Add)) ∷ (codes "-", c.Infix (i.Plain op.Sub)) ∷ (codes "*", c.Infix (i.Plain op.Mul)) ∷
    (codes "/", c.Infix (i.Plain op.Div)) ∷ (codes "%", c.Infix (i.Plain op.Rem)) ∷ (codes "&", c.Infix (i.Plain op.And)) ∷
    (codes "|", c.Infix (i.Plain op.Or)) ∷ (codes "^", c.Infix (i.Plain op.Xor)) ∷ (codes "<<", c.Infix (i.Plain op.Shl)) ∷
    (codes ">>", c.Infix (i.Plain op.Shr)) ∷ (codes "==", c.Infix (i.Plain op.Eq)) ∷ (codes "!=", c.Infix (i.Plain op.Ne)) ∷
    (codes "<", c.Infix (i.Plain op.Lt)) ∷ (codes "<=", c.Infix (i.Plain op.Le)) ∷ (codes ">", c.Infix (i.Plain op.Gt)) ∷
    (codes ">=", c.Infix (i.Plain op.Ge)) ∷ (codes "&&", c.Infix i.And) ∷ (codes "||", c.Infix i.Or) ∷ (codes ",", c.Infix i.Comma) ∷
    (codes "=", c.Infix (i.Set None)) ∷ (codes "+=", c.Infix (i.Set (Some op.Add))) ∷ (codes "-=", c.Infix (i.Set (Some op.Sub))) ∷
    (codes "*=", c.Infix (i.Set (Some op.Mul))) ∷ (codes "/=", c.Infix (i.Set (Some op.Div))) ∷
    (codes "%=", c.Infix (i.Set (Some op.Rem))) ∷ (codes "&=", c.Infix (i.Set (Some op.And))) ∷
    (codes "|=", c.Infix (i.Set (Some op.Or))) ∷ (codes "^=", c.Infix (i.Set (Some op.Xor))) ∷
    (codes "<<=", c.Infix (i.Set (Some op.Shl))) ∷ (codes ">>=", c.Infix (i.Set (Some op.Shr))) ∷
    (codes "?", c.Question) ∷ (codes "[", c.Bracket) ∷ (codes "(", c.Parenthesis) ∷ (codes ".", c.Select s.Dot) ∷
    (codes "->", c.Select s.Arrow) ∷ (codes "++", c.Step q.Increment) ∷ (codes "--", c.Step q.Decrement) ∷ []

-- the continuation that has this text
abbrev pub continuation_of : List ℕ → Option Continuation
continuation_of text = find_text text continuations

plain_known : (o : Op) → continuation_of (op_text o) ≡ Some (c.Infix (i.Plain o))
plain_known op.Add = refl
plain_known op.Sub = refl
plain_known op.Mul = refl
plain_known op.Div = refl
plain_known op.Rem = refl
plain_known op.And = refl
plain_known op.Or = refl
plain_known op.Xor = refl
plain_known op.Shl = refl
plain_known op.Shr = refl
plain_known op.Eq = refl
plain_known op.Ne = refl
plain_known op.Lt = refl
plain_known op.Le = refl
plain_known op.Gt = refl
plain_known op.Ge = refl

set_known : (o : Op) → IsWritten (i.Set (Some o)) → continuation_of (op_text o ++ codes "=") ≡ Some (c.Infix (i.Set (Some o)))
set_known op.Add h = refl
set_known op.Sub h = refl
set_known op.Mul h = refl
set_known op.Div h = refl
set_known op.Rem h = refl
set_known op.And h = refl
set_known op.Or h = refl
set_known op.Xor h = refl
set_known op.Shl h = refl
set_known op.Shr h = refl
set_known op.Eq h = absurd (true≢false (sym h))
set_known op.Ne h = absurd (true≢false (sym h))
set_known op.Lt h = absurd (true≢false (sym h))
set_known op.Le h = absurd (true≢false (sym h))
set_known op.Gt h = absurd (true≢false (sym h))
set_known op.Ge h = absurd (true≢false (sym h))

infix_known : (o : Infix) → IsWritten o → continuation_of (infix_text o) ≡ Some (c.Infix o)
infix_known (i.Plain o) h = plain_known o
infix_known i.And h = refl
infix_known i.Or h = refl
infix_known (i.Set None) h = refl
infix_known (i.Set (Some o)) h = set_known o h
infix_known i.Comma h = refl

-- each continuation is that of its text
pub continuation_known : (c : Continuation) → IsUsed c → continuation_of (opens c).text ≡ Some c
continuation_known (c.Infix o) h = infix_known o h
continuation_known c.Question h = refl
continuation_known c.Bracket h = refl
continuation_known c.Parenthesis h = refl
continuation_known (c.Select s.Dot) h = refl
continuation_known (c.Select s.Arrow) h = refl
continuation_known (c.Step q.Increment) h = refl
continuation_known (c.Step q.Decrement) h = refl

-- a token begins one continuation at most
pub opens_same : {a b : Continuation} → IsUsed a → IsUsed b → opens a ≡ opens b → a ≡ b
opens_same {a = a} {b = b} h g w =
    let same : Some a ≡ Some b = sym (continuation_known a h) ∙ (ap (λ v. continuation_of v.text) w ∙ continuation_known b g) in
    cc

-- a token whose text is that of none begins none
pub opens_none : (a : Continuation) (sign : Sign) → IsUsed a → continuation_of sign.text ≡ None → opens a ≡ sign → ⊥
opens_none a sign h none w =
    let same : Some a ≡ None = sym (continuation_known a h) ∙ (ap (λ v. continuation_of v.text) w ∙ none) in
    cc

-- a continuation begins with a punctuator
pub opens_punct : (c : Continuation) → (opens c).kind ≡ k.Punct
opens_punct (c.Infix o) = refl
opens_punct c.Question = refl
opens_punct c.Bracket = refl
opens_punct c.Parenthesis = refl
opens_punct (c.Select s.Dot) = refl
opens_punct (c.Select s.Arrow) = refl
opens_punct (c.Step q.Increment) = refl
opens_punct (c.Step q.Decrement) = refl

-- and so with no string literal
pub opens_string : (c : Continuation) (text : List ℕ) → opens c ≡ string text → ⊥
opens_string c text w = let kinds : k.Punct ≡ k.Str = sym (opens_punct c) ∙ ap (λ v. v.kind) w in cc

-- the prefix operator that has this text
abbrev pub prefix_of : List ℕ → Option Prefix
prefix_of text = find_text text (
    (codes "++", p.Increment) ∷ (codes "--", p.Decrement) ∷ (codes "&", p.Address) ∷ (codes "*", p.Indirection) ∷
    (codes "+", p.Plus) ∷ (codes "-", p.Minus) ∷ (codes "~", p.Complement) ∷ (codes "!", p.Not) ∷ (codes "sizeof", p.Size) ∷ [])

-- each prefix operator is that of its text
pub prefix_known : (p : Prefix) → prefix_of (prefix_sign p).text ≡ Some p
prefix_known p.Increment = refl
prefix_known p.Decrement = refl
prefix_known p.Address = refl
prefix_known p.Indirection = refl
prefix_known p.Plus = refl
prefix_known p.Minus = refl
prefix_known p.Complement = refl
prefix_known p.Not = refl
prefix_known p.Size = refl

-- a token is one prefix operator at most
pub prefix_same : {a b : Prefix} → prefix_sign a ≡ prefix_sign b → a ≡ b
prefix_same {a = a} {b = b} w =
    let same : Some a ≡ Some b = sym (prefix_known a) ∙ (ap (λ v. prefix_of v.text) w ∙ prefix_known b) in
    cc

-- a token whose text is that of none is none
pub prefix_none : (a : Prefix) (sign : Sign) → prefix_of sign.text ≡ None → prefix_sign a ≡ sign → ⊥
prefix_none a sign none w =
    let same : Some a ≡ None = sym (prefix_known a) ∙ (ap (λ v. prefix_of v.text) w ∙ none) in
    cc
