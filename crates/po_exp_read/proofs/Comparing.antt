-- Two readings of the same signs are compared: where the shorter one ends nothing can go on with it.
use Rattle.std.proofs.Common.{◌≡◌, ℕ, ◌<◌, ◌≤◌, List, ◌∷◌, length, ap, sym, refl, subst, arith, None}
use Rattle.po_base.specs.declared.token.TokenKind.TheVariants as k
use Rattle.po_base.specs.declared.operators.Op.{Op}
use Rattle.po_base.specs.declared.operators.Op.TheVariants as op
use Rattle.po_tree.specs.declared.operator.Infix.{Infix}
use Rattle.po_tree.specs.declared.operator.Infix.TheVariants as i
use Rattle.po_tree.specs.declared.expression.Exp.{Exp}
use Rattle.po_exp_parts.specs.declared.continuation.Continuation.{Continuation}
use Rattle.po_exp_parts.specs.declared.continuation.Continuation.TheVariants as c
use Rattle.po_tree.specs.Signs.{Sign, punct, string, closing, bracket_end, comma, colon}
use Rattle.po_tree.specs.Operators.{op_level, level, least_right}
use Rattle.po_exp_parts.specs.Continuing.{opens, IsUsed, level_of, least_before, GoesOn, by_continuation, by_string}
use Rattle.po_exp_parts.specs.Reading.{Climbs, stop, more}
use Rattle.po_exp_parts.proofs.Signing.{continuation_of, opens_same, opens_none, opens_string}

-- something stands here that could lengthen an expression of this level, but what has this level can't go on with it
pub record Halts (m : ℕ) (ts : List Sign) : Type 0 where
  pub goes : GoesOn m ts
  pub stuck : (c : Continuation) (us : List Sign) → IsUsed c → ts ≡ opens c ∷ us → least_before c ≤ m → ⊥

-- x, behind which us are left, and y, behind which vs are left: the same, or the shorter one ends where this holds of it
pub data Compared {A : Type 0} (Ends : A → List Sign → Type 0) (x : A) (us : List Sign) (y : A) (vs : List Sign) : Type 0 where
  same : x ≡ y → us ≡ vs → Compared Ends x us y vs
  longer : length us < length vs → Ends y vs → Compared Ends x us y vs
  shorter : length vs < length us → Ends x us → Compared Ends x us y vs

-- what goes on at the front of signs
continuation_goes : (m : ℕ) (c : Continuation) (us ts : List Sign) → ts ≡ opens c ∷ us → IsUsed c → GoesOn m ts → m ≤ level_of c
continuation_goes m c us ts w u (by_continuation d vs v h) = subst (λ (b : Continuation). m ≤ level_of b) (opens_same v u cc) h
continuation_goes m c us ts w u (by_string text vs) = absurd (opens_string c text cc)

halts_goes : (l m : ℕ) (ts : List Sign) → ((c : Continuation) → IsUsed c → l ≤ level_of c → (m ≤ level_of c) × (m < least_before c)) → GoesOn l ts → GoesOn m ts
halts_goes l m ts h (by_continuation c us u low) = by_continuation c us u (h c u low).0
halts_goes l m ts h (by_string text us) = by_string text us

-- what goes on at one level halts at another, where it can't go on with what has that level
pub halts : (l m : ℕ) (ts : List Sign) → ((c : Continuation) → IsUsed c → l ≤ level_of c → (m ≤ level_of c) × (m < least_before c)) → GoesOn l ts → Halts m ts
halts l m ts h g = record {
  goes = halts_goes l m ts h g;
  stuck = λ c us u w low. let p = h c u (continuation_goes l c us ts w u g) in omega (arith, p.1);
}

-- what halts lengthens nothing
pub halts_stop : {types : List (List ℕ)} {l m : ℕ} {x y : Exp} {ts us : List Sign} → Halts m ts → Climbs types l m x ts y us → (y ≡ x) × (us ≡ ts)
halts_stop h (stop l m x ts) = (refl, refl)
halts_stop h (more l m c t x y ts us vs u low high w k) = absurd (h.stuck c ts u refl high)

-- the same at lower levels
pub goes_on-lower : (l m : ℕ) (ts : List Sign) → l ≤ m → GoesOn m ts → GoesOn l ts
goes_on-lower l m ts h (by_continuation c us u g) = by_continuation c us u (omega arith)
goes_on-lower l m ts h (by_string text us) = by_string text us

-- nothing goes on at a token that begins no continuation and is no string literal
pub goes_on-none : (l : ℕ) (sign : Sign) (us ts : List Sign) → continuation_of sign.text ≡ None →
    ((text : List ℕ) → sign ≡ string text → ⊥) → ts ≡ sign ∷ us → GoesOn l ts → ⊥
goes_on-none l sign us ts none other w (by_continuation c vs u h) = opens_none c sign u none cc
goes_on-none l sign us ts none other w (by_string text vs) = other text cc

pub punct_string : (text other : List ℕ) → punct text ≡ string other → ⊥
punct_string text other w = let kinds : k.Punct ≡ k.Str = ap (λ v. v.kind) w in cc

-- nothing goes on at `)`
pub goes_on-closing : (l : ℕ) (ts : List Sign) → GoesOn l (closing ∷ ts) → ⊥
goes_on-closing l ts g = goes_on-none l closing ts (closing ∷ ts) refl (punct_string _) refl g

-- nor at `]`
pub goes_on-bracket_end : (l : ℕ) (ts : List Sign) → GoesOn l (bracket_end ∷ ts) → ⊥
goes_on-bracket_end l ts g = goes_on-none l bracket_end ts (bracket_end ∷ ts) refl (punct_string _) refl g

-- nor at `:`
pub goes_on-colon : (l : ℕ) (ts : List Sign) → GoesOn l (colon ∷ ts) → ⊥
goes_on-colon l ts g = goes_on-none l colon ts (colon ∷ ts) refl (punct_string _) refl g

-- at a comma nothing goes on but an expression of commas
pub goes_on-comma : (l : ℕ) (ts : List Sign) → 1 ≤ l → GoesOn l (comma ∷ ts) → ⊥
goes_on-comma l ts h g = let low = continuation_goes l (c.Infix i.Comma) ts (comma ∷ ts) refl tt g in omega arith

op_levels : (o : Op) → (5 ≤ op_level o) × (op_level o ≤ 12)
op_levels op.Add = (omega arith, omega arith)
op_levels op.Sub = (omega arith, omega arith)
op_levels op.Mul = (omega arith, omega arith)
op_levels op.Div = (omega arith, omega arith)
op_levels op.Rem = (omega arith, omega arith)
op_levels op.And = (omega arith, omega arith)
op_levels op.Or = (omega arith, omega arith)
op_levels op.Xor = (omega arith, omega arith)
op_levels op.Shl = (omega arith, omega arith)
op_levels op.Shr = (omega arith, omega arith)
op_levels op.Eq = (omega arith, omega arith)
op_levels op.Ne = (omega arith, omega arith)
op_levels op.Lt = (omega arith, omega arith)
op_levels op.Le = (omega arith, omega arith)
op_levels op.Gt = (omega arith, omega arith)
op_levels op.Ge = (omega arith, omega arith)

-- what goes on makes an expression of no higher level than it asks of the one before it
least_above : (c : Continuation) → level_of c ≤ least_before c
least_above (c.Infix (i.Plain o)) = omega arith
least_above (c.Infix i.And) = omega arith
least_above (c.Infix i.Or) = omega arith
least_above (c.Infix (i.Set o)) = omega arith
least_above (c.Infix i.Comma) = omega arith
least_above c.Question = omega arith
least_above c.Bracket = omega arith
least_above c.Parenthesis = omega arith
least_above (c.Select s) = omega arith
least_above (c.Step q) = omega arith

-- all that goes on but a comma asks more than the level of a conditional expression
least_over : (c : Continuation) → 1 ≤ level_of c → 2 < least_before c
least_over (c.Infix (i.Plain o)) h = let levels = op_levels o in omega (arith, levels.0)
least_over (c.Infix i.And) h = omega arith
least_over (c.Infix i.Or) h = omega arith
least_over (c.Infix (i.Set o)) h = omega arith
least_over (c.Infix i.Comma) h = absurd (omega arith)
least_over c.Question h = omega arith
least_over c.Bracket h = omega arith
least_over c.Parenthesis h = omega arith
least_over (c.Select s) h = omega arith
least_over (c.Step q) h = omega arith

-- what goes on from the level of a cast on is a postfix operator
postfix_over : (c : Continuation) → 13 ≤ level_of c → (level_of c ≡ 15) × (least_before c ≡ 15)
postfix_over (c.Infix (i.Plain o)) h = let levels = op_levels o in absurd (omega (arith, levels.1))
postfix_over (c.Infix i.And) h = absurd (omega arith)
postfix_over (c.Infix i.Or) h = absurd (omega arith)
postfix_over (c.Infix (i.Set o)) h = absurd (omega arith)
postfix_over (c.Infix i.Comma) h = absurd (omega arith)
postfix_over c.Question h = absurd (omega arith)
postfix_over c.Bracket h = (refl, refl)
postfix_over c.Parenthesis h = (refl, refl)
postfix_over (c.Select s) h = (refl, refl)
postfix_over (c.Step q) h = (refl, refl)

-- what can go on with a unary expression or a cast is a postfix operator
pub halts_unary : (l m : ℕ) (ts : List Sign) → 13 ≤ l → m ≤ 14 → GoesOn l ts → Halts m ts
halts_unary l m ts h k g = halts l m ts (λ a u low. let p = postfix_over a (omega arith) in (omega (arith, p.0), omega (arith, p.1))) g

joined_over : (o : Infix) (c : Continuation) → least_right o ≤ level_of c → (level o ≤ level_of c) × (level o < least_before c)
joined_over (i.Plain o) c h = (omega arith, omega (arith, least_above c))
joined_over i.And c h = (omega arith, omega (arith, least_above c))
joined_over i.Or c h = (omega arith, omega (arith, least_above c))
joined_over (i.Set o) c h = (omega arith, omega (arith, least_over c h))
joined_over i.Comma c h = (omega arith, omega (arith, least_above c))

-- what goes on with a right operand does not go on with the whole
pub halts_joined : (o : Infix) (ts : List Sign) → GoesOn (least_right o) ts → Halts (level o) ts
halts_joined o ts g = halts (least_right o) (level o) ts (λ a u low. joined_over o a low) g

-- what goes on with the third operand of `?:` does not go on with the whole
pub halts_chosen : (ts : List Sign) → GoesOn 2 ts → Halts 2 ts
halts_chosen ts g = halts 2 2 ts (λ a u low. (low, least_over a (omega arith))) g

-- where no reading can go on behind either, they are the same
pub ends_same : {A : Type 0} {Ends : A → List Sign → Type 0} {x y : A} {us vs : List Sign} →
    (Ends x us → ⊥) → (Ends y vs → ⊥) → Compared Ends x us y vs → (x ≡ y) × (us ≡ vs)
ends_same f g (same w v) = (w, v)
ends_same f g (longer h k) = absurd (g k)
ends_same f g (shorter h k) = absurd (f k)

-- a comparison of parts is one of wholes
pub compared_map : {A B : Type 0} {Ends : A → List Sign → Type 0} {Stops : B → List Sign → Type 0} {x y : A} {us vs : List Sign} (f : A → B) →
    ((a : A) (ws : List Sign) → Ends a ws → Stops (f a) ws) → Compared Ends x us y vs → Compared Stops (f x) us (f y) vs
compared_map f g (same w v) = same (ap f w) v
compared_map {y = y} {vs = vs} f g (longer h k) = longer h (g y vs k)
compared_map {x = x} {us = us} f g (shorter h k) = shorter h (g x us k)

-- a string literal goes on with string literals alone
pub halts_string : (m : ℕ) (text : List ℕ) (ts us : List Sign) → us ≡ string text ∷ ts → Halts m us
halts_string m text ts us q = record {
  goes = subst (GoesOn m) (sym q) (by_string text ts);
  stuck = λ a vs u w low. opens_string a text cc;
}
