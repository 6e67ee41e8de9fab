-- The file that spells the sample project; with it the law says of the sample run that the obligation is open.
use Rattle.std.proofs.Common.{◌≡◌, ◌≢◌, ℕ, ◌+◌, ◌*◌, ◌<◌, ◌≤◌, List, [], ◌∷◌, ◌++◌, length, map, Bool, true, ◌&&◌, refl, sym, ap, subst, ◌∙◌, inl, inr, arith}
use Rattle.std.specs.Prelude.{nat_lt, pos, max, codes, All, Contains, sum}
use Rattle.std.proofs.lemmas.Bool.{ltb-true}
use Rattle.std.proofs.lemmas.Fmt.{decimal_digit}
use Rattle.std.proofs.lemmas.List.Elements.{All-nil, All-cons}
use Rattle.po_base.specs.declared.operators.Op.{Op}
use Rattle.po_base.specs.declared.operators.Op.TheVariants as op
use Rattle.po_lists.proofs.Members.{Has, has}
use Rattle.po_core.specs.declared.obl.Verdict.TheVariants.{Open}
use Rattle.po_straight.specs.declared.lexeme.Sign.{Sign}
use Rattle.po_straight.specs.declared.lexeme.Sign.TheVariants as s
use Rattle.po_straight.specs.declared.lexeme.Lexeme.{Lexeme}
use Rattle.po_straight.specs.declared.expression.Expression.{Expression, fold-roll-Expression}
use Rattle.po_straight.specs.declared.expression.Expression.TheVariants as e
use Rattle.po_straight.specs.declared.expression.Expression.TheOpen.{Expression-F}
use Rattle.po_straight.specs.Scopes.{Signature}
use Rattle.po_straight.specs.Spelling.{IsBlank, IsWordByte, BeginsWithWordByte, keywords, IsName, IsSpelling, IsWord, Spells, nothing, sign}
use Rattle.po_straight.specs.Expressions.{sub, div, Prints, parameter, constant, call, binary, single, comma, height, path_of, greatest}
use Rattle.po_straight.specs.Definitions.{operations, operations_of, graph_size, signature_of, scope_of, IsDefinition, none, more, IsFile}
use Rattle.po_app.proofs.Soundness.Served.{both}
use Rattle.po_app.proofs.Soundness.Along.{closed_sound}
use Rattle.po_app.proofs.Soundness.Sample.{d_definition, f_definition, definitions, project, divisor, support, report, sample_project, sample_closed}
use Rattle.po_app.proofs.Soundness.SampleRuns.{entered, lessened_to, one_starts, sample_runs, sample_violates}

abbrev file : List ℕ
file = codes "int d(int a,int b){return a/b;}\nint f(int x){return d(7,x-1);}\n"

abbrev at : ℕ → List Sign → List Lexeme
at line signs = map (λ x. record { sign = x; line = line }) signs

abbrev d_head : List Sign
d_head =
    s.Int ∷ (s.Name (codes "d") ∷ (s.Open ∷ (s.Int ∷ (s.Name (codes "a") ∷ (s.Comma ∷ (s.Int ∷ (s.Name (codes "b") ∷ (s.Close ∷ (s.OpenBrace ∷ [])))))))))

abbrev d_value : List Sign
d_value = s.Name (codes "a") ∷ (s.Slash ∷ (s.Name (codes "b") ∷ []))

abbrev f_head : List Sign
f_head = s.Int ∷ (s.Name (codes "f") ∷ (s.Open ∷ (s.Int ∷ (s.Name (codes "x") ∷ (s.Close ∷ (s.OpenBrace ∷ []))))))

abbrev f_value : List Sign
f_value = s.Name (codes "d") ∷ (s.Open ∷ (s.Constant 7 ∷ (s.Comma ∷ (s.Name (codes "x") ∷ (s.Minus ∷ (s.Constant 1 ∷ (s.Close ∷ [])))))))

abbrev tail : List Sign
tail = s.Semicolon ∷ (s.CloseBrace ∷ [])

abbrev d_lexemes : List Lexeme
d_lexemes = at 1 (d_head ++ (s.Return ∷ (d_value ++ tail)))

abbrev f_lexemes : List Lexeme
f_lexemes = at 2 (f_head ++ (s.Return ∷ (f_value ++ tail)))

-- no keyword is a single letter
abbrev all_longer : List (List ℕ) → Bool
all_longer [] = true
all_longer (w ∷ ws) = nat_lt 1 (length w) && all_longer ws

longer : (words : List (List ℕ)) (w : List ℕ) → all_longer words ≡ true → Has words w → 1 < length w
longer [] w all h = absurd h
longer (v ∷ vs) w all (inl same) = subst (λ (x : List ℕ). 1 < length x) same (ltb-true 1 (length v) (both (nat_lt 1 (length v)) (all_longer vs) all).0)
longer (v ∷ vs) w all (inr h) = longer vs w (both (nat_lt 1 (length v)) (all_longer vs) all).1 h

letter : (c : ℕ) → 97 ≤ c → c ≤ 122 → IsName (c ∷ [])
letter c low high = ((inr (inl (low, high)), All-nil IsWordByte), λ there. let long = longer keywords (c ∷ []) refl (has keywords (c ∷ []) there) in absurd (omega (arith, long)))

-- bytes that end a word
below_digits : (c : ℕ) → c < 48 → IsWordByte c → ⊥
below_digits c low (inl digit) = let h = digit.0 in omega (arith, h, low)
below_digits c low (inr (inl h)) = let a = h.0 in omega (arith, a, low)
below_digits c low (inr (inr (inl h))) = let a = h.0 in omega (arith, a, low)
below_digits c low (inr (inr (inr h))) = omega (arith, h, low)

semicolon : IsWordByte 59 → ⊥
semicolon (inl digit) = let h = digit.1 in omega (arith, h)
semicolon (inr (inl h)) = let a = h.0 in omega (arith, a)
semicolon (inr (inr (inl h))) = let a = h.0 in omega (arith, a)
semicolon (inr (inr (inr h))) = omega (arith, h)

-- a sign right behind the one before it
tight : {line : ℕ} {xs : List Lexeme} {rest : List ℕ} (x : Sign) (text : List ℕ) → IsSpelling x text → (IsWord x → BeginsWithWordByte rest → ⊥) → Spells line xs rest → Spells line (record { sign = x; line = line } ∷ xs) (text ++ rest)
tight {line = line} {xs = xs} {rest = rest} x text spelling apart behind =
    let same : line + 0 ≡ line = omega arith in
    subst (λ l. Spells line (record { sign = x; line = l } ∷ xs) (text ++ rest)) same (sign line [] text rest x xs (All-nil IsBlank) spelling apart (subst (λ l. Spells l xs rest) (sym same) behind))

-- a name behind a space
spaced : {line : ℕ} {xs : List Lexeme} {rest : List ℕ} (c : ℕ) → 97 ≤ c → c ≤ 122 → (BeginsWithWordByte rest → ⊥) → Spells line xs rest → Spells line (record { sign = s.Name (c ∷ []); line = line } ∷ xs) (32 ∷ (c ∷ rest))
spaced {line = line} {xs = xs} {rest = rest} c low high apart behind =
    let same : line + 0 ≡ line = omega arith in
    subst (λ l. Spells line (record { sign = s.Name (c ∷ []); line = l } ∷ xs) (32 ∷ (c ∷ rest))) same
    (sign line (32 ∷ []) (c ∷ []) rest (s.Name (c ∷ [])) xs (All-cons IsBlank 32 [] (inl refl) (All-nil IsBlank)) (letter c low high, refl) (λ w. apart) (subst (λ l. Spells l xs rest) (sym same) behind))

-- what follows is no byte of a word
low : (c : ℕ) → c < 48 → Unit {0} → IsWordByte c → ⊥
low c h w = below_digits c h

newline : All IsBlank (10 ∷ [])
newline = All-cons IsBlank 10 [] (inr (inr refl)) (All-nil IsBlank)

f_spelled : Spells 1 f_lexemes (codes "\nint f(int x){return d(7,x-1);}\n")
f_spelled =
    sign 1 (10 ∷ []) (codes "int") (codes " f(int x){return d(7,x-1);}\n") s.Int _ newline refl (low 32 (omega arith))
    (spaced 102 (omega arith) (omega arith) (below_digits 40 (omega arith))
    (tight s.Open (codes "(") refl (λ w. absurd w)
    (tight s.Int (codes "int") refl (low 32 (omega arith))
    (spaced 120 (omega arith) (omega arith) (below_digits 41 (omega arith))
    (tight s.Close (codes ")") refl (λ w. absurd w)
    (tight s.OpenBrace (codes "{") refl (λ w. absurd w)
    (tight s.Return (codes "return") refl (low 32 (omega arith))
    (spaced 100 (omega arith) (omega arith) (below_digits 40 (omega arith))
    (tight s.Open (codes "(") refl (λ w. absurd w)
    (tight (s.Constant 7) (codes "7") (omega arith, sym (decimal_digit 7 (omega arith))) (low 44 (omega arith))
    (tight s.Comma (codes ",") refl (λ w. absurd w)
    (tight (s.Name (codes "x")) (codes "x") (letter 120 (omega arith) (omega arith), refl) (low 45 (omega arith))
    (tight s.Minus (codes "-") refl (λ w. absurd w)
    (tight (s.Constant 1) (codes "1") (omega arith, sym (decimal_digit 1 (omega arith))) (low 41 (omega arith))
    (tight s.Close (codes ")") refl (λ w. absurd w)
    (tight s.Semicolon (codes ";") refl (λ w. absurd w)
    (tight s.CloseBrace (codes "}") refl (λ w. absurd w)
    (nothing 2 (10 ∷ []) newline))))))))))))))))))

d_spelled : Spells 1 (d_lexemes ++ f_lexemes) file
d_spelled =
    tight s.Int (codes "int") refl (low 32 (omega arith))
    (spaced 100 (omega arith) (omega arith) (below_digits 40 (omega arith))
    (tight s.Open (codes "(") refl (λ w. absurd w)
    (tight s.Int (codes "int") refl (low 32 (omega arith))
    (spaced 97 (omega arith) (omega arith) (below_digits 44 (omega arith))
    (tight s.Comma (codes ",") refl (λ w. absurd w)
    (tight s.Int (codes "int") refl (low 32 (omega arith))
    (spaced 98 (omega arith) (omega arith) (below_digits 41 (omega arith))
    (tight s.Close (codes ")") refl (λ w. absurd w)
    (tight s.OpenBrace (codes "{") refl (λ w. absurd w)
    (tight s.Return (codes "return") refl (low 32 (omega arith))
    (spaced 97 (omega arith) (omega arith) (below_digits 47 (omega arith))
    (tight s.Slash (codes "/") refl (λ w. absurd w)
    (tight (s.Name (codes "b")) (codes "b") (letter 98 (omega arith) (omega arith), refl) (λ w. semicolon)
    (tight s.Semicolon (codes ";") refl (λ w. absurd w)
    (tight s.CloseBrace (codes "}") refl (λ w. absurd w) f_spelled)))))))))))))))

-- heights and operations of the kinds of expressions that stand in the file
height-Parameter : (n : ℕ) → height (e.Parameter n) ≡ 1
unfolding height
height-Parameter n = ap height (sym (e.rolls-Parameter n)) ∙ fold-roll-Expression _ path_of (Expression-F.Parameter n)

height-Constant : (value : ℕ) → height (e.Constant value) ≡ 1
unfolding height
height-Constant value = ap height (sym (e.rolls-Constant value)) ∙ fold-roll-Expression _ path_of (Expression-F.Constant value)

height-Call : (f line : ℕ) (xs : List Expression) → height (e.Call f line xs) ≡ greatest (1 ∷ map height xs) + 1
unfolding height
height-Call f line xs = ap height (sym (e.rolls-Call f line xs)) ∙ fold-roll-Expression _ path_of (Expression-F.Call f line xs)

height-Binary : (o : Op) (line : ℕ) (x y : Expression) → height (e.Binary o line x y) ≡ max (height x) (height y) + 1
unfolding height
height-Binary o line x y = ap height (sym (e.rolls-Binary o line x y)) ∙ fold-roll-Expression _ path_of (Expression-F.Binary o line x y)

operations-Parameter : (n : ℕ) → operations (e.Parameter n) ≡ 0
unfolding operations
operations-Parameter n = ap operations (sym (e.rolls-Parameter n)) ∙ fold-roll-Expression _ operations_of (Expression-F.Parameter n)

operations-Constant : (value : ℕ) → operations (e.Constant value) ≡ 0
unfolding operations
operations-Constant value = ap operations (sym (e.rolls-Constant value)) ∙ fold-roll-Expression _ operations_of (Expression-F.Constant value)

operations-Call : (f line : ℕ) (xs : List Expression) → operations (e.Call f line xs) ≡ sum (map operations xs) + 1
unfolding operations
operations-Call f line xs = ap operations (sym (e.rolls-Call f line xs)) ∙ fold-roll-Expression _ operations_of (Expression-F.Call f line xs)

operations-Binary : (o : Op) (line : ℕ) (x y : Expression) → operations (e.Binary o line x y) ≡ operations x + operations y + 1
unfolding operations
operations-Binary o line x y = ap operations (sym (e.rolls-Binary o line x y)) ∙ fold-roll-Expression _ operations_of (Expression-F.Binary o line x y)

-- x-1
abbrev less : Expression
less = e.Binary op.Sub 2 (e.Parameter 0) (e.Constant 1)

d_height : height d_definition.value ≡ 2
d_height = height-Binary op.Div 1 (e.Parameter 0) (e.Parameter 1) ∙ rw (height-Parameter 0, height-Parameter 1) refl

less_height : height less ≡ 2
less_height = height-Binary op.Sub 2 (e.Parameter 0) (e.Constant 1) ∙ rw (height-Parameter 0, height-Constant 1) refl

f_height : height f_definition.value ≡ 3
f_height = height-Call 0 2 (e.Constant 7 ∷ (less ∷ [])) ∙ rw (height-Constant 7, less_height) refl

d_operations : operations d_definition.value ≡ 1
d_operations = operations-Binary op.Div 1 (e.Parameter 0) (e.Parameter 1) ∙ rw (operations-Parameter 0, operations-Parameter 1) refl

less_operations : operations less ≡ 1
less_operations = operations-Binary op.Sub 2 (e.Parameter 0) (e.Constant 1) ∙ rw (operations-Parameter 0, operations-Constant 1) refl

f_operations : operations f_definition.value ≡ 2
f_operations = operations-Call 0 2 (e.Constant 7 ∷ (less ∷ [])) ∙ rw (operations-Constant 7, less_operations) refl

d_size : graph_size d_definition ≡ 6
d_size = ap (λ n. (n + 1) * (2 + n)) d_operations

f_size : graph_size f_definition ≡ 9
f_size = ap (λ n. (n + 1) * (1 + n)) f_operations

-- two letters are two names
other_name : (c d : ℕ) → c ≢ d → Contains ((d ∷ []) ∷ []) (c ∷ []) → ⊥
other_name c d other there = elim (has ((d ∷ []) ∷ []) (c ∷ []) there) [ inl same ↦ other (let is : d ≡ c = cc in sym is) | inr h ↦ h ]

no_other : (name : List ℕ) → Contains [] name → ⊥
no_other name there = has [] name there

d_printed : Prints (scope_of [] d_definition) 1 d_definition.value (at 1 d_value)
d_printed = binary op.Div s.Slash 1 1 2 2 (e.Parameter 0) (e.Parameter 1) (at 1 (s.Name (codes "a") ∷ [])) (at 1 (s.Name (codes "b") ∷ [])) div (omega arith) (omega arith) (parameter 0 1 (codes "a") refl) (parameter 1 1 (codes "b") refl)

d_is : IsDefinition [] d_definition d_lexemes
d_is = record {
  head = at 1 d_head;
  value = at 1 d_value;
  tail = at 1 tail;
  parts = refl;
  heading = refl;
  valued = record { level = 1; printed = d_printed; nested = omega (arith, d_height) };
  ending = refl;
  distinct = (other_name 97 98 (λ h. absurd (omega (arith, h))), (no_other (codes "b"), tt));
  small = omega (arith, d_size);
}

-- the functions that are known in `f`
abbrev known : List Signature
known = signature_of d_definition ∷ []

less_printed : Prints (scope_of known f_definition) 0 less (at 2 (s.Name (codes "x") ∷ (s.Minus ∷ (s.Constant 1 ∷ []))))
less_printed = binary op.Sub s.Minus 0 2 2 2 (e.Parameter 0) (e.Constant 1) (at 2 (s.Name (codes "x") ∷ [])) (at 2 (s.Constant 1 ∷ [])) sub (omega arith) (omega arith) (parameter 0 2 (codes "x") refl) (constant 1 2)

f_printed : Prints (scope_of known f_definition) 2 f_definition.value (at 2 f_value)
f_printed =
    call 0 2 2 2 (signature_of d_definition) (e.Constant 7 ∷ (less ∷ [])) (at 2 (s.Constant 7 ∷ (s.Comma ∷ (s.Name (codes "x") ∷ (s.Minus ∷ (s.Constant 1 ∷ [])))))) refl (other_name 100 120 (λ h. absurd (omega (arith, h)))) refl
    (comma 2 2 (e.Constant 7) less [] (at 2 (s.Constant 7 ∷ [])) (at 2 (s.Name (codes "x") ∷ (s.Minus ∷ (s.Constant 1 ∷ [])))) (constant 7 2) (single 0 less (at 2 (s.Name (codes "x") ∷ (s.Minus ∷ (s.Constant 1 ∷ [])))) less_printed))

f_is : IsDefinition known f_definition f_lexemes
f_is = record {
  head = at 2 f_head;
  value = at 2 f_value;
  tail = at 2 tail;
  parts = refl;
  heading = refl;
  valued = record { level = 2; printed = f_printed; nested = omega (arith, f_height) };
  ending = refl;
  distinct = (no_other (codes "x"), tt);
  small = omega (arith, f_size);
}

pub sample_file : IsFile definitions file
sample_file = record {
  lexemes = d_lexemes ++ f_lexemes;
  spelled = d_spelled;
  served = record {
    defined = more [] d_definition (f_definition ∷ []) d_lexemes f_lexemes d_is (more known f_definition [] f_lexemes [] f_is (none (known ++ signature_of f_definition ∷ [])));
    distinct = (other_name 100 102 (λ h. absurd (omega (arith, h))), (no_other (codes "f"), tt));
    few = omega arith;
    small = omega (arith, d_size, f_size);
  };
}

-- what the law says of the run that violates it: the divisor at the call is listed as open
pub sample_open : Contains report.lines (support divisor, Open)
sample_open = closed_sound (codes "a.c") file definitions project report sample_file sample_project sample_closed 1 (entered (pos 1)) (lessened_to (pos 1) (pos 0)) (support divisor) one_starts sample_runs sample_violates
