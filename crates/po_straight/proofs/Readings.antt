-- From the same signs the same is read, where the names of the scope differ.
use Rattle.std.proofs.Common.{◌≡◌, ℕ, zero, suc, List, [], ◌∷◌, ap, sym, ◌∙◌, refl, subst, map}
use Rattle.std.specs.Prelude.{Option, Some, None, slice_get, Contains}
use Rattle.std.proofs.lemmas.Option.{slice_get_within, get_or_from_slice_get}
use Rattle.po_base.specs.declared.operators.Op.{Op}
use Rattle.po_base.specs.declared.operators.Op.TheVariants as op
use Rattle.po_straight.specs.declared.lexeme.Sign.{Sign}
use Rattle.po_straight.specs.declared.lexeme.Sign.TheVariants as s
use Rattle.po_straight.specs.declared.lexeme.Lexeme.{Lexeme}
use Rattle.po_straight.specs.declared.expression.Expression.{Expression}
use Rattle.po_straight.specs.declared.expression.Expression.TheVariants as e
use Rattle.po_straight.specs.Distinct.{AllDiffer}
use Rattle.po_straight.specs.Scopes.{Scope, Signature, NamesDiffer}
use Rattle.po_straight.specs.Expressions.{IsOperator, add, sub, mul, div, rem}
use Rattle.po_straight.specs.Reading.{GoesOn, Reads, begun, Operand, parameter, constant, paren, call, Climbs, stop, more, Arguments, without, with, Items, final, further}

-- the operator of a sign with its level
abbrev pub operator_of : Sign → Option (Op × ℕ)
operator_of s.Plus = Some (op.Add, 0)
operator_of s.Minus = Some (op.Sub, 0)
operator_of s.Star = Some (op.Mul, 1)
operator_of s.Slash = Some (op.Div, 1)
operator_of s.Percent = Some (op.Rem, 1)
operator_of _ = None

operator_known : {o : Op} {sign : Sign} {k : ℕ} → IsOperator o sign k → operator_of sign ≡ Some (o, k)
operator_known add = refl
operator_known sub = refl
operator_known mul = refl
operator_known div = refl
operator_known rem = refl

parts : {A B : Type 0} {a c : A} {b d : B} → ◌≡◌ {A = Option (A × B)} (Some (a, b)) (Some (c, d)) → (a ≡ c) × (b ≡ d)
parts {A = A} {B = B} {a = a} {c = c} {b = b} {d = d} q =
    let p : ◌≡◌ {A = A × B} (a, b) (c, d) = cc in
    (ap (λ v. v.0) p, ap (λ v. v.1) p)

-- a sign is one operator at most
pub one_operator : {o p : Op} {sign : Sign} {k l : ℕ} → IsOperator o sign k → IsOperator p sign l → (o ≡ p) × (k ≡ l)
one_operator w v = parts (sym (operator_known w) ∙ operator_known v)

-- what stands at a place is in the list
pub there : (names : List (List ℕ)) (n : ℕ) (name : List ℕ) → slice_get names n ≡ Some name → Contains names name
there names n name q = (n, slice_get_within names n name q, get_or_from_slice_get names n name name q)

-- names that differ stand each at one place
one_place : (names : List (List ℕ)) (n m : ℕ) (name : List ℕ) → AllDiffer names → slice_get names n ≡ Some name → slice_get names m ≡ Some name → n ≡ m
one_place [] n m name h q r = absurd cc
one_place (p ∷ ps) zero zero name h q r = refl
one_place (p ∷ ps) zero (suc m) name h q r =
    let same : p ≡ name = cc in
    absurd (h.0 (rw same (there ps m name r)))
one_place (p ∷ ps) (suc n) zero name h q r =
    let same : p ≡ name = cc in
    absurd (h.0 (rw same (there ps n name q)))
one_place (p ∷ ps) (suc n) (suc m) name h q r = ap suc (one_place ps n m name h.1 q r)

pub name_at : (functions : List Signature) (n : ℕ) (called : Signature) → slice_get functions n ≡ Some called → slice_get (map (λ f. f.name) functions) n ≡ Some called.name
name_at [] n called q = absurd cc
name_at (f ∷ fs) zero called q = let same : f ≡ called = cc in ap (λ v. Some v.name) same
name_at (f ∷ fs) (suc n) called q = name_at fs n called q

-- an expression doesn't begin with a sign that closes
not_close : {scope : Scope} {ts us : List Lexeme} {x : Expression} (mark : Lexeme) (rest : List Lexeme) → mark.sign ≡ s.Close → ts ≡ mark ∷ rest → Operand scope ts x us → ⊥
not_close mark rest h e (parameter n name own ts q r) = let marks : own ≡ mark = cc in cc
not_close mark rest h e (constant value own ts q) = let marks : own ≡ mark = cc in cc
not_close mark rest h e (paren x own last ts us q r w) = let marks : own ≡ mark = cc in cc
not_close mark rest h e (call f called xs own first ts us q o g n k w) = let marks : own ≡ mark = cc in cc

no_expression : {scope : Scope} {l : ℕ} {ts us : List Lexeme} {x : Expression} (mark : Lexeme) (rest : List Lexeme) → mark.sign ≡ s.Close → ts ≡ mark ∷ rest → Reads scope l ts x us → ⊥
no_expression mark rest h e (begun l x y ts us vs w c) = not_close mark rest h e w

pub no_items : {scope : Scope} {ts us : List Lexeme} {xs : List Expression} (mark : Lexeme) (rest : List Lexeme) → mark.sign ≡ s.Close → ts ≡ mark ∷ rest → Items scope ts xs us → ⊥
no_items mark rest h e (final x last ts us q r) = no_expression mark rest h e r
no_items mark rest h e (further x xs own ts us vs q r w) = no_expression mark rest h e r

module _ {scope : Scope} (differ : NamesDiffer scope) where
  one_parameter : (n m : ℕ) (name other : List ℕ) → slice_get scope.parameters n ≡ Some name → slice_get scope.parameters m ≡ Some other → name ≡ other → n ≡ m
  one_parameter n m name other q r same = one_place scope.parameters n m name differ.parameters q (rw (← same) at r)

  pub one_function : (n m : ℕ) (called other : Signature) → slice_get scope.functions n ≡ Some called → slice_get scope.functions m ≡ Some other → called.name ≡ other.name → n ≡ m
  one_function n m called other q r same =
      one_place (map (λ f. f.name) scope.functions) n m called.name differ.functions (name_at scope.functions n called q) (rw (← same) at (name_at scope.functions m other r))

  mutual
    -- from the same signs the same is read
    pub reads_same : {l : ℕ} {ts us vs : List Lexeme} {x a : Expression} → Reads scope l ts x us → Reads scope l ts a vs → (x ≡ a) × (us ≡ vs)
    reads_same (begun l x y ts us vs w c) (begun l' x' y' ts' us' vs' w' c') =
        let p = operand_same w w' in
        climbs_same p.0 p.1 c c'

    pub operand_same : {ts us vs : List Lexeme} {x a : Expression} → Operand scope ts x us → Operand scope ts a vs → (x ≡ a) × (us ≡ vs)
    operand_same (parameter n name mark ts q r) (parameter n' name' mark' ts' q' r') =
        let names : name ≡ name' = cc in
        (ap e.Parameter (one_parameter n n' name name' r r' names), refl)
    operand_same (parameter n name mark ts q r) (constant value mark' ts' q') = absurd cc
    operand_same (parameter n name mark ts q r) (paren x first last ts' us q' r' w) = absurd cc
    operand_same (parameter n name mark ts q r) (call f called xs mark' first ts' us q' o g free k w) =
        let names : name ≡ called.name = cc in
        absurd (free (rw names at (there scope.parameters n name r)))
    operand_same (constant value mark ts q) (parameter n' name' mark' ts' q' r') = absurd cc
    operand_same (constant value mark ts q) (constant value' mark' ts' q') =
        let values : value ≡ value' = cc in
        (ap e.Constant values, refl)
    operand_same (constant value mark ts q) (paren x first last ts' us q' r' w) = absurd cc
    operand_same (constant value mark ts q) (call f called xs mark' first ts' us q' o g free k w) = absurd cc
    operand_same (paren x first last ts us q r w) (parameter n' name' mark' ts' q' r') = absurd cc
    operand_same (paren x first last ts us q r w) (constant value mark' ts' q') = absurd cc
    operand_same (paren x first last ts us q r w) (paren x' first' last' ts' us' q' r' w') =
        let p = reads_same w w' in
        let left : us ≡ us' = cc in
        (ap e.Paren p.0, left)
    operand_same (paren x first last ts us q r w) (call f called xs mark' first' ts' us' q' o g free k v) = absurd cc
    operand_same (call f called xs mark first ts us q o g free k w) (parameter n' name' mark' ts' q' r') =
        let names : name' ≡ called.name = cc in
        absurd (free (rw names at (there scope.parameters n' name' r')))
    operand_same (call f called xs mark first ts us q o g free k w) (constant value mark' ts' q') = absurd cc
    operand_same (call f called xs mark first ts us q o g free k w) (paren x first' last ts' us' q' r' w') = absurd cc
    operand_same (call f called xs mark first ts us q o g free k w) (call f' called' xs' mark' first' ts' us' q' o' g' free' k' w') =
        let names : called.name ≡ called'.name = cc in
        let p = arguments_same w w' in
        (ap (λ v. e.Call v first.line xs) (one_function f f' called called' g g' names) ∙ ap (λ v. e.Call f' first.line v) p.0, p.1)

    pub climbs_same : {l m : ℕ} {ts ts' us vs : List Lexeme} {x x' z z' : Expression} → x ≡ x' → ts ≡ ts' → Climbs scope l m x ts z us → Climbs scope l m x' ts' z' vs → (z ≡ z') × (us ≡ vs)
    climbs_same a q (stop l m x ts g) (stop l' m' x' ts' g') = (a, q)
    climbs_same a q (stop l m x ts g) (more l' m' k' o' x' y' z' mark' ts' us' vs' w' low' high' r' c') =
        absurd (g (subst (GoesOn l m) (sym q) (o', k', w', low', high')))
    climbs_same a q (more l m k o x y z mark ts us vs w low high r c) (stop l' m' x' ts' g') =
        absurd (g' (subst (GoesOn l m) q (o, k, w, low, high)))
    climbs_same a q (more l m k o x y z mark ts us vs w low high r c) (more l' m' k' o' x' y' z' mark' ts' us' vs' w' low' high' r' c') =
        let marks : mark ≡ mark' = cc in
        let rests : ts ≡ ts' = cc in
        let p = one_operator w (rw (← marks) at w') in
        let ty = reads_same r (rw (← p.1, ← rests) at r') in
        let same : e.Binary o mark.line x y ≡ e.Binary o mark.line x' y' = ap (λ v. e.Binary o mark.line v y) a ∙ ap (λ v. e.Binary o mark.line x' v) ty.0 in
        climbs_same same ty.1 c (rw (← p.0, ← p.1, ← marks) at c')

    pub arguments_same : {ts us vs : List Lexeme} {xs ys : List Expression} → Arguments scope ts xs us → Arguments scope ts ys vs → (xs ≡ ys) × (us ≡ vs)
    arguments_same (without last ts q) (without last' ts' q') = (refl, refl)
    arguments_same (without last ts q) (with ys ts' vs w) = absurd (no_items last ts q refl w)
    arguments_same (with xs ts us w) (without last ts' q) = absurd (no_items last ts' q refl w)
    arguments_same (with xs ts us w) (with ys ts' vs w') = items_same w w'

    pub items_same : {ts us vs : List Lexeme} {xs ys : List Expression} → Items scope ts xs us → Items scope ts ys vs → (xs ≡ ys) × (us ≡ vs)
    items_same (final x last ts us q r) (final x' last' ts' us' q' r') =
        let p = reads_same r r' in
        let left : us ≡ us' = cc in
        (ap (λ v. v ∷ []) p.0, left)
    items_same (final x last ts us q r) (further x' xs' mark' ts' us' vs' q' r' w') =
        let p = reads_same r r' in
        let marks : last ≡ mark' = cc in
        absurd cc
    items_same (further x xs mark ts us vs q r w) (final x' last' ts' us' q' r') =
        let p = reads_same r r' in
        let marks : mark ≡ last' = cc in
        absurd cc
    items_same (further x xs mark ts us vs q r w) (further x' xs' mark' ts' us' vs' q' r' w') =
        let p = reads_same r r' in
        let left : us ≡ us' = cc in
        let rest = items_same w (rw (← left) at w') in
        (ap (λ v. v ∷ xs) p.0 ∙ ap (λ v. x' ∷ v) rest.0, rest.1)
