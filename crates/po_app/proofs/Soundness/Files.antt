-- In a served file each parameter is there, each constant is of the type int, and each call has an argument for each
-- parameter of a function of the file.
use Rattle.std.proofs.Common.{◌≡◌, ℕ, zero, suc, ◌^◌, ◌<◌, List, [], ◌∷◌, ◌++◌, length, map, true, refl, sym, ap, subst, ◌∙◌, inl, inr, append_assoc}
use Rattle.std.specs.Prelude.{Some, slice_get}
use Rattle.std.proofs.lemmas.Bool.{lt-ltb, and_from}
use Rattle.std.proofs.lemmas.List.{length-map}
use Rattle.std.proofs.lemmas.Option.{slice_get_within}
use Rattle.po_base.specs.declared.operators.Op.{Op}
use Rattle.po_lists.proofs.Members.{Has}
use Rattle.po_straight.specs.declared.lexeme.Sign.{Sign}
use Rattle.po_straight.specs.declared.lexeme.Sign.TheVariants as s
use Rattle.po_straight.specs.declared.lexeme.Lexeme.{Lexeme}
use Rattle.po_straight.specs.declared.expression.Expression.{Expression}
use Rattle.po_straight.specs.declared.definition.Definition.{Definition}
use Rattle.po_straight.specs.Scopes.{Scope, Signature}
use Rattle.po_straight.specs.Spelling.{Spells, nothing, sign, IsSpelling}
use Rattle.po_straight.specs.Expressions.{IsOperator, add, sub, mul, div, rem, Prints, parameter, constant, paren, call, binary, PrintsAll, empty, single, comma}
use Rattle.po_straight.specs.Definitions.{IsDefinition, AreDefinitions, none, more, IsFile, signature_of, known_with}
use Rattle.po_app.proofs.Soundness.Members.{has_left, has_right}
use Rattle.po_app.proofs.Soundness.Served.{is_arithmetic, is_served, all_served, served-Parameter, served-Constant, served-Paren, served-Call, served-Binary, is_count_of}

-- a constant of the type int, or no constant
abbrev IsSmall : Lexeme → Type 0
IsSmall x = (value : ℕ) → x.sign ≡ s.Constant value → value < 2 ^ 31

abbrev AreSmall : List Lexeme → Type 0
AreSmall xs = (x : Lexeme) → Has xs x → IsSmall x

spelled_small : {line : ℕ} {xs : List Lexeme} {bytes : List ℕ} → Spells line xs bytes → AreSmall xs
spelled_small (nothing line blanks h) x i = absurd i
spelled_small (sign line blanks text rest y ys h spelling apart behind) x (inl same) = λ value is.
    let at : IsSpelling (s.Constant value) text = subst (λ z. IsSpelling z text) (ap (λ (z : Lexeme). z.sign) same ∙ is) spelling in
    at.0
spelled_small (sign line blanks text rest y ys h spelling apart behind) x (inr i) = spelled_small behind x i

arithmetic : {o : Op} {mark : Sign} {level : ℕ} → IsOperator o mark level → is_arithmetic o ≡ true
arithmetic add = refl
arithmetic sub = refl
arithmetic mul = refl
arithmetic div = refl
arithmetic rem = refl

-- these are the counts of parameters of these functions
abbrev AreCounted : List Signature → List ℕ → Type 0
AreCounted functions counts = (f : ℕ) (called : Signature) → slice_get functions f ≡ Some called → slice_get counts f ≡ Some called.count

mutual
  printed_served : {scope : Scope} {level : ℕ} {x : Expression} {xs : List Lexeme} → (counts : List ℕ) → AreCounted scope.functions counts → Prints scope level x xs → AreSmall xs → is_served (length scope.parameters) counts x ≡ true
  printed_served {scope = scope} counts known (parameter n line name there) h =
      served-Parameter (length scope.parameters) counts n ∙ lt-ltb n (length scope.parameters) (slice_get_within scope.parameters n name there)
  printed_served {scope = scope} counts known (constant value line) h =
      served-Constant (length scope.parameters) counts value ∙ lt-ltb value (2 ^ 31) (h _ (inl refl) value refl)
  printed_served {scope = scope} counts known (paren level first last x xs p) h =
      served-Paren (length scope.parameters) counts x ∙ printed_served counts known p (λ y i. h y (inr (has_left xs _ y i)))
  printed_served {scope = scope} counts known (call f line first last called arguments xs there hidden counted p) h =
      let params = length scope.parameters in
      served-Call params counts f first arguments ∙
      and_from _ _ (is_count_of (slice_get counts f) called.count _ (known f called there) (length-map arguments (is_served params counts) ∙ counted)) (all_printed_served counts known p (λ y i. h y (inr (inr (has_left xs _ y i)))))
  printed_served {scope = scope} counts known (binary o mark level line m k x y xs ys v low high p q) h =
      served-Binary (length scope.parameters) counts o line x y ∙
      and_from _ _ (arithmetic v) (and_from _ _ (printed_served counts known p (λ z i. h z (has_left xs _ z i))) (printed_served counts known q (λ z i. h z (has_right xs _ z (inr i)))))

  all_printed_served : {scope : Scope} {values : List Expression} {xs : List Lexeme} → (counts : List ℕ) → AreCounted scope.functions counts → PrintsAll scope values xs → AreSmall xs → all_served (length scope.parameters) counts values ≡ true
  all_printed_served counts known empty h = refl
  all_printed_served counts known (single level x xs p) h = and_from _ _ (printed_served counts known p h) refl
  all_printed_served counts known (comma level line x y ys xs rest p q) h =
      and_from _ _ (printed_served counts known p (λ z i. h z (has_left xs _ z i))) (all_printed_served counts known q (λ z i. h z (has_right xs _ z (inr i))))

get_left : {X : Type 0} (xs ys : List X) (k : ℕ) (x : X) → slice_get xs k ≡ Some x → slice_get (xs ++ ys) k ≡ Some x
get_left [] ys k x e = absurd (cc)
get_left (y ∷ xs) ys zero x e = e
get_left (y ∷ xs) ys (suc k) x e = get_left xs ys k x e

definition_served : (earlier : List Signature) (counts : List ℕ) (d : Definition) (xs : List Lexeme) → AreCounted (known_with earlier d) counts → IsDefinition earlier d xs → AreSmall xs → is_served (length d.parameters) counts d.value ≡ true
definition_served earlier counts d xs known is h =
    let h' : AreSmall (is.head ++ (record { sign = s.Return; line = d.line } ∷ (is.value ++ is.tail))) = subst AreSmall is.parts h in
    printed_served counts known is.valued.printed (λ y i. h' y (has_right is.head _ y (inr (has_left is.value is.tail y i))))

definitions_served : {earlier : List Signature} {ds : List Definition} {xs : List Lexeme} → (counts : List ℕ) → AreDefinitions earlier ds xs → AreCounted (earlier ++ map signature_of ds) counts → AreSmall xs →
    (i : ℕ) (d : Definition) → slice_get ds i ≡ Some d → is_served (length d.parameters) counts d.value ≡ true
definitions_served counts (none earlier) known h i d q = absurd (cc)
definitions_served counts (more earlier g gs xs ys is rest) known h zero d q =
    let same : g ≡ d = cc in
    let known_here : AreCounted (known_with earlier g) counts = λ f called e.
    known f called (subst (λ l. slice_get l f ≡ Some called) (append_assoc earlier (signature_of g ∷ []) (map signature_of gs)) (get_left (known_with earlier g) (map signature_of gs) f called e)) in
    subst (λ (f : Definition). is_served (length f.parameters) counts f.value ≡ true) same (definition_served earlier counts g xs known_here is (λ y i. h y (has_left xs ys y i)))
definitions_served counts (more earlier g gs xs ys is rest) known h (suc i) d q =
    let known_behind : AreCounted (known_with earlier g ++ map signature_of gs) counts = subst (λ l. AreCounted l counts) (sym (append_assoc earlier (signature_of g ∷ []) (map signature_of gs))) known in
    definitions_served counts rest known_behind (λ y j. h y (has_right xs ys y j)) i d q

-- how many parameters each definition has
abbrev pub counts_of : List Definition → List ℕ
counts_of ds = map (λ (d : Definition). length d.parameters) ds

counted : (ds : List Definition) → AreCounted (map signature_of ds) (counts_of ds)
counted [] f called e = absurd (cc)
counted (d ∷ ds) zero called e = let same : signature_of d ≡ called = cc in ap (λ (z : Signature). Some z.count) same
counted (d ∷ ds) (suc f) called e = counted ds f called e

-- a function of the file, by the count of its parameters
pub counted_definition : (ds : List Definition) (f n : ℕ) → slice_get (counts_of ds) f ≡ Some n → (d : Definition) × (slice_get ds f ≡ Some d) × (length d.parameters ≡ n)
counted_definition [] f n e = absurd (cc)
counted_definition (d ∷ ds) zero n e = (d, refl, cc)
counted_definition (d ∷ ds) (suc f) n e = counted_definition ds f n e

-- of a file that spells these definitions
pub file_served : (ds : List Definition) (bytes : List ℕ) → IsFile ds bytes → (i : ℕ) (d : Definition) → slice_get ds i ≡ Some d → is_served (length d.parameters) (counts_of ds) d.value ≡ true
file_served ds bytes f = definitions_served (counts_of ds) f.served.defined (counted ds) (spelled_small f.spelled)
