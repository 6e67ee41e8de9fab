-- One more part of a division, and what its end and its failure mean.
use Rattle.std.proofs.lemmas.Bool.{and_parts}
use Rattle.std.proofs.Common.{◌≡◌, ℕ, ◌+◌, ◌^◌, ◌<◌, ◌≤◌, Bool, true, false, List, [], ◌∷◌, ◌++◌, length, arith, sym, ap, refl, ◌∙◌, subst, append_assoc, append-nil}
use borrow.Author.Tests.{ltb-true}
use Rattle.std.specs.Prelude.{◌==◌, nat_lt, Result, Ok, Err, IfOk, IfErr, OnOk}
use Rattle.std.proofs.lemmas.List.Sums.{count_by-le-length}
use Rattle.po_base.specs.declared.token.Token.{Token}
use Rattle.po_base.specs.declared.token.Tokens.{Tokens}
use Rattle.po_lex.specs.Bytes.{newlines}
use Rattle.po_lex.specs.PartKinds.{token_kind_of}
use Rattle.po_lex.specs.Directives.{is_name}
use Rattle.po_lex.specs.Division.{Part, HasEffect, Stands, NoneStands, Divides, AreTokens, Fails, after, behind_all, start, as_token, tokens_of, names_of, named_by, next_line, is_directive}
use Rattle.po_lex.specs.Lexing.{IsKept, IsRead, HasCause, failure}
use Rattle.po_lex.specs.declared.part_kind.PartKind.{PartKind}
use Rattle.po_lex.specs.declared.part_kind.PartKind.TheVariants as l
use Rattle.po_lex.specs.declared.effect.Effect.{Effect}
use Rattle.po_lex.specs.declared.effect.Effect.TheVariants as e
use Rattle.po_lex.specs.declared.position.Position.{Position}
use Rattle.po_lex.specs.declared.lexing.Lexer.{Lexer}
use Rattle.po_lex.specs.declared.lexing.LexFail.{LexFail}
use Rattle.po_lex.specs.declared.lexing.LexFail.TheVariants as f

pub divides_more : (p : Position) (front : List Part) (bytes left : List ℕ) (x : Part) (rest : List ℕ) → Divides p front bytes left →
    Stands (behind_all p front).fresh left x rest → Divides p (front ++ x ∷ []) bytes rest
divides_more p [] bytes left x rest h s = (rest, subst (λ v. Stands p.fresh v x rest) (sym h) s, refl)
divides_more p (y ∷ ys) bytes left x rest h s = (h.0, h.1, divides_more (after p y) ys h.0 left x rest h.2 s)

pub behind_more : (p : Position) (front : List Part) (x : Part) → behind_all p (front ++ x ∷ []) ≡ after (behind_all p front) x
behind_more p [] x = refl
behind_more p (y ∷ ys) x = behind_more (after p y) ys x

pub tokens_more : (p : Position) (front : List Part) (x : Part) →
    tokens_of p (front ++ x ∷ []) ≡ tokens_of p front ++ as_token (token_kind_of x.part_kind) (behind_all p front) x.text
tokens_more p [] x = append-nil (as_token (token_kind_of x.part_kind) p x.text)
tokens_more p (y ∷ ys) x =
    let here : List Token = as_token (token_kind_of y.part_kind) p y.text in
    let last : List Token = as_token (token_kind_of x.part_kind) (behind_all (after p y) ys) x.text in
    ap (λ v. here ++ v) (tokens_more (after p y) ys x) ∙ sym (append_assoc here (tokens_of (after p y) ys) last)

pub names_more : (front : List Part) (x : Part) → names_of (front ++ x ∷ []) ≡ names_of front ++ named_by x.effect
names_more [] x = append-nil (named_by x.effect)
names_more (y ∷ ys) x = ap (λ v. named_by y.effect ++ v) (names_more ys x) ∙ sym (append_assoc (named_by y.effect) (names_of ys) (named_by x.effect))

pub read_more : (name : List ℕ) (front : List Part) (old new : Lexer) (x : Part) → new.position ≡ after old.position x →
    new.names ≡ old.names ++ named_by x.effect →
    ((tokens : List Token) → IsKept old.excess old.list tokens → IsKept new.excess new.list (tokens ++ as_token (token_kind_of x.part_kind) old.position x.text)) →
    IsRead name front old → IsRead name (front ++ x ∷ []) new
read_more name front old new x position names kept h = record {
  position = position ∙ ap (λ v. after v x) h.position ∙ sym (behind_more start front x);
  list = subst (λ v. IsKept new.excess new.list v) (ap (λ v. tokens_of start front ++ as_token (token_kind_of x.part_kind) v x.text) h.position ∙ sym (tokens_more start front x)) (kept (tokens_of start front) h.list);
  names = names ∙ ap (λ v. v ++ named_by x.effect) h.names ∙ ap (λ v. name ∷ v) (sym (names_more front x));
}

pub step : (name bytes left rest : List ℕ) (front : List Part) (old new : Lexer) (x : Part) → Divides start front bytes left →
    IsRead name front old → Stands old.position.fresh left x rest →
    ((name : List ℕ) (front : List Part) → IsRead name front old → IsRead name (front ++ x ∷ []) new) →
    (all : List Part) × Divides start all bytes rest × IsRead name all new
step name bytes left rest front old new x d h s more =
    (front ++ x ∷ [], divides_more start front bytes left x rest d (subst (λ v. Stands v.fresh left x rest) h.position s), more name front h)

-- a number that a line marker gives is small
pub next_small : (part_kind : PartKind) (fresh : Bool) (text : List ℕ) (effect : Effect) (next n : ℕ) → HasEffect part_kind fresh text effect → next ≤ 2 ^ 31 + n →
    next_line effect next ≤ 2 ^ 31 + n
next_small l.Directive fresh text e.Silent next n h k = k
next_small l.Directive fresh text (e.Line m) next n h k =
    let small : m < 2 ^ 31 = ltb-true m (2 ^ 31) h.2 in omega arith
next_small l.Directive fresh text (e.Named m name) next n h k =
    let small : m < 2 ^ 31 = ltb-true m (2 ^ 31) (and_parts (nat_lt m (2 ^ 31)) (is_name name) h.2).0 in omega arith
next_small l.Blank fresh text effect next n h k = rw h k
next_small l.Splice fresh text effect next n h k = rw h k
next_small l.Comment fresh text effect next n h k = rw h k
next_small l.LineComment fresh text effect next n h k = rw h k
next_small l.Word fresh text effect next n h k = rw h k
next_small l.Number fresh text effect next n h k = rw h k
next_small l.Char fresh text effect next n h k = rw h k
next_small l.Str fresh text effect next n h k = rw h k
next_small l.Punctuator fresh text effect next n h k = rw h k

pub few_named : (effect : Effect) → length (named_by effect) ≤ 1
few_named e.Silent = omega arith
few_named (e.Line n) = omega arith
few_named (e.Named n name) = omega arith

pub few_lines : (text : List ℕ) → newlines text ≤ length text
few_lines text = count_by-le-length (λ c. c == 10) text

-- the reader fails where no part stands
pub fails_there : (name bytes left : List ℕ) (front : List Part) (lexer : Lexer) (b : Bool) (fail : LexFail) → Divides start front bytes left →
    IsRead name front lexer → (left ≡ [] → ⊥) → NoneStands lexer.position.fresh left → b ≡ is_directive lexer.position.fresh left →
    fail ≡ failure b lexer.position.own → HasCause bytes fail
fails_there name bytes left front lexer b fail d h some none q same = rw same (cause b q)
  where
    reason : (b : Bool) → b ≡ is_directive lexer.position.fresh left → Fails bytes lexer.position.own b
    reason b q = record {
      front = front;
      left = left;
      divides = d;
      some = some;
      none = subst (λ v. NoneStands v.fresh left) h.position none;
      line_of = ap (λ v. v.own) h.position;
      directive_of = q ∙ ap (λ v. is_directive v.fresh left) h.position;
    }

    cause : (b : Bool) → b ≡ is_directive lexer.position.fresh left → HasCause bytes (failure b lexer.position.own)
    cause true q = reason true q
    cause false q = reason false q

module _ (name bytes left : List ℕ) (front : List Part) (lexer : Lexer) (d : Divides start front bytes left) (h : IsRead name front lexer) (end : left ≡ []) where
  pub all_read : (r : Result Tokens LexFail) →
      IfOk r (λ tokens. (name : List ℕ) (front : List Part) → IsRead name front lexer → (tokens.list ≡ tokens_of start front) × (length tokens.list ≤ 2 ^ 22) × (tokens.names ≡ lexer.names)) →
      IfOk r (λ tokens. AreTokens name bytes tokens)
  all_read (Ok tokens) k = let so = k name front h in
      record { parts = front; divides = subst (λ v. Divides start front bytes v) end d; list = so.0; names = so.2 ∙ h.names; few = so.1 }
  all_read (Err fail) k = tt

  pub too_many : (r : Result Tokens LexFail) →
      IfErr r (λ fail. (fail ≡ f.TooMany) × ((name : List ℕ) (front : List Part) → IsRead name front lexer → 2 ^ 22 < length (tokens_of start front))) →
      IfErr r (λ fail. HasCause bytes fail)
  too_many (Ok tokens) k = tt
  too_many (Err fail) k = rw k.0 (record { parts = front; divides = subst (λ v. Divides start front bytes v) end d; many = k.1 name front h })

pub on_ok-map : {T E : Type 0} {P Q : Type 0} (r : Result T E) → (P → Q) → OnOk r P → OnOk r Q
on_ok-map (Ok x) k h = k h
on_ok-map (Err x) k h = tt
