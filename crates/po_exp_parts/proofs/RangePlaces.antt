-- The sign at a place of a range.
use Rattle.std.proofs.Common.{◌≡◌, ◌∙◌, ◌<◌, ◌≤◌, ◌+◌, ℕ, List, [], ◌∷◌, get_or, take, length, ap, sym, refl, subst, arith, Bool, true, false, true≢false, IsTrue, ◌↔◌}
use Rattle.std.specs.Prelude.{Option, Some, None, MatchBool, MatchOption, OnSome}
use Rattle.std.proofs.lemmas.List.{length-take, get_or-take}
use Rattle.po_base.specs.declared.token.Token.{Token}
use Rattle.po_base.specs.declared.token.TokenKind.TheVariants as k
use Rattle.po_tree.specs.Signs.{Sign, sign_of, word}
use Rattle.po_exp_parts.specs.Places.{signs_between, IsEnd, Begins, BeginsWord, BeginsName, BeginsEnd}
use Rattle.po_tree.specs.Words.{IsName}
use Rattle.po_exp_parts.proofs.Standing.{at_place, at_end}

-- what is left from a place on begins with the token there
pub first_at : (tokens : List Token) (at to : ℕ) (token : Token) → at < to → at < length tokens → token ≡ get_or tokens at token →
    signs_between tokens at to ≡ sign_of token ∷ signs_between tokens (at + 1) to
first_at tokens at to token less inside is =
    let size = length-take to tokens in
    at_place at (take to tokens) token (omega (arith, size)) (is ∙ sym (get_or-take to tokens at token less))

-- nothing is left at the end
pub none_at : (tokens : List Token) (at to : ℕ) → to ≤ at → signs_between tokens at to ≡ []
none_at tokens at to less = let size = length-take to tokens in at_end at (take to tokens) (omega (arith, size))

pub none_past : (tokens : List Token) (at to : ℕ) → length tokens ≤ at → signs_between tokens at to ≡ []
none_past tokens at to less = let size = length-take to tokens in at_end at (take to tokens) (omega (arith, size))

-- what a test of the first sign tells

pub stands_by : {signs ts : List Sign} {sign target : Sign} {told : Bool} → signs ≡ sign ∷ ts → IsTrue told ↔ (sign ≡ target) → IsTrue told ↔ Begins target signs
stands_by q h = rw q h

pub stands_behind : {signs ts : List Sign} {sign target : Sign} {told : Bool} → signs ≡ sign ∷ ts → IsTrue told ↔ (sign ≡ target) → IsTrue told → signs ≡ target ∷ ts
stands_behind {ts = ts} q h t = q ∙ ap (λ v. v ∷ ts) (h.0 t)

-- what holds where a test succeeds
pub where_told : {P : Type 0} (told : Bool) → (IsTrue told → P) → MatchBool told P (Unit {0})
where_told true h = h refl
where_told false h = tt

pub stands_nowhere : {signs : List Sign} (target : Sign) → signs ≡ [] → IsTrue false ↔ Begins target signs
stands_nowhere target q = rw q ((λ t. absurd (true≢false (sym t))), (λ b. absurd b))

pub ends_by : {signs ts : List Sign} {sign : Sign} {told : Bool} → signs ≡ sign ∷ ts → IsTrue told ↔ IsEnd sign → IsTrue told ↔ BeginsEnd signs
ends_by q h = rw q h

pub ends_nowhere : {signs : List Sign} → signs ≡ [] → IsTrue false ↔ BeginsEnd signs
ends_nowhere q = rw q ((λ t. absurd (true≢false (sym t))), (λ b. absurd b))

pub no_word : {signs : List Sign} → signs ≡ [] → BeginsWord signs → ⊥
no_word q b = subst BeginsWord q b

pub other_word : {signs ts : List Sign} {sign : Sign} → signs ≡ sign ∷ ts → (sign.kind ≡ k.Word → ⊥) → BeginsWord signs → ⊥
other_word q none b = none (subst BeginsWord q b)

pub word_first : {signs ts : List Sign} {sign : Sign} (text : List ℕ) → signs ≡ sign ∷ ts → sign ≡ word text → signs ≡ word text ∷ ts
word_first {ts = ts} text q w = q ∙ ap (λ v. v ∷ ts) w

-- what is known of an answer that may be none

pub match_map : {T P R : Type 0} {Q S : T → Type 0} (x : Option T) → (P → R) → ((t : T) → Q t → S t) → MatchOption x P Q → MatchOption x R S
match_map None f g h = f h
match_map (Some t) f g h = g t h

pub on_some-always : {T Q : Type 0} (x : Option T) → Q → OnSome x Q
on_some-always None h = tt
on_some-always (Some t) h = h

-- what begins with a name begins with a word

pub name_word : (name : List ℕ) (ts : List Sign) → BeginsName name ts → BeginsWord ts
name_word name [] h = h.1
name_word name (t ∷ ts) h = ap (λ v. v.kind) h.1

pub name_is : (name : List ℕ) {text : List ℕ} {ts us : List Sign} → ts ≡ word text ∷ us → BeginsName name ts → IsName text
name_is name q h = let heads = subst (Begins (word name)) q h.1 in subst IsName (sym (ap (λ v. v.text) heads)) h.0
