-- The sign at a place.
use Rattle.std.proofs.Math.Seq.{drop-cons}
use Rattle.std.proofs.Common.{get_or, drop, drop_of_length-le, ◌≤◌, ◌≡◌, ◌<◌, ◌+◌, ℕ, zero, suc, List, [], ◌∷◌, map, length, add-one, arith, ap, sym, subst, refl, ◌∙◌}
use Rattle.po_base.specs.declared.token.Token.{Token}
use Rattle.po_tree.specs.Signs.{Sign, sign_of, word}
use Rattle.po_exp_parts.specs.Places.{Begins, BeginsWord, signs_from}

standing : (n : ℕ) (tokens : List Token) (sign : Sign) → Begins sign (signs_from tokens n) →
    (signs_from tokens n ≡ sign ∷ signs_from tokens (suc n)) × (n < length tokens)
standing zero [] sign h = absurd h
standing zero (t ∷ ts) sign h = (ap (λ v. v ∷ map sign_of ts) h, omega arith)
standing (suc n) [] sign h = absurd h
standing (suc n) (t ∷ ts) sign h = let p = standing n ts sign h in (p.0, omega (arith, p.1))

-- a sign that stands at a place is the first from there on
pub stands_first : (n : ℕ) (tokens : List Token) (sign : Sign) → Begins sign (signs_from tokens n) → signs_from tokens n ≡ sign ∷ signs_from tokens (n + 1)
stands_first n tokens sign h = rw add-one (standing n tokens sign h).0

-- its place is one of the list
pub stands_within : (n : ℕ) (tokens : List Token) (sign : Sign) → Begins sign (signs_from tokens n) → n < length tokens
stands_within n tokens sign h = (standing n tokens sign h).1

-- signs that begin with a word begin with some word
pub word_begins : {text : List ℕ} {ts us : List Sign} → ts ≡ word text ∷ us → BeginsWord ts
word_begins q = subst BeginsWord (sym q) refl

-- what is left from a place on begins with the token there
pub at_place : (n : ℕ) (tokens : List Token) (token : Token) → n < length tokens → token ≡ get_or tokens n token → signs_from tokens n ≡ sign_of token ∷ signs_from tokens (n + 1)
at_place n tokens token h q =
    let w : drop n tokens ≡ get_or tokens n token ∷ drop (n + 1) tokens = rw add-one (drop-cons tokens n token h) in
    ap (map sign_of) (w ∙ ap (λ v. v ∷ drop (n + 1) tokens) (sym q))

-- nothing is left at the end
pub at_end : (n : ℕ) (tokens : List Token) → length tokens ≤ n → signs_from tokens n ≡ []
at_end n tokens h = ap (map sign_of) (drop_of_length-le tokens h)
