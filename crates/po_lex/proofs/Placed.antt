-- The file of each token of a file is a place among the file's names.
use Rattle.std.proofs.Common.{◌≡◌, ℕ, suc, ◌+◌, ◌<◌, List, [], ◌∷◌, length, arith, sym, ap, subst, length-append}
use Rattle.std.specs.Prelude.{Option, Some, None}
use Rattle.std.specs.List.{All}
use Rattle.std.proofs.lemmas.List.Elements.{All-nil, All-cons, All-append}
use Rattle.po_base.specs.declared.token.Tokens.{Tokens}
use Rattle.po_base.specs.declared.token.TokenKind.{TokenKind}
use Rattle.po_lex.specs.PartKinds.{token_kind_of}
use Rattle.po_lex.specs.Division.{Part, AreTokens, ArePlaced, after, start, as_token, tokens_of, names_of, named_by}
use Rattle.po_lex.specs.declared.position.Position.{Position}

here : (kind : Option TokenKind) (p : Position) (text : List ℕ) (n : ℕ) → p.named < n → All (λ t. t.file < n) (as_token kind p text)
here None p text n h = All-nil (λ t. t.file < n)
here (Some kind) p text n h = All-cons (λ t. t.file < n) _ [] h (All-nil (λ t. t.file < n))

placed_from : (p : Position) (parts : List Part) (n : ℕ) → p.named + length (names_of parts) < n → All (λ t. t.file < n) (tokens_of p parts)
placed_from p [] n h = All-nil (λ t. t.file < n)
placed_from p (x ∷ xs) n h =
    let many : length (names_of (x ∷ xs)) ≡ length (named_by x.effect) + length (names_of xs) = length-append (named_by x.effect) (names_of xs) in
    All-append (λ t. t.file < n) (as_token (token_kind_of x.part_kind) p x.text) (tokens_of (after p x) xs)
    (here (token_kind_of x.part_kind) p x.text n (omega (arith, h)))
    (placed_from (after p x) xs n (omega (arith, h, many)))

pub placed : (name bytes : List ℕ) (tokens : Tokens) → AreTokens name bytes tokens → ArePlaced tokens
placed name bytes tokens h =
    let many : length tokens.names ≡ suc (length (names_of h.parts)) = ap length h.names in
    subst (λ v. All (λ t. t.file < length tokens.names) v) (sym h.list) (placed_from start h.parts (length tokens.names) (omega (arith, many)))
