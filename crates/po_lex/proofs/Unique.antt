-- A file has one division at most, and fails in one way at most.
use Rattle.std.proofs.Common.{◌≡◌, ℕ, ◌+◌, ◌<◌, ◌≤◌, Bool, List, [], ◌∷◌, ◌++◌, length, map, arith, sym, ap, refl, ◌∙◌, subst, append_assoc}
use Rattle.std.specs.Prelude.{Option, Some, None}
use Rattle.std.proofs.lemmas.List.{length_push}
use Rattle.po_base.specs.declared.token.Token.{Token}
use Rattle.po_base.specs.declared.token.Tokens.{Tokens}
use Rattle.po_base.specs.declared.token.TokenKind.{TokenKind}
use Rattle.po_lex.specs.PartKinds.{opening, token_kind_of}
use Rattle.po_lex.specs.Division.{Part, Stands, NoneStands, Divides, AreTokens, Fails, HasTooMany, after, behind_all, start, as_token, tokens_of, names_of, is_directive}
use Rattle.po_lex.specs.Keeping.{Keeps, nothing, more, kept_of, size}
use Rattle.po_lex.specs.Pieces.{IsPiece, Divided}
use Rattle.po_lex.specs.Laws.{StandInOrder, Cover}
use Rattle.po_lex.specs.declared.position.Position.{Position}
use Rattle.po_lex.specs.declared.keeping.Context.{Context}
use Rattle.po_lex.specs.declared.shape.Piece.{Piece}
use Rattle.po_lex.proofs.Parts.{one_part}

nowhere : (fresh : Bool) (bytes : List ℕ) (x : Part) (rest : List ℕ) → bytes ≡ [] → Stands fresh bytes x rest → ⊥
nowhere fresh bytes x rest e h =
    let a : 0 < opening x.part_kind bytes = h.some in
    let b : opening x.part_kind bytes ≤ length bytes = h.within in
    let n : length bytes ≡ 0 = ap length e in
    omega arith

same_division : (p : Position) (bytes : List ℕ) (xs ys : List Part) → Divides p xs bytes [] → Divides p ys bytes [] → xs ≡ ys
same_division p bytes [] [] h k = refl
same_division p bytes [] (y ∷ ys) h k = absurd (nowhere p.fresh bytes y k.0 h k.1)
same_division p bytes (x ∷ xs) [] h k = absurd (nowhere p.fresh bytes x h.0 k h.1)
same_division p bytes (x ∷ xs) (y ∷ ys) h k =
    let one = one_part p.fresh bytes x y h.0 k.0 h.1 k.1 in
    let there : Divides (after p y) xs k.0 [] = subst (λ v. Divides (after p y) xs v []) one.1 (subst (λ v. Divides (after p v) xs h.0 []) one.0 h.2) in
    let rest : xs ≡ ys = same_division (after p y) k.0 xs ys there k.2 in
    ap (λ v. v ∷ xs) one.0 ∙ ap (λ v. y ∷ v) rest

pub one_division : (bytes : List ℕ) (xs ys : List Part) → Divides start xs bytes [] → Divides start ys bytes [] → xs ≡ ys
one_division = same_division start

abbrev both : List Token → List (List ℕ) → Tokens
both list names = record { list = list; names = names }

pub one_list : (name bytes : List ℕ) (xs ys : Tokens) → AreTokens name bytes xs → AreTokens name bytes ys → xs ≡ ys
one_list name bytes xs ys h k =
    let parts : h.parts ≡ k.parts = one_division bytes h.parts k.parts h.divides k.divides in
    let list : xs.list ≡ ys.list = h.list ∙ ap (tokens_of start) parts ∙ sym k.list in
    let names : xs.names ≡ ys.names = h.names ∙ ap (λ v. name ∷ names_of v) parts ∙ sym k.names in
    ap (λ v. both v xs.names) list ∙ ap (λ v. both ys.list v) names

-- a division goes past each place at which a part stands
stuck_division : (p : Position) (bytes left : List ℕ) (xs ys : List Part) → Divides p xs bytes left → (left ≡ [] → ⊥) →
    NoneStands (behind_all p xs).fresh left → Divides p ys bytes [] → ⊥
stuck_division p bytes left [] [] h some none k = some (sym h ∙ k)
stuck_division p bytes left [] (y ∷ ys) h some none k = none y k.0 (subst (λ v. Stands p.fresh v y k.0) h k.1)
stuck_division p bytes left (x ∷ xs) [] h some none k = nowhere p.fresh bytes x h.0 k h.1
stuck_division p bytes left (x ∷ xs) (y ∷ ys) h some none k =
    let one = one_part p.fresh bytes y x k.0 h.0 k.1 h.1 in
    let there : Divides (after p x) ys h.0 [] = subst (λ v. Divides (after p x) ys v []) one.1 (subst (λ v. Divides (after p v) ys k.0 []) one.0 k.2) in
    stuck_division (after p x) h.0 left xs ys h.2 some none there

pub no_failure : (bytes : List ℕ) (line : ℕ) (directive : Bool) (ys : List Part) → Divides start ys bytes [] → Fails bytes line directive → ⊥
no_failure bytes line directive ys k f = stuck_division start bytes f.left f.front ys f.divides f.some f.none k

same_failure : (p : Position) (bytes left last : List ℕ) (xs ys : List Part) → Divides p xs bytes left → Divides p ys bytes last →
    NoneStands (behind_all p xs).fresh left → NoneStands (behind_all p ys).fresh last → (behind_all p xs ≡ behind_all p ys) × (left ≡ last)
same_failure p bytes left last [] [] h k none other = (refl, sym h ∙ k)
same_failure p bytes left last [] (y ∷ ys) h k none other = absurd (none y k.0 (subst (λ v. Stands p.fresh v y k.0) h k.1))
same_failure p bytes left last (x ∷ xs) [] h k none other = absurd (other x h.0 (subst (λ v. Stands p.fresh v x h.0) k h.1))
same_failure p bytes left last (x ∷ xs) (y ∷ ys) h k none other =
    let one = one_part p.fresh bytes y x k.0 h.0 k.1 h.1 in
    let there : Divides (after p x) ys h.0 last = subst (λ v. Divides (after p x) ys v last) one.1 (subst (λ v. Divides (after p v) ys k.0 last) one.0 k.2) in
    let none' : NoneStands (behind_all (after p x) ys).fresh last = subst (λ v. NoneStands (behind_all (after p v) ys).fresh last) one.0 other in
    let rest = same_failure (after p x) h.0 left last xs ys h.2 there none none' in
    (rest.0 ∙ ap (λ v. behind_all (after p v) ys) (sym one.0), rest.1)

pub one_failure : (bytes : List ℕ) (l m : ℕ) (b d : Bool) → Fails bytes l b → Fails bytes m d → (l ≡ m) × (b ≡ d)
one_failure bytes l m b d h k =
    let same = same_failure start bytes h.left k.left h.front k.front h.divides k.divides h.none k.none in (
      h.line_of ∙ ap (λ v. v.own) same.0 ∙ sym k.line_of,
      h.directive_of ∙ ap (λ v. is_directive v.fresh h.left) same.0 ∙ ap (is_directive (behind_all start k.front).fresh) same.1 ∙ sym k.directive_of,
    )

pub not_both : (name bytes : List ℕ) (xs : Tokens) → AreTokens name bytes xs → HasTooMany bytes → ⊥
not_both name bytes xs h k =
    let parts : h.parts ≡ k.parts = one_division bytes h.parts k.parts h.divides k.divides in
    let same : length xs.list ≡ length (tokens_of start k.parts) = ap length (h.list ∙ ap (tokens_of start) parts) in
    let few = h.few in
    let many = k.many in
    omega arith

-- a longer gap before the first
in_order_after : (xs : List (List ℕ)) (gap rest : List ℕ) → StandInOrder xs rest → StandInOrder xs (gap ++ rest)
in_order_after [] gap rest h = tt
in_order_after (x ∷ xs) gap rest h =
    (gap ++ h.0, h.1, ap (λ v. gap ++ v) h.2 ∙ sym (append_assoc gap h.0 (x ++ h.1)), h.3)

texts_of : (kind : Option TokenKind) (p : Position) (text rest bytes : List ℕ) (others : List Token) → bytes ≡ text ++ rest →
    StandInOrder (map (λ t. t.text) others) rest → StandInOrder (map (λ t. t.text) (as_token kind p text ++ others)) bytes
texts_of None p text rest bytes others q h = subst (StandInOrder (map (λ t. t.text) others)) (sym q) (in_order_after (map (λ t. t.text) others) text rest h)
texts_of (Some kind) p text rest bytes others q h = ([], rest, q, h)

pub in_order : (p : Position) (xs : List Part) (bytes : List ℕ) → Divides p xs bytes [] → StandInOrder (map (λ t. t.text) (tokens_of p xs)) bytes
in_order p [] bytes h = tt
in_order p (x ∷ xs) bytes h = texts_of (token_kind_of x.part_kind) p x.text h.0 bytes (tokens_of (after p x) xs) h.1.whole (in_order (after p x) xs h.0 h.2)

pub texts_in_order : (name bytes : List ℕ) (tokens : Tokens) → AreTokens name bytes tokens → StandInOrder (map (λ t. t.text) tokens.list) bytes
texts_in_order name bytes tokens h = subst (λ v. StandInOrder (map (λ t. t.text) v) bytes) (sym h.list) (in_order start h.parts bytes h.divides)

same_kept : {m : Context} {tokens xs ys : List Token} → Keeps m tokens xs → Keeps m tokens ys → xs ≡ ys
same_kept (nothing m) (nothing _) = refl
same_kept (more m t us kept h) (more _ _ _ other k) = ap (λ v. kept_of (size m t us) t us ++ v) (same_kept h k)

pub one_kept : (m : Context) (tokens xs ys : List Token) → Keeps m tokens xs → Keeps m tokens ys → xs ≡ ys
one_kept m tokens xs ys h k = same_kept h k

some_tokens : (tokens : List Token) (body : Bool) → IsPiece tokens body → 0 < length tokens
some_tokens tokens body h =
    let n : length tokens ≡ length h.front + 1 = ap length h.whole ∙ length_push h.front h.last in omega arith

pub cover : (at : ℕ) (ps : List Piece) (tokens : List Token) (end : ℕ) → Divided at ps tokens end [] → Cover at ps end
cover at [] tokens end h = h.1
cover at (p ∷ ps) tokens end h =
    let some : 0 < length h.0 = some_tokens h.0 p.body h.3 in
    let from : p.from ≡ at = h.4 in
    let to : p.to ≡ at + length h.0 = h.5 in
    (from, omega arith, cover p.to ps h.1 end h.6)
