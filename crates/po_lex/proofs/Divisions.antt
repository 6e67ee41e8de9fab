-- Kept tokens have one list of pieces at most, or fail on one line, and not both.
use Rattle.std.proofs.Common.{◌≡◌, ℕ, ◌+◌, Bool, true, false, cond, List, [], ◌∷◌, ◌++◌, length, sym, ap, refl, ◌∙◌, subst, inl, inr, append_assoc}
use Rattle.std.specs.Prelude.{Option, Some, None, ◌==◌, ◌⊎◌}
use Rattle.po_base.specs.declared.token.Token.{Token}
use Rattle.po_lex.specs.Brackets.{State, outset, step, ends, mark}
use Rattle.po_lex.specs.Pieces.{goes, IsPiece, Divided, ArePieces, IsStuck, IsOpen, IsLeft, IsMisshapen}
use Rattle.po_lex.specs.declared.shape.Piece.{Piece}

-- the place behind a token that goes on in a piece
abbrev turn : State → Token → Option State
turn s t = cond (ends s t) None (step s t)

-- the tokens go on from here, and stop at the next one
record Stops (from : Option State) (front : List Token) (last : Token) : Type 0 where
  pub before : State
  pub goes_to : goes from front ≡ Some before
  pub stops : turn before last ≡ None

nowhere : (front : List Token) (before : State) → goes None front ≡ Some before → ⊥
nowhere [] before q = absurd (cc)
nowhere (t ∷ ts) before q = absurd (cc)

-- tokens stop in one place
one_stop : (s : Option State) (xs ys : List Token) (t u : Token) (r q : List Token) → xs ++ t ∷ r ≡ ys ++ u ∷ q → Stops s xs t → Stops s ys u →
    (xs ≡ ys) × (t ≡ u) × (r ≡ q)
one_stop s [] [] t u r q e h k = (refl, cc, cc)
one_stop None [] (y ∷ ys) t u r q e h k = absurd (nowhere (y ∷ ys) k.before k.goes_to)
one_stop (Some s) [] (y ∷ ys) t u r q e h k =
    let same : y ≡ t = cc in
    let here : s ≡ h.before = cc in
    let halt : turn s y ≡ None = ap (turn s) same ∙ ap (λ v. turn v t) here ∙ h.stops in
    absurd (nowhere ys k.before (ap (λ v. goes v ys) (sym halt) ∙ k.goes_to))
one_stop None (x ∷ xs) ys t u r q e h k = absurd (nowhere (x ∷ xs) h.before h.goes_to)
one_stop (Some s) (x ∷ xs) [] t u r q e h k =
    let same : x ≡ u = cc in
    let here : s ≡ k.before = cc in
    let halt : turn s x ≡ None = ap (turn s) same ∙ ap (λ v. turn v u) here ∙ k.stops in
    absurd (nowhere xs h.before (ap (λ v. goes v xs) (sym halt) ∙ h.goes_to))
one_stop (Some s) (x ∷ xs) (y ∷ ys) t u r q e h k =
    let same : x ≡ y = cc in
    let rest : xs ++ t ∷ r ≡ ys ++ u ∷ q = cc in
    let there : Stops (turn s x) ys u = record { before = k.before; goes_to = ap (λ v. goes (turn s v) ys) same ∙ k.goes_to; stops = k.stops } in
    let found = one_stop (turn s x) xs ys t u r q rest (record { before = h.before; goes_to = h.goes_to; stops = h.stops }) there in
    (ap (λ v. v ∷ xs) same ∙ ap (λ v. y ∷ v) found.0, found.1, found.2)

-- tokens that stop don't go on to their end
no_end : (s : Option State) (xs : List Token) (t : Token) (r : List Token) (behind : State) → Stops s xs t → goes s (xs ++ t ∷ r) ≡ Some behind → ⊥
no_end None xs t r behind h q = absurd (nowhere xs h.before h.goes_to)
no_end (Some s) [] t r behind h q =
    let here : s ≡ h.before = cc in
    let halt : turn s t ≡ None = ap (λ v. turn v t) here ∙ h.stops in
    nowhere r behind (ap (λ v. goes v r) (sym halt) ∙ q)
no_end (Some s) (x ∷ xs) t r behind h q = no_end (turn s x) xs t r behind (record { before = h.before; goes_to = h.goes_to; stops = h.stops }) q

abbrev no_state : Option State
no_state = None

never : (b : Bool) → cond b no_state no_state ≡ no_state
never true = refl
never false = refl

-- a piece stops at its last token
piece_stops : (xs : List Token) (body : Bool) (h : IsPiece xs body) → Stops (Some outset) h.front h.last
piece_stops xs body h = record { before = h.before; goes_to = h.goes_to; stops = rw h.ends_it refl }

stuck_stops : (left : List Token) (line : ℕ) (h : IsStuck left line) → Stops (Some outset) h.front h.closing
stuck_stops left line h = record { before = h.before; goes_to = h.goes_to; stops = rw h.stuck (never (ends h.before h.closing)) }

-- no piece stands at the front
abbrev NoPiece : List Token → Type 0
NoPiece left = (xs rest : List Token) (body : Bool) → left ≡ xs ++ rest → IsPiece xs body → ⊥

-- a piece and what comes after it
parted : (xs rest : List Token) (body : Bool) (h : IsPiece xs body) → xs ++ rest ≡ h.front ++ h.last ∷ rest
parted xs rest body h = ap (λ v. v ++ rest) h.whole ∙ append_assoc h.front (h.last ∷ []) rest

one_piece : (left xs rest ys more : List Token) (b d : Bool) → left ≡ xs ++ rest → left ≡ ys ++ more → IsPiece xs b → IsPiece ys d →
    (xs ≡ ys) × (rest ≡ more) × (b ≡ d)
one_piece left xs rest ys more b d p q h k =
    let same = one_stop (Some outset) h.front k.front h.last k.last rest more (sym (parted xs rest b h) ∙ sym p ∙ q ∙ parted ys more d k) (piece_stops xs b h) (piece_stops ys d k) in (
      h.whole ∙ ap (λ v. v ++ (h.last ∷ [])) same.0 ∙ ap (λ v. k.front ++ (v ∷ [])) same.1 ∙ sym k.whole,
      same.2,
      h.has_body ∙ ap (λ v. mark v == 125) same.1 ∙ sym k.has_body,
    )

abbrev between : ℕ → ℕ → Bool → Piece
between from to body = record { from = from; to = to; body = body }

same_piece : (p q : Piece) → p.from ≡ q.from → p.to ≡ q.to → p.body ≡ q.body → p ≡ q
same_piece p q from to body = ap (λ v. between v p.to p.body) from ∙ ap (λ v. between q.from v p.body) to ∙ ap (λ v. between q.from q.to v) body

same_division : (at : ℕ) (ps qs : List Piece) (tokens : List Token) (end last : ℕ) (left over : List Token) → Divided at ps tokens end left →
    Divided at qs tokens last over → NoPiece left → NoPiece over → (ps ≡ qs) × (left ≡ over)
same_division at [] [] tokens end last left over h k none other = (refl, sym h.0 ∙ k.0)
same_division at [] (q ∷ qs) tokens end last left over h k none other = absurd (none k.0 k.1 q.body (sym h.0 ∙ k.2) k.3)
same_division at (p ∷ ps) [] tokens end last left over h k none other = absurd (other h.0 h.1 p.body (sym k.0 ∙ h.2) h.3)
same_division at (p ∷ ps) (q ∷ qs) tokens end last left over h k none other =
    let one = one_piece tokens h.0 h.1 k.0 k.1 p.body q.body h.2 k.2 h.3 k.3 in
    let to : p.to ≡ q.to = h.5 ∙ ap (λ v. at + length v) one.0 ∙ sym k.5 in
    let piece : p ≡ q = same_piece p q (h.4 ∙ sym k.4) to one.2 in
    let there : Divided q.to ps k.1 end left = subst (λ v. Divided q.to ps v end left) one.1 (subst (λ v. Divided v ps h.1 end left) to h.6) in
    let rest = same_division q.to ps qs k.1 end last left over there k.6 none other in
    (ap (λ v. v ∷ ps) piece ∙ ap (λ v. q ∷ v) rest.0, rest.1)

not_nothing : (front rest : List Token) (t : Token) → [] ≡ front ++ t ∷ rest → ⊥
not_nothing [] rest t q = absurd (cc)
not_nothing (x ∷ xs) rest t q = absurd (cc)

-- no piece is empty
none_of_nothing : NoPiece []
none_of_nothing [] rest body q h = not_nothing h.front [] h.last h.whole
none_of_nothing (x ∷ xs) rest body q h = absurd (cc)

-- where tokens fail, no piece stands
stuck_none : (left : List Token) (line : ℕ) → IsStuck left line → NoPiece left
stuck_none left line h xs rest body q p =
    let same = one_stop (Some outset) p.front h.front p.last h.closing rest h.rest (sym (parted xs rest body p) ∙ sym q ∙ h.whole) (piece_stops xs body p) (stuck_stops left line h) in
    let there : Some p.before ≡ Some h.before = sym p.goes_to ∙ ap (goes (Some outset)) same.0 ∙ h.goes_to in
    let here : p.before ≡ h.before = cc in
    let halt : Some p.behind ≡ None = sym p.matches ∙ ap (λ v. step v p.last) here ∙ ap (step h.before) same.1 ∙ h.stuck in
    absurd (cc)

ended_none : (left : List Token) (behind : State) → goes (Some outset) left ≡ Some behind → NoPiece left
ended_none left behind q xs rest body w p =
    no_end (Some outset) p.front p.last rest behind (piece_stops xs body p) (ap (goes (Some outset)) (sym (parted xs rest body p) ∙ sym w) ∙ q)

cause_none : (left : List Token) (line : ℕ) → IsStuck left line ⊎ IsOpen left line ⊎ IsLeft left line → NoPiece left
cause_none left line (inl h) = stuck_none left line h
cause_none left line (inr (inl h)) = ended_none left h.behind h.goes_to
cause_none left line (inr (inr h)) = ended_none left h.behind h.goes_to

stuck_on : (left : List Token) (line : ℕ) (behind : State) → IsStuck left line → goes (Some outset) left ≡ Some behind → ⊥
stuck_on left line behind h q = no_end (Some outset) h.front h.closing h.rest behind (stuck_stops left line h) (ap (goes (Some outset)) (sym h.whole) ∙ q)

one_line : (left : List Token) (l m : ℕ) → IsStuck left l ⊎ IsOpen left l ⊎ IsLeft left l → IsStuck left m ⊎ IsOpen left m ⊎ IsLeft left m → l ≡ m
one_line left l m (inl h) (inl k) =
    let same = one_stop (Some outset) h.front k.front h.closing k.closing h.rest k.rest (sym h.whole ∙ k.whole) (stuck_stops left l h) (stuck_stops left m k) in
    h.line_of ∙ ap (λ v. v.own_line) same.1 ∙ sym k.line_of
one_line left l m (inl h) (inr (inl k)) = absurd (stuck_on left l k.behind h k.goes_to)
one_line left l m (inl h) (inr (inr k)) = absurd (stuck_on left l k.behind h k.goes_to)
one_line left l m (inr (inl h)) (inl k) = absurd (stuck_on left m h.behind k h.goes_to)
one_line left l m (inr (inr h)) (inl k) = absurd (stuck_on left m h.behind k h.goes_to)
one_line left l m (inr (inl h)) (inr (inl k)) =
    let same : Some h.behind ≡ Some k.behind = sym h.goes_to ∙ k.goes_to in
    let here : h.behind ≡ k.behind = cc in
    let stack : h.innermost ∷ h.others ≡ k.innermost ∷ k.others = sym h.open_there ∙ ap (λ v. v.stack) here ∙ k.open_there in
    let first : h.innermost ≡ k.innermost = cc in
    h.line_of ∙ ap (λ v. v.line) first ∙ sym k.line_of
one_line left l m (inr (inl h)) (inr (inr k)) =
    let same : Some h.behind ≡ Some k.behind = sym h.goes_to ∙ k.goes_to in
    let here : h.behind ≡ k.behind = cc in
    let stack : h.innermost ∷ h.others ≡ [] = sym h.open_there ∙ ap (λ v. v.stack) here ∙ k.closed in
    absurd (cc)
one_line left l m (inr (inr h)) (inr (inl k)) =
    let same : Some h.behind ≡ Some k.behind = sym h.goes_to ∙ k.goes_to in
    let here : h.behind ≡ k.behind = cc in
    let stack : [] ≡ k.innermost ∷ k.others = sym h.closed ∙ ap (λ v. v.stack) here ∙ k.open_there in
    absurd (cc)
one_line left l m (inr (inr h)) (inr (inr k)) =
    let same : h.first ∷ h.others ≡ k.first ∷ k.others = sym h.whole ∙ k.whole in
    let first : h.first ≡ k.first = cc in
    h.line_of ∙ ap (λ v. v.own_line) first ∙ sym k.line_of

-- nothing doesn't fail
no_cause : (line : ℕ) → IsStuck [] line ⊎ IsOpen [] line ⊎ IsLeft [] line → ⊥
no_cause line (inl h) = not_nothing h.front h.rest h.closing h.whole
no_cause line (inr (inl h)) =
    let start : Some outset ≡ Some h.behind = h.goes_to in
    let here : outset ≡ h.behind = cc in
    let stack : [] ≡ h.innermost ∷ h.others = ap (λ v. v.stack) here ∙ h.open_there in
    absurd (cc)
no_cause line (inr (inr h)) =
    let w : [] ≡ h.first ∷ h.others = h.whole in
    absurd (cc)

pub one_piece_list : (tokens : List Token) (xs ys : List Piece) → ArePieces tokens xs → ArePieces tokens ys → xs ≡ ys
one_piece_list tokens xs ys h k =
    let same = same_division 0 xs ys tokens (length tokens) (length tokens) [] [] h k none_of_nothing none_of_nothing in same.0

pub one_shape_failure : (tokens : List Token) (l m : ℕ) → IsMisshapen tokens l → IsMisshapen tokens m → l ≡ m
one_shape_failure tokens l m h k =
    let same = same_division 0 h.pieces k.pieces tokens h.end k.end h.left k.left h.divided k.divided (cause_none h.left l h.cause) (cause_none k.left m k.cause) in
    let there : IsStuck k.left l ⊎ IsOpen k.left l ⊎ IsLeft k.left l = subst (λ v. IsStuck v l ⊎ IsOpen v l ⊎ IsLeft v l) same.1 h.cause in
    one_line k.left l m there k.cause

pub pieces_or_failure : (tokens : List Token) (xs : List Piece) (line : ℕ) → ArePieces tokens xs → IsMisshapen tokens line → ⊥
pieces_or_failure tokens xs line h k =
    let same = same_division 0 xs k.pieces tokens (length tokens) k.end [] k.left h k.divided none_of_nothing (cause_none k.left line k.cause) in
    let there : IsStuck [] line ⊎ IsOpen [] line ⊎ IsLeft [] line = subst (λ v. IsStuck v line ⊎ IsOpen v line ⊎ IsLeft v line) (sym same.1) k.cause in
    no_cause line there
