-- Steps of a walk over tokens, and the pieces that it finds.
use Rattle.std.proofs.Common.{◌≡◌, ℕ, ◌+◌, ◌-◌, ◌<◌, ◌≤◌, Bool, true, false, cond, List, [], ◌∷◌, ◌++◌, length, get_or, take, drop, arith, sym, ap, refl, ◌∙◌, subst, inl, inr}
use Rattle.std.specs.Prelude.{Option, Some, None, ◌==◌, reverse}
use Rattle.std.proofs.lemmas.List.{drop_more, drop-drop, take-append-drop, take_more, get_or-drop, length-drop, length-take-le, take_all, reverse-append}
use Rattle.po_base.specs.declared.token.Token.{Token}
use Rattle.po_lex.specs.Brackets.{State, outset, step, ends, mark}
use Rattle.po_lex.specs.Pieces.{goes, IsPiece, Divided, IsMisshapen}
use Rattle.po_lex.specs.declared.nesting.Open.{Open}
use Rattle.po_lex.specs.declared.shape.Piece.{Piece}

-- one more token of a part
pub one_more_token : (tokens : List Token) (from at : ℕ) (t : Token) → from ≤ at → at < length tokens → t ≡ get_or tokens at t →
    take (at + 1 - from) (drop from tokens) ≡ take (at - from) (drop from tokens) ++ (t ∷ [])
one_more_token tokens from at t low high q =
    let n : at + 1 - from ≡ (at - from) + 1 = omega arith in
    let m : from + (at - from) ≡ at = omega arith in
    let room : at - from < length (drop from tokens) = simp length-drop (omega arith) in
    let item : get_or (drop from tokens) (at - from) t ≡ t = get_or-drop from tokens (at - from) t ∙ ap (λ k. get_or tokens k t) m ∙ sym q in
    rw n (take_more (drop from tokens) (at - from) t room ∙ ap (λ v. take (at - from) (drop from tokens) ++ (v ∷ [])) item)

-- what is left, with a token after its front
pub left_parts : (tokens : List Token) (from at : ℕ) (t : Token) → from ≤ at → at < length tokens → t ≡ get_or tokens at t →
    drop from tokens ≡ take (at - from) (drop from tokens) ++ (t ∷ drop (at + 1) tokens)
left_parts tokens from at t low high q =
    let m : from + (at - from) ≡ at = omega arith in
    let d : drop (at - from) (drop from tokens) ≡ drop at tokens = drop-drop (at - from) from tokens ∙ ap (λ k. drop k tokens) m in
    let e : drop at tokens ≡ t ∷ drop (at + 1) tokens = drop_more tokens at t high ∙ ap (λ v. v ∷ drop (at + 1) tokens) (sym q) in
    sym (take-append-drop (at - from) (drop from tokens)) ∙ ap (λ v. take (at - from) (drop from tokens) ++ v) (d ∙ e)

pub goes_push : (s : Option State) (xs : List Token) (t : Token) (u : State) → goes s xs ≡ Some u →
    goes s (xs ++ t ∷ []) ≡ cond (ends u t) None (step u t)
goes_push s [] t u q = rw q refl
goes_push None (x ∷ xs) t u q = absurd (cc)
goes_push (Some v) (x ∷ xs) t u q = goes_push (cond (ends v x) None (step v x)) xs t u q

pub divided_push : (at : ℕ) (ps : List Piece) (tokens : List Token) (end : ℕ) (left xs rest : List Token) (p : Piece) → Divided at ps tokens end left →
    left ≡ xs ++ rest → IsPiece xs p.body → p.from ≡ end → p.to ≡ end + length xs → Divided at (ps ++ p ∷ []) tokens p.to rest
divided_push at [] tokens end left xs rest p h q piece from to = (xs, rest, h.0 ∙ q, piece, from ∙ sym h.1, to ∙ ap (λ v. v + length xs) (sym h.1), (refl, refl))
divided_push at (y ∷ ys) tokens end left xs rest p h q piece from to =
    (h.0, h.1, h.2, h.3, h.4, h.5, divided_push y.to ys h.1 end left xs rest p h.6 q piece from to)

module _ (tokens : List Token) (from at : ℕ) (t : Token) (low : from ≤ at) (high : at < length tokens) (item : t ≡ get_or tokens at t)
    (u : State) (so : goes (Some outset) (take (at - from) (drop from tokens)) ≡ Some u) where
  pub goes_more : (v : State) → ends u t ≡ false → step u t ≡ Some v → goes (Some outset) (take (at + 1 - from) (drop from tokens)) ≡ Some v
  goes_more v e q =
      let p = goes_push (Some outset) (take (at - from) (drop from tokens)) t u so in
      rw (one_more_token tokens from at t low high item) (p ∙ ap (λ b. cond b None (step u t)) e ∙ q)

  pub piece_found : (v : State) → ends u t ≡ true → step u t ≡ Some v → IsPiece (take (at + 1 - from) (drop from tokens)) (mark t == 125)
  piece_found v e q = record {
    front = take (at - from) (drop from tokens);
    last = t;
    before = u;
    behind = v;
    whole = one_more_token tokens from at t low high item;
    goes_to = so;
    ends_it = e;
    matches = q;
    has_body = refl;
  }

  pub stuck_there : (pieces : List Piece) → Divided 0 pieces tokens from (drop from tokens) → step u t ≡ None → IsMisshapen tokens t.own_line
  stuck_there pieces d q = record {
    pieces = pieces;
    end = from;
    left = drop from tokens;
    divided = d;
    cause = inl (record {
      front = take (at - from) (drop from tokens);
      closing = t;
      rest = drop (at + 1) tokens;
      before = u;
      whole = left_parts tokens from at t low high item;
      goes_to = so;
      stuck = q;
      line_of = refl;
    });
  }

  pub one_piece_more : (pieces : List Piece) (p : Piece) (v : State) → Divided 0 pieces tokens from (drop from tokens) → ends u t ≡ true → step u t ≡ Some v →
      p.body ≡ (mark t == 125) → p.from ≡ from → p.to ≡ at + 1 → Divided 0 (pieces ++ p ∷ []) tokens (at + 1) (drop (at + 1) tokens)
  one_piece_more pieces p v d e q body from' to =
      let xs : List Token = take (at + 1 - from) (drop from tokens) in
      let room : length (drop from tokens) ≡ length tokens - from = length-drop from tokens in
      let long : length xs ≡ at + 1 - from = length-take-le (at + 1 - from) (drop from tokens) (omega arith) in
      let m : from + (at + 1 - from) ≡ at + 1 = omega arith in
      let behind : drop (at + 1 - from) (drop from tokens) ≡ drop (at + 1) tokens = drop-drop (at + 1 - from) from tokens ∙ ap (λ k. drop k tokens) m in
      let parts : drop from tokens ≡ xs ++ drop (at + 1) tokens =
      sym (take-append-drop (at + 1 - from) (drop from tokens)) ∙ ap (λ v. xs ++ v) behind in
      let all : Divided 0 (pieces ++ p ∷ []) tokens p.to (drop (at + 1) tokens) =
      divided_push 0 pieces tokens from (drop from tokens) xs (drop (at + 1) tokens) p d parts (subst (λ b. IsPiece xs b) (sym body) (piece_found v e q)) from' (omega arith) in
      subst (λ n. Divided 0 (pieces ++ p ∷ []) tokens n (drop (at + 1) tokens)) to all

pub nothing_yet : (tokens : List Token) (at : ℕ) (s : State) → s ≡ outset → goes (Some outset) (take (at + 1 - (at + 1)) (drop (at + 1) tokens)) ≡ Some s
nothing_yet tokens at s q =
    let n : at + 1 - (at + 1) ≡ 0 = omega arith in rw n (ap Some (sym q))

pub open_at_end : (tokens : List Token) (from at : ℕ) (pieces : List Piece) (open' rest : List Open) (x : Open) (begins : Bool) → length tokens ≤ at →
    goes (Some outset) (take (at - from) (drop from tokens)) ≡ Some (record { stack = reverse open'; begins = begins }) → open' ≡ rest ++ x ∷ [] →
    Divided 0 pieces tokens from (drop from tokens) → IsMisshapen tokens x.line
open_at_end tokens from at pieces open' rest x begins over so parts d =
    let whole : take (at - from) (drop from tokens) ≡ drop from tokens = take_all (at - from) (drop from tokens) (simp length-drop (omega arith)) in
    record {
      pieces = pieces;
      end = from;
      left = drop from tokens;
      divided = d;
      cause = inr (inl (record {
        behind = record { stack = reverse open'; begins = begins };
        innermost = x;
        others = reverse rest;
        goes_to = ap (goes (Some outset)) (sym whole) ∙ so;
        open_there = ap reverse parts ∙ reverse-append rest (x ∷ []);
        line_of = refl;
      }));
    }
