-- Marks that are made token by token.
use Rattle.std.proofs.Common.{◌≡◌, ◌∙◌, ℕ, suc, ◌≤◌, ◌<◌, ◌+◌, List, [], ◌∷◌, ◌++◌, length, map, take, drop, get_or, add-one, refl, sym, ap, subst, arith, append_assoc, inl, inr, drop_of_length-le}
use Rattle.std.proofs.Math.Seq.{drop-cons, get_or-append_seam}
use Rattle.std.proofs.lemmas.List.{length-take, get_or-take, length_push, map-append, get_or_append_left}
use Rattle.std.proofs.lemmas.List.Elements.{Contains-append_cases}
use Rattle.std.specs.Prelude.{Contains}
use Rattle.po_base.specs.declared.token.Token.{Token}
use Rattle.po_tree.specs.Statements.{AreNumbered, numbered, old, new, AllDiffer}
use Rattle.po_tree.proofs.Sets.{first_or_later, none_contained, is_first, is_later}
use Rattle.po_fun_heads.specs.Marks.{spot, marked, IsPlaceOf, known, first_seen, Marking}

-- the token at a place of a range

pub token_first : (tokens : List Token) (at to : ℕ) (token : Token) → at < to → at < length tokens → token ≡ get_or tokens at token →
    drop at (take to tokens) ≡ token ∷ drop (at + 1) (take to tokens)
token_first tokens at to token less inside is =
    let size = length-take to tokens in
    let w : drop at (take to tokens) ≡ get_or (take to tokens) at token ∷ drop (at + 1) (take to tokens) = rw add-one (drop-cons (take to tokens) at token (omega (arith, size))) in
    w ∙ ap (λ v. v ∷ drop (at + 1) (take to tokens)) (get_or-take to tokens at token less ∙ sym is)

pub no_token : (tokens : List Token) (at to : ℕ) → to ≤ at → drop at (take to tokens) ≡ []
no_token tokens at to less = let size = length-take to tokens in drop_of_length-le (take to tokens) (omega (arith, size))

pub no_token_past : (tokens : List Token) (at to : ℕ) → length tokens ≤ at → drop at (take to tokens) ≡ []
no_token_past tokens at to less = let size = length-take to tokens in drop_of_length-le (take to tokens) (omega (arith, size))

-- one mark more

numbered_up : {n m : ℕ} {marks : List (ℕ × ℕ)} → AreNumbered n marks m → n ≤ m
numbered_up (numbered n) = omega arith
numbered_up (old n m place line rest h w) = numbered_up w
numbered_up (new n m line rest w) = omega (arith, numbered_up w)

numbered_old : {n m : ℕ} {marks : List (ℕ × ℕ)} (place line : ℕ) → AreNumbered n marks m → place < m → AreNumbered n (marks ++ (place, line) ∷ []) m
numbered_old place line (numbered n) less = old n n place line [] less (numbered n)
numbered_old place line (old n m p l rest h w) less = old n m p l (rest ++ (place, line) ∷ []) h (numbered_old place line w less)
numbered_old place line (new n m l rest w) less = new n m l (rest ++ (place, line) ∷ []) (numbered_old place line w less)

numbered_new : {n m : ℕ} {marks : List (ℕ × ℕ)} (line : ℕ) → AreNumbered n marks m → AreNumbered n (marks ++ (m, line) ∷ []) (suc m)
numbered_new line (numbered n) = new n (suc n) line [] (numbered (suc n))
numbered_new line (old n m p l rest h w) = old n (suc m) p l (rest ++ (m, line) ∷ []) h (numbered_new line w)
numbered_new line (new n m l rest w) = new n (suc m) l (rest ++ (m, line) ∷ []) (numbered_new line w)

-- a name behind the others gives the marks before it no other names
marked_same : {n m : ℕ} {marks : List (ℕ × ℕ)} (names : List (List ℕ)) (name : List ℕ) → AreNumbered n marks m → m ≤ length names → map (marked (names ++ name ∷ [])) marks ≡ map (marked names) marks
marked_same names name (numbered n) few = refl
marked_same names name (old n m place line rest h w) few =
    let up = numbered_up w in
    ap (λ v. (v, line) ∷ map (marked (names ++ name ∷ [])) rest) (get_or_append_left names (name ∷ []) [] place (omega (arith, h, up, few))) ∙ ap (λ v. (get_or names place [], line) ∷ v) (marked_same names name w few)
marked_same names name (new n m line rest w) few =
    let up = numbered_up w in
    ap (λ v. (v, line) ∷ map (marked (names ++ name ∷ [])) rest) (get_or_append_left names (name ∷ []) [] n (omega (arith, up, few))) ∙ ap (λ v. (get_or names n [], line) ∷ v) (marked_same names name w few)

differ_push : (names : List (List ℕ)) (name : List ℕ) → AllDiffer names → (Contains names name → ⊥) → AllDiffer (names ++ name ∷ [])
differ_push [] name h none = ((λ c. none_contained name c), tt)
differ_push (x ∷ names) name h none = (
  λ c. elim (Contains-append_cases names (name ∷ []) x c) [
    | inl d ↦ h.0 d
    | inr d ↦ elim (first_or_later name [] x d) [ inl e ↦ none (subst (λ v. Contains (v ∷ names) name) e (is_first name names)) | inr r ↦ none_contained x r ]
  ],
  differ_push names name h.1 (λ c. none (is_later x names name c)),
)

-- a mark behind the others is that of the first spot that is left
marks_more : {spots left : List (List ℕ × ℕ)} {marks : List (ℕ × ℕ)} {names : List (List ℕ)} (name : List ℕ) (place line : ℕ) {names' : List (List ℕ)} → Marking spots marks names ((name, line) ∷ left) →
    IsPlaceOf names name place names' → Marking spots (marks ++ (place, line) ∷ []) names' left
marks_more {spots} {left} {marks} {names} name place line m (known place' less is) = record {
  order = numbered_old place line m.order less;
  differ = m.differ;
  placed = m.placed ∙ sym (append_assoc (map (marked names) marks) ((name, line) ∷ []) left)
      ∙ ap (λ v. (map (marked names) marks ++ (v, line) ∷ []) ++ left) (sym is) ∙ ap (λ v. v ++ left) (sym (map-append (marked names) marks ((place, line) ∷ [])));
}
marks_more {spots} {left} {marks} {names} name place line m (first_seen none) =
    let all : List (List ℕ) = names ++ name ∷ [] in
    record {
      order = subst (AreNumbered 0 (marks ++ (length names, line) ∷ [])) (sym (length_push names name ∙ add-one (length names))) (numbered_new line m.order);
      differ = differ_push names name m.differ none;
      placed = m.placed ∙ sym (append_assoc (map (marked names) marks) ((name, line) ∷ []) left)
          ∙ ap (λ v. (v ++ (name, line) ∷ []) ++ left) (sym (marked_same names name m.order (omega arith)))
          ∙ ap (λ v. (map (marked all) marks ++ (v, line) ∷ []) ++ left) (sym (get_or-append_seam names name [] []))
          ∙ ap (λ v. v ++ left) (sym (map-append (marked all) marks ((length names, line) ∷ [])));
    }

pub marks_on : {list rest : List Token} {spots : List (List ℕ × ℕ)} {marks marks' : List (ℕ × ℕ)} {names names' : List (List ℕ)} (files : List (List ℕ)) {name : List ℕ} {place : ℕ} (token : Token) →
    Marking spots marks names (map (spot files) list) → list ≡ token ∷ rest → name ≡ get_or files token.file [] → IsPlaceOf names name place names' → marks' ≡ marks ++ (place, token.line) ∷ [] →
    Marking spots marks' names' (map (spot files) rest)
marks_on {rest = rest} {spots} {marks} {names = names} {names' = names'} files {name = name} {place = place} token m q is w last =
    subst (λ v. Marking spots v names' (map (spot files) rest)) (sym last)
    (marks_more name place token.line (subst (λ v. Marking spots marks names ((v, token.line) ∷ map (spot files) rest)) (sym is) (subst (λ v. Marking spots marks names (map (spot files) v)) q m)) w)

pub marks_begun : (spots : List (List ℕ × ℕ)) → Marking spots [] [] spots
marks_begun spots = record { order = numbered 0; differ = tt; placed = refl }

pub is_new : {before after : List (List ℕ)} {name : List ℕ} {place : ℕ} → (Contains before name → ⊥) → place ≡ length before → after ≡ before ++ name ∷ [] → IsPlaceOf before name place after
is_new {before} {after} {name} none q r = subst (λ v. IsPlaceOf before name v after) (sym q) (subst (IsPlaceOf before name (length before)) (sym r) (first_seen none))

pub place_few : {before after : List (List ℕ)} {name : List ℕ} {place : ℕ} → IsPlaceOf before name place after → length after ≤ length before + 1
place_few (known place less is) = omega arith
place_few {before} {name = name} (first_seen none) = let size = length_push before name in omega (arith, size)
