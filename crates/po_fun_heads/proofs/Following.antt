-- Braces behind words, in lists one behind the other, and that a body opens at one place at most.
use Rattle.std.proofs.Common.{◌≡◌, ◌∙◌, Bool, true, false, List, [], ◌∷◌, ◌++◌, drop, map, refl, sym, ap, subst, append_assoc, append-nil, IsTrue, ◌↔◌, true≢false}
use Rattle.std.proofs.lemmas.List.{map-append}
use Rattle.po_base.specs.declared.token.Token.{Token}
use Rattle.po_tree.specs.Signs.{Sign, sign_of, brace}
use Rattle.po_exp_parts.specs.Places.{Begins}
use Rattle.po_fun_heads.specs.Braces.{is_word, BracesFollow, ends_in_word, OpensBody, Passes}

-- behind a word more may stand
pub behind_any : (behind : Bool) (xs : List Sign) → BracesFollow false xs → BracesFollow behind xs
behind_any behind [] h = tt
behind_any behind (x ∷ xs) h = (λ q. let bad : false ≡ true = h.0 q in absurd cc, h.1)

pub follow-append : (behind : Bool) (xs ys : List Sign) → BracesFollow behind xs → BracesFollow false ys → BracesFollow behind (xs ++ ys)
follow-append behind [] ys h g = behind_any behind ys g
follow-append behind (x ∷ xs) ys h g = (h.0, follow-append (is_word x) xs ys h.1 g)

-- one more sign
pub follow-push : (behind : Bool) (xs : List Sign) (x : Sign) → BracesFollow behind xs → (x ≡ brace → ends_in_word behind xs ≡ true) → BracesFollow behind (xs ++ x ∷ [])
follow-push behind [] x h g = (g, tt)
follow-push behind (y ∷ xs) x h g = (h.0, follow-push (is_word y) xs x h.1 g)

pub ends-push : (behind : Bool) (xs : List Sign) (x : Sign) → ends_in_word behind (xs ++ x ∷ []) ≡ is_word x
ends-push behind [] x = refl
ends-push behind (y ∷ xs) x = ends-push (is_word y) xs x

-- behind such signs no brace opens the body
pub never_opens : (behind : Bool) (head left : List Sign) → BracesFollow behind (head ++ (brace ∷ left)) → ends_in_word behind head ≡ false → ⊥
never_opens behind [] left h ends = let bad : false ≡ true = sym ends ∙ h.0 refl in absurd cc
never_opens behind (x ∷ head) left h ends = never_opens (is_word x) head left h.1 ends

same_first : (x y : Sign) (xs ys : List Sign) → x ∷ xs ≡ y ∷ ys → x ≡ y
same_first x y xs ys q = cc

-- of two places where the body opens, one is the other
opens_once : (behind : Bool) (head other left rest : List Sign) → BracesFollow behind head → ends_in_word behind head ≡ false → BracesFollow behind other → ends_in_word behind other ≡ false →
    head ++ (brace ∷ left) ≡ other ++ (brace ∷ rest) → (head ≡ other) × (left ≡ rest)
opens_once behind [] [] left rest h e g f q = (refl, ap (drop 1) q)
opens_once behind [] (y ∷ other) left rest h e g f q = let bad : false ≡ true = sym e ∙ g.0 (sym (same_first brace y left (other ++ (brace ∷ rest)) q)) in absurd cc
opens_once behind (x ∷ head) [] left rest h e g f q = let bad : false ≡ true = sym f ∙ h.0 (same_first x brace (head ++ (brace ∷ left)) rest q) in absurd cc
opens_once behind (x ∷ head) (y ∷ other) left rest h e g f q =
    let same = same_first x y (head ++ (brace ∷ left)) (other ++ (brace ∷ rest)) q in
    let r = opens_once (is_word x) head other left rest h.1 e (subst (λ z. BracesFollow (is_word z) other) (sym same) g.1) (subst (λ z. ends_in_word (is_word z) other ≡ false) (sym same) f) (ap (drop 1) q) in
    (ap (λ z. z ∷ head) same ∙ ap (λ z. y ∷ z) r.0, r.1)

pub one_opening : (signs head left other rest : List Sign) → OpensBody signs head left → OpensBody signs other rest → (head ≡ other) × (left ≡ rest)
one_opening signs head left other rest a b = opens_once false head other left rest a.follow a.ends b.follow b.ends (sym a.parted ∙ b.parted)

-- a walk from sign to sign

-- a sign is passed that opens no body
pub passes_one : {signs left rest : List Sign} (tokens : List Token) {behind told : Bool} (token : Token) → Passes signs (map sign_of tokens) left behind → left ≡ sign_of token ∷ rest →
    (IsTrue told ↔ ((behind ≡ false) × Begins brace left)) → told ≡ false → Passes signs (map sign_of (tokens ++ token ∷ [])) rest (is_word (sign_of token))
passes_one {signs} {left} {rest} tokens {behind} {told} token p first tells not =
    let head : List Sign = map sign_of tokens in
    let more : map sign_of (tokens ++ token ∷ []) ≡ head ++ sign_of token ∷ [] = map-append sign_of tokens (token ∷ []) in
    subst (λ v. Passes signs v rest (is_word (sign_of token))) (sym more) (record {
      parted = p.parted ∙ ap (λ v. head ++ v) first ∙ sym (append_assoc head (sign_of token ∷ []) rest);
      follow = follow-push false head (sign_of token) p.follow (λ q. p.ends ∙ behind_true behind (λ b. true≢false (sym (tells.1 (b, subst (Begins brace) (sym first) q)) ∙ not)));
      ends = ends-push false head (sign_of token);
    })
  where
    behind_true : (b : Bool) → (b ≡ false → ⊥) → b ≡ true
    behind_true true h = refl
    behind_true false h = absurd (h refl)

-- the brace opens the body
pub opened : {signs head left rest : List Sign} {behind : Bool} → Passes signs head left behind → behind ≡ false → left ≡ brace ∷ rest → OpensBody signs head rest
opened {head = head} p b q = record { parted = p.parted ∙ ap (λ v. head ++ v) q; follow = p.follow; ends = p.ends ∙ b }

-- all was passed, so no body opens
pub none_opened : {signs passed left : List Sign} {behind : Bool} → Passes signs passed left behind → left ≡ [] → (head rest : List Sign) → OpensBody signs head rest → ⊥
none_opened {passed = passed} p none head rest o =
    let all = p.parted ∙ ap (λ v. passed ++ v) none ∙ append-nil passed in
    never_opens false head rest (subst (BracesFollow false) (sym all ∙ o.parted) p.follow) o.ends
