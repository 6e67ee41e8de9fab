-- Steps of the reader that keeps tokens.
use Rattle.std.proofs.Common.{◌≡◌, ℕ, ◌+◌, ◌-◌, List, ◌∷◌, ◌++◌, take, drop, arith, sym, ap, ◌∙◌, subst, append_assoc}
use Rattle.std.proofs.lemmas.List.{drop-drop}
use Rattle.po_base.specs.declared.token.Token.{Token}
use Rattle.po_lex.specs.Keeping.{Keeps, more, advance, size, kept_of, at_start}
use Rattle.po_lex.specs.declared.keeping.Context.{Context}

pub keeps_on : (read done grown : List Token) (m now : Context) (at n : ℕ) (t : Token) (us : List Token) → drop at read ≡ t ∷ us → n ≡ size m t us →
    now ≡ advance m (take n (drop at read)) → grown ≡ done ++ kept_of n t us →
    ((kept : List Token) → Keeps m (drop at read) kept → Keeps at_start read (done ++ kept)) →
    (kept : List Token) → Keeps now (drop (at + n) read) kept → Keeps at_start read (grown ++ kept)
keeps_on read done grown m now at n t us parts sized moved grew before kept k =
    let rest : drop (at + n) read ≡ drop n (t ∷ us) = sym (drop-drop n at read) ∙ ap (drop n) parts in
    let context : now ≡ advance m (take n (t ∷ us)) = moved ∙ ap (λ v. advance m (take n v)) parts in
    let one : Keeps (advance m (take n (t ∷ us))) (drop n (t ∷ us)) kept = subst (λ v. Keeps v (drop n (t ∷ us)) kept) context (subst (λ v. Keeps now v kept) rest k) in
    let two : Keeps (advance m (take (size m t us) (t ∷ us))) (drop (size m t us) (t ∷ us)) kept =
    subst (λ v. Keeps (advance m (take v (t ∷ us))) (drop v (t ∷ us)) kept) sized one in
    let three : Keeps m (drop at read) (kept_of n t us ++ kept) =
    subst (λ v. Keeps m v (kept_of n t us ++ kept)) (sym parts) (subst (λ v. Keeps m (t ∷ us) (kept_of v t us ++ kept)) (sym sized) (more m t us kept two)) in
    let four : grown ++ kept ≡ done ++ (kept_of n t us ++ kept) = ap (λ v. v ++ kept) grew ∙ append_assoc done (kept_of n t us) kept in
    subst (Keeps at_start read) (sym four) (before (kept_of n t us ++ kept) three)

-- the tokens that are judged with the one at a place
pub held_of : (at n : ℕ) (us : List Token) → take (at + n - (at + 1)) us ≡ take (n - 1) us
held_of at n us =
    let q : at + n - (at + 1) ≡ n - 1 = omega arith in ap (λ v. take v us) q
