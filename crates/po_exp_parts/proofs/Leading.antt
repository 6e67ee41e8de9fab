-- Lists that are read item by item, with what is known at their end.
use Rattle.std.proofs.Common.{◌≡◌, ◌∙◌, List, [], ◌++◌, subst, sym, ap, refl, append_assoc, append-nil}

-- the first of the items of a whole are xs, and the items behind them are what can stand in the rest
pub record Leads {A B : Type 0} (Whole : List A → B → Type 0) (xs : List A) (Rest : List A → B → Type 0) : Type 0 where
  pub forth : (ys : List A) (end : B) → Rest ys end → Whole (xs ++ ys) end
  pub back : (zs : List A) (end : B) → Whole zs end → (ys : List A) × (zs ≡ xs ++ ys) × Rest ys end

module _ {A B : Type 0} where
  -- nothing is read yet
  pub leads_start : {Whole : List A → B → Type 0} → Leads Whole [] Whole
  leads_start = record { forth = λ ys us w. w; back = λ zs us w. (zs, refl, w) }

  -- first some items are read, and then more
  pub leads_on : {Whole Rest Last : List A → B → Type 0} {xs ys : List A} → Leads Whole xs Rest → Leads Rest ys Last → Leads Whole (xs ++ ys) Last
  leads_on {Whole = Whole} {xs = xs} {ys = ys} first next = record {
    forth = λ zs us w. subst (λ v. Whole v us) (sym (append_assoc xs ys zs)) (first.forth (ys ++ zs) us (next.forth zs us w));
    back = λ zs us w.
        let p = first.back zs us w in
        let q = next.back p.0 us p.2 in
        (q.0, p.1 ∙ ap (λ v. xs ++ v) q.1 ∙ sym (append_assoc xs ys q.0), q.2);
  }

  -- all items are read
  pub leads_end : {Whole Rest : List A → B → Type 0} {xs : List A} {end : B} → Leads Whole xs Rest → Rest [] end → Whole xs end
  leads_end {Whole = Whole} {xs = xs} {end = end} leads w = subst (λ v. Whole v end) (append-nil xs) (leads.forth [] end w)

  -- nothing can stand behind the items so far
  pub leads_nowhere : {Whole Rest : List A → B → Type 0} {xs : List A} → Leads Whole xs Rest → ((ys : List A) (end : B) → Rest ys end → ⊥) →
      (zs : List A) (end : B) → Whole zs end → ⊥
  leads_nowhere leads none zs end w = let p = leads.back zs end w in none p.0 end p.2
