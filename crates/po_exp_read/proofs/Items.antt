-- The arguments of a call, read one after the other.
use Rattle.std.proofs.Common.{◌≡◌, ℕ, ◌≤◌, List, [], ◌∷◌, ◌++◌, length, get_or, ap, sym, refl, subst, arith, ◌⊎◌, inl, inr}
use Rattle.std.specs.Prelude.{max}
use Rattle.po_tree.specs.declared.expression.Exp.{Exp}
use Rattle.po_tree.specs.Signs.{Sign, closing, comma}
use Rattle.po_tree.specs.Heights.{height}
use Rattle.po_exp_parts.specs.Continuing.{GoesOn}
use Rattle.po_exp_parts.specs.Places.{Begins}
use Rattle.po_exp_parts.specs.Reading.{Reads, Arguments, no_arguments, arguments, Items, last, further}
use Rattle.po_exp_parts.specs.Finding.{IsBest, IsNone}
use Rattle.po_exp_read.specs.Enclosed.{list_height}
use Rattle.po_exp_read.proofs.Comparing.{Compared, same, longer, shorter, ends_same, goes_on-closing, goes_on-comma}
use Rattle.po_exp_read.proofs.Compared.{reads_compared}
use Rattle.po_exp_parts.proofs.Fronts.{items_no_closing}
use Rattle.po_exp_parts.proofs.Leading.{Leads}
use Rattle.po_exp_read.proofs.Finding.{IsMade}

-- arguments of at most this height
abbrev pub ItemsHere : List (List ℕ) → ℕ → List Sign → List Exp → List Sign → Type 0
ItemsHere types depth ts xs us = Items types ts xs us × (list_height xs ≤ depth)

-- what stands first among arguments, and the sign behind it
record FirstItem (types : List (List ℕ)) (depth : ℕ) (ts : List Sign) (xs : List Exp) (us : List Sign) : Type 0 where
  item : Exp
  sign : Sign
  left : List Sign
  reads : Reads types 1 ts item (sign ∷ left)
  shallow : height item ≤ depth
  parts : (sign ≡ closing) ⊎ (sign ≡ comma)

first_item : {types : List (List ℕ)} {depth : ℕ} {ts us : List Sign} {xs : List Exp} → Items types ts xs us → list_height xs ≤ depth → FirstItem types depth ts xs us
first_item (last x ts us w) h = record { item = x; sign = closing; left = us; reads = w; shallow = omega arith; parts = inl refl }
first_item (further x xs ts us vs w v) h = record { item = x; sign = comma; left = us; reads = w; shallow = omega arith; parts = inr refl }

parted : (sign : Sign) (us : List Sign) → (sign ≡ closing) ⊎ (sign ≡ comma) → GoesOn 1 (sign ∷ us) → ⊥
parted sign us (inl q) g = goes_on-closing 1 us (subst (λ v. GoesOn 1 (v ∷ us)) q g)
parted sign us (inr q) g = goes_on-comma 1 us (omega arith) (subst (λ v. GoesOn 1 (v ∷ us)) q g)

-- no argument stands here
pub item_nowhere : {types : List (List ℕ)} {depth : ℕ} {ts : List Sign} → IsNone height (Reads types 1 ts) depth → (xs : List Exp) (us : List Sign) → ItemsHere types depth ts xs us → ⊥
item_nowhere none xs us w = let f = first_item w.0 w.1 in none f.item (f.sign ∷ f.left) f.reads f.shallow

-- the longest expression is the first argument, where a sign stands behind it that ends an argument
item_same : {types : List (List ℕ)} {x y : Exp} {ts us vs : List Sign} (sign other : Sign) → (sign ≡ closing) ⊎ (sign ≡ comma) → (other ≡ closing) ⊎ (other ≡ comma) →
    Reads types 1 ts x (sign ∷ us) → Reads types 1 ts y (other ∷ vs) → (x ≡ y) × (sign ∷ us ≡ other ∷ vs)
item_same {us = us} {vs = vs} sign other h g w v = ends_same (parted sign us h) (parted other vs g) (reads_compared w v)

unparted : {x y : Exp} {us vs : List Sign} (sign : Sign) → (sign ≡ closing) ⊎ (sign ≡ comma) → (Begins closing us → ⊥) → (Begins comma us → ⊥) → length us ≤ length (sign ∷ vs) →
    Compared {A = Exp} (λ _ ws. GoesOn 1 ws) x us y (sign ∷ vs) → ⊥
unparted sign (inl p) f g h (same q r) = f (subst (Begins closing) (sym r) p)
unparted sign (inr p) f g h (same q r) = g (subst (Begins comma) (sym r) p)
unparted {vs = vs} sign p f g h (longer k goes) = parted sign vs p goes
unparted sign p f g h (shorter k goes) = omega arith

-- no such sign stands behind it: no arguments
pub item_unparted : {types : List (List ℕ)} {depth : ℕ} {ts us : List Sign} {x : Exp} → IsBest height (Reads types 1 ts) depth x us → (Begins closing us → ⊥) → (Begins comma us → ⊥) →
    (xs : List Exp) (vs : List Sign) → ItemsHere types depth ts xs vs → ⊥
item_unparted b f g xs vs w =
    let i = first_item w.0 w.1 in
    unparted i.sign i.parts f g (b.best i.item (i.sign ∷ i.left) i.reads i.shallow) (reads_compared b.stands i.reads)

clash : closing ≡ comma → ⊥
clash q = let texts = ap (λ v. get_or v.text 0 0) q in omega arith

leads_back : {types : List (List ℕ)} {depth : ℕ} {ts rest us : List Sign} {x : Exp} {zs : List Exp} → Reads types 1 ts x (comma ∷ rest) → Items types ts zs us → list_height zs ≤ depth →
    (ys : List Exp) × (zs ≡ x ∷ ys) × ItemsHere types depth rest ys us
leads_back r (last y ts us w) h = let s = item_same comma closing (inr refl) (inl refl) r w in absurd (clash cc)
leads_back {types = types} {rest = rest} r (further y ys ts us vs w v) h =
    let s = item_same comma comma (inr refl) (inr refl) r w in
    let rests : us ≡ rest = cc in
    (ys, ap (λ b. b ∷ ys) (sym s.0), (subst (λ b. Items types b ys vs) rests v, omega arith))

-- one argument, with the comma behind it
pub item_leads : {types : List (List ℕ)} {depth : ℕ} {ts us : List Sign} {x : Exp} (rest : List Sign) → IsBest height (Reads types 1 ts) depth x us → us ≡ comma ∷ rest →
    Leads (ItemsHere types depth ts) (x ∷ []) (ItemsHere types depth rest)
item_leads {types = types} {ts = ts} {x = x} rest b q =
    let r : Reads types 1 ts x (comma ∷ rest) = subst (λ v. Reads types 1 ts x v) q b.stands in
    record {
      forth = λ ys us w. (further x ys ts rest us r w.0, omega (arith, b.shallow, w.1));
      back = λ zs us w. leads_back r w.0 w.1;
    }

ends_back : {types : List (List ℕ)} {ts rest us : List Sign} {x : Exp} {zs : List Exp} → Reads types 1 ts x (closing ∷ rest) → Items types ts zs us → us ≡ rest
ends_back r (last y ts us w) = let s = item_same closing closing (inl refl) (inl refl) r w in cc
ends_back r (further y ys ts us vs w v) = let s = item_same closing comma (inl refl) (inr refl) r w in absurd (clash cc)

pub height_push : (xs : List Exp) (x : Exp) → list_height (xs ++ x ∷ []) ≡ max (list_height xs) (height x)
height_push [] x = omega arith
height_push (y ∷ ys) x = omega (arith, height_push ys x)

-- the last argument, with the parenthesis behind it
pub items_best : {types : List (List ℕ)} {depth : ℕ} {start ts us : List Sign} {xs : List Exp} {x : Exp} (rest : List Sign) →
    Leads (ItemsHere types depth start) xs (ItemsHere types depth ts) → IsBest height (Reads types 1 ts) depth x us → us ≡ closing ∷ rest →
    IsBest list_height (Items types start) depth (xs ++ x ∷ []) rest
items_best {types = types} {ts = ts} {x = x} rest leads b q =
    let r : Reads types 1 ts x (closing ∷ rest) = subst (λ v. Reads types 1 ts x v) q b.stands in
    let whole = leads.forth (x ∷ []) rest (last x ts rest r, omega (arith, b.shallow)) in
    record {
      stands = whole.0;
      shallow = whole.1;
      best = λ zs vs w h. let p = leads.back zs vs (w, h) in omega (arith, ap length (ends_back r p.2.0));
    }

-- behind the parenthesis of a call stands the one that closes it
pub arguments_empty : {types : List (List ℕ)} {depth : ℕ} {ts : List Sign} (rest : List Sign) → ts ≡ closing ∷ rest → IsBest list_height (Arguments types ts) depth [] rest
arguments_empty {types = types} rest q = record {
  stands = subst (λ v. Arguments types v [] rest) (sym q) (no_arguments rest);
  shallow = omega arith;
  best = λ xs vs w h. empty_back rest q w;
}
  where
    empty_back : {types : List (List ℕ)} {ts us : List Sign} {xs : List Exp} (rest : List Sign) → ts ≡ closing ∷ rest → Arguments types ts xs us → length rest ≤ length us
    empty_back rest q (no_arguments ts) = omega (arith, ap length q)
    empty_back rest q (arguments xs ts us w) = absurd (items_no_closing rest q w)

arguments_back : {types : List (List ℕ)} {ts us : List Sign} {xs : List Exp} → (Begins closing ts → ⊥) → Arguments types ts xs us → Items types ts xs us
arguments_back none (no_arguments ts) = absurd (none refl)
arguments_back none (arguments xs ts us w) = w

-- or one argument or more
pub arguments_made : {types : List (List ℕ)} {ts : List Sign} → (Begins closing ts → ⊥) → IsMade (λ xs. xs) 0 list_height (Items types ts) list_height (Arguments types ts)
arguments_made {ts = ts} none = record {
  forth = λ xs us w. arguments xs ts us w;
  back = λ xs us w. (xs, refl, arguments_back none w);
  rises = λ xs. omega arith;
}
