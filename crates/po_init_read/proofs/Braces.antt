-- Braces open, go on behind a comma, and close.
use Rattle.std.proofs.Common.{◌≡◌, ℕ, ◌≤◌, List, [], ◌∷◌, ◌++◌, map, ap, sym, ◌∙◌, refl, subst, arith, drop, append_assoc, Some, None}
use Rattle.std.specs.Prelude.{Option, Bool, true, false}
use Rattle.po_tree.specs.declared.declaration.Init.{Init}
use Rattle.po_tree.specs.declared.declaration.Init.TheVariants as init
use Rattle.po_tree.specs.Signs.{Sign, comma, brace, brace_end}
use Rattle.po_tree.specs.Printing.{flat_init}
use Rattle.po_tree.specs.Heights.{init_height, greatest}
use Rattle.po_tree.specs.Declarations.{IsInit, one, many, AllInits, no_more_inits, one_more_init}
use Rattle.po_exp_parts.specs.Places.{Begins}
use Rattle.po_init_read.specs.Initialisers.{StandsEnded}
use Rattle.po_init_read.specs.Completing.{Completes, item, next, closed, closed_behind_comma, Alike}
use Rattle.po_init_read.proofs.Layers.{init_height-Many}
use Rattle.po_init_read.proofs.Fronts.{no_expression}
use Rattle.po_init_read.proofs.Ended.{stands_at}
use Rattle.po_init_read.proofs.Behind.{behind_first, behind_next, behind_ends, flat_braces, first_formed, others_formed, comma_brace_end, no_brace_end}
use Rattle.po_init_read.proofs.Values.{completes_ended}

tails : {a b : Sign} {us vs : List Sign} → a ∷ us ≡ b ∷ vs → us ≡ vs
tails q = ap (drop 1) q

-- Behind an item the others and the closing brace are read one after the other.
behind_item : {types : List (List ℕ)} {outer : List (List Init)} {y : Init} {left : List Sign} {xs : List Init} (before : List Init) (x : Init) (more : Bool) (us : List Sign) →
    AllInits types xs → greatest (map init_height xs) ≤ 256 → Completes types outer (Some (init.Many (before ++ x ∷ xs) more)) us y left →
    Completes types (before ∷ outer) (Some x) (behind_first xs more us) y left
behind_item {outer = outer} {y = y} {left = left} before x true us no_more_inits low c = closed_behind_comma outer before x y us left c
behind_item {outer = outer} {y = y} {left = left} before x false us no_more_inits low c = closed outer before x y us left c
behind_item {types = types} {outer = outer} {y = y} {left = left} before x more us (one_more_init z zs first others) low c =
    let here : StandsEnded types (flat_init z ++ behind_first zs more us) z (behind_first zs more us) =
    record { formed = first; nested = omega (arith, low); printed = refl; ended = behind_ends zs more us } in
    let inside = subst (λ v. Completes types outer (Some (init.Many v more)) us y left) (sym (append_assoc before (x ∷ []) (z ∷ zs))) c in
    let behind = behind_item (before ++ x ∷ []) z more us others (omega (arith, low)) inside in
    subst (λ v. Completes types (before ∷ outer) (Some x) v y left) (sym (behind_next z zs more us))
    (next outer before x y (flat_init z ++ behind_first zs more us) left
    (item ((before ++ x ∷ []) ∷ outer) z y (flat_init z ++ behind_first zs more us) (behind_first zs more us) left here behind))

opened_from : {types : List (List ℕ)} {outer : List (List Init)} {ts left : List Sign} {x y : Init} (us : List Sign) → IsInit types x → init_height x ≤ 256 →
    brace ∷ ts ≡ flat_init x ++ us → Completes types outer (Some x) us y left → Completes types ([] ∷ outer) None ts y left
opened_from us (one m x high formed) low q c = absurd (no_expression refl (stands_at us m x high formed low q))
opened_from {types = types} {outer = outer} {ts = ts} {left = left} {y = y} us (many x xs more all) low q c =
    let lows : greatest (map init_height (x ∷ xs)) ≤ 256 = omega (arith, init_height-Many (x ∷ xs) more, low) in
    let here : StandsEnded types ts x (behind_first xs more us) = record {
      formed = first_formed all;
      nested = omega (arith, lows);
      printed = tails (q ∙ flat_braces x xs more us);
      ended = behind_ends xs more us;
    } in
    item ([] ∷ outer) x y ts (behind_first xs more us) left here (behind_item [] x more us (others_formed all) (omega (arith, lows)) c)

opened : {types : List (List ℕ)} {outer : List (List Init)} {ts us left : List Sign} {y : Init} → ts ≡ brace ∷ us → Completes types outer None ts y left →
    Completes types ([] ∷ outer) None us y left
opened q (item outer x y ts us left s c) = opened_from us s.formed s.nested (sym q ∙ s.printed) c

-- what the innermost braces become, where they are completed from an item on that is wanted
record Filled (types : List (List ℕ)) (outer : List (List Init)) (before : List Init) (ts : List Sign) (y : Init) (left : List Sign) : Type 0 where
  first : Init
  others : List Init
  more : Bool
  behind : List Sign
  formed : IsInit types first
  all : AllInits types others
  low : init_height first ≤ 256
  lows : greatest (map init_height others) ≤ 256
  printed : ts ≡ flat_init first ++ behind_first others more behind
  completes : Completes types outer (Some (init.Many (before ++ first ∷ others) more)) behind y left

-- the same behind an item
abbrev FilledFrom : List (List ℕ) → List (List Init) → List Init → Option Init → List Sign → Init → List Sign → Type 0
FilledFrom types outer before None ts y left = Filled types outer before ts y left
FilledFrom types outer before (Some x) us y left = (ts : List Sign) → StandsEnded types ts x us → Filled types outer before ts y left

filled : {types : List (List ℕ)} {outer : List (List Init)} {before : List Init} {last : Option Init} {ts left : List Sign} {y : Init} →
    Completes types (before ∷ outer) last ts y left → FilledFrom types outer before last ts y left
filled (item braces x y ts us left s c) = filled c ts s
filled {types = types} (next outer xs x y ts left c) =
    let f = filled c in
    λ signs s. record {
      first = x;
      others = f.first ∷ f.others;
      more = f.more;
      behind = f.behind;
      formed = s.formed;
      all = one_more_init f.first f.others f.formed f.all;
      low = s.nested;
      lows = omega (arith, f.low, f.lows);
      printed = s.printed ∙ ap (λ v. flat_init x ++ comma ∷ v) f.printed ∙ ap (λ v. flat_init x ++ v) (sym (behind_next f.first f.others f.more f.behind));
      completes = subst (λ v. Completes types outer (Some (init.Many v f.more)) f.behind y left) (append_assoc xs (x ∷ []) (f.first ∷ f.others)) f.completes;
    }
filled (closed outer xs x y ts left c) = λ signs s. record {
  first = x;
  others = [];
  more = false;
  behind = ts;
  formed = s.formed;
  all = no_more_inits;
  low = s.nested;
  lows = omega arith;
  printed = s.printed;
  completes = c;
}
filled (closed_behind_comma outer xs x y ts left c) = λ signs s. record {
  first = x;
  others = [];
  more = true;
  behind = ts;
  formed = s.formed;
  all = no_more_inits;
  low = s.nested;
  lows = omega arith;
  printed = s.printed;
  completes = c;
}

closed_again : {types : List (List ℕ)} {outer : List (List Init)} {ts us left : List Sign} {y : Init} → ts ≡ brace ∷ us → Completes types ([] ∷ outer) None us y left →
    Completes types outer None ts y left
closed_again {types = types} {outer = outer} {ts = ts} {left = left} {y = y} q c =
    let f = filled c in
    let here : StandsEnded types ts (init.Many (f.first ∷ f.others) f.more) f.behind = record {
      formed = many f.first f.others f.more (one_more_init f.first f.others f.formed f.all);
      nested = omega (arith, init_height-Many (f.first ∷ f.others) f.more, f.low, f.lows);
      printed = q ∙ ap (λ v. brace ∷ v) f.printed ∙ sym (flat_braces f.first f.others f.more f.behind);
      ended = completes_ended f.completes;
    } in
    item outer (init.Many (f.first ∷ f.others) f.more) y ts f.behind left here f.completes

-- a brace opens
pub opening_alike : {types : List (List ℕ)} {outer braces : List (List Init)} {ts us : List Sign} → ts ≡ brace ∷ us → braces ≡ [] ∷ outer →
    Alike types outer None ts braces None us
opening_alike {types = types} {us = us} q r = record {
  forth = λ y left c. subst (λ b. Completes types b None us y left) (sym r) (opened q c);
  back = λ y left c. closed_again q (subst (λ b. Completes types b None us y left) r c);
}

closes : {types : List (List ℕ)} {outer : List (List Init)} {xs : List Init} {ts us left : List Sign} {x y : Init} → ts ≡ brace_end ∷ us →
    Completes types (xs ∷ outer) (Some x) ts y left → Completes types outer (Some (init.Many (xs ++ x ∷ []) false)) us y left
closes q (next outer xs x y ts left c) = absurd (comma_brace_end q)
closes {types = types} q (closed outer xs x y ts left c) = subst (λ v. Completes types outer (Some (init.Many (xs ++ x ∷ []) false)) v y left) (tails q) c
closes q (closed_behind_comma outer xs x y ts left c) = absurd (comma_brace_end q)

-- a brace closes
pub closing_alike : {types : List (List ℕ)} {braces outer : List (List Init)} {xs items : List Init} {x : Init} {ts us : List Sign} → ts ≡ brace_end ∷ us →
    braces ≡ xs ∷ outer → items ≡ xs ++ x ∷ [] → Alike types braces (Some x) ts outer (Some (init.Many items false)) us
closing_alike {types = types} {outer = outer} {xs = xs} {x = x} {ts = ts} {us = us} q r s = record {
  forth = λ y left c. subst (λ v. Completes types outer (Some (init.Many v false)) us y left) (sym s)
      (closes q (subst (λ b. Completes types b (Some x) ts y left) r c));
  back = λ y left c.
      let inside = subst (λ v. Completes types outer (Some (init.Many v false)) us y left) s c in
      subst (λ b. Completes types b (Some x) ts y left) (sym r) (subst (λ v. Completes types (xs ∷ outer) (Some x) v y left) (sym q) (closed outer xs x y us left inside));
}

no_item : {types : List (List ℕ)} {braces : List (List Init)} {ts us left : List Sign} {y : Init} → ts ≡ brace_end ∷ us → Completes types braces None ts y left → ⊥
no_item {us = us} q (item braces x y ts vs left s c) = no_brace_end vs us s.formed s.nested (sym s.printed ∙ q)

closes_behind_comma : {types : List (List ℕ)} {outer : List (List Init)} {xs : List Init} {ts us left : List Sign} {x y : Init} → ts ≡ comma ∷ (brace_end ∷ us) →
    Completes types (xs ∷ outer) (Some x) ts y left → Completes types outer (Some (init.Many (xs ++ x ∷ []) true)) us y left
closes_behind_comma q (next outer xs x y ts left c) = absurd (no_item (tails q) c)
closes_behind_comma q (closed outer xs x y ts left c) = absurd (comma_brace_end (sym q))
closes_behind_comma {types = types} q (closed_behind_comma outer xs x y ts left c) =
    subst (λ v. Completes types outer (Some (init.Many (xs ++ x ∷ []) true)) v y left) (tails (tails q)) c

-- a brace closes behind a comma
pub closing_behind_comma_alike : {types : List (List ℕ)} {braces outer : List (List Init)} {xs items : List Init} {x : Init} {ts us : List Sign} → ts ≡ comma ∷ (brace_end ∷ us) →
    braces ≡ xs ∷ outer → items ≡ xs ++ x ∷ [] → Alike types braces (Some x) ts outer (Some (init.Many items true)) us
closing_behind_comma_alike {types = types} {outer = outer} {xs = xs} {x = x} {ts = ts} {us = us} q r s = record {
  forth = λ y left c. subst (λ v. Completes types outer (Some (init.Many v true)) us y left) (sym s)
      (closes_behind_comma q (subst (λ b. Completes types b (Some x) ts y left) r c));
  back = λ y left c.
      let inside = subst (λ v. Completes types outer (Some (init.Many v true)) us y left) s c in
      subst (λ b. Completes types b (Some x) ts y left) (sym r)
      (subst (λ v. Completes types (xs ∷ outer) (Some x) v y left) (sym q) (closed_behind_comma outer xs x y us left inside));
}

goes_on : {types : List (List ℕ)} {outer : List (List Init)} {xs : List Init} {ts us left : List Sign} {x y : Init} → ts ≡ comma ∷ us → (Begins brace_end us → ⊥) →
    Completes types (xs ∷ outer) (Some x) ts y left → Completes types ((xs ++ x ∷ []) ∷ outer) None us y left
goes_on {types = types} q none (next outer xs x y ts left c) = subst (λ v. Completes types ((xs ++ x ∷ []) ∷ outer) None v y left) (tails q) c
goes_on q none (closed outer xs x y ts left c) = absurd (comma_brace_end (sym q))
goes_on q none (closed_behind_comma outer xs x y ts left c) = absurd (none (subst (Begins brace_end) (tails q) refl))

-- a further item is wanted behind a comma
pub further_alike : {types : List (List ℕ)} {braces outer behind : List (List Init)} {xs items : List Init} {x : Init} {ts us : List Sign} → ts ≡ comma ∷ us → (Begins brace_end us → ⊥) →
    braces ≡ xs ∷ outer → items ≡ xs ++ x ∷ [] → behind ≡ items ∷ outer → Alike types braces (Some x) ts behind None us
further_alike {types = types} {outer = outer} {xs = xs} {x = x} {ts = ts} {us = us} q none r s t = record {
  forth = λ y left c. subst (λ b. Completes types b None us y left) (sym (t ∙ ap (λ v. v ∷ outer) s))
      (goes_on q none (subst (λ b. Completes types b (Some x) ts y left) r c));
  back = λ y left c.
      let inside = subst (λ b. Completes types b None us y left) (t ∙ ap (λ v. v ∷ outer) s) c in
      subst (λ b. Completes types b (Some x) ts y left) (sym r) (subst (λ v. Completes types (xs ∷ outer) (Some x) v y left) (sym q) (next outer xs x y us left inside));
}

stuck_inside : {types : List (List ℕ)} {outer : List (List Init)} {xs : List Init} {ts left : List Sign} {x y : Init} → (Begins brace_end ts → ⊥) → (Begins comma ts → ⊥) →
    Completes types (xs ∷ outer) (Some x) ts y left → ⊥
stuck_inside none other (next outer xs x y ts left c) = other refl
stuck_inside none other (closed outer xs x y ts left c) = none refl
stuck_inside none other (closed_behind_comma outer xs x y ts left c) = other refl

-- nothing else stands behind an item
pub stuck : {types : List (List ℕ)} {braces outer : List (List Init)} {xs : List Init} {ts left : List Sign} {x y : Init} → (Begins brace_end ts → ⊥) → (Begins comma ts → ⊥) →
    braces ≡ xs ∷ outer → Completes types braces (Some x) ts y left → ⊥
stuck {types = types} {ts = ts} {left = left} {x = x} {y = y} none other r c = stuck_inside none other (subst (λ b. Completes types b (Some x) ts y left) r c)
