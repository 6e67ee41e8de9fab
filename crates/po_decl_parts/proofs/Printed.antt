-- What is read is well formed and printed, and what is printed is read.
use Rattle.std.proofs.Common.{◌≡◌, ◌∙◌, ℕ, ◌≤◌, List, [], ◌∷◌, ◌++◌, map, flat_map, Bool, true, false, cond, refl, sym, ap, subst, arith, append_assoc, append-nil, codes}
use Rattle.std.specs.Prelude.{Contains, All, Option, Some, None}
use Rattle.std.proofs.lemmas.List.Elements.{All-head, All-tail}
use Rattle.po_tree.specs.declared.expression.Exp.{Exp}
use Rattle.po_tree.specs.Signs.{Sign, word, star, bracket, bracket_end, comma, equals, brace_end}
use Rattle.po_tree.specs.Words.{IsName, qualifiers}
use Rattle.po_tree.specs.Heights.{height, or_none}
use Rattle.po_tree.specs.Printing.{flat, prints_star, with_commas, after_commas}
use Rattle.po_tree.specs.Expressions.{IsExpression, Formed, SizesFormed, no_more_sizes, no_size as formed_no_size, one_size as formed_one_size}
use Rattle.po_tree.specs.Declarations.{without, Enumerators, no_more_items, item as plain_item, valued_item}
use Rattle.po_exp_parts.specs.Places.{at_comma as comma_ends, at_brace as brace_ends, Begins, BeginsQualifier}
use Rattle.po_exp_read.specs.Enclosed.{sizes_height}
use Rattle.po_exp_parts.specs.Stars.{StarsRead, no_star, one_star}
use Rattle.po_exp_parts.proofs.StarsPrinted.{words_sound, words_complete, stars_sound, stars_begin}
use Rattle.po_decl_parts.specs.Printed.{NoQualifierBehind, StarsPrinted, flat_sizes, SizesPrinted, EnumeratorsPrinted}
use Rattle.po_decl_parts.specs.Sizes.{SizesRead, sizes_end, no_size, one_size}
use Rattle.po_decl_parts.specs.Enumerators.{EnumeratorRead, plain, valued, EnumeratorsRead, last, last_comma, further, flat_enumerator, flat_enumerators, enumerators_height}

-- stars

behind_last : (stars : List (List (List ℕ))) (us vs : List Sign) → StarsRead us stars vs → (BeginsQualifier us → ⊥) → BeginsQualifier vs → ⊥
behind_last stars us vs (no_star ts ends) none q = none q
behind_last stars us vs (one_star words others ts ws vs' read rest) none q = behind_last others ws vs' rest (words_sound read).2 q

pub no_qualifier_behind : {ts us : List Sign} {stars : List (List (List ℕ))} → StarsRead ts stars us → NoQualifierBehind stars us
no_qualifier_behind (no_star ts ends) = tt
no_qualifier_behind (one_star words stars ts us vs read rest) = behind_last stars us vs rest (words_sound read).2

pub stars_printed : (ts us : List Sign) (stars : List (List (List ℕ))) → StarsRead ts stars us → StarsPrinted ts stars us
stars_printed ts us stars w = let p = stars_sound w in record { formed = p.0; printed = p.1; no_star = p.2; no_qualifier = no_qualifier_behind w }

pub stars_complete : (stars : List (List (List ℕ))) (rest : List Sign) → All (All (Contains qualifiers)) stars → (Begins star rest → ⊥) → NoQualifierBehind stars rest →
    StarsRead (flat_map prints_star stars ++ rest) stars rest
stars_complete [] rest all ends shut = no_star rest ends
stars_complete (words ∷ stars) rest all ends shut =
    let us : List Sign = flat_map prints_star stars ++ rest in
    let these = All-head (All (Contains qualifiers)) words stars all in
    let those = All-tail (All (Contains qualifiers)) words stars all in
    subst (λ v. StarsRead (star ∷ v) (words ∷ stars) rest) (sym (append_assoc (map word words) (flat_map prints_star stars) rest))
    (one_star words stars _ us rest (words_complete words us these (stars_begin stars rest shut)) (stars_complete stars rest those ends (still stars rest shut)))
  where
    still : (stars : List (List (List ℕ))) (rest : List Sign) → (BeginsQualifier rest → ⊥) → NoQualifierBehind stars rest
    still [] rest h = tt
    still (words ∷ stars) rest h = h

pub stars_read : (ts us : List Sign) (stars : List (List (List ℕ))) → StarsPrinted ts stars us → StarsRead ts stars us
stars_read ts us stars p = subst (λ v. StarsRead v stars us) (sym p.printed) (stars_complete stars us p.formed p.no_star p.no_qualifier)

-- sizes

pub sizes_sound : {types : List (List ℕ)} {ts us : List Sign} {sizes : List (Option Exp)} → SizesRead types ts sizes us →
    SizesFormed types sizes × (sizes_height sizes ≤ 256) × (ts ≡ flat_sizes sizes ++ us) × (Begins bracket us → ⊥)
sizes_sound (sizes_end ts none) = (no_more_sizes, omega arith, refl, none)
sizes_sound (no_size sizes ts us w) = let p = sizes_sound w in (formed_no_size sizes p.0, omega (arith, p.1), ap (λ v. bracket ∷ (bracket_end ∷ v)) p.2, p.3)
sizes_sound (one_size x sizes ts us vs at w) =
    let p = sizes_sound w in
    let is = at.stands.formed in (
      formed_one_size is.level_of x sizes at.high is.formed p.0,
      omega (arith, p.1, is.nested),
      ap (λ v. bracket ∷ v) (at.stands.printed ∙ ap (λ v. flat x ++ (bracket_end ∷ v)) p.2 ∙ sym (append_assoc (flat x) (bracket_end ∷ []) (flat_sizes sizes ++ vs)) ∙
          sym (append_assoc (flat x ++ bracket_end ∷ []) (flat_sizes sizes) vs)),
      p.3,
    )

pub sizes_complete : {types : List (List ℕ)} {sizes : List (Option Exp)} (us : List Sign) → SizesFormed types sizes → sizes_height sizes ≤ 256 → (Begins bracket us → ⊥) →
    SizesRead types (flat_sizes sizes ++ us) sizes us
sizes_complete us no_more_sizes low none = sizes_end us none
sizes_complete us (formed_no_size sizes w) low none = no_size sizes _ us (sizes_complete us w (omega (arith, low)) none)
sizes_complete {types = types} us (formed_one_size m x sizes high formed w) low none =
    let behind : List Sign = flat_sizes sizes ++ us in
    let same : (flat x ++ bracket_end ∷ []) ++ flat_sizes sizes ++ us ≡ flat x ++ (bracket_end ∷ behind) =
    append_assoc (flat x ++ bracket_end ∷ []) (flat_sizes sizes) us ∙ append_assoc (flat x) (bracket_end ∷ []) behind in
    one_size x sizes _ behind us
    (record { stands = record { formed = record { level_of = m; formed = formed; nested = omega (arith, low) }; printed = same }; high = high })
    (sizes_complete us w (omega (arith, low)) none)

pub sizes_printed : (types : List (List ℕ)) (ts us : List Sign) (sizes : List (Option Exp)) → SizesRead types ts sizes us → SizesPrinted types ts sizes us
sizes_printed types ts us sizes w = let p = sizes_sound w in record { formed = p.0; nested = p.1; printed = p.2; no_size = p.3 }

pub sizes_read : (types : List (List ℕ)) (ts us : List Sign) (sizes : List (Option Exp)) → SizesPrinted types ts sizes us → SizesRead types ts sizes us
sizes_read types ts us sizes p = subst (λ v. SizesRead types v sizes us) (sym p.printed) (sizes_complete us p.formed p.nested p.no_size)

-- lists of signs regrouped

pub enclosed : (name inside vs : List Sign) (a b : Sign) → name ++ (a ∷ (inside ++ (b ∷ vs))) ≡ (name ++ (a ∷ (inside ++ (b ∷ [])))) ++ vs
enclosed name inside vs a b = sym (append_assoc name (a ∷ (inside ++ (b ∷ []))) vs ∙ ap (λ v. name ++ (a ∷ v)) (append_assoc inside (b ∷ []) vs))

alone : (front vs : List Sign) → front ++ vs ≡ ((front ++ []) ++ []) ++ vs
alone front vs = ap (λ v. v ++ vs) (sym (append-nil (front ++ []) ∙ append-nil front))

alone_before : (front vs : List Sign) (a : Sign) → front ++ (a ∷ vs) ≡ ((front ++ []) ++ (a ∷ [])) ++ vs
alone_before front vs a = ap (λ v. v ++ (a ∷ vs)) (sym (append-nil front)) ∙ sym (append_assoc (front ++ []) (a ∷ []) vs)

with_others : (front others end vs : List Sign) (a : Sign) → front ++ (a ∷ ((others ++ end) ++ vs)) ≡ ((front ++ (a ∷ others)) ++ end) ++ vs
with_others front others end vs a =
    ap (λ v. front ++ (a ∷ v)) (append_assoc others end vs) ∙ sym (append_assoc front (a ∷ others) (end ++ vs)) ∙ sym (append_assoc (front ++ (a ∷ others)) end vs)

-- enumerators

-- what one enumerator comes to
pub record ItemIs (types : List (List ℕ)) (ts : List Sign) (item : List ℕ × Option Exp) (us : List Sign) : Type 0 where
  pub printed : ts ≡ flat_enumerator item ++ us
  pub nested : or_none height item.1 ≤ 256
  pub before : (rest : List (List ℕ × Option Exp)) (types' : List (List ℕ)) → Enumerators (without item.0 types) rest types' → Enumerators types (item ∷ rest) types'

item_sound : {types : List (List ℕ)} {ts us : List Sign} {item : List ℕ × Option Exp} → EnumeratorRead types ts item us → ItemIs types ts item us
item_sound {types = types} (plain name ts is none) = record { printed = refl; nested = omega arith; before = λ rest types' w. plain_item types types' name rest is w }
item_sound {types = types} (valued name x ts us is at) =
    let formed = at.stands.stands.formed in record {
      printed = ap (λ v. word name ∷ (equals ∷ v)) at.stands.stands.printed;
      nested = formed.nested;
      before = λ rest types' w. valued_item formed.level_of types types' name x rest is at.stands.high formed.formed w;
    }

-- what enumerators come to
pub record ItemsAre (types : List (List ℕ)) (ts : List Sign) (items : List (List ℕ × Option Exp)) (more : Bool) (types' : List (List ℕ)) (us : List Sign) : Type 0 where
  pub first : List ℕ × Option Exp
  pub others : List (List ℕ × Option Exp)
  pub parts : items ≡ first ∷ others
  pub formed : Enumerators types items types'
  pub nested : enumerators_height items ≤ 256
  pub printed : ts ≡ flat_enumerators items more ++ (brace_end ∷ us)

pub items_sound : {types types' : List (List ℕ)} {ts us : List Sign} {items : List (List ℕ × Option Exp)} {more : Bool} → EnumeratorsRead types ts items more types' us → ItemsAre types ts items more types' us
items_sound (last types item ts us v) =
    let p = item_sound v in record {
      first = item;
      others = [];
      parts = refl;
      formed = p.before [] (without item.0 types) (no_more_items (without item.0 types));
      nested = omega (arith, p.nested);
      printed = p.printed ∙ alone (flat_enumerator item) (brace_end ∷ us);
    }
items_sound (last_comma types item ts us v) =
    let p = item_sound v in record {
      first = item;
      others = [];
      parts = refl;
      formed = p.before [] (without item.0 types) (no_more_items (without item.0 types));
      nested = omega (arith, p.nested);
      printed = p.printed ∙ alone_before (flat_enumerator item) (brace_end ∷ us) comma;
    }
items_sound (further types types' item items more ts us vs v w) =
    let p = item_sound v in
    let r = items_sound w in record {
      first = item;
      others = items;
      parts = refl;
      formed = p.before items types' r.formed;
      nested = omega (arith, p.nested, r.nested);
      printed = p.printed ∙ joined item items more us vs r.first r.others r.parts r.printed;
    }
  where
    joined : (item : List ℕ × Option Exp) (items : List (List ℕ × Option Exp)) (more : Bool) (us vs : List Sign) (first : List ℕ × Option Exp) (others : List (List ℕ × Option Exp)) →
        items ≡ first ∷ others → us ≡ flat_enumerators items more ++ (brace_end ∷ vs) →
        flat_enumerator item ++ (comma ∷ us) ≡ flat_enumerators (item ∷ items) more ++ (brace_end ∷ vs)
    joined item items more us vs first others q r =
        let commas : after_commas (map flat_enumerator items) ≡ comma ∷ with_commas (map flat_enumerator items) = rw q refl in
        let end : List Sign = cond more (comma ∷ []) [] in
        ap (λ v. flat_enumerator item ++ (comma ∷ v)) r ∙ with_others (flat_enumerator item) (with_commas (map flat_enumerator items)) end (brace_end ∷ vs) comma ∙
        ap (λ v. ((flat_enumerator item ++ v) ++ end) ++ (brace_end ∷ vs)) (sym commas)

-- an enumerator is read where it is printed before a comma or a brace
record ItemReads (types : List (List ℕ)) (item : List ℕ × Option Exp) : Type 0 where
  at_comma : (us : List Sign) → EnumeratorRead types (flat_enumerator item ++ (comma ∷ us)) item (comma ∷ us)
  at_brace : (us : List Sign) → EnumeratorRead types (flat_enumerator item ++ (brace_end ∷ us)) item (brace_end ∷ us)

plain_reads : (types : List (List ℕ)) (name : List ℕ) → IsName name → ItemReads types (name, None)
plain_reads types name is = record {
  at_comma = λ us. plain name (comma ∷ us) is (λ q. let texts : codes "," ≡ codes "=" = ap (λ v. v.text) q in cc);
  at_brace = λ us. plain name (brace_end ∷ us) is (λ q. let texts : codes "}" ≡ codes "=" = ap (λ v. v.text) q in cc);
}

valued_reads : (types : List (List ℕ)) (name : List ℕ) (m : ℕ) (x : Exp) → IsName name → 2 ≤ m → Formed types m x → height x ≤ 256 → ItemReads types (name, Some x)
valued_reads types name m x is high formed low =
    let whole : IsExpression types x = record { level_of = m; formed = formed; nested = low } in record {
      at_comma = λ us. valued name x _ (comma ∷ us) is (record { stands = record { stands = record { formed = whole; printed = refl }; high = high }; ended = comma_ends });
      at_brace = λ us. valued name x _ (brace_end ∷ us) is (record { stands = record { stands = record { formed = whole; printed = refl }; high = high }; ended = brace_ends });
    }

closed_reads : {types : List (List ℕ)} {item : List ℕ × Option Exp} (us : List Sign) (more : Bool) → ItemReads types item →
    EnumeratorsRead types (flat_enumerators (item ∷ []) more ++ (brace_end ∷ us)) (item ∷ []) more (without item.0 types) us
closed_reads {types = types} {item = item} us true reads =
    let same : flat_enumerator item ++ (comma ∷ (brace_end ∷ us)) ≡ flat_enumerators (item ∷ []) true ++ (brace_end ∷ us) = alone_before (flat_enumerator item) (brace_end ∷ us) comma in
    subst (λ v. EnumeratorsRead types v (item ∷ []) true (without item.0 types) us) same (last_comma types item _ us (reads.at_comma (brace_end ∷ us)))
closed_reads {types = types} {item = item} us false reads =
    let same : flat_enumerator item ++ (brace_end ∷ us) ≡ flat_enumerators (item ∷ []) false ++ (brace_end ∷ us) = alone (flat_enumerator item) (brace_end ∷ us) in
    subst (λ v. EnumeratorsRead types v (item ∷ []) false (without item.0 types) us) same (last types item _ us (reads.at_brace us))

further_reads : {types types' : List (List ℕ)} {item next : List ℕ × Option Exp} {items : List (List ℕ × Option Exp)} (us : List Sign) (more : Bool) → ItemReads types item →
    EnumeratorsRead (without item.0 types) (flat_enumerators (next ∷ items) more ++ (brace_end ∷ us)) (next ∷ items) more types' us →
    EnumeratorsRead types (flat_enumerators (item ∷ (next ∷ items)) more ++ (brace_end ∷ us)) (item ∷ (next ∷ items)) more types' us
further_reads {types = types} {types' = types'} {item = item} {next = next} {items = items} us more reads w =
    let behind : List Sign = flat_enumerators (next ∷ items) more ++ (brace_end ∷ us) in
    let same : flat_enumerator item ++ (comma ∷ behind) ≡ flat_enumerators (item ∷ (next ∷ items)) more ++ (brace_end ∷ us) =
    with_others (flat_enumerator item) (with_commas (map flat_enumerator (next ∷ items))) (cond more (comma ∷ []) []) (brace_end ∷ us) comma in
    subst (λ v. EnumeratorsRead types v (item ∷ (next ∷ items)) more types' us) same (further types types' item (next ∷ items) more _ behind us (reads.at_comma behind) w)

pub items_complete : {types types' : List (List ℕ)} {item : List ℕ × Option Exp} {items : List (List ℕ × Option Exp)} (us : List Sign) (more : Bool) →
    Enumerators types (item ∷ items) types' → enumerators_height (item ∷ items) ≤ 256 →
    EnumeratorsRead types (flat_enumerators (item ∷ items) more ++ (brace_end ∷ us)) (item ∷ items) more types' us
items_complete us more (plain_item types types' name [] is (no_more_items ended)) low = closed_reads us more (plain_reads types name is)
items_complete us more (plain_item types types' name (next ∷ rest) is w) low = further_reads us more (plain_reads types name is) (items_complete us more w (omega (arith, low)))
items_complete us more (valued_item m types types' name x [] is high formed (no_more_items ended)) low = closed_reads us more (valued_reads types name m x is high formed (omega (arith, low)))
items_complete us more (valued_item m types types' name x (next ∷ rest) is high formed w) low =
    further_reads us more (valued_reads types name m x is high formed (omega (arith, low))) (items_complete us more w (omega (arith, low)))

pub enumerators_printed : (types : List (List ℕ)) (ts us : List Sign) (items : List (List ℕ × Option Exp)) (more : Bool) (types' : List (List ℕ)) →
    EnumeratorsRead types ts items more types' us → EnumeratorsPrinted types ts items more types' us
enumerators_printed types ts us items more types' w =
    let p = items_sound w in record {
      some = λ q. let bad : [] ≡ p.first ∷ p.others = sym q ∙ p.parts in cc;
      formed = p.formed;
      nested = p.nested;
      printed = p.printed;
    }

pub enumerators_read : (types : List (List ℕ)) (ts us : List Sign) (items : List (List ℕ × Option Exp)) (more : Bool) (types' : List (List ℕ)) →
    EnumeratorsPrinted types ts items more types' us → EnumeratorsRead types ts items more types' us
enumerators_read types ts us [] more types' p = absurd (p.some refl)
enumerators_read types ts us (item ∷ items) more types' p = subst (λ v. EnumeratorsRead types v (item ∷ items) more types' us) (sym p.printed) (items_complete us more p.formed p.nested)
