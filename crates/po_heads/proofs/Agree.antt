-- What agrees with what: the tokens of a tree with those that it prints, and the heads among them with its expressions in the order in
-- which they are counted.
use Rattle.std.proofs.Common.{◌≡◌, ℕ, Bool, true, false, cond, List, [], ◌∷◌, ◌++◌, map, Option, Some, None, refl, sym, ap, subst, ◌∙◌, append-nil}
use Rattle.std.specs.Prelude.{flat_map}
use Rattle.std.specs.List.{filter}
use Rattle.std.proofs.lemmas.List.{map-append}
use Rattle.std.proofs.lemmas.List.Elements.{filter-append}
use Rattle.po_tree.specs.declared.expression.Exp.{Exp, roll-Exp, out-Exp, out-roll-Exp}
use Rattle.po_tree.specs.declared.expression.Exp.TheVariants as e
use Rattle.po_tree.specs.declared.expression.Exp.TheOpen.{Exp-F}
use Rattle.po_tree.specs.Signs.{Sign, word, string, comma, dots, bracket, bracket_end, brace_end}
use Rattle.po_tree.specs.Printing as print
use Rattle.po_tree.specs.Order.{Ordered, within, some_expressions}
use Rattle.po_heads.specs.Marks.{Printed, plain, plain_word, declared, block_end, keyword, head, in_a_row, after_commas, with_commas, optional, optional_word, enclosed, marks_strings, marks_enumerator, marks_star}
use Rattle.po_heads.specs.Heads.{Layer, sign_in, head_sign, prints_in, prints_head, head_signs, signs, is_head, heads, is_stop, stops}

-- the tokens are those of a list, their heads are those of some expressions, and the keywords and ends of blocks among them those of a list
pub record Agree (ts : List Printed) (fs : List Sign) (xs : List Exp) (ks : List Sign) : Type 0 where
  pub printed : signs ts ≡ fs
  pub counted : heads ts ≡ head_signs xs
  pub kept : stops ts ≡ ks

stops-append : (ts us : List Printed) → stops (ts ++ us) ≡ stops ts ++ stops us
stops-append ts us = ap signs (filter-append is_stop ts us) ∙ map-append (λ (t : Printed). t.sign) (filter is_stop ts) (filter is_stop us)

heads-append : (ts us : List Printed) → heads (ts ++ us) ≡ heads ts ++ heads us
heads-append ts us = ap signs (filter-append is_head ts us) ∙ map-append (λ (t : Printed). t.sign) (filter is_head ts) (filter is_head us)

head_signs-append : (xs ys : List Exp) → head_signs (xs ++ ys) ≡ head_signs xs ++ head_signs ys
head_signs-append xs ys = ap (map head_sign) (filter-append prints_head xs ys) ∙ map-append head_sign (filter prints_head xs) (filter prints_head ys)

pub nothing : Agree [] [] [] []
nothing = record { printed = refl; counted = refl; kept = refl }

pub joins : {ts us : List Printed} {fs gs : List Sign} {xs ys : List Exp} {ks ls : List Sign} → Agree ts fs xs ks → Agree us gs ys ls → Agree (ts ++ us) (fs ++ gs) (xs ++ ys) (ks ++ ls)
joins {ts} {us} {fs} {gs} {xs} {ys} a b = record {
  printed = map-append (λ (t : Printed). t.sign) ts us ∙ (λ i. a.printed i ++ b.printed i);
  counted = heads-append ts us ∙ ((λ i. a.counted i ++ b.counted i) ∙ sym (head_signs-append xs ys));
  kept = stops-append ts us ∙ (λ i. a.kept i ++ b.kept i);
}

-- behind a token that isn't marked, behind a keyword, and behind the Word of a declarator
pub plainly : {ts : List Printed} {fs : List Sign} {xs : List Exp} {ks : List Sign} {s : Sign} → Agree ts fs xs ks → Agree (plain s ∷ ts) (s ∷ fs) xs ks
plainly {s = s} a = record { printed = λ i. s ∷ a.printed i; counted = a.counted; kept = a.kept }

pub keyed : {ts : List Printed} {fs : List Sign} {xs : List Exp} {ks : List Sign} {text : List ℕ} → Agree ts fs xs ks → Agree (keyword text ∷ ts) (word text ∷ fs) xs (word text ∷ ks)
keyed {text = text} a = record { printed = λ i. word text ∷ a.printed i; counted = a.counted; kept = λ i. word text ∷ a.kept i }

pub named : {ts : List Printed} {fs : List Sign} {xs : List Exp} {ks : List Sign} {text : List ℕ} → Agree ts fs xs ks → Agree (declared text ∷ ts) (word text ∷ fs) xs ks
named {text = text} a = record { printed = λ i. word text ∷ a.printed i; counted = a.counted; kept = a.kept }

-- before tokens without expressions
pub before : {ts us : List Printed} {fs gs : List Sign} {xs : List Exp} {ks ls : List Sign} → Agree ts fs xs ks → Agree us gs [] ls → Agree (ts ++ us) (fs ++ gs) xs (ks ++ ls)
before {ts} {us} {fs} {gs} {xs} {ks} {ls} a b = subst (λ l. Agree (ts ++ us) (fs ++ gs) l (ks ++ ls)) (append-nil xs) (joins a b)

pub unstopped : {ts : List Printed} {fs : List Sign} {xs : List Exp} {ks : List Sign} → Agree ts fs xs (ks ++ []) → Agree ts fs xs ks
unstopped {ts} {fs} {xs} {ks} a = subst (Agree ts fs xs) (append-nil ks) a

pub closes : {ts : List Printed} {fs : List Sign} {xs : List Exp} {ks : List Sign} (s : Sign) → Agree ts fs xs ks → Agree (ts ++ plain s ∷ []) (fs ++ s ∷ []) xs ks
closes s a = unstopped (before a (plainly nothing))

pub ends_block : {ts : List Printed} {fs : List Sign} {xs : List Exp} {ks : List Sign} → Agree ts fs xs ks → Agree (ts ++ block_end ∷ []) (fs ++ brace_end ∷ []) xs (ks ++ brace_end ∷ [])
ends_block a = before a (record { printed = refl; counted = refl; kept = refl })

-- behind a head
pub headed : {ts : List Printed} {fs : List Sign} {xs : List Exp} {ks : List Sign} {x : Exp} (z : Layer) → roll-Exp z ≡ x → prints_in z ≡ true → Agree ts fs xs ks → Agree (head (sign_in z) ∷ ts) (sign_in z ∷ fs) (x ∷ xs) ks
unfolding head_sign prints_head
headed {xs = xs} {x = x} z rolls prints a = let opened : out-Exp x ≡ z = ap out-Exp (sym rolls) ∙ out-roll-Exp z in record {
  printed = λ i. sign_in z ∷ a.printed i;
  counted = (λ i. sign_in z ∷ a.counted i) ∙ sym (
      ap (λ b. map head_sign (cond b (x ∷ filter prints_head xs) (filter prints_head xs))) (ap prints_in opened ∙ prints) ∙ ap (λ s. s ∷ head_signs xs) (ap sign_in opened));
  kept = a.kept;
}

-- tokens without expressions

texts : (ws : List (List ℕ)) → Agree (map (λ other. plain (string other)) ws) (map string ws) [] []
texts [] = nothing
texts (w ∷ ws) = plainly (texts ws)

words : (ws : List (List ℕ)) → Agree (map plain_word ws) (map word ws) [] []
words [] = nothing
words (w ∷ ws) = plainly (words ws)

pub strings : (ws : List (List ℕ)) → Agree (marks_strings ws) (map string ws) (e.Str ws ∷ []) []
unfolding prints_head
strings [] = record {
  printed = refl;
  counted = sym (ap (λ b. map head_sign (cond b (e.Str [] ∷ []) [])) (ap prints_in (ap out-Exp (sym (e.rolls-Str [])) ∙ out-roll-Exp (Exp-F.Str []))));
  kept = refl;
}
strings (w ∷ ws) = headed (Exp-F.Str (w ∷ ws)) (e.rolls-Str (w ∷ ws)) refl (texts ws)

pub tag : (name : Option (List ℕ)) → Agree (optional_word name) (print.optional (λ text. word text ∷ []) name) [] []
tag None = nothing
tag (Some name) = plainly nothing

pub name_of : (name : Option (List ℕ)) → Agree (optional (λ text. declared text ∷ []) name) (print.optional (λ text. word text ∷ []) name) [] []
name_of None = nothing
name_of (Some name) = named nothing

pub stars : (ws : List (List (List ℕ))) → Agree (flat_map marks_star ws) (flat_map print.prints_star ws) [] []
stars [] = nothing
stars (w ∷ ws) = plainly (joins (words w) (stars ws))

pub more_comma : (more : Bool) → Agree (cond more (plain comma ∷ []) []) (cond more (comma ∷ []) []) [] []
more_comma true = plainly nothing
more_comma false = nothing

pub more_dots : (more : Bool) → Agree (cond more (plain comma ∷ plain dots ∷ []) []) (cond more (comma ∷ dots ∷ []) []) [] []
more_dots true = plainly (plainly nothing)
more_dots false = nothing

-- parts in a row, where each agrees
module _ {T : Type 0} (m : T → List Printed) (f : T → List Sign) (x : T → List Exp) (a : (t : T) → Agree (m t) (f t) (x t) []) where
  pub rows : (ts : List T) → Agree (flat_map m ts) (flat_map f ts) (flat_map x ts) []
  rows [] = nothing
  rows (t ∷ ts) = joins (a t) (rows ts)

  further_of : (ts : List T) → Agree (after_commas (map m ts)) (print.after_commas (map f ts)) (flat_map x ts) []
  further_of [] = nothing
  further_of (t ∷ ts) = plainly (joins (a t) (further_of ts))

  pub commas_of : (ts : List T) → Agree (with_commas (map m ts)) (print.with_commas (map f ts)) (flat_map x ts) []
  commas_of [] = nothing
  commas_of (t ∷ ts) = joins (a t) (further_of ts)

  pub optional_of : (t : Option T) → Agree (optional m t) (print.optional f t) (some_expressions x t) []
  optional_of None = nothing
  optional_of (Some t) = a t

-- statements in a row, with their keywords
module _ {T : Type 0} (m : T → List Printed) (f : T → List Sign) (x : T → List Exp) (k : T → List Sign) where
  pub body : ((t : T) → Agree (m t) (f t) (x t) (k t)) → (ts : List T) → Agree (flat_map m ts) (flat_map f ts) (flat_map x ts) (flat_map k ts)
  body a [] = nothing
  body a (t ∷ ts) = joins (a t) (body a ts)

  pub block : (ts : List ((t : T) × Agree (m t) (f t) (x t) (k t))) → Agree (in_a_row (map m (map (λ t. t.0) ts))) (print.in_a_row (map f (map (λ t. t.0) ts)))
      (flat_map (λ y. y) (map x (map (λ t. t.0) ts))) (flat_map (λ y. y) (map k (map (λ t. t.0) ts)))
  block [] = nothing
  block (t ∷ ts) = joins t.1 (block ts)

-- parts in a row, each with what is known of it
module _ {T B : Type 0} (P : T → Type 0) (m : T → List Printed) (f : T → List Sign) (o : T → B) (h : B → List Exp) (a : (t : T) → P t → Agree (m t) (f t) (h (o t)) []) where
  pub row : (ts : List ((t : T) × P t)) → Agree (in_a_row (map m (map (λ t. t.0) ts))) (print.in_a_row (map f (map (λ t. t.0) ts))) (flat_map h (map o (map (λ t. t.0) ts))) []
  row [] = nothing
  row (t ∷ ts) = joins (a t.0 t.1) (row ts)

  further : (ts : List ((t : T) × P t)) → Agree (after_commas (map m (map (λ t. t.0) ts))) (print.after_commas (map f (map (λ t. t.0) ts))) (flat_map h (map o (map (λ t. t.0) ts))) []
  further [] = nothing
  further (t ∷ ts) = plainly (joins (a t.0 t.1) (further ts))

  pub commas : (ts : List ((t : T) × P t)) → Agree (with_commas (map m (map (λ t. t.0) ts))) (print.with_commas (map f (map (λ t. t.0) ts))) (flat_map h (map o (map (λ t. t.0) ts))) []
  commas [] = nothing
  commas (t ∷ ts) = joins (a t.0 t.1) (further ts)

-- sizes and enumerators, through whatever functions pass over what may be missing
module _ {T : Type 0} (P : T → Type 0) (m : T → List Printed) (f : T → List Sign) (o : T → Ordered T) (a : (t : T) → P t → Agree (m t) (f t) (o t).1 []) where
  module _ (g : Option ((t : T) × P t) → Option T) (gm : Option T → Option (List Printed)) (gf : Option T → Option (List Sign)) (go : Option T → Option (Ordered T))
      (g-None : g None ≡ None) (m-None : gm None ≡ None) (f-None : gf None ≡ None) (o-None : go None ≡ None)
      (g-Some : (t : (t : T) × P t) → g (Some t) ≡ Some t.0) (m-Some : (t : T) → gm (Some t) ≡ Some (m t)) (f-Some : (t : T) → gf (Some t) ≡ Some (f t)) (o-Some : (t : T) → go (Some t) ≡ Some (o t)) where
    pub sizes : (ts : List (Option ((t : T) × P t))) → Agree (flat_map (λ size. enclosed (plain bracket) (optional (λ x. x) size) bracket_end) (map gm (map g ts)))
        (flat_map (λ size. print.in_brackets (print.optional (λ x. x) size)) (map gf (map g ts))) (flat_map within (map go (map g ts))) []
    sizes [] = nothing
    sizes (None ∷ ts) = rw (g-None, m-None, f-None, o-None) (joins (plainly (plainly nothing)) (sizes ts))
    sizes (Some t ∷ ts) = rw (g-Some t, m-Some t.0, f-Some t.0, o-Some t.0) (joins (plainly (closes bracket_end (a t.0 t.1))) (sizes ts))

  module _ (g : (List ℕ × Option ((t : T) × P t)) → (List ℕ × Option T)) (gm : (List ℕ × Option T) → (List ℕ × Option (List Printed))) (gf : (List ℕ × Option T) → (List ℕ × Option (List Sign))) {B : Type 0} (go : (List ℕ × Option T) → B) (h : B → List Exp)
      (m-None : (n : List ℕ) → gm (g (n, None)) ≡ (n, None)) (f-None : (n : List ℕ) → gf (g (n, None)) ≡ (n, None)) (o-None : (n : List ℕ) → h (go (g (n, None))) ≡ [])
      (m-Some : (n : List ℕ) (t : (t : T) × P t) → gm (g (n, Some t)) ≡ (n, Some (m t.0))) (f-Some : (n : List ℕ) (t : (t : T) × P t) → gf (g (n, Some t)) ≡ (n, Some (f t.0))) (o-Some : (n : List ℕ) (t : (t : T) × P t) → h (go (g (n, Some t))) ≡ (o t.0).1) where
    item : (x : List ℕ × Option ((t : T) × P t)) → Agree (marks_enumerator (gm (g x))) (print.prints_enumerator (gf (g x))) (h (go (g x))) []
    item (n, None) = rw (m-None n, f-None n, o-None n) (plainly nothing)
    item (n, Some t) = rw (m-Some n t, f-Some n t, o-Some n t) (plainly (plainly (a t.0 t.1)))

    further_items : (ts : List (List ℕ × Option ((t : T) × P t))) → Agree (after_commas (map marks_enumerator (map gm (map g ts)))) (print.after_commas (map print.prints_enumerator (map gf (map g ts)))) (flat_map h (map go (map g ts))) []
    further_items [] = nothing
    further_items (t ∷ ts) = plainly (joins (item t) (further_items ts))

    pub items : (ts : List (List ℕ × Option ((t : T) × P t))) → Agree (with_commas (map marks_enumerator (map gm (map g ts)))) (print.with_commas (map print.prints_enumerator (map gf (map g ts)))) (flat_map h (map go (map g ts))) []
    items [] = nothing
    items (t ∷ ts) = joins (item t) (further_items ts)

-- A tree agrees where its layer does. The four equations say of each layer what the tree of it gives; `y` is the layer, as `z` is too.
pub by_layer : {Z : Type 0} {m m' : Z → List Printed} {f f' : Z → List Sign} {x x' : Z → List Exp} {k k' : Z → List Sign} →
    ((z : Z) → m z ≡ m' z) → ((z : Z) → f z ≡ f' z) → ((z : Z) → x z ≡ x' z) → ((z : Z) → k z ≡ k' z) → (y z : Z) → z ≡ y →
    Agree (m' z) (f' z) (x' z) (k' z) → Agree (m y) (f y) (x y) (k y)
by_layer {m = m} {m' = m'} {f = f} {f' = f'} {x = x} {x' = x'} {k = k} {k' = k'} em ef ex ek y z is a =
    subst (λ v. Agree (m v) (f v) (x v) (k v)) is
    (subst (λ l. Agree l (f z) (x z) (k z)) (sym (em z)) (subst (λ l. Agree (m' z) l (x z) (k z)) (sym (ef z))
    (subst (λ l. Agree (m' z) (f' z) l (k z)) (sym (ex z)) (subst (λ l. Agree (m' z) (f' z) (x' z) l) (sym (ek z)) a))))

pub by_ordered_layer : {Z T : Type 0} {m m' : Z → List Printed} {f f' : Z → List Sign} {o o' : Z → Ordered T} →
    ((z : Z) → m z ≡ m' z) → ((z : Z) → f z ≡ f' z) → ((z : Z) → o z ≡ o' z) → (y z : Z) → z ≡ y →
    Agree (m' z) (f' z) (o' z).1 [] → Agree (m y) (f y) (o y).1 []
by_ordered_layer {T = T} em ef eo y z is a = by_layer {k = λ _. []} {k' = λ _. []} em ef (λ v. ap (λ (w : Ordered T). w.1) (eo v)) (λ v. refl) y z is a
