-- The definitions of a file, one after the other.
use Rattle.std.proofs.Common.{◌≡◌, ℕ, ◌+◌, ◌<◌, ◌≤◌, ◌^◌, List, [], ◌∷◌, ◌++◌, length, drop, map, ap, sym, ◌∙◌, refl, subst, arith, append_assoc, append-nil, length-append, length-drop}
use Rattle.std.specs.Prelude.{sum_by, Contains}
use Rattle.std.proofs.lemmas.List.{drop_all, map-append}
use Rattle.std.proofs.lemmas.List.Sums.{sum_by-append, sum_by-cons, sum_by_push}
use Rattle.po_straight.specs.declared.lexeme.Lexeme.{Lexeme}
use Rattle.po_straight.specs.declared.definition.Definition.{Definition}
use Rattle.po_straight.specs.Distinct.{AllDiffer}
use Rattle.po_straight.specs.Scopes.{Signature}
use Rattle.po_straight.specs.Definitions.{signature_of, known_with, IsDefinition, AreDefinitions, none, more, graph_size, AreServed, IsFile}
use Rattle.po_straight.specs.Outline.{Starts, AreFront}
use Rattle.po_straight.proofs.Placing.{differ_push, differ_twice, differ_front}
use Rattle.po_straight.proofs.Following.{one_spelling}
use Rattle.po_straight.proofs.Beginnings.{parts_of, starts_same}

abbrev pub names_of : List Signature → List (List ℕ)
names_of functions = map (λ f. f.name) functions

-- with one more function of a name that none has
pub known_differ : (earlier : List Signature) (own : Signature) → AllDiffer (names_of earlier) → (Contains (names_of earlier) own.name → ⊥) → AllDiffer (names_of (earlier ++ own ∷ []))
known_differ earlier own h fresh = rw (map-append (λ f. f.name) earlier (own ∷ [])) (differ_push (names_of earlier) own.name h fresh)

-- the names of functions, and of definitions that follow them
abbrev all_names : List Signature → List Definition → List (List ℕ)
all_names earlier ds = names_of earlier ++ map (λ d. d.name) ds

all_known : (earlier : List Signature) (d : Definition) (ds : List Definition) → all_names earlier (d ∷ ds) ≡ all_names (known_with earlier d) ds
all_known earlier d ds =
    sym (append_assoc (names_of earlier) (d.name ∷ []) (map (λ e. e.name) ds)) ∙
    ap (λ v. v ++ map (λ e. e.name) ds) (sym (map-append (λ f. f.name) earlier (signature_of d ∷ [])))

-- definitions and signs take as much room as they have
some_signs : (earlier : List Signature) (d : Definition) (xs left : List Lexeme) → Starts earlier d xs left → xs ≡ [] → ⊥
some_signs earlier d xs left h e =
    let p = parts_of earlier d xs left h in
    let q = p.heading in cc (ap (λ v. map (λ x. x.sign) v) e)

pub starts_at : (earlier : List Signature) (d : Definition) (part left : List Lexeme) → IsDefinition earlier d part → Starts earlier d (part ++ left) left
starts_at earlier d part left h = record { part = part; parts = refl; defined = h }

-- behind a definition stand the others
pub next_of : (earlier : List Signature) (es : List Definition) (d : Definition) (xs left : List Lexeme) → AllDiffer (names_of (known_with earlier d)) →
    Starts earlier d xs left → AreDefinitions earlier es xs → (ds : List Definition) × (es ≡ d ∷ ds) × AreDefinitions (known_with earlier d) ds left
next_of earlier es d xs left differ h (none known) = absurd (some_signs earlier d [] left h refl)
next_of earlier es d xs left differ h (more known e ds part rest w others) =
    let same = starts_same earlier d e (part ++ rest) left rest differ h (starts_at earlier e part rest w) in (
      ds,
      ap (λ v. v ∷ ds) (sym same.0),
      subst (λ v. AreDefinitions (known_with earlier v) ds left) (sym same.0) (subst (λ v. AreDefinitions (known_with earlier e) ds v) (sym same.1) others),
    )

only_nothing : (earlier : List Signature) (es : List Definition) (xs : List Lexeme) → xs ≡ [] → AreDefinitions earlier es xs → es ≡ []
only_nothing earlier es xs e (none known) = refl
only_nothing earlier es xs e (more known d ds part rest w others) = absurd (some_signs earlier d (part ++ rest) rest (starts_at earlier d part rest w) e)

pub one_sequence : (earlier : List Signature) (ds es : List Definition) (xs : List Lexeme) → AllDiffer (all_names earlier ds) →
    AreDefinitions earlier ds xs → AreDefinitions earlier es xs → ds ≡ es
one_sequence earlier ds es xs differ (none known) g = sym (only_nothing earlier es [] refl g)
one_sequence earlier ds es xs differ (more known d us part left h others) g =
    let rest : AllDiffer (all_names (known_with earlier d) us) = rw (all_known earlier d us) at differ in
    let n = next_of earlier es d (part ++ left) left (differ_front (names_of (known_with earlier d)) (map (λ e. e.name) us) rest) (starts_at earlier d part left h) g in
    ap (λ v. d ∷ v) (one_sequence (known_with earlier d) us n.0 left rest others n.2) ∙ sym n.1

pub one_reading : (ds es : List Definition) (bytes : List ℕ) → IsFile ds bytes → IsFile es bytes → ds ≡ es
one_reading ds es bytes h g =
    let same : h.lexemes ≡ g.lexemes = one_spelling 1 h.lexemes g.lexemes bytes h.spelled g.spelled in
    let w : AreDefinitions [] ds h.lexemes = h.served.defined in
    one_sequence [] ds es g.lexemes h.served.distinct (subst (λ v. AreDefinitions [] ds v) same w) g.served.defined

pub front_start : (xs : List Lexeme) → AreFront [] [] xs xs
front_start xs = record { whole = λ ds h. h; part = λ es h. (es, refl, h) }

pub front_more : (front grown : List Definition) (earlier known : List Signature) (d : Definition) (xs left lexemes : List Lexeme) →
    AllDiffer (names_of (known_with earlier d)) → Starts earlier d xs left → grown ≡ front ++ d ∷ [] → known ≡ known_with earlier d →
    AreFront front earlier xs lexemes → AreFront grown known left lexemes
front_more front grown earlier known d xs left lexemes differ h e k f =
    let join : (ds : List Definition) → grown ++ ds ≡ front ++ (d ∷ ds) = λ ds. ap (λ v. v ++ ds) e ∙ append_assoc front (d ∷ []) ds in
    record {
      whole = λ ds g. subst (λ v. AreDefinitions [] v lexemes) (sym (join ds))
          (f.whole (d ∷ ds) (subst (λ v. AreDefinitions earlier (d ∷ ds) v) (sym h.parts) (more earlier d ds h.part left h.defined (rw k at g))));
      part = λ es g. let p = f.part es g in
          let n = next_of earlier p.0 d xs left differ h p.2 in
          (n.0, p.1 ∙ ap (λ v. front ++ v) n.1 ∙ sym (join n.0), rw k n.2);
    }

pub front_end : (front : List Definition) (known : List Signature) (xs : List Lexeme) (at : ℕ) → length xs ≤ at → AreFront front known (drop at xs) xs → AreDefinitions [] front xs
front_end front known xs at over f =
    let e : drop at xs ≡ [] = drop_all at xs over in
    subst (λ v. AreDefinitions [] v xs) (append-nil front) (f.whole [] (subst (λ v. AreDefinitions known [] v) (sym e) (none known)))

-- the names of functions that were defined
pub names_defined : (front : List Definition) → names_of (map signature_of front) ≡ map (λ d. d.name) front
names_defined [] = refl
names_defined (d ∷ ds) = ap (λ v. d.name ∷ v) (names_defined ds)

none_nowhere : (front : List Definition) (known : List Signature) (es : List Definition) (xs : List Lexeme) → (xs ≡ [] → ⊥) → known ≡ map signature_of front →
    ((d : Definition) (left : List Lexeme) → Starts known d xs left → Contains (names_of known) d.name) → AllDiffer (map (λ d. d.name) (front ++ es)) → AreDefinitions known es xs → ⊥
none_nowhere front known es xs some k nowhere differ (none known') = some refl
none_nowhere front known es xs some k nowhere differ (more known' e ds part rest w others) =
    differ_twice (map (λ d. d.name) front) (map (λ d. d.name) ds) e.name
    (rw (ap (λ v. names_of v) k ∙ names_defined front) at (nowhere e rest (starts_at known e part rest w)))
    (rw (map-append (λ d. d.name) front (e ∷ ds)) at differ)

pub front_stuck : (front : List Definition) (known : List Signature) (xs : List Lexeme) (at : ℕ) → at < length xs → known ≡ map signature_of front →
    ((d : Definition) (left : List Lexeme) → Starts known d (drop at xs) left → Contains (names_of known) d.name) →
    AreFront front known (drop at xs) xs → (es : List Definition) → AreServed es xs → ⊥
front_stuck front known xs at in' k nowhere f es g =
    let p = f.part es g.defined in
    none_nowhere front known p.0 (drop at xs) (λ e. let l : length (drop at xs) ≡ 0 = ap length e in omega (arith, length-drop at xs, l)) k nowhere
    (rw p.1 at g.distinct) p.2

module _ (front : List Definition) (known : List Signature) (d : Definition) (xs : List Lexeme) (at : ℕ) (left : List Lexeme)
    (differ : AllDiffer (names_of (known_with known d))) (h : Starts known d (drop at xs) left) (f : AreFront front known (drop at xs) xs) where
  goes_on : (es : List Definition) → AreDefinitions [] es xs → (ds : List Definition) × (es ≡ front ++ (d ∷ ds))
  goes_on es g =
      let p = f.part es g in
      let n = next_of known p.0 d (drop at xs) left differ h p.2 in (n.0, p.1 ∙ ap (λ v. front ++ v) n.1)

  pub too_many : length front ≡ 65535 → (es : List Definition) → AreServed es xs → ⊥
  too_many full es g =
      let n = goes_on es g.defined in
      let few : length es ≤ 65535 = g.few in
      let l : length es ≡ length (front ++ (d ∷ n.0)) = ap length n.1 in omega (arith, length-append front (d ∷ n.0), l)

  pub too_large : 2 ^ 24 < sum_by graph_size front + graph_size d → (es : List Definition) → AreServed es xs → ⊥
  too_large large es g =
      let n = goes_on es g.defined in
      let small : sum_by graph_size es ≤ 2 ^ 24 = g.small in
      let l : sum_by graph_size es ≡ sum_by graph_size front + (graph_size d + sum_by graph_size n.0) =
      ap (λ v. sum_by graph_size v) n.1 ∙ sum_by-append graph_size front (d ∷ n.0) ∙ ap (λ v. sum_by graph_size front + v) (sum_by-cons graph_size d n.0) in
      more_than (sum_by graph_size front) (graph_size d) (sum_by graph_size n.0) (sum_by graph_size es) large small l
    where
      more_than : (a b c t : ℕ) → 2 ^ 24 < a + b → t ≤ 2 ^ 24 → t ≡ a + (b + c) → ⊥
      more_than a b c t large small l = omega arith

pub one_more_size : (front : List Definition) (d : Definition) → sum_by graph_size (front ++ d ∷ []) ≡ sum_by graph_size front + graph_size d
one_more_size front d = sum_by_push graph_size front d
