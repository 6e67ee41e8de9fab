-- Known obligations with their marks, and what is done to them.
use Rattle.std.specs.Prelude.{ℕ, zero, suc, ◌≡◌, ◌⊎◌, ◌↔◌, List, [], ◌∷◌, ◌++◌, map, Bool, Option, IsTrue}
use Rattle.std.specs.List.{Contains}
use Rattle.std.specs.Map.{lookup}
use Rattle.indexmap.specs.IndexMap.{insert_entry}
use Rattle.po_base.specs.declared.numbers.FunNo.{FunNo}
use Rattle.po_base.specs.declared.numbers.NodeNo.{NodeNo}
use Rattle.po_core.specs.Book.{Book}
use Rattle.po_core.specs.Core.{AreApart}
use Rattle.po_core.specs.declared.event.Mark.{Mark}
use Rattle.po_core.specs.declared.event.Mark.TheVariants.{Untaken, Taken, Settled}
use Rattle.po_core.specs.declared.obl.Cause.TheVariants.{Primary, Support}
use Rattle.po_core.specs.declared.obl.Obl.{Obl}
use Rattle.po_core.specs.declared.obl.Verdict.{Verdict}

-- the list has a mark of the obligation
abbrev pub HasKey : {P N : Type 0} → List (Obl P × Mark P N) → Obl P → Type 0
HasKey {P} {N} marks o = (m : Mark P N) × Contains marks (o, m)

-- the list of marks has a verdict of the obligation
abbrev pub HasVerdict : {P N : Type 0} → List (Obl P × Mark P N) → Obl P → Type 0
HasVerdict {P} {N} marks o = (v : Verdict P N) × Contains marks (o, Settled v)

-- the obligation is there already, or is new at the end and untaken
abbrev pub AddsUntaken : {P N : Type 0} → List (Obl P × Mark P N) → List (Obl P × Mark P N) → Obl P → Type 0
AddsUntaken old new o = (HasKey old o × (new ≡ old)) ⊎ ((¬ HasKey old o) × (new ≡ old ++ (o, Untaken) ∷ []))

-- Each of the obligations is there afterwards, and those that weren't are new at the end and untaken.
pub record AddsEach {P N : Type 0} (os : List (Obl P)) (old new : List (Obl P × Mark P N)) : Type 0 where
  pub more : List (Obl P × Mark P N)
  pub extends : new ≡ old ++ more
  pub there : (o : Obl P) → Contains os o → HasKey new o
  pub fresh : (o : Obl P) (m : Mark P N) → Contains more (o, m) → (m ≡ Untaken) × Contains os o × ¬ HasKey old o
  pub apart : AreApart (map (λ e. e.0) old) → AreApart (map (λ e. e.0) new)

-- The same obligations are known, in the same order: what has the mark `from` and is meant has the mark `to`, and all other marks stay.
pub record AreRemarked {P N : Type 0} (IsMeant : Obl P → Type 0) (from to : Mark P N) (old new : List (Obl P × Mark P N)) : Type 0 where
  pub keys : map (λ e. e.0) new ≡ map (λ e. e.0) old
  pub marks : (o : Obl P) (m : Mark P N) → Contains new (o, m) ↔ (((m ≡ to) × Contains old (o, from) × IsMeant o) ⊎ (Contains old (o, m) × ¬ ((m ≡ from) × IsMeant o)))

-- The same obligations are known, in the same order: this one has this mark, and all others have theirs.
pub record SetsMark {P N : Type 0} (o : Obl P) (mark : Mark P N) (old new : List (Obl P × Mark P N)) : Type 0 where
  pub keys : map (λ e. e.0) new ≡ map (λ e. e.0) old
  pub marks : (p : Obl P) (m : Mark P N) → Contains new (p, m) ↔ (((p ≡ o) × (m ≡ mark)) ⊎ ((¬ (p ≡ o)) × Contains old (p, m)))

-- The same obligations are known, in the same order: these have this mark, and all others have theirs.
pub record SetsEach {P N : Type 0} (os : List (Obl P)) (mark : Mark P N) (old new : List (Obl P × Mark P N)) : Type 0 where
  pub keys : map (λ e. e.0) new ≡ map (λ e. e.0) old
  pub marks : (p : Obl P) (m : Mark P N) → Contains new (p, m) ↔ ((Contains os p × (m ≡ mark)) ⊎ ((¬ Contains os p) × Contains old (p, m)))

-- The value that a key has, by a comparison of keys.
pub record IsValueOf {K X : Type 0} (eq : K → K → Bool) (entries : List (K × X)) (key : K) (found : Option X) : Type 0 where
  pub is : found ≡ lookup (eq key) entries

-- The key has the value afterwards, by a comparison of keys.
pub record PutsValue {K X : Type 0} (eq : K → K → Bool) (key : K) (value : X) (old new : List (K × X)) : Type 0 where
  pub is : new ≡ insert_entry eq old key value

-- the functions' own obligations, up to a function
abbrev pub primaries_of : {P N T : Type 0} → Book P N T → FunNo → List (Obl P)
primaries_of b f = map (λ p. record { fun = f; node = p.0; cause = Primary p.1 }) (b.primaries f)

abbrev pub primaries_below : {P N T : Type 0} → Book P N T → ℕ → List (Obl P)
primaries_below b zero = []
primaries_below b (suc n) = primaries_below b n ++ primaries_of b (record { 0 = n })

-- the obligations at call sites that support a predicate
abbrev pub supports_of : {P : Type 0} → P → List (FunNo × NodeNo) → List (Obl P)
supports_of q sites = map (λ s. record { fun = s.0; node = s.1; cause = Support q }) sites
