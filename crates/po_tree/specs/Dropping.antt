-- How a loop drops nested struct bodies and parameter lists: what its steps do, and why it ends.
use Rattle.std.specs.Prelude.{ℕ, suc, ◌+◌, ◌*◌, ◌<◌, ◌≤◌, ◌≡◌, List, [], ◌∷◌, ◌++◌, map, Contains, Option, Some, None, Bool, false, vec_len, vec_capacity}
use Rattle.po_tree.specs.declared.expression.Exp.TheOpen.{Specifier-F, Suffix-F, Declarator-F, Member-F, Param-F}
use Rattle.po_tree.specs.declared.expression.Specifier.{Specifier, size-Specifier, fold-Specifier}
use Rattle.po_tree.specs.declared.expression.Specifier.TheVariants as sp
use Rattle.po_tree.specs.declared.expression.Suffix.{Suffix, size-Suffix, fold-Suffix}
use Rattle.po_tree.specs.declared.expression.Suffix.TheVariants as su
use Rattle.po_tree.specs.declared.expression.Declarator.{Declarator, fold-Declarator}
use Rattle.po_tree.specs.declared.expression.Member.{Member, out-Member, fold-Member}
use Rattle.po_tree.specs.declared.expression.Param.{Param, out-Param, fold-Param}
use Rattle.po_tree.specs.declared.dropping.Found.{Found}
use Rattle.po_tree.specs.declared.dropping.Found.TheVariants as found
use Rattle.po_tree.specs.declared.dropping.Split.{Split}
use Rattle.po_tree.specs.declared.dropping.Split.TheVariants as split
use Rattle.po_tree.specs.declared.dropping.SplitParams.{SplitParams}
use Rattle.po_tree.specs.declared.dropping.SplitParams.TheVariants as params
use Rattle.po_tree.specs.declared.dropping.Left.{Left}
use Rattle.po_tree.specs.declared.dropping.Leaf.{Leaf}
use Rattle.po_tree.specs.declared.dropping.Leaf.TheVariants as leaf
use Rattle.po_tree.specs.declared.dropping.Step.{Step}
use Rattle.po_tree.specs.declared.dropping.Step.TheVariants as step
use Rattle.po_tree.specs.Gathering.{total}

-- One layer of the weights below: what is nested counts, expressions don't.

abbrev pub weighs_specifier : Specifier-F ℕ ℕ ℕ ℕ ℕ ℕ ℕ → ℕ
weighs_specifier (Specifier-F.Struct tag (Some ms)) = suc (suc (total ms))
weighs_specifier _ = 1

abbrev pub weighs_suffix : Suffix-F ℕ ℕ ℕ ℕ ℕ ℕ ℕ → ℕ
weighs_suffix Suffix-F.Plain = 1
weighs_suffix (Suffix-F.Arrays sizes) = 2
weighs_suffix (Suffix-F.Params ps more) = suc (suc (total ps))

abbrev pub weighs_declarator : Declarator-F ℕ ℕ ℕ ℕ ℕ ℕ ℕ → ℕ
weighs_declarator d = d.suffix

abbrev pub weighs_member : Member-F ℕ ℕ ℕ ℕ ℕ ℕ ℕ → ℕ
weighs_member m = suc (total m.specs + total m.declarators)

abbrev pub weighs_param : Param-F ℕ ℕ ℕ ℕ ℕ ℕ ℕ → ℕ
weighs_param p = suc (total p.specs + p.declarator)

unfoldable pub weight : Specifier → ℕ
weight = fold-Specifier _ _ _ _ _ _ _ (λ _. 0) weighs_specifier weighs_suffix weighs_declarator weighs_member weighs_param (λ _. 0)

unfoldable pub suffix_weight : Suffix → ℕ
suffix_weight = fold-Suffix _ _ _ _ _ _ _ (λ _. 0) weighs_specifier weighs_suffix weighs_declarator weighs_member weighs_param (λ _. 0)

unfoldable pub declarator_weight : Declarator → ℕ
declarator_weight = fold-Declarator _ _ _ _ _ _ _ (λ _. 0) weighs_specifier weighs_suffix weighs_declarator weighs_member weighs_param (λ _. 0)

unfoldable pub member_weight : Member → ℕ
member_weight = fold-Member _ _ _ _ _ _ _ (λ _. 0) weighs_specifier weighs_suffix weighs_declarator weighs_member weighs_param (λ _. 0)

unfoldable pub param_weight : Param → ℕ
param_weight = fold-Param _ _ _ _ _ _ _ (λ _. 0) weighs_specifier weighs_suffix weighs_declarator weighs_member weighs_param (λ _. 0)

-- of a list that may be missing
abbrev pub list_weight : {A : Type 0} → (A → ℕ) → Option (List A) → ℕ
list_weight f None = 0
list_weight f (Some xs) = suc (total (map f xs))

-- of all that is left
abbrev pub whole : Left → ℕ
whole l = (list_weight member_weight l.here + list_weight member_weight l.way) + (list_weight param_weight l.coming + list_weight param_weight l.waiting)

-- of what is taken next
abbrev pub front : Left → ℕ
front l = list_weight member_weight l.here + list_weight param_weight l.coming

-- A step makes the whole lighter, or leaves it and makes the front lighter.
abbrev pub measure : Left → ℕ
measure l = whole l * whole l + front l

-- such are all items of a list
abbrev pub Each : {A : Type 0} → (A → Type 0) → List A → Type 0
Each {A = A} P xs = (x : A) → Contains xs x → P x

abbrev pub EachOf : {A : Type 0} → (A → Type 0) → Option (List A) → Type 0
EachOf P None = Unit {0}
EachOf P (Some xs) = Each P xs

mutual
  -- what hangs on a specifier is at most so deep, but for the nesting of bodies and parameter lists
  pub data Thin (n : ℕ) : Specifier → Type 0 where
    a_body : (tag : Option (List ℕ)) (ms : List Member) → 1 ≤ n → ((m : Member) → Contains ms m → ThinMember n m) → Thin n (sp.Struct tag (Some ms))
    as_deep : (s : Specifier) → size-Specifier s ≤ n → Thin n s

  pub data ThinSuffix (n : ℕ) : Suffix → Type 0 where
    a_list : (ps : List Param) (more : Bool) → 1 ≤ n → ((p : Param) → Contains ps p → ThinParam n p) → ThinSuffix n (su.Params ps more)
    as_deep_suffix : (s : Suffix) → size-Suffix s ≤ n → ThinSuffix n s

  pub data ThinMember (n : ℕ) : Member → Type 0 where
    a_member : (m : Member) → ((s : Specifier) → Contains (out-Member m).specs s → Thin n s) → ((d : Declarator) → Contains (out-Member m).declarators d → ThinSuffix n d.suffix) → ThinMember n m

  pub data ThinParam (n : ℕ) : Param → Type 0 where
    a_param : (p : Param) → 1 ≤ n → ((s : Specifier) → Contains (out-Param p).specs s → Thin n s) → ThinSuffix n (out-Param p).declarator.suffix → ThinParam n p

abbrev pub IsThin : ℕ → Left → Type 0
IsThin n l = (EachOf (ThinMember n) l.here × EachOf (ThinMember n) l.way) × (EachOf (ThinParam n) l.coming × EachOf (ThinParam n) l.waiting)

-- what is dropped is at most so deep
abbrev pub Fits : ℕ → Leaf → Type 0
Fits n leaf.Nothing = Unit {0}
Fits n (leaf.Specifier s) = size-Specifier s ≤ n
Fits n (leaf.Suffix s) = size-Suffix s ≤ n
Fits n (leaf.Member specs ds) = (specs ≡ []) × (ds ≡ [])
Fits n (leaf.Param specs s) = (specs ≡ []) × (size-Suffix s ≤ n)
Fits n (leaf.Members ms) = ms ≡ []
Fits n (leaf.Params ps) = ps ≡ []

abbrev pub Finds : Specifier → Found → Type 0
Finds s (found.Body tag ms) = s ≡ sp.Struct tag (Some ms)
Finds s (found.Other t) = (t ≡ s) × ((tag : Option (List ℕ)) (ms : List Member) → s ≡ sp.Struct tag (Some ms) → ⊥)

-- the last member, and its last specifier
abbrev pub Splits : List Member → Split → Type 0
Splits ms (split.Nothing rest) = (ms ≡ []) × (rest ≡ [])
Splits ms (split.Bare rest specs ds) =
    (vec_len rest < vec_capacity rest) × (specs ≡ []) ×
    ((m : Member) × (ms ≡ rest.items ++ m ∷ []) × ((out-Member m).specs ≡ []) × ((out-Member m).declarators ≡ ds))
Splits ms (split.Last rest specs ds s) =
    (vec_len rest < vec_capacity rest) × (vec_len specs < vec_capacity specs) ×
    ((m : Member) × (ms ≡ rest.items ++ m ∷ []) × ((out-Member m).specs ≡ specs.items ++ s ∷ []) × ((out-Member m).declarators ≡ ds))

-- the last parameter
abbrev pub SplitsParams : List Param → SplitParams → Type 0
SplitsParams ps (params.Nothing rest) = (ps ≡ []) × (rest ≡ [])
SplitsParams ps (params.Last rest specs d) =
    (vec_len rest < vec_capacity rest) ×
    ((p : Param) × (ps ≡ rest.items ++ p ∷ []) × ((out-Param p).specs ≡ specs) × ((out-Param p).declarator ≡ d))

-- the suffix in which parameters are kept
abbrev pub kept_suffix : Option (List Param) → Suffix
kept_suffix None = su.Plain
kept_suffix (Some ps) = su.Params ps false

-- A suffix gives way to the parameters that hang on it, or else to what is dropped of it.
pub record Parts (s : Suffix) (parts : Option (List Param) × Leaf) : Type 0 where
  pub lighter : list_weight param_weight parts.0 < suffix_weight s
  pub thin : (n : ℕ) → ThinSuffix n s → EachOf (ThinParam n) parts.0 × Fits n parts.1

-- A step makes what is left lighter, or nearer to being so; what is dropped is no deeper than it may be.
pub record Advances (l next : Left) (gone : Leaf) : Type 0 where
  pub less : measure next < measure l
  pub thin : (n : ℕ) → IsThin n l → IsThin n next × Fits n gone

abbrev pub Goes : Left → Step → Type 0
Goes l step.Done = ((l.here ≡ None) × (l.way ≡ None)) × ((l.coming ≡ None) × (l.waiting ≡ None))
Goes l (step.Next next gone) = Advances l next gone

-- the whole becomes lighter
pub record Lightens (l next : Left) (gone : Leaf) : Type 0 where
  pub less : whole next < whole l
  pub thin : (n : ℕ) → IsThin n l → IsThin n next × Fits n gone

abbrev pub Passes : Left → Step → Type 0
Passes l step.Done = ⊥
Passes l (step.Next next gone) = Lightens l next gone
