-- Parts of a type, and members of a struct without a tag, weigh less.
use Rattle.std.proofs.Common.{◌≡◌, ℕ, zero, suc, ◌+◌, ◌-◌, ◌*◌, ◌≤◌, ◌<◌, List, [], ◌∷◌, length, get_or, map, refl, sym, subst, arith, mul-le-mul_right, Option, None, Bool}
use Rattle.std.proofs.lemmas.List.Recursion.{max_bounds, max_least}
use Rattle.po_types.specs.declared.ctype.CType.{CType}
use Rattle.po_types.specs.declared.ctype.CType.TheVariants as c
use Rattle.po_types.specs.declared.env.Env.{Env}
use Rattle.po_types.specs.Nesting.{greatest, depth, structs_below, IsWellFounded, deepest, weight}
use Rattle.po_types.proofs.NestingLaws.{depth_Ptr, depth_Array, depth_Struct, depth_Fun, below_Ptr, below_Array, below_Struct, below_Fun}

greatest_at : {X : Type 0} (f : X → ℕ) (xs : List X) (i : ℕ) (d : X) → i < length xs → f (get_or xs i d) ≤ greatest (map f xs)
greatest_at f xs i d h = max_bounds (λ ys. greatest (map f ys)) f refl (λ y ys. refl) xs i d h

greatest_least : {X : Type 0} (f : X → ℕ) (xs : List X) (d : X) (m : ℕ) → ((i : ℕ) → i < length xs → f (get_or xs i d) ≤ m) → greatest (map f xs) ≤ m
greatest_least f xs d m h = max_least (λ ys. greatest (map f ys)) f refl (λ y ys. refl) xs d m h

lighter : (a b c d k : ℕ) → a ≤ c → b < d → a * k + b < c * k + d
lighter a b c d k h j = let m = mul-le-mul_right k h in omega (arith, m, j)

pub no_heavier : (env : Env) (t u : CType) → structs_below t ≤ structs_below u → depth t ≤ depth u → weight env t ≤ weight env u
no_heavier env t u h j = let m = mul-le-mul_right (deepest env) h in omega (arith, m, j)

pub param_lighter : (env : Env) (t : CType) (params : List CType) (more : Bool) (i : ℕ) (d : CType) → i < length params → weight env (get_or params i d) < weight env (c.Fun t params more)
param_lighter env t params more i d h =
    let below = greatest_at structs_below params i d h in
    let deep = greatest_at depth params i d h in
    let b = below_Fun t params more in
    let e = depth_Fun t params more in
    lighter (structs_below (get_or params i d)) (depth (get_or params i d)) (structs_below (c.Fun t params more)) (depth (c.Fun t params more)) (deepest env)
    (omega (arith, below, b)) (omega (arith, deep, e))

pub params_lighter : (env : Env) (t : CType) (params : List CType) (more : Bool) → greatest (map (weight env) params) + 1 ≤ weight env (c.Fun t params more)
params_lighter env t params more =
    let e = depth_Fun t params more in
    let some : 1 ≤ weight env (c.Fun t params more) = omega (arith, e) in
    let least = greatest_least (weight env) params t (weight env (c.Fun t params more) - 1) (λ i h. let l = param_lighter env t params more i t h in omega (arith, l)) in
    omega (arith, least, some)

pub param_at : (env : Env) (params : List CType) (i : ℕ) (d : CType) → i < length params → weight env (get_or params i d) ≤ greatest (map (weight env) params)
param_at env params i d h = greatest_at (weight env) params i d h

member_depth : (members : List (List (List ℕ × CType))) (n i : ℕ) (d : List ℕ × CType) → i < length (get_or members n []) →
    depth (get_or (get_or members n []) i d).1 ≤ greatest (map (λ ms. greatest (map (λ m. depth m.1) ms)) members)
member_depth members n i d h =
    let within = some_index members n i h in
    let of_struct = greatest_at (λ m. depth m.1) (get_or members n []) i d h in
    let of_all = greatest_at (λ ms. greatest (map (λ m. depth m.1) ms)) members n [] within in
    omega (arith, of_struct, of_all)
  where
    some_index : {X : Type 0} (xss : List (List X)) (n i : ℕ) → i < length (get_or xss n []) → n < length xss
    some_index [] n i h = absurd (omega (arith, h))
    some_index (xs ∷ xss) zero i h = omega arith
    some_index (xs ∷ xss) (suc n) i h = let k = some_index xss n i h in omega (arith, k)

pub member_lighter : (env : Env) (n i : ℕ) (d : List ℕ × CType) → IsWellFounded env → get_or env.names n None ≡ None → i < length (get_or env.members n []) →
    weight env (get_or (get_or env.members n []) i d).1 < weight env (c.Struct n)
member_lighter env n i d founded none h =
    let below : structs_below (get_or (get_or env.members n []) i d).1 ≤ n = founded n none i d h in
    let deep = member_depth env.members n i d h in
    let b = below_Struct n in
    let m = mul-le-mul_right (deepest env) below in
    rw (below_Struct n, depth_Struct n) (omega (arith, m, deep))

-- the type of a part names no further structs, and is less deep
abbrev pub IsPart : CType → CType → Type 0
IsPart part t = (structs_below part ≤ structs_below t) × (depth part < depth t)

along : {part u t v : CType} → t ≡ u → part ≡ v → IsPart v u → IsPart part t
along {t = t} {v = v} q p h = subst (λ x. IsPart x t) (sym p) (subst (λ x. IsPart v x) (sym q) h)

pub pointer_part : (t to part : CType) → t ≡ c.Ptr to → part ≡ to → IsPart part t
pointer_part t to part q p = let b = below_Ptr to in let d = depth_Ptr to in along q p (omega (arith, b), omega (arith, d))

pub array_part : (t element part : CType) (n : Option ℕ) → t ≡ c.Array element n → part ≡ element → IsPart part t
array_part t element part n q p = let b = below_Array element n in let d = depth_Array element n in along q p (omega (arith, b), omega (arith, d))

pub result_part : (t to part : CType) (params : List CType) (more : Bool) → t ≡ c.Fun to params more → part ≡ to → IsPart part t
result_part t to part params more q p = let b = below_Fun to params more in let d = depth_Fun to params more in along q p (omega (arith, b), omega (arith, d))

-- what parameters weigh, in a function that is inside a type
pub params_inside : (env : Env) (t inner to : CType) (params list : List CType) (more : Bool) → inner ≡ c.Fun to params more → list ≡ params →
    structs_below inner ≤ structs_below t → depth inner ≤ depth t → greatest (map (weight env) list) + 1 ≤ weight env t
params_inside env t inner to params list more q l h j =
    let least : greatest (map (weight env) list) + 1 ≤ weight env inner =
    subst (λ x. greatest (map (weight env) list) + 1 ≤ weight env x) (sym q)
    (subst (λ x. greatest (map (weight env) x) + 1 ≤ weight env (c.Fun to params more)) (sym l) (params_lighter env to params more)) in
    let most = no_heavier env inner t h j in
    omega (arith, least, most)
