use Rattle.std.proofs.Common.{rules, ◌≡◌, List, [], ◌∷◌, ◌++◌, ℤ, FitsSigned, append_assoc, sym}
use Rattle.std.specs.Int.{w128}
use Rattle.std.proofs.lemmas.Int.{to_z-of_z}
use Rattle.po_interval.proofs.sets.listed.Goals as goal

listed_step : (all list list' rest rest' : List ℤ) (v : ℤ) → all ≡ list ++ rest → rest ≡ v ∷ rest' → list' ≡ list ++ v ∷ [] → all ≡ list' ++ rest'
listed_step all list list' rest rest' v h e p = rw (h, e, p) (sym (append_assoc list (v ∷ []) rest'))

pub loop-v-preserved : goal.loop-v-preserved
loop-v-preserved c =
    let fits : FitsSigned w128 c.in-Some.v.now = search rules in
    let pushed = simp to_z-of_z at c.in_ok-push.ensures.ok in
    listed_step _ _ _ _ _ _ c.loop-v.invariant c.in-Some.ensures.steps pushed
