use Rattle.std.proofs.Common.{◌*◌, ◌+◌, ◌≤◌, map, take, get_or, []}
use Rattle.po_types.specs.declared.ctype.CType.TheVariants as c
use Rattle.po_types.specs.Spelling.{AllSpelled, Writes}
use Rattle.po_types.specs.Nesting.{depth, structs_below, weight, greatest}
use Rattle.po_types.proofs.Spells.{Ends}
use Rattle.po_types.proofs.spelling.+spelling.Given as goal

abbrev pub decreases-spell : goal.decreases-spell
decreases-spell l = 4 * weight l.env.now l.t.now + 3

abbrev pub decreases-spell_struct : goal.decreases-spell_struct
decreases-spell_struct l = 4 * weight l.env.now (c.Struct l.n) + 2

abbrev pub decreases-spell_members : goal.decreases-spell_members
decreases-spell_members l = 4 * weight l.env.now (c.Struct l.n) + 1

abbrev pub decreases-spell_params : goal.decreases-spell_params
decreases-spell_params l = 4 * greatest (map (weight l.env.now) l.params.now) + 4

abbrev pub invariant-spell-loop-inner : goal.invariant-spell-loop-inner
invariant-spell-loop-inner l =
    (structs_below l.inner ≤ structs_below l.fn.t) × (depth l.inner ≤ depth l.fn.t) × Ends l.fn.env l.fn.t l.initial.out l.inner l.out

abbrev pub decreases-spell-loop-inner : goal.decreases-spell-loop-inner
decreases-spell-loop-inner l = depth l.inner

abbrev pub invariant-spell_members-loop-i : goal.invariant-spell_members-loop-i
invariant-spell_members-loop-i l = Writes (AllSpelled l.fn.env (take l.i (map (λ m. m.1) (get_or l.fn.env.members l.fn.n [])))) l.initial.out l.out

abbrev pub invariant-spell_params-loop-i : goal.invariant-spell_params-loop-i
invariant-spell_params-loop-i l = Writes (AllSpelled l.fn.env (take l.i l.fn.params)) l.initial.out l.out
