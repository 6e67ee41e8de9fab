-- What a return gives, and what becomes of the blocks of its frame's slots.
use Rattle.std.specs.Prelude.{ℕ, zero, suc, ◌+◌, ◌≡◌, ◌<◌, take, slice_index_or, List, [], ◌∷◌, ◌++◌, Option, Some, None, length, reverse}
use Rattle.std.proofs.Common.{refl, sym, ap, ◌∙◌, subst, arith}
use Rattle.std.proofs.lemmas.List.{length-set, reverse-append}
use Rattle.po_base.specs.declared.operand.Opnd.{Opnd}
use Rattle.po_base.specs.declared.numbers.FunNo.{FunNo}
use Rattle.po_base.specs.declared.numbers.RegNo.{RegNo}
use Rattle.po_ir.specs.declared.project.Function.{Function}
use Rattle.po_ir.specs.declared.project.Project.{Project}
use Rattle.po_memory.specs.declared.block.Block.{Block}
use Rattle.po_memory.specs.declared.frame.Frame.{Frame}
use Rattle.po_memory.specs.declared.value.Value.{Value}
use Rattle.po_memory.specs.Accesses.{Kills, killed}
use Rattle.po_meaning.specs.Operands.{receive}
use Rattle.po_meaning.specs.Steps.{KillsAll, Returned, Returns}
use Rattle.po_meaning.specs.Belongs.{Calls, Wait}
use Rattle.po_step.specs.Passing.{HaveBlocks, Receives}
use Rattle.po_step.specs.Stepping.{state_of}
use Rattle.po_step.proofs.Passed.{index_there}

-- ---- blocks

kills_more : (xs ys : List (Option ℕ)) (m w v : List Block) → KillsAll xs m w → KillsAll ys w v → KillsAll (xs ++ ys) m v
kills_more [] ys m w v first last = subst (λ (l : List Block). KillsAll ys l v) first last
kills_more (None ∷ xs) ys m w v first last = kills_more xs ys m w v first last
kills_more (Some b ∷ xs) ys m w v first last = (first.0, first.1, kills_more xs ys first.0 w v first.2 last)

kills_keep : (xs : List (Option ℕ)) (m w : List Block) → KillsAll xs m w → length w ≡ length m
kills_keep [] m w same = ap (λ (l : List Block). length l) same
kills_keep (None ∷ xs) m w kills = kills_keep xs m w kills
kills_keep (Some b ∷ xs) m w kills =
    let one : Kills m b kills.0 = kills.1 in
    kills_keep xs kills.0 w kills.2 ∙ (ap (λ (l : List Block). length l) one.becomes ∙ length-set m b (killed one.whole))

-- one slot more
pub kills_need : (slots : List (Option ℕ)) (before m : List Block) (i : ℕ) → HaveBlocks slots before → KillsAll (take i slots) before m → i < length slots → (b : ℕ) → slice_index_or slots i None ≡ Some b → b < length m
kills_need slots before m i have kills inside b is =
    let less = have i b (index_there slots i None inside ∙ ap Some is) in
    let same = kills_keep (take i slots) before m kills in
    omega (arith, less, same)

take_more : (xs : List (Option ℕ)) (i : ℕ) (d : Option ℕ) → i < length xs → take (suc i) xs ≡ take i xs ++ slice_index_or xs i d ∷ []
take_more [] i d inside = absurd (omega (arith, inside))
take_more (x ∷ xs) zero d inside = refl
take_more (x ∷ xs) (suc i) d inside = ap (λ (ys : List (Option ℕ)). x ∷ ys) (take_more xs i d (omega (arith, inside)))

pub kills_next : (slots : List (Option ℕ)) (before m w : List Block) (i : ℕ) → i < length slots → KillsAll (take i slots) before m → KillsAll (slice_index_or slots i None ∷ []) m w → KillsAll (take (i + 1) slots) before w
kills_next slots before m w i inside first last =
    let next : suc i ≡ i + 1 = omega arith in
    subst (λ (list : List (Option ℕ)). KillsAll list before w) (sym (take_more slots i None inside) ∙ ap (λ (n : ℕ). take n slots) next) (kills_more (take i slots) (slice_index_or slots i None ∷ []) before m w first last)

-- ---- the frame that waits

pub last_first : (below : List Frame) (caller : Frame) → reverse (below ++ caller ∷ []) ≡ caller ∷ reverse below
last_first below caller = reverse-append below (caller ∷ [])

pub waits_last : (p : Project) (n : FunNo) (waiting below : List Frame) (caller : Frame) → waiting ≡ below ++ caller ∷ [] → Wait p n (reverse waiting) → Calls p caller n
waits_last p n waiting below caller is waits = (subst (Wait p n) (ap (λ (l : List Frame). reverse l) is ∙ last_first below caller) waits).0

pub returns_to : (p : Project) (f : Function) (value : Option Opnd) (top now caller : Frame) (waiting below : List Frame) (m w : List Block) (to : Option RegNo) (result : Option Value) → waiting ≡ below ++ caller ∷ [] →
    Receives p caller to → Returned f top value result → KillsAll top.slots m w → now ≡ receive to result caller → Returns p f value (state_of top waiting m) (state_of now below w)
returns_to p f value top now caller waiting below m w to result is into gives kills becomes = record {
  caller = caller;
  below = reverse below;
  waiting = ap (λ (l : List Frame). reverse l) is ∙ last_first below caller;
  calling = into.calling;
  to = to;
  callee = into.callee;
  args = into.args;
  strings = into.strings;
  calls = into.calls;
  result = result;
  is_result = gives;
  top = becomes;
  rest = refl;
  memory = kills;
}
