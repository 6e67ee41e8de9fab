-- What is asked of each of two pointers. Private clauses alone cite these words.
use Rattle.std.specs.Prelude.{ℤ, pos, ◌⊎◌, ◌+ℤ◌, ◌≤ℤ◌, List}
use Rattle.po_memory.specs.declared.block.Block.{Block}
use Rattle.po_memory.specs.Blocks.{AreApart, Fits, HasRoom}
use Rattle.po_holds.specs.declared.choosing.Numbers.{Numbers}
use Rattle.po_holds.specs.declared.choosing.Pointers.{Pointers}
use Rattle.po_holds.specs.Choosing.{IsOneOf, EachMoved}

abbrev pub EachAfter : Numbers → Numbers → Numbers → Type 0
EachAfter p q n = (o r z : ℤ) → IsOneOf p o → IsOneOf q r → IsOneOf n z → (o +ℤ z) ≤ℤ r

abbrev pub ReachesNone : Numbers → Type 0
ReachesNone n = (z : ℤ) → IsOneOf n z → z ≤ℤ pos 0

abbrev pub EachApart : Numbers → Numbers → Numbers → Type 0
EachApart p q n = (o r z : ℤ) → IsOneOf p o → IsOneOf q r → IsOneOf n z → ((o +ℤ z) ≤ℤ r) ⊎ ((r +ℤ z) ≤ℤ o)

abbrev pub EachFits : Block → Numbers → Block → Numbers → Type 0
EachFits c at d from = (o r : ℤ) → IsOneOf at o → IsOneOf from r → Fits o c r d

abbrev pub MovedApart : Pointers → Pointers → Numbers → Type 0
MovedApart v w n = (z : ℤ) → IsOneOf n z → EachMoved v (λ x. EachMoved w (λ y. AreApart z x y))

abbrev pub MovedRoom : List Block → Pointers → Pointers → Type 0
MovedRoom blocks v w = EachMoved v (λ x. EachMoved w (λ y. HasRoom blocks x y))
