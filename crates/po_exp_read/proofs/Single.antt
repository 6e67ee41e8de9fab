-- Signs are read as one expression at most.
use Rattle.std.proofs.Common.{◌≡◌, ℕ, List, [], length, refl, arith}
use Rattle.po_tree.specs.declared.expression.Exp.{Exp}
use Rattle.po_tree.specs.Signs.{Sign}
use Rattle.po_exp_parts.specs.Reading.{Reads}
use Rattle.po_exp_read.proofs.Comparing.{Compared, same, longer, shorter}
use Rattle.po_exp_read.proofs.Compared.{reads_compared}

length_same : {A : Type 0} {Ends : A → List Sign → Type 0} {x y : A} {us vs : List Sign} → length us ≡ length vs → Compared Ends x us y vs → (x ≡ y) × (us ≡ vs)
length_same h (same w v) = (w, v)
length_same h (longer less ends) = absurd (omega arith)
length_same h (shorter less ends) = absurd (omega arith)

-- two readings of the same signs that leave as much are the same
pub reads_same : {types : List (List ℕ)} {l : ℕ} {ts us vs : List Sign} {x y : Exp} →
    Reads types l ts x us → Reads types l ts y vs → length us ≡ length vs → (x ≡ y) × (us ≡ vs)
reads_same w v h = length_same h (reads_compared w v)

-- signs that are read whole are read as one expression
pub reads_one : {types : List (List ℕ)} {l : ℕ} {ts : List Sign} {x y : Exp} → Reads types l ts x [] → Reads types l ts y [] → x ≡ y
reads_one w v = (reads_same w v refl).0
