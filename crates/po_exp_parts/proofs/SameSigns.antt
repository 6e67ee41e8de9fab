-- Equal signs have equal bytes.
use Rattle.std.proofs.Common.{◌≡◌, ℕ, List, ◌∷◌, ap}
use Rattle.po_tree.specs.Signs.{Sign, word, string}

-- equal words
pub same_word : {text other : List ℕ} {ts us : List Sign} → word text ∷ ts ≡ word other ∷ us → (text ≡ other) × (ts ≡ us)
same_word {text = text} {other = other} w = let heads : word text ≡ word other = cc in (ap (λ v. v.text) heads, cc)

-- equal string literals
pub same_string : {text other : List ℕ} {ts us : List Sign} → string text ∷ ts ≡ string other ∷ us → (text ≡ other) × (ts ≡ us)
same_string {text = text} {other = other} w = let heads : string text ≡ string other = cc in (ap (λ v. v.text) heads, cc)
