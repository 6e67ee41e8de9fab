-- Maps from names after one change.
use Rattle.std.proofs.Common.{◌≡◌, ℕ, List, false, cond, refl, ap, ◌∙◌, bytes_eq, None}
use Rattle.std.specs.Prelude.{Option}
use Rattle.std.specs.Option.{option_or}
use Rattle.std.specs.Ordering.{nat_cmp, is_eq}
use Rattle.std.specs.Cmp.Lexicographic.{slice_cmp}
use Rattle.std.specs.BTreeMap.{BTreeMap, UpdatesBy}
use Rattle.std.proofs.lemmas.Map.Text.{is_eq-slice_cmp}
use Rattle.po_symbols.specs.Names.{named}

pub put_named : {X : Type 0} (m n : BTreeMap (List ℕ) X) (key name : List ℕ) (w : Option X) → key ≡ name → UpdatesBy (slice_cmp nat_cmp) (slice_cmp nat_cmp key) m n w →
    (q : List ℕ) → named n q ≡ cond (bytes_eq name q) w (named m q)
put_named m n key name w same u q = u.0 q ∙ ap (λ b. cond b w (named m q)) (is_eq-slice_cmp key q ∙ ap (λ z. bytes_eq z q) same)

pub other_named : {X : Type 0} (m n : BTreeMap (List ℕ) X) (name : List ℕ) (w : Option X) → UpdatesBy (slice_cmp nat_cmp) (slice_cmp nat_cmp name) m n w →
    (q : List ℕ) → bytes_eq name q ≡ false → named n q ≡ named m q
other_named m n name w u q apart = put_named m n name name w refl u q ∙ ap (λ b. cond b w (named m q)) apart

pub noted_name : {X : Type 0} (m n : BTreeMap (List ℕ) X) (key name : List ℕ) (w : Option X) → key ≡ name →
    ((q : List ℕ) → named n q ≡ option_or (named m q) (cond (is_eq (slice_cmp nat_cmp key q)) w None)) → (q : List ℕ) → named n q ≡ option_or (named m q) (cond (bytes_eq name q) w None)
noted_name m n key name w same noted q = noted q ∙ ap (λ b. option_or (named m q) (cond b w None)) (is_eq-slice_cmp key q ∙ ap (λ z. bytes_eq z q) same)
