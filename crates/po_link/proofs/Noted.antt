-- One more item is noted.
use Rattle.std.proofs.Common.{◌≡◌, ℕ, ◌+◌, ◌<◌, List, [], ◌∷◌, ◌++◌, Bool, true, false, cond, length, get_or, take, refl, ap, sym, ◌∙◌, bytes_eq, arith, rules}
use Rattle.std.specs.Prelude.{Option, Some, None, not, ◌&&◌, option_map, find, position}
use Rattle.std.specs.Option.{option_or}
use Rattle.std.specs.Ordering.{nat_cmp, is_eq}
use Rattle.std.specs.BTreeMap.{BTreeMap, get}
use Rattle.std.specs.Cmp.Lexicographic.{slice_cmp}
use Rattle.std.proofs.lemmas.Map.Text.{is_eq-slice_cmp}
use Rattle.std.proofs.lemmas.List.{length_push, length-take-le, take_more}
use Rattle.po_ir.specs.declared.project.Function.{Function}
use Rattle.po_link.specs.declared.seen.Seen.{Seen}
use Rattle.po_ir.specs.declared.unit.LibUse.{LibUse}
use Rattle.po_symbols.specs.Names.{named}
use Rattle.po_link.specs.Joined.{is_seen, is_named, is_lib}
use Rattle.po_link.specs.Noted.{AreSeen}
use Rattle.po_symbols.proofs.Places.{position-push, find-push, mapped}

pub seen_more : (before : List Function) (f : Function) (old : Seen) (numbers : BTreeMap (List ℕ) ℕ) (key : List ℕ) (count : ℕ) → f.local ≡ false → key ≡ f.name → count ≡ old.count + 1 →
    ((q : List ℕ) → named numbers q ≡ option_or (named old.numbers q) (cond (is_eq (slice_cmp nat_cmp key q)) (Some old.count) None)) →
    AreSeen old before → AreSeen (record { numbers = numbers; count = count }) (before ++ f ∷ [])
seen_more before f old numbers key count open_one same next noted h = record {
  count = let l = length_push before f in let c = h.count in omega arith;
  numbers = λ q.
      let test : is_eq (slice_cmp nat_cmp key q) ≡ is_seen q f = is_eq-slice_cmp key q ∙ ap (λ z. bytes_eq z q) same ∙ ap (λ b. not b && bytes_eq f.name q) (sym open_one) in
      noted q ∙ ap (λ o. option_or o (cond (is_eq (slice_cmp nat_cmp key q)) (Some old.count) None)) (h.numbers q)
      ∙ ap (λ b. option_or (position (is_seen q) before) (cond b (Some old.count) None)) test
      ∙ ap (λ n. option_or (position (is_seen q) before) (cond (is_seen q f) (Some n) None)) h.count
      ∙ sym (position-push (is_seen q) before f);
}

mapped_or : {V : Type 0} (f : LibUse → V) (o r : Option LibUse) → option_or (option_map f o) (option_map f r) ≡ option_map f (option_or o r)
mapped_or f None r = refl
mapped_or f (Some x) r = refl

mapped_cond : {V : Type 0} (f : LibUse → V) (b : Bool) (x : LibUse) → cond b (Some (f x)) None ≡ option_map f (cond b (Some x) None)
mapped_cond f true x = refl
mapped_cond f false x = refl

-- what is noted of the first library function of each number
pub found_more : {V : Type 0} (f : LibUse → V) (before : List LibUse) (used : LibUse) (v : V) (old new : BTreeMap ℕ V) → v ≡ f used →
    ((q : ℕ) → get nat_cmp new q ≡ option_or (get nat_cmp old q) (cond (is_eq (nat_cmp used.lib.0 q)) (Some v) None)) →
    ((q : ℕ) → get nat_cmp old q ≡ option_map f (find (is_lib q) before)) → (q : ℕ) → get nat_cmp new q ≡ option_map f (find (is_lib q) (before ++ used ∷ []))
found_more f before used v old new is noted h q =
    let test : is_eq (nat_cmp used.lib.0 q) ≡ is_lib q used = search rules in
    noted q ∙ ap (λ o. option_or o (cond (is_eq (nat_cmp used.lib.0 q)) (Some v) None)) (h q)
    ∙ ap (λ b. option_or (option_map f (find (is_lib q) before)) (cond b (Some v) None)) test
    ∙ ap (λ w. option_or (option_map f (find (is_lib q) before)) (cond (is_lib q used) (Some w) None)) is
    ∙ ap (λ o. option_or (option_map f (find (is_lib q) before)) o) (mapped_cond f (is_lib q used) used)
    ∙ mapped_or f (find (is_lib q) before) (cond (is_lib q used) (Some used) None)
    ∙ ap (option_map f) (sym (find-push (is_lib q) before used))

-- the file's own functions are noted
pub own_more : (first number i : ℕ) (functions : List Function) (f : Function) (old new : BTreeMap (List ℕ) ℕ) → i < length functions → f ≡ get_or functions i f → number ≡ first + i →
    ((q : List ℕ) → named old q ≡ option_map (λ place. first + place) (position (is_named q) (take i functions))) →
    ((q : List ℕ) → named new q ≡ option_or (named old q) (cond (bytes_eq f.name q) (Some number) None)) →
    (q : List ℕ) → named new q ≡ option_map (λ place. first + place) (position (is_named q) (take (i + 1) functions))
own_more first number i functions f old new below is at h noted q =
    let long : length (take i functions) ≡ i = length-take-le i functions (omega arith) in
    noted q ∙ ap (λ o. option_or o (cond (bytes_eq f.name q) (Some number) None)) (h q)
    ∙ ap (λ n. option_or (option_map (λ place. first + place) (position (is_named q) (take i functions))) (cond (bytes_eq f.name q) (Some n) None)) at
    ∙ sym (mapped (λ place. first + place) (position (is_named q) (take i functions)) (is_named q f) i)
    ∙ ap (λ n. option_map (λ place. first + place) (option_or (position (is_named q) (take i functions)) (cond (is_named q f) (Some n) None))) (sym long)
    ∙ ap (option_map (λ place. first + place)) (sym (position-push (is_named q) (take i functions) f))
    ∙ ap (λ l. option_map (λ place. first + place) (position (is_named q) l)) (sym (take_more functions i f below ∙ ap (λ x. take i functions ++ x ∷ []) (sym is)))
