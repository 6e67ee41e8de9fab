-- Each external name has one function.
use Rattle.std.proofs.Common.{◌≡◌, ℕ, zero, suc, ◌+◌, ◌-◌, ◌<◌, ◌≤◌, List, [], ◌∷◌, ◌++◌, false, length, take, refl, ap, sym, ◌∙◌, inl, inr, subst, arith}
use Rattle.std.specs.Prelude.{Some, Contains, flat_map, slice_get, nat_lt}
use Rattle.std.proofs.lemmas.Bool.{ltb-true, ltb-false}
use Rattle.std.proofs.lemmas.Bool.Decides.{eqb_tells}
use Rattle.std.proofs.lemmas.List.{length-append, length-map}
use Rattle.std.proofs.lemmas.List.Elements.{Contains-append_left, Contains-append_right}
use Rattle.std.proofs.lemmas.Option.{same_Some, slice_get_within, get_or_from_slice_get}
use Rattle.po_lists.proofs.Places.{mapped_from, first_at, second_at}
use Rattle.po_lists.proofs.Members.{contains_head}
use Rattle.po_lists.proofs.Booleans.{bool_cases}
use Rattle.po_ir.specs.declared.project.Function.{Function}
use Rattle.po_ir.specs.declared.unit.Unit.{Unit as FileUnit}
use Rattle.po_ir.specs.General.{each_from}
use Rattle.po_symbols.specs.Linking.{InFile, GivesBody, function_body, global_body}
use Rattle.po_symbols.proofs.SaidOf.{in_file}
use Rattle.po_link.specs.Joined.{functions_of, naming_of, joined_function, joined_functions}
use Rattle.po_link.specs.Outcome.{ShowsOnce, OneFunctionEach}

-- where the function of the project stands in its file
record Placed (units : List FileUnit) (n : ℕ) (xs : List FileUnit) (i : ℕ) (f : Function) : Type 0 where
  file : ℕ
  place : ℕ
  u : FileUnit
  from : Function
  unit_at : slice_get xs file ≡ Some u
  function_at : slice_get u.functions place ≡ Some from
  number : i ≡ length (flat_map functions_of (take file xs)) + place
  same : joined_function (naming_of units (n + file) u) (n + file) from ≡ f

placed : (units : List FileUnit) (n : ℕ) (xs : List FileUnit) (i : ℕ) (f : Function) → slice_get (each_from (joined_functions units) n xs) i ≡ Some f → Placed units n xs i f
placed units n [] i f h = absurd (cc)
placed units n (x ∷ xs) i f h =
    let all = joined_functions units n x in
    let count : length all ≡ length x.functions = length-map x.functions (joined_function (naming_of units n x) n) in
    elim (bool_cases (nat_lt i (length all))) [
      | inl t ↦
          let below : i < length all = ltb-true _ _ t in
          let r = mapped_from (joined_function (naming_of units n x) n) x.functions i f (sym (first_at all (each_from (joined_functions units) (n + 1) xs) i below) ∙ h) in
          let e : n ≡ n + 0 = omega arith in
          record { file = 0; place = i; u = x; from = r.0; unit_at = refl; function_at = r.1; number = (omega arith); same = subst (λ k. joined_function (naming_of units k x) k r.0 ≡ f) e r.2 }
      | inr past ↦
          let above : length all ≤ i = ltb-false _ _ past in
          let j = i - length all in
          let split : i ≡ length all + j = omega arith in
          let later : slice_get (each_from (joined_functions units) (n + 1) xs) j ≡ Some f = sym (second_at all (each_from (joined_functions units) (n + 1) xs) (length all) j refl) ∙ ap (slice_get (all ++ each_from (joined_functions units) (n + 1) xs)) (sym split) ∙ h in
          let r = placed units (n + 1) xs j f later in
          let e : (n + 1) + r.file ≡ n + suc r.file = omega arith in
          let total = length-append (functions_of x) (flat_map functions_of (take r.file xs)) in
          let number = r.number in
          record {
            file = suc r.file;
            place = r.place;
            u = r.u;
            from = r.from;
            unit_at = r.unit_at;
            function_at = r.function_at;
            number = (omega arith);
            same = subst (λ k. joined_function (naming_of units k r.u) k r.from ≡ f) e r.same;
          }
    ]

shown : (fs : List Function) (place : ℕ) (f : Function) → slice_get fs place ≡ Some f → f.local ≡ false → Contains (flat_map function_body fs) f.name
shown [] place f h l = absurd (cc)
shown (g ∷ gs) zero f h l =
    let same : g ≡ f = same_Some g f h in
    let here : function_body f ≡ f.name ∷ [] = rw l refl in
    Contains-append_left (function_body g) (flat_map function_body gs) f.name (subst (λ z. Contains (function_body z) f.name) (sym same) (subst (λ z. Contains z f.name) (sym here) (contains_head f.name [])))
shown (g ∷ gs) (suc place) f h l = Contains-append_right (function_body g) (flat_map function_body gs) f.name (shown gs place f h l)

gives : (units : List FileUnit) (file place : ℕ) (u : FileUnit) (f : Function) → slice_get units file ≡ Some u → slice_get u.functions place ≡ Some f → f.local ≡ false → InFile units file (GivesBody f.name)
gives units file place u f at here l =
    in_file units file u (GivesBody f.name) at (Contains-append_left (flat_map function_body u.functions) (flat_map global_body u.globals) f.name (shown u.functions place f here l))

pub one_function_each : OneFunctionEach
one_function_each units target p h once i j f g at_i at_j local_f local_g names =
    let functions = h.2.joined_parts.functions in
    let a = placed units 0 units i f (sym (ap (λ l. slice_get l i) functions) ∙ at_i) in
    let b = placed units 0 units j g (sym (ap (λ l. slice_get l j) functions) ∙ at_j) in
    let name_a : a.from.name ≡ f.name = ap (λ (z : Function). z.name) a.same in
    let name_b : b.from.name ≡ g.name = ap (λ (z : Function). z.name) b.same in
    let local_a : a.from.local ≡ false = ap (λ (z : Function). z.local) a.same ∙ local_f in
    let local_b : b.from.local ≡ false = ap (λ (z : Function). z.local) b.same ∙ local_g in
    let one : b.from.name ≡ a.from.name = name_b ∙ sym names ∙ sym name_a in
    let first = gives units a.file a.place a.u a.from a.unit_at a.function_at local_a in
    let second = subst (λ z. InFile units b.file (GivesBody z)) one (gives units b.file b.place b.u b.from b.unit_at b.function_at local_b) in
    elim (eqb_tells a.file b.file) [
      | inl same ↦
          let unit_is : a.u ≡ b.u = same_Some a.u b.u (sym a.unit_at ∙ ap (slice_get units) same.1 ∙ b.unit_at) in
          let there : slice_get a.u.functions b.place ≡ Some b.from = subst (λ (z : FileUnit). slice_get z.functions b.place ≡ Some b.from) (sym unit_is) b.function_at in
          let shows : ShowsOnce a.u = at_unit a.file a.u a.unit_at in
          let place : a.place ≡ b.place = shows a.place b.place a.from b.from a.function_at there local_a local_b (sym one) in
          a.number ∙ ap (λ k. length (flat_map functions_of (take k units)) + a.place) same.1 ∙ ap (λ k. length (flat_map functions_of (take b.file units)) + k) place ∙ sym b.number
      | inr other ↦ elim (bool_cases (nat_lt a.file b.file)) [
        | inl t ↦ absurd (h.0 a.from.name (a.file, b.file, inl (record { ascending = ltb-true _ _ t; first = first; second = second })))
        | inr f ↦
            let above : b.file ≤ a.file = ltb-false _ _ f in
            let below : b.file < a.file = less b.file a.file above (λ e. other.1 (sym e)) in
            absurd (h.0 a.from.name (b.file, a.file, inl (record { ascending = below; first = second; second = first })))
      ]
    ]
  where
    at_unit : (file : ℕ) (u : FileUnit) → slice_get units file ≡ Some u → ShowsOnce u
    at_unit file u at = subst ShowsOnce (get_or_from_slice_get units file u u at) (once file u (slice_get_within units file u at))

    less : (m n : ℕ) → m ≤ n → (m ≡ n → ⊥) → m < n
    less m n h k = elim (bool_cases (nat_lt m n)) [ inl t ↦ ltb-true _ _ t | inr past ↦ let l = ltb-false m n past in absurd (k (omega arith)) ]
