-- Tables of functions.
use Rattle.std.proofs.Common.{◌≡◌, ℕ, zero, suc, ◌<◌, List, [], ◌∷◌, ◌++◌, length, map, get_or, nat_eq, refl, sym, ◌∙◌, ap, subst, inl, inr, arith, if◌then◌else◌}
use Rattle.std.specs.Prelude.{Bool, true, false, Option, Some, None, slice_get, IfSome, IfNone}
use Rattle.std.specs.List.{Contains, position, position_or_len}
use Rattle.std.specs.Map.{keys_of, values_of}
use Rattle.std.proofs.lemmas.Bool.Decides.{Decides-eqb}
use Rattle.std.proofs.lemmas.Grind.{common_steps}
use Rattle.std.proofs.lemmas.List.Elements.{Contains-push_cases}
use Rattle.std.proofs.lemmas.List.Quantifiers.{position-Some}
use Rattle.indexmap.specs.IndexMap.{insert_entry}
use Rattle.std.proofs.lemmas.Option.{same_Some}
use Rattle.po_base.specs.declared.numbers.FunNo.{FunNo}
use Rattle.po_core.specs.Book.{Book}
use Rattle.po_lists.proofs.Members.{Has, has, contains, contains_map, has_from_map, has_item}
use Rattle.po_ledger.specs.Made.{HasTable}
use Rattle.po_ledger.specs.View.{AreTables}

pushed_got : {X : Type 0} (xs : List X) (x : X) → slice_get (xs ++ x ∷ []) (length xs) ≡ Some x
pushed_got [] x = refl
pushed_got (y ∷ ys) x = pushed_got ys x

pub table_put : {T : Type 0} (old new : List (FunNo × T)) (at : ℕ) (f : FunNo) (table : T) → at ≡ length old → new ≡ old ++ (f, table) ∷ [] → (t : T) × (slice_get new at ≡ Some (f, t))
table_put {T} old new at f table last is = (table, ap (λ (z : List (FunNo × T)). slice_get z at) is ∙ (ap (λ (z : ℕ). slice_get (old ++ (f, table) ∷ []) z) last ∙ pushed_got old (f, table)))

pub tables_put : {P N T : Type 0} (b : Book P N T) (old new : List (FunNo × T)) (f : FunNo) (table : T) → AreTables b old → b.table_of f ≡ Some table → new ≡ old ++ (f, table) ∷ [] → AreTables b new
tables_put {T = T} b old new f table right made is g t h = elim (Contains-push_cases old (f, table) (g, t) (subst (λ (z : List (FunNo × T)). Contains z (g, t)) is h)) [
  | inl k ↦ right g t k
  | inr q ↦ subst (λ (z : FunNo × T). b.table_of z.0 ≡ Some z.1) q made
]

same_function : (f g : FunNo) → nat_eq f.0 g.0 ≡ true → f ≡ g
same_function f g h = let same = (Decides-eqb f.0 g.0).0 h in λ i. record { 0 = same i }

itself : (n : ℕ) → nat_eq n n ≡ true
itself n = (Decides-eqb n n).1 refl

one_more : (t : FunNo → Bool) (x : FunNo) (xs : List FunNo) → position_or_len t xs < length xs → position_or_len t (x ∷ xs) < length (x ∷ xs)
one_more t x xs rest = by (t x) refl
  where
    by : (b : Bool) → t x ≡ b → position_or_len t (x ∷ xs) < length (x ∷ xs)
    by true e = rw e (omega arith)
    by false e = rw e (omega (arith, rest))

before_end : (t : FunNo → Bool) (ks : List FunNo) (k : FunNo) → Has ks k → t k ≡ true → position_or_len t ks < length ks
before_end t [] k h q = absurd h
before_end t (x ∷ xs) k (inl e) q =
    let here : t x ≡ true = ap t e ∙ q in
    rw here (omega arith)
before_end t (x ∷ xs) k (inr h) q = one_more t x xs (before_end t xs k h q)

none_passes : (t : FunNo → Bool) (ks : List FunNo) (k : FunNo) → position t ks ≡ None → Contains ks k → t k ≡ true → ⊥
none_passes t ks k none h q = let below = before_end t ks k (has ks k h) q in grind (arith, common_steps)

-- a function's table stands at its place
module _ {T : Type 0} where
  entry_of : (eq : FunNo → Bool) (es : List (FunNo × T)) (i : ℕ) (d : FunNo) → i < length es → eq (get_or (keys_of es) i d) ≡ true → (e : FunNo × T) × (slice_get es i ≡ Some e) × (eq e.0 ≡ true)
  entry_of eq [] i d l h = absurd (omega arith)
  entry_of eq (e ∷ es) zero d l h = (e, refl, h)
  entry_of eq (e ∷ es) (suc i) d l h = entry_of eq es i d (omega arith) h

  pub found_at : (es : List (FunNo × T)) (f : FunNo) (r : Option ℕ) → r ≡ position (λ g. nat_eq f.0 g.0) (keys_of es) → IfSome r (λ i. i < length es) → IfSome r (λ i. (table : T) × (slice_get es i ≡ Some (f, table)))
  found_at es f None is l = tt
  found_at es f (Some i) is l =
      let p = position-Some (λ g. nat_eq f.0 g.0) (keys_of es) i f (sym is) in
      let e = entry_of (λ g. nat_eq f.0 g.0) es i f l p.1 in
      (e.0.1, e.1 ∙ ap (λ (z : FunNo). let y : Option (FunNo × T) = Some (z, e.0.1) in y) (sym (same_function f e.0.0 e.2)))

  -- a function whose table isn't found has none
  pub none_found : (es : List (FunNo × T)) (f : FunNo) (r : Option ℕ) → r ≡ position (λ g. nat_eq f.0 g.0) (keys_of es) → IfNone r (¬ HasTable es f)
  none_found es f None is = λ h. none_passes (λ g. nat_eq f.0 g.0) (keys_of es) f (sym is) (contains_map (λ (e : FunNo × T). e.0) es (f, h.0) h.1) (itself f.0)
  none_found es f (Some i) is = tt

  at_the_end : (e : FunNo × T) (es : List (FunNo × T)) (f : FunNo) (table : T) → ¬ (e.0 ≡ f) → insert_entry (λ g h. nat_eq g.0 h.0) es f table ≡ es ++ (f, table) ∷ [] → insert_entry (λ g h. nat_eq g.0 h.0) (e ∷ es) f table ≡ e ∷ es ++ (f, table) ∷ []
  at_the_end e es f table other rest = by (nat_eq f.0 e.0.0) refl
    where
      by : (b : Bool) → nat_eq f.0 e.0.0 ≡ b → insert_entry (λ g h. nat_eq g.0 h.0) (e ∷ es) f table ≡ e ∷ es ++ (f, table) ∷ []
      by true q = absurd (other (sym (same_function f e.0 q)))
      by false q = rw q (ap (λ (z : List (FunNo × T)). e ∷ z) rest)

  insert_new : (es : List (FunNo × T)) (f : FunNo) (table : T) → ¬ Has (map (λ e. e.0) es) f → insert_entry (λ g h. nat_eq g.0 h.0) es f table ≡ es ++ (f, table) ∷ []
  insert_new [] f table fresh = refl
  insert_new (e ∷ es) f table fresh = at_the_end e es f table (λ q. fresh (inl q)) (insert_new es f table (λ h. fresh (inr h)))

  no_key : (es : List (FunNo × T)) (f : FunNo) → ¬ HasTable es f → ¬ Has (map (λ e. e.0) es) f
  no_key es f fresh h =
      let x = has_from_map (λ (e : FunNo × T). e.0) es f h in
      fresh (x.0.1, contains es (f, x.0.1) (subst (λ (z : FunNo). Has es (z, x.0.1)) x.2 x.1))

  -- a new table goes to the end
  pub pushed : (es now : List (FunNo × T)) (f : FunNo) (table : T) → es ≡ now → ¬ HasTable now f → insert_entry (λ g h. nat_eq g.0 h.0) es f table ≡ now ++ (f, table) ∷ []
  pushed es now f table same fresh = insert_new es f table (no_key es f (subst (λ (z : List (FunNo × T)). ¬ HasTable z f) (sym same) fresh)) ∙ ap (λ (z : List (FunNo × T)). z ++ (f, table) ∷ []) same

value_there : {T : Type 0} (es : List (FunNo × T)) (at : ℕ) (v : T) (f : FunNo) (table : T) → slice_get (values_of es) at ≡ Some v → slice_get es at ≡ Some (f, table) → v ≡ table
value_there [] at v f table q h = absurd (cc)
value_there (e ∷ es) zero v f table q h = sym (same_Some e.1 v q) ∙ ap (λ (z : FunNo × _). z.1) (same_Some e (f, table) h)
value_there (e ∷ es) (suc at) v f table q h = value_there es at v f table q h

-- what is read of an entry is its table
pub read_value : {T : Type 0} (es now : List (FunNo × T)) (at : ℕ) (v : T) → es ≡ now → slice_get (values_of es) at ≡ Some v → (f : FunNo) (table : T) → slice_get now at ≡ Some (f, table) → v ≡ table
read_value es now at v same q f table h = value_there es at v f table q (ap (λ (z : List (FunNo × _)). slice_get z at) same ∙ h)

-- a table that is read at a place where one of the function stands
pub table_right : {P N T : Type 0} (b : Book P N T) (tables : List (FunNo × T)) (at : ℕ) (read : T) (f : FunNo) → AreTables b tables → (t : T) × (slice_get tables at ≡ Some (f, t)) → ((g : FunNo) (t : T) → slice_get tables at ≡ Some (g, t) → read ≡ t) → b.table_of f ≡ Some read
table_right {T = T} b tables at read f right found is =
    let there : Contains tables (f, found.0) = contains tables (f, found.0) (has_item tables at (f, found.0) found.1) in
    right f found.0 there ∙ ap (λ (z : T). let y : Option T = Some z in y) (sym (is f found.0 found.1))
