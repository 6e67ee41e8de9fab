-- What the rules of expressions are made of has one result.
use Rattle.std.proofs.Common.{◌≡◌, ℕ, ◌+◌, List, [], ◌∷◌, ◌++◌, Option, Some, None, Bool, refl, sym, ap, ◌∙◌, subst, ⊎_elim, arith}
use Rattle.std.specs.Prelude.{slice_get}
use Rattle.std.proofs.lemmas.Bool.{cases_lt}
use Rattle.po_base.specs.declared.operand.Opnd.{Opnd}
use Rattle.po_base.specs.declared.operand.Opnd.TheVariants as o
use Rattle.po_base.specs.declared.numbers.RegNo.{RegNo}
use Rattle.po_base.specs.declared.spot.Spot.{Spot}
use Rattle.po_ir.specs.declared.instr.Ty.{Ty}
use Rattle.po_ir.specs.declared.instr.Instr.{Instr}
use Rattle.po_ir.specs.declared.graph.Node.{Node}
use Rattle.po_tree.specs.Literals.{Characters, end_quote, next_character, first_character}
use Rattle.po_types.specs.declared.ctype.CType.{CType}
use Rattle.po_lowering.specs.Typed.{Typed}
use Rattle.po_lowering.specs.Temporaries.{State, At, Row, ends, follows, Takes, old, new, Holds, kept, copied, Saves, not_used, saved, node, register, type_in}
use Rattle.po_lowering.specs.Conversions.{Change, nothing, comparison, conversion, change, Converts, unchanged, compared, converted}
use Rattle.po_lowering.specs.Spelling.{Spells, no_more_texts, one_more_text}
use Rattle.po_lowering.specs.Expressions.{Reads, by_address, loaded, Moves, at_start, moved}
use Rattle.po_lowering.specs.Same.{Same, SameValue}
use Rattle.po_lists.proofs.Options.{one_some}

pub plus : {a b : ℕ} (n : ℕ) → a ≡ b → a + n ≡ b + n
plus n e = ap (λ z. z + n) e

-- a pair that is found twice
abbrev left_or : {A B : Type 0} → A → Option (A × B) → A
left_or d None = d
left_or d (Some z) = z.0

abbrev right_or : {A B : Type 0} → B → Option (A × B) → B
right_or d None = d
right_or d (Some z) = z.1

abbrev pub some_or : {A : Type 0} → A → Option A → A
some_or d None = d
some_or d (Some z) = z

module _ {ns ms : List Node} where
  pub same_none : (a b : ℕ) → b ≡ a → Same ns ms a b
  same_none a b q = record { same = λ i h k. absurd (omega arith) }

  pub same_join : {a b c : ℕ} → Same ns ms a b → Same ns ms b c → Same ns ms a c
  same_join {b = b} f g = record { same = λ i h k. ⊎_elim (λ lt. f.same i h lt) (λ ge. g.same i ge k) (cases_lt i b) }

  pub same_one : {a a' : ℕ} {x y : Instr} {spot : Spot} → At ns a x spot → At ms a' y spot → a ≡ a' → x ≡ y → Same ns ms a (a + 1)
  same_one {a = a} {a' = a'} {spot = spot} f g ea q = record {
    same = λ i h k.
        let here : i ≡ a = omega arith in
        let there : i ≡ a' = omega arith in
        ap (slice_get ns) here ∙ f.here ∙ ap (λ z. Some (node z spot)) q ∙ sym g.here ∙ ap (slice_get ms) (sym there);
  }

  -- the same where the next place is spelled otherwise
  pub same_last : {a a' b : ℕ} {x y : Instr} {spot : Spot} → At ns a x spot → At ms a' y spot → a ≡ a' → x ≡ y → b ≡ a + 1 → Same ns ms a b
  same_last {a = a} {b = b} f g ea q eb = record { same = λ i h k. (same_one f g ea q).same i h (omega arith) }

  pub same_node : {a a' : ℕ} {x y : Node} → slice_get ns a ≡ Some x → slice_get ms a' ≡ Some y → a ≡ a' → x ≡ y → Same ns ms a (a + 1)
  same_node {a = a} {a' = a'} f g ea q = record {
    same = λ i h k.
        let here : i ≡ a = omega arith in
        let there : i ≡ a' = omega arith in
        ap (slice_get ns) here ∙ f ∙ ap Some q ∙ sym g ∙ ap (slice_get ms) (sym there);
  }

-- a value takes one temporary
pub record SameTaken (r q : ℕ) (t u : State) : Type 0 where
  pub number : r ≡ q
  pub states : t ≡ u

one_free : {ty : Ty} {s : State} {r q : ℕ} {t u : State} → Takes ty s r t → Takes ty s q u → SameTaken r q t u
one_free (old ty s r f g) (old ty' s' q h k) =
    let same : r ≡ q = ⊎_elim (λ lt. absurd (k r lt f)) (λ ge. ⊎_elim (λ lt. absurd (g q lt h)) (λ ge'. omega arith) (cases_lt q r)) (cases_lt r q) in
    record { number = same; states = ap (λ v. record s { taken = s.taken ++ v ∷ [] }) same }
one_free (old ty s r f g) (new ty' s' k) = absurd (k r f)
one_free (new ty s k) (old ty' s' r f g) = absurd (k r f)
one_free (new ty s k) (new ty' s' h) = record { number = refl; states = refl }

pub one_taken : {ty : Ty} {s s' : State} {r q : ℕ} {t u : State} → Takes ty s r t → Takes ty s' q u → s ≡ s' → SameTaken r q t u
one_taken {ty = ty} {q = q} {u = u} f g es = one_free f (subst (λ z. Takes ty z q u) (sym es) g)

pub taken_at : {ty ty' : Ty} {s s' : State} {r q : ℕ} {t u : State} → Takes ty s r t → Takes ty' s' q u → ty ≡ ty' → s ≡ s' → SameTaken r q t u
taken_at {s' = s'} {q = q} {u = u} f g et es = one_taken f (subst (λ z. Takes z s' q u) (sym et) g) es

none_there : {A : Type 0} {x : A} → Some x ≡ None → ⊥
none_there e = absurd cc

-- the literals side by side are one row of bytes
one_row_of : {vs ws text text' : List ℕ} → Characters 34 vs text → Characters 34 ws text' → text ≡ text' → vs ≡ ws
one_row_of end_quote end_quote q = refl
one_row_of end_quote (next_character value values cs rest f g) q = absurd (none_there (sym (ap (first_character 34) q ∙ f)))
one_row_of (next_character value values cs rest f g) end_quote q = absurd (none_there (sym (ap (first_character 34) (sym q) ∙ f)))
one_row_of (next_character value values cs rest f g) (next_character value' values' cs' rest' h k) q =
    let both = one_some f (ap (first_character 34) q ∙ h) in
    let ev : value ≡ value' = ap (λ z. z.0) both in
    let er : rest ≡ rest' = ap (λ z. z.1) both in
    let es = one_row_of g k er in
    ap (λ z. z ∷ values) ev ∙ ap (λ z. value' ∷ z) es

abbrev tail_of : List ℕ → List ℕ
tail_of [] = []
tail_of (x ∷ xs) = xs

pub one_spelling : {texts : List (List ℕ)} {bytes others : List ℕ} → Spells texts bytes → Spells texts others → bytes ≡ others
one_spelling no_more_texts no_more_texts = refl
one_spelling (one_more_text text rest values texts bytes q f g) (one_more_text text' rest' values' texts' bytes' q' f' g') =
    let er : rest ≡ rest' = ap tail_of (sym q ∙ q') in
    let ev = one_row_of f f' er in
    let eb = one_spelling g g' in
    ap (λ z. z ++ bytes) ev ∙ ap (λ z. values' ++ z) eb

-- what is known of the two changes of one conversion
abbrev change_type : Change → Ty → Ty
change_type nothing d = d
change_type (comparison ty) d = ty
change_type (conversion ty n) d = ty

abbrev change_align : Change → ℕ
change_align (conversion ty n) = n
change_align _ = 0

abbrev which : Change → ℕ
which nothing = 0
which (comparison ty) = 1
which (conversion ty n) = 2

abbrev register_or : RegNo → Opnd → RegNo
register_or d (o.Reg q) = q
register_or d (o.Num n) = d

-- a saved value, and a row of given nodes
pub record SameSaved (ns ms : List Node) (a b : ℕ) (v : Option Opnd) (t : State) (c : ℕ) (w : Option Opnd) (u : State) : Type 0 where
  pub ends : b ≡ c
  pub value : v ≡ w
  pub states : t ≡ u
  pub nodes : Same ns ms a b

pub record SameRow (ns ms : List Node) (a b c : ℕ) : Type 0 where
  pub ends : b ≡ c
  pub nodes : Same ns ms a b

module _ {ns ms : List Node} where
  -- what holds an operand
  pub one_held : {s s' : State} {a a' : ℕ} {spot : Spot} {v v' : Opnd} {b b' : Bool} {w w' : Opnd} {e d : ℕ} {t u : State} →
      Holds ns s a spot v b w e t → Holds ms s' a' spot v' b' w' d u → s ≡ s' → a ≡ a' → v ≡ v' → b ≡ b' → SameValue ns ms a e w t d w' u
  one_held (kept s a spot v) (kept s' a' spot' v') es ea ev eb = record { ends = ea; value = ev; states = es; nodes = same_none a a refl }
  one_held (copied s t a spot q r ty f x h) (copied s' t' a' spot' q' r' ty' f' x' h') es ea ev eb =
      let eq : q ≡ q' = ap (register_or q) ev in
      let et = ap (some_or ty) (sym f ∙ ap (λ z. type_in z q) es ∙ ap (type_in s') eq ∙ f') in
      let K = taken_at x x' et es in
      let er = K.number in
      record { ends = plus 1 ea; value = ap register er; states = K.states; nodes = same_one h h' ea (cc) }
  one_held (kept s a spot v) (copied s' t' a' spot' q' r' ty' f' x' h') es ea ev eb = absurd cc
  one_held (copied s t a spot q r ty f x h) (kept s' a' spot' v') es ea ev eb = absurd cc

  -- a conversion
  pub one_converted : {f : Typed} {s s' : State} {a a' : ℕ} {spot : Spot} {from to : CType} {v v' : Opnd} {w w' : Opnd} {e d : ℕ} {t u : State} →
      Converts f ns s a spot from to v w e t → Converts f ms s' a' spot from to v' w' d u → s ≡ s' → a ≡ a' → v ≡ v' → SameValue ns ms a e w t d w' u
  one_converted (unchanged s a spot from to v q) (unchanged s' a' spot' from' to' v' q') es ea ev =
      record { ends = ea; value = ev; states = es; nodes = same_none a a refl }
  one_converted {f = f} (compared s t a spot from to v ty r q x h) (compared s' t' a' spot' from' to' v' ty' r' q' x' h') es ea ev =
      let ec : ty ≡ ty' = ap (λ z. change_type z ty) (sym q ∙ ap (change f from to) ev ∙ q') in
      let K = one_taken x x' es in
      let er = K.number in
      record { ends = plus 1 ea; value = ap register er; states = K.states; nodes = same_one h h' ea (cc) }
  one_converted {f = f} (converted s t a spot from to v ty n r q x h) (converted s' t' a' spot' from' to' v' ty' n' r' q' x' h') es ea ev =
      let e = sym q ∙ ap (change f from to) ev ∙ q' in
      let ec : ty ≡ ty' = ap (λ z. change_type z ty) e in
      let en : n ≡ n' = ap change_align e in
      let K = one_taken x x' es in
      let er = K.number in
      record { ends = plus 1 ea; value = ap register er; states = K.states; nodes = same_one h h' ea (cc) }
  one_converted {f = f} (unchanged s a spot from to v q) (compared s' t' a' spot' from' to' v' ty' r' q' x' h') es ea ev =
      let no = ap which (sym q ∙ ap (change f from to) ev ∙ q') in absurd (omega arith)
  one_converted {f = f} (unchanged s a spot from to v q) (converted s' t' a' spot' from' to' v' ty' n' r' q' x' h') es ea ev =
      let no = ap which (sym q ∙ ap (change f from to) ev ∙ q') in absurd (omega arith)
  one_converted {f = f} (compared s t a spot from to v ty r q x h) (unchanged s' a' spot' from' to' v' q') es ea ev =
      let no = ap which (sym q ∙ ap (change f from to) ev ∙ q') in absurd (omega arith)
  one_converted {f = f} (compared s t a spot from to v ty r q x h) (converted s' t' a' spot' from' to' v' ty' n' r' q' x' h') es ea ev =
      let no = ap which (sym q ∙ ap (change f from to) ev ∙ q') in absurd (omega arith)
  one_converted {f = f} (converted s t a spot from to v ty n r q x h) (unchanged s' a' spot' from' to' v' q') es ea ev =
      let no = ap which (sym q ∙ ap (change f from to) ev ∙ q') in absurd (omega arith)
  one_converted {f = f} (converted s t a spot from to v ty n r q x h) (compared s' t' a' spot' from' to' v' ty' r' q' x' h') es ea ev =
      let no = ap which (sym q ∙ ap (change f from to) ev ∙ q') in absurd (omega arith)

  -- what is read
  pub one_read : {f : Typed} {s s' : State} {a a' : ℕ} {spot : Spot} {ct : CType} {v v' : Opnd} {w w' : Opnd} {e d : ℕ} {t u : State} →
      Reads f ns s a spot ct v w e t → Reads f ms s' a' spot ct v' w' d u → s ≡ s' → a ≡ a' → v ≡ v' → SameValue ns ms a e w t d w' u
  one_read (by_address s a spot ct v q) (by_address s' a' spot' ct' v' q') es ea ev = record { ends = ea; value = ev; states = es; nodes = same_none a a refl }
  one_read (loaded s t a spot ct v r q x h) (loaded s' t' a' spot' ct' v' r' q' x' h') es ea ev =
      let K = one_taken x x' es in
      let er = K.number in
      record { ends = plus 1 ea; value = ap register er; states = K.states; nodes = same_one h h' ea (cc) }
  one_read (by_address s a spot ct v q) (loaded s' t' a' spot' ct' v' r' q' x' h') es ea ev = absurd cc
  one_read (loaded s t a spot ct v r q x h) (by_address s' a' spot' ct' v' q') es ea ev = absurd cc

  -- a member's address
  pub one_moved : {s s' : State} {a a' : ℕ} {spot : Spot} {n n' : ℕ} {v v' : Opnd} {w w' : Opnd} {e d : ℕ} {t u : State} →
      Moves ns s a spot n v w e t → Moves ms s' a' spot n' v' w' d u → n ≡ n' → s ≡ s' → a ≡ a' → v ≡ v' → SameValue ns ms a e w t d w' u
  one_moved (at_start s a spot v) (at_start s' a' spot' v') en es ea ev = record { ends = ea; value = ev; states = es; nodes = same_none a a refl }
  one_moved (moved s t a spot n v r q x h) (moved s' t' a' spot' n' v' r' q' x' h') en es ea ev =
      let K = one_taken x x' es in
      let er = K.number in
      record { ends = plus 1 ea; value = ap register er; states = K.states; nodes = same_one h h' ea (cc) }
  one_moved (at_start s a spot v) (moved s' t' a' spot' n' v' r' q' x' h') en es ea ev = absurd (q' (sym en))
  one_moved (moved s t a spot n v r q x h) (at_start s' a' spot' v') en es ea ev = absurd (q en)

  -- a saved value
  pub one_saved : {s s' : State} {a a' : ℕ} {spot : Spot} {ty : Ty} {old : Bool} {q q' : RegNo} {v w : Option Opnd} {e d : ℕ} {t u : State} →
      Saves ns s a spot ty old q v e t → Saves ms s' a' spot ty old q' w d u → s ≡ s' → a ≡ a' → q ≡ q' → SameSaved ns ms a e v t d w u
  one_saved (not_used s a spot ty q) (not_used s' a' spot' ty' q') es ea eq = record { ends = ea; value = refl; states = es; nodes = same_none a a refl }
  one_saved (saved s t a spot ty q r x h) (saved s' t' a' spot' ty' q' r' x' h') es ea eq =
      let K = one_taken x x' es in
      let er = K.number in
      record { ends = plus 1 ea; value = ap (λ z. Some (register z)) er; states = K.states; nodes = same_one h h' ea (cc) }

  -- rows of the same nodes
  pub one_row : {a a' b c : ℕ} {xs ys : List Node} → Row ns a xs b → Row ms a' ys c → a ≡ a' → xs ≡ ys → SameRow ns ms a b c
  one_row (ends a) (ends a') ea q = record { ends = ea; nodes = same_none a a refl }
  one_row (ends a) (follows a' c y ys g k) ea q = absurd cc
  one_row (follows a b x xs f h) (ends a') ea q = absurd cc
  one_row (follows a b x xs f h) (follows a' c y ys g k) ea q =
      let ex : x ≡ y = cc in
      let exs : xs ≡ ys = cc in
      let R = one_row h k (plus 1 ea) exs in
      record { ends = R.ends; nodes = same_join (same_node {a = a} {a' = a'} f g ea ex) R.nodes }
