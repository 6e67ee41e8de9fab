-- The operands that begin with a sign, each by its parts.
use Rattle.std.proofs.Common.{◌≡◌, ℕ, ◌+◌, ◌≤◌, ◌<◌, List, ◌∷◌, length, ap, sym, ◌∙◌, refl, subst, arith}
use Rattle.po_tree.specs.declared.operator.Infix.{Infix}
use Rattle.po_tree.specs.declared.operator.Postfix.{Postfix}
use Rattle.po_tree.specs.declared.operator.Prefix.{Prefix}
use Rattle.po_tree.specs.declared.operator.Prefix.TheVariants as p
use Rattle.po_tree.specs.declared.expression.Exp.{Exp}
use Rattle.po_tree.specs.declared.expression.Exp.TheVariants as e
use Rattle.po_tree.specs.declared.expression.TypeName.{TypeName}
use Rattle.po_exp_parts.specs.declared.continuation.Continuation.TheVariants as c
use Rattle.po_exp_parts.specs.declared.found.Leveled.{Leveled}
use Rattle.po_exp_parts.specs.declared.found.Tail.{Tail}
use Rattle.po_exp_parts.specs.declared.found.Tail.TheVariants as t
use Rattle.po_tree.specs.Signs.{Sign, opening, closing, bracket_end, sizeof}
use Rattle.po_tree.specs.Operators.{prefix_sign, least_operand, least_right, prefixed}
use Rattle.po_tree.specs.Heights.{height, type_height}
use Rattle.po_tree.specs.Layers.{height-Paren, height-prefixed, height-SizeType, height-Cast}
use Rattle.po_exp_parts.specs.Continuing.{tail_height}
use Rattle.po_base.specs.declared.token.Token.{Token}
use Rattle.po_exp_parts.specs.Places.{Begins, signs_from}
use Rattle.po_exp_parts.specs.TypeWords.{StartsType}
use Rattle.po_exp_parts.specs.Reading.{Reads, Operand, leaf, strings, paren, unary, size_of_type, cast, Follows, joined, indexed, called, stepped, Arguments}
use Rattle.po_exp_parts.specs.Finding.{IsBest, IsNone, operand_height, StandsAsOperand, leveled}
use Rattle.po_exp_read.specs.Enclosed.{list_height, StandsClosed, StandsEnclosed}
use Rattle.po_exp_parts.proofs.Standing.{stands_first}
use Rattle.po_exp_parts.proofs.Signing.{prefix_same}
use Rattle.po_exp_parts.proofs.Fronts.{class_first, leaf_told, leaf_most, prefix_told, operand_told, reads_no_type, type_starts, unary_no_type}
use Rattle.po_exp_read.proofs.Compared.{type_same}
use Rattle.po_exp_read.proofs.Finding.{IsMade}

leveled_same : (o : Leveled) (level : ℕ) (x : Exp) → o.level ≡ level → o.value ≡ x → o ≡ leveled level x
leveled_same o level x q r = rw (← q, ← r) refl

-- at a parenthesis behind which no type begins: an expression in parentheses
paren_back : {types : List (List ℕ)} {m : ℕ} {y : Exp} {signs us : List Sign} (rest : List Sign) → signs ≡ opening ∷ rest → (StartsType types rest → ⊥) → Operand types signs m y us →
    (x : Exp) × (m ≡ 15) × (y ≡ e.Paren x) × StandsClosed types 0 closing rest x us
paren_back {types = types} rest q none (paren x ts us w) = let rests : ts ≡ rest = cc in (x, refl, refl, subst (λ v. Reads types 0 v x (closing ∷ us)) rests w)
paren_back {types = types} rest q none (cast name x ts us vs w v) = let rests : ts ≡ rest = cc in absurd (none (subst (StartsType types) rests (type_starts w)))
paren_back rest q none (leaf x sign ts w) = absurd (omega (arith, leaf_told w, leaf_most w, ap class_first q))
paren_back rest q none w = absurd (omega (arith, operand_told w, ap class_first q))

pub paren_made : {types : List (List ℕ)} {least : ℕ} {signs : List Sign} (rest : List Sign) → least ≤ 15 → signs ≡ opening ∷ rest → (StartsType types rest → ⊥) →
    IsMade (λ x. leveled 15 (e.Paren x)) 1 height (StandsClosed types 0 closing rest) operand_height (StandsAsOperand types least signs)
paren_made {types = types} rest high q none = record {
  forth = λ x us w. (high, subst (λ v. Operand types v 15 (e.Paren x) us) (sym q) (paren x rest us w));
  back = λ o us w. let b = paren_back rest q none w.1 in (b.0, leveled_same o 15 (e.Paren b.0) b.1 b.2, b.3);
  rises = λ x. omega (arith, height-Paren x);
}

-- at a parenthesis behind which a type begins: a cast
cast_back : {types : List (List ℕ)} {m : ℕ} {y : Exp} {signs us : List Sign} (rest : List Sign) → signs ≡ opening ∷ rest → StartsType types rest → Operand types signs m y us →
    (name : TypeName) × (x : Exp) × (mid : List Sign) × (m ≡ 13) × (y ≡ e.Cast name x) × StandsEnclosed types rest name mid × Reads types 13 mid x us
cast_back {types = types} rest q some (paren x ts us w) = let rests : ts ≡ rest = cc in absurd (reads_no_type w (subst (StartsType types) (sym rests) some))
cast_back {types = types} rest q some (cast name x ts us vs w v) =
    let rests : ts ≡ rest = cc in
    (name, x, us, refl, refl, subst (λ b. StandsEnclosed types b name us) rests w, v)
cast_back rest q some (leaf x sign ts w) = absurd (omega (arith, leaf_told w, leaf_most w, ap class_first q))
cast_back rest q some w = absurd (omega (arith, operand_told w, ap class_first q))

-- it has too low a level
pub cast_low : {types : List (List ℕ)} {least depth : ℕ} {signs : List Sign} (rest : List Sign) → signs ≡ opening ∷ rest → StartsType types rest → 13 < least →
    IsNone operand_height (StandsAsOperand types least signs) depth
cast_low rest q some low o us w h = let b = cast_back rest q some w.1 in omega (arith, w.0, b.3)

module _ {types : List (List ℕ)} {least depth : ℕ} (inside : ℕ) {signs : List Sign} (rest : List Sign) (at : signs ≡ opening ∷ rest) (some : StartsType types rest) (depths : depth ≡ inside + 1) where
  -- no type name, no cast
  pub cast_nowhere : IsNone type_height (StandsEnclosed types rest) inside → IsNone operand_height (StandsAsOperand types least signs) depth
  cast_nowhere none o us w h =
      let b = cast_back rest at some w.1 in
      none b.0 b.2 b.5 (omega (arith, depths, ap height b.4, height-Cast b.0 b.1))

  cast_rest : (name : TypeName) (mid : List Sign) → StandsEnclosed types rest name mid → (o : Leveled) (us : List Sign) → StandsAsOperand types least signs o us →
      (x : Exp) × (o ≡ leveled 13 (e.Cast name x)) × Reads types 13 mid x us
  cast_rest name mid w o us v =
      let b = cast_back rest at some v.1 in
      let s = type_same w b.5 in
      let mids : mid ≡ b.2 = cc in
      (b.1, leveled_same o 13 (e.Cast name b.1) b.3 (b.4 ∙ ap (λ n. e.Cast n b.1) (sym s.0)), subst (λ m. Reads types 13 m b.1 us) (sym mids) b.6)

  -- no operand, no cast
  pub cast_none : (name : TypeName) (mid : List Sign) → IsBest type_height (StandsEnclosed types rest) inside name mid → IsNone height (Reads types 13 mid) inside →
      IsNone operand_height (StandsAsOperand types least signs) depth
  cast_none name mid b none o us w h =
      let r = cast_rest name mid b.stands o us w in
      none r.0 us r.2 (omega (arith, depths, ap operand_height r.1, height-Cast name r.0))

  pub cast_best : (name : TypeName) (mid : List Sign) (x : Exp) (us : List Sign) → least ≤ 13 → IsBest type_height (StandsEnclosed types rest) inside name mid →
      IsBest height (Reads types 13 mid) inside x us → IsBest operand_height (StandsAsOperand types least signs) depth (leveled 13 (e.Cast name x)) us
  cast_best name mid x us low b i = record {
    stands = (low, subst (λ v. Operand types v 13 (e.Cast name x) us) (sym at) (cast name x rest mid us b.stands i.stands));
    shallow = omega (arith, depths, b.shallow, i.shallow, height-Cast name x);
    best = λ o vs w h.
        let r = cast_rest name mid b.stands o vs w in
        i.best r.0 vs r.2 (omega (arith, depths, ap operand_height r.1, height-Cast name r.0));
  }

-- at a prefix operator
unary_back : {types : List (List ℕ)} {m : ℕ} {y : Exp} {signs us : List Sign} (a : Prefix) (rest : List Sign) → signs ≡ prefix_sign a ∷ rest →
    ((vs : List Sign) → a ≡ p.Size → rest ≡ opening ∷ vs → StartsType types vs → ⊥) → Operand types signs m y us →
    (x : Exp) × (m ≡ 14) × (y ≡ prefixed a x) × Reads types (least_operand a) rest x us
unary_back {types = types} a rest q none (unary b x ts us w) =
    let rests : ts ≡ rest = cc in
    let heads : prefix_sign b ≡ prefix_sign a = cc in
    let d : b ≡ a = prefix_same heads in
    (x, refl, ap (λ v. prefixed v x) d, subst (λ v. Reads types (least_operand v) rest x us) d (subst (λ v. Reads types (least_operand b) v x us) rests w))
unary_back {types = types} a rest q none (size_of_type name ts us w) =
    let heads : prefix_sign p.Size ≡ prefix_sign a = cc in
    let rests : opening ∷ ts ≡ rest = cc in
    absurd (none ts (sym (prefix_same heads)) (sym rests) (type_starts w))
unary_back a rest q none (leaf x sign ts w) = absurd (omega (arith, leaf_told w, leaf_most w, ap class_first q, prefix_told a))
unary_back a rest q none (strings text texts ts us all w) = absurd (omega (arith, ap class_first q, prefix_told a))
unary_back a rest q none (paren x ts us w) = absurd (omega (arith, ap class_first q, prefix_told a))
unary_back a rest q none (cast name x ts us vs w v) = absurd (omega (arith, ap class_first q, prefix_told a))

-- no type name stands in parentheses behind the operator `sizeof`
pub measures_none : (types : List (List ℕ)) (at : ℕ) (tokens : List Token) (a : Prefix) →
    ((a ≡ p.Size) × Begins opening (signs_from tokens at) × StartsType types (signs_from tokens (at + 1)) → ⊥) →
    (vs : List Sign) → a ≡ p.Size → signs_from tokens at ≡ opening ∷ vs → StartsType types vs → ⊥
measures_none types at tokens a none vs q r some =
    let begins : Begins opening (signs_from tokens at) = subst (Begins opening) (sym r) refl in
    let both : opening ∷ vs ≡ opening ∷ signs_from tokens (at + 1) = sym r ∙ stands_first at tokens opening begins in
    let rests : vs ≡ signs_from tokens (at + 1) = cc in
    none (q, begins, subst (StartsType types) rests some)

pub unary_made : {types : List (List ℕ)} {least : ℕ} {signs : List Sign} (a : Prefix) (rest : List Sign) → least ≤ 14 → signs ≡ prefix_sign a ∷ rest →
    ((vs : List Sign) → a ≡ p.Size → rest ≡ opening ∷ vs → StartsType types vs → ⊥) →
    IsMade (λ x. leveled 14 (prefixed a x)) 1 height (Reads types (least_operand a) rest) operand_height (StandsAsOperand types least signs)
unary_made {types = types} a rest high q none = record {
  forth = λ x us w. (high, subst (λ v. Operand types v 14 (prefixed a x) us) (sym q) (unary a x rest us w));
  back = λ o us w. let b = unary_back a rest q none w.1 in (b.0, leveled_same o 14 (prefixed a b.0) b.1 b.2, b.3);
  rises = λ x. omega (arith, height-prefixed a x);
}

-- at `sizeof (` behind which a type begins
size_back : {types : List (List ℕ)} {m : ℕ} {y : Exp} {signs us : List Sign} (rest : List Sign) → signs ≡ sizeof ∷ (opening ∷ rest) → StartsType types rest → Operand types signs m y us →
    (name : TypeName) × (m ≡ 14) × (y ≡ e.SizeType name) × StandsEnclosed types rest name us
size_back {types = types} rest q some (unary b x ts us w) =
    let rests : ts ≡ opening ∷ rest = cc in
    let heads : prefix_sign b ≡ prefix_sign p.Size = cc in
    let d : b ≡ p.Size = prefix_same heads in
    absurd (unary_no_type rest (omega (arith, ap least_operand d)) rests some w)
size_back {types = types} rest q some (size_of_type name ts us w) = let rests : ts ≡ rest = cc in (name, refl, refl, subst (λ v. StandsEnclosed types v name us) rests w)
size_back rest q some (leaf x sign ts w) = absurd (omega (arith, leaf_told w, leaf_most w, ap class_first q))
size_back rest q some w = absurd (omega (arith, operand_told w, ap class_first q))

-- `sizeof (` at a place
pub size_here : (at : ℕ) (tokens : List Token) (a : Prefix) → signs_from tokens at ≡ prefix_sign a ∷ signs_from tokens (at + 1) → a ≡ p.Size →
    Begins opening (signs_from tokens (at + 1)) → signs_from tokens at ≡ sizeof ∷ (opening ∷ signs_from tokens (at + 1 + 1))
size_here at tokens a here q h =
    here ∙ ap (λ v. prefix_sign v ∷ signs_from tokens (at + 1)) q ∙ ap (λ v. sizeof ∷ v) (stands_first (at + 1) tokens opening h)

pub size_made : {types : List (List ℕ)} {least : ℕ} {signs : List Sign} (rest : List Sign) → least ≤ 14 → signs ≡ sizeof ∷ (opening ∷ rest) → StartsType types rest →
    IsMade (λ x. leveled 14 (e.SizeType x)) 1 type_height (StandsEnclosed types rest) operand_height (StandsAsOperand types least signs)
size_made {types = types} rest high q some = record {
  forth = λ x us w. (high, subst (λ v. Operand types v 14 (e.SizeType x) us) (sym q) (size_of_type x rest us w));
  back = λ o us w. let b = size_back rest q some w.1 in (b.0, leveled_same o 14 (e.SizeType b.0) b.1 b.2, b.3);
  rises = λ x. omega (arith, height-SizeType x);
}

-- what stands behind an operator between two operands
right_back : {types : List (List ℕ)} {o : Infix} {ts us : List Sign} {tail : Tail} → Follows types (c.Infix o) ts tail us → (x : Exp) × (tail ≡ t.Joined o x) × Reads types (least_right o) ts x us
right_back (joined o x ts us w) = (x, refl, w)

pub right_made : {types : List (List ℕ)} (o : Infix) (ts : List Sign) → IsMade (λ x. t.Joined o x) 0 height (Reads types (least_right o) ts) tail_height (Follows types (c.Infix o) ts)
right_made o ts = record { forth = λ x us w. joined o x ts us w; back = λ tail us w. right_back w; rises = λ x. omega arith }

-- what stands behind `[`
index_back : {types : List (List ℕ)} {ts us : List Sign} {tail : Tail} → Follows types c.Bracket ts tail us → (x : Exp) × (tail ≡ t.Indexed x) × StandsClosed types 0 bracket_end ts x us
index_back (indexed x ts us w) = (x, refl, w)

pub index_made : {types : List (List ℕ)} (ts : List Sign) → IsMade (λ x. t.Indexed x) 0 height (StandsClosed types 0 bracket_end ts) tail_height (Follows types c.Bracket ts)
index_made ts = record { forth = λ x us w. indexed x ts us w; back = λ tail us w. index_back w; rises = λ x. omega arith }

-- what stands behind the `(` of a call
call_back : {types : List (List ℕ)} {ts us : List Sign} {tail : Tail} → Follows types c.Parenthesis ts tail us → (xs : List Exp) × (tail ≡ t.Called xs) × Arguments types ts xs us
call_back (called xs ts us w) = (xs, refl, w)

pub call_made : {types : List (List ℕ)} (ts : List Sign) → IsMade (λ xs. t.Called xs) 0 list_height (Arguments types ts) tail_height (Follows types c.Parenthesis ts)
call_made ts = record { forth = λ xs us w. called xs ts us w; back = λ tail us w. call_back w; rises = λ xs. omega arith }

step_back : {types : List (List ℕ)} {q : Postfix} {ts us : List Sign} {tail : Tail} → Follows types (c.Step q) ts tail us → us ≡ ts
step_back (stepped q ts) = refl

-- behind `++` and `--` stands nothing
pub step_best : {types : List (List ℕ)} {depth : ℕ} (q : Postfix) (ts : List Sign) → IsBest tail_height (Follows types (c.Step q) ts) depth (t.Stepped q) ts
step_best q ts = record { stands = stepped q ts; shallow = omega arith; best = λ tail us w h. omega (arith, ap length (step_back w)) }
