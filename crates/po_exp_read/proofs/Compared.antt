-- Two readings of the same signs are the same, or one is longer, and the shorter one ends where nothing can go on with it.
use Rattle.std.proofs.Common.{◌≡◌, ℕ, ◌≤◌, List, [], ◌∷◌, length, drop, ap, sym, ◌∙◌, refl, subst, arith, Option, Some, None, slice_index_or}
use Rattle.po_tree.specs.declared.operator.Prefix.{Prefix}
use Rattle.po_tree.specs.declared.operator.Prefix.TheVariants as p
use Rattle.po_tree.specs.declared.expression.Exp.{Exp}
use Rattle.po_tree.specs.declared.expression.Exp.TheVariants as e
use Rattle.po_tree.specs.declared.expression.TypeName.{TypeName}
use Rattle.po_tree.specs.declared.expression.Specifier.{Specifier}
use Rattle.po_tree.specs.declared.expression.Suffix.{Suffix}
use Rattle.po_tree.specs.declared.expression.Suffix.TheVariants as su
use Rattle.po_exp_parts.specs.declared.continuation.Continuation.{Continuation}
use Rattle.po_exp_parts.specs.declared.found.Tail.{Tail}
use Rattle.po_exp_parts.specs.declared.found.Tail.TheVariants as t
use Rattle.po_tree.specs.Signs.{Sign, opening, closing, comma, bracket}
use Rattle.po_tree.specs.Operators.{prefix_sign, prefixed, least_operand}
use Rattle.po_tree.specs.Expressions.{IsLeaf, variable, integer, one_character}
use Rattle.po_exp_parts.specs.Continuing.{opens, level_of, grow, GoesOn, by_continuation}
use Rattle.po_exp_parts.specs.Places.{Begins}
use Rattle.po_exp_parts.specs.Stars.{StarsRead}
use Rattle.po_exp_parts.specs.Reading.{Reads, begun, Operand, leaf, strings, paren, unary, size_of_type, cast, Climbs, stop, more, Follows, joined, chosen, indexed, called, selected, stepped, Arguments, no_arguments, arguments, Items, last, further, TypeRead, type_read, SuffixRead, plain, arrays, SizesRead, sizes_end, no_size, one_size}
use Rattle.po_exp_parts.proofs.Signing.{opens_same, prefix_same}
use Rattle.po_exp_parts.proofs.SameSigns.{same_word, same_string}
use Rattle.po_exp_parts.proofs.TypeWordsSame.{specs_same}
use Rattle.po_exp_parts.proofs.Starred.{stars_same}
use Rattle.po_exp_read.proofs.Texts.{texts_compared}
use Rattle.po_exp_read.proofs.Shortening.{climbs_shorten, follows_shorten}
use Rattle.po_exp_parts.proofs.Fronts.{class_of, class_first, class_operand, leaf_told, leaf_most, operand_told, reads_no_bracket_end, items_no_closing, reads_no_type, type_starts, unary_no_type}
use Rattle.po_exp_read.proofs.Comparing.{Halts, Compared, same, longer, shorter, halts_stop, halts_unary, halts_joined, halts_chosen, goes_on-lower, goes_on-closing, goes_on-bracket_end, goes_on-colon, goes_on-comma, ends_same, compared_map}

-- of two operands with their levels
abbrev pub OperandsCompared : ℕ → Exp → List Sign → ℕ → Exp → List Sign → Type 0
OperandsCompared m x us n y vs = Compared {A = ℕ × Exp} (λ p ws. Halts p.0 ws) (m, x) us (n, y) vs

leaf_same : {types : List (List ℕ)} {x y : Exp} {sign other : Sign} → sign ≡ other → IsLeaf types x sign → IsLeaf types y other → x ≡ y
leaf_same q (variable name h g) (variable name' h' g') = ap e.Var (ap (λ v. v.text) q)
leaf_same q (integer text h) (integer text' h') = ap e.Num (ap (λ v. v.text) q)
leaf_same q (one_character text h) (one_character text' h') = ap e.Chr (ap (λ v. v.text) q)
leaf_same q w v = absurd (omega (arith, leaf_told w, leaf_told v, ap (λ z. class_of z.kind z.text) q))

class_same : {types : List (List ℕ)} {m n : ℕ} {ts ts' us vs : List Sign} {x y : Exp} → ts ≡ ts' →
    (w : Operand types ts m x us) → (v : Operand types ts' n y vs) → class_operand w ≡ class_operand v
class_same q w v = sym (operand_told w) ∙ (ap class_first q ∙ operand_told v)

reads-along : {types : List (List ℕ)} {l : ℕ} {ts ts' us : List Sign} {x : Exp} → ts ≡ ts' → Reads types l ts' x us → Reads types l ts x us
reads-along {types = types} {l = l} {us = us} {x = x} q w = subst (λ v. Reads types l v x us) (sym q) w

type-along : {types : List (List ℕ)} {ts ts' us : List Sign} {x : TypeName} → ts ≡ ts' → TypeRead types ts' x us → TypeRead types ts x us
type-along {types = types} {us = us} {x = x} q w = subst (λ v. TypeRead types v x us) (sym q) w

sizes_begin : {types : List (List ℕ)} {ts us : List Sign} {size : Option Exp} {sizes : List (Option Exp)} → SizesRead types ts (size ∷ sizes) us → Begins bracket ts
sizes_begin (no_size sizes ts us w) = refl
sizes_begin (one_size x sizes ts us vs w v) = refl

abbrev type_of : List Specifier → List (List (List ℕ)) → Suffix → TypeName
type_of specs stars suffix = record { specs = specs; declarator = record { stars = stars; name = None; suffix = suffix } }

closing_comma : (us vs : List Sign) → closing ∷ us ≡ comma ∷ vs → ⊥
closing_comma us vs q = let heads : closing ≡ comma = cc in omega (arith, ap (λ z. slice_index_or z.text 0 0) heads)

-- the operand of `sizeof` is a unary expression
size_operand : (o : Prefix) → prefix_sign o ≡ prefix_sign p.Size → 14 ≤ least_operand o
size_operand o q = let size : o ≡ p.Size = prefix_same q in omega (arith, ap least_operand size)

least_operand_high : (o : Prefix) → 13 ≤ least_operand o
least_operand_high p.Increment = omega arith
least_operand_high p.Decrement = omega arith
least_operand_high p.Size = omega arith
least_operand_high _ = omega arith

-- operands of one prefix operator, compared
unary_along : {o o' : Prefix} {x y : Exp} {us vs : List Sign} → o ≡ o' → Compared (λ _ ws. GoesOn (least_operand o) ws) x us y vs →
    OperandsCompared 14 (prefixed o x) us 14 (prefixed o' y) vs
unary_along {o = o} {x = x} {y = y} {us = us} {vs = vs} q r =
    subst (λ z. OperandsCompared 14 (prefixed o x) us 14 (prefixed z y) vs) q
    (compared_map (λ z. (14, prefixed o z)) (λ a ws end. halts_unary (least_operand o) 14 ws (least_operand_high o) (omega arith) end) r)

mutual
  -- of two expressions the shorter one ends where nothing can go on with it
  pub reads_compared : {types : List (List ℕ)} {l : ℕ} {ts us vs : List Sign} {x y : Exp} →
      Reads types l ts x us → Reads types l ts y vs → Compared (λ _ ws. GoesOn l ws) x us y vs
  reads_compared {l = l0} (begun l m x y ts us vs h w c) (begun l' m' x' y' ts' us' vs' h' w' c') =
      elim (operands_along refl w w') [
        | same q r ↦ climbs_along (ap (λ v. v.1) q) r c c'
        | longer less halts ↦
            let s = halts_stop halts c' in
            let end : Halts m' us' = halts in
            longer (omega (arith, climbs_shorten c, less, ap length s.1)) (subst (GoesOn l0) (sym s.1) (goes_on-lower l0 m' us' h' end.goes))
        | shorter less halts ↦
            let s = halts_stop halts c in
            let end : Halts m us = halts in
            shorter (omega (arith, climbs_shorten c', less, ap length s.1)) (subst (GoesOn l0) (sym s.1) (goes_on-lower l0 m us h end.goes))
      ]

  operands_along : {types : List (List ℕ)} {ts ts' us vs : List Sign} {m n : ℕ} {x y : Exp} → ts ≡ ts' →
      Operand types ts m x us → Operand types ts' n y vs → OperandsCompared m x us n y vs
  operands_along q (leaf x sign ts w) (leaf x' sign' ts' w') =
      let signs : sign ≡ sign' = cc in
      same (ap (λ v. (15, v)) (leaf_same signs w w')) cc
  operands_along q (leaf x sign ts w) v = absurd (omega (arith, leaf_most w, class_same q (leaf x sign ts w) v))
  operands_along q w (leaf x sign ts v) = absurd (omega (arith, leaf_most v, class_same q w (leaf x sign ts v)))
  operands_along q (strings text texts ts us all w) (strings text' texts' ts' us' all' w') =
      let p = same_string q in
      subst (λ v. OperandsCompared 15 (e.Str (text ∷ texts)) us 15 (e.Str (v ∷ texts')) us') p.0
      (compared_map (λ v. (15, e.Str (text ∷ v))) (λ a ws end. end) (texts_compared 15 texts texts' us us' (sym w ∙ (p.1 ∙ w'))))
  operands_along q (paren x ts us w) (paren x' ts' us' w') =
      let rests : ts ≡ ts' = cc in
      let p = ends_same (goes_on-closing 0 us) (goes_on-closing 0 us') (reads_compared w (reads-along rests w')) in
      same (ap (λ v. (15, e.Paren v)) p.0) (ap (drop 1) p.1)
  operands_along q (paren x ts us w) (cast t x' ts' us' vs' w' v') =
      let rests : ts ≡ ts' = cc in
      absurd (reads_no_type w (type_starts (type-along rests w')))
  operands_along q (cast t x ts us vs w v) (paren x' ts' us' w') =
      let rests : ts ≡ ts' = cc in
      absurd (reads_no_type (reads-along rests w') (type_starts w))
  operands_along q (cast t x ts us vs w v) (cast t' x' ts' us' vs' w' v') =
      let rests : ts ≡ ts' = cc in
      let p = type_same w (type-along rests w') in
      subst (λ z. OperandsCompared 13 (e.Cast t x) vs 13 (e.Cast z x') vs') p.0
      (compared_map (λ z. (13, e.Cast t z)) (λ a ws end. halts_unary 13 13 ws (omega arith) (omega arith) end)
      (reads_compared v (reads-along (ap (drop 1) p.1) v')))
  operands_along {types = types} q (unary o x ts us w) (unary o' x' ts' us' w') =
      let heads : prefix_sign o ≡ prefix_sign o' = cc in
      let rests : ts ≡ ts' = cc in
      let same_prefix = prefix_same heads in
      unary_along same_prefix (reads_compared w (reads-along rests (subst (λ z. Reads types (least_operand z) ts' x' us') (sym same_prefix) w')))
  operands_along q (unary o x ts us w) (size_of_type t ts' us' w') =
      let heads : prefix_sign o ≡ prefix_sign p.Size = cc in
      let rests : ts ≡ opening ∷ ts' = cc in
      absurd (unary_no_type ts' (size_operand o heads) rests (type_starts w') w)
  operands_along q (size_of_type t ts us w) (unary o x' ts' us' w') =
      let heads : prefix_sign o ≡ prefix_sign p.Size = cc in
      let rests : ts' ≡ opening ∷ ts = cc in
      absurd (unary_no_type ts (size_operand o heads) rests (type_starts w) w')
  operands_along q (size_of_type t ts us w) (size_of_type t' ts' us' w') =
      let rests : ts ≡ ts' = cc in
      let p = type_same w (type-along rests w') in
      same (ap (λ v. (14, e.SizeType v)) p.0) (ap (drop 1) p.1)
  operands_along q w v = absurd (omega (arith, class_same q w v))

  climbs_along : {types : List (List ℕ)} {l m n : ℕ} {x x' y z : Exp} {ts ts' us vs : List Sign} → x ≡ x' → ts ≡ ts' →
      Climbs types l m x ts y us → Climbs types l n x' ts' z vs → Compared (λ _ ws. GoesOn l ws) y us z vs
  climbs_along own q (stop l m x ts) (stop l' m' x' ts') = same own q
  climbs_along {l = l0} own q (stop l m x ts) (more l' m' a t x' y' ts' us' vs' used low high w v) =
      shorter (omega (arith, ap length q, follows_shorten w, climbs_shorten v)) (subst (GoesOn l0) (sym q) (by_continuation a ts' used low))
  climbs_along {l = l0} own q (more l m a t x y ts us vs used low high w v) (stop l' m' x' ts') =
      longer (omega (arith, ap length q, follows_shorten w, climbs_shorten v)) (subst (GoesOn l0) q (by_continuation a ts used low))
  climbs_along {types = types} {l = l0} own q (more l m a t x y ts us vs used low high w v) (more l' m' b t' x' y' ts' us' vs' used' low' high' w' v') =
      let heads : opens a ≡ opens b = cc in
      let rests : ts ≡ ts' = cc in
      let one = opens_same used used' heads in
      elim (follows_along rests w (subst (λ z. Follows types z ts' t' us') (sym one) w')) [
        | same r s ↦ climbs_along (ap (λ z. grow z t) own ∙ ap (λ z. grow x' z) r) s v v'
        | longer less halts ↦
            let end : Halts (level_of b) us' = subst (λ z. Halts (level_of z) us') one halts in
            let s = halts_stop end v' in
            longer (omega (arith, climbs_shorten v, less, ap length s.1)) (subst (GoesOn l0) (sym s.1) (goes_on-lower l0 (level_of b) us' low' end.goes))
        | shorter less halts ↦
            let end : Halts (level_of a) us = halts in
            let s = halts_stop end v in
            shorter (omega (arith, climbs_shorten v', less, ap length s.1)) (subst (GoesOn l0) (sym s.1) (goes_on-lower l0 (level_of a) us low end.goes))
      ]

  follows_along : {types : List (List ℕ)} {a : Continuation} {ts ts' us vs : List Sign} {t u : Tail} → ts ≡ ts' →
      Follows types a ts t us → Follows types a ts' u vs → Compared (λ _ ws. Halts (level_of a) ws) t us u vs
  follows_along q (joined o y ts us w) (joined o' y' ts' us' w') =
      compared_map (λ z. t.Joined o z) (λ b ws end. halts_joined o ws end) (reads_compared w (reads-along q w'))
  follows_along q (chosen y z ts us vs w v) (chosen y' z' ts' us' vs' w' v') =
      let p = ends_same (goes_on-colon 0 us) (goes_on-colon 0 us') (reads_compared w (reads-along q w')) in
      subst (λ b. Compared (λ _ ws. Halts 2 ws) (t.Chosen y z) vs (t.Chosen b z') vs') p.0
      (compared_map (λ b. t.Chosen y b) (λ b ws end. halts_chosen ws end) (reads_compared v (reads-along (ap (drop 1) p.1) v')))
  follows_along q (indexed y ts us w) (indexed y' ts' us' w') =
      let p = ends_same (goes_on-bracket_end 0 us) (goes_on-bracket_end 0 us') (reads_compared w (reads-along q w')) in
      same (ap (λ z. t.Indexed z) p.0) (ap (drop 1) p.1)
  follows_along q (called xs ts us w) (called xs' ts' us' w') =
      let p = arguments_along q w w' in
      same (ap (λ z. t.Called z) p.0) p.1
  follows_along q (selected s name ts h) (selected s' name' ts' h') =
      let p = same_word q in
      same (ap (λ z. t.Selected s z) p.0) p.1
  follows_along q (stepped o ts) (stepped o' ts') = same refl q

  arguments_along : {types : List (List ℕ)} {ts ts' us vs : List Sign} {xs ys : List Exp} → ts ≡ ts' →
      Arguments types ts xs us → Arguments types ts' ys vs → (xs ≡ ys) × (us ≡ vs)
  arguments_along q (no_arguments ts) (no_arguments ts') = (refl, ap (drop 1) q)
  arguments_along q (no_arguments ts) (arguments xs ts' us w) = absurd (items_no_closing ts (sym q) w)
  arguments_along q (arguments xs ts us w) (no_arguments ts') = absurd (items_no_closing ts' q w)
  arguments_along q (arguments xs ts us w) (arguments xs' ts' us' w') = items_along q w w'

  items_along : {types : List (List ℕ)} {ts ts' us vs : List Sign} {xs ys : List Exp} → ts ≡ ts' →
      Items types ts xs us → Items types ts' ys vs → (xs ≡ ys) × (us ≡ vs)
  items_along q (last x ts us w) (last x' ts' us' w') =
      let p = ends_same (goes_on-closing 1 us) (goes_on-closing 1 us') (reads_compared w (reads-along q w')) in
      (ap (λ z. z ∷ []) p.0, ap (drop 1) p.1)
  items_along q (last x ts us w) (further x' xs' ts' us' vs' w' v') =
      let p = ends_same (goes_on-closing 1 us) (goes_on-comma 1 us' (omega arith)) (reads_compared w (reads-along q w')) in
      absurd (closing_comma us us' p.1)
  items_along q (further x xs ts us vs w v) (last x' ts' us' w') =
      let p = ends_same (goes_on-comma 1 us (omega arith)) (goes_on-closing 1 us') (reads_compared w (reads-along q w')) in
      absurd (closing_comma us' us (sym p.1))
  items_along q (further x xs ts us vs w v) (further x' xs' ts' us' vs' w' v') =
      let p = ends_same (goes_on-comma 1 us (omega arith)) (goes_on-comma 1 us' (omega arith)) (reads_compared w (reads-along q w')) in
      let r = items_along (ap (drop 1) p.1) v v' in
      (ap (λ z. z ∷ xs) p.0 ∙ ap (λ z. x' ∷ z) r.0, r.1)

  -- from the same signs the same type name is read
  pub type_same : {types : List (List ℕ)} {ts us vs : List Sign} {x y : TypeName} → TypeRead types ts x us → TypeRead types ts y vs → (x ≡ y) × (us ≡ vs)
  type_same {types = types} (type_read spec specs stars suffix ts us vs ws w v u) (type_read spec' specs' stars' suffix' ts' us' vs' ws' w' v' u') =
      let p = specs_same w w' in
      let r = stars_same v (subst (λ z. StarsRead z stars' vs') (sym p.1) v') in
      let s = suffix_along r.1 u u' in
      (ap (λ z. type_of z stars suffix) p.0 ∙ (ap (λ z. type_of (spec' ∷ specs') z suffix) r.0 ∙ ap (λ z. type_of (spec' ∷ specs') stars' z) s.0), s.1)

  suffix_along : {types : List (List ℕ)} {ts ts' us vs : List Sign} {x y : Suffix} → ts ≡ ts' →
      SuffixRead types ts x us → SuffixRead types ts' y vs → (x ≡ y) × (us ≡ vs)
  suffix_along q (plain ts none) (plain ts' none') = (refl, q)
  suffix_along q (plain ts none) (arrays size sizes ts' us' w) = absurd (none (subst (Begins bracket) (sym q) (sizes_begin w)))
  suffix_along q (arrays size sizes ts us w) (plain ts' none) = absurd (none (subst (Begins bracket) q (sizes_begin w)))
  suffix_along q (arrays size sizes ts us w) (arrays size' sizes' ts' us' w') =
      let p = sizes_along q w w' in
      (ap (λ z. su.Arrays z) p.0, p.1)

  sizes_along : {types : List (List ℕ)} {ts ts' us vs : List Sign} {xs ys : List (Option Exp)} → ts ≡ ts' →
      SizesRead types ts xs us → SizesRead types ts' ys vs → (xs ≡ ys) × (us ≡ vs)
  sizes_along q (sizes_end ts none) (sizes_end ts' none') = (refl, q)
  sizes_along q (sizes_end ts none) (no_size sizes ts' us' w) = absurd (none (subst (Begins bracket) (sym q) refl))
  sizes_along q (sizes_end ts none) (one_size x sizes ts' us' vs' w v) = absurd (none (subst (Begins bracket) (sym q) refl))
  sizes_along q (no_size sizes ts us w) (sizes_end ts' none) = absurd (none (subst (Begins bracket) q refl))
  sizes_along q (no_size sizes ts us w) (no_size sizes' ts' us' w') =
      let p = sizes_along (ap (drop 2) q) w w' in
      (ap (λ z. None ∷ z) p.0, p.1)
  sizes_along q (no_size sizes ts us w) (one_size x sizes' ts' us' vs' w' v') = absurd (reads_no_bracket_end ts (sym (ap (drop 1) q)) w')
  sizes_along q (one_size x sizes ts us vs w v) (sizes_end ts' none) = absurd (none (subst (Begins bracket) q refl))
  sizes_along q (one_size x sizes ts us vs w v) (no_size sizes' ts' us' w') = absurd (reads_no_bracket_end ts' (ap (drop 1) q) w)
  sizes_along q (one_size x sizes ts us vs w v) (one_size x' sizes' ts' us' vs' w' v') =
      let p = ends_same (goes_on-bracket_end 2 us) (goes_on-bracket_end 2 us') (reads_compared w (reads-along (ap (drop 1) q) w')) in
      let r = sizes_along (ap (drop 1) p.1) v v' in
      (ap (λ z. Some z ∷ sizes) p.0 ∙ ap (λ z. Some x' ∷ z) r.0, r.1)

-- of two first operands the shorter one halts
pub operands_compared : {types : List (List ℕ)} {ts us vs : List Sign} {m n : ℕ} {x y : Exp} →
    Operand types ts m x us → Operand types ts n y vs → OperandsCompared m x us n y vs
operands_compared w v = operands_along refl w v

-- an operand that goes on in two ways: the shorter one ends where nothing can go on with it
pub climbs_compared : {types : List (List ℕ)} {l m n : ℕ} {ts us vs : List Sign} {x y z : Exp} →
    Climbs types l m x ts y us → Climbs types l n x ts z vs → Compared (λ _ ws. GoesOn l ws) y us z vs
climbs_compared w v = climbs_along refl refl w v

-- of two rows of signs behind a token that goes on the shorter one halts
pub follows_compared : {types : List (List ℕ)} {a : Continuation} {ts us vs : List Sign} {t u : Tail} →
    Follows types a ts t us → Follows types a ts u vs → Compared (λ _ ws. Halts (level_of a) ws) t us u vs
follows_compared w v = follows_along refl w v

-- from the same signs the same arguments are read
pub arguments_same : {types : List (List ℕ)} {ts us vs : List Sign} {xs ys : List Exp} → Arguments types ts xs us → Arguments types ts ys vs → (xs ≡ ys) × (us ≡ vs)
arguments_same w v = arguments_along refl w v

-- and the same further ones
pub items_same : {types : List (List ℕ)} {ts us vs : List Sign} {xs ys : List Exp} → Items types ts xs us → Items types ts ys vs → (xs ≡ ys) × (us ≡ vs)
items_same w v = items_along refl w v

-- from the same signs the same is read behind the stars of a type name
pub suffix_same : {types : List (List ℕ)} {ts us vs : List Sign} {x y : Suffix} → SuffixRead types ts x us → SuffixRead types ts y vs → (x ≡ y) × (us ≡ vs)
suffix_same w v = suffix_along refl w v

-- and the same sizes of arrays
pub sizes_same : {types : List (List ℕ)} {ts us vs : List Sign} {xs ys : List (Option Exp)} → SizesRead types ts xs us → SizesRead types ts ys vs → (xs ≡ ys) × (us ≡ vs)
sizes_same w v = sizes_along refl w v
