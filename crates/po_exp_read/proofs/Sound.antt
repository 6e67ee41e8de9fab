-- What is read is well formed, and prints the signs that were read.
use Rattle.std.proofs.Common.{◌≡◌, ℕ, ◌≤◌, List, [], ◌∷◌, ◌++◌, map, flat_map, ap, sym, ◌∙◌, refl, subst, arith, append_assoc, append-nil}
use Rattle.std.specs.Prelude.{Option}
use Rattle.po_tree.specs.declared.expression.Exp.{Exp}
use Rattle.po_tree.specs.declared.expression.TypeName.{TypeName}
use Rattle.po_tree.specs.declared.expression.Suffix.{Suffix}
use Rattle.po_exp_parts.specs.declared.continuation.Continuation.{Continuation}
use Rattle.po_exp_parts.specs.declared.found.Tail.{Tail}
use Rattle.po_tree.specs.Signs.{Sign, string, opening, closing, bracket, bracket_end, comma, colon, question, sizeof}
use Rattle.po_tree.specs.Operators.{infix_sign, prefix_sign}
use Rattle.po_tree.specs.Printing.{flat, flat_type, flat_suffix, flat_specifier, with_commas, after_commas, in_brackets, optional, prints_star}
use Rattle.po_tree.specs.Layers.{flat-leaf, flat-Str, flat-Paren, flat-Index, flat-Call, flat-Cond, flat-Cast, flat-SizeType, flat-joined, flat-prefixed, flat-postfixed, flat-selected, flat_suffix-Plain, flat_suffix-Arrays, flat_type-parts}
use Rattle.po_tree.specs.Expressions.{Formed, leaf as formed_leaf, strings as formed_strings, paren as formed_paren, index, call, member, stepped as formed_stepped, unary as formed_unary, size_of_type as formed_size, cast as formed_cast, binary, conditional, AllFormed, no_more, one_more, TypeFormed, type_name, SuffixFormed, plain as formed_plain, arrays as formed_arrays, SizesFormed, no_more_sizes, no_size as formed_no_size, one_size as formed_one_size}
use Rattle.po_exp_parts.specs.Continuing.{opens, IsUsed, level_of, least_before, grow}
use Rattle.po_exp_parts.specs.Reading.{Reads, begun, Operand, leaf, strings, paren, unary, size_of_type, cast, Climbs, stop, more, Follows, joined as follows_joined, chosen, indexed, called, selected as follows_selected, stepped, Arguments, no_arguments, arguments, Items, last, further, TypeRead, type_read, SuffixRead, plain, arrays, SizesRead, sizes_end, no_size, one_size}
use Rattle.po_exp_read.proofs.LevelBounds.{formed_level}
use Rattle.po_exp_parts.proofs.StarsPrinted.{stars_sound}
use Rattle.po_exp_read.proofs.Specifiers.{specs_sound}

-- what the sizes of arrays print
abbrev pub flat_sizes : List (Option Exp) → List Sign
flat_sizes sizes = flat_map (λ size. in_brackets (optional flat size)) sizes

-- an expression that prints `front` and then `back`
pub two_parts : {ts : List Sign} (x : Exp) (front back us : List Sign) → flat x ≡ front ++ back → ts ≡ back ++ us → flat x ++ us ≡ front ++ ts
two_parts x front back us q h = ap (λ v. v ++ us) q ∙ append_assoc front back us ∙ ap (λ v. front ++ v) (sym h)

-- the level 15 is the highest
top : {types : List (List ℕ)} {m : ℕ} {x : Exp} → Formed types m x → 15 ≤ m → Formed types 15 x
top {types = types} {m = m} {x = x} w h =
    let same : m ≡ 15 = omega (arith, formed_level w) in
    subst (λ k. Formed types k x) same w

-- further arguments are printed with a comma before them
comma_before : {types : List (List ℕ)} {ts us : List Sign} {xs : List Exp} → Items types ts xs us → after_commas (map flat xs) ≡ comma ∷ with_commas (map flat xs)
comma_before (last x ts us read) = refl
comma_before (further x xs ts us vs read rest) = refl

mutual
  -- an expression that is read at a level has this level or a higher one, and prints what was read
  pub reads_sound : {types : List (List ℕ)} {l : ℕ} {ts us : List Sign} {x : Exp} → Reads types l ts x us →
      (m : ℕ) × (l ≤ m) × Formed types m x × (ts ≡ flat x ++ us)
  reads_sound (begun l m x y ts us vs low operand climbs) =
      let p = operand_sound operand in
      let r = climbs_sound p.0 low climbs in
      (r.0, r.1, r.2, p.1 ∙ r.3)

  -- a first operand has its level, and prints what was read
  pub operand_sound : {types : List (List ℕ)} {ts us : List Sign} {m : ℕ} {x : Exp} → Operand types ts m x us → Formed types m x × (ts ≡ flat x ++ us)
  operand_sound (leaf x sign ts is) = (formed_leaf x sign is, ap (λ v. v ++ ts) (sym (flat-leaf is)))
  operand_sound (strings text texts ts us all q) =
      (formed_strings text texts all, ap (λ v. string text ∷ v) q ∙ ap (λ v. v ++ us) (sym (flat-Str (text ∷ texts))))
  operand_sound (paren x ts us read) =
      let p = reads_sound read in
      (formed_paren p.0 x p.2, sym (two_parts _ (opening ∷ []) _ _ (flat-Paren x) (p.3 ∙ sym (append_assoc (flat x) (closing ∷ []) us))))
  operand_sound (unary p x ts us read) =
      let r = reads_sound read in
      (formed_unary p r.0 x r.1 r.2, sym (two_parts _ (prefix_sign p ∷ []) _ _ (flat-prefixed p x) r.3))
  operand_sound (size_of_type name ts us read) =
      let p = type_sound read in
      (formed_size name p.0, sym (two_parts _ (sizeof ∷ (opening ∷ [])) _ _ (flat-SizeType name) (p.1 ∙ sym (append_assoc (flat_type name) (closing ∷ []) us))))
  operand_sound (cast name x ts us vs read inside) =
      let p = type_sound read in
      let r = reads_sound inside in (
        formed_cast r.0 name x r.1 p.0 r.2,
        sym (two_parts _ (opening ∷ (flat_type name ++ closing ∷ [])) _ _ (flat-Cast name x) r.3 ∙
            ap (λ v. opening ∷ v) (append_assoc (flat_type name) (closing ∷ []) us ∙ sym p.1)),
      )

  -- what an expression goes on to is well formed if it is, and prints what was read behind it
  pub climbs_sound : {types : List (List ℕ)} {l m : ℕ} {x y : Exp} {ts us : List Sign} → Formed types m x → l ≤ m → Climbs types l m x ts y us →
      (n : ℕ) × (l ≤ n) × Formed types n y × (flat x ++ ts ≡ flat y ++ us)
  climbs_sound w h (stop l m x ts) = (m, h, w, refl)
  climbs_sound w h (more l m c tail x y ts us vs used low before follows climbs) =
      let p = follows_sound w used before follows in
      let r = climbs_sound p.0 low climbs in
      (r.0, r.1, r.2, sym p.1 ∙ r.3)

  -- an operand with what stands behind it is well formed, and prints what was read
  pub follows_sound : {types : List (List ℕ)} {m : ℕ} {x : Exp} {c : Continuation} {ts us : List Sign} {tail : Tail} → Formed types m x → IsUsed c →
      least_before c ≤ m → Follows types c ts tail us → Formed types (level_of c) (grow x tail) × (flat (grow x tail) ++ us ≡ flat x ++ (opens c ∷ ts))
  follows_sound {m = m} {x = x} w used before (follows_joined o y ts us read) =
      let p = reads_sound read in (
        binary o m p.0 x y used before p.1 w p.2,
        two_parts _ (flat x) _ _ (flat-joined o x y) refl ∙ ap (λ v. flat x ++ (infix_sign o ∷ v)) (sym p.3),
      )
  follows_sound {m = m} {x = x} w used before (chosen y z ts us vs read rest) =
      let p = reads_sound read in
      let r = reads_sound rest in (
        conditional m p.0 r.0 x y z before r.1 w p.2 r.2,
        two_parts _ (flat x) _ _ (flat-Cond x y z) (ap (λ v. question ∷ v) (p.3 ∙ ap (λ v. flat y ++ (colon ∷ v)) r.3 ∙ sym (append_assoc (flat y) (colon ∷ flat z) vs))),
      )
  follows_sound {x = x} w used before (indexed y ts us read) =
      let p = reads_sound read in (
        index p.0 x y (top w before) p.2,
        two_parts _ (flat x) _ _ (flat-Index x y) (ap (λ v. bracket ∷ v) (p.3 ∙ sym (append_assoc (flat y) (bracket_end ∷ []) us))),
      )
  follows_sound {x = x} w used before (called xs ts us read) =
      let p = arguments_sound read in (
        call x xs (top w before) p.0,
        two_parts _ (flat x) _ _ (flat-Call x xs) (ap (λ v. opening ∷ v) (p.1 ∙ sym (append_assoc (with_commas (map flat xs)) (closing ∷ []) us))),
      )
  follows_sound {x = x} w used before (follows_selected s name ts is) =
      (member s x name is (top w before), two_parts _ (flat x) _ _ (flat-selected s x name) refl)
  follows_sound {x = x} w used before (stepped q ts) = (formed_stepped q x (top w before), two_parts _ (flat x) _ _ (flat-postfixed q x) refl)

  -- arguments that are read are assignment expressions, and print what was read
  pub arguments_sound : {types : List (List ℕ)} {ts us : List Sign} {xs : List Exp} → Arguments types ts xs us →
      AllFormed types xs × (ts ≡ with_commas (map flat xs) ++ (closing ∷ us))
  arguments_sound (no_arguments ts) = (no_more, refl)
  arguments_sound (arguments xs ts us read) = items_sound read

  -- the same of one argument or more
  pub items_sound : {types : List (List ℕ)} {ts us : List Sign} {xs : List Exp} → Items types ts xs us →
      AllFormed types xs × (ts ≡ with_commas (map flat xs) ++ (closing ∷ us))
  items_sound (last x ts us read) =
      let p = reads_sound read in
      (one_more p.0 x [] p.1 p.2 no_more, p.3 ∙ ap (λ v. v ++ (closing ∷ us)) (sym (append-nil (flat x))))
  items_sound (further x xs ts us vs read rest) =
      let p = reads_sound read in
      let r = items_sound rest in (
        one_more p.0 x xs p.1 p.2 r.0,
        p.3 ∙ ap (λ v. flat x ++ (comma ∷ v)) r.1 ∙ ap (λ v. flat x ++ (v ++ (closing ∷ vs))) (sym (comma_before rest)) ∙
            sym (append_assoc (flat x) (after_commas (map flat xs)) (closing ∷ vs)),
      )

  -- a type name that is read is well formed, and prints what was read
  pub type_sound : {types : List (List ℕ)} {ts us : List Sign} {name : TypeName} → TypeRead types ts name us → TypeFormed types name × (ts ≡ flat_type name ++ us)
  type_sound (type_read spec specs stars suffix ts us vs ws first second third) =
      let p = specs_sound first in
      let q = stars_sound second in
      let r = suffix_sound third in
      let front : List Sign = flat_map flat_specifier (spec ∷ specs) in
      let middle : List Sign = flat_map prints_star stars in (
        type_name spec specs stars suffix p.0 q.0 r.0,
        p.1 ∙ ap (λ v. front ++ v) (q.1 ∙ ap (λ v. middle ++ v) r.1 ∙ sym (append_assoc middle (flat_suffix suffix) ws)) ∙
            sym (append_assoc front (middle ++ flat_suffix suffix) ws) ∙ ap (λ v. v ++ ws) (sym (flat_type-parts (spec ∷ specs) stars suffix)),
      )

  -- what is read behind the stars is well formed, and prints what was read
  pub suffix_sound : {types : List (List ℕ)} {ts us : List Sign} {suffix : Suffix} → SuffixRead types ts suffix us → SuffixFormed types suffix × (ts ≡ flat_suffix suffix ++ us)
  suffix_sound (plain ts ends) = (formed_plain, ap (λ v. v ++ ts) (sym flat_suffix-Plain))
  suffix_sound (arrays size sizes ts us read) =
      let p = sizes_sound read in
      (formed_arrays size sizes p.0, p.1 ∙ ap (λ v. v ++ us) (sym (flat_suffix-Arrays (size ∷ sizes))))

  -- sizes of arrays that are read are conditional expressions, and print what was read
  pub sizes_sound : {types : List (List ℕ)} {ts us : List Sign} {sizes : List (Option Exp)} → SizesRead types ts sizes us → SizesFormed types sizes × (ts ≡ flat_sizes sizes ++ us)
  sizes_sound (sizes_end ts ends) = (no_more_sizes, refl)
  sizes_sound (no_size sizes ts us read) =
      let p = sizes_sound read in
      (formed_no_size sizes p.0, ap (λ v. bracket ∷ (bracket_end ∷ v)) p.1)
  sizes_sound (one_size x sizes ts us vs read rest) =
      let p = reads_sound read in
      let r = sizes_sound rest in (
        formed_one_size p.0 x sizes p.1 p.2 r.0,
        ap (λ v. bracket ∷ v) (p.3 ∙ ap (λ v. flat x ++ (bracket_end ∷ v)) r.1 ∙ sym (append_assoc (flat x) (bracket_end ∷ []) (flat_sizes sizes ++ vs)) ∙
            sym (append_assoc (flat x ++ bracket_end ∷ []) (flat_sizes sizes) vs)),
      )
