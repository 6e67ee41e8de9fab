-- What a well-formed expression prints is read as it, whatever stands behind it.
use Rattle.std.proofs.Common.{◌≡◌, ◌≢◌, get_or, ℕ, ◌≤◌, List, [], ◌∷◌, ◌++◌, map, flat_map, ap, sym, ◌∙◌, refl, subst, arith, append_assoc, le_trans}
use Rattle.std.specs.Prelude.{Option, Some, None}
use Rattle.po_tree.specs.declared.expression.Exp.{Exp}
use Rattle.po_tree.specs.declared.expression.Exp.TheVariants as e
use Rattle.po_tree.specs.declared.expression.TypeName.{TypeName}
use Rattle.po_tree.specs.declared.expression.Suffix.{Suffix}
use Rattle.po_tree.specs.declared.expression.Suffix.TheVariants as su
use Rattle.po_exp_parts.specs.declared.continuation.Continuation.TheVariants as c
use Rattle.po_exp_parts.specs.declared.found.Tail.TheVariants as t
use Rattle.po_tree.specs.Signs.{Sign, string, opening, closing, bracket, bracket_end, comma, colon, question, star, sizeof}
use Rattle.po_tree.specs.Operators.{least_right, least_operand, prefixed}
use Rattle.po_tree.specs.Printing.{flat, flat_type, flat_suffix, flat_specifier, with_commas, after_commas, prints_star}
use Rattle.po_tree.specs.Layers.{flat-leaf, flat-Str, flat-Paren, flat-Index, flat-Call, flat-Cond, flat-Cast, flat-SizeType, flat-joined, flat-prefixed, flat-postfixed, flat-selected, flat_suffix-Plain, flat_suffix-Arrays, flat_type-parts}
use Rattle.po_tree.specs.Expressions.{Formed, leaf as formed_leaf, strings as formed_strings, paren as formed_paren, index, call, member, stepped as formed_stepped, unary as formed_unary, size_of_type as formed_size, cast as formed_cast, binary, conditional, AllFormed, no_more, one_more, TypeFormed, type_name, SuffixFormed, plain as formed_plain, arrays as formed_arrays, SizesFormed, no_more_sizes, no_size as formed_no_size, one_size as formed_one_size}
use Rattle.po_exp_parts.specs.Places.{Begins, BeginsWord}
use Rattle.po_exp_parts.specs.Reading.{Reads, begun, leaf, strings, paren, unary, size_of_type, cast, Climbs, stop, more, joined as follows_joined, chosen, indexed, called, selected as follows_selected, stepped, Arguments, no_arguments, arguments, Items, last, further, TypeRead, type_read, SuffixRead, plain, arrays, SizesRead, sizes_end, no_size, one_size}
use Rattle.po_exp_read.proofs.LevelBounds.{left_high}
use Rattle.po_exp_read.proofs.Specifiers.{specs_complete, stars_complete, stars_begin}
use Rattle.po_exp_read.proofs.Sound.{flat_sizes, two_parts}

-- signs whose texts begin with different bytes are different
differs : (left right : Sign) → get_or left.text 0 0 ≢ get_or right.text 0 0 → left ≡ right → ⊥
differs left right h q = h (ap (λ v. get_or v.text 0 0) q)

closing_not_star : closing ≡ star → ⊥
closing_not_star = differs closing star (λ h. omega (arith, h))

closing_not_bracket : closing ≡ bracket → ⊥
closing_not_bracket = differs closing bracket (λ h. omega (arith, h))

bracket_not_star : bracket ≡ star → ⊥
bracket_not_star = differs bracket star (λ h. omega (arith, h))

-- behind the stars of a type name there is no word and no star
suffix_begins : {types : List (List ℕ)} {suffix : Suffix} (rest : List Sign) → SuffixFormed types suffix →
    (BeginsWord (flat_suffix suffix ++ (closing ∷ rest)) → ⊥) × (Begins star (flat_suffix suffix ++ (closing ∷ rest)) → ⊥)
suffix_begins rest formed_plain = rw flat_suffix-Plain (λ h. cc, closing_not_star)
suffix_begins rest (formed_arrays size sizes w) = rw (flat_suffix-Arrays (size ∷ sizes)) (λ h. cc, bracket_not_star)

items_of : {types : List (List ℕ)} {x : Exp} {xs : List Exp} {ts us : List Sign} → Arguments types ts (x ∷ xs) us → Items types ts (x ∷ xs) us
items_of (arguments xs ts us read) = read

-- an argument before others
one_before : {types : List (List ℕ)} (rest : List Sign) (x : Exp) (xs : List Exp) → ((us : List Sign) → Reads types 1 (flat x ++ us) x us) →
    Arguments types (with_commas (map flat xs) ++ (closing ∷ rest)) xs rest → Items types (flat x ++ (after_commas (map flat xs) ++ (closing ∷ rest))) (x ∷ xs) rest
one_before rest x [] first others = last x _ rest (first (closing ∷ rest))
one_before rest x (y ∷ ys) first others =
    let us : List Sign = with_commas (map flat (y ∷ ys)) ++ (closing ∷ rest) in
    further x (y ∷ ys) _ us rest (first (comma ∷ us)) (items_of others)

mutual
  -- An expression that goes on behind its signs is read from them. With `stop` it is read as itself.
  pub reads_complete : {types : List (List ℕ)} {l m : ℕ} {x z : Exp} {rest us : List Sign} → Formed types m x → l ≤ m → Climbs types l m x rest z us →
      Reads types l (flat x ++ rest) z us
  reads_complete {types = types} {l = l} {z = z} {rest = rest} {us = us} (formed_leaf x sign is) h climbs =
      subst (λ v. Reads types l v z us) (ap (λ v. v ++ rest) (sym (flat-leaf is)))
      (begun l 15 x z _ rest us h (leaf x sign rest is) climbs)
  reads_complete {types = types} {l = l} {z = z} {rest = rest} {us = us} (formed_strings text texts all) h climbs =
      subst (λ v. Reads types l v z us) (ap (λ v. v ++ rest) (sym (flat-Str (text ∷ texts))))
      (begun l 15 (e.Str (text ∷ texts)) z _ rest us h (strings text texts (map string texts ++ rest) rest all refl) climbs)
  reads_complete {types = types} {l = l} {z = z} {rest = rest} {us = us} (formed_paren m x w) h climbs =
      let inside : Reads types 0 (flat x ++ (closing ∷ rest)) x (closing ∷ rest) = reads_complete w (omega arith) (stop 0 m x (closing ∷ rest)) in
      subst (λ v. Reads types l v z us) (sym (two_parts _ (opening ∷ []) _ rest (flat-Paren x) (sym (append_assoc (flat x) (closing ∷ []) rest))))
      (begun l 15 (e.Paren x) z _ rest us h (paren x _ rest inside) climbs)
  reads_complete {types = types} {l = l} {z = z} {rest = rest} {us = us} (index m x y w v) h climbs =
      let inside : Reads types 0 (flat y ++ (bracket_end ∷ rest)) y (bracket_end ∷ rest) = reads_complete v (omega arith) (stop 0 m y (bracket_end ∷ rest)) in
      subst (λ v. Reads types l v z us) (sym (two_parts _ (flat x) _ rest (flat-Index x y) (ap (λ v. bracket ∷ v) (sym (append_assoc (flat y) (bracket_end ∷ []) rest)))))
      (reads_complete w h (more l 15 c.Bracket (t.Indexed y) x z _ rest us tt h (omega arith) (indexed y _ rest inside) climbs))
  reads_complete {types = types} {l = l} {z = z} {rest = rest} {us = us} (call x xs w ws) h climbs =
      let printed : List Sign = with_commas (map flat xs) in
      subst (λ v. Reads types l v z us) (sym (two_parts _ (flat x) _ rest (flat-Call x xs) (ap (λ v. opening ∷ v) (sym (append_assoc printed (closing ∷ []) rest)))))
      (reads_complete w h (more l 15 c.Parenthesis (t.Called xs) x z _ rest us tt h (omega arith) (called xs _ rest (arguments_complete rest ws)) climbs))
  reads_complete {types = types} {l = l} {z = z} {rest = rest} {us = us} (member s x name is w) h climbs =
      subst (λ v. Reads types l v z us) (sym (two_parts _ (flat x) _ rest (flat-selected s x name) refl))
      (reads_complete w h (more l 15 (c.Select s) (t.Selected s name) x z _ rest us tt h (omega arith) (follows_selected s name rest is) climbs))
  reads_complete {types = types} {l = l} {z = z} {rest = rest} {us = us} (formed_stepped q x w) h climbs =
      subst (λ v. Reads types l v z us) (sym (two_parts _ (flat x) _ rest (flat-postfixed q x) refl))
      (reads_complete w h (more l 15 (c.Step q) (t.Stepped q) x z _ rest us tt h (omega arith) (stepped q rest) climbs))
  reads_complete {types = types} {l = l} {z = z} {rest = rest} {us = us} (formed_unary p m x low w) h climbs =
      let inside : Reads types (least_operand p) (flat x ++ rest) x rest = reads_complete w low (stop (least_operand p) m x rest) in
      subst (λ v. Reads types l v z us) (ap (λ v. v ++ rest) (sym (flat-prefixed p x)))
      (begun l 14 (prefixed p x) z _ rest us h (unary p x _ rest inside) climbs)
  reads_complete {types = types} {l = l} {z = z} {rest = rest} {us = us} (formed_size name w) h climbs =
      subst (λ v. Reads types l v z us) (sym (two_parts _ (sizeof ∷ (opening ∷ [])) _ rest (flat-SizeType name) (sym (append_assoc (flat_type name) (closing ∷ []) rest))))
      (begun l 14 (e.SizeType name) z _ rest us h (size_of_type name _ rest (type_complete rest w)) climbs)
  reads_complete {types = types} {l = l} {z = z} {rest = rest} {us = us} (formed_cast m name x low v w) h climbs =
      let inside : Reads types 13 (flat x ++ rest) x rest = reads_complete w low (stop 13 m x rest) in
      let printed : flat (e.Cast name x) ++ rest ≡ opening ∷ (flat_type name ++ (closing ∷ (flat x ++ rest))) =
      two_parts _ (opening ∷ (flat_type name ++ closing ∷ [])) _ rest (flat-Cast name x) refl ∙
      ap (λ v. opening ∷ v) (append_assoc (flat_type name) (closing ∷ []) (flat x ++ rest)) in
      subst (λ v. Reads types l v z us) (sym printed)
      (begun l 13 (e.Cast name x) z _ rest us h (cast name x _ (flat x ++ rest) rest (type_complete (flat x ++ rest) v) inside) climbs)
  reads_complete {types = types} {l = l} {z = z} {rest = rest} {us = us} (binary o m n x y used left right w v) h climbs =
      let inside : Reads types (least_right o) (flat y ++ rest) y rest = reads_complete v right (stop (least_right o) n y rest) in
      let low : l ≤ m = le_trans h (le_trans (left_high o) left) in
      subst (λ v. Reads types l v z us) (sym (two_parts _ (flat x) _ rest (flat-joined o x y) refl))
      (reads_complete w low (more l m (c.Infix o) (t.Joined o y) x z _ rest us used h left (follows_joined o y _ rest inside) climbs))
  reads_complete {types = types} {l = l} {z = z} {rest = rest} {us = us} (conditional m n k x y a left right w v u) h climbs =
      let behind : List Sign = colon ∷ (flat a ++ rest) in
      let second : Reads types 0 (flat y ++ behind) y behind = reads_complete v (omega arith) (stop 0 n y behind) in
      let third : Reads types 2 (flat a ++ rest) a rest = reads_complete u right (stop 2 k a rest) in
      subst (λ v. Reads types l v z us) (sym (two_parts _ (flat x) _ rest (flat-Cond x y a) (ap (λ v. question ∷ v) (sym (append_assoc (flat y) (colon ∷ flat a) rest)))))
      (reads_complete w (omega arith) (more l m c.Question (t.Chosen y a) x z _ rest us tt h left (chosen y a _ (flat a ++ rest) rest second third) climbs))

  -- arguments are read up to the closing parenthesis
  pub arguments_complete : {types : List (List ℕ)} {xs : List Exp} (rest : List Sign) → AllFormed types xs →
      Arguments types (with_commas (map flat xs) ++ (closing ∷ rest)) xs rest
  arguments_complete rest no_more = no_arguments rest
  arguments_complete {types = types} rest (one_more m x xs h w ws) =
      subst (λ v. Arguments types v (x ∷ xs) rest) (sym (append_assoc (flat x) (after_commas (map flat xs)) (closing ∷ rest)))
      (arguments (x ∷ xs) _ rest (one_before rest x xs (λ us. reads_complete w h (stop 1 m x us)) (arguments_complete rest ws)))

  -- a type name is read up to the closing parenthesis
  pub type_complete : {types : List (List ℕ)} {name : TypeName} (rest : List Sign) → TypeFormed types name →
      TypeRead types (flat_type name ++ (closing ∷ rest)) name (closing ∷ rest)
  type_complete {types = types} rest (type_name spec specs stars suffix first second third) =
      let us : List Sign = flat_suffix suffix ++ (closing ∷ rest) in
      let begins = suffix_begins rest third in
      let front : List Sign = flat_map flat_specifier (spec ∷ specs) in
      let middle : List Sign = flat_map prints_star stars in
      let name : TypeName = record { specs = spec ∷ specs; declarator = record { stars = stars; name = None; suffix = suffix } } in
      let printed : front ++ (middle ++ us) ≡ flat_type name ++ (closing ∷ rest) =
      ap (λ v. front ++ v) (sym (append_assoc middle (flat_suffix suffix) (closing ∷ rest))) ∙ sym (append_assoc front (middle ++ flat_suffix suffix) (closing ∷ rest)) ∙
      ap (λ v. v ++ (closing ∷ rest)) (sym (flat_type-parts (spec ∷ specs) stars suffix)) in
      subst (λ v. TypeRead types v name (closing ∷ rest)) printed
      (type_read spec specs stars suffix _ (middle ++ us) us (closing ∷ rest)
      (specs_complete (middle ++ us) first (stars_begin stars us begins.0)) (stars_complete stars us second begins.0 begins.1) (suffix_complete rest third))

  -- what stands behind the stars is read up to the closing parenthesis
  pub suffix_complete : {types : List (List ℕ)} {suffix : Suffix} (rest : List Sign) → SuffixFormed types suffix →
      SuffixRead types (flat_suffix suffix ++ (closing ∷ rest)) suffix (closing ∷ rest)
  suffix_complete {types = types} rest formed_plain =
      subst (λ v. SuffixRead types (v ++ (closing ∷ rest)) su.Plain (closing ∷ rest)) (sym flat_suffix-Plain) (plain (closing ∷ rest) closing_not_bracket)
  suffix_complete {types = types} rest (formed_arrays size sizes w) =
      subst (λ v. SuffixRead types (v ++ (closing ∷ rest)) (su.Arrays (size ∷ sizes)) (closing ∷ rest)) (sym (flat_suffix-Arrays (size ∷ sizes)))
      (arrays size sizes _ (closing ∷ rest) (sizes_complete rest w))

  -- sizes of arrays are read up to the closing parenthesis
  pub sizes_complete : {types : List (List ℕ)} {sizes : List (Option Exp)} (rest : List Sign) → SizesFormed types sizes →
      SizesRead types (flat_sizes sizes ++ (closing ∷ rest)) sizes (closing ∷ rest)
  sizes_complete rest no_more_sizes = sizes_end (closing ∷ rest) closing_not_bracket
  sizes_complete rest (formed_no_size sizes w) = no_size sizes _ (closing ∷ rest) (sizes_complete rest w)
  sizes_complete {types = types} rest (formed_one_size m x sizes h v w) =
      let us : List Sign = flat_sizes sizes ++ (closing ∷ rest) in
      let inside : Reads types 2 (flat x ++ (bracket_end ∷ us)) x (bracket_end ∷ us) = reads_complete v h (stop 2 m x (bracket_end ∷ us)) in
      let printed : flat x ++ (bracket_end ∷ us) ≡ ((flat x ++ bracket_end ∷ []) ++ flat_sizes sizes) ++ (closing ∷ rest) =
      sym (append_assoc (flat x) (bracket_end ∷ []) us) ∙ sym (append_assoc (flat x ++ bracket_end ∷ []) (flat_sizes sizes) (closing ∷ rest)) in
      subst (λ v. SizesRead types (bracket ∷ v) (Some x ∷ sizes) (closing ∷ rest)) printed (one_size x sizes _ us (closing ∷ rest) inside (sizes_complete rest w))
