-- Of two declarations that the same signs print one is the other.
use Rattle.std.proofs.Common.{◌≡◌, ◌∙◌, ℕ, ◌≤◌, List, [], ◌∷◌, ◌++◌, map, flat_map, refl, sym, ap, subst, arith, codes}
use Rattle.std.specs.Prelude.{Option, Some, None}
use Rattle.po_tree.specs.declared.expression.Specifier.{Specifier}
use Rattle.po_tree.specs.declared.expression.Declarator.{Declarator}
use Rattle.po_tree.specs.declared.declaration.Init.{Init}
use Rattle.po_tree.specs.declared.declaration.Decl.{Decl}
use Rattle.po_tree.specs.Signs.{Sign, word, comma, semicolon, equals}
use Rattle.po_tree.specs.Heights.{decl_height, part_height, greatest}
use Rattle.po_tree.specs.Printing.{flat_declarator, flat_init, flat_decl, prints_star}
use Rattle.po_tree.specs.Expressions.{Typed}
use Rattle.po_tree.specs.Declarations.{IsDeclarator, declarator, IsInit, Declares, new_type, other, Parts, no_more_parts, part, initialised, Declared, declared, IsPiece, lone, declaration, IsDeclaration}
use Rattle.po_exp_parts.specs.Places.{at_comma, at_semicolon, BeginsEnd}
use Rattle.po_exp_read.proofs.Longest.{one_before_end}
use Rattle.po_init_read.proofs.One.{one_ended}
use Rattle.po_decl_laws.specs.Fronts as fr
use Rattle.po_decl_laws.specs.Fronts.{EndsSpecifiers, at_sign}
use Rattle.po_decl_laws.proofs.Fronts.{byte_of, punct_word, flat_declarator-before, declarator_ends}
use Rattle.po_decl_laws.proofs.Behind.{tails, first_byte, no_word_first, some_specs_word, parts_behind, parts_front, part_first, initialised_first, parts_end, flat_decl-before}
use Rattle.po_decl_laws.proofs.One.{Same, one_specs, one_declarator, declarator_named, some_same}

-- the same names are in force behind a word
declares_same : {specs : List Specifier} {name : List ℕ} {types inner after : List (List ℕ)} → Declares specs name types inner → Declares specs name types after → inner ≡ after
declares_same (new_type is) (new_type is') = refl
declares_same (new_type is) (other none) = absurd (none is)
declares_same (other none) (new_type is) = absurd (none is)
declares_same (other none) (other none') = refl

declares_along : {specs : List Specifier} {name name' : List ℕ} {types inner after : List (List ℕ)} → name ≡ name' → Declares specs name types inner → Declares specs name' types after → inner ≡ after
declares_along {specs = specs} {types = types} {after = after} q w v = declares_same w (subst (λ z. Declares specs z types after) (sym q) v)

-- no declarator begins with a semicolon
stars_no_semicolon : (stars : List (List (List ℕ))) (name : List ℕ) (ts us : List Sign) → flat_map prints_star stars ++ (word name ∷ ts) ≡ semicolon ∷ us → ⊥
stars_no_semicolon [] name ts us q = punct_word (sym q)
stars_no_semicolon (words ∷ stars) name ts us q = omega (arith, ap first_byte q)

declarator_no_semicolon : {types inner : List (List ℕ)} {seen : Typed} {name : List ℕ} {d : Declarator} (us vs : List Sign) → IsDeclarator types seen name d inner → flat_declarator d ++ us ≡ semicolon ∷ vs → ⊥
declarator_no_semicolon us vs (declarator types seen name stars suffix inner is are w) q =
    stars_no_semicolon stars name _ vs (sym (flat_declarator-before (record { stars = stars; name = Some name; suffix = suffix }) us) ∙ q)

parts_no_semicolon : {specs : List Specifier} {seen : Typed} {types final : List (List ℕ)} {p : Declarator × Option Init} {ps : List (Declarator × Option Init)} (us vs : List Sign) →
    Parts specs seen types (p ∷ ps) final → parts_front (p ∷ ps) us ≡ semicolon ∷ vs → ⊥
parts_no_semicolon us vs (part types params inner types' name d rest w c v) q = declarator_no_semicolon _ vs w (sym (part_first d rest us) ∙ q)
parts_no_semicolon us vs (initialised types params inner types' name d x rest w c i v) q = declarator_no_semicolon _ vs w (sym (initialised_first d x rest us) ∙ q)

-- a declarator at the front ends the specifiers before it
declarator_ends_at : {types inner : List (List ℕ)} {seen : Typed} {name : List ℕ} {d : Declarator} {front : List Sign} (behind : List Sign) → IsDeclarator types seen name d inner →
    front ≡ flat_declarator d ++ behind → EndsSpecifiers types seen front
declarator_ends_at {types = types} {seen = seen} behind w q = subst (EndsSpecifiers types seen) (sym q) (declarator_ends w behind)

-- they end the specifiers before them
pub parts_end_specs : {specs : List Specifier} {seen : Typed} {types final : List (List ℕ)} {ps : List (Declarator × Option Init)} (us : List Sign) → Parts specs seen types ps final →
    EndsSpecifiers types seen (parts_front ps us)
parts_end_specs us (no_more_parts types) = at_sign (codes ";") us (λ q. omega (arith, ap byte_of q))
parts_end_specs us (part types params inner types' name d rest w c v) = declarator_ends_at (parts_behind rest us) w (part_first d rest us)
parts_end_specs us (initialised types params inner types' name d x rest w c i v) =
    declarator_ends_at (equals ∷ (flat_init x ++ parts_behind rest us)) w (initialised_first d x rest us)

parts_again : {specs : List Specifier} {seen : Typed} {types final last : List (List ℕ)} (ps rs : List (Declarator × Option Init)) (us vs : List Sign) → Parts specs seen types ps final → Parts specs seen types rs last →
    parts_front ps us ≡ parts_front rs vs → parts_behind ps us ≡ parts_behind rs vs
parts_again [] [] us vs w v q = q
parts_again [] (r ∷ rs) us vs w v q = absurd (parts_no_semicolon vs us v (sym q))
parts_again (p ∷ ps) [] us vs w v q = absurd (parts_no_semicolon us vs w q)
parts_again (p ∷ ps) (r ∷ rs) us vs w v q = ap (λ z. comma ∷ z) q

parts_no_equals : (ps : List (Declarator × Option Init)) (us vs : List Sign) → parts_behind ps us ≡ equals ∷ vs → ⊥
parts_no_equals [] us vs q = omega (arith, ap first_byte q)
parts_no_equals (p ∷ ps) us vs q = omega (arith, ap first_byte q)

parts_end_init : (ps : List (Declarator × Option Init)) (us : List Sign) → BeginsEnd (parts_behind ps us)
parts_end_init [] us = at_semicolon
parts_end_init (p ∷ ps) us = at_comma

part_next : (d : Declarator) (ps : List (Declarator × Option Init)) (us : List Sign) → parts_behind ((d, None) ∷ ps) us ≡ comma ∷ (flat_declarator d ++ parts_behind ps us)
part_next d ps us = ap (λ v. comma ∷ v) (part_first d ps us)

initialised_next : (d : Declarator) (x : Init) (ps : List (Declarator × Option Init)) (us : List Sign) →
    parts_behind ((d, Some x) ∷ ps) us ≡ comma ∷ (flat_declarator d ++ (equals ∷ (flat_init x ++ parts_behind ps us)))
initialised_next d x ps us = ap (λ v. comma ∷ v) (initialised_first d x ps us)

parts_moved : {specs : List Specifier} {seen : Typed} {types inner final : List (List ℕ)} {ps : List (Declarator × Option Init)} → types ≡ inner → Parts specs seen inner ps final → Parts specs seen types ps final
parts_moved {specs = specs} {seen = seen} {final = final} {ps = ps} q w = subst (λ z. Parts specs seen z ps final) (sym q) w

-- of two lists of declarators with their initialisers one is the other
one_parts : {specs : List Specifier} {seen : Typed} {types final last : List (List ℕ)} {ps rs : List (Declarator × Option Init)} → Parts specs seen types ps final → Parts specs seen types rs last →
    greatest (map part_height ps) ≤ 256 → greatest (map part_height rs) ≤ 256 → (us vs : List Sign) → parts_behind ps us ≡ parts_behind rs vs → Same ps rs final last us vs
one_parts (no_more_parts types) (no_more_parts types') low low' us vs q = record { trees_same = refl; types_same = refl; left_same = tails q }
one_parts (no_more_parts types) (part types' params inner final name d rest w c v) low low' us vs q = absurd (omega (arith, ap first_byte q))
one_parts (no_more_parts types) (initialised types' params inner final name d x rest w c i v) low low' us vs q = absurd (omega (arith, ap first_byte q))
one_parts (part types params inner final name d rest w c v) (no_more_parts types') low low' us vs q = absurd (omega (arith, ap first_byte q))
one_parts (initialised types params inner final name d x rest w c i v) (no_more_parts types') low low' us vs q = absurd (omega (arith, ap first_byte q))
one_parts (part types params inner final name d rest w c v) (part types' params' inner' final' name' d' rest' w' c' v') low low' us vs q =
    let s = one_declarator w w' (omega (arith, low)) (omega (arith, low')) (parts_behind rest us) (parts_behind rest' vs) (tails (sym (part_next d rest us) ∙ q ∙ part_next d' rest' vs)) (parts_end rest us) (parts_end rest' vs) in
    let same = declares_along (some_same s.trees_same (declarator_named w) (declarator_named w')) c c' in
    let o = one_parts v (parts_moved same v') (omega (arith, low)) (omega (arith, low')) us vs s.left_same in
    record { trees_same = ap (λ z. (z, None) ∷ rest) s.trees_same ∙ ap (λ z. (d', None) ∷ z) o.trees_same; types_same = o.types_same; left_same = o.left_same }
one_parts (part types params inner final name d rest w c v) (initialised types' params' inner' final' name' d' x' rest' w' c' i' v') low low' us vs q =
    let s = one_declarator w w' (omega (arith, low)) (omega (arith, low')) (parts_behind rest us) (equals ∷ (flat_init x' ++ parts_behind rest' vs))
    (tails (sym (part_next d rest us) ∙ q ∙ initialised_next d' x' rest' vs)) (parts_end rest us) fr.at_equals in
    absurd (parts_no_equals rest us _ s.left_same)
one_parts (initialised types params inner final name d x rest w c i v) (part types' params' inner' final' name' d' rest' w' c' v') low low' us vs q =
    let s = one_declarator w w' (omega (arith, low)) (omega (arith, low')) (equals ∷ (flat_init x ++ parts_behind rest us)) (parts_behind rest' vs)
    (tails (sym (initialised_next d x rest us) ∙ q ∙ part_next d' rest' vs)) fr.at_equals (parts_end rest' vs) in
    absurd (parts_no_equals rest' vs _ (sym s.left_same))
one_parts (initialised types params inner final name d x rest w c i v) (initialised types' params' inner' final' name' d' x' rest' w' c' i' v') low low' us vs q =
    let s = one_declarator w w' (omega (arith, low)) (omega (arith, low')) (equals ∷ (flat_init x ++ parts_behind rest us)) (equals ∷ (flat_init x' ++ parts_behind rest' vs))
    (tails (sym (initialised_next d x rest us) ∙ q ∙ initialised_next d' x' rest' vs)) fr.at_equals fr.at_equals in
    let same = declares_along (some_same s.trees_same (declarator_named w) (declarator_named w')) c c' in
    let r = one_ended one_before_end inner (flat_init x ++ parts_behind rest us) (parts_behind rest us) (parts_behind rest' vs) x x'
    (record { formed = i; nested = omega (arith, low); printed = refl; ended = parts_end_init rest us })
    (record { formed = subst (λ z. IsInit z x') (sym same) i'; nested = omega (arith, low'); printed = tails s.left_same; ended = parts_end_init rest' vs }) in
    let o = one_parts v (parts_moved same v') (omega (arith, low)) (omega (arith, low')) us vs r.1 in record {
      trees_same = ap (λ z. (z, Some x) ∷ rest) s.trees_same ∙ ap (λ z. (d', Some z) ∷ rest) r.0 ∙ ap (λ z. (d', Some x') ∷ z) o.trees_same;
      types_same = o.types_same;
      left_same = o.left_same;
    }

abbrev decl_of : List Specifier → List (Declarator × Option Init) → Decl
decl_of specs parts = record { specs = specs; parts = parts }

-- of two declarations at the front of the same signs one is the other
pub one_declared : {types behind after : List (List ℕ)} {d e : Decl} → Declared types d behind → Declared types e after → decl_height d ≤ 256 → decl_height e ≤ 256 → (us vs : List Sign) →
    flat_decl d ++ us ≡ flat_decl e ++ vs → Same d e behind after us vs
one_declared (declared types inner final seen spec specs parts w v) (declared types' inner' final' sort spec' specs' parts' w' v') low low' us vs q =
    let s = one_specs w w' (omega (arith, low)) (omega (arith, low')) (parts_front parts us) (parts_front parts' vs)
    (sym (flat_decl-before (spec ∷ specs) parts us) ∙ q ∙ flat_decl-before (spec' ∷ specs') parts' vs) (parts_end_specs us v) (parts_end_specs vs v') in
    let here = subst (λ z. Parts (spec ∷ specs) seen z parts' final') (sym s.types_same)
    (subst (λ z. Parts (spec ∷ specs) z inner' parts' final') (sym s.seen_same) (subst (λ z. Parts z sort inner' parts' final') (sym s.specs_same) v')) in
    let r = one_parts v here (omega (arith, low)) (omega (arith, low')) us vs (parts_again parts parts' us vs v here s.left_same) in record {
      trees_same = ap (λ z. decl_of z parts) s.specs_same ∙ ap (λ z. decl_of (spec' ∷ specs') z) r.trees_same;
      types_same = r.types_same;
      left_same = r.left_same;
    }

lone_again : {types behind : List (List ℕ)} {d : Decl} → Declared types d behind → semicolon ∷ [] ≡ flat_decl d → ⊥
lone_again (declared types inner final seen spec specs parts w v) q = no_word_first (some_specs_word _ (λ r. cc) w) (sym q)

one_piece : {types behind after : List (List ℕ)} {d e : Decl} → IsPiece types d behind → IsPiece types e after → decl_height d ≤ 256 → decl_height e ≤ 256 → flat_decl d ≡ flat_decl e → (d ≡ e) × (behind ≡ after)
one_piece (lone types) (lone types') low low' q = (refl, refl)
one_piece (lone types) (declaration types' final e v) low low' q = absurd (lone_again v q)
one_piece (declaration types final d w) (lone types') low low' q = absurd (lone_again w (sym q))
one_piece (declaration types final d w) (declaration types' final' e v) low low' q = let s = one_declared w v low low' [] [] (ap (λ z. z ++ []) q) in (s.trees_same, s.types_same)

pub one_declaration : (types behind after : List (List ℕ)) (d e : Decl) → IsDeclaration types d behind → IsDeclaration types e after → flat_decl d ≡ flat_decl e → (d ≡ e) × (behind ≡ after)
one_declaration types behind after d e w v q = one_piece w.formed v.formed w.nested v.nested q
