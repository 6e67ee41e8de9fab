-- How high what is read is, by its parts.
use Rattle.std.proofs.Common.{◌≡◌, ℕ, suc, max, ◌≤◌, List, ◌∷◌, map, ap, sym, ◌∙◌, refl, arith}
use Rattle.std.specs.Prelude.{None}
use Rattle.std.proofs.Math.Nat.{max-zero, zero-max, le-max_left}
use Rattle.po_tree.specs.declared.expression.Exp.{Exp}
use Rattle.po_tree.specs.declared.expression.Specifier.{Specifier}
use Rattle.po_tree.specs.declared.expression.Suffix.{Suffix}
use Rattle.po_exp_parts.specs.declared.found.Tail.{Tail}
use Rattle.po_exp_parts.specs.declared.found.Tail.TheVariants as t
use Rattle.po_tree.specs.Signs.{Sign}
use Rattle.po_tree.specs.Heights.{height, specifier_height, suffix_height, type_height, greatest}
use Rattle.po_tree.specs.Layers.{height-leaf, height-Str, height-Paren, height-Index, height-Call, height-Cond, height-Cast, height-SizeType, height-joined, height-prefixed, height-postfixed, height-selected, specifier_height-Word, specifier_height-Named, specifier_height-struct, specifier_height-enum, type_height-parts}
use Rattle.po_tree.specs.Expressions.{Typed, TypeSpecs, no_more_specs, qualifier, type_word, typedef_name, struct_tag, enum_tag}
use Rattle.po_exp_parts.specs.Continuing.{grow, tail_height}
use Rattle.po_exp_parts.specs.Reading.{Reads, begun, Operand, leaf, strings, paren, unary, size_of_type, cast, Climbs, stop, more}

-- an operand with what stands behind it is one higher than the higher of both
pub height-grow : (x : Exp) (tail : Tail) → height (grow x tail) ≡ suc (max (height x) (tail_height tail))
height-grow x (t.Joined o y) = height-joined o x y
height-grow x (t.Chosen y z) = height-Cond x y z
height-grow x (t.Indexed y) = height-Index x y
height-grow x (t.Called xs) = height-Call x xs
height-grow x (t.Selected s name) = height-selected s x name ∙ ap suc (sym (max-zero (height x)))
height-grow x (t.Stepped q) = height-postfixed q x ∙ ap suc (sym (max-zero (height x)))

-- an expression is not higher than one to which it goes on
pub climbs_rise : {types : List (List ℕ)} {l m : ℕ} {x y : Exp} {ts us : List Sign} → Climbs types l m x ts y us → height x ≤ height y
climbs_rise (stop l m x ts) = omega arith
climbs_rise (more l m c tail x y ts us vs used low before follows rest) =
    omega (arith, climbs_rise rest, height-grow x tail, le-max_left (height x) (tail_height tail))

-- a first operand is an expression, so it has the height 1 at least
pub operand_high : {types : List (List ℕ)} {ts us : List Sign} {m : ℕ} {x : Exp} → Operand types ts m x us → 1 ≤ height x
operand_high (leaf x sign ts is) = omega (arith, height-leaf is)
operand_high (strings text texts ts us all q) = omega (arith, height-Str (text ∷ texts))
operand_high (paren x ts us inside) = omega (arith, height-Paren x)
operand_high (unary p x ts us inside) = omega (arith, height-prefixed p x)
operand_high (size_of_type name ts us read) = omega (arith, height-SizeType name)
operand_high (cast name x ts us vs read inside) = omega (arith, height-Cast name x)

-- so has an expression
pub reads_high : {types : List (List ℕ)} {l : ℕ} {ts us : List Sign} {x : Exp} → Reads types l ts x us → 1 ≤ height x
reads_high (begun l m x y ts us vs low operand climbs) = omega (arith, operand_high operand, climbs_rise climbs)

both_none : {a b : ℕ} → a ≡ 0 → b ≡ 0 → max a b ≡ 0
both_none p q = rw (p, q) refl

-- the specifiers of a type name hold no expressions
pub specs_flat : {types : List (List ℕ)} {seen : Typed} {specs : List Specifier} → TypeSpecs types seen specs → greatest (map specifier_height specs) ≡ 0
specs_flat (no_more_specs seen) = refl
specs_flat (qualifier seen text rest is further_specs) = both_none (specifier_height-Word text) (specs_flat further_specs)
specs_flat (type_word seen text rest is takes further_specs) = both_none (specifier_height-Word text) (specs_flat further_specs)
specs_flat (typedef_name name rest is known further_specs) = both_none (specifier_height-Named name) (specs_flat further_specs)
specs_flat (struct_tag tag rest is further_specs) = both_none (specifier_height-struct tag) (specs_flat further_specs)
specs_flat (enum_tag tag rest is further_specs) = both_none (specifier_height-enum tag) (specs_flat further_specs)

-- a type name is as high as the sizes of its arrays
pub type_height-suffix : {types : List (List ℕ)} {seen : Typed} {specs : List Specifier} (stars : List (List (List ℕ))) (suffix : Suffix) → TypeSpecs types seen specs →
    type_height (record { specs = specs; declarator = record { stars = stars; name = None; suffix = suffix } }) ≡ suffix_height suffix
type_height-suffix stars suffix w = type_height-parts _ stars suffix ∙ ap (λ n. max n (suffix_height suffix)) (specs_flat w) ∙ zero-max (suffix_height suffix)
