-- What is read leaves fewer signs behind it.
use Rattle.std.proofs.Common.{ℕ, ◌<◌, ◌≤◌, List, map, length, length-append, ap, arith, Option}
use Rattle.po_tree.specs.declared.expression.Exp.{Exp}
use Rattle.po_tree.specs.declared.expression.TypeName.{TypeName}
use Rattle.po_tree.specs.declared.expression.Specifier.{Specifier}
use Rattle.po_tree.specs.declared.expression.Suffix.{Suffix}
use Rattle.po_exp_parts.specs.declared.continuation.Continuation.{Continuation}
use Rattle.po_exp_parts.specs.declared.found.Tail.{Tail}
use Rattle.po_tree.specs.Signs.{Sign, string}
use Rattle.po_tree.specs.Expressions.{Typed}
use Rattle.po_exp_parts.specs.Stars.{QualifiersRead, no_qualifier, one_qualifier, StarsRead, no_star, one_star}
use Rattle.po_exp_parts.specs.TypeWords.{SpecsRead, specs_end, qualifier, type_word, typedef_name, struct_tag, enum_tag}
use Rattle.po_exp_parts.specs.Reading.{Reads, begun, Operand, leaf, strings, paren, unary, size_of_type, cast, Climbs, stop, more, Follows, joined, chosen, indexed, called, selected, stepped, Arguments, no_arguments, arguments, Items, last, further, TypeRead, type_read, SuffixRead, plain, arrays, SizesRead, sizes_end, no_size, one_size}

specs_shorten : {types : List (List ℕ)} {seen : Typed} {ts us : List Sign} {specs : List Specifier} → SpecsRead types seen ts specs us → length us ≤ length ts
specs_shorten (specs_end seen ts none) = omega arith
specs_shorten (qualifier seen text rest ts us h w) = omega (arith, specs_shorten w)
specs_shorten (type_word seen text rest ts us h g w) = omega (arith, specs_shorten w)
specs_shorten (typedef_name name rest ts us h g w) = omega (arith, specs_shorten w)
specs_shorten (struct_tag tag rest ts us h w) = omega (arith, specs_shorten w)
specs_shorten (enum_tag tag rest ts us h w) = omega (arith, specs_shorten w)

words_shorten : {ts us : List Sign} {words : List (List ℕ)} → QualifiersRead ts words us → length us ≤ length ts
words_shorten (no_qualifier ts none) = omega arith
words_shorten (one_qualifier text rest ts us h w) = omega (arith, words_shorten w)

stars_shorten : {ts us : List Sign} {stars : List (List (List ℕ))} → StarsRead ts stars us → length us ≤ length ts
stars_shorten (no_star ts none) = omega arith
stars_shorten (one_star words stars ts us vs w v) = omega (arith, words_shorten w, stars_shorten v)

mutual
  -- an expression is one sign at least
  pub reads_shorten : {types : List (List ℕ)} {l : ℕ} {ts us : List Sign} {x : Exp} → Reads types l ts x us → length us < length ts
  reads_shorten (begun l m x y ts us vs h w v) = omega (arith, operand_shorten w, climbs_shorten v)

  -- and so is its first operand
  pub operand_shorten : {types : List (List ℕ)} {m : ℕ} {ts us : List Sign} {x : Exp} → Operand types ts m x us → length us < length ts
  operand_shorten (leaf x sign ts w) = omega arith
  operand_shorten (strings text texts ts us all w) = omega (arith, ap length w, length-append (map string texts) us)
  operand_shorten (paren x ts us w) = omega (arith, reads_shorten w)
  operand_shorten (unary p x ts us w) = omega (arith, reads_shorten w)
  operand_shorten (size_of_type t ts us w) = omega (arith, type_shorten w)
  operand_shorten (cast t x ts us vs w v) = omega (arith, type_shorten w, reads_shorten v)

  -- what goes on leaves no more
  pub climbs_shorten : {types : List (List ℕ)} {l m : ℕ} {x y : Exp} {ts us : List Sign} → Climbs types l m x ts y us → length us ≤ length ts
  climbs_shorten (stop l m x ts) = omega arith
  climbs_shorten (more l m a t x y ts us vs used low high w v) = omega (arith, follows_shorten w, climbs_shorten v)

  -- nor does what stands behind the token that goes on
  pub follows_shorten : {types : List (List ℕ)} {a : Continuation} {ts us : List Sign} {t : Tail} → Follows types a ts t us → length us ≤ length ts
  follows_shorten (joined o y ts us w) = omega (arith, reads_shorten w)
  follows_shorten (chosen y z ts us vs w v) = omega (arith, reads_shorten w, reads_shorten v)
  follows_shorten (indexed y ts us w) = omega (arith, reads_shorten w)
  follows_shorten (called xs ts us w) = omega (arith, arguments_shorten w)
  follows_shorten (selected s name ts w) = omega arith
  follows_shorten (stepped q ts) = omega arith

  -- the arguments of a call are one sign at least
  pub arguments_shorten : {types : List (List ℕ)} {ts us : List Sign} {xs : List Exp} → Arguments types ts xs us → length us < length ts
  arguments_shorten (no_arguments ts) = omega arith
  arguments_shorten (arguments xs ts us w) = omega (arith, items_shorten w)

  -- and so are further ones
  pub items_shorten : {types : List (List ℕ)} {ts us : List Sign} {xs : List Exp} → Items types ts xs us → length us < length ts
  items_shorten (last x ts us w) = omega (arith, reads_shorten w)
  items_shorten (further x xs ts us vs w v) = omega (arith, reads_shorten w, items_shorten v)

  -- a type name leaves no more
  pub type_shorten : {types : List (List ℕ)} {ts us : List Sign} {t : TypeName} → TypeRead types ts t us → length us ≤ length ts
  type_shorten (type_read spec specs stars suffix ts us vs ws w v u) = omega (arith, specs_shorten w, stars_shorten v, suffix_shorten u)

  suffix_shorten : {types : List (List ℕ)} {ts us : List Sign} {suffix : Suffix} → SuffixRead types ts suffix us → length us ≤ length ts
  suffix_shorten (plain ts none) = omega arith
  suffix_shorten (arrays size sizes ts us w) = omega (arith, sizes_shorten w)

  sizes_shorten : {types : List (List ℕ)} {ts us : List Sign} {sizes : List (Option Exp)} → SizesRead types ts sizes us → length us ≤ length ts
  sizes_shorten (sizes_end ts none) = omega arith
  sizes_shorten (no_size sizes ts us w) = omega (arith, sizes_shorten w)
  sizes_shorten (one_size x sizes ts us vs w v) = omega (arith, reads_shorten w, sizes_shorten v)
