-- Initialisers under the same typedef names, in whatever order and however often these stand in the list.
use Rattle.std.proofs.Common.{ℕ, List}
use Rattle.std.specs.Prelude.{Option}
use Rattle.po_tree.specs.declared.expression.Exp.{Exp}
use Rattle.po_tree.specs.declared.expression.Specifier.{Specifier}
use Rattle.po_tree.specs.declared.expression.Suffix.{Suffix}
use Rattle.po_tree.specs.declared.expression.TypeName.{TypeName}
use Rattle.po_tree.specs.NameSets.{AreSame}
use Rattle.po_tree.specs.Expressions as ex
use Rattle.po_tree.specs.Expressions.{Typed, IsLeaf, TypeSpecs, Formed, AllFormed, TypeFormed, SuffixFormed, SizesFormed}
use Rattle.po_tree.specs.declared.declaration.Init.{Init}
use Rattle.po_tree.specs.Declarations.{IsInit, AllInits}
use Rattle.po_tree.specs.Declarations as de
use Rattle.po_tree.specs.Signs.{Sign}
use Rattle.po_init_read.specs.Initialisers.{StandsEnded}

leaf : {a b : List (List ℕ)} {x : Exp} {sign : Sign} → AreSame a b → IsLeaf a x sign → IsLeaf b x sign
leaf s (ex.variable name is none) = ex.variable name is (λ c. none ((s name).1 c))
leaf s (ex.integer text is) = ex.integer text is
leaf s (ex.one_character text is) = ex.one_character text is

type_specs : {a b : List (List ℕ)} {seen : Typed} {specs : List Specifier} → AreSame a b → TypeSpecs a seen specs → TypeSpecs b seen specs
type_specs s (ex.no_more_specs seen) = ex.no_more_specs seen
type_specs s (ex.qualifier seen text rest c w) = ex.qualifier seen text rest c (type_specs s w)
type_specs s (ex.type_word seen text rest c t w) = ex.type_word seen text rest c t (type_specs s w)
type_specs s (ex.typedef_name name rest is c w) = ex.typedef_name name rest is ((s name).0 c) (type_specs s w)
type_specs s (ex.struct_tag tag rest is w) = ex.struct_tag tag rest is (type_specs s w)
type_specs s (ex.enum_tag tag rest is w) = ex.enum_tag tag rest is (type_specs s w)

mutual
  formed : {a b : List (List ℕ)} {m : ℕ} {x : Exp} → AreSame a b → Formed a m x → Formed b m x
  formed s (ex.leaf x sign w) = ex.leaf x sign (leaf s w)
  formed s (ex.strings text texts w) = ex.strings text texts w
  formed s (ex.paren m x w) = ex.paren m x (formed s w)
  formed s (ex.index m x y v w) = ex.index m x y (formed s v) (formed s w)
  formed s (ex.call x xs v w) = ex.call x xs (formed s v) (all_formed s w)
  formed s (ex.member o x name is w) = ex.member o x name is (formed s w)
  formed s (ex.stepped q x w) = ex.stepped q x (formed s w)
  formed s (ex.unary p m x low w) = ex.unary p m x low (formed s w)
  formed s (ex.size_of_type t w) = ex.size_of_type t (type_formed s w)
  formed s (ex.cast m t x low v w) = ex.cast m t x low (type_formed s v) (formed s w)
  formed s (ex.binary o m k x y is low high v w) = ex.binary o m k x y is low high (formed s v) (formed s w)
  formed s (ex.conditional m n k x y z low high u v w) = ex.conditional m n k x y z low high (formed s u) (formed s v) (formed s w)

  all_formed : {a b : List (List ℕ)} {xs : List Exp} → AreSame a b → AllFormed a xs → AllFormed b xs
  all_formed s ex.no_more = ex.no_more
  all_formed s (ex.one_more m x xs low v w) = ex.one_more m x xs low (formed s v) (all_formed s w)

  type_formed : {a b : List (List ℕ)} {t : TypeName} → AreSame a b → TypeFormed a t → TypeFormed b t
  type_formed s (ex.type_name spec specs stars suffix v are w) = ex.type_name spec specs stars suffix (type_specs s v) are (suffix_formed s w)

  suffix_formed : {a b : List (List ℕ)} {suffix : Suffix} → AreSame a b → SuffixFormed a suffix → SuffixFormed b suffix
  suffix_formed s ex.plain = ex.plain
  suffix_formed s (ex.arrays size sizes w) = ex.arrays size sizes (sizes_formed s w)

  sizes_formed : {a b : List (List ℕ)} {sizes : List (Option Exp)} → AreSame a b → SizesFormed a sizes → SizesFormed b sizes
  sizes_formed s ex.no_more_sizes = ex.no_more_sizes
  sizes_formed s (ex.no_size sizes w) = ex.no_size sizes (sizes_formed s w)
  sizes_formed s (ex.one_size m x sizes low v w) = ex.one_size m x sizes low (formed s v) (sizes_formed s w)

mutual
  init_same : {a b : List (List ℕ)} {x : Init} → AreSame a b → IsInit a x → IsInit b x
  init_same s (de.one m x low w) = de.one m x low (formed s w)
  init_same s (de.many x xs more w) = de.many x xs more (inits_same s w)

  inits_same : {a b : List (List ℕ)} {xs : List Init} → AreSame a b → AllInits a xs → AllInits b xs
  inits_same s de.no_more_inits = de.no_more_inits
  inits_same s (de.one_more_init x xs v w) = de.one_more_init x xs (init_same s v) (inits_same s w)

-- what stands before an end stands there under the same names
pub ended_same : (a b : List (List ℕ)) {signs left : List Sign} {x : Init} → AreSame a b → StandsEnded a signs x left → StandsEnded b signs x left
ended_same a b s w = record { formed = init_same s w.formed; nested = w.nested; printed = w.printed; ended = w.ended }
