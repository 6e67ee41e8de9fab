-- Well-formedness asks only which names are in force, and not in which order they stand in the list, or how often.
use Rattle.std.proofs.Common.{ℕ, Bool, List, ◌∷◌, inl, inr, arith}
use Rattle.std.specs.Prelude.{Contains, Option}
use Rattle.po_tree.specs.declared.expression.Exp.{Exp}
use Rattle.po_tree.specs.declared.expression.Specifier.{Specifier}
use Rattle.po_tree.specs.declared.expression.Suffix.{Suffix}
use Rattle.po_tree.specs.declared.expression.Declarator.{Declarator}
use Rattle.po_tree.specs.declared.expression.Member.{Member}
use Rattle.po_tree.specs.declared.expression.Param.{Param}
use Rattle.po_tree.specs.declared.expression.TypeName.{TypeName}
use Rattle.po_tree.specs.declared.declaration.Init.{Init}
use Rattle.po_tree.specs.declared.declaration.Decl.{Decl}
use Rattle.po_tree.specs.declared.statement.First.{First}
use Rattle.po_tree.specs.declared.statement.Stmt.{Stmt}
use Rattle.po_tree.specs.declared.function.FunTree.{FunTree}
use Rattle.po_tree.specs.Signs.{Sign}
use Rattle.po_tree.specs.NameSets.{AreSame}
use Rattle.po_tree.specs.Expressions as ex
use Rattle.po_tree.specs.Expressions.{Typed, IsLeaf, TypeSpecs, Formed, AllFormed, TypeFormed, SuffixFormed, SizesFormed, IsExpression}
use Rattle.po_tree.specs.Declarations as de
use Rattle.po_tree.specs.Declarations.{without, IsDeclared, Specs, Enumerators, Members, AllDeclarators, IsDeclarator, IsSuffix, Params, IsParameter, IsInit, AllInits, Declares, Parts, Declared, IsPiece, IsDeclaration}
use Rattle.po_tree.specs.Statements as st
use Rattle.po_tree.specs.Statements.{IsOptional, IsFirst, IsStatement, AreItems, IsFunction, IsDefinition}
use Rattle.po_tree.proofs.Sets.{first_or_later, is_later}
use Rattle.po_tree.proofs.Threaded.{without_to, without_from}

-- the same names but one, and with one more
same_without : (a b : List (List ℕ)) (name : List ℕ) → AreSame a b → AreSame (without name a) (without name b)
same_without a b name s x = (
  λ c. let h = without_to name a x c in without_from name b x ((s x).0 h.0) h.1,
  λ c. let h = without_to name b x c in without_from name a x ((s x).1 h.0) h.1,
)

one_more : (a b : List (List ℕ)) (name : List ℕ) → ((x : List ℕ) → Contains a x → Contains b x) → (x : List ℕ) → Contains (name ∷ a) x → Contains (name ∷ b) x
one_more a b name f x c = elim (first_or_later name a x c) [ inl q ↦ (0, omega arith, q) | inr r ↦ is_later name b x (f x r) ]

same_with : (a b : List (List ℕ)) (name : List ℕ) → AreSame a b → AreSame (name ∷ a) (name ∷ b)
same_with a b name s x = (one_more a b name (λ y. (s y).0) x, one_more b a name (λ y. (s y).1) x)

-- expressions

leaf : {a b : List (List ℕ)} {x : Exp} {sign : Sign} → AreSame a b → IsLeaf a x sign → IsLeaf b x sign
leaf s (ex.variable name is none) = ex.variable name is (λ c. none ((s name).1 c))
leaf s (ex.integer text is) = ex.integer text is
leaf s (ex.one_character text is) = ex.one_character text is

type_specs : {a b : List (List ℕ)} {seen : Typed} {specs : List Specifier} → AreSame a b → TypeSpecs a seen specs → TypeSpecs b seen specs
type_specs s (ex.no_more_specs seen) = ex.no_more_specs seen
type_specs s (ex.qualifier seen text rest c w) = ex.qualifier seen text rest c (type_specs s w)
type_specs s (ex.type_word seen text rest c t w) = ex.type_word seen text rest c t (type_specs s w)
type_specs s (ex.typedef_name name rest is c w) = ex.typedef_name name rest is ((s name).0 c) (type_specs s w)
type_specs s (ex.struct_tag tag rest is w) = ex.struct_tag tag rest is (type_specs s w)
type_specs s (ex.enum_tag tag rest is w) = ex.enum_tag tag rest is (type_specs s w)

mutual
  formed : {a b : List (List ℕ)} {m : ℕ} {x : Exp} → AreSame a b → Formed a m x → Formed b m x
  formed s (ex.leaf x sign w) = ex.leaf x sign (leaf s w)
  formed s (ex.strings text texts w) = ex.strings text texts w
  formed s (ex.paren m x w) = ex.paren m x (formed s w)
  formed s (ex.index m x y v w) = ex.index m x y (formed s v) (formed s w)
  formed s (ex.call x xs v w) = ex.call x xs (formed s v) (all_formed s w)
  formed s (ex.member o x name is w) = ex.member o x name is (formed s w)
  formed s (ex.stepped q x w) = ex.stepped q x (formed s w)
  formed s (ex.unary p m x low w) = ex.unary p m x low (formed s w)
  formed s (ex.size_of_type t w) = ex.size_of_type t (type_formed s w)
  formed s (ex.cast m t x low v w) = ex.cast m t x low (type_formed s v) (formed s w)
  formed s (ex.binary o m k x y is low high v w) = ex.binary o m k x y is low high (formed s v) (formed s w)
  formed s (ex.conditional m n k x y z low high u v w) = ex.conditional m n k x y z low high (formed s u) (formed s v) (formed s w)

  all_formed : {a b : List (List ℕ)} {xs : List Exp} → AreSame a b → AllFormed a xs → AllFormed b xs
  all_formed s ex.no_more = ex.no_more
  all_formed s (ex.one_more m x xs low v w) = ex.one_more m x xs low (formed s v) (all_formed s w)

  type_formed : {a b : List (List ℕ)} {t : TypeName} → AreSame a b → TypeFormed a t → TypeFormed b t
  type_formed s (ex.type_name spec specs stars suffix v are w) = ex.type_name spec specs stars suffix (type_specs s v) are (suffix_formed s w)

  suffix_formed : {a b : List (List ℕ)} {suffix : Suffix} → AreSame a b → SuffixFormed a suffix → SuffixFormed b suffix
  suffix_formed s ex.plain = ex.plain
  suffix_formed s (ex.arrays size sizes w) = ex.arrays size sizes (sizes_formed s w)

  sizes_formed : {a b : List (List ℕ)} {sizes : List (Option Exp)} → AreSame a b → SizesFormed a sizes → SizesFormed b sizes
  sizes_formed s ex.no_more_sizes = ex.no_more_sizes
  sizes_formed s (ex.no_size sizes w) = ex.no_size sizes (sizes_formed s w)
  sizes_formed s (ex.one_size m x sizes low v w) = ex.one_size m x sizes low (formed s v) (sizes_formed s w)

pub expression_same : (a b : List (List ℕ)) → AreSame a b → (x : Exp) → IsExpression a x → IsExpression b x
expression_same a b s x is = record { level_of = is.level_of; formed = formed s is.formed; nested = is.nested }

-- declarations, with the same names behind them

declared_word : (a b : List (List ℕ)) (seen : Typed) (name : List ℕ) → AreSame a b → IsDeclared a seen name → IsDeclared b seen name
declared_word a b seen name s (is, typed) = (is, λ c. typed ((s name).1 c))

mutual
  specs_same : {outer free : Bool} {a a' : List (List ℕ)} {seen seen' : Typed} {specs : List Specifier} (b : List (List ℕ)) → AreSame a b → Specs outer free a seen specs a' seen' →
      (b' : List (List ℕ)) × Specs outer free b seen specs b' seen' × AreSame a' b'
  specs_same b s (de.no_more_specs outer free types seen) = (b, de.no_more_specs outer free b seen, s)
  specs_same b s (de.storage_class outer types types' seen seen' text rest c w) =
      let h = specs_same b s w in (h.0, de.storage_class outer b h.0 seen seen' text rest c h.1, h.2)
  specs_same b s (de.inline_word outer free types types' seen seen' rest is w) =
      let h = specs_same b s w in (h.0, de.inline_word outer free b h.0 seen seen' rest is h.1, h.2)
  specs_same b s (de.qualifier outer free types types' seen seen' text rest c w) =
      let h = specs_same b s w in (h.0, de.qualifier outer free b h.0 seen seen' text rest c h.1, h.2)
  specs_same b s (de.type_word outer free types types' seen seen' text rest c t w) =
      let h = specs_same b s w in (h.0, de.type_word outer free b h.0 seen seen' text rest c t h.1, h.2)
  specs_same b s (de.typedef_name outer free types types' seen' name rest is c w) =
      let h = specs_same b s w in (h.0, de.typedef_name outer free b h.0 seen' name rest is ((s name).0 c) h.1, h.2)
  specs_same b s (de.struct_tag outer free types types' seen' tag rest is w) =
      let h = specs_same b s w in (h.0, de.struct_tag outer free b h.0 seen' tag rest is h.1, h.2)
  specs_same b s (de.struct_body outer free types inner types' seen' tag m ms rest is inside w) =
      let k = members_same b s inside in
      let h = specs_same k.0 k.2 w in (h.0, de.struct_body outer free b k.0 h.0 seen' tag m ms rest is k.1 h.1, h.2)
  specs_same b s (de.enum_tag outer free types types' seen' tag rest is w) =
      let h = specs_same b s w in (h.0, de.enum_tag outer free b h.0 seen' tag rest is h.1, h.2)
  specs_same b s (de.enum_body outer free more types inner types' seen' tag item items rest is inside w) =
      let k = items_same b s inside in
      let h = specs_same k.0 k.2 w in (h.0, de.enum_body outer free more b k.0 h.0 seen' tag item items rest is k.1 h.1, h.2)

  items_same : {a a' : List (List ℕ)} {items : List (List ℕ × Option Exp)} (b : List (List ℕ)) → AreSame a b → Enumerators a items a' →
      (b' : List (List ℕ)) × Enumerators b items b' × AreSame a' b'
  items_same b s (de.no_more_items types) = (b, de.no_more_items b, s)
  items_same b s (de.item types types' name rest is w) =
      let h = items_same (without name b) (same_without types b name s) w in (h.0, de.item b h.0 name rest is h.1, h.2)
  items_same b s (de.valued_item m types types' name value rest is low v w) =
      let h = items_same (without name b) (same_without types b name s) w in (h.0, de.valued_item m b h.0 name value rest is low (formed s v) h.1, h.2)

  members_same : {a a' : List (List ℕ)} {ms : List Member} (b : List (List ℕ)) → AreSame a b → Members a ms a' →
      (b' : List (List ℕ)) × Members b ms b' × AreSame a' b'
  members_same b s (de.no_more_members types) = (b, de.no_more_members b, s)
  members_same b s (de.members types inner types' seen m rest some specs some' ds w) =
      let k = specs_same b s specs in
      let h = members_same k.0 k.2 w in (h.0, de.members b k.0 h.0 seen m rest some k.1 some' (declarators_same k.0 k.2 ds) h.1, h.2)

  declarators_same : {a : List (List ℕ)} {seen : Typed} {ds : List Declarator} (b : List (List ℕ)) → AreSame a b → AllDeclarators a seen ds → AllDeclarators b seen ds
  declarators_same b s (de.no_more_declarators types seen) = de.no_more_declarators b seen
  declarators_same b s (de.one_more_declarator types seen name inner d rest is w) =
      let k = declarator_same b s is in de.one_more_declarator b seen name k.0 d rest k.1 (declarators_same b s w)

  declarator_same : {a a' : List (List ℕ)} {seen : Typed} {name : List ℕ} {d : Declarator} (b : List (List ℕ)) → AreSame a b → IsDeclarator a seen name d a' →
      (b' : List (List ℕ)) × IsDeclarator b seen name d b' × AreSame a' b'
  declarator_same b s (de.declarator types seen name stars suffix inner is are w) =
      let k = suffix_same b s w in (k.0, de.declarator b seen name stars suffix k.0 (declared_word types b seen name s is) are k.1, k.2)

  suffix_same : {a a' : List (List ℕ)} {suffix : Suffix} (b : List (List ℕ)) → AreSame a b → IsSuffix a suffix a' → (b' : List (List ℕ)) × IsSuffix b suffix b' × AreSame a' b'
  suffix_same b s (de.no_parameters types suffix w) = (b, de.no_parameters b suffix (suffix_formed s w), s)
  suffix_same b s (de.parameters types params inner w) = let k = params_same b s w in (k.0, de.parameters b params k.0 k.1, k.2)
  suffix_same b s (de.more_parameters types x xs inner w) = let k = params_same b s w in (k.0, de.more_parameters b x xs k.0 k.1, k.2)

  params_same : {a a' : List (List ℕ)} {params : List Param} (b : List (List ℕ)) → AreSame a b → Params a params a' → (b' : List (List ℕ)) × Params b params b' × AreSame a' b'
  params_same b s (de.no_more_params types) = (b, de.no_more_params b, s)
  params_same b s (de.one_more_param types own inner types' seen x rest some specs is w) =
      let k = specs_same b s specs in
      let j = parameter_same k.0 k.2 is in
      let h = params_same j.0 j.2 w in (h.0, de.one_more_param b k.0 j.0 h.0 seen x rest some k.1 j.1 h.1, h.2)

  parameter_same : {a a' : List (List ℕ)} {seen : Typed} {d : Declarator} (b : List (List ℕ)) → AreSame a b → IsParameter a seen d a' →
      (b' : List (List ℕ)) × IsParameter b seen d b' × AreSame a' b'
  parameter_same b s (de.named types seen name d inner is) =
      let k = declarator_same b s is in (without name b, de.named b seen name d k.0 k.1, same_without types b name s)
  parameter_same b s (de.unnamed types seen stars suffix inner are w) =
      let k = suffix_same b s w in (b, de.unnamed b seen stars suffix k.0 are k.1, s)

mutual
  init_same : {a b : List (List ℕ)} {x : Init} → AreSame a b → IsInit a x → IsInit b x
  init_same s (de.one m x low w) = de.one m x low (formed s w)
  init_same s (de.many x xs more w) = de.many x xs more (inits_same s w)

  inits_same : {a b : List (List ℕ)} {xs : List Init} → AreSame a b → AllInits a xs → AllInits b xs
  inits_same s de.no_more_inits = de.no_more_inits
  inits_same s (de.one_more_init x xs v w) = de.one_more_init x xs (init_same s v) (inits_same s w)

word_same : {specs : List Specifier} {name : List ℕ} {a a' : List (List ℕ)} (b : List (List ℕ)) → AreSame a b → Declares specs name a a' →
    (b' : List (List ℕ)) × Declares specs name b b' × AreSame a' b'
word_same {name = name} {a = a} b s (de.new_type is) = (name ∷ b, de.new_type is, same_with a b name s)
word_same {name = name} {a = a} b s (de.other no_type) = (without name b, de.other no_type, same_without a b name s)

parts_same : {specs : List Specifier} {seen : Typed} {a a' : List (List ℕ)} {parts : List (Declarator × Option Init)} (b : List (List ℕ)) → AreSame a b → Parts specs seen a parts a' →
    (b' : List (List ℕ)) × Parts specs seen b parts b' × AreSame a' b'
parts_same b s (de.no_more_parts types) = (b, de.no_more_parts b, s)
parts_same b s (de.part types params inner types' name d rest is declares w) =
    let k = declarator_same b s is in
    let j = word_same b s declares in
    let h = parts_same j.0 j.2 w in (h.0, de.part b k.0 j.0 h.0 name d rest k.1 j.1 h.1, h.2)
parts_same b s (de.initialised types params inner types' name d x rest is declares v w) =
    let k = declarator_same b s is in
    let j = word_same b s declares in
    let h = parts_same j.0 j.2 w in (h.0, de.initialised b k.0 j.0 h.0 name d x rest k.1 j.1 (init_same j.2 v) h.1, h.2)

declared_same : {a a' : List (List ℕ)} {d : Decl} (b : List (List ℕ)) → AreSame a b → Declared a d a' → (b' : List (List ℕ)) × Declared b d b' × AreSame a' b'
declared_same b s (de.declared types inner types' seen spec specs parts v w) =
    let k = specs_same b s v in
    let h = parts_same k.0 k.2 w in (h.0, de.declared b k.0 h.0 seen spec specs parts k.1 h.1, h.2)

piece_same : {a a' : List (List ℕ)} {d : Decl} (b : List (List ℕ)) → AreSame a b → IsPiece a d a' → (b' : List (List ℕ)) × IsPiece b d b' × AreSame a' b'
piece_same b s (de.lone types) = (b, de.lone b, s)
piece_same b s (de.declaration types types' d w) = let h = declared_same b s w in (h.0, de.declaration b h.0 d h.1, h.2)

pub declaration_same : (a b : List (List ℕ)) → AreSame a b → (d : Decl) (a' : List (List ℕ)) → IsDeclaration a d a' → (b' : List (List ℕ)) × IsDeclaration b d b' × AreSame a' b'
declaration_same a b s d a' is = let h = piece_same b s is.formed in (h.0, record { formed = h.1; nested = is.nested }, h.2)

-- definitions

optional_same : {a b : List (List ℕ)} {x : Option Exp} → AreSame a b → IsOptional a x → IsOptional b x
optional_same s st.missing = st.missing
optional_same s (st.there m x w) = st.there m x (formed s w)

first_same : {a a' : List (List ℕ)} {f : First} (b : List (List ℕ)) → AreSame a b → IsFirst a f a' → (b' : List (List ℕ)) × IsFirst b f b' × AreSame a' b'
first_same b s st.nothing = (b, st.nothing, s)
first_same b s (st.value m x w) = (b, st.value m x (formed s w), s)
first_same b s (st.variables d types' w) = let h = declared_same b s w in (h.0, st.variables d h.0 h.1, h.2)

mutual
  statement_same : {a : List (List ℕ)} {x : Stmt} (b : List (List ℕ)) → AreSame a b → IsStatement a x → IsStatement b x
  statement_same b s (st.block types xs w) = st.block b xs (all_same b s w)
  statement_same b s (st.expression types m x w) = st.expression b m x (formed s w)
  statement_same b s (st.empty types) = st.empty b
  statement_same b s (st.if_alone types m x y v w) = st.if_alone b m x y (formed s v) (statement_same b s w)
  statement_same b s (st.if_else types m x y z u v ends w) = st.if_else b m x y z (formed s u) (statement_same b s v) ends (statement_same b s w)
  statement_same b s (st.while types m x y v w) = st.while b m x y (formed s v) (statement_same b s w)
  statement_same b s (st.do_while types m x y v w) = st.do_while b m x y (statement_same b s v) (formed s w)
  statement_same b s (st.for_each types inner first test step y u v w z) =
      let h = first_same b s u in st.for_each b h.0 first test step y h.1 (optional_same h.2 v) (optional_same h.2 w) (statement_same h.0 h.2 z)
  statement_same b s (st.switch types m x y v w) = st.switch b m x y (formed s v) (statement_same b s w)
  statement_same b s (st.case types m x y low v w) = st.case b m x y low (formed s v) (statement_same b s w)
  statement_same b s (st.default types y w) = st.default b y (statement_same b s w)
  statement_same b s (st.label types name y is w) = st.label b name y is (statement_same b s w)
  statement_same b s (st.goto types name is) = st.goto b name is
  statement_same b s (st.break types) = st.break b
  statement_same b s (st.continue types) = st.continue b
  statement_same b s (st.return types x w) = st.return b x (optional_same s w)

  all_same : {a : List (List ℕ)} {xs : List Stmt} (b : List (List ℕ)) → AreSame a b → AreItems a xs → AreItems b xs
  all_same b s (st.no_more_items types) = st.no_more_items b
  all_same b s (st.statement types y rest v w) = st.statement b y rest (statement_same b s v) (all_same b s w)
  all_same b s (st.declaration types types' d rest v w) = let h = declared_same b s v in st.declaration b h.0 d rest h.1 (all_same h.0 h.2 w)

function_same : {a : List (List ℕ)} {g : FunTree} (b : List (List ℕ)) → AreSame a b → IsFunction a g → IsFunction b g
function_same b s (st.function own inner seen spec specs name stars params more body marks names v is w) =
    let k = specs_same b s v in
    let h = declarator_same k.0 k.2 is in
    st.function k.0 h.0 seen spec specs name stars params more body marks names k.1 h.1 (all_same (without name h.0) (same_without inner h.0 name h.2) w)

pub definition_same : (a b : List (List ℕ)) → AreSame a b → (g : FunTree) → IsDefinition a g → IsDefinition b g
definition_same a b s g is = record { formed = function_same b s is.formed; nested = is.nested; deep = is.deep; marked = is.marked }
