-- What the reader has read of a declaration, and what goes on to a whole one behind it. What is still wanted of each open level is taken
-- whole: the rest of its specifiers, of its declarators, of its members or parameters.
use Rattle.std.specs.Prelude.{ℕ, ◌≡◌, ◌≢◌, ◌≤◌, ◌⊎◌, ◌↔◌, Bool, true, false, cond, IsTrue, List, [], ◌∷◌, ◌++◌, map, flat_map, Option, Some, None}
use Rattle.po_tree.specs.declared.expression.Specifier.{Specifier}
use Rattle.po_tree.specs.declared.expression.Specifier.TheVariants as sp
use Rattle.po_tree.specs.declared.expression.Suffix.TheVariants as su
use Rattle.po_tree.specs.declared.expression.Declarator.{Declarator}
use Rattle.po_tree.specs.declared.expression.Member.{Member, roll-Member}
use Rattle.po_tree.specs.declared.expression.Param.{Param, roll-Param}
use Rattle.po_tree.specs.declared.declaration.Init.{Init}
use Rattle.po_tree.specs.declared.declaration.Decl.{Decl}
use Rattle.po_tree.specs.Signs.{Sign, closing, brace_end, comma, semicolon, equals, dots}
use Rattle.po_tree.specs.Printing.{flat_specifier, flat_declarator, flat_init, flat_part, after_commas, optional}
use Rattle.po_tree.specs.Heights.{declarator_height, init_height, part_height, greatest, or_none}
use Rattle.po_tree.specs.Expressions.{Typed, by_name}
use Rattle.po_tree.specs.Declarations.{without, IsDeclared, AreStars, Specs, Members, AllDeclarators, IsSuffix, Params, IsInit, IsTypedef, Parts}
use Rattle.po_exp_parts.specs.Seen.{typed}
use Rattle.po_decl_laws.specs.Parts.{specs_height, flat_member, member_height, flat_param, param_height}
use Rattle.po_decl_steps.specs.declared.levels.Owner.{Owner}
use Rattle.po_decl_steps.specs.declared.levels.Owner.TheVariants as owner
use Rattle.po_decl_steps.specs.declared.levels.Level.{Level}
use Rattle.po_decl_steps.specs.declared.levels.Focus.{Focus}
use Rattle.po_decl_steps.specs.declared.levels.Focus.TheVariants as focus

-- Each record says that such parts stand at the front, and that what is left goes on behind them, with the parts from before.

pub record SpecsThen (Then : List Specifier → Typed → List (List ℕ) → List Sign → Type 0)
    (outer free : Bool) (types : List (List ℕ)) (seen : Typed) (before : List Specifier) (ts : List Sign) : Type 0 where
  pub rest : List Specifier
  pub inner : List (List ℕ)
  pub sort : Typed
  pub us : List Sign
  pub formed : Specs outer free types seen rest inner sort
  pub low : specs_height rest ≤ 256
  pub printed : ts ≡ flat_map flat_specifier rest ++ us
  pub goes_on : Then (before ++ rest) sort inner us

pub record DeclaratorThen (Fits : Declarator → Type 0) (Then : Declarator → List Sign → Type 0) (ts : List Sign) : Type 0 where
  pub item : Declarator
  pub us : List Sign
  pub fits : Fits item
  pub low : declarator_height item ≤ 256
  pub printed : ts ≡ flat_declarator item ++ us
  pub goes_on : Then item us

-- the further declarators of members, each behind a comma, and their semicolon (6.7.2.1)
pub record DeclaratorsThen (Then : List Declarator → List Sign → Type 0) (types : List (List ℕ)) (seen : Typed) (before : List Declarator) (ts : List Sign) : Type 0 where
  pub rest : List Declarator
  pub us : List Sign
  pub formed : AllDeclarators types seen rest
  pub low : greatest (map declarator_height rest) ≤ 256
  pub printed : ts ≡ after_commas (map flat_declarator rest) ++ (semicolon ∷ us)
  pub goes_on : Then (before ++ rest) us

-- the further members, and the brace behind them (6.7.2.1)
pub record MembersThen (Then : List Member → List (List ℕ) → List Sign → Type 0) (types : List (List ℕ)) (before : List Member) (ts : List Sign) : Type 0 where
  pub rest : List Member
  pub inner : List (List ℕ)
  pub us : List Sign
  pub formed : Members types rest inner
  pub low : greatest (map member_height rest) ≤ 256
  pub printed : ts ≡ flat_map flat_member rest ++ (brace_end ∷ us)
  pub goes_on : Then (before ++ rest) inner us

-- the further parameters, each behind a comma, and the end of their list (6.7.5.3)
pub record ParamsThen (Then : List Param → Bool → List Sign → Type 0) (types : List (List ℕ)) (before : List Param) (ts : List Sign) : Type 0 where
  pub rest : List Param
  pub inner : List (List ℕ)
  pub more : Bool
  pub us : List Sign
  pub formed : Params types rest inner
  pub low : greatest (map param_height rest) ≤ 256
  pub printed : ts ≡ after_commas (map flat_param rest) ++ (cond more (comma ∷ dots ∷ []) [] ++ (closing ∷ us))
  pub goes_on : Then (before ++ rest) more us

-- the further declarators of the declaration y, each behind a comma, and its semicolon (6.7)
pub record PartsThen (specs : List Specifier) (seen : Typed) (types : List (List ℕ)) (before : List (Declarator × Option Init)) (ts : List Sign) (y : Decl) (left : List Sign) : Type 0 where
  pub rest : List (Declarator × Option Init)
  pub last : List (List ℕ)
  pub formed : Parts specs seen types rest last
  pub low : greatest (map part_height rest) ≤ 256
  pub printed : ts ≡ after_commas (map flat_part rest) ++ (semicolon ∷ left)
  pub whole : y ≡ record { specs = specs; parts = before ++ rest }

-- an initialiser, where one is written (6.7.8)
abbrev pub InitFits : List (List ℕ) → Option Init → Type 0
InitFits types None = Unit {0}
InitFits types (Some x) = IsInit types x

-- the typedef names in force behind the declarator of a word (6.2.1p7)
abbrev pub declares : Bool → List ℕ → List (List ℕ) → List (List ℕ)
declares true name types = name ∷ types
declares false name types = without name types

-- what stands behind the declarator `item`, whose word is in force: an initialiser or none, and the further parts
pub record ValueThen (specs : List Specifier) (seen : Typed) (types : List (List ℕ)) (before : List (Declarator × Option Init))
    (item : Declarator) (ts : List Sign) (y : Decl) (left : List Sign) : Type 0 where
  pub value : Option Init
  pub us : List Sign
  pub fits : InitFits types value
  pub low : or_none init_height value ≤ 256
  pub printed : ts ≡ optional (λ x. equals ∷ flat_init x) value ++ us
  pub others : PartsThen specs seen types (before ++ (item, value) ∷ []) us y left

-- the same where its word isn't in force yet, and is a typedef name where `typedef`
pub record PartThen (typedef : Bool) (specs : List Specifier) (seen : Typed) (types : List (List ℕ)) (before : List (Declarator × Option Init))
    (item : Declarator) (ts : List Sign) (y : Decl) (left : List Sign) : Type 0 where
  pub kind : IsTrue typedef ↔ IsTypedef specs
  pub name : List ℕ
  pub named : item.name ≡ Some name
  pub goes_on : ValueThen specs seen (declares typedef name types) before item ts y left

-- neither a storage class nor `inline` stands in a struct
abbrev pub is_outer : Owner → Bool
is_outer (owner.Member tag members declarators) = false
is_outer _ = true

abbrev pub is_parameter : Owner → Bool
is_parameter (owner.Param stars word params) = true
is_parameter _ = false

-- a declarator's word, which may be missing in a parameter alone
abbrev pub WordFits : Bool → List (List ℕ) → Typed → Option (List ℕ) → Type 0
WordFits parameter types seen None = IsTrue parameter
WordFits parameter types seen (Some name) = IsDeclared types seen name

-- a declarator of this kind (6.7.5)
pub record DeclaratorFits (parameter : Bool) (types : List (List ℕ)) (seen : Typed) (item : Declarator) : Type 0 where
  pub word_fits : WordFits parameter types seen item.name
  pub stars_fit : AreStars item.stars
  pub inner : List (List ℕ)
  pub suffix_fits : IsSuffix types item.suffix inner

-- a parameter's word hides a typedef name to the end of its list
abbrev pub hidden : Option (List ℕ) → List (List ℕ) → List (List ℕ)
hidden None types = types
hidden (Some name) types = without name types

-- What closes inside a level: the body of a struct, with its tag, its members and the typedef names in force behind them, which is a
-- specifier; or the parameters of a declarator with these stars and this word, which end its declarator.
pub data Inner : Type 0 where
  body : Option (List ℕ) → List Member → List (List ℕ) → Inner
  list : List (List (List ℕ)) → Option (List ℕ) → List Param → Bool → Inner

-- What goes on behind a declarator of what `owner` says, where `Outside` goes on behind what closes inside the level below.
abbrev pub BehindDeclarator : (Inner → List Sign → Type 0) → Decl → List Sign → Owner → List Specifier → Typed → List (List ℕ) → Declarator → List Sign → Type 0
BehindDeclarator Outside y left (owner.Declaration typedef parts) specs seen types item ts = PartThen typedef specs seen types parts item ts y left
BehindDeclarator Outside y left (owner.Member tag members declarators) specs seen types item ts =
    DeclaratorsThen (λ all us. MembersThen (λ inside behind vs. Outside (body tag inside behind) vs) types
    (members ++ roll-Member (record { specs = specs; declarators = all }) ∷ []) us) types seen (declarators ++ item ∷ []) ts
BehindDeclarator Outside y left (owner.Param stars word params) specs seen types item ts =
    ParamsThen (λ all more us. Outside (list stars word all more) us) (hidden item.name types) (params ++ roll-Param (record { specs = specs; declarator = item }) ∷ []) ts

-- What goes on behind complete specifiers: one declarator at least, which only a declaration may lack.
abbrev pub BehindSpecifiers : (Inner → List Sign → Type 0) → Decl → List Sign → Owner → List Specifier → Typed → List (List ℕ) → List Sign → Type 0
BehindSpecifiers Outside y left (owner.Declaration typedef parts) specs seen types ts =
    (specs ≢ []) × (((ts ≡ semicolon ∷ left) × (y ≡ record { specs = specs; parts = parts })) ⊎
    ((sort : Bool) × DeclaratorThen (DeclaratorFits false types seen) (BehindDeclarator Outside y left (owner.Declaration sort parts) specs seen types) ts))
BehindSpecifiers Outside y left (owner.Member tag members declarators) specs seen types ts =
    (specs ≢ []) × DeclaratorThen (DeclaratorFits false types seen) (BehindDeclarator Outside y left (owner.Member tag members declarators) specs seen types) ts
BehindSpecifiers Outside y left (owner.Param stars word params) specs seen types ts =
    (specs ≢ []) × DeclaratorThen (DeclaratorFits true types seen) (BehindDeclarator Outside y left (owner.Param stars word params) specs seen types) ts

-- Outside y left below outers inner ts: behind what closes inside these levels, the innermost first, y is completed by the tokens at the
-- front of ts, and `left` are left. `outers` are the typedef names in force where each open parameter list began, the innermost first.
abbrev pub Outside : Decl → List Sign → List Level → List (List (List ℕ)) → Inner → List Sign → Type 0
Outside y left [] outers inner ts = ⊥
Outside y left (l ∷ below) outers (body tag members types) ts =
    SpecsThen (BehindSpecifiers (Outside y left below outers) y left l.owner) (is_outer l.owner) l.free types by_name (l.specs ++ sp.Struct tag (Some members) ∷ []) ts
Outside y left (l ∷ below) [] (list stars word params more) ts = ⊥
Outside y left (l ∷ below) (types ∷ outers) (list stars word params more) ts =
    BehindDeclarator (Outside y left below outers) y left l.owner l.specs (typed l.seen) types (record { stars = stars; name = word; suffix = su.Params params more }) ts

-- behind what was read, y is completed by the tokens at the front of ts, and `left` are left
abbrev pub Completes : Decl → List Sign → List Level → List (List (List ℕ)) → List (List ℕ) → Level → Focus → List Sign → Type 0
Completes y left below outers types l focus.Specifiers ts =
    SpecsThen (BehindSpecifiers (Outside y left below outers) y left l.owner) (is_outer l.owner) l.free types (typed l.seen) l.specs ts
Completes y left below outers types l focus.Declarator ts =
    DeclaratorThen (DeclaratorFits (is_parameter l.owner) types (typed l.seen)) (BehindDeclarator (Outside y left below outers) y left l.owner l.specs (typed l.seen) types) ts
Completes y left below outers types l (focus.Behind item) ts = BehindDeclarator (Outside y left below outers) y left l.owner l.specs (typed l.seen) types item ts
