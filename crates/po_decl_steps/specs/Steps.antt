-- What completes the state at each step, and when that is the same as before.
use Rattle.std.specs.Prelude.{ℕ, ◌≡◌, ◌↔◌, ◌≤◌, Bool, IsTrue, List, [], ◌∷◌, ◌++◌, Option}
use Rattle.po_tree.specs.declared.expression.Specifier.{Specifier}
use Rattle.po_tree.specs.declared.expression.Suffix.{Suffix}
use Rattle.po_tree.specs.declared.expression.Declarator.{Declarator}
use Rattle.po_tree.specs.declared.expression.Member.{Member, roll-Member}
use Rattle.po_tree.specs.declared.expression.Param.{Param}
use Rattle.po_tree.specs.declared.declaration.Init.{Init}
use Rattle.po_tree.specs.declared.declaration.Decl.{Decl}
use Rattle.po_tree.specs.Signs.{Sign, word}
use Rattle.po_tree.specs.Printing.{flat_suffix, optional}
use Rattle.po_tree.specs.Heights.{suffix_height}
use Rattle.po_tree.specs.Expressions.{Typed, untyped}
use Rattle.po_tree.specs.Declarations.{IsSuffix, IsTypedef}
use Rattle.po_exp_parts.specs.Seen.{typed}
use Rattle.po_decl_parts.specs.Specifiers.{Opens}
use Rattle.po_decl_steps.specs.declared.levels.Level.{Level}
use Rattle.po_decl_steps.specs.Completing.{WordFits, BehindDeclarator, Outside, body, list, is_parameter, MembersThen, DeclaratorsThen, ParamsThen, PartsThen, ValueThen}

-- what completes the one completes the other
pub record Alike (P Q : Decl → List Sign → Type 0) : Type 0 where
  pub forth : (y : Decl) (left : List Sign) → P y left → Q y left
  pub back : (y : Decl) (left : List Sign) → Q y left → P y left

-- what stands behind the stars of a declarator: its word, where it has one, and what stands behind that
pub record WordThen (parameter : Bool) (types : List (List ℕ)) (seen : Typed) (stars : List (List (List ℕ))) (Then : Declarator → List Sign → Type 0) (ts : List Sign) : Type 0 where
  pub name : Option (List ℕ)
  pub suffix : Suffix
  pub inner : List (List ℕ)
  pub us : List Sign
  pub word_fits : WordFits parameter types seen name
  pub suffix_fits : IsSuffix types suffix inner
  pub low : suffix_height suffix ≤ 256
  pub printed : ts ≡ optional (λ text. word text ∷ []) name ++ (flat_suffix suffix ++ us)
  pub goes_on : Then (record { stars = stars; name = name; suffix = suffix }) us

-- what stands behind its word
pub record SuffixThen (types : List (List ℕ)) (stars : List (List (List ℕ))) (name : Option (List ℕ)) (Then : Declarator → List Sign → Type 0) (ts : List Sign) : Type 0 where
  pub suffix : Suffix
  pub inner : List (List ℕ)
  pub us : List Sign
  pub suffix_fits : IsSuffix types suffix inner
  pub low : suffix_height suffix ≤ 256
  pub printed : ts ≡ flat_suffix suffix ++ us
  pub goes_on : Then (record { stars = stars; name = name; suffix = suffix }) us

-- behind such specifiers no body of a struct opens here
abbrev pub NoBody : Typed → List Sign → Type 0
NoBody seen ts = (tag : Option (List ℕ)) (us : List Sign) → seen ≡ untyped → Opens ts tag us → ⊥

-- what completes a declarator of a level behind its stars, and behind its word

abbrev pub WordWanted : List Level → Level → List (List (List ℕ)) → List (List (List ℕ)) → List (List ℕ) → List Sign → Decl → List Sign → Type 0
WordWanted below l stars outers types ts y left =
    WordThen (is_parameter l.owner) types (typed l.seen) stars (BehindDeclarator (Outside y left below outers) y left l.owner l.specs (typed l.seen) types) ts

abbrev pub SuffixWanted : List Level → Level → List (List (List ℕ)) → Option (List ℕ) → List (List (List ℕ)) → List (List ℕ) → List Sign → Decl → List Sign → Type 0
SuffixWanted below l stars name outers types ts y left =
    SuffixThen types stars name (BehindDeclarator (Outside y left below outers) y left l.owner l.specs (typed l.seen) types) ts

-- What completes a part of a declaration whose word is in force, and one with its initialiser, where `typedef` says whether its words are typedef
-- names; members, a member's declarators, and parameters.

abbrev pub ValueWanted : List Specifier → Typed → Bool → List (Declarator × Option Init) → Declarator → List (List ℕ) → List Sign → Decl → List Sign → Type 0
ValueWanted specs seen typedef parts item types ts y left = (IsTrue typedef ↔ IsTypedef specs) × ValueThen specs seen types parts item ts y left

abbrev pub PartsWanted : List Specifier → Typed → Bool → List (Declarator × Option Init) → List (List ℕ) → List Sign → Decl → List Sign → Type 0
PartsWanted specs seen typedef parts types ts y left = (IsTrue typedef ↔ IsTypedef specs) × PartsThen specs seen types parts ts y left

abbrev pub MembersWanted : List Level → List (List (List ℕ)) → Option (List ℕ) → List Member → List (List ℕ) → List Sign → Decl → List Sign → Type 0
MembersWanted below outers tag members types ts y left = MembersThen (λ inside behind vs. Outside y left below outers (body tag inside behind) vs) types members ts

abbrev pub DeclaratorsWanted : List Level → List (List (List ℕ)) → List Specifier → Typed → Option (List ℕ) → List Member → List Declarator → List (List ℕ) → List Sign → Decl → List Sign → Type 0
DeclaratorsWanted below outers specs seen tag members declarators types ts y left =
    DeclaratorsThen (λ all us. MembersWanted below outers tag (members ++ roll-Member (record { specs = specs; declarators = all }) ∷ []) types us y left) types seen declarators ts

abbrev pub ParamsWanted : List Level → List (List (List ℕ)) → List (List (List ℕ)) → Option (List ℕ) → List Param → List (List ℕ) → List Sign → Decl → List Sign → Type 0
ParamsWanted below outers stars name params types ts y left = ParamsThen (λ all more us. Outside y left below outers (list stars name all more) us) types params ts
