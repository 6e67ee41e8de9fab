-- Steps behind a declarator of a declaration.
use Rattle.std.proofs.Common.{◌≡◌, ◌+◌, ◌∷◌, ◌++◌, ◌↔◌, inl, inr, ℕ, List, Bool, [], refl, sym, subst}
use Rattle.std.specs.Prelude.{IsTrue, reverse, Contains, Option, Some, None, Result, IfOk}
use Rattle.po_base.specs.declared.memory.Memory.{Memory}
use Rattle.po_base.specs.declared.token.Token.{Token}
use Rattle.po_tree.specs.declared.declaration.Init.{Init}
use Rattle.po_tree.specs.declared.expression.Declarator.{Declarator}
use Rattle.po_tree.specs.declared.expression.Specifier.{Specifier}
use Rattle.po_tree.specs.Expressions.{Typed}
use Rattle.po_tree.specs.Declarations.{IsTypedef}
use Rattle.po_tree.specs.InForce.{InForce}
use Rattle.po_tree.specs.NameSets.{AreSame, Adds}
use Rattle.po_tree.proofs.Sets.{first_or_later, is_first, is_later}
use Rattle.po_tree.specs.Signs.{Sign, comma, semicolon}
use Rattle.po_exp_parts.specs.declared.seen.Seen.{Seen}
use Rattle.po_exp_parts.specs.Places.{signs_between, Begins}
use Rattle.po_exp_parts.specs.Seen.{typed}
use Rattle.po_decl_steps.specs.declared.levels.Level.{Level}
use Rattle.po_decl_steps.specs.declared.levels.Owner.TheVariants as owner
use Rattle.po_decl_steps.specs.declared.levels.Focus.TheVariants as focus
use Rattle.po_decl_steps.specs.Completing.{declares}
use Rattle.po_decl_steps.specs.Steps.{Alike, ValueWanted, PartsWanted}
use Rattle.po_decl_steps.proofs.BehindDeclarators.{declared_alike, undeclared, bare_alike, value_alike, value_wrong, further_alike}
use Rattle.po_decl_steps.proofs.Declarations.{OneInit, semicolon_whole, semicolon_one, no_part_end}
use Rattle.po_decl_states.specs.declared.state.Step.{Step}
use Rattle.po_decl_states.specs.declared.state.Step.TheVariants as step
use Rattle.po_decl_states.specs.Going.{Goal, Completed, Goes}
use Rattle.po_decl_states.specs.Values.{ValueRead, no_value, one_value, NoValue}
use Rattle.po_decl_states.proofs.Stepping.{goes_next, goes_stuck, goes_whole, goes_along, goes_along_ok}
use Rattle.po_decl_states.proofs.AtSpecifiers.{state}

-- what completes a part of a declaration whose word is in force, and the parts so far, where these signs follow
abbrev pub AtValue : List Specifier → Typed → Bool → List (Declarator × Option Init) → Declarator → List Sign → Goal
AtValue specs seen typedef parts item ts outers types = ValueWanted specs seen typedef parts item types ts

abbrev pub AtParts : List Specifier → Typed → Bool → List (Declarator × Option Init) → List Sign → Goal
AtParts specs seen typedef parts ts outers types = PartsWanted specs seen typedef parts types ts

-- a typedef name more
pub adds_same : (name : List ℕ) (types before behind : List (List ℕ)) → AreSame types before → Adds (λ x. name ≡ x) before behind → AreSame (name ∷ types) behind
adds_same name types before behind s adds x = (
  λ c. (adds.each x).1 (elim (first_or_later name types x c) [ inl q ↦ inr q | inr h ↦ inl ((s x).0 h) ]),
  λ c. elim ((adds.each x).0 c) [ inl h ↦ is_later name types x ((s x).1 h) | inr q ↦ subst (Contains (name ∷ types)) q (is_first name types) ],
)

pub part_goes : (tokens : List Token) (to at lists : ℕ) (before mid behind : InForce) (below : List Level) (specs : List Specifier) (free : Bool) (seen : Seen) (typedef : Bool) (parts : List (Declarator × Option Init)) (item : Declarator) (name : List ℕ) (r : Result Step Memory) →
    item.name ≡ Some name → mid.tags ≡ before.tags → mid.outer ≡ before.outer → ((types : List (List ℕ)) → AreSame types before.typedefs → AreSame (declares typedef name types) mid.typedefs) →
    IfOk r (Goes (AtValue specs (typed seen) typedef parts item (signs_between tokens at to)) tokens to lists mid behind) →
    IfOk r (Goes (Completed tokens to (state below (record { specs = specs; free = free; seen = seen; owner = owner.Declaration typedef parts }) (focus.Behind item) at lists)) tokens to lists before behind)
part_goes tokens to at lists before mid behind below specs free seen typedef parts item name r q p o f g =
    goes_along_ok (Completed tokens to (state below (record { specs = specs; free = free; seen = seen; owner = owner.Declaration typedef parts }) (focus.Behind item) at lists))
    (AtValue specs (typed seen) typedef parts item (signs_between tokens at to)) tokens to lists before mid behind r p o
    (λ outers types s. record { after = declares typedef name types; same = f types s; alike = declared_alike (reverse below) outers free seen q }) g

pub undeclared_goes : (tokens : List Token) (to at lists : ℕ) (names : InForce) (below : List Level) (specs : List Specifier) (free : Bool) (seen : Seen) (typedef : Bool) (parts : List (Declarator × Option Init)) (item : Declarator) → item.name ≡ None →
    Goes (Completed tokens to (state below (record { specs = specs; free = free; seen = seen; owner = owner.Declaration typedef parts }) (focus.Behind item) at lists)) tokens to lists names names step.Stuck
undeclared_goes tokens to at lists names below specs free seen typedef parts item q =
    goes_stuck (Completed tokens to (state below (record { specs = specs; free = free; seen = seen; owner = owner.Declaration typedef parts }) (focus.Behind item) at lists)) tokens to lists names names refl refl
    (λ outers types s n y rest k. undeclared (reverse below) outers free seen q k)

-- an initialiser is read, or none
value_law : OneInit → (specs : List Specifier) (seen : Typed) (typedef : Bool) (parts : List (Declarator × Option Init)) (item : Declarator) (types : List (List ℕ)) {ts us : List Sign} {value : Option Init} → ValueRead types ts value us →
    Alike (ValueWanted specs seen typedef parts item types ts) (PartsWanted specs seen typedef (parts ++ (item, value) ∷ []) types us)
value_law law specs seen typedef parts item types (no_value none) = bare_alike none
value_law law specs seen typedef parts item types (one_value x inside us q stands) = value_alike law q stands

pub value_goes : OneInit → (tokens : List Token) (to at end lists : ℕ) (names : InForce) (specs : List Specifier) (seen : Typed) (typedef : Bool) (parts more : List (Declarator × Option Init)) (item : Declarator) (value : Option Init) (s : Step) →
    more ≡ parts ++ (item, value) ∷ [] → ((types : List (List ℕ)) → AreSame types names.typedefs → ValueRead types (signs_between tokens at to) value (signs_between tokens end to)) →
    Goes (AtParts specs seen typedef more (signs_between tokens end to)) tokens to lists names names s →
    Goes (AtValue specs seen typedef parts item (signs_between tokens at to)) tokens to lists names names s
value_goes law tokens to at end lists names specs seen typedef parts more item value s q read g =
    goes_along (AtValue specs seen typedef parts item (signs_between tokens at to)) (AtParts specs seen typedef more (signs_between tokens end to)) tokens to lists names names names s refl refl
    (λ outers types same. record {
      after = types;
      same = same;
      alike = subst (λ v. Alike (ValueWanted specs seen typedef parts item types (signs_between tokens at to)) (PartsWanted specs seen typedef v types (signs_between tokens end to))) (sym q)
          (value_law law specs seen typedef parts item types (read types same));
    }) g

pub wrong_value_goes : (tokens : List Token) (to at lists : ℕ) (names : InForce) (specs : List Specifier) (seen : Typed) (typedef : Bool) (parts : List (Declarator × Option Init)) (item : Declarator) →
    ((types : List (List ℕ)) → AreSame types names.typedefs → NoValue types (signs_between tokens at to)) →
    Goes (AtValue specs seen typedef parts item (signs_between tokens at to)) tokens to lists names names step.Stuck
wrong_value_goes tokens to at lists names specs seen typedef parts item wrong =
    goes_stuck (AtValue specs seen typedef parts item (signs_between tokens at to)) tokens to lists names names refl refl
    (λ outers types s n y rest k. let w = wrong types s in value_wrong w.1 w.2 k)

-- what stands behind the parts of a declaration
pub comma_goes : (tokens : List Token) (to at lists : ℕ) (names : InForce) (below : List Level) (specs : List Specifier) (free : Bool) (seen : Seen) (typedef : Bool) (parts : List (Declarator × Option Init)) →
    signs_between tokens at to ≡ comma ∷ signs_between tokens (at + 1) to →
    Goes (AtParts specs (typed seen) typedef parts (signs_between tokens at to)) tokens to lists names names
    (step.Next (state below (record { specs = specs; free = free; seen = seen; owner = owner.Declaration typedef parts }) focus.Declarator (at + 1) lists))
comma_goes tokens to at lists names below specs free seen typedef parts q =
    goes_next (AtParts specs (typed seen) typedef parts (signs_between tokens at to)) tokens to lists names names
    (state below (record { specs = specs; free = free; seen = seen; owner = owner.Declaration typedef parts }) focus.Declarator (at + 1) lists) refl refl refl
    (λ outers types s. record { after = types; same = s; alike = further_alike (reverse below) outers free seen q })

pub no_part_goes : (tokens : List Token) (to at lists : ℕ) (names : InForce) (specs : List Specifier) (seen : Typed) (typedef : Bool) (parts : List (Declarator × Option Init)) →
    (Begins comma (signs_between tokens at to) → ⊥) → (Begins semicolon (signs_between tokens at to) → ⊥) → Goes (AtParts specs seen typedef parts (signs_between tokens at to)) tokens to lists names names step.Stuck
no_part_goes tokens to at lists names specs seen typedef parts a b =
    goes_stuck (AtParts specs seen typedef parts (signs_between tokens at to)) tokens to lists names names refl refl (λ outers types s n y rest k. no_part_end a b k.1)

pub other_kind_goes : (tokens : List Token) (to at lists : ℕ) (names : InForce) (specs : List Specifier) (seen : Typed) (typedef : Bool) (parts : List (Declarator × Option Init)) →
    (IsTrue typedef ↔ IsTypedef specs → ⊥) → Goes (AtParts specs seen typedef parts (signs_between tokens at to)) tokens to lists names names step.Stuck
other_kind_goes tokens to at lists names specs seen typedef parts other =
    goes_stuck (AtParts specs seen typedef parts (signs_between tokens at to)) tokens to lists names names refl refl (λ outers types s n y rest k. other k.0)

pub whole_goes : (tokens : List Token) (to at lists : ℕ) (names : InForce) (specs : List Specifier) (seen : Typed) (typedef : Bool) (parts : List (Declarator × Option Init)) →
    IsTrue typedef ↔ IsTypedef specs → signs_between tokens at to ≡ semicolon ∷ signs_between tokens (at + 1) to →
    Goes (AtParts specs seen typedef parts (signs_between tokens at to)) tokens to lists names names (step.Whole (record { specs = specs; parts = parts }) (at + 1))
whole_goes tokens to at lists names specs seen typedef parts h q =
    goes_whole (AtParts specs seen typedef parts (signs_between tokens at to)) tokens to lists names (record { specs = specs; parts = parts }) (at + 1)
    (λ outers types s. record { whole = (h, semicolon_whole q); one = λ y rest k. semicolon_one q k.1 })
