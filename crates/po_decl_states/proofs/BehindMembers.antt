-- Steps behind a declarator of a member.
use Rattle.std.proofs.Common.{◌≡◌, ◌+◌, ◌∷◌, ◌++◌, ◌∙◌, ℕ, List, Bool, [], refl, sym, ap, subst}
use Rattle.std.specs.Prelude.{reverse, false, Option, Some, Result, IfOk}
use Rattle.po_base.specs.declared.memory.Memory.{Memory}
use Rattle.po_base.specs.declared.token.Token.{Token}
use Rattle.po_tree.specs.declared.expression.Declarator.{Declarator}
use Rattle.po_tree.specs.declared.expression.Member.{Member, roll-Member}
use Rattle.po_tree.specs.declared.expression.Specifier.{Specifier}
use Rattle.po_tree.specs.declared.expression.Specifier.TheVariants as sp
use Rattle.po_tree.specs.InForce.{InForce}
use Rattle.po_tree.specs.Signs.{Sign, comma, semicolon, brace_end}
use Rattle.po_exp_parts.specs.declared.seen.Seen.{Seen}
use Rattle.po_exp_parts.specs.declared.seen.Seen.TheVariants as none
use Rattle.po_exp_parts.specs.Places.{signs_between, Begins}
use Rattle.po_decl_steps.specs.declared.levels.Level.{Level}
use Rattle.po_decl_steps.specs.declared.levels.Owner.TheVariants as owner
use Rattle.po_decl_steps.specs.declared.levels.Focus.TheVariants as focus
use Rattle.po_decl_steps.specs.Completing.{Outside, body, Completes}
use Rattle.po_decl_steps.specs.Steps.{Alike, MembersWanted}
use Rattle.po_decl_steps.proofs.BehindDeclarators.{comma_alike, semicolon_alike, closed_alike, member_alike}
use Rattle.po_decl_steps.proofs.Members.{no_declarator_end}
use Rattle.po_init_read.proofs.Leading.{reverse_push}
use Rattle.po_decl_states.specs.declared.state.Step.{Step}
use Rattle.po_decl_states.specs.declared.state.Step.TheVariants as step
use Rattle.po_decl_states.specs.Going.{Goal, Completed, Goes}
use Rattle.po_decl_states.proofs.Stepping.{alike_itself, goes_next, goes_stuck, goes_along_ok}
use Rattle.po_decl_states.proofs.AtSpecifiers.{state}

-- what completes members, and what a body stands in, where these signs follow
abbrev pub AtMembers : List Level → Option (List ℕ) → List Member → List Sign → Goal
AtMembers below tag members ts outers types = MembersWanted (reverse below) outers tag members types ts

abbrev pub BehindBody : List Level → Option (List ℕ) → List Member → List Sign → Goal
BehindBody below tag members ts outers types y left = Outside y left (reverse below) outers (body tag members types) ts

abbrev pub AtMember : List Token → ℕ → ℕ → ℕ → List Level → List Specifier → Bool → Seen → Option (List ℕ) → List Member → List Declarator → Declarator → Goal
AtMember tokens to at lists below specs free seen tag members declarators item =
    Completed tokens to (state below (record { specs = specs; free = free; seen = seen; owner = owner.Member tag members declarators }) (focus.Behind item) at lists)

pub further_declarator_goes : (tokens : List Token) (to at lists : ℕ) (names : InForce) (below : List Level) (specs : List Specifier) (free : Bool) (seen : Seen) (tag : Option (List ℕ)) (members : List Member) (declarators more : List Declarator) (item : Declarator) →
    more ≡ declarators ++ item ∷ [] → signs_between tokens at to ≡ comma ∷ signs_between tokens (at + 1) to →
    Goes (AtMember tokens to at lists below specs free seen tag members declarators item) tokens to lists names names
    (step.Next (state below (record { specs = specs; free = free; seen = seen; owner = owner.Member tag members more }) focus.Declarator (at + 1) lists))
further_declarator_goes tokens to at lists names below specs free seen tag members declarators more item p q =
    goes_next (AtMember tokens to at lists below specs free seen tag members declarators item) tokens to lists names names
    (state below (record { specs = specs; free = free; seen = seen; owner = owner.Member tag members more }) focus.Declarator (at + 1) lists) refl refl refl
    (λ outers types s. record {
      after = types;
      same = s;
      alike = subst (λ v. Alike (AtMember tokens to at lists below specs free seen tag members declarators item outers types)
          (λ y left. Completes y left (reverse below) outers types (record { specs = specs; free = free; seen = seen; owner = owner.Member tag members v }) focus.Declarator (signs_between tokens (at + 1) to)))
          (sym p) (comma_alike (reverse below) outers specs free seen tag members q);
    })

pub no_declarator_goes : (tokens : List Token) (to at lists : ℕ) (names : InForce) (below : List Level) (specs : List Specifier) (free : Bool) (seen : Seen) (tag : Option (List ℕ)) (members : List Member) (declarators : List Declarator) (item : Declarator) →
    (Begins comma (signs_between tokens at to) → ⊥) → (Begins semicolon (signs_between tokens at to) → ⊥) →
    Goes (AtMember tokens to at lists below specs free seen tag members declarators item) tokens to lists names names step.Stuck
no_declarator_goes tokens to at lists names below specs free seen tag members declarators item a b =
    goes_stuck (AtMember tokens to at lists below specs free seen tag members declarators item) tokens to lists names names refl refl (λ outers types s n y rest k. no_declarator_end a b k)

pub member_goes : (tokens : List Token) (to at lists : ℕ) (names : InForce) (below : List Level) (specs : List Specifier) (free : Bool) (seen : Seen) (tag : Option (List ℕ)) (members more : List Member) (declarators all : List Declarator) (item : Declarator) (r : Result Step Memory) →
    all ≡ declarators ++ item ∷ [] → more ≡ members ++ roll-Member (record { specs = specs; declarators = all }) ∷ [] → signs_between tokens at to ≡ semicolon ∷ signs_between tokens (at + 1) to →
    IfOk r (Goes (AtMembers below tag more (signs_between tokens (at + 1) to)) tokens to lists names names) →
    IfOk r (Goes (AtMember tokens to at lists below specs free seen tag members declarators item) tokens to lists names names)
member_goes tokens to at lists names below specs free seen tag members more declarators all item r p o q g =
    goes_along_ok (AtMember tokens to at lists below specs free seen tag members declarators item) (AtMembers below tag more (signs_between tokens (at + 1) to)) tokens to lists names names names r refl refl
    (λ outers types s. record {
      after = types;
      same = s;
      alike = subst (λ v. Alike (AtMember tokens to at lists below specs free seen tag members declarators item outers types) (MembersWanted (reverse below) outers tag v types (signs_between tokens (at + 1) to)))
          (sym (o ∙ ap (λ v. members ++ roll-Member (record { specs = specs; declarators = v }) ∷ []) p)) (semicolon_alike (reverse below) outers specs tag members q);
    }) g

pub further_member_goes : (tokens : List Token) (to at lists : ℕ) (names : InForce) (below : List Level) (tag : Option (List ℕ)) (members : List Member) → (Begins brace_end (signs_between tokens at to) → ⊥) →
    Goes (AtMembers below tag members (signs_between tokens at to)) tokens to lists names names
    (step.Next (state below (record { specs = []; free = false; seen = none.Nothing; owner = owner.Member tag members [] }) focus.Specifiers at lists))
further_member_goes tokens to at lists names below tag members shut =
    goes_next (AtMembers below tag members (signs_between tokens at to)) tokens to lists names names
    (state below (record { specs = []; free = false; seen = none.Nothing; owner = owner.Member tag members [] }) focus.Specifiers at lists) refl refl refl
    (λ outers types s. record { after = types; same = s; alike = member_alike (reverse below) outers tag shut })

pub brace_goes : (tokens : List Token) (to at lists : ℕ) (names : InForce) (below : List Level) (tag : Option (List ℕ)) (members : List Member) (r : Result Step Memory) → signs_between tokens at to ≡ brace_end ∷ signs_between tokens (at + 1) to →
    IfOk r (Goes (BehindBody below tag members (signs_between tokens (at + 1) to)) tokens to lists names names) →
    IfOk r (Goes (AtMembers below tag members (signs_between tokens at to)) tokens to lists names names)
brace_goes tokens to at lists names below tag members r q g =
    goes_along_ok (AtMembers below tag members (signs_between tokens at to)) (BehindBody below tag members (signs_between tokens (at + 1) to)) tokens to lists names names names r refl refl
    (λ outers types s. record { after = types; same = s; alike = closed_alike (reverse below) outers tag q }) g

-- a body closes
pub no_level_goes : (tokens : List Token) (to at lists : ℕ) (names : InForce) (below : List Level) (tag : Option (List ℕ)) (members : List Member) → below ≡ [] →
    Goes (BehindBody below tag members (signs_between tokens at to)) tokens to lists names names step.Stuck
no_level_goes tokens to at lists names below tag members q =
    goes_stuck (BehindBody below tag members (signs_between tokens at to)) tokens to lists names names refl refl
    (λ outers types s n y rest k. subst (λ b. Outside y rest (reverse b) outers (body tag members types) (signs_between tokens at to)) q k)

pub body_closes : (tokens : List Token) (to at lists : ℕ) (names : InForce) (below left : List Level) (l : Level) (tag : Option (List ℕ)) (members : List Member) (specs : List Specifier) → below ≡ left ++ l ∷ [] →
    specs ≡ l.specs ++ sp.Struct tag (Some members) ∷ [] →
    Goes (BehindBody below tag members (signs_between tokens at to)) tokens to lists names names
    (step.Next (state left (record { specs = specs; free = l.free; seen = none.Name; owner = l.owner }) focus.Specifiers at lists))
body_closes tokens to at lists names below left l tag members specs q p =
    goes_next (BehindBody below tag members (signs_between tokens at to)) tokens to lists names names
    (state left (record { specs = specs; free = l.free; seen = none.Name; owner = l.owner }) focus.Specifiers at lists) refl refl refl
    (λ outers types s. record {
      after = types;
      same = s;
      alike = subst (λ v. Alike (BehindBody below tag members (signs_between tokens at to) outers types)
          (λ y rest. Completes y rest (reverse left) outers types (record { specs = v; free = l.free; seen = none.Name; owner = l.owner }) focus.Specifiers (signs_between tokens at to))) (sym p)
          (subst (λ b. Alike (λ y rest. Outside y rest b outers (body tag members types) (signs_between tokens at to))
          (λ y rest. Completes y rest (reverse left) outers types (record { specs = l.specs ++ sp.Struct tag (Some members) ∷ []; free = l.free; seen = none.Name; owner = l.owner }) focus.Specifiers (signs_between tokens at to)))
          (sym (ap reverse q ∙ reverse_push left l)) (alike_itself (λ y rest. Outside y rest (l ∷ reverse left) outers (body tag members types) (signs_between tokens at to))));
    })
