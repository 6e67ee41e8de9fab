-- Steps among specifiers.
use Rattle.std.proofs.Common.{◌≡◌, ◌+◌, ◌*◌, ◌-◌, ◌∷◌, ◌++◌, ◌↔◌, ◌∙◌, ℕ, List, Bool, [], refl, sym, ap, subst, length}
use Rattle.std.specs.Prelude.{IsTrue, reverse, false, Option, Result, Ok, Err, IfOk}
use Rattle.po_base.specs.declared.memory.Memory.{Memory}
use Rattle.po_base.specs.declared.token.Token.{Token}
use Rattle.po_tree.specs.declared.declaration.Init.{Init}
use Rattle.po_tree.specs.declared.expression.Declarator.{Declarator}
use Rattle.po_tree.specs.declared.expression.Member.{Member}
use Rattle.po_tree.specs.declared.expression.Param.{Param}
use Rattle.po_tree.specs.declared.expression.Specifier.{Specifier}
use Rattle.po_tree.specs.Expressions.{untyped}
use Rattle.po_tree.specs.Declarations.{IsTypedef}
use Rattle.po_tree.specs.InForce.{InForce}
use Rattle.po_tree.specs.NameSets.{AreSame}
use Rattle.po_tree.specs.Signs.{semicolon}
use Rattle.po_exp_parts.specs.declared.seen.Seen.{Seen}
use Rattle.po_exp_parts.specs.declared.seen.Seen.TheVariants as none
use Rattle.po_exp_parts.specs.Places.{signs_between, Begins}
use Rattle.po_exp_parts.specs.Seen.{typed}
use Rattle.po_decl_parts.specs.declared.specifiers.Found.{Found}
use Rattle.po_decl_parts.specs.Specifiers.{Opens, SpecifierStands, NoSpecifier}
use Rattle.po_decl_laws.specs.Fronts.{EndsSpecifiers}
use Rattle.po_decl_steps.specs.declared.levels.Level.{Level}
use Rattle.po_decl_steps.specs.declared.levels.Owner.{Owner}
use Rattle.po_decl_steps.specs.declared.levels.Owner.TheVariants as owner
use Rattle.po_decl_steps.specs.declared.levels.Focus.{Focus}
use Rattle.po_decl_steps.specs.declared.levels.Focus.TheVariants as focus
use Rattle.po_decl_steps.specs.Completing.{is_outer, Completes}
use Rattle.po_decl_steps.specs.Steps.{NoBody, Alike}
use Rattle.po_decl_steps.proofs.AmongSpecifiers.{specifier_alike, none_reads, body_alike, member_wants, param_wants, some_specifiers, part_wants, bare_whole}
use Rattle.po_init_read.proofs.Leading.{reverse_push}
use Rattle.po_decl_states.specs.declared.state.State.{State}
use Rattle.po_decl_states.specs.declared.state.Step.{Step}
use Rattle.po_decl_states.specs.declared.state.Step.TheVariants as step
use Rattle.po_decl_states.specs.Going.{Completed, Goes, GetsOn, rank}
use Rattle.po_decl_states.proofs.Stepping.{goes_next, goes_stuck, goes_whole}

abbrev pub state : List Level → Level → Focus → ℕ → ℕ → State
state below l wanted at lists = record { below = below; level = l; focus = wanted; at = at; lists = lists }

-- specifiers end at a place, whatever the list of the same names
abbrev pub EndAt : InForce → Seen → List Token → ℕ → ℕ → Type 0
EndAt names seen tokens at to = (types : List (List ℕ)) → AreSame types names.typedefs → EndsSpecifiers types (typed seen) (signs_between tokens at to)

abbrev part : List Specifier → Bool → Seen → Bool → List (Declarator × Option Init) → Level
part specs free seen typedef parts = record { specs = specs; free = free; seen = seen; owner = owner.Declaration typedef parts }

pub declaration_ends : (tokens : List Token) (to at lists : ℕ) (names : InForce) (below : List Level) (specs : List Specifier) (free : Bool) (seen : Seen) (typedef : Bool) (parts : List (Declarator × Option Init)) →
    (specs ≡ [] → ⊥) → signs_between tokens at to ≡ semicolon ∷ signs_between tokens (at + 1) to → EndAt names seen tokens at to →
    Goes (Completed tokens to (state below (record { specs = specs; free = free; seen = seen; owner = owner.Declaration typedef parts }) focus.Specifiers at lists)) tokens to lists names names (step.Whole (record { specs = specs; parts = parts }) (at + 1))
declaration_ends tokens to at lists names below specs free seen typedef parts some q ends =
    goes_whole (Completed tokens to (state below (part specs free seen typedef parts) focus.Specifiers at lists)) tokens to lists names (record { specs = specs; parts = parts }) (at + 1)
    (λ outers types s. let w = bare_whole (reverse below) outers seen typedef (ends types s) some q in record { whole = w.0; one = w.1 })

pub declaration_wants : (tokens : List Token) (to at lists : ℕ) (names : InForce) (below : List Level) (specs : List Specifier) (free : Bool) (seen : Seen) (typedef flag : Bool) (parts : List (Declarator × Option Init)) →
    (specs ≡ [] → ⊥) → (Begins semicolon (signs_between tokens at to) → ⊥) → IsTrue flag ↔ IsTypedef specs → EndAt names seen tokens at to →
    Goes (Completed tokens to (state below (record { specs = specs; free = free; seen = seen; owner = owner.Declaration typedef parts }) focus.Specifiers at lists)) tokens to lists names names
    (step.Next (state below (record { specs = specs; free = free; seen = seen; owner = owner.Declaration flag parts }) focus.Declarator at lists))
declaration_wants tokens to at lists names below specs free seen typedef flag parts some no_end h ends =
    goes_next (Completed tokens to (state below (part specs free seen typedef parts) focus.Specifiers at lists)) tokens to lists names names (state below (part specs free seen flag parts) focus.Declarator at lists) refl refl refl
    (λ outers types s. record { after = types; same = s; alike = part_wants (reverse below) outers seen typedef (ends types s) some no_end h })

pub nothing_ends : (tokens : List Token) (to at lists : ℕ) (names : InForce) (below : List Level) (l : Level) → l.specs ≡ [] → EndAt names l.seen tokens at to →
    Goes (Completed tokens to (state below l focus.Specifiers at lists)) tokens to lists names names step.Stuck
nothing_ends tokens to at lists names below l q ends =
    goes_stuck (Completed tokens to (state below l focus.Specifiers at lists)) tokens to lists names names refl refl
    (λ outers types s n y rest k. some_specifiers (reverse below) outers l rest y (ends types s) q k)

abbrev owned : Level → Owner → Level
owned l w = record { specs = l.specs; free = l.free; seen = l.seen; owner = w }

-- an owner that is known
pub owner_known : (tokens : List Token) (to at lists : ℕ) (names behind : InForce) (below : List Level) (l : Level) (w : Owner) (wanted : Focus) (s : Step) → l.owner ≡ w →
    Goes (Completed tokens to (state below (record { specs = l.specs; free = l.free; seen = l.seen; owner = w }) wanted at lists)) tokens to lists names behind s →
    Goes (Completed tokens to (state below l wanted at lists)) tokens to lists names behind s
owner_known tokens to at lists names behind below l w wanted s q g =
    subst (λ v. Goes (Completed tokens to (state below (owned l v) wanted at lists)) tokens to lists names behind s) (sym q) g

pub owner_known_ok : (tokens : List Token) (to at lists : ℕ) (names behind : InForce) (below : List Level) (l : Level) (w : Owner) (wanted : Focus) (r : Result Step Memory) → l.owner ≡ w →
    IfOk r (Goes (Completed tokens to (state below (record { specs = l.specs; free = l.free; seen = l.seen; owner = w }) wanted at lists)) tokens to lists names behind) →
    IfOk r (Goes (Completed tokens to (state below l wanted at lists)) tokens to lists names behind)
owner_known_ok tokens to at lists names behind below l w wanted (Ok s) q g = owner_known tokens to at lists names behind below l w wanted s q g
owner_known_ok tokens to at lists names behind below l w wanted (Err e) q g = tt

pub member_ends : (tokens : List Token) (to at lists : ℕ) (names : InForce) (below : List Level) (l : Level) (tag : Option (List ℕ)) (members : List Member) (declarators : List Declarator) →
    l.owner ≡ owner.Member tag members declarators → (l.specs ≡ [] → ⊥) → EndAt names l.seen tokens at to →
    Goes (Completed tokens to (state below l focus.Specifiers at lists)) tokens to lists names names
    (step.Next (state below (record { specs = l.specs; free = l.free; seen = l.seen; owner = owner.Member tag members declarators }) focus.Declarator at lists))
member_ends tokens to at lists names below l tag members declarators q some ends =
    let w = owner.Member tag members declarators in
    owner_known tokens to at lists names names below l w focus.Specifiers _ q
    (goes_next (Completed tokens to (state below (owned l w) focus.Specifiers at lists)) tokens to lists names names (state below (owned l w) focus.Declarator at lists) refl refl refl
    (λ outers types s. record { after = types; same = s; alike = member_wants (reverse below) outers l.seen tag members declarators (ends types s) some }))

pub param_ends : (tokens : List Token) (to at lists : ℕ) (names : InForce) (below : List Level) (l : Level) (stars : List (List (List ℕ))) (word : Option (List ℕ)) (params : List Param) →
    l.owner ≡ owner.Param stars word params → (l.specs ≡ [] → ⊥) → EndAt names l.seen tokens at to →
    Goes (Completed tokens to (state below l focus.Specifiers at lists)) tokens to lists names names
    (step.Next (state below (record { specs = l.specs; free = l.free; seen = l.seen; owner = owner.Param stars word params }) focus.Declarator at lists))
param_ends tokens to at lists names below l stars word params q some ends =
    let w = owner.Param stars word params in
    owner_known tokens to at lists names names below l w focus.Specifiers _ q
    (goes_next (Completed tokens to (state below (owned l w) focus.Specifiers at lists)) tokens to lists names names (state below (owned l w) focus.Declarator at lists) refl refl refl
    (λ outers types s. record { after = types; same = s; alike = param_wants (reverse below) outers l.seen stars word params (ends types s) some }))

-- the body of a struct opens
pub body_goes : (tokens : List Token) (to at end lists : ℕ) (names : InForce) (below above : List Level) (l : Level) (tag : Option (List ℕ)) → above ≡ below ++ l ∷ [] → typed l.seen ≡ untyped →
    Opens (signs_between tokens at to) tag (signs_between tokens end to) →
    Goes (Completed tokens to (state below l focus.Specifiers at lists)) tokens to lists names names
    (step.Next (state above (record { specs = []; free = false; seen = none.Nothing; owner = owner.Member tag [] [] }) focus.Specifiers end lists))
body_goes tokens to at end lists names below above l tag q r opens =
    goes_next (Completed tokens to (state below l focus.Specifiers at lists)) tokens to lists names names (state above (record { specs = []; free = false; seen = none.Nothing; owner = owner.Member tag [] [] }) focus.Specifiers end lists) refl refl refl
    (λ outers types s. record {
      after = types;
      same = s;
      alike = subst (λ b. Alike (Completed tokens to (state below l focus.Specifiers at lists) outers types)
          (λ y left. Completes y left b outers types (record { specs = []; free = false; seen = none.Nothing; owner = owner.Member tag [] [] }) focus.Specifiers (signs_between tokens end to)))
          (sym (ap reverse q ∙ reverse_push below l)) (body_alike (reverse below) outers l r opens);
    })

-- one more specifier is read
pub specifier_goes : (tokens : List Token) (to at lists : ℕ) (before behind : InForce) (below : List Level) (l : Level) (found : Found) (specs : List Specifier) → specs ≡ l.specs ++ found.specifier ∷ [] →
    before.tags ≡ behind.tags → before.outer ≡ behind.outer →
    ((types : List (List ℕ)) → AreSame types before.typedefs → (after : List (List ℕ)) ×
    SpecifierStands (is_outer l.owner) l.free types (typed l.seen) (signs_between tokens at to) found.specifier found.free after (typed found.seen) (signs_between tokens found.end to) × AreSame after behind.typedefs) →
    Goes (Completed tokens to (state below l focus.Specifiers at lists)) tokens to lists before behind
    (step.Next (state below (record { specs = specs; free = found.free; seen = found.seen; owner = l.owner }) focus.Specifiers found.end lists))
specifier_goes tokens to at lists before behind below l found specs q p o f =
    goes_next (Completed tokens to (state below l focus.Specifiers at lists)) tokens to lists before behind
    (state below (record { specs = specs; free = found.free; seen = found.seen; owner = l.owner }) focus.Specifiers found.end lists) refl (sym p) (sym o)
    (λ outers types s.
    let g = f types s in
    record {
      after = g.0;
      same = g.2;
      alike = subst (λ v. Alike (Completed tokens to (state below l focus.Specifiers at lists) outers types)
          (λ y left. Completes y left (reverse below) outers g.0 (record { specs = v; free = found.free; seen = found.seen; owner = l.owner }) focus.Specifiers (signs_between tokens found.end to)))
          (sym q) (specifier_alike (reverse below) outers l found.seen g.1);
    })

-- no specifier stands there
pub no_specifier_goes : (tokens : List Token) (to at lists : ℕ) (before behind : InForce) (below : List Level) (l : Level) → behind.tags ≡ before.tags → behind.outer ≡ before.outer → NoBody (typed l.seen) (signs_between tokens at to) →
    ((types : List (List ℕ)) → AreSame types before.typedefs → EndsSpecifiers types (typed l.seen) (signs_between tokens at to) → ⊥) →
    ((types : List (List ℕ)) → AreSame types before.typedefs → NoSpecifier (is_outer l.owner) l.free types (typed l.seen) (signs_between tokens at to)) →
    Goes (Completed tokens to (state below l focus.Specifiers at lists)) tokens to lists before behind step.Stuck
no_specifier_goes tokens to at lists before behind below l p o shut here wrong =
    goes_stuck (Completed tokens to (state below l focus.Specifiers at lists)) tokens to lists before behind p o
    (λ outers types s n y rest k. none_reads (reverse below) outers l rest y (here types s) (wrong types s) shut k)

-- what is wanted is known
pub focus_known_ok : (tokens : List Token) (to at lists : ℕ) (before behind : InForce) (below : List Level) (l : Level) (w wanted : Focus) (r : Result Step Memory) → w ≡ wanted →
    IfOk r (Goes (Completed tokens to (state below l wanted at lists)) tokens to lists before behind) → IfOk r (Goes (Completed tokens to (state below l w at lists)) tokens to lists before behind)
focus_known_ok tokens to at lists before behind below l w wanted r q g = subst (λ v. IfOk r (Goes (Completed tokens to (state below l v at lists)) tokens to lists before behind)) (sym q) g

pub gets_on_known : (tokens : List Token) (to at lists n : ℕ) (w wanted : Focus) (r : Result Step Memory) → w ≡ wanted → n ≡ rank wanted →
    IfOk r (GetsOn tokens to at lists (3 * (length tokens - at) + n)) → IfOk r (GetsOn tokens to at lists (3 * (length tokens - at) + rank w))
gets_on_known tokens to at lists n w wanted r q m g = subst (λ v. IfOk r (GetsOn tokens to at lists (3 * (length tokens - at) + v))) (m ∙ ap rank (sym q)) g
