-- Steps through a declarator.
use Rattle.std.proofs.Common.{◌≡◌, ◌+◌, ◌∷◌, ◌++◌, ◌∙◌, ℕ, List, [], refl, sym, ap, subst}
use Rattle.std.specs.Prelude.{reverse, false, true, Option, Some, None, Result, IfOk}
use Rattle.po_base.specs.declared.memory.Memory.{Memory}
use Rattle.po_base.specs.declared.token.Token.{Token}
use Rattle.po_tree.specs.declared.expression.Exp.{Exp}
use Rattle.po_tree.specs.declared.expression.Suffix.TheVariants as su
use Rattle.po_tree.specs.Declarations.{IsDeclared}
use Rattle.po_tree.specs.InForce.{InForce, OpensScope}
use Rattle.po_tree.specs.NameSets.{AreSame}
use Rattle.po_tree.specs.Signs.{Sign, word, opening, closing}
use Rattle.po_exp_parts.specs.declared.seen.Seen.TheVariants as none
use Rattle.po_exp_parts.specs.Finding.{suffix_of}
use Rattle.po_exp_parts.specs.Places.{signs_between, Begins, BeginsName}
use Rattle.po_exp_parts.specs.Seen.{typed}
use Rattle.po_exp_parts.specs.Stars.{StarsRead}
use Rattle.po_decl_parts.specs.Sizes.{SizesRead}
use Rattle.po_decl_steps.specs.declared.levels.Level.{Level}
use Rattle.po_decl_steps.specs.declared.levels.Owner.TheVariants as owner
use Rattle.po_decl_steps.specs.declared.levels.Focus.TheVariants as focus
use Rattle.po_decl_steps.specs.Completing.{is_parameter, Completes}
use Rattle.po_decl_steps.specs.Steps.{Alike, WordWanted, SuffixWanted}
use Rattle.po_decl_steps.proofs.AtDeclarators.{stars_alike, word_alike, word_wrong, missing_alike, missing_wrong, sizes_alike, sizes_wrong, opened_alike, empty_alike, list_alike}
use Rattle.po_init_read.proofs.Leading.{reverse_push}
use Rattle.po_decl_states.specs.declared.state.Step.{Step}
use Rattle.po_decl_states.specs.declared.state.Step.TheVariants as step
use Rattle.po_decl_states.specs.Going.{Goal, Completed, Goes}
use Rattle.po_decl_states.proofs.Stepping.{joined, goes_next, goes_stuck, goes_along_ok, goes_opened}
use Rattle.po_decl_states.proofs.AtSpecifiers.{state}

-- what completes a declarator behind its stars, and behind its word, where these signs follow
abbrev pub AtWord : List Level → Level → List (List (List ℕ)) → List Sign → Goal
AtWord below l stars ts outers types = WordWanted (reverse below) l stars outers types ts

abbrev pub AtSuffix : List Level → Level → List (List (List ℕ)) → Option (List ℕ) → List Sign → Goal
AtSuffix below l stars word ts outers types = SuffixWanted (reverse below) l stars word outers types ts

pub stars_goes : (tokens : List Token) (to at end lists : ℕ) (before behind : InForce) (below : List Level) (l : Level) (stars : List (List (List ℕ))) (r : Result Step Memory) →
    StarsRead (signs_between tokens at to) stars (signs_between tokens end to) → IfOk r (Goes (AtWord below l stars (signs_between tokens end to)) tokens to lists before behind) →
    IfOk r (Goes (Completed tokens to (state below l focus.Declarator at lists)) tokens to lists before behind)
stars_goes tokens to at end lists before behind below l stars r q g =
    goes_along_ok (Completed tokens to (state below l focus.Declarator at lists)) (AtWord below l stars (signs_between tokens end to)) tokens to lists before before behind r refl refl
    (λ outers types s. record { after = types; same = s; alike = stars_alike (reverse below) l outers q }) g

pub word_goes : (tokens : List Token) (to at lists : ℕ) (before behind : InForce) (below : List Level) (l : Level) (stars : List (List (List ℕ))) (text : List ℕ) (r : Result Step Memory) →
    signs_between tokens at to ≡ word text ∷ signs_between tokens (at + 1) to → ((types : List (List ℕ)) → AreSame types before.typedefs → IsDeclared types (typed l.seen) text) →
    IfOk r (Goes (AtSuffix below l stars (Some text) (signs_between tokens (at + 1) to)) tokens to lists before behind) →
    IfOk r (Goes (AtWord below l stars (signs_between tokens at to)) tokens to lists before behind)
word_goes tokens to at lists before behind below l stars text r q is g =
    goes_along_ok (AtWord below l stars (signs_between tokens at to)) (AtSuffix below l stars (Some text) (signs_between tokens (at + 1) to)) tokens to lists before before behind r refl refl
    (λ outers types s. record { after = types; same = s; alike = word_alike (reverse below) l outers q (is types s) }) g

pub wrong_word_goes : (tokens : List Token) (to at lists : ℕ) (names : InForce) (below : List Level) (l : Level) (stars : List (List (List ℕ))) (text : List ℕ) →
    signs_between tokens at to ≡ word text ∷ signs_between tokens (at + 1) to → ((types : List (List ℕ)) → AreSame types names.typedefs → IsDeclared types (typed l.seen) text → ⊥) →
    Goes (AtWord below l stars (signs_between tokens at to)) tokens to lists names names step.Stuck
wrong_word_goes tokens to at lists names below l stars text q wrong =
    goes_stuck (AtWord below l stars (signs_between tokens at to)) tokens to lists names names refl refl (λ outers types s n y rest k. word_wrong (reverse below) l outers rest y q (wrong types s) k)

pub no_word_goes : (tokens : List Token) (to at lists : ℕ) (before behind : InForce) (below : List Level) (l : Level) (stars : List (List (List ℕ))) (r : Result Step Memory) →
    ((text : List ℕ) → BeginsName text (signs_between tokens at to) → ⊥) → is_parameter l.owner ≡ true →
    IfOk r (Goes (AtSuffix below l stars None (signs_between tokens at to)) tokens to lists before behind) →
    IfOk r (Goes (AtWord below l stars (signs_between tokens at to)) tokens to lists before behind)
no_word_goes tokens to at lists before behind below l stars r none is g =
    goes_along_ok (AtWord below l stars (signs_between tokens at to)) (AtSuffix below l stars None (signs_between tokens at to)) tokens to lists before before behind r refl refl
    (λ outers types s. record { after = types; same = s; alike = missing_alike (reverse below) l outers none is }) g

pub word_missing_goes : (tokens : List Token) (to at lists : ℕ) (names : InForce) (below : List Level) (l : Level) (stars : List (List (List ℕ))) →
    ((text : List ℕ) → BeginsName text (signs_between tokens at to) → ⊥) → (is_parameter l.owner ≡ true → ⊥) →
    Goes (AtWord below l stars (signs_between tokens at to)) tokens to lists names names step.Stuck
word_missing_goes tokens to at lists names below l stars none other =
    goes_stuck (AtWord below l stars (signs_between tokens at to)) tokens to lists names names refl refl (λ outers types s n y rest k. missing_wrong (reverse below) l outers rest y none other k)

pub sizes_goes : (tokens : List Token) (to at end lists : ℕ) (names : InForce) (below : List Level) (l : Level) (stars : List (List (List ℕ))) (name : Option (List ℕ)) (sizes : List (Option Exp)) →
    (Begins opening (signs_between tokens at to) → ⊥) → ((types : List (List ℕ)) → AreSame types names.typedefs → SizesRead types (signs_between tokens at to) sizes (signs_between tokens end to)) →
    Goes (AtSuffix below l stars name (signs_between tokens at to)) tokens to lists names names
    (step.Next (state below l (focus.Behind (record { stars = stars; name = name; suffix = suffix_of sizes })) end lists))
sizes_goes tokens to at end lists names below l stars name sizes shut read =
    goes_next (AtSuffix below l stars name (signs_between tokens at to)) tokens to lists names names (state below l (focus.Behind (record { stars = stars; name = name; suffix = suffix_of sizes })) end lists) refl refl refl
    (λ outers types s. record { after = types; same = s; alike = sizes_alike (reverse below) l outers sizes shut (read types s) })

pub wrong_sizes_goes : (tokens : List Token) (to at lists : ℕ) (names : InForce) (below : List Level) (l : Level) (stars : List (List (List ℕ))) (name : Option (List ℕ)) →
    (Begins opening (signs_between tokens at to) → ⊥) →
    ((types : List (List ℕ)) → AreSame types names.typedefs → (sizes : List (Option Exp)) (left : List Sign) → SizesRead types (signs_between tokens at to) sizes left → ⊥) →
    Goes (AtSuffix below l stars name (signs_between tokens at to)) tokens to lists names names step.Stuck
wrong_sizes_goes tokens to at lists names below l stars name shut wrong =
    goes_stuck (AtSuffix below l stars name (signs_between tokens at to)) tokens to lists names names refl refl (λ outers types s n y rest k. sizes_wrong (reverse below) l outers rest y shut (wrong types s) k)

-- behind a parenthesis
pub opened_goes : (tokens : List Token) (to at lists : ℕ) (before behind : InForce) (below : List Level) (l : Level) (stars : List (List (List ℕ))) (name : Option (List ℕ)) (r : Result Step Memory) →
    signs_between tokens at to ≡ opening ∷ signs_between tokens (at + 1) to →
    IfOk r (Goes (AtSuffix below l stars name (opening ∷ signs_between tokens (at + 1) to)) tokens to lists before behind) →
    IfOk r (Goes (AtSuffix below l stars name (signs_between tokens at to)) tokens to lists before behind)
opened_goes tokens to at lists before behind below l stars name r q g =
    subst (λ ts. IfOk r (Goes (AtSuffix below l stars name ts) tokens to lists before behind)) (sym q) g

pub empty_goes : (tokens : List Token) (to at lists : ℕ) (names : InForce) (below : List Level) (l : Level) (stars : List (List (List ℕ))) (name : Option (List ℕ)) →
    signs_between tokens at to ≡ opening ∷ signs_between tokens (at + 1) to → signs_between tokens (at + 1) to ≡ closing ∷ signs_between tokens (at + 1 + 1) to →
    Goes (AtSuffix below l stars name (signs_between tokens at to)) tokens to lists names names
    (step.Next (state below l (focus.Behind (record { stars = stars; name = name; suffix = su.Params [] false })) (at + 1 + 1) lists))
empty_goes tokens to at lists names below l stars name q c =
    goes_next (AtSuffix below l stars name (signs_between tokens at to)) tokens to lists names names (state below l (focus.Behind (record { stars = stars; name = name; suffix = su.Params [] false })) (at + 1 + 1) lists) refl refl refl
    (λ outers types s. record { after = types; same = s; alike = joined (opened_alike (reverse below) l outers q) (empty_alike (reverse below) l outers c) })

-- a list of parameters opens
pub list_goes : (tokens : List Token) (to at lists : ℕ) (before behind : InForce) (below above : List Level) (l : Level) (stars : List (List (List ℕ))) (name : Option (List ℕ)) →
    above ≡ below ++ l ∷ [] → OpensScope before behind → (Begins closing (signs_between tokens at to) → ⊥) →
    Goes (AtSuffix below l stars name (opening ∷ signs_between tokens at to)) tokens to lists before behind
    (step.Next (state above (record { specs = []; free = true; seen = none.Nothing; owner = owner.Param stars name [] }) focus.Specifiers at (lists + 1)))
list_goes tokens to at lists before behind below above l stars name q opens shut =
    goes_opened (AtSuffix below l stars name (opening ∷ signs_between tokens at to)) tokens to lists before behind
    (state above (record { specs = []; free = true; seen = none.Nothing; owner = owner.Param stars name [] }) focus.Specifiers at (lists + 1)) refl opens
    (λ outers types. subst (λ b. Alike (AtSuffix below l stars name (opening ∷ signs_between tokens at to) outers types)
    (λ y left. Completes y left b (types ∷ outers) types (record { specs = []; free = true; seen = none.Nothing; owner = owner.Param stars name [] }) focus.Specifiers (signs_between tokens at to)))
    (sym (ap reverse q ∙ reverse_push below l)) (list_alike (reverse below) l outers shut))
